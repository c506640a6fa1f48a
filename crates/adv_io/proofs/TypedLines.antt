-- What is typed again stays: a line's bytes are small.
use Rattle.std.proofs.Common.{◌≡◌, ◌∙◌, ℕ, ◌≤◌, min, List, [], ◌∷◌, map, take, length, true, refl, arith}
use Rattle.std.proofs.lemmas.List.{take_all, take_min, length-map, length-take}
use Rattle.std.proofs.lemmas.Bool.Decides.{nat_tests}
use Rattle.std.specs.Cmp.{first_so, second_so}
use Rattle.std.specs.List.{list_all}
use Rattle.adv_io.specs.TypedLine.{line_byte, is_line_byte, IsTyped}

pub is_line_byte-line_byte : (b : ℕ) → is_line_byte (line_byte b) ≡ true
is_line_byte-line_byte b = grind (arith, nat_tests)

pub list_all-line_bytes : (bs : List ℕ) → list_all is_line_byte (map line_byte bs) ≡ true
list_all-line_bytes [] = refl
list_all-line_bytes (b ∷ bs) = rw (is_line_byte-line_byte b) (list_all-line_bytes bs)

-- the prefix that the loop has walked to its end
pub take-walk_result : (raw : List ℕ) (n i : ℕ) → n ≡ min 120 (length raw) → length (take n raw) ≤ i → take i (take n raw) ≡ take 120 raw
take-walk_result raw n i e h = take_all i (take n raw) h ∙ rw e (take_min 120 raw)

pub IsTyped-walk_result : (kept raw : List ℕ) → kept ≡ map line_byte (take 120 raw) → IsTyped kept
IsTyped-walk_result kept raw e = record {
  short = rw e (simp (length-map, length-take) (omega arith));
  lower = rw e (list_all-line_bytes (take 120 raw));
}

-- a byte of a line stands for itself
line_byte-again : (b : ℕ) → is_line_byte b ≡ true → line_byte b ≡ b
line_byte-again b h = grind (arith, nat_tests)

map-line_byte-again : (bs : List ℕ) → list_all is_line_byte bs ≡ true → map line_byte bs ≡ bs
map-line_byte-again [] h = refl
map-line_byte-again (b ∷ bs) h = λ i. line_byte-again b (first_so _ _ h) i ∷ map-line_byte-again bs (second_so (is_line_byte b) _ h) i

-- and a line for itself
pub line-again : (line : List ℕ) → IsTyped line → map line_byte (take 120 line) ≡ line
line-again line typed = rw (take_all 120 line typed.short) (map-line_byte-again line typed.lower)
