-- The bytes of tokens, one list after another.
use Rattle.std.proofs.Common.{◌≡◌, ℕ, zero, suc, ◌+◌, ◌<◌, List, [], ◌∷◌, ◌++◌, take, drop, length, get_or, sym, ap, ◌∙◌, append_assoc, arith}
use Rattle.std.proofs.lemmas.List.{append-nil, drop_more}
use Rattle.std.proofs.lemmas.List.Concat.{flat_map-append}
use Rattle.source_reader.specs.declared.tokens.Token.{Token}
use Rattle.scott_types.specs.Opcode.{opcode_of, uses}
use Rattle.adv_decompiler.specs.Layout.{Chunk, joined, spaced, chunk, mark, chunk_text, text_of, more_listed}
use Rattle.adv_decompiler.specs.Plain.{lines_from, lines_of}
use Rattle.adv_decompiler.specs.Written.{piece_of, pieces}

pub text-append : (xs ys : List Chunk) → text_of (xs ++ ys) ≡ text_of xs ++ text_of ys
text-append xs ys = flat_map-append chunk_text xs ys

pub ruleset layout = (append_assoc, text-append)

-- what was written, and then more
pub then_text : (old mid new : List ℕ) (xs ys : List Chunk) → mid ≡ old ++ text_of xs → new ≡ mid ++ text_of ys → new ≡ old ++ text_of (xs ++ ys)
then_text old mid new xs ys e h =
    h ∙ ap (λ (bytes : List ℕ). bytes ++ text_of ys) e ∙ append_assoc old (text_of xs) (text_of ys) ∙ ap (λ (bytes : List ℕ). old ++ bytes) (sym (text-append xs ys))

-- ---- one entry more

pub more_listed-push : (ts : List Token) (t : Token) → more_listed (ts ++ t ∷ []) ≡ more_listed ts ++ (mark joined 44 ∷ chunk spaced t ∷ [])
more_listed-push ts t = flat_map-append (λ (u : Token). mark joined 44 ∷ chunk spaced u ∷ []) ts (t ∷ [])

module _ {X : Type 0} (line : ℕ → X → List Chunk) where
  lines_from-more : (xs : List X) (k i : ℕ) (d : X) → i < length xs
      → lines_from line k (take (i + 1) xs) ≡ lines_from line k (take i xs) ++ line (k + i) (get_or xs i d)
  lines_from-more [] k i d h = absurd (omega arith)
  lines_from-more (x ∷ xs) k zero d h = append-nil (line k x) ∙ ap (λ (j : ℕ). line j x) (omega arith)
  lines_from-more (x ∷ xs) k (suc i) d h =
      let next : suc i + 1 ≡ suc (i + 1) = omega arith in
      ap (λ (n : ℕ). lines_from line k (take n (x ∷ xs))) next
      ∙ ap (λ (chunks : List Chunk). line k x ++ chunks) (lines_from-more xs (k + 1) i d (omega arith))
      ∙ sym (append_assoc (line k x) (lines_from line (k + 1) (take i xs)) (line (k + 1 + i) (get_or xs i d)))
      ∙ ap (λ (j : ℕ). (line k x ++ lines_from line (k + 1) (take i xs)) ++ line j (get_or xs i d)) (omega arith)

  pub lines_of-more : (xs : List X) (i : ℕ) (d : X) → i < length xs → lines_of line (take (i + 1) xs) ≡ lines_of line (take i xs) ++ line i (get_or xs i d)
  lines_of-more xs i d h = lines_from-more xs 0 i d h ∙ ap (λ (j : ℕ). lines_of line (take i xs) ++ line j (get_or xs i d)) (omega arith)

-- a line more was written
pub step_lines : {X : Type 0} (line : ℕ → X → List Chunk) (xs : List X) (i n : ℕ) (d x : X) (old mid new : List ℕ) → i < length xs → n ≡ i → x ≡ get_or xs i d
    → mid ≡ old ++ text_of (lines_of line (take i xs)) → new ≡ mid ++ text_of (line n x) → new ≡ old ++ text_of (lines_of line (take (i + 1) xs))
step_lines {X = X} line xs i n d x old mid new there e is so_far h =
    let same : line n x ≡ line i (get_or xs i d) = ap (λ (k : ℕ). line k x) e ∙ ap (λ (y : X). line i y) is in
    then_text old mid new (lines_of line (take i xs)) (line n x) so_far h
    ∙ ap (λ (chunks : List Chunk). old ++ text_of (lines_of line (take i xs) ++ chunks)) same
    ∙ ap (λ (chunks : List Chunk). old ++ text_of chunks) (sym (lines_of-more line xs i d there))

-- the opcodes from a place on: the first of them, with the parameters that it takes, and then the
-- others
pub pieces-step : (left numbers : List ℕ) (i d : ℕ) → i < length numbers
    → pieces left (drop i numbers)
    ≡ piece_of (get_or numbers i d) (take (uses (opcode_of (get_or numbers i d))) left) (opcode_of (get_or numbers i d))
    ∷ pieces (drop (uses (opcode_of (get_or numbers i d))) left) (drop (i + 1) numbers)
pieces-step left numbers i d h = ap (pieces left) (drop_more numbers i d h)

pub ruleset steps = (more_listed-push, lines_of-more, pieces-step)
