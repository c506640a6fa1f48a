-- The text of a line, piece by piece as it is written.
use Rattle.std.proofs.Common.{◌≡◌, ℕ, List, [], ◌∷◌, ◌++◌, length, map, take, get_or, ◌+◌, ◌<◌, ◌≤◌, ℤ, pos, refl, sym, ap, ◌∙◌, append_assoc, arith}
use Rattle.std.specs.List.{flat_map}
use Rattle.std.proofs.lemmas.List.{map-append, flat_map_more, take_more}
use Rattle.std.proofs.Math.Seq.{take-length}
use Rattle.std.proofs.lemmas.List.Concat.{flat_map-cons}
use Rattle.adv_text.specs.Writing.{number_text, quoted_text}
use Rattle.scott_format.specs.Canon.{Token, num, str, token_text, line_text, number_and_space}

line_more : (t : Token) (ts : List Token) (u : Token) (us : List Token) → line_text (t ∷ (ts ++ u ∷ us)) ≡ token_text t ++ 32 ∷ line_text (ts ++ u ∷ us)
line_more t [] u us = refl
line_more t (x ∷ ts) u us = refl

-- the text of one more entry, written after those before it
pub one_more : {X : Type 0} (text : X → List ℕ) (out before after : List ℕ) (xs : List X) (i : ℕ) (x other : X) → i < length xs → x ≡ get_or xs i other
    → before ≡ out ++ flat_map text (take i xs) → after ≡ before ++ text x → after ≡ out ++ flat_map text (take (i + 1) xs)
one_more {X = X} text out before after xs i x other there is so_far more =
    more ∙ ap (λ (t : List ℕ). t ++ text x) so_far ∙ flat_map_more text out (take i xs) x
    ∙ ap (λ (y : X). out ++ flat_map text (take i xs ++ y ∷ [])) is
    ∙ ap (λ (ys : List X). out ++ flat_map text ys) (sym (take_more xs i other there))

-- the text of all entries, once none is left
pub all_written : {X : Type 0} (text : X → List ℕ) (out now : List ℕ) (xs : List X) (i : ℕ) → i ≤ length xs → length xs ≤ i
    → now ≡ out ++ flat_map text (take i xs) → now ≡ out ++ flat_map text xs
all_written {X = X} text out now xs i some none so_far =
    let end : i ≡ length xs = omega arith in
    so_far ∙ ap (λ (ys : List X). out ++ flat_map text ys) (ap (λ (n : ℕ). take n xs) end ∙ take-length xs)

-- numbers at the start of a line have a space after each
pub numbers_first : {X : Type 0} (value : X → ℤ) (xs : List X) (u : Token) (us : List Token)
    → line_text (map (λ x. num (value x)) xs ++ u ∷ us) ≡ flat_map (λ x. number_and_space (value x)) xs ++ line_text (u ∷ us)
numbers_first value [] u us = refl
numbers_first value (x ∷ xs) u us =
    line_more (num (value x)) (map (λ x. num (value x)) xs) u us
    ∙ ap (λ (t : List ℕ). number_text (value x) ++ 32 ∷ t) (numbers_first value xs u us)
    ∙ sym (append_assoc (number_text (value x)) (32 ∷ []) (flat_map (λ x. number_and_space (value x)) xs ++ line_text (u ∷ us)))
    ∙ sym (append_assoc (number_and_space (value x)) (flat_map (λ x. number_and_space (value x)) xs) (line_text (u ∷ us)))
    ∙ ap (λ (t : List ℕ). t ++ line_text (u ∷ us)) (sym (flat_map-cons (λ x. number_and_space (value x)) x xs))

-- two texts of a line, as they were written
pub two_written : (out a b x y : List ℕ) → a ≡ out ++ (x ++ 32 ∷ []) → b ≡ a ++ y → b ≡ out ++ (x ++ 32 ∷ y)
two_written out a b x y e f = f ∙ rw e (simp append_assoc)

-- exits and a text, as they were written
pub room_written : (out a b : List ℕ) (exits : List ℤ) (text : List ℕ) → a ≡ out ++ flat_map number_and_space exits → b ≡ a ++ (quoted_text text ++ 10 ∷ [])
    → b ≡ out ++ line_text (map num exits ++ str text ∷ [])
room_written out a b exits text e f =
    f ∙ ap (λ (t : List ℕ). t ++ (quoted_text text ++ 10 ∷ [])) e ∙ append_assoc out (flat_map number_and_space exits) (quoted_text text ++ 10 ∷ [])
    ∙ ap (λ (t : List ℕ). out ++ t) (sym (numbers_first (λ z. z) exits (str text) []))

-- numbers on a line, as they were written
pub numbers_written : (out a b : List ℕ) (zs : List ℤ) (z : ℤ) → a ≡ out ++ flat_map number_and_space zs → b ≡ a ++ (number_text z ++ 10 ∷ [])
    → b ≡ out ++ line_text (map num zs ++ num z ∷ [])
numbers_written out a b zs z e f =
    f ∙ ap (λ (t : List ℕ). t ++ (number_text z ++ 10 ∷ [])) e ∙ append_assoc out (flat_map number_and_space zs) (number_text z ++ 10 ∷ [])
    ∙ ap (λ (t : List ℕ). out ++ t) (sym (numbers_first (λ z. z) zs (num z) []))

-- the line of an action's numbers
numbers_text : (v p q : ℕ) (conds : List ℕ) → line_text (map (λ n. num (pos n)) (v ∷ (conds ++ p ∷ q ∷ [])))
    ≡ number_and_space (pos v) ++ (flat_map (λ n. number_and_space (pos n)) conds ++ (number_and_space (pos p) ++ (number_text (pos q) ++ 10 ∷ [])))
numbers_text v p q conds =
    let f : ℕ → Token = λ n. num (pos n) in
    let g : ℕ → List ℕ = λ n. number_and_space (pos n) in
    let pair = num (pos p) ∷ num (pos q) ∷ [] in
    ap (λ (ts : List Token). line_text (f v ∷ ts)) (map-append f conds (p ∷ q ∷ []))
    ∙ numbers_first pos (v ∷ conds) (num (pos p)) (num (pos q) ∷ [])
    ∙ ap (λ (t : List ℕ). t ++ line_text pair) (flat_map-cons g v conds)
    ∙ append_assoc (g v) (flat_map g conds) (line_text pair)
    ∙ ap (λ (t : List ℕ). g v ++ (flat_map g conds ++ t)) (sym (append_assoc (number_text (pos p)) (32 ∷ []) (number_text (pos q) ++ 10 ∷ [])))

-- four pieces, written one after another
four_written : (out a b c d x y z w : List ℕ) → a ≡ out ++ x → b ≡ a ++ y → c ≡ b ++ z → d ≡ c ++ w → d ≡ out ++ (x ++ (y ++ (z ++ w)))
four_written out a b c d x y z w ea eb ec ed =
    ed ∙ ap (λ (t : List ℕ). t ++ w) (ec ∙ ap (λ (t : List ℕ). t ++ z) (eb ∙ ap (λ (t : List ℕ). t ++ y) ea)) ∙ simp append_assoc

-- eight texts, written one after another
pub eight_written : (out o₁ o₂ o₃ o₄ o₅ o₆ o₇ o₈ a b c d e f g h : List ℕ)
    → o₁ ≡ out ++ a → o₂ ≡ o₁ ++ b → o₃ ≡ o₂ ++ c → o₄ ≡ o₃ ++ d → o₅ ≡ o₄ ++ e → o₆ ≡ o₅ ++ f → o₇ ≡ o₆ ++ g → o₈ ≡ o₇ ++ h
    → o₈ ≡ out ++ (a ++ (b ++ (c ++ (d ++ (e ++ (f ++ (g ++ h)))))))
eight_written out o₁ o₂ o₃ o₄ o₅ o₆ o₇ o₈ a b c d e f g h h₁ h₂ h₃ h₄ h₅ h₆ h₇ h₈ =
    h₈ ∙ rw (h₇, h₆, h₅, h₄, h₃, h₂, h₁) (simp append_assoc)

-- a vocabulary number, conditions and two pairs, as they were written
pub action_written : (out a b c d : List ℕ) (v : ℕ) (conds pairs : List ℕ) → length pairs ≡ 2
    → a ≡ out ++ number_and_space (pos v) → b ≡ a ++ flat_map (λ n. number_and_space (pos n)) conds
    → c ≡ b ++ number_and_space (pos (get_or pairs 0 0)) → d ≡ c ++ (number_text (pos (get_or pairs 1 0)) ++ 10 ∷ [])
    → d ≡ out ++ line_text (map (λ n. num (pos n)) (v ∷ (conds ++ pairs)))
action_written out a b c d v conds [] e ea eb ec ed = absurd (omega arith)
action_written out a b c d v conds (p ∷ []) e ea eb ec ed = absurd (omega arith)
action_written out a b c d v conds (p ∷ q ∷ []) e ea eb ec ed =
    four_written out a b c d (number_and_space (pos v)) (flat_map (λ n. number_and_space (pos n)) conds) (number_and_space (pos p)) (number_text (pos q) ++ 10 ∷ []) ea eb ec ed
    ∙ ap (λ (t : List ℕ). out ++ t) (sym (numbers_text v p q conds))
action_written out a b c d v conds (p ∷ q ∷ r ∷ pairs) e ea eb ec ed = absurd (omega arith)
