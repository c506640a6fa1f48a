-- What was written, one text after the other.
use Rattle.std.proofs.Common.{◌≡◌, ◌∙◌, ℕ, Bool, List, [], ◌∷◌, ◌++◌, map, pos, refl, sym, ap, append_assoc}
use Rattle.std.specs.List.{flat_map}
use Rattle.std.proofs.lemmas.List.{append-nil}
use Rattle.std.specs.Fmt.{decimal}
use Rattle.adv_io.specs.Text.{newline, space}
use Rattle.adv_text.specs.Writing.{number_text}
use Rattle.adv_position.specs.Numbers.{bit}
use Rattle.adv_position.specs.Text.{spaced}

pub six-written : (base o1 o2 o3 o4 o5 o6 a b c d e end : List ℕ) → o1 ≡ base ++ a → o2 ≡ o1 ++ b
    → o3 ≡ o2 ++ c → o4 ≡ o3 ++ d → o5 ≡ o4 ++ e → o6 ≡ o5 ++ end
    → o6 ≡ base ++ (a ++ (b ++ (c ++ (d ++ (e ++ end)))))
six-written base o1 o2 o3 o4 o5 o6 a b c d e end e1 e2 e3 e4 e5 e6 = rw (e6, e5, e4, e3, e2, e1)
    (simp append_assoc)

-- a flag is written as its bit
pub bit-written : (flag : Bool) (n : ℕ) → pos n ≡ bit flag → decimal n ≡ number_text (bit flag)
bit-written flag n is = ap number_text is

-- numbers that stand for themselves are written so
pub amounts-written : (ns : List ℕ) → flat_map (λ n. space ∷ decimal n) ns ≡ spaced (map pos ns)
amounts-written [] = refl
amounts-written (n ∷ ns) = ap (λ t. (space ∷ decimal n) ++ t) (amounts-written ns)

-- a line of one number
pub one-number : (label text : List ℕ) → label ++ (((space ∷ text) ++ []) ++ newline ∷ [])
    ≡ (label ++ space ∷ text) ++ newline ∷ []
one-number label text =
    ap (λ t. label ++ ((space ∷ t) ++ newline ∷ [])) (append-nil text)
    ∙ sym (append_assoc label (space ∷ text) (newline ∷ []))

-- eight texts, of which the first stands alone
pub eight-written : (o o1 o2 o3 o4 o5 o6 o7 o8 a b c d e f g h : List ℕ) → o ≡ [] → o1 ≡ o ++ a → o2
    ≡ o1 ++ b → o3 ≡ o2 ++ c → o4 ≡ o3 ++ d → o5 ≡ o4 ++ e → o6 ≡ o5 ++ f → o7 ≡ o6 ++ g → o8 ≡ o7
    ++ h
    → o8 ≡ a ++ (b ++ (c ++ (d ++ (e ++ (f ++ (g ++ (h ++ [])))))))
eight-written o o1 o2 o3 o4 o5 o6 o7 o8 a b c d e f g h e0 e1 e2 e3 e4 e5 e6 e7 e8 = rw
    (e8, e7, e6, e5, e4, e3, e2, e1, e0) (simp (append_assoc, append-nil))
