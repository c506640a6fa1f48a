-- What the words of a request give it.
use Rattle.std.proofs.Common.{◌≡◌, ◌∙◌, ℕ, List, [], ◌∷◌, length, get_or, map, Bool, true, false, refl, sym, ap, arith, String, string_bytes}
use Rattle.std.specs.Prelude.{bytes_eq}
use Rattle.std.proofs.lemmas.Slice.Eq.{bytes_eq-Decides}
use Rattle.scott_requests.specs.Request.{request_in, asked_by}

-- a list of one element
pub one_element : {A : Type 0} (xs : List A) (x : A) → length xs ≡ 1 → x ≡ get_or xs 0 x
    → xs ≡ x ∷ []
one_element [] x one is = absurd (omega arith)
one_element (y ∷ []) x one is = ap (λ z. z ∷ []) (sym is)
one_element (y ∷ z ∷ zs) x one is = absurd (omega arith)

-- words whose first one is this command are asked for as its form
pub asked_as : {Z : Type 0} (words : List (String Z)) (command : String Z) (rest : List
    (String Z)) (text : List ℕ) {name : List ℕ}
    → words ≡ command ∷ rest → text ≡ string_bytes command → text ≡ name
    → request_in (name ∷ map string_bytes rest) ≡ asked_by words
asked_as words command rest text split bytes is =
    ap (λ w. request_in (w ∷ map string_bytes rest)) (sym is ∙ bytes) ∙ ap asked_by (sym split)

-- a word that isn't this command
pub no_command : (word name : List ℕ) → (word ≡ name → ⊥) → bytes_eq word name ≡ false
no_command word name differs = by (bytes_eq word name) refl
  where
    by : (b : Bool) → bytes_eq word name ≡ b → b ≡ false
    by true e = absurd (differs ((bytes_eq-Decides word name).0 e))
    by false e = refl
