-- A word that is put into an index.
use Rattle.std.proofs.Common.{◌≡◌, ◌∙◌, ℕ, List, [], ◌∷◌, length, Bool, true, false, cond, Option, None, Some, unwrap_or, nat_eq, refl, ap}
use Rattle.std.specs.Bool.{◌==◌}
use Rattle.std.proofs.lemmas.Cmp.{nat_list_eq_equiv}
use Rattle.std.specs.Cmp.Lexicographic.{pointwise}
use Rattle.std.specs.HashMap.Eq.{lookup_congr}
use Rattle.std.specs.Map.{lookup}
use Rattle.std.specs.Option.{option_or}
use Rattle.arrayvec.specs.ArrayVec.{ArrayVec}
use Rattle.scott_rules.specs.Words.{is_empty, is_typed}
use Rattle.scott_vocab.specs.Keys.{letters}

-- keys are the same where their letters are
abbrev pub same_letters : ArrayVec ℕ → ArrayVec ℕ → Bool
same_letters a b = pointwise nat_eq a.items b.items

abbrev pub key_of : ℕ → List ℕ → ArrayVec ℕ
key_of size word = record { items = letters size word }

-- a word that has a length isn't empty
pub filled : (word : List ℕ) → false ≡ (length word == 0) → is_empty word ≡ false
filled [] some = cc
filled (byte ∷ word) some = refl

-- a number that is put at a key where it has none
put_at : (same : Bool) (old at_key : Option ℕ) (number : ℕ) → (same ≡ true → at_key ≡ old)
    → cond same (Some (unwrap_or at_key number)) old
    ≡ option_or old (cond same (Some number) None)
put_at true old None number agree = ap (λ o. option_or o (Some number)) (agree refl)
put_at true old (Some n) number agree = ap (λ o. option_or o (Some number)) (agree refl)
put_at false None at_key number agree = refl
put_at false (Some n) at_key number agree = refl

-- a word that is put into an index is found by each word that matches it, where that one wasn't
-- found yet
pub put_found : (size : ℕ) (word typed : List ℕ) (old new : List (ArrayVec ℕ × ℕ))
    (key : ArrayVec ℕ) (number v : ℕ)
    → key.items ≡ letters size word → is_empty word ≡ false
    → v ≡ unwrap_or (lookup (same_letters key) old) number
    → lookup (same_letters (key_of size typed)) new
    ≡ cond (same_letters key (key_of size typed)) (Some v)
    (lookup (same_letters (key_of size typed)) old)
    → lookup (same_letters (key_of size typed)) new
    ≡ option_or (lookup (same_letters (key_of size typed)) old)
    (cond (is_typed size word typed) (Some number) None)
put_found size word typed old new key number v by_letters filled by_value updated =
    let same = same_letters key (key_of size typed) in
    let before = lookup (same_letters (key_of size typed)) old in
    let test : same ≡ is_typed size word typed =
    rw (filled) (ap (λ l. pointwise nat_eq l (letters size typed)) by_letters) in
    updated ∙ ap (λ n. cond same (Some n) before) by_value
    ∙ put_at same before (lookup (same_letters key) old) number
    (λ same. lookup_congr same_letters (λ x y z. nat_list_eq_equiv.congr x.items y.items z.items)
    old key (key_of size typed) same)
    ∙ ap (λ b. option_or before (cond b (Some number) None)) test
