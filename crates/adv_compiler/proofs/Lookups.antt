-- Looking up names, entry by entry.
use Rattle.std.specs.Prelude.{is_some}
use Rattle.std.proofs.Common.{◌≡◌, ℕ, ◌+◌, Bor, Bool, true, false, cond, ℤ, pos, List, [], ◌∷◌, ◌++◌, Option, Some, None, refl, sym, ap, ◌∙◌}
use Rattle.std.specs.Map.{lookup}
use Rattle.std.specs.Option.{option_or, option_copied}
use Rattle.std.specs.Str.{bytes_eq}
use Rattle.std.proofs.lemmas.Slice.Eq.{bytes_eq-Decides}
use Rattle.adv_compiler.specs.declared.names.Names.{Names}
use Rattle.adv_compiler.specs.Known.{Known, has_name, named_from}
use Rattle.adv_compiler.specs.Index.{found_in}

-- a pair more at the end is found where none before it is
pub lookup-push : {K V : Type 0} (p : K → Bool) (xs : List (K × V)) (key : K) (v : V)
    → lookup p (xs ++ (key, v) ∷ []) ≡ option_or (lookup p xs) (cond (p key) (Some v) None)
lookup-push p [] key v = elim (p key) as (λ b. cond b (Some v) None ≡ option_or None (cond b (Some v) None)) [ true ↦ refl | false ↦ refl ]
lookup-push p (x ∷ xs) key v =
    elim (p x.0) as (λ b. cond b (Some x.1) (lookup p (xs ++ (key, v) ∷ [])) ≡ option_or (cond b (Some x.1) (lookup p xs)) (cond (p key) (Some v) None))
    [ true ↦ refl | false ↦ lookup-push p xs key v ]

-- a name that has a number keeps it
keeps_by : (o : Option ℤ) (v n : ℤ) (same : Bool) → (same ≡ true → o ≡ Some v) → o ≡ option_or o (cond same (Some n) None)
keeps_by (Some z) v n same h = refl
keeps_by None v n true h = let e = h refl in absurd (cc)
keeps_by None v n false h = refl

pub keeps : (names : Names) (name word : List ℕ) (v n : ℤ) → found_in names name ≡ Some v
    → found_in names word ≡ option_or (found_in names word) (cond (bytes_eq word name) (Some n) None)
keeps names name word v n e =
    keeps_by (found_in names word) v n (bytes_eq word name)
    (λ same. ap (found_in names) ((bytes_eq-Decides word name).0 same) ∙ e)

-- ---- from entry to entry

found_or : (found plain rest : Option ℤ) → option_or (option_or found plain) rest ≡ option_or found (option_or plain rest)
found_or (Some n) plain rest = refl
found_or None plain rest = refl

or_none : (found : Option ℤ) → found ≡ option_or found None
or_none None = refl
or_none (Some n) = refl

or_cond : (b : Bool) (n : ℤ) (rest : Option ℤ) → option_or (cond b (Some n) None) rest ≡ cond b (Some n) rest
or_cond true n rest = refl
or_cond false n rest = refl

-- with the name of one entry more, an index and the names after it still find the same
pub further : (old new : Names) (name : Option (List ℕ)) (rest : List (Option (List ℕ))) (k : ℕ) (total : List ℕ → Option ℤ)
    → ((word : List ℕ) → found_in new word ≡ option_or (found_in old word) (cond (has_name word name) (Some (pos k)) None))
    → ((word : List ℕ) → option_or (found_in old word) (named_from (name ∷ rest) k word) ≡ total word)
    → (word : List ℕ) → option_or (found_in new word) (named_from rest (k + 1) word) ≡ total word
further old new name rest k total added so_far word =
    ap (λ o. option_or o (named_from rest (k + 1) word)) (added word)
    ∙ found_or (found_in old word) (cond (has_name word name) (Some (pos k)) None) (named_from rest (k + 1) word)
    ∙ ap (option_or (found_in old word)) (or_cond (has_name word name) (pos k) (named_from rest (k + 1) word))
    ∙ so_far word

-- after the last entry an index finds all
pub finds_all : (names : Names) (k : ℕ) (rest : List (Option (List ℕ))) (total : List ℕ → Option ℤ) → rest ≡ []
    → ((word : List ℕ) → option_or (found_in names word) (named_from rest k word) ≡ total word)
    → (word : List ℕ) → found_in names word ≡ total word
finds_all names k rest total e so_far word =
    or_none (found_in names word) ∙ ap (λ (r : List (Option (List ℕ))). option_or (found_in names word) (named_from r k word)) (sym e) ∙ so_far word

-- an empty index finds nothing
pub begins : (found : Option ℤ) (total : Option ℤ) → found ≡ None → option_or found total ≡ total
begins found total e = ap (λ o. option_or o total) e

-- a name that was found keeps its number, and one that wasn't is found from now on
keeps_by_number : (names : Names) (name word : List ℕ) (n : ℤ) (o : Option ℤ) → found_in names name ≡ o → is_some o ≡ true
    → found_in names word ≡ option_or (found_in names word) (cond (bytes_eq word name) (Some n) None)
keeps_by_number names name word n (Some v) e is = keeps names name word v n e
keeps_by_number names name word n None e is = absurd (cc)

pub keeps_known : (names : Names) (name word : List ℕ) (n : ℤ) → is_some (found_in names name) ≡ true
    → found_in names word ≡ option_or (found_in names word) (cond (bytes_eq word name) (Some n) None)
keeps_known names name word n is = keeps_by_number names name word n (found_in names name) refl is

pub some_copied : (o : Option (Bor ℤ)) → is_some (option_copied o) ≡ is_some o
some_copied (Some x) = refl
some_copied None = refl

pub not_some : (o : Option ℤ) → is_some o ≡ false → o ≡ None
not_some (Some x) e = absurd (cc)
not_some None e = refl

-- what is found once a name has a number
abbrev pub added : Names → List ℕ → List ℕ → ℤ → Option ℤ
added names word name n = option_or (found_in names word) (cond (bytes_eq word name) (Some n) None)

-- what is known is the same where each name is found as the same
pub same_known : (a b : Known) → ((w : List ℕ) → a.rooms w ≡ b.rooms w) → ((w : List ℕ) → a.messages w ≡ b.messages w)
    → ((w : List ℕ) → a.items w ≡ b.items w) → ((w : List ℕ) → a.verbs w ≡ b.verbs w) → ((w : List ℕ) → a.nouns w ≡ b.nouns w) → a ≡ b
same_known a b rooms messages items verbs nouns = λ i. record {
  rooms = λ w. rooms w i;
  messages = λ w. messages w i;
  items = λ w. items w i;
  verbs = λ w. verbs w i;
  nouns = λ w. nouns w i;
}
