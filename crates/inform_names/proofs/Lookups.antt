-- What a table of names has, by the entries of its map.
use Rattle.std.proofs.Common.{◌≡◌, ◌∙◌, ℕ, Bor, List, [], ◌∷◌, ◌++◌, map, refl, ap, Option, None, Some, Bool, true, false, cond}
use Rattle.std.specs.Option.{option_or}
use Rattle.std.specs.Map.{lookup}
use Rattle.std.specs.Str.{bytes_eq}
use Rattle.std.proofs.lemmas.Slice.Eq.{bytes_eq-Decides}
use Rattle.inform_names.specs.declared.meanings.Meaning.{Meaning}
use Rattle.inform_names.specs.Tables.{found_in}

abbrev seen : List (Bor (List ℕ) × Meaning) → List (List ℕ × Meaning)
seen entries = map (λ e. (e.0.now, e.1)) entries

pub found_by_view : (entries : List (Bor (List ℕ) × Meaning)) (name : List ℕ)
    → lookup (λ k. bytes_eq name k.now) entries ≡ found_in (map (λ e. (e.0.now, e.1)) entries) name
found_by_view [] name = refl
found_by_view (e ∷ entries) name = ap (λ (rest : Option Meaning). cond (bytes_eq name e.0.now)
    (Some e.1) rest) (found_by_view entries name)

-- an entry more at the end is found where none before it is
pub found_push : (entries : List (Bor (List ℕ) × Meaning)) (key : Bor (List ℕ)) (m : Meaning)
    (name : List ℕ)
    → found_in (map (λ e. (e.0.now, e.1)) (entries ++ (key, m) ∷ [])) name
    ≡ option_or (found_in (map (λ e. (e.0.now, e.1)) entries) name)
    (cond (bytes_eq name key.now) (Some m) None)
found_push [] key m name = elim (bytes_eq name key.now) as
    (λ b. cond b (Some m) None ≡ option_or None (cond b (Some m) None))
    [ true ↦ refl | false ↦ refl ]
found_push (e ∷ entries) key m name =
    elim (bytes_eq name e.0.now) as (λ b. cond b (Some e.1)
    (found_in (seen (entries ++ (key, m) ∷ [])) name)
    ≡ option_or (cond b (Some e.1) (found_in (seen entries) name))
    (cond (bytes_eq name key.now) (Some m) None))
    [ true ↦ refl | false ↦ found_push entries key m name ]

-- a name that has a meaning keeps it
keeps_by : (o : Option Meaning) (v m : Meaning) (same : Bool) → (same ≡ true → o ≡ Some v)
    → o ≡ option_or o (cond same (Some m) None)
keeps_by (Some z) v m same h = refl
keeps_by None v m true h = let e = h refl in absurd (cc)
keeps_by None v m false h = refl

pub keeps : (table : List (List ℕ × Meaning)) (name other : List ℕ) (v m : Meaning)
    → found_in table name ≡ Some v
    → found_in table other ≡ option_or (found_in table other)
    (cond (bytes_eq other name) (Some m) None)
keeps table name other v m e =
    keeps_by (found_in table other) v m (bytes_eq other name)
    (λ same. ap (found_in table) ((bytes_eq-Decides other name).0 same) ∙ e)
