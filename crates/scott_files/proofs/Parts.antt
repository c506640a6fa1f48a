-- Parts of a file that are loaded one after the other.
use Rattle.std.proofs.Common.{◌≡◌, ◌∙◌, ◌<◌, ◌+◌, ℕ, List, [], ◌++◌, length, take, drop, Option, Some, None, refl, sym, ap, subst, arith, length-append, append_assoc}
use Rattle.std.proofs.lemmas.List.{take-append-drop, take_all, drop_at, length-take}
use Rattle.std.specs.Prelude.{IsSomeAnd, unwrap_or}
use Rattle.std.specs.FinMap.{get}
use Rattle.adv_io.specs.Shelf.{Files, IsFile, IsPart, part_at}
use Rattle.scott_format.specs.declared.readers.DbReader.{DbReader}
use Rattle.scott_format.specs.Readers.{HasRead, bytes_fed}
use Rattle.scott_files.specs.Pieces.{AreFirst, HasFirst, HasAll}

-- no bytes are the first ones of each file
pub none_first : (known : Option Files) (name : List ℕ) → AreFirst known name []
none_first None name = tt
none_first (Some files) name = (unwrap_or (get files name) [], refl)

-- the part of bytes after the first ones is that of the rest
part_of_rest : (bytes fed rest part : List ℕ) (room : ℕ) → bytes ≡ fed ++ rest
    → part ≡ part_at bytes (length fed) room → part ≡ take room rest
part_of_rest bytes fed rest part room e is =
    is ∙ ap (λ b. take room (drop (length fed) b)) e
    ∙ ap (take room) (drop_at fed rest (length fed) refl)

more_bytes : (bytes fed rest part : List ℕ) (room : ℕ) → bytes ≡ fed ++ rest
    → part ≡ part_at bytes (length fed) room → bytes ≡ (fed ++ part) ++ drop room rest
more_bytes bytes fed rest part room e is =
    e ∙ ap (λ r. fed ++ r) (sym (take-append-drop room rest))
    ∙ sym (append_assoc fed (take room rest) (drop room rest))
    ∙ ap (λ p. (fed ++ p) ++ drop room rest) (sym (part_of_rest bytes fed rest part room e is))

all_bytes : (bytes fed rest part : List ℕ) (room : ℕ) → bytes ≡ fed ++ rest
    → part ≡ part_at bytes (length fed) room → length part < room → bytes ≡ fed ++ part
all_bytes bytes fed rest part room e is few =
    let taken = part_of_rest bytes fed rest part room e is in
    let count = ap length taken ∙ length-take room rest in
    e ∙ ap (λ r. fed ++ r) (sym (taken ∙ take_all room rest (omega (arith, count, few))))

module _ (name fed part : List ℕ) (room : ℕ) where
  -- the first bytes of a file and the part after them are the first ones too
  pub more_first : (known : Option Files) → AreFirst known name fed
      → IsPart known name (length fed) room part → AreFirst known name (fed ++ part)
  more_first None first is = tt
  more_first (Some files) first is = by (get files name) first.1 is
    where
      by : (file : Option (List ℕ)) → unwrap_or file [] ≡ fed ++ first.0
          → IsSomeAnd file (λ bytes. part ≡ part_at bytes (length fed) room)
          → (rest : List ℕ) × (unwrap_or file [] ≡ (fed ++ part) ++ rest)
      by None e has = absurd has
      by (Some bytes) e has = (drop room first.0, more_bytes bytes fed first.0 part room e has)

  -- where the part doesn't fill the room they are all
  pub all_first : (known : Option Files) → AreFirst known name fed
      → IsPart known name (length fed) room part → length part < room
      → IsFile known name (fed ++ part)
  all_first None first is few = tt
  all_first (Some files) first is few = by (get files name) first.1 is
    where
      by : (file : Option (List ℕ)) → unwrap_or file [] ≡ fed ++ first.0
          → IsSomeAnd file (λ bytes. part ≡ part_at bytes (length fed) room)
          → file ≡ Some (fed ++ part)
      by None e has = absurd has
      by (Some bytes) e has = ap Some (all_bytes bytes fed first.0 part room e has few)

-- ---- a reader that is fed a part

module _ (known : Option Files) (name : List ℕ) (before after : DbReader) (at room : ℕ)
    (part : List ℕ) (is : IsPart known name at room part) (fed : bytes_fed before ≡ at)
    (first : HasFirst known name before)
    (read : (fed : List ℕ) → HasRead before fed → HasRead after (fed ++ part)) where
  follows : IsPart known name (length first.0) room part
  follows = subst (λ (i : ℕ). IsPart known name i room part) (sym fed ∙ first.1.all) is

  pub fed_after : bytes_fed after ≡ bytes_fed before + length part
  fed_after =
      (read first.0 first.1).all ∙ length-append first.0 part
      ∙ ap (λ n. n + length part) (sym first.1.all)

  pub first_after : HasFirst known name after
  first_after = (
    first.0 ++ part,
    read first.0 first.1,
    more_first name first.0 part room known first.2 follows,
  )

  pub all_after : length part < room → HasAll known name after
  all_after few = (
    first.0 ++ part,
    read first.0 first.1,
    all_first name first.0 part room known first.2 follows few,
  )
