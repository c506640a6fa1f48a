-- What a shelf answers, by the files that are known.
use Rattle.std.specs.Prelude.{◌≡◌, ℕ, ◌<◌, ◌≤◌, ◌⊎◌, List, length, take, drop, Option, Some, None, IfSome, IsSomeAnd, option_map, Result, Err, OnOk, IfOk, IfErr, Vec}
use Rattle.std.specs.Ordering.{nat_cmp}
use Rattle.std.specs.Cmp.Lexicographic.{slice_cmp}
use Rattle.std.specs.FinMap.{FinMap, get, insert, remove}
use Rattle.adv_io.specs.Faults.{Rose, raised}
use Rattle.adv_io.specs.declared.faults.ShelfFault.{ShelfFault}
use Rattle.adv_io.specs.declared.faults.ShelfFault.TheVariants.{Absent, Failed, TooLong, Memory}

-- files by the bytes of their names
abbrev pub Files : Type 0
Files = FinMap (slice_cmp nat_cmp) (List ℕ)

-- what is known of a shelf: its files, where they are known, and how often it failed
pub record ShelfView : Type 0 where
  pub files : Option Files
  pub faults : ℕ

-- where the files are known, the name has these bytes
abbrev pub IsFile : Option Files → List ℕ → List ℕ → Type 0
IsFile known name bytes = IfSome known (λ files. get files name ≡ Some bytes)

-- where the files are known, the name has a file of at least so many bytes
abbrev pub HasAtLeast : Option Files → List ℕ → ℕ → Type 0
HasAtLeast known name n =
    IfSome known (λ files. IsSomeAnd (get files name) (λ bytes. n ≤ length bytes))

-- the files are known, and the name is none of them
abbrev pub Lacks : Option Files → List ℕ → Type 0
Lacks known name = IsSomeAnd known (λ files. get files name ≡ None)

-- why a load was refused; only a shelf that failed counts it
abbrev pub RefusesLoad : (old new : ShelfView) → (name : List ℕ) → (limit : ℕ) → ShelfFault → Type 0
RefusesLoad old new name limit Absent = Lacks old.files name × (new.faults ≡ old.faults)
RefusesLoad old new name limit Failed = Rose old.faults new.faults
RefusesLoad old new name limit (TooLong n) =
    (limit < n) × HasAtLeast old.files name n × (new.faults ≡ old.faults)
RefusesLoad old new name limit Memory = new.faults ≡ old.faults

-- what a call promises that loads a file of at most so many bytes
pub record Loads {A : Type 0} (old new : ShelfView) (name : List ℕ) (limit : ℕ)
    (result : Result (Vec ℕ A) ShelfFault) : Type 0 where
  pub within : IfOk result (λ bytes. length bytes.items ≤ limit)
  pub found : IfOk result (λ bytes. IsFile old.files name bytes.items)
  pub refused : IfErr result (RefusesLoad old new name limit)
  pub files_stay : new.files ≡ old.files
  pub later : old.faults ≤ new.faults
  pub steady : OnOk result (new.faults ≡ old.faults)

-- the bytes of a file from a place on, as many as there is room for
abbrev pub part_at : List ℕ → (at room : ℕ) → List ℕ
part_at bytes at room = take room (drop at bytes)

-- where the files are known, the name has a file, and this is its part from a place on
abbrev pub IsPart : Option Files → (name : List ℕ) → (at room : ℕ) → List ℕ → Type 0
IsPart known name at room part =
    IfSome known (λ files. IsSomeAnd (get files name) (λ bytes. part ≡ part_at bytes at room))

-- why a load of a part was refused; only a shelf that failed counts it
abbrev pub RefusesPart : (old new : ShelfView) → (name : List ℕ) → ShelfFault → Type 0
RefusesPart old new name Absent = Lacks old.files name × (new.faults ≡ old.faults)
RefusesPart old new name Failed = Rose old.faults new.faults
RefusesPart old new name (TooLong n) = ⊥
RefusesPart old new name Memory = ⊥

-- what a call promises that loads the part of a file from a place on, into bytes that were before
-- and are after; the result is how many bytes the part has
pub record LoadsPart (old new : ShelfView) (name : List ℕ) (at : ℕ) (before after : List ℕ)
    (result : Result ℕ ShelfFault) : Type 0 where
  pub within : IfOk result (λ n. n ≤ length before)
  pub found : IfOk result (λ n. IsPart old.files name at (length before) (take n after))
  pub others_stay : IfOk result (λ n. drop n after ≡ drop n before)
  pub refused : IfErr result (RefusesPart old new name)
  pub files_stay : new.files ≡ old.files
  pub later : old.faults ≤ new.faults
  pub steady : OnOk result (new.faults ≡ old.faults)

-- the same files, with other bytes at a name
abbrev pub with_file : Option Files → List ℕ → List ℕ → Option Files
with_file known name bytes = option_map (λ files. insert files name bytes) known

-- the same files, without a name
abbrev pub without : Option Files → List ℕ → Option Files
without known name = option_map (λ files. remove files name) known

-- why a store was refused, and what it left; only a shelf that failed counts it
abbrev pub RefusesStore : (old new : ShelfView) → (name : List ℕ) → ShelfFault → Type 0
RefusesStore old new name Absent = ⊥
RefusesStore old new name Failed =
    Rose old.faults new.faults × ((new.files ≡ old.files) ⊎ (new.files ≡ without old.files name))
RefusesStore old new name (TooLong n) = ⊥
RefusesStore old new name Memory = (new.files ≡ old.files) × (new.faults ≡ old.faults)

-- what a call promises that stores a file
pub record Stores {T : Type 0} (old new : ShelfView) (name bytes : List ℕ)
    (result : Result T ShelfFault) : Type 0 where
  pub stored : OnOk result (new.files ≡ with_file old.files name bytes)
  pub refused : IfErr result (RefusesStore old new name)
  pub later : old.faults ≤ new.faults
  pub steady : OnOk result (new.faults ≡ old.faults)

-- ---- what a shelf of real files counts

-- a fault that has a length has this one
abbrev pub TellsLength : ℕ → ShelfFault → Type 0
TellsLength n (TooLong m) = m ≡ n
TellsLength n _ = Unit {0}

-- the count of faults after a call: it rises where the call failed
abbrev pub count_after : {T : Type 0} → Result T ShelfFault → ℕ → ℕ
count_after (Err Failed) faults = raised faults
count_after _ faults = faults

-- what a clause sees of it as of every shelf: none of its files
abbrev pub disk_stock : ℕ → ShelfView
disk_stock faults = record { files = None; faults = faults }
