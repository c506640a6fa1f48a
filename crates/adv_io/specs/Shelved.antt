-- A shelf in memory: its files, and what it answers.
use Rattle.std.specs.Prelude.{◌≡◌, ℕ, ◌&&◌, Bool, true, not, nat_le, List, [], ◌∷◌, ◌++◌, map, length, drop, Option, Some, None, Result, Ok, Err, is_ok, if◌then◌else◌, bytes_eq, string_bytes, String, Vec, refl}
use Rattle.std.specs.Coded.{Coded, code_by, coded×, coded_ℕ, coded_list}
use Rattle.std.specs.List.{list_any}
use Rattle.std.specs.FinMap.{get, insert, from_entries, code}
use Rattle.adv_io.specs.CallCount.{CallCount, coded_call_count, unused, fails_next, after_next}
use Rattle.adv_io.specs.Shelf.{Files, ShelfView, part_at}
use Rattle.adv_io.specs.declared.faults.ShelfFault.{ShelfFault}
use Rattle.adv_io.specs.declared.faults.ShelfFault.TheVariants.{Absent, Failed, TooLong, Memory}

-- the files, and the calls
pub record Shelved : Type 0 where
  pub files : Files
  pub calls : CallCount

-- what a clause sees of it as of every shelf
abbrev pub stock_of : Shelved → ShelfView
stock_of s = record { files = Some s.files; faults = s.calls.faults }

-- it is stored as the pair of its fields
abbrev pub coded_shelved : Coded Shelved
coded_shelved =
    code_by (Files × CallCount)
    (coded× (code (coded_list coded_ℕ) (coded_list coded_ℕ)) coded_call_count)
    (λ s. (s.files, s.calls))
    (λ p. record { files = p.0; calls = p.1 })
    (λ _. refl)

-- a file as it is kept: the bytes of its name, and its own
abbrev pub entry : {A B : Type 0} → String A × Vec ℕ B → List ℕ × List ℕ
entry file = (string_bytes file.0, file.1.items)

-- the files in a list, of which the first of a name counts
abbrev pub files_of : {A B : Type 0} → List (String A × Vec ℕ B) → Files
files_of files = from_entries (map entry files)

-- no name stands twice
abbrev pub names_differ : {A B : Type 0} → List (String A × Vec ℕ B) → Bool
names_differ [] = true
names_differ (file ∷ files) =
    not (list_any (λ other. bytes_eq (string_bytes file.0) (string_bytes other.0)) files)
    && names_differ files

-- no call yet
abbrev pub shelved : {A B : Type 0} → List (String A × Vec ℕ B) → List ℕ → Shelved
shelved files failing = record { files = files_of files; calls = unused failing }

-- one more call was counted
abbrev pub called : Shelved → Shelved
called shelf = record shelf { calls = after_next shelf.calls }

-- a file of at most so many bytes
abbrev pub within : ℕ → Option (List ℕ) → Result (List ℕ) ShelfFault
within limit None = Err Absent
within limit (Some bytes) =
    if nat_le (length bytes) limit then Ok bytes else Err (TooLong (length bytes))

-- what a load answers where memory is ample
abbrev pub loaded : Shelved → List ℕ → ℕ → Result (List ℕ) ShelfFault
loaded shelf name limit =
    if fails_next shelf.calls then Err Failed else within limit (get shelf.files name)

-- the answer is that one, and memory can run out only in place of bytes
abbrev pub AnswersLoad : {A : Type 0} → Result (List ℕ) ShelfFault → Result (Vec ℕ A) ShelfFault
    → Type 0
AnswersLoad answer (Ok bytes) = answer ≡ Ok bytes.items
AnswersLoad answer (Err Memory) = is_ok answer ≡ true
AnswersLoad answer (Err fault) = answer ≡ Err fault

-- the part of a file from a place on, if there is the file
abbrev pub part_of : (at room : ℕ) → Option (List ℕ) → Result (List ℕ) ShelfFault
part_of at room None = Err Absent
part_of at room (Some bytes) = Ok (part_at bytes at room)

-- what a load of a part gives
abbrev pub part_loaded : Shelved → List ℕ → (at room : ℕ) → Result (List ℕ) ShelfFault
part_loaded shelf name at room =
    if fails_next shelf.calls then Err Failed else part_of at room (get shelf.files name)

-- the part stands before those of the bytes that stay, and its length was answered; or the fault
-- was
abbrev pub AnswersPart : Result (List ℕ) ShelfFault → (before after : List ℕ) → Result ℕ ShelfFault
    → Type 0
AnswersPart (Ok part) before after result =
    (result ≡ Ok (length part)) × (after ≡ part ++ drop (length part) before)
AnswersPart (Err fault) before after result = result ≡ Err fault

-- what a store leaves, by what it answers
abbrev pub LeavesStored : Shelved → List ℕ → List ℕ → Result (Unit {0}) ShelfFault → Shelved
    → Type 0
LeavesStored old name bytes (Ok done) new =
    new ≡ record (called old) { files = insert old.files name bytes }
LeavesStored old name bytes (Err fault) new = new ≡ called old
