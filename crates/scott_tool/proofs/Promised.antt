-- What holds of all ways in which a request is handled.
use Rattle.std.proofs.Common.{◌≡◌, ◌∙◌, ◌⊎◌, ℕ, List, [], ◌∷◌, Option, Some, None, IfSome, Result, Ok, Err, sym, ap, subst, inl, inr}
use Rattle.std.specs.Prelude.{Contains}
use Rattle.adv_io.specs.Console.{ConsoleView}
use Rattle.adv_io.specs.Faults.{Rose}
use Rattle.adv_io.specs.Shelf.{Files, ShelfView}
use Rattle.scott_requests.specs.Request.{Request}
use Rattle.scott_tool.specs.Steps.{◌>>=◌}
use Rattle.scott_tool.specs.Refusal.{Refusal, unread, refusing}
use Rattle.scott_tool.specs.Loading.{Texts, texts_of}
use Rattle.scott_tool.specs.Work.{Show, Task, saying, storing, running, playing, task_statuses}
use Rattle.scott_tool.specs.Plan.{work, expected, statuses_of}
use Rattle.scott_tool.specs.Obeying.{StatusStands, Answers, NameKeeps}
use Rattle.scott_tool.specs.Causes.{OneLoaded, EndsWith0, IsAccepted}
use Rattle.scott_tool.specs.Outcome.{refused, Concludes, whole, unsaid, unstored, cut_short}
use Rattle.scott_tool.specs.Promises.{HasStatus, Completes, IsSeen, KeepsFiles, IsEnd, HasDone, IfKnown, SaysUnread, Counts}
use Rattle.scott_tool.proofs.Statuses.{first}
use Rattle.scott_tool.specs.Laws.{Laws}
use Rattle.scott_tool.proofs.Readings.{accepted}

-- all clauses of the program
pub record Promises (shelf shelf' : ShelfView) (console console' : ConsoleView)
    (asked : Option Request) (status : ℕ) : Type 0 where
  pub status_is : HasStatus shelf shelf' console console' asked status
  pub seen : IsSeen shelf shelf' console console' asked status
  pub files : KeepsFiles shelf shelf' asked status
  pub complete : Completes shelf shelf' console console' asked status
  pub done : IsEnd status → HasDone shelf shelf' console console' asked status
  pub counts : Counts shelf shelf' console console' status

-- what holds of the files that are known
pub for_files : (known : Option Files) (P : Files → Type 0) → ((files : Files) → P files)
    → IfSome known P
for_files None P f = tt
for_files (Some files) P f = f files

pub from_files : (known : Option Files) (P Q : Files → Type 0) →
    ((files : Files) → P files → Q files) → IfSome known P → IfSome known Q
from_files None P Q f h = tt
from_files (Some files) P Q f h = f files h

-- and of the lines
pub for_lines : (known : Option (List (List ℕ))) (P : List (List ℕ) → Type 0) →
    ((lines : List (List ℕ)) → P lines) → IfSome known P
for_lines None P f = tt
for_lines (Some lines) P f = f lines

pub from_lines : (known : Option (List (List ℕ))) (P Q : List (List ℕ) → Type 0) →
    ((lines : List (List ℕ)) → P lines → Q lines) → IfSome known P → IfSome known Q
from_lines None P Q f h = tt
from_lines (Some lines) P Q f h = f lines h

pub expected-err : (files : Files) (request : Request) (refusal : Refusal) → texts_of files request
    ≡ Err refusal → expected files (Some request) ≡ Err refusal
expected-err files request refusal e = ap (λ r. r >>= λ texts. refusing (work request texts)) e

pub expected-ok : (files : Files) (request : Request) (texts : Texts) → texts_of files request
    ≡ Ok texts → expected files (Some request) ≡ refusing (work request texts)
expected-ok files request texts e = ap (λ r. r >>= λ t. refusing (work request t)) e

module _ (shelf shelf' : ShelfView) (console console' : ConsoleView) (status : ℕ) where
  abbrev Broke : Type 0
  Broke = Rose console.faults console'.faults

  abbrev Lost : Type 0
  Lost = Rose shelf.faults shelf'.faults

  abbrev Stand : List ℕ → Type 0
  Stand expected = StatusStands Lost Broke expected status

  -- files that stay are kept, whatever is to be stored
  pub name_keeps : (name : Option (List ℕ)) → shelf'.files ≡ shelf.files
      → NameKeeps shelf shelf' name status
  name_keeps None same = same
  name_keeps (Some name) same = inr (inl same)

  -- ---- what follows for every way

  abbrev Seen : Option Request → Files → List (List ℕ) → Type 0
  Seen asked files lines = Answers shelf shelf' console console' lines (expected files asked) status
      ⊎ SaysUnread shelf shelf' console console' asked status

  -- a run that ends with 0 did so, unless something failed
  run_0 : (ends : List (List ℕ) → ℕ) (show : Show)
      (lines : List (List ℕ)) → ends lines ≡ 0
      → Answers shelf shelf' console console' lines (Ok (running ends show)) status
      → Stand (0 ∷ [])
  run_0 ends show lines zero (inl (o, does, whole is grew files)) =
      inl (subst (Contains (0 ∷ [])) (sym (is ∙ ap (λ x. x.status) does ∙ zero)) (first 0))
  run_0 ends show lines zero (inl (o, does, unsaid three failed part files)) = inr
      (inr (inl (three, failed)))
  run_0 ends show lines zero (inl (o, does, unstored file is loses said)) = absurd
      (let none = sym (ap (λ x. x.stored) does) ∙ is in cc)
  run_0 ends show lines zero (inl (o, does, cut_short nine grew files)) = inr (inl nine)
  run_0 ends show lines zero (inr silent) = inr (inl silent.0)

  unread_stands : (asked : Option Request) → SaysUnread shelf shelf' console console' asked status
      → Stand (0 ∷ [])
  unread_stands asked (lost, said) = by asked said where
    by : (asked : Option Request) → OneLoaded asked (λ load. Concludes console console'
        (refused (unread load.name)) status) → Stand (0 ∷ [])
    by None h = absurd h
    by (Some request) (load, is, inl h) = inr (inr (inr (h.0, lost)))
    by (Some request) (load, is, inr h) = inr (inr (inl (h.0, h.1)))

  -- what was seen, with these lines
  seen_with : (asked : Option Request) (files : Files) (lines : List (List ℕ))
      (left : Option (List (List ℕ))) → left ≡ Some lines → IfSome left (Seen asked files)
      → Seen asked files lines
  seen_with asked files lines left is h = subst (λ (o : Option (List (List ℕ))). IfSome o
      (Seen asked files)) is h

  -- a task that is to end with 0 does so, unless memory ran out or the shelf or the console failed
  stand_0 : (request : Request) (files : Files) (task : Task) → expected files (Some request)
      ≡ Ok task → EndsWith0 task console.left
      → Stand (task_statuses task) → IfSome console.left (Seen (Some request) files) → Stand
      (0 ∷ [])
  stand_0 request files (saying text) is ends stand seen = stand
  stand_0 request files (storing name text) is ends stand seen = stand
  stand_0 request files (playing show save) is ends stand seen = stand
  stand_0 request files (running ends show) is (lines, left, zero) stand seen =
      elim (seen_with (Some request) files lines console.left left seen) [
        | inl h ↦
            run_0 ends show lines zero
            (subst (λ (r : Result Task Refusal). Answers shelf shelf' console console' lines r
            status) is h)
        | inr h ↦ unread_stands (Some request) h
      ]

  -- where all files are there and accepted, the status is 0, unless memory ran out or the shelf or
  -- the console failed
  pub complete_from : (laws : Laws) (asked : Option Request) → IfSome shelf.files
      (λ files. Stand (statuses_of (expected files asked))) → IfKnown shelf console (Seen asked)
      → IfSome shelf.files (λ files. IsAccepted files console.left asked → Stand (0 ∷ []))
  complete_from laws None h seen = for_files shelf.files
      (λ files. IsAccepted files console.left None → Stand (0 ∷ [])) (λ files no. absurd no)
  complete_from laws (Some request) h seen = by shelf.files h seen where
    by : (known : Option Files) → IfSome known (λ files. Stand
        (statuses_of (expected files (Some request)))) → IfSome known
        (λ files. IfSome console.left (Seen (Some request) files))
        → IfSome known (λ files. IsAccepted files console.left (Some request) → Stand (0 ∷ []))
    by None h seen = tt
    by (Some files) h seen = λ ok.
        let task = accepted laws files request console.left ok in
        stand_0 request files task.0 task.1 task.2 (subst
        (λ (r : Result Task Refusal). Stand (statuses_of r)) task.1 h) seen
