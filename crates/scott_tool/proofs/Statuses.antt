-- The statuses that an expected task or refusal can have.
use Rattle.std.proofs.Common.{◌≡◌, ◌∙◌, ◌<◌, ℕ, zero, suc, [], ◌∷◌, get_or, Result, Ok, Err, refl, sym, subst, inl, inr, arith, lit<}
use Rattle.std.specs.Prelude.{Contains}
use Rattle.scott_tool.specs.Refusal.{Flaw, bad_database, bad_text, bad_program, bad_width, Refusal, Unfit, no_request, unread, too_long, unfit, unwritten, refusing, flaw_status, status_of}
use Rattle.scott_tool.specs.Outcome.{statuses}
use Rattle.scott_tool.specs.Work.{Task, saying, storing, running, playing, task_statuses}
use Rattle.scott_tool.specs.Plan.{statuses_of}
use Rattle.scott_tool.specs.Causes.{IsOfContent}
use Rattle.scott_tool.specs.Promises.{IsEnd}
use Rattle.scott_tool.specs.Obeying.{StatusStands}

-- ---- each is one of the twelve

pub is_0 : Contains statuses 0
is_0 = (0, lit< tt, refl)

pub is_3 : Contains statuses 3
is_3 = (3, lit< tt, refl)

pub is_9 : Contains statuses 9
is_9 = (9, lit< tt, refl)

pub is_content : (flaw : Flaw) → Contains statuses (flaw_status flaw)
is_content bad_database = (4, lit< tt, refl)
is_content bad_text = (5, lit< tt, refl)
is_content bad_program = (6, lit< tt, refl)
is_content bad_width = (7, lit< tt, refl)

pub of_content : (flaw : Flaw) → IsOfContent (flaw_status flaw)
of_content bad_database = inl refl
of_content bad_text = inr (inl refl)
of_content bad_program = inr (inr (inl refl))
of_content bad_width = inr (inr (inr refl))

pub is_known : (refusal : Refusal) → Contains statuses (status_of refusal)
is_known no_request = (1, lit< tt, refl)
is_known (unread name) = (2, lit< tt, refl)
is_known (too_long name limit) = (11, lit< tt, refl)
is_known (unfit u) = is_content u.flaw
is_known (unwritten name) = (2, lit< tt, refl)

pub is_2 : Contains statuses 2
is_2 = (2, lit< tt, refl)

-- ---- lists of one status

at_only : (x y i : ℕ) → i < 1 → get_or (x ∷ []) i y ≡ y → x ≡ y
at_only x y zero less e = e
at_only x y (suc i) less e = absurd (omega arith)

pub only : (x y : ℕ) → Contains (x ∷ []) y → x ≡ y
only x y h = at_only x y h.0 h.1 h.2

pub first : (x : ℕ) → Contains (x ∷ []) x
first x = (0, lit< tt, refl)

-- ---- what a status of work tells

-- a status is that of a task, or that of a content that is refused; or memory ran out, or the
-- console or the shelf failed
pub data Tells (ShelfFailed ConsoleFailed : Type 0) (expected : Result Task Unfit)
    (status : ℕ) : Type 0 where
  of_task : (task : Task) → expected ≡ Ok task → Contains (task_statuses task) status
      → Tells ShelfFailed ConsoleFailed expected status
  of_fault : (u : Unfit) → expected ≡ Err u → status ≡ flaw_status u.flaw
      → Tells ShelfFailed ConsoleFailed expected status
  of_memory : status ≡ 9 → Tells ShelfFailed ConsoleFailed expected status
  of_console : status ≡ 3 → ConsoleFailed → Tells ShelfFailed ConsoleFailed expected status
  of_shelf : status ≡ 2 → ShelfFailed → Tells ShelfFailed ConsoleFailed expected status

run_end : (status i : ℕ) → i < 3 → get_or (0 ∷ 8 ∷ 10 ∷ []) i status ≡ status → IsEnd status
run_end status zero less e = inl (sym e)
run_end status (suc zero) less e = inr (inl (sym e))
run_end status (suc (suc zero)) less e = inr (inr (sym e))
run_end status (suc (suc (suc i))) less e = absurd (omega arith)

pub task_end : (task : Task) (status : ℕ) → Contains (task_statuses task) status → IsEnd status
task_end (saying text) status h = inl (sym (only 0 status h))
task_end (storing name text) status h = inl (sym (only 0 status h))
task_end (running ends show) status h = run_end status h.0 h.1 h.2
task_end (playing show save) status h = inl (sym (only 0 status h))

pub not_end : (status n : ℕ) → IsEnd status → (n ≡ 0 → ⊥) → (n ≡ 8 → ⊥) → (n ≡ 10 → ⊥) → status ≡ n
    → ⊥
not_end status n (inl e) not_0 not_8 not_10 f = not_0 (sym f ∙ e)
not_end status n (inr (inl e)) not_0 not_8 not_10 f = not_8 (sym f ∙ e)
not_end status n (inr (inr e)) not_0 not_8 not_10 f = not_10 (sym f ∙ e)

-- and each of these is an end of a run
pub end_is : (status : ℕ) → IsEnd status → Contains (0 ∷ 8 ∷ 10 ∷ []) status
end_is status (inl e) = subst (Contains (0 ∷ 8 ∷ 10 ∷ [])) (sym e) (0, lit< tt, refl)
end_is status (inr (inl e)) = subst (Contains (0 ∷ 8 ∷ 10 ∷ [])) (sym e) (1, lit< tt, refl)
end_is status (inr (inr e)) = subst (Contains (0 ∷ 8 ∷ 10 ∷ [])) (sym e) (2, lit< tt, refl)

pub is_end : (status : ℕ) → IsEnd status → Contains statuses status
is_end status (inl e) = subst (Contains statuses) (sym e) is_0
is_end status (inr (inl e)) = subst (Contains statuses) (sym e) (8, lit< tt, refl)
is_end status (inr (inr e)) = subst (Contains statuses) (sym e) (10, lit< tt, refl)

by_expected : (S F : Type 0) (expected : Result Task Unfit) (status : ℕ) → Contains
    (statuses_of (refusing expected)) status → Tells S F expected status
by_expected S F (Ok task) status h = of_task task refl h
by_expected S F (Err u) status h = of_fault u refl (sym (only (flaw_status u.flaw) status h))

pub tells : (S F : Type 0) (expected : Result Task Unfit) (status : ℕ) → StatusStands S F
    (statuses_of (refusing expected)) status → Tells S F expected status
tells S F expected status (inl h) = by_expected S F expected status h
tells S F expected status (inr (inl e)) = of_memory e
tells S F expected status (inr (inr (inl h))) = of_console h.0 h.1
tells S F expected status (inr (inr (inr h))) = of_shelf h.0 h.1

pub task_has_0 : (task : Task) → Contains (task_statuses task) 0
task_has_0 (saying text) = first 0
task_has_0 (storing name text) = first 0
task_has_0 (running ends show) = (0, lit< tt, refl)
task_has_0 (playing show save) = first 0
