-- The rules of loops: a turn of them, how they are left, and the statements that they are.
use Rattle.std.proofs.Common.{◌≡◌, arith, ℕ, ◌+◌, ℤ, Bool, true, false, Option, refl}
use Rattle.inform_tree.specs.Conditions.{Condition}
use Rattle.inform_tree.specs.Statements.{While, Do, For, Statements, Assignment}
use Rattle.inform_meaning.specs.Worlds.{Program, Scope, Config}
use Rattle.inform_meaning.specs.Frames.{Loop, TurnDue, Begins, Outcome, Normal, Returns, Breaks, bind}
use Rattle.inform_meaning.specs.Parts.{tick}
use Rattle.inform_meaning.specs.Meaning.{test_if_any, alter_if_any}
use Rattle.inform_meaning.specs.Statements.{while_loop, do_loop, for_loop, loop_goes_on, exec_all, turns_of, test_done}
use Rattle.inform_meaning.specs.Runs.{call_at}
use Rattle.inform_meaning.proofs.Looping.{loop_once}
use Rattle.inform_meaning.proofs.GoingTrees.{test_if_any-going, exec_all-going, alter_if_any-going}
use Rattle.inform_meaning.proofs.GoingRuns.{call_at-going}
use Rattle.inform_logic.specs.Stages.{Stage}
use Rattle.inform_logic.specs.Leading.{Leaves, Leads, AfterTest, AfterBody, TestsIfAny, Tests, ChangesIfAny, Executes, Runs, Loops}
use Rattle.inform_logic.proofs.Opened.{opened}
use Rattle.inform_logic.proofs.Steps.{nothing_taken, and_then, truth_then, normal_then, one_step, takes_same, chosen, not_chosen}
use Rattle.inform_logic.proofs.Values.{within}
use Rattle.inform_logic.proofs.Changes.{no_change}
use Rattle.inform_logic.proofs.Statements.{step}

-- a loop is its next turn
pub once : (p : Program) (d : ℕ) (l : Loop) (c : Config) → turns_of p (call_at p d) l c
    ≡ tick (Begins (TurnDue l)) (bind (test_if_any p (call_at p d) l.test)
    (test_done p (call_at p d) l)) c
once p d l c = loop_once l (test_if_any p (call_at p d) l.test) (exec_all p (call_at p d) l.body)
    (alter_if_any p (call_at p d) l.change)
    (test_if_any-going p (call_at p d) (call_at-going p d) l.test)
    (exec_all-going p (call_at p d) (call_at-going p d) l.body)
    (alter_if_any-going p (call_at p d) (call_at-going p d) l.change) c

module _ {p : Program} {d : ℕ} where
  -- ---- any loop

  -- a step, the test, and what comes after it
  pub turn : {l : Loop} {b : Bool} {s s' : Scope} {w w1 w' : Stage} {e : Outcome} {n m : ℕ}
      → TestsIfAny p d l.test s w b w1 n → Leads p d (AfterTest l b) s w1 e s' w' m
      → Loops p d l s w e s' w' (n + m + 1)
  unfolding opened
  turn {l} x rest =
      record { takes = takes_same (once p d l) (one_step _ (truth_then _ x.takes rest.takes)) }

  -- ---- after the test

  -- where the loop goes on: the body, and what comes after that
  pub turn_goes_on : {l : Loop} {b : Bool} {s s1 s' : Scope} {w w1 w' : Stage} {e1 e : Outcome}
      {n m : ℕ} → loop_goes_on l b ≡ true → ((j : ℕ) → Leaves e1 j)
      → Runs p d l.body s w e1 s1 w1 n → Leads p d (AfterBody l e1) s1 w1 e s' w' m
      → Leads p d (AfterTest l b) s w e s' w' (n + m)
  unfolding opened
  turn_goes_on goes any body rest =
      record { takes = chosen _ goes (and_then _ any body.takes rest.takes) }

  -- where it ends
  pub loop_ends : {l : Loop} {b : Bool} {s : Scope} {w : Stage} → loop_goes_on l b ≡ false
      → Leads p d (AfterTest l b) s w Normal s w 0
  unfolding opened
  loop_ends ends = record { takes = not_chosen _ ends (nothing_taken (λ k. refl)) }

  -- ---- after the body

  -- at its end: the change, and more turns
  pub turn_ends : {l : Loop} {s s1 s' : Scope} {w w1 w' : Stage} {e : Outcome} {n m : ℕ}
      → ChangesIfAny p d l.change s w s1 w1 n → Loops p d l s1 w1 e s' w' m
      → Leads p d (AfterBody l Normal) s w e s' w' (n + m)
  unfolding opened
  turn_ends change more = record { takes = normal_then _ change.takes more.takes }

  -- after `break` the loop is over
  pub turn_breaks : {l : Loop} {s : Scope} {w : Stage}
      → Leads p d (AfterBody l Breaks) s w Normal s w 0
  unfolding opened
  turn_breaks = record { takes = nothing_taken (λ k. refl) }

  -- the routine is left
  pub turn_returns : {l : Loop} {s : Scope} {w : Stage} {v : ℤ}
      → Leads p d (AfterBody l (Returns v)) s w (Returns v) s w 0
  unfolding opened
  turn_returns = record { takes = nothing_taken (λ k. refl) }

  -- ---- a turn, by how its body ends

  -- the body, the change, and more turns
  pub loop_again : {l : Loop} {b : Bool} {s s1 s2 s' : Scope} {w w1 w2 w3 w' : Stage} {e : Outcome}
      {n m q t : ℕ} → TestsIfAny p d l.test s w b w1 n → loop_goes_on l b ≡ true
      → Runs p d l.body s w1 Normal s1 w2 m → ChangesIfAny p d l.change s1 w2 s2 w3 q
      → Loops p d l s2 w3 e s' w' t → Loops p d l s w e s' w' (n + m + q + t + 1)
  loop_again x goes body change more = within (omega arith)
      (turn x (turn_goes_on goes (λ j. tt) body (turn_ends change more)))

  -- `break` ends the loop
  pub loop_breaks : {l : Loop} {b : Bool} {s s' : Scope} {w w1 w' : Stage} {n m : ℕ}
      → TestsIfAny p d l.test s w b w1 n → loop_goes_on l b ≡ true
      → Runs p d l.body s w1 Breaks s' w' m → Loops p d l s w Normal s' w' (n + m + 1)
  loop_breaks x goes body =
      within (omega arith) (turn x (turn_goes_on goes (λ j. tt) body turn_breaks))

  -- `return` leaves the routine
  pub loop_returns : {l : Loop} {b : Bool} {s s' : Scope} {w w1 w' : Stage} {v : ℤ} {n m : ℕ}
      → TestsIfAny p d l.test s w b w1 n → loop_goes_on l b ≡ true
      → Runs p d l.body s w1 (Returns v) s' w' m → Loops p d l s w (Returns v) s' w' (n + m + 1)
  loop_returns x goes body =
      within (omega arith) (turn x (turn_goes_on goes (λ j. tt) body turn_returns))

  -- no turn is left
  pub loop_is_over : {l : Loop} {b : Bool} {s : Scope} {w w' : Stage} {n : ℕ}
      → TestsIfAny p d l.test s w b w' n → loop_goes_on l b ≡ false
      → Loops p d l s w Normal s w' (n + 1)
  loop_is_over x ends = within (omega arith) (turn x (loop_ends ends))

  -- ---- the three kinds of loops

  -- `while`: a turn and those after it, and the end
  pub while_once_more : {x : Condition} {body : Statements} {s s1 s' : Scope} {w w1 w2 w' : Stage}
      {e : Outcome} {n m t : ℕ} → Tests p d x s w true w1 n → Runs p d body s w1 Normal s1 w2 m
      → Loops p d (while_loop x body) s1 w2 e s' w' t
      → Loops p d (while_loop x body) s w e s' w' (n + m + t + 1)
  while_once_more x body more = within (omega arith) (loop_again x refl body no_change more)

  pub while_ends : {x : Condition} {body : Statements} {s : Scope} {w w' : Stage} {n : ℕ}
      → Tests p d x s w false w' n → Loops p d (while_loop x body) s w Normal s w' (n + 1)
  while_ends x = loop_is_over x refl

  -- `do`: the loop ends where its test holds
  pub do_once_more : {x : Condition} {body : Statements} {s s1 s' : Scope} {w w1 w2 w' : Stage}
      {e : Outcome} {n m t : ℕ} → Tests p d x s w false w1 n → Runs p d body s w1 Normal s1 w2 m
      → Loops p d (do_loop body x) s1 w2 e s' w' t
      → Loops p d (do_loop body x) s w e s' w' (n + m + t + 1)
  do_once_more x body more = within (omega arith) (loop_again x refl body no_change more)

  pub do_ends : {x : Condition} {body : Statements} {s : Scope} {w w' : Stage} {n : ℕ}
      → Tests p d x s w true w' n → Loops p d (do_loop body x) s w Normal s w' (n + 1)
  do_ends x = loop_is_over x refl

  -- `for`: the change comes after the body
  pub for_once_more : {x : Option Condition} {change : Option Assignment} {body : Statements}
      {s s1 s2 s' : Scope} {w w1 w2 w3 w' : Stage} {e : Outcome} {n m q t : ℕ}
      → TestsIfAny p d x s w true w1 n → Runs p d body s w1 Normal s1 w2 m
      → ChangesIfAny p d change s1 w2 s2 w3 q → Loops p d (for_loop x change body) s2 w3 e s' w' t
      → Loops p d (for_loop x change body) s w e s' w' (n + m + q + t + 1)
  for_once_more x body change more = loop_again x refl body change more

  pub for_ends : {x : Option Condition} {change : Option Assignment} {body : Statements} {s : Scope}
      {w w' : Stage} {n : ℕ} → TestsIfAny p d x s w false w' n
      → Loops p d (for_loop x change body) s w Normal s w' (n + 1)
  for_ends x = loop_is_over x refl

  -- ---- the statements

  -- `while`
  pub while : {x : Condition} {body : Statements} {s s' : Scope} {w w' : Stage} {e : Outcome}
      {n : ℕ} → Loops p d (while_loop x body) s w e s' w' n
      → Executes p d (While x body) s w e s' w' (n + 1)
  while turns = step (record { takes = turns.takes })

  -- `for`: what is done first, and the turns
  pub for : {first change : Option Assignment} {x : Option Condition} {body : Statements}
      {s s1 s' : Scope} {w w1 w' : Stage} {e : Outcome} {n m : ℕ}
      → ChangesIfAny p d first s w s1 w1 n → Loops p d (for_loop x change body) s1 w1 e s' w' m
      → Executes p d (For first x change body) s w e s' w' (n + m + 1)
  unfolding opened
  for first turns = step (record { takes = normal_then _ first.takes turns.takes })

  -- the body before the first test, and what comes after it
  pub do_first : {x : Condition} {body : Statements} {s s1 s' : Scope} {w w1 w' : Stage}
      {e1 e : Outcome} {n m : ℕ} → ((j : ℕ) → Leaves e1 j) → Runs p d body s w e1 s1 w1 n
      → Leads p d (AfterBody (do_loop body x) e1) s1 w1 e s' w' m
      → Executes p d (Do body x) s w e s' w' (n + m + 1)
  unfolding opened
  do_first any body rest = step (record { takes = and_then _ any body.takes rest.takes })

  -- `do`, where the body is done
  pub do_until : {x : Condition} {body : Statements} {s s1 s' : Scope} {w w1 w' : Stage}
      {e : Outcome} {n m : ℕ} → Runs p d body s w Normal s1 w1 n
      → Loops p d (do_loop body x) s1 w1 e s' w' m
      → Executes p d (Do body x) s w e s' w' (n + m + 1)
  do_until body more = within (omega arith) (do_first (λ j. tt) body (turn_ends no_change more))
