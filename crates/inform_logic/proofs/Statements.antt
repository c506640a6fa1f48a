-- The rules of statements: what they execute, each with a step of its own.
use Rattle.std.proofs.Common.{◌≡◌, ◌∙◌, ℕ, ◌+◌, ℤ, pos, true, false, List, [], ◌∷◌, Some, refl, ap}
use Rattle.std.specs.Prelude.{unwrap_or}
use Rattle.inform_tree.specs.Values.{Expression, Arguments}
use Rattle.inform_tree.specs.Conditions.{Condition}
use Rattle.inform_tree.specs.Statements.{Statement, Empty, Block, Assign, Call, If, Switch, Break, Continue, Rtrue, Rfalse, Return, NewLine, Print, Read, Statements, NoStatements, MoreStatements, Cases, NoCases, MoreCases, Default, NoDefault, SomeDefault, Assignment, PrintItem, Choice}
use Rattle.inform_meaning.specs.Worlds.{Program, Scope, has_room, filled}
use Rattle.inform_meaning.specs.Statements.{act}
use Rattle.inform_meaning.specs.Runs.{call_at}
use Rattle.inform_meaning.specs.Frames.{Outcome, Normal, Returns, Breaks, Continues, when}
use Rattle.inform_meaning.specs.declared.traps.Trap.TheVariants as t
use Rattle.inform_meaning.specs.Tables.{put_by}
use Rattle.inform_meaning.specs.Parts.{line_at, take_line, trap}
use Rattle.inform_logic.specs.Stages.{Stage, in_scope, line_taken, said}
use Rattle.inform_logic.specs.Leading.{Leads, TheAct, TheCases, Evaluates, Calls, Tests, Changes, Prints, Executes, Runs, Fits}
use Rattle.inform_logic.proofs.Opened.{opened}
use Rattle.inform_logic.proofs.Steps.{nothing_taken, value_then, truth_then, normal_then, finally, one_step, with_said, chosen, not_chosen}

module _ {p : Program} {d : ℕ} where
  -- a step, and what the statement does
  pub step : {x : Statement} {s s' : Scope} {w w' : Stage} {e : Outcome} {n : ℕ}
      → Leads p d (TheAct x) s w e s' w' n → Executes p d x s w e s' w' (n + 1)
  step x = record { takes = one_step _ x.takes }

  -- a statement that takes its step and no other
  pub plain : {x : Statement} {s : Scope} {w w' : Stage} {e : Outcome}
      → ((k : ℕ) → act p (call_at p d) x (in_scope k s w) ≡ (e, in_scope k s w'))
      → Executes p d x s w e s w' 1
  plain by = step (record { takes = nothing_taken by })

  -- ---- one statement after another

  -- no statement is left
  pub end : {s : Scope} {w : Stage} → Runs p d NoStatements s w Normal s w 0
  end = record { takes = nothing_taken (λ k. refl) }

  -- a statement, and those after it
  pub next : {x : Statement} {xs : Statements} {s s1 s' : Scope} {w w1 w' : Stage} {e : Outcome}
      {n m : ℕ} → Executes p d x s w Normal s1 w1 n → Runs p d xs s1 w1 e s' w' m
      → Runs p d (MoreStatements x xs) s w e s' w' (n + m)
  unfolding opened
  next x xs = record { takes = normal_then _ x.takes xs.takes }

  -- a statement at which the block is left: for the routine's caller, for the end of the loop, and
  -- for its next turn
  pub returns : {x : Statement} {xs : Statements} {s s' : Scope} {w w' : Stage} {v : ℤ} {n : ℕ}
      → Executes p d x s w (Returns v) s' w' n
      → Runs p d (MoreStatements x xs) s w (Returns v) s' w' n
  unfolding opened
  returns x = record { takes = finally _ (λ j h. tt) x.takes (λ k. refl) }

  pub breaks : {x : Statement} {xs : Statements} {s s' : Scope} {w w' : Stage} {n : ℕ}
      → Executes p d x s w Breaks s' w' n → Runs p d (MoreStatements x xs) s w Breaks s' w' n
  unfolding opened
  breaks x = record { takes = finally _ (λ j h. tt) x.takes (λ k. refl) }

  -- ---- statements without parts

  -- `;`
  pub nothing : {s : Scope} {w : Stage} → Executes p d Empty s w Normal s w 1
  nothing = plain (λ k. refl)

  -- `new_line;`
  pub new_line : {s : Scope} {w : Stage} → Executes p d NewLine s w Normal s (said (10 ∷ []) w) 1
  new_line = step (record { takes = with_said _ (nothing_taken (λ k. refl)) })

  -- `break;`
  pub break : {s : Scope} {w : Stage} → Executes p d Break s w Breaks s w 1
  break = plain (λ k. refl)

  -- `continue;`
  pub continue : {s : Scope} {w : Stage} → Executes p d Continue s w Continues s w 1
  continue = plain (λ k. refl)

  -- `rtrue;`
  pub return_true : {s : Scope} {w : Stage} → Executes p d Rtrue s w (Returns (pos 1)) s w 1
  return_true = plain (λ k. refl)

  -- `rfalse;`
  pub return_false : {s : Scope} {w : Stage} → Executes p d Rfalse s w (Returns (pos 0)) s w 1
  return_false = plain (λ k. refl)

  -- ---- statements with parts

  -- `{ .. }`
  pub block : {xs : Statements} {s s' : Scope} {w w' : Stage} {e : Outcome} {n : ℕ}
      → Runs p d xs s w e s' w' n → Executes p d (Block xs) s w e s' w' (n + 1)
  block xs = step (record { takes = xs.takes })

  -- a change of a variable or an entry
  pub assign : {x : Assignment} {s s' : Scope} {w w' : Stage} {n : ℕ}
      → Changes p d x s w s' w' n → Executes p d (Assign x) s w Normal s' w' (n + 1)
  assign x = step (record { takes = x.takes })

  -- `print ..;`
  pub print : {xs : List PrintItem} {s : Scope} {w w' : Stage} {n : ℕ}
      → Prints p d xs s w w' n → Executes p d (Print xs) s w Normal s w' (n + 1)
  print xs = step (record { takes = xs.takes })

  -- a call whose value is forgotten
  pub call_alone : {name : List ℕ} {xs : Arguments} {s : Scope} {w w' : Stage} {v : ℤ} {n : ℕ}
      → Calls p d name [] xs s w v w' n → Executes p d (Call name xs) s w Normal s w' (n + 1)
  unfolding opened
  call_alone xs = step (record { takes = finally _ (λ j h. tt) xs.takes (λ k. refl) })

  -- `return x;`
  pub return : {x : Expression} {s : Scope} {w w' : Stage} {v : ℤ} {n : ℕ}
      → Evaluates p d x s w v w' n → Executes p d (Return (Some x)) s w (Returns v) s w' (n + 1)
  unfolding opened
  return x = step (record { takes = finally _ (λ j h. tt) x.takes (λ k. refl) })

  -- `if` where its condition holds, and where it doesn't
  pub if_true : {x : Condition} {xs ys : Statements} {s s' : Scope} {w w1 w' : Stage} {e : Outcome}
      {n m : ℕ} → Tests p d x s w true w1 n → Runs p d xs s w1 e s' w' m
      → Executes p d (If x xs ys) s w e s' w' (n + m + 1)
  unfolding opened when
  if_true x xs = step (record { takes = truth_then _ x.takes xs.takes })

  pub if_false : {x : Condition} {xs ys : Statements} {s s' : Scope} {w w1 w' : Stage} {e : Outcome}
      {n m : ℕ} → Tests p d x s w false w1 n → Runs p d ys s w1 e s' w' m
      → Executes p d (If x xs ys) s w e s' w' (n + m + 1)
  unfolding opened when
  if_false x ys = step (record { takes = truth_then _ x.takes ys.takes })

  -- ---- `switch`

  -- the value, and the case for it
  pub switch : {x : Expression} {xs : Cases} {rest : Default} {s s' : Scope} {w w1 w' : Stage}
      {a : ℤ} {e : Outcome} {n m : ℕ} → Evaluates p d x s w a w1 n
      → Leads p d (TheCases a xs rest) s w1 e s' w' m
      → Executes p d (Switch x xs rest) s w e s' w' (n + m + 1)
  unfolding opened
  switch x xs = step (record { takes = value_then _ x.takes xs.takes })

  -- the value fits the first case
  pub this_case : {a : ℤ} {choices : List Choice} {body : Statements} {xs : Cases} {rest : Default}
      {s s' : Scope} {w w' : Stage} {e : Outcome} {n : ℕ} → Fits p a choices true
      → Runs p d body s w e s' w' n
      → Leads p d (TheCases a (MoreCases choices body xs) rest) s w e s' w' n
  this_case fits body = record { takes = chosen _ fits.fits body.takes }

  -- it doesn't, and it is on the later ones
  pub later_case : {a : ℤ} {choices : List Choice} {body : Statements} {xs : Cases} {rest : Default}
      {s s' : Scope} {w w' : Stage} {e : Outcome} {n : ℕ} → Fits p a choices false
      → Leads p d (TheCases a xs rest) s w e s' w' n
      → Leads p d (TheCases a (MoreCases choices body xs) rest) s w e s' w' n
  later_case fits xs = record { takes = not_chosen _ fits.fits xs.takes }

  -- it fits no case
  pub default : {a : ℤ} {body : Statements} {s s' : Scope} {w w' : Stage} {e : Outcome} {n : ℕ}
      → Runs p d body s w e s' w' n
      → Leads p d (TheCases a NoCases (SomeDefault body)) s w e s' w' n
  default body = record { takes = body.takes }

  -- it fits no case, and nothing is done
  pub no_default : {a : ℤ} {s : Scope} {w : Stage}
      → Leads p d (TheCases a NoCases NoDefault) s w Normal s w 0
  no_default = record { takes = nothing_taken (λ k. refl) }

  -- ---- lines

  -- `read a b;` of a line that is there, into a buffer with room for it
  pub read : {a words : List ℕ} {s : Scope} {w : Stage} {xs : List ℤ} {line : List ℕ}
      {lines : List (List ℕ)} → w.arrays a ≡ Some xs → has_room xs ≡ true → w.lines ≡ line ∷ lines
      → Executes p d (Read a words) s w Normal s (line_taken a xs line lines w) 1
  unfolding opened when
  read {a} {s = s} {w} {xs} {line} {lines} there room left = plain (λ k.
      ap (λ b. when b (take_line a) (trap t.Line) (in_scope k s w))
      (ap (λ o. has_room (unwrap_or o [])) there ∙ room)
      ∙ ap (λ ls. line_at ls a (in_scope k s w)) left
      ∙ ap (λ o. (
        Normal,
        in_scope k s (record (line_taken a xs line lines w) {
          arrays = put_by o w.arrays a (filled (unwrap_or o []) line);
        }),
      )) there)
