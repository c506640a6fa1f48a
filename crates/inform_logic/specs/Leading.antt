-- What a part of a program does, by its syntax: where it leads, and in how many steps at most.
use Rattle.std.specs.Prelude.{◌≡◌, ℕ, ◌≤◌, ℤ, pos, Bool, List, Option, Some}
use Rattle.inform_tree.specs.Values.{Expression, Arguments, Terms, Factors}
use Rattle.inform_tree.specs.Conditions.{Condition, Conditions}
use Rattle.inform_tree.specs.Statements.{Statement, Statements, Cases, Default, Assignment, PrintItem, Choice}
use Rattle.inform_meaning.specs.Worlds.{Program, Scope}
use Rattle.inform_meaning.specs.Frames.{Loop, Lack, Spent, Outcome, Value, Truth, Normal, Returns, Waits, Meaning}
use Rattle.inform_meaning.specs.Meaning.{eval, eval_call, eval_sum, eval_product, test_all, test_any, test_if_any, alter_if_any, print_items}
use Rattle.inform_meaning.specs.Statements.{fits_any, act, exec, exec_all, exec_cases, exec_default, turns_of, test_done, body_done}
use Rattle.inform_meaning.specs.Runs.{call_at}
use Rattle.inform_logic.specs.Stages.{plus, Stage, in_scope}

-- which steps may be left after an outcome: none where a step is wanted, and else any
abbrev pub lack_leaves : Lack → ℕ → Type 0
lack_leaves Spent k = k ≡ 0
lack_leaves lack k = Unit {0}

abbrev pub Leaves : Outcome → ℕ → Type 0
Leaves (Waits lack fs) k = lack_leaves lack k
Leaves e k = Unit {0}

-- a meaning takes its steps from this scope and stage, and leads to this outcome, scope and stage
pub record Takes (m : Meaning) (s : Scope) (w : Stage) (e : Outcome) (s' : Scope) (w' : Stage)
    (most : ℕ) : Type 0 where
  pub steps : ℕ
  pub few : steps ≤ most
  pub by : (k : ℕ) → Leaves e k → m (in_scope (plus steps k) s w) ≡ (e, in_scope k s' w')

-- ---- the parts of a program

pub data Part : Type 0 where
  TheValue : Expression → Part
  -- a call, with the arguments that are known and those to come
  TheCall : List ℕ → List ℤ → Arguments → Part
  -- a sum and a product, with what is known and what is to come
  TheSum : ℤ → Terms → Part
  TheProduct : ℤ → Factors → Part
  TheTest : Option Condition → Part
  TheAll : Conditions → Part
  TheAny : Conditions → Part
  TheChange : Option Assignment → Part
  TheItems : List PrintItem → Part
  TheAct : Statement → Part  -- a statement whose step is taken
  TheStatement : Statement → Part
  TheBlock : Statements → Part
  TheCases : ℤ → Cases → Default → Part
  TheTurns : Loop → Part
  AfterTest : Loop → Bool → Part  -- a turn whose test had this truth value
  AfterBody : Loop → Outcome → Part  -- a turn whose body had this outcome

-- what a part means where so many more calls may be open
abbrev pub meaning_of : Program → ℕ → Part → Meaning
meaning_of p d (TheValue x) = eval p (call_at p d) x
meaning_of p d (TheCall name values xs) = eval_call p (call_at p d) name values xs
meaning_of p d (TheSum a xs) = eval_sum p (call_at p d) a xs
meaning_of p d (TheProduct a xs) = eval_product p (call_at p d) a xs
meaning_of p d (TheTest x) = test_if_any p (call_at p d) x
meaning_of p d (TheAll xs) = test_all p (call_at p d) xs
meaning_of p d (TheAny xs) = test_any p (call_at p d) xs
meaning_of p d (TheChange x) = alter_if_any p (call_at p d) x
meaning_of p d (TheItems xs) = print_items p (call_at p d) xs
meaning_of p d (TheAct x) = act p (call_at p d) x
meaning_of p d (TheStatement x) = exec p (call_at p d) x
meaning_of p d (TheBlock xs) = exec_all p (call_at p d) xs
meaning_of p d (TheCases a xs rest) =
    exec_cases p (call_at p d) a xs (exec_default p (call_at p d) rest)
meaning_of p d (TheTurns l) = turns_of p (call_at p d) l
meaning_of p d (AfterTest l b) = test_done p (call_at p d) l (Truth b)
meaning_of p d (AfterBody l e) = body_done p (call_at p d) l e

-- a part leads from this scope and stage to this outcome, scope and stage
pub record Leads (p : Program) (d : ℕ) (part : Part) (s : Scope) (w : Stage) (e : Outcome)
    (s' : Scope) (w' : Stage) (most : ℕ) : Type 0 where
  pub takes : Takes (meaning_of p d part) s w e s' w' most

-- ---- the parts by their kinds; the stage after them comes last, before the bound

-- an expression has this value
abbrev pub Evaluates : Program → ℕ → Expression → Scope → Stage → ℤ → Stage → ℕ → Type 0
Evaluates p d x s w v w' most = Leads p d (TheValue x) s w (Value v) s w' most

-- a call, with the arguments that are known and those to come, has this value
abbrev pub Calls : Program → ℕ → List ℕ → List ℤ → Arguments → Scope → Stage → ℤ → Stage → ℕ
    → Type 0
Calls p d name values xs s w v w' most = Leads p d (TheCall name values xs) s w (Value v) s w' most

-- a sum and a product, with what is known and what is to come, have this value
abbrev pub Sums : Program → ℕ → ℤ → Terms → Scope → Stage → ℤ → Stage → ℕ → Type 0
Sums p d a xs s w v w' most = Leads p d (TheSum a xs) s w (Value v) s w' most

abbrev pub Multiplies : Program → ℕ → ℤ → Factors → Scope → Stage → ℤ → Stage → ℕ → Type 0
Multiplies p d a xs s w v w' most = Leads p d (TheProduct a xs) s w (Value v) s w' most

-- a condition, which may be absent, has this truth value
abbrev pub TestsIfAny : Program → ℕ → Option Condition → Scope → Stage → Bool → Stage → ℕ → Type 0
TestsIfAny p d x s w b w' most = Leads p d (TheTest x) s w (Truth b) s w' most

abbrev pub Tests : Program → ℕ → Condition → Scope → Stage → Bool → Stage → ℕ → Type 0
Tests p d x = TestsIfAny p d (Some x)

-- all of these conditions hold or not, and one of these does or not
abbrev pub TestsAll : Program → ℕ → Conditions → Scope → Stage → Bool → Stage → ℕ → Type 0
TestsAll p d xs s w b w' most = Leads p d (TheAll xs) s w (Truth b) s w' most

abbrev pub TestsAny : Program → ℕ → Conditions → Scope → Stage → Bool → Stage → ℕ → Type 0
TestsAny p d xs s w b w' most = Leads p d (TheAny xs) s w (Truth b) s w' most

-- a change, which may be absent, leads to this scope and stage
abbrev pub ChangesIfAny : Program → ℕ → Option Assignment → Scope → Stage → Scope → Stage → ℕ
    → Type 0
ChangesIfAny p d x s w s' w' most = Leads p d (TheChange x) s w Normal s' w' most

abbrev pub Changes : Program → ℕ → Assignment → Scope → Stage → Scope → Stage → ℕ → Type 0
Changes p d x = ChangesIfAny p d (Some x)

-- the items of a `print` lead to this stage
abbrev pub Prints : Program → ℕ → List PrintItem → Scope → Stage → Stage → ℕ → Type 0
Prints p d xs s w w' most = Leads p d (TheItems xs) s w Normal s w' most

-- a statement, a block and the turns of a loop lead to this outcome, scope and stage
abbrev pub Executes : Program → ℕ → Statement → Scope → Stage → Outcome → Scope → Stage → ℕ
    → Type 0
Executes p d x = Leads p d (TheStatement x)

abbrev pub Runs : Program → ℕ → Statements → Scope → Stage → Outcome → Scope → Stage → ℕ → Type 0
Runs p d xs = Leads p d (TheBlock xs)

abbrev pub Loops : Program → ℕ → Loop → Scope → Stage → Outcome → Scope → Stage → ℕ → Type 0
Loops p d l = Leads p d (TheTurns l)

-- whether a value fits one of these choices
pub record Fits (p : Program) (a : ℤ) (choices : List Choice) (b : Bool) : Type 0 where
  pub fits : fits_any p a choices ≡ b

-- ---- routines

-- what the body of a routine gives: 1 at its end, and what it returns
pub data BodyGives : Outcome → ℤ → Type 0 where
  at_end : BodyGives Normal (pos 1)
  by_return : {v : ℤ} → BodyGives (Returns v) v

-- a call of a routine with these arguments gives this value, whatever the caller's scope, which
-- comes back
pub record Does (p : Program) (d : ℕ) (name : List ℕ) (values : List ℤ) (w : Stage) (v : ℤ)
    (w' : Stage) (most : ℕ) : Type 0 where
  pub takes : (s : Scope) → Takes (call_at p d name values) s w (Value v) s w' most
