-- How much may be done without a step. Each move that takes none leaves less of it.
use Rattle.std.specs.Prelude.{ℕ, ◌+◌, List, [], ◌∷◌, Option, Some, None}
use Rattle.inform_tree.specs.Values as v
use Rattle.inform_tree.specs.Values.{Expression, Arguments, Terms, Factors}
use Rattle.inform_tree.specs.Conditions as d
use Rattle.inform_tree.specs.Conditions.{Condition, Conditions}
use Rattle.inform_tree.specs.Statements as s
use Rattle.inform_tree.specs.Statements.{Statements, Cases, Default, Assignment, PrintItem}
use Rattle.inform_meaning.specs.Frames as f
use Rattle.inform_meaning.specs.Frames.{Loop, Begin, Want, Decide, Frame, Begins, Wants, Decides, Looping, Calling, Main, Over}

abbrev mutual
  pub expression_work : Expression → ℕ
  expression_work (v.Number n) = 1
  expression_work (v.Char byte) = 1
  expression_work (v.Name name) = 1
  expression_work (v.Entry name words index) = expression_work index + 2
  expression_work (v.Call name xs) = arguments_work xs + 2
  expression_work (v.Random x) = expression_work x + 3
  expression_work (v.Neg x) = expression_work x + 2
  expression_work (v.Sum x xs) = expression_work x + (terms_work xs + 2)
  expression_work (v.Product x xs) = expression_work x + (factors_work xs + 2)

  pub arguments_work : Arguments → ℕ
  arguments_work v.NoArguments = 0
  arguments_work (v.MoreArguments x xs) = expression_work x + (arguments_work xs + 3)

  pub terms_work : Terms → ℕ
  terms_work v.NoTerms = 0
  terms_work (v.MoreTerms op x xs) = expression_work x + (terms_work xs + 2)

  pub factors_work : Factors → ℕ
  factors_work v.NoFactors = 0
  factors_work (v.MoreFactors op x xs) = expression_work x + (factors_work xs + 2)

abbrev mutual
  pub condition_work : Condition → ℕ
  condition_work (d.Compare relation x y) = expression_work x + (expression_work y + 3)
  condition_work (d.Nonzero x) = expression_work x + 2
  condition_work (d.All xs) = conditions_work xs + 1
  condition_work (d.Any xs) = conditions_work xs + 1
  condition_work (d.Not x) = condition_work x + 2

  pub conditions_work : Conditions → ℕ
  conditions_work d.NoConditions = 0
  conditions_work (d.MoreConditions x xs) = condition_work x + (conditions_work xs + 2)

abbrev pub assignment_work : Assignment → ℕ
assignment_work (s.Set name x) = expression_work x + 2
assignment_work (s.SetEntry name words x y) = expression_work x + (expression_work y + 3)
assignment_work (s.Inc name) = 1
assignment_work (s.Dec name) = 1

abbrev pub change_work : Option Assignment → ℕ
change_work None = 0
change_work (Some x) = assignment_work x

abbrev pub items_work : List PrintItem → ℕ
items_work [] = 0
items_work (s.Text text ∷ xs) = items_work xs + 1
items_work (s.Value x ∷ xs) = expression_work x + (items_work xs + 2)
items_work (s.Char x ∷ xs) = expression_work x + (items_work xs + 2)

-- a statement takes a step before it is done
abbrev pub block_work : Statements → ℕ
block_work s.NoStatements = 1
block_work (s.MoreStatements x xs) = block_work xs + 2

abbrev pub cases_work : Cases → ℕ
cases_work s.NoCases = 0
cases_work (s.MoreCases choices body xs) = block_work body + cases_work xs

abbrev pub default_work : Default → ℕ
default_work s.NoDefault = 0
default_work (s.SomeDefault body) = block_work body

-- ---- frames

abbrev pub begin_work : Begin → ℕ
begin_work (f.Evals x) = expression_work x
begin_work (f.CallDue name values) = 1
begin_work (f.DrawDue n) = 1
begin_work (f.Tests x) = condition_work x
begin_work (f.Alters x) = assignment_work x
begin_work (f.Due x) = 1
begin_work (f.Blocks xs) = block_work xs
begin_work (f.Prints xs) = items_work xs + 1
begin_work (f.LineDue name) = 1
begin_work (f.TurnDue l) = 1

abbrev pub want_work : Want → ℕ
want_work (f.IndexOf name) = 1
want_work (f.Args name values xs) = arguments_work xs + 2
want_work f.RangeOf = 2
want_work f.Negates = 1
want_work (f.SumFrom xs) = terms_work xs + 1
want_work (f.SumOnto op a xs) = terms_work xs + 1
want_work (f.ProductFrom xs) = factors_work xs + 1
want_work (f.ProductOnto op a xs) = factors_work xs + 1
want_work (f.LeftOf relation y) = expression_work y + 2
want_work (f.RightOf relation a) = 1
want_work f.IsNonzero = 1
want_work (f.Sets name) = 1
want_work (f.PlaceOf name words y) = expression_work y + 2
want_work (f.Stores name words i) = 1
want_work f.Forgets = 1
want_work (f.Picks xs rest) = cases_work xs + (default_work rest + 1)
want_work f.Gives = 1
want_work (f.SaysNumber xs) = items_work xs + 2
want_work (f.SaysChar xs) = items_work xs + 2

abbrev pub loop_work : Loop → ℕ
loop_work l = change_work l.change + 2

abbrev pub decide_work : Decide → ℕ
decide_work (f.AllOf xs) = conditions_work xs + 1
decide_work (f.AnyOf xs) = conditions_work xs + 1
decide_work f.Flips = 1
decide_work (f.Branches body other) = block_work body + (block_work other + 1)
decide_work (f.Testing l) = block_work l.body + (loop_work l + 1)

abbrev pub work : Frame → ℕ
work (Begins x) = begin_work x
work (Wants x) = want_work x
work (Decides x) = decide_work x
work (Looping l) = loop_work l
work (Calling scope) = 1
work Main = 1
work (Over halt) = 1

abbrev pub works : List Frame → ℕ
works [] = 0
works (x ∷ xs) = work x + works xs
