-- Redexes, the places that can be simplified, and statements and programs that have none at any
-- depth.
use Rattle.std.specs.Prelude.{◌≡◌, Bool, true, false, not, ⊤, List, [], ◌∷◌, Option, Some, None}
use Rattle.inform_tree.specs.declared.widths.Width.{Width}
use Rattle.inform_tree.specs.Conditions.{Condition}
use Rattle.inform_tree.specs.Statements as s
use Rattle.inform_tree.specs.Statements.{Statement, Statements, Cases, Default}
use Rattle.inform_tree.specs.Programs as d
use Rattle.inform_tree.specs.Programs.{DirectiveTree}
use Rattle.inform_simplify.specs.Tests.{truth_of, is_plain_test}

-- ---- redexes

-- what stands after such a statement in its list is never done
abbrev pub leaves : Statement → Bool
leaves s.Break = true
leaves s.Continue = true
leaves s.Quit = true
leaves s.Rtrue = true
leaves s.Rfalse = true
leaves (s.Return x) = true
leaves x = false

abbrev pub is_known_false : Option Bool → Bool
is_known_false None = false
is_known_false (Some a) = not a

-- a `while` whose test is constant and false
abbrev pub is_never_entered : Width → Statement → Bool
is_never_entered width (s.While test body) = is_known_false (truth_of width test)
is_never_entered width x = false

-- an `if` whose test isn't constant, and whose two lists are different if its test is plain
pub record IsOpenIf (width : Width) (test : Condition) (body other : Statements) : Type 0 where
  pub unknown : truth_of width test ≡ None
  pub different : is_plain_test test ≡ true → body ≡ other → ⊥

-- a `while` whose test isn't constant and false
abbrev pub IsOpenWhile : Width → Condition → Type 0
IsOpenWhile width test = truth_of width test ≡ Some false → ⊥

-- nothing stands after a statement that leaves
abbrev pub IsLastIfItLeaves : Statement → Statements → Type 0
IsLastIfItLeaves x xs = leaves x ≡ true → xs ≡ s.NoStatements

-- ---- without a redex, at any depth

abbrev mutual
  pub IsReduced : Width → Statement → Type 0
  IsReduced width (s.Block body) = AreReduced width body
  IsReduced width (s.If test body other) =
      IsOpenIf width test body other × AreReduced width body × AreReduced width other
  IsReduced width (s.While test body) = IsOpenWhile width test × AreReduced width body
  IsReduced width (s.Do body test) = AreReduced width body
  IsReduced width (s.For first test change body) = AreReduced width body
  IsReduced width (s.Switch x xs rest) = CasesReduced width xs × DefaultReduced width rest
  IsReduced width x = ⊤

  pub AreReduced : Width → Statements → Type 0
  AreReduced width s.NoStatements = ⊤
  AreReduced width (s.MoreStatements x xs) =
      IsReduced width x × IsLastIfItLeaves x xs × AreReduced width xs

  pub CasesReduced : Width → Cases → Type 0
  CasesReduced width s.NoCases = ⊤
  CasesReduced width (s.MoreCases choices body xs) = AreReduced width body × CasesReduced width xs

  pub DefaultReduced : Width → Default → Type 0
  DefaultReduced width s.NoDefault = ⊤
  DefaultReduced width (s.SomeDefault body) = AreReduced width body

abbrev pub DirectiveReduced : Width → DirectiveTree → Type 0
DirectiveReduced width (d.Routine r) = AreReduced width r.body
DirectiveReduced width other = ⊤

-- no routine of the program has a redex
abbrev pub HasNoRedex : Width → List DirectiveTree → Type 0
HasNoRedex width [] = ⊤
HasNoRedex width (x ∷ xs) = DirectiveReduced width x × HasNoRedex width xs
