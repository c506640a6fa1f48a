-- The frames of the program, as the meaning has them.
use Rattle.std.specs.Prelude.{ℕ, ◌+◌, List, [], ◌∷◌, ◌++◌, Option, Some, None, option_map, map, ⊤}
use Rattle.inform_tree.specs.Values.{expression_of, arguments_of, terms_of, factors_of}
use Rattle.inform_tree.specs.Conditions.{condition_of, conditions_of}
use Rattle.inform_tree.specs.Statements.{assignment_of, print_item_of, statement_of, statements_of, cases_of}
use Rattle.inform_tree.specs.Statements as s
use Rattle.inform_tree.specs.declared.statements.Stmt.{Stmt}
use denote.Ref.{Bor}
use Rattle.std.specs.Global.{Vec}
use Rattle.inform_meaning.specs.Worlds as m
use Rattle.inform_meaning.specs.Frames as f
use Rattle.inform_worlds.specs.declared.scopes.Scope.{Scope}
use Rattle.inform_worlds.specs.Scopes.{scope_of, values_of}
use Rattle.inform_frames.specs.declared.signals.Halt.{Halt}
use Rattle.inform_frames.specs.declared.signals.Halt.TheVariants as h
use Rattle.inform_frames.specs.declared.signals.Signal.{Signal}
use Rattle.inform_frames.specs.declared.signals.Signal.TheVariants as g
use Rattle.inform_frames.specs.declared.frames.Loop.{Loop}
use Rattle.inform_frames.specs.declared.frames.Begin.{Begin}
use Rattle.inform_frames.specs.declared.frames.Begin.TheVariants as b
use Rattle.inform_frames.specs.declared.frames.Want.{Want}
use Rattle.inform_frames.specs.declared.frames.Want.TheVariants as w
use Rattle.inform_frames.specs.declared.frames.Decide.{Decide}
use Rattle.inform_frames.specs.declared.frames.Decide.TheVariants as d
use Rattle.inform_frames.specs.declared.frames.Frame.{Frame}
use Rattle.inform_frames.specs.declared.frames.Frame.TheVariants as x

abbrev pub halt_of : Halt → f.Halt
halt_of h.Quits = f.Quits
halt_of (h.Trapped kind directive) = f.Trapped kind directive

abbrev pub signal_of : Signal → f.Outcome
signal_of (g.Value a) = f.Value a
signal_of (g.Truth b) = f.Truth b
signal_of g.Normal = f.Normal
signal_of (g.Returns a) = f.Returns a
signal_of g.Breaks = f.Breaks
signal_of g.Continues = f.Continues
signal_of (g.Halts halt) = f.Halts (halt_of halt)

abbrev pub loop_of : Loop → f.Loop
loop_of l = record {
  test = option_map (λ x. condition_of x.now) l.test;
  goes_on = l.goes_on;
  change = option_map (λ x. assignment_of x.now) l.change;
  body = statements_of l.body.now.items;
}

abbrev pub begin_of : Begin → f.Begin
begin_of (b.Evals x) = f.Evals (expression_of x.now)
begin_of (b.DrawDue n) = f.DrawDue n
begin_of (b.Tests x) = f.Tests (condition_of x.now)
begin_of (b.Alters x) = f.Alters (assignment_of x.now)
begin_of (b.Due x) = f.Due (statement_of x.now)
begin_of (b.Blocks xs) = f.Blocks (statements_of xs.now)
begin_of (b.Prints xs) = f.Prints (map print_item_of xs.now)
begin_of (b.LineDue name) = f.LineDue name.now

-- what a `switch` does where no case fits
abbrev pub default_of : Option (Bor (Vec Stmt)) → s.Default
default_of None = s.NoDefault
default_of (Some body) = s.SomeDefault (statements_of body.now.items)

-- the same of the statement
abbrev pub default_tree : Option (Vec Stmt) → s.Default
default_tree None = s.NoDefault
default_tree (Some body) = s.SomeDefault (statements_of body.items)

abbrev pub want_of : Want → f.Want
want_of (w.IndexOf name) = f.IndexOf name.now
want_of w.RangeOf = f.RangeOf
want_of w.Negates = f.Negates
want_of (w.SumFrom xs) = f.SumFrom (terms_of xs.now)
want_of (w.SumOnto op a xs) = f.SumOnto op a (terms_of xs.now)
want_of (w.ProductFrom xs) = f.ProductFrom (factors_of xs.now)
want_of (w.ProductOnto op a xs) = f.ProductOnto op a (factors_of xs.now)
want_of (w.LeftOf relation y) = f.LeftOf relation (expression_of y.now)
want_of (w.RightOf relation a) = f.RightOf relation a
want_of w.IsNonzero = f.IsNonzero
want_of (w.Sets name) = f.Sets name.now
want_of (w.PlaceOf name words y) = f.PlaceOf name.now words (expression_of y.now)
want_of (w.Stores name words i) = f.Stores name.now words i
want_of w.Forgets = f.Forgets
want_of (w.Picks xs rest) = f.Picks (cases_of xs.now.items) (default_of rest)
want_of w.Gives = f.Gives
want_of (w.SaysNumber xs) = f.SaysNumber (map print_item_of xs.now)
want_of (w.SaysChar xs) = f.SaysChar (map print_item_of xs.now)

abbrev pub decide_of : Decide → f.Decide
decide_of (d.AllOf xs) = f.AllOf (conditions_of xs.now)
decide_of (d.AnyOf xs) = f.AnyOf (conditions_of xs.now)
decide_of d.Flips = f.Flips
decide_of (d.Branches body other) =
    f.Branches (statements_of body.now.items) (statements_of other.now.items)

-- a frame that is no caller's; one of those is given its scope in `frame_in`
abbrev pub frame_of : Frame → f.Frame
frame_of (x.Begins y) = f.Begins (begin_of y)
frame_of (x.CallDue name values) = f.Begins (f.CallDue name.now (values_of values))
frame_of (x.Wants y) = f.Wants (want_of y)
frame_of (x.Args name values xs) =
    f.Wants (f.Args name.now (values_of values) (arguments_of xs.now))
frame_of (x.Decides y) = f.Decides (decide_of y)
frame_of (x.TurnDue l) = f.Begins (f.TurnDue (loop_of l))
frame_of (x.Testing l) = f.Decides (f.Testing (loop_of l))
frame_of (x.Looping l) = f.Looping (loop_of l)
frame_of x.Calling = f.Main
frame_of x.Main = f.Main
frame_of (x.Over halt) = f.Over (halt_of halt)

-- no caller waits in this frame
abbrev pub IsPlain : Frame → Type 0
IsPlain x.Calling = ⊥
IsPlain x = ⊤

-- any frame: where a caller waits in it, this is its scope
abbrev pub frame_in : m.Scope → Frame → f.Frame
frame_in scope x.Calling = f.Calling scope
frame_in scope x = frame_of x

-- a caller waits in this frame
abbrev pub IsCaller : f.Frame → Type 0
IsCaller (f.Calling scope) = ⊤
IsCaller x = ⊥

-- the scope of no routine
abbrev pub no_scope : m.Scope
no_scope = record { directive = 0; locals = [] }

-- the scope of the caller that waits in a frame
abbrev pub caller_of : f.Frame → m.Scope
caller_of (f.Calling scope) = scope
caller_of x = no_scope

-- ---- the frames of a stack, innermost first

-- how many callers wait in frames
abbrev pub callers_in : List Frame → ℕ
callers_in [] = 0
callers_in (x.Calling ∷ xs) = callers_in xs + 1
callers_in (x ∷ xs) = callers_in xs

-- the scope of the first of these callers
abbrev pub scope_in : List Scope → m.Scope
scope_in [] = no_scope
scope_in (scope ∷ scopes) = scope_of scope

-- the scopes of the callers in the frames after one
abbrev pub scopes_after : Frame → List Scope → List Scope
scopes_after x.Calling [] = []
scopes_after x.Calling (scope ∷ scopes) = scopes
scopes_after x scopes = scopes

-- those of the outermost frames, and of the callers in them, from the outermost one on
abbrev pub frames_of : List Frame → List Scope → List f.Frame
frames_of [] scopes = []
frames_of (x ∷ xs) scopes =
    frames_of xs (scopes_after x scopes) ++ frame_in (scope_in scopes) x ∷ []

-- the innermost; `Main` where there is none
abbrev pub top_of : List f.Frame → f.Frame
top_of [] = f.Main
top_of (x ∷ xs) = x

-- all but the innermost
abbrev pub rest_of : List f.Frame → List f.Frame
rest_of [] = []
rest_of (x ∷ xs) = xs
