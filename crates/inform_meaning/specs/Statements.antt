-- What statements mean.
use Rattle.std.specs.Prelude.{ℕ, zero, suc, ℤ, pos, Bool, true, false, not, if◌then◌else◌, List, [], ◌∷◌, Option, Some, None}
use Rattle.inform_tree.specs.declared.values.Const.{Const}
use Rattle.inform_tree.specs.declared.values.Const.TheVariants as k
use Rattle.inform_tree.specs.Conditions.{Condition}
use Rattle.inform_tree.specs.Statements as s
use Rattle.inform_tree.specs.Statements.{Statement, Statements, Cases, Default, Assignment, Choice}
use Rattle.std.specs.Option.{unwrap_or}
use Rattle.inform_names.specs.Words.{minus_word}
use Rattle.inform_meaning.specs.Words.{number_word, is_between}
use Rattle.inform_meaning.specs.Worlds.{Program}
use Rattle.inform_meaning.specs.Frames.{Due, Blocks, TurnDue, Loop, Forgets, Picks, Gives, Branches, Testing, Quits, Begins, Wants, Decides, Looping, Spent, Outcome, Normal, Returns, Breaks, Continues, Halts, Waits, Meaning, gives, bind, when, on_normal, on_value, on_truth, on_body}
use Rattle.inform_meaning.specs.Parts.{tick, saying, read_line}
use Rattle.inform_meaning.specs.Meaning.{Calls, eval, eval_call, test, test_if_any, alter, alter_if_any, print_items}

-- ---- loops: three kinds of statements, one meaning

abbrev pub while_loop : Condition → Statements → Loop
while_loop x body = record { test = Some x; goes_on = true; change = None; body = body }

-- up to a test that is true
abbrev pub do_loop : Statements → Condition → Loop
do_loop body x = record { test = Some x; goes_on = false; change = None; body = body }

abbrev pub for_loop : Option Condition → Option Assignment → Statements → Loop
for_loop x change body = record { test = x; goes_on = true; change = change; body = body }

abbrev pub loop_goes_on : Loop → Bool → Bool
loop_goes_on l b = if b then l.goes_on else not l.goes_on

-- after the body: the change, and more turns
abbrev pub after_body : Loop → Meaning → Meaning → Outcome → Meaning
after_body l change more = on_body (Looping l) (bind change (on_normal (Begins (TurnDue l)) more))

-- after the test: the body, or the end of the loop
abbrev pub after_test : Loop → Meaning → Meaning → Meaning → Outcome → Meaning
after_test l body change more = on_truth (Decides (Testing l))
    (λ b. when (loop_goes_on l b) (bind body (after_body l change more)) (gives Normal))

-- turns of a loop: each takes a step for its test, so that there are no more of them than steps
unfoldable pub turns : Loop → Meaning → Meaning → Meaning → ℕ → Meaning
turns l x body change zero c = (Waits Spent (Begins (TurnDue l) ∷ []), c)
turns l x body change (suc n) c =
    tick (Begins (TurnDue l)) (bind x (after_test l body change (turns l x body change n))) c

abbrev pub loop : Loop → Meaning → Meaning → Meaning → Meaning
loop l x body change = λ c. turns l x body change c.steps c

-- ---- the cases of a `switch`

abbrev pub constant_value : Program → Const → ℤ
constant_value p (k.Number n) = number_word p.width n
constant_value p (k.Char byte) = pos byte
constant_value p (k.Name name) = unwrap_or (p.constants name) (pos 0)
constant_value p (k.Minus n) = minus_word p.width n

-- one value, or a range of them
abbrev pub fits_choice : Program → ℤ → Choice → Bool
fits_choice p a (first, None) = is_between (constant_value p first) (constant_value p first) a
fits_choice p a (first, Some last) = is_between (constant_value p first) (constant_value p last) a

abbrev pub fits_any : Program → ℤ → List Choice → Bool
fits_any p a [] = false
fits_any p a (x ∷ xs) = if fits_choice p a x then true else fits_any p a xs

-- ---- statements

abbrev mutual
  -- what a statement does after its step
  pub act : Program → Calls → Statement → Meaning
  act p call s.Empty = gives Normal
  act p call (s.Block body) = exec_all p call body
  act p call (s.Assign x) = alter p call x
  act p call (s.Call name xs) =
      bind (eval_call p call name [] xs) (on_value (Wants Forgets) (λ a. gives Normal))
  act p call (s.If x body other) = bind (test p call x)
      (on_truth (Decides (Branches body other))
      (λ b. when b (exec_all p call body) (exec_all p call other)))
  act p call (s.While x body) =
      loop (while_loop x body) (test p call x) (exec_all p call body) (gives Normal)
  act p call (s.Do body x) = bind (exec_all p call body)
      (after_body (do_loop body x) (gives Normal)
      (loop (do_loop body x) (test p call x) (exec_all p call body) (gives Normal)))
  act p call (s.For first x change body) = bind (alter_if_any p call first)
      (on_normal (Begins (TurnDue (for_loop x change body)))
      (loop (for_loop x change body) (test_if_any p call x) (exec_all p call body)
      (alter_if_any p call change)))
  act p call (s.Switch x xs rest) = bind (eval p call x)
      (on_value (Wants (Picks xs rest)) (λ a. exec_cases p call a xs (exec_default p call rest)))
  act p call s.Break = gives Breaks
  act p call s.Continue = gives Continues
  act p call s.Quit = gives (Halts Quits)
  act p call s.Rtrue = gives (Returns (pos 1))
  act p call s.Rfalse = gives (Returns (pos 0))
  act p call (s.Return None) = gives (Returns (pos 1))
  act p call (s.Return (Some x)) =
      bind (eval p call x) (on_value (Wants Gives) (λ a. gives (Returns a)))
  act p call s.NewLine = saying (10 ∷ []) (gives Normal)
  act p call (s.Print xs) = print_items p call xs
  act p call (s.Read line words) = read_line line

  pub exec_all : Program → Calls → Statements → Meaning
  exec_all p call s.NoStatements = gives Normal
  exec_all p call (s.MoreStatements x xs) = bind (tick (Begins (Due x)) (act p call x))
      (on_normal (Begins (Blocks xs)) (exec_all p call xs))

  -- the first case that fits a value, or what is done where none does
  pub exec_cases : Program → Calls → ℤ → Cases → Meaning → Meaning
  exec_cases p call a s.NoCases rest = rest
  exec_cases p call a (s.MoreCases choices body xs) rest =
      when (fits_any p a choices) (exec_all p call body) (exec_cases p call a xs rest)

  pub exec_default : Program → Calls → Default → Meaning
  exec_default p call s.NoDefault = gives Normal
  exec_default p call (s.SomeDefault body) = exec_all p call body

-- one step, and what the statement does
abbrev pub exec : Program → Calls → Statement → Meaning
exec p call x = tick (Begins (Due x)) (act p call x)

-- ---- a turn of a loop, as it goes on by itself

-- more turns of a loop
abbrev pub turns_of : Program → Calls → Loop → Meaning
turns_of p call l =
    loop l (test_if_any p call l.test) (exec_all p call l.body) (alter_if_any p call l.change)

abbrev pub body_done : Program → Calls → Loop → Outcome → Meaning
body_done p call l = after_body l (alter_if_any p call l.change) (turns_of p call l)

abbrev pub test_done : Program → Calls → Loop → Outcome → Meaning
test_done p call l =
    after_test l (exec_all p call l.body) (alter_if_any p call l.change) (turns_of p call l)
