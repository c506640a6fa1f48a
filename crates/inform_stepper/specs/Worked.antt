-- Worked examples: a small program that pauses where a routine is entered, or at each third step.
use Rattle.std.specs.Prelude.{◌≡◌, ℕ, List, [], ◌∷◌, ◌++◌, codes, Some}
use Rattle.adv_io.specs.History.{says}
use Rattle.inform_tree.specs.declared.widths.Width.TheVariants.{W16}
use Rattle.inform_tree.specs.declared.values.Const.TheVariants as k
use Rattle.inform_tree.specs.Values as v
use Rattle.inform_tree.specs.Statements as s
use Rattle.inform_tree.specs.Statements.{Statement, statements}
use Rattle.inform_tree.specs.Programs as d
use Rattle.inform_tree.specs.Programs.{DirectiveTree}
use Rattle.inform_meaning.specs.Programs.{no_notes, run_of}
use Rattle.inform_stepper.specs.declared.pauses.Until.TheVariants as u
use Rattle.inform_stepper.specs.declared.repeats.Pausing.TheVariants as r
use Rattle.inform_stepper.specs.Pauses.{Run}
use Rattle.inform_stepper.specs.Shown.{step_shown, pause_text}
use Rattle.inform_stepper.specs.Repeats.{waited, globals_of}

abbrev routine : List ℕ → List Statement → DirectiveTree
routine name body = d.Routine (record { name = name; locals = []; body = statements body })

abbrev call : List ℕ → Statement
call name = s.Call name v.NoArguments

-- `[ F; print "f"; ]; Global g = 5; [ Main; F(); g = 6; F(); ];`
abbrev twice : List DirectiveTree
twice =
    routine (codes "f") (s.Print (s.Text (codes "f") ∷ []) ∷ [])
    ∷ d.Global (codes "g") (Some (k.Number 5))
    ∷ routine (codes "main")
    (call (codes "f") ∷ s.Assign (s.Set (codes "g") (v.Number 6)) ∷ call (codes "f") ∷ []) ∷ []

abbrev run : Run
run n = run_of W16 twice no_notes n [] []

-- it pauses at each of the two calls, before the routine prints
abbrev pub CallsPause : Type 0
CallsPause = step_shown (pause_text (λ n. u.Routine 0) (codes "g" ∷ []) 0 run) run 9
    ≡ says (codes "[step 2: g=5]" ++ 10 ∷ codes "f[step 6: g=6]" ++ 10 ∷ codes "f")

-- it pauses at the third and the sixth of its seven steps: a routine prints in the third
abbrev pub ThirdsPause : Type 0
ThirdsPause = step_shown (pause_text (waited (r.Every 3)) (globals_of twice) 0 run) run 9
    ≡ says (codes "f[step 3: g=5]" ++ 10 ∷ codes "[step 6: g=6]" ++ 10 ∷ codes "f")
