-- Worked examples: small programs, and the routines that they enter.
use Rattle.std.specs.Prelude.{◌≡◌, ℕ, List, [], ◌∷◌, codes, Some}
use Rattle.inform_tree.specs.declared.widths.Width.TheVariants.{W16}
use Rattle.inform_tree.specs.declared.values.Const.TheVariants as k
use Rattle.inform_tree.specs.Values as v
use Rattle.inform_tree.specs.Statements as s
use Rattle.inform_tree.specs.Statements.{Statement, statements}
use Rattle.inform_tree.specs.Programs as d
use Rattle.inform_tree.specs.Programs.{DirectiveTree}
use Rattle.inform_entered.specs.Entered.{entered}

abbrev routine : List ℕ → List Statement → DirectiveTree
routine name body = d.Routine (record { name = name; locals = []; body = statements body })

abbrev call : List ℕ → Statement
call name = s.Call name v.NoArguments

-- what such a program enters in so many steps
abbrev Enters : List DirectiveTree → ℕ → List ℕ → Type 0
Enters ds steps numbers = entered W16 ds steps [] [] ≡ numbers

-- `[ F; print "f"; ]; Global g = 5; [ Main; F(); g = 6; F(); ];`
abbrev twice : List DirectiveTree
twice =
    routine (codes "f") (s.Print (s.Text (codes "f") ∷ []) ∷ [])
    ∷ d.Global (codes "g") (Some (k.Number 5))
    ∷ routine (codes "main")
    (call (codes "f") ∷ s.Assign (s.Set (codes "g") (v.Number 6)) ∷ call (codes "f") ∷ []) ∷ []

-- a statement that calls takes a step, and the call one more, which enters the routine
abbrev pub CallsEnter : Type 0
CallsEnter = Enters twice 1 [] × Enters twice 2 (0 ∷ []) × Enters twice 5 (0 ∷ [])
    × Enters twice 6 (0 ∷ 0 ∷ []) × Enters twice 9 (0 ∷ 0 ∷ [])

-- `[ E; ]; [ F; E(); ]; [ Main; F(); E(); ];`
abbrev emptied : List DirectiveTree
emptied = routine (codes "e") [] ∷ routine (codes "f") (call (codes "e") ∷ [])
    ∷ routine (codes "main") (call (codes "f") ∷ call (codes "e") ∷ []) ∷ []

-- a routine whose body is empty is never open after a step
abbrev pub EmptyBodiesAreNotEntered : Type 0
EmptyBodiesAreNotEntered = Enters emptied 9 (1 ∷ [])

-- `[ F; quit; ]; [ Main; F(); F(); ];`
abbrev ended : List DirectiveTree
ended = routine (codes "f") (s.Quit ∷ [])
    ∷ routine (codes "main") (call (codes "f") ∷ call (codes "f") ∷ []) ∷ []

-- what stands after the end isn't entered
abbrev pub EndsAreKept : Type 0
EndsAreKept = Enters ended 9 (0 ∷ [])
