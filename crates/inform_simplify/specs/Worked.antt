-- Worked examples: small programs, what they shorten to, and how both run.
use Rattle.std.specs.Prelude.{◌≡◌, ℕ, List, [], ◌∷◌, codes}
use Rattle.adv_io.specs.History.{says}
use Rattle.adv_io.specs.Steps.{trace_of}
use Rattle.adv_io.specs.declared.events.Event.{Event}
use Rattle.inform_tree.specs.declared.widths.Width.TheVariants.{W16}
use Rattle.inform_tree.specs.declared.conditions.Relation.TheVariants.{Eq}
use Rattle.inform_tree.specs.Values as v
use Rattle.inform_tree.specs.Conditions as c
use Rattle.inform_tree.specs.Conditions.{Condition}
use Rattle.inform_tree.specs.Statements as s
use Rattle.inform_tree.specs.Statements.{Statement, statements}
use Rattle.inform_tree.specs.Programs as d
use Rattle.inform_tree.specs.Programs.{DirectiveTree}
use Rattle.inform_meaning.specs.Frames.{Outcome, Quits}
use Rattle.inform_meaning.specs.Worlds.{Config}
use Rattle.inform_meaning.specs.Runs.{Stop, Halted, stop_of}
use Rattle.inform_meaning.specs.Programs.{no_notes, run_of}
use Rattle.inform_simplify.specs.Redexes.{HasNoRedex}
use Rattle.inform_simplify.specs.Simplifying.{ProgramShortens}

abbrev pub routine : List ℕ → List Statement → DirectiveTree
routine name body = d.Routine (record { name = name; locals = []; body = statements body })

abbrev pub main : List Statement → List DirectiveTree
main body = routine (codes "main") body ∷ []

abbrev pub print : List ℕ → Statement
print text = s.Print (s.Text text ∷ [])

-- `m == n`
abbrev pub are_equal : ℕ → ℕ → Condition
are_equal m n = c.Compare Eq (v.Number m) (v.Number n)

abbrev pub if_else : Condition → Statement → Statement → Statement
if_else test x y = s.If test (statements (x ∷ [])) (statements (y ∷ []))

-- the program says this and ends, and of 9 steps so many are left
abbrev ended : Outcome × Config → Stop × List Event × ℕ
ended r = (stop_of r.0, trace_of r.1.past, r.1.steps)

abbrev Says : List DirectiveTree → List ℕ → ℕ → Type 0
Says ds text left = ended (run_of W16 ds no_notes 9 [] []) ≡ (Halted Quits, says text, left)

-- `[ Main; if (1 == 1) { print "a"; } else { print "b"; } quit; print "c"; ];`
abbrev pub known_test : List DirectiveTree
known_test = main (if_else (are_equal 1 1) (print (codes "a")) (print (codes "b")) ∷ s.Quit
    ∷ print (codes "c") ∷ [])

-- `[ Main; { print "a"; } quit; ];`
abbrev pub one_block : List DirectiveTree
one_block = main (s.Block (statements (print (codes "a") ∷ [])) ∷ s.Quit ∷ [])

-- a known test becomes the one block, and what stands after `quit` goes
abbrev pub KnownTestsGo : Type 0
KnownTestsGo = ProgramShortens W16 known_test one_block × Says known_test (codes "a") 6
    × Says one_block (codes "a") 6

-- `[ Main; while (1 == 2) { print "a"; } print "z"; ];`
abbrev pub never_entered : List DirectiveTree
never_entered = main (s.While (are_equal 1 2) (statements (print (codes "a") ∷ []))
    ∷ print (codes "z") ∷ [])

-- a `while` that is never entered goes, and its two steps with it
abbrev pub ClosedLoopsGo : Type 0
ClosedLoopsGo = ProgramShortens W16 never_entered (main (print (codes "z") ∷ []))
    × Says never_entered (codes "z") 6 × Says (main (print (codes "z") ∷ [])) (codes "z") 8

-- `F() == 1`
abbrev pub calls_f : Condition
calls_f = c.Compare Eq (v.Call (codes "f") v.NoArguments) (v.Number 1)

-- `[ F; print "x"; ]; [ Main; if (F() == 1) { print "a"; } else { print "a"; } ];`
abbrev pub calling_test : List DirectiveTree
calling_test = routine (codes "f") (print (codes "x") ∷ [])
    ∷ main (if_else calls_f (print (codes "a")) (print (codes "a")) ∷ [])

-- a test with a call in it stays, whatever its two lists are
abbrev pub CallsStay : Type 0
CallsStay = HasNoRedex W16 calling_test × ProgramShortens W16 calling_test calling_test
    × Says calling_test (codes "xa") 5
