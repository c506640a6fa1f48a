-- The worked examples hold by computing.
use Rattle.std.proofs.Common.{ℕ, List, [], ◌∷◌, refl, codes}
use Rattle.inform_tree.specs.Statements as s
use Rattle.inform_tree.specs.Statements.{statements}
use Rattle.inform_tree.specs.declared.widths.Width.TheVariants.{W16}
use Rattle.inform_meaning.proofs.Opened.{opened}
use Rattle.inform_simplify.specs.Redexes.{IsOpenIf, AreReduced}
use Rattle.inform_simplify.specs.Simplifying.{Shortens, nothing, each, cut, dropped, leaf, if_true, if_open, routine, ProgramShortens, no_directives, each_directive}
use Rattle.inform_simplify.specs.Worked.{print, are_equal, known_test, one_block, never_entered, calls_f, calling_test, main, KnownTestsGo, ClosedLoopsGo, CallsStay}
use Rattle.inform_simplify.proofs.Plain.{no}

-- the list of one statement in which no list stands
alone : (text : List ℕ) → Shortens W16 (statements (print text ∷ [])) (statements (print text ∷ []))
alone text = each (print text) (print text) s.NoStatements s.NoStatements refl
    (leaf (print text) refl) nothing

known_test_goes : ProgramShortens W16 known_test one_block
known_test_goes = each_directive _ _ _ _ (routine _ _ (each _ _ _ _ refl
    (if_true (are_equal 1 1) _ _ _ refl (alone (codes "a"))) (cut s.Quit _ refl))) no_directives

pub known_tests_go : KnownTestsGo
unfolding opened
known_tests_go = (known_test_goes, refl, refl)

closed_loop_goes : ProgramShortens W16 never_entered (main (print (codes "z") ∷ []))
closed_loop_goes = each_directive _ _ _ _ (routine _ _ (dropped (are_equal 1 2) _ _ _ refl
    (alone (codes "z")))) no_directives

pub closed_loops_go : ClosedLoopsGo
unfolding opened
closed_loops_go = (closed_loop_goes, refl, refl)

-- a list of one statement in which no list stands has no redex
alone_reduced : (text : List ℕ) → AreReduced W16 (statements (print text ∷ []))
alone_reduced text = (tt, (λ leaves. refl), tt)

-- the test is neither constant nor plain
test_is_open : IsOpenIf W16 calls_f (statements (print (codes "a") ∷ []))
    (statements (print (codes "a") ∷ []))
test_is_open = record { unknown = refl; different = λ plain same. no plain }

calling_test_stays : ProgramShortens W16 calling_test calling_test
calling_test_stays = each_directive _ _ _ _ (routine _ _ (alone (codes "x")))
    (each_directive _ _ _ _ (routine _ _ (each _ _ _ _ refl
    (if_open calls_f _ _ _ _ test_is_open (alone (codes "a")) (alone (codes "a"))) nothing))
    no_directives)

pub calls_stay : CallsStay
unfolding opened
calls_stay = let body = alone_reduced (codes "a") in (
  (alone_reduced (codes "x"), (((test_is_open, body, body), (λ leaves. refl), tt), tt)),
  calling_test_stays,
  refl,
)
