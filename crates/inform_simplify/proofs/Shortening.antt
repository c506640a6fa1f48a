-- What a statement or a list becomes does what it did, in at most as many steps.
use Rattle.std.proofs.Common.{◌≡◌, ℕ, ℤ, Bool, true, false, List, [], ◌∷◌, Option, Some, None, refl, sym, ap, subst}
use Rattle.inform_tree.specs.declared.widths.Width.{Width}
use Rattle.inform_tree.specs.Values.{Expression}
use Rattle.inform_tree.specs.Conditions.{Condition}
use Rattle.inform_tree.specs.Statements as s
use Rattle.inform_tree.specs.Statements.{Statement, Statements, Cases, Default, Assignment}
use Rattle.inform_meaning.specs.Worlds.{Routine, Program, Config}
use Rattle.inform_meaning.specs.Frames as f
use Rattle.inform_meaning.specs.Frames.{Frame, Begins, Wants, Decides, Truth, Meaning, gives, bind, when, on_normal, on_truth}
use Rattle.inform_meaning.specs.Meaning.{Calls, eval, test, alter_if_any}
use Rattle.inform_meaning.specs.Statements.{while_loop, do_loop, for_loop, loop, fits_any, act, exec_all, exec_cases, exec_default}
use Rattle.inform_meaning.proofs.Going.{Going, bind-going, stays as still-going}
use Rattle.inform_meaning.proofs.GoingTrees.{after_test-going, loop-going, test-going, act-going, exec_all-going}
use Rattle.inform_meaning.proofs.Looping.{loop_once}
use Rattle.inform_simplify.specs.Tests.{truth_of, is_plain_test}
use Rattle.inform_simplify.specs.Redexes.{leaves}
use Rattle.inform_simplify.specs.Simplifying.{is_leaf, Shortens, nothing, each, cut, dropped, Becomes, leaf, in_block, if_true, if_false, if_either, if_open, in_while, in_do, in_for, in_switch, CasesShorten, no_cases, each_case, DefaultShortens, no_default, some_default}
use Rattle.inform_simplify.proofs.Fewer.{plus, Ends, Fewer, first_is, stays, bind-where, when-fewer, on_left-fewer, tick-fewer, tick-skipped, read_line-fewer, saying-fewer}
use Rattle.inform_simplify.proofs.FewerTrees.{value-fewer, truth-fewer, normal-fewer, FewerCalls, body-fewer, loop-fewer, unnoted, eval-fewer, eval_call-fewer, test-fewer, test_if_any-fewer, alter-fewer, alter_if_any-fewer, print_items-fewer}
use Rattle.inform_simplify.proofs.Plain.{no, plain-truth, constant-truth}
use Rattle.inform_simplify.proofs.Leaves.{leaving-leaf}
use Rattle.inform_simplify.proofs.Leaving.{LeftCalls, exec-left}

module _ {b : ℕ} where
  -- a part that the new program leaves out
  left_out : (x : Frame) {m n n' : Meaning} → Fewer b m (gives f.Normal) → Fewer b n n'
      → Fewer b (bind m (on_normal x n)) n'
  unfolding bind on_normal
  left_out x h k = normal-fewer x x h k

  when_true : {m m' : Meaning} (n : Meaning) → Fewer b m m' → Fewer b (when true m n) m'
  unfolding when
  when_true n h = h

  when_false : {n n' : Meaning} (m : Meaning) → Fewer b n n' → Fewer b (when false m n) n'
  unfolding when
  when_false m h = h

  either : {m n m' : Meaning} → Fewer b m m' → Fewer b n m' → (a : Bool)
      → Fewer b (when a m n) m'
  either h k true = when_true _ h
  either h k false = when_false _ k

-- ---- tests that are left out

module _ (p : Program) (call : Calls) (x : Condition) (frame : Frame) (k : Bool → Meaning)
    (before : Going (bind (test p call x) (on_truth frame k))) where
  decided : (c : Config) (a : Bool) → test p call x c ≡ (Truth a, c)
      → bind (test p call x) (on_truth frame k) c ≡ k a c
  unfolding bind on_truth
  decided c a is = ap (λ r. on_truth frame k r.0 r.1) is

  -- one whose truth is known
  known : {b : ℕ} {m' : Meaning} (a : Bool) → truth_of p.width x ≡ Some a → Fewer b (k a) m'
      → Fewer b (bind (test p call x) (on_truth frame k)) m'
  known a is h = first_is before (λ c. decided c a (constant-truth p call c x a is).is) h

  -- and a plain one, where it makes no difference
  indifferent : {b : ℕ} {m' : Meaning} → is_plain_test x ≡ true → Going m'
      → ((a : Bool) → Fewer b (k a) m')
      → Fewer b (bind (test p call x) (on_truth frame k)) m'
  indifferent {b} {m'} is after h = record {
    before = before;
    after = after;
    by = λ c j few. let found = plain-truth p call c x is in
        subst (λ r. Ends j r (m' (plus j c))) (sym (decided c found.truth found.comes.is))
        ((h found.truth).by c j few);
  }

-- a loop that is never entered
skipped : {b : ℕ} (p : Program) (call : Calls) → ((name : List ℕ) (values : List ℤ)
    → Going (call name values)) → (x : Condition) (body : Statements)
    → truth_of p.width x ≡ Some false
    → Fewer b (loop (while_loop x body) (test p call x) (exec_all p call body) (gives f.Normal))
    (gives f.Normal)
skipped p call going x body is = let l = while_loop x body in
    let gx = test-going p call going x in let gb = exec_all-going p call going body in
    first_is (loop-going l (test p call x) (exec_all p call body) (gives f.Normal) gx gb
    still-going)
    (loop_once l (test p call x) (exec_all p call body) (gives f.Normal) gx gb still-going)
    (tick-skipped (Begins (f.TurnDue l)) (known p call x (Decides (f.Testing l)) _
    (bind-going (test p call x) _ gx (after_test-going l (test p call x) (exec_all p call body)
    (gives f.Normal) gx gb still-going _ (loop-going l (test p call x) (exec_all p call body)
    (gives f.Normal) gx gb still-going))) false is (when_false _ stays)))

-- ---- statements

module _ (width : Width) (constants : List ℕ → Option ℤ)
    (routines routines' : List ℕ → Option Routine) where
  abbrev old : Program
  old = unnoted width constants routines

  abbrev new : Program
  new = unnoted width constants routines'

  module _ {b : ℕ} (call call' : Calls) (hc : FewerCalls b call call') (left : LeftCalls call)
    where
      goes : (name : List ℕ) (values : List ℤ) → Going (call name values)
      goes name values = (hc name values).before

      goes' : (name : List ℕ) (values : List ℤ) → Going (call' name values)
      goes' name values = (hc name values).after

      tests : (x : Condition) → Fewer b (test old call x) (test new call' x)
      tests = test-fewer width constants routines routines' call call' hc

      evals : (x : Expression) → Fewer b (eval old call x) (eval new call' x)
      evals = eval-fewer width constants routines routines' call call' hc

      alters : (x : Option Assignment)
          → Fewer b (alter_if_any old call x) (alter_if_any new call' x)
      alters = alter_if_any-fewer width constants routines routines' call call' hc

      going_if : (x : Condition) (body other : Statements)
          → Going (act old call (s.If x body other))
      going_if x body other = act-going old call goes (s.If x body other)

      -- a statement in which no list stands is the same in both
      leaf-fewer : (x : Statement) → is_leaf x ≡ true → Fewer b (act old call x) (act new call' x)
      leaf-fewer s.Empty is = stays
      leaf-fewer (s.Assign x) is =
          alter-fewer width constants routines routines' call call' hc x
      leaf-fewer (s.Call name xs) is = value-fewer (Wants f.Forgets) (Wants f.Forgets)
          (eval_call-fewer width constants routines routines' call call' hc name [] xs)
          (λ a. stays)
      leaf-fewer s.Break is = stays
      leaf-fewer s.Continue is = stays
      leaf-fewer s.Quit is = stays
      leaf-fewer s.Rtrue is = stays
      leaf-fewer s.Rfalse is = stays
      leaf-fewer (s.Return None) is = stays
      leaf-fewer (s.Return (Some x)) is = value-fewer (Wants f.Gives) (Wants f.Gives)
          (evals x) (λ a. stays)
      leaf-fewer s.NewLine is = saying-fewer (10 ∷ []) stays
      leaf-fewer (s.Print xs) is =
          print_items-fewer width constants routines routines' call call' hc xs
      leaf-fewer (s.Read line words) is = read_line-fewer line
      leaf-fewer (s.Block body) is = absurd (no is)
      leaf-fewer (s.If x body other) is = absurd (no is)
      leaf-fewer (s.While x body) is = absurd (no is)
      leaf-fewer (s.Do body x) is = absurd (no is)
      leaf-fewer (s.For first x change body) is = absurd (no is)
      leaf-fewer (s.Switch x xs rest) is = absurd (no is)

      -- what stands after a statement that leaves is left out
      cut-fewer : (x : Statement) (xs : Statements) → leaves x ≡ true
          → Fewer b (exec_all old call (s.MoreStatements x xs))
          (exec_all new call' (s.MoreStatements x s.NoStatements))
      cut-fewer x xs is = bind-where (on_left-fewer (Begins (f.Blocks xs))
          (Begins (f.Blocks s.NoStatements)) (exec_all old call xs) (gives f.Normal)
          (exec_all-going old call goes xs) still-going)
          (λ c. (exec-left old call left x is).by c)
          (tick-fewer (Begins (f.Due x)) (Begins (f.Due x))
          (leaf-fewer x (leaving-leaf x is)))

      -- by what became of the list, and of each statement in it
      mutual
        pub shortens-fewer : {xs xs' : Statements} → Shortens width xs xs'
            → Fewer b (exec_all old call xs) (exec_all new call' xs')
        shortens-fewer nothing = stays
        shortens-fewer (each x x' xs xs' goes h k) =
            normal-fewer (Begins (f.Blocks xs)) (Begins (f.Blocks xs'))
            (tick-fewer (Begins (f.Due x)) (Begins (f.Due x')) (becomes-fewer h))
            (shortens-fewer k)
        shortens-fewer (cut x xs is) = cut-fewer x xs is
        shortens-fewer (dropped x body xs xs' is k) = left_out (Begins (f.Blocks xs))
            (tick-skipped (Begins (f.Due (s.While x body))) (skipped old call goes x body is))
            (shortens-fewer k)

        becomes-fewer : {x x' : Statement} → Becomes width x x'
            → Fewer b (act old call x) (act new call' x')
        becomes-fewer (leaf x is) = leaf-fewer x is
        becomes-fewer (in_block body body' h) = shortens-fewer h
        becomes-fewer (if_true x body other body' is h) =
            known old call x (Decides (f.Branches body other)) _ (going_if x body other) true is
            (when_true _ (shortens-fewer h))
        becomes-fewer (if_false x body other other' is h) =
            known old call x (Decides (f.Branches body other)) _ (going_if x body other) false is
            (when_false _ (shortens-fewer h))
        becomes-fewer (if_either x body other both is h k) =
            indifferent old call x (Decides (f.Branches body other)) _
            (going_if x body other) is (exec_all-going new call' goes' both)
            (either (shortens-fewer h) (shortens-fewer k))
        becomes-fewer (if_open x body other body' other' unknown h k) =
            truth-fewer (Decides (f.Branches body other)) (Decides (f.Branches body' other'))
            (tests x) (λ a. when-fewer a (shortens-fewer h) (shortens-fewer k))
        becomes-fewer (in_while x body body' entered h) =
            loop-fewer (while_loop x body) (while_loop x body') (λ a. refl) b
            (tests x) (shortens-fewer h) stays
        becomes-fewer (in_do body body' x h) =
            body-fewer (do_loop body x) (do_loop body' x) (λ a. refl)
            (tests x) (shortens-fewer h) stays
            (loop-fewer (do_loop body x) (do_loop body' x) (λ a. refl) b (tests x)
            (shortens-fewer h) stays)
        becomes-fewer (in_for first x change body body' h) =
            normal-fewer (Begins (f.TurnDue (for_loop x change body)))
            (Begins (f.TurnDue (for_loop x change body'))) (alters first)
            (loop-fewer (for_loop x change body) (for_loop x change body') (λ a. refl) b
            (test_if_any-fewer width constants routines routines' call call' hc x)
            (shortens-fewer h)
            (alters change))
        becomes-fewer (in_switch x xs xs' rest rest' h k) =
            value-fewer (Wants (f.Picks xs rest)) (Wants (f.Picks xs' rest'))
            (evals x)
            (λ a. cases-fewer a h (default-fewer k))

        cases-fewer : (a : ℤ) {xs xs' : Cases} → CasesShorten width xs xs'
            → {rest rest' : Meaning} → Fewer b rest rest'
            → Fewer b (exec_cases old call a xs rest) (exec_cases new call' a xs' rest')
        cases-fewer a no_cases h = h
        cases-fewer a (each_case choices body body' xs xs' k ks) h =
            when-fewer (fits_any old a choices) (shortens-fewer k) (cases-fewer a ks h)

        default-fewer : {x x' : Default} → DefaultShortens width x x'
            → Fewer b (exec_default old call x) (exec_default new call' x')
        default-fewer no_default = stays
        default-fewer (some_default body body' h) = shortens-fewer h
