-- Values, conditions, changes and the items of `print` where calls take fewer steps, and loops of
-- which the parts do.
use Rattle.std.proofs.Common.{◌≡◌, arith, ℕ, zero, suc, ℤ, Bool, List, [], ◌∷◌, Option, Some, None, sym, subst}
use Rattle.std.specs.Fmt.{signed_decimal}
use Rattle.inform_tree.specs.declared.widths.Width.{Width}
use Rattle.inform_tree.specs.Values as v
use Rattle.inform_tree.specs.Values.{Expression, Arguments, Terms, Factors}
use Rattle.inform_tree.specs.Conditions as d
use Rattle.inform_tree.specs.Conditions.{Condition, Conditions}
use Rattle.inform_tree.specs.Statements as s
use Rattle.inform_tree.specs.Statements.{Assignment, PrintItem}
use Rattle.inform_meaning.specs.declared.traps.Trap.TheVariants as t
use Rattle.inform_meaning.specs.Words.{summed, multiplied, low_byte}
use Rattle.inform_meaning.specs.Worlds.{Routine, Program, Config, with_argument}
use Rattle.inform_meaning.specs.Frames as f
use Rattle.inform_meaning.specs.Frames.{Loop, Frame, Begins, Wants, Decides, Looping, Meaning, gives, bind, when, on_normal, on_value, on_truth, on_body}
use Rattle.inform_meaning.specs.Meaning.{Calls, on_product, eval, eval_call, eval_sum, eval_product, test, test_all, test_any, test_if_any, alter, alter_if_any, print_items}
use Rattle.inform_meaning.specs.Statements.{loop_goes_on, after_body, after_test, turns, loop}
use Rattle.inform_meaning.specs.Programs.{no_notes}
use Rattle.inform_meaning.proofs.Going.{Going}
use Rattle.inform_meaning.proofs.GoingTrees.{loop-going}
use Rattle.inform_meaning.proofs.Looping.{turn, loop_once}
use Rattle.inform_simplify.proofs.Fewer.{plus, Ends, spent, By, Fewer, fewer, stays, acts, bind-fewer, when-fewer, on_normal-fewer, on_value-fewer, on_truth-fewer, on_body-fewer, tick-more, tick-fewer, trap-fewer, random_to-fewer, changes-fewer, fetch-fewer, store-fewer, saying-fewer}

module _ {b : ℕ} (f f' : Frame) where
  -- a part that is evaluated or tested, and what is done with it
  pub value-fewer : {m m' : Meaning} {k k' : ℤ → Meaning} → Fewer b m m'
      → ((a : ℤ) → Fewer b (k a) (k' a))
      → Fewer b (bind m (on_value f k)) (bind m' (on_value f' k'))
  value-fewer h hk = bind-fewer h (on_value-fewer f f' hk)

  pub truth-fewer : {m m' : Meaning} {k k' : Bool → Meaning} → Fewer b m m'
      → ((a : Bool) → Fewer b (k a) (k' a))
      → Fewer b (bind m (on_truth f k)) (bind m' (on_truth f' k'))
  truth-fewer h hk = bind-fewer h (on_truth-fewer f f' hk)

  pub normal-fewer : {m m' n n' : Meaning} → Fewer b m m' → Fewer b n n'
      → Fewer b (bind m (on_normal f n)) (bind m' (on_normal f' n'))
  normal-fewer h k = bind-fewer h (on_normal-fewer f f' k)

abbrev pub FewerCalls : ℕ → Calls → Calls → Type 0
FewerCalls b call call' =
    (name : List ℕ) (values : List ℤ) → Fewer b (call name values) (call' name values)

on_product-fewer : {b : ℕ} (o : Option ℤ) {k k' : ℤ → Meaning}
    → ((a : ℤ) → Fewer b (k a) (k' a)) → Fewer b (on_product o k) (on_product o k')
on_product-fewer None h = trap-fewer t.Division
on_product-fewer (Some a) h = h a

-- ---- loops, which may differ in their bodies alone

module _ (l l' : Loop) (same : (a : Bool) → loop_goes_on l a ≡ loop_goes_on l' a) where
  module _ {b : ℕ} {x x' body body' change change' : Meaning} (hx : Fewer b x x')
      (hb : Fewer b body body') (hc : Fewer b change change') where
    pub body-fewer : {m m' : Meaning} → Fewer b m m'
        → Fewer b (bind body (after_body l change m)) (bind body' (after_body l' change' m'))
    body-fewer h = bind-fewer hb (on_body-fewer (Looping l) (Looping l')
        (normal-fewer (Begins (f.TurnDue l)) (Begins (f.TurnDue l')) hc h))

    turn-fewer : {m m' : Meaning} → Fewer b m m'
        → Fewer b (bind x (after_test l body change m)) (bind x' (after_test l' body' change' m'))
    turn-fewer {m} {m'} h = truth-fewer (Decides (f.Testing l)) (Decides (f.Testing l')) hx
        (λ a. subst (λ goes. Fewer b (when (loop_goes_on l a) (bind body (after_body l change m))
        (gives f.Normal)) (when goes (bind body' (after_body l' change' m')) (gives f.Normal)))
        (same a) (when-fewer (loop_goes_on l a) (body-fewer h) stays))

  -- by the steps that are left to the old loop, since each turn takes one
  pub loop-fewer : (b : ℕ) {x x' body body' change change' : Meaning} → Fewer b x x'
      → Fewer b body body' → Fewer b change change'
      → Fewer b (loop l x body change) (loop l' x' body' change')
  unfolding turns
  loop-fewer b {x} {x'} {body} {body'} {change} {change'} hx hb hc = record {
    before = loop-going l x body change hx.before hb.before hc.before;
    after = after;
    by = at b hx hb hc;
  } where
    after : Going (loop l' x' body' change')
    after = loop-going l' x' body' change' hx.after hb.after hc.after

    no_turn : (c : Config) (k : ℕ) → c.steps ≡ 0
        → Ends k (loop l x body change c) (loop l' x' body' change' (plus k c))
    no_turn c k none = subst (λ n. Ends k (turns l x body change n c)
        (loop l' x' body' change' (plus k c))) (sym none) (let more = after (plus k c) in
        spent (Begins (f.TurnDue l) ∷ []) c _ more.events more.past)

    -- the loop's next turn, and then the loop with a step less
    at : (b : ℕ) → Fewer b x x' → Fewer b body body' → Fewer b change change'
        → By b (loop l x body change) (loop l' x' body' change')
    at zero hx hb hc c k few = no_turn c k (omega (arith, few))
    at (suc b) hx hb hc c k few = let x_fewer = fewer (omega arith) hx in
        let body_fewer = fewer (omega arith) hb in let change_fewer = fewer (omega arith) hc in
        subst (λ r. Ends k r (loop l' x' body' change' (plus k c)))
        (sym (loop_once l x body change hx.before hb.before hc.before c))
        (subst (λ r. Ends k (turn l x body change hx.before hb.before hc.before
        (loop l x body change) c) r)
        (sym (loop_once l' x' body' change' hx.after hb.after hc.after (plus k c)))
        ((tick-more (Begins (f.TurnDue l)) (Begins (f.TurnDue l'))
        (turn-fewer x_fewer body_fewer change_fewer (record {
          before = loop-going l x body change hx.before hb.before hc.before;
          after = after;
          by = at b x_fewer body_fewer change_fewer;
        }))).by c k few))

-- ---- values, conditions, changes and items

-- a program of which nothing is noted
abbrev pub unnoted : Width → (List ℕ → Option ℤ) → (List ℕ → Option Routine) → Program
unnoted width constants routines = record {
  width = width;
  constants = constants;
  routines = routines;
  notes = no_notes;
}

-- two programs that differ in their routines alone
module _ (width : Width) (constants : List ℕ → Option ℤ)
    (routines routines' : List ℕ → Option Routine) where
  abbrev old : Program
  old = unnoted width constants routines

  abbrev new : Program
  new = unnoted width constants routines'

  module _ {b : ℕ} (call call' : Calls) (hc : FewerCalls b call call') where
    -- what is the same tree in both differs in its calls alone
    mutual
      pub eval-fewer : (x : Expression)
          → Fewer b (eval old call x) (eval new call' x)
      eval-fewer (v.Number n) = stays
      eval-fewer (v.Char byte) = stays
      eval-fewer (v.Name name) = acts _ (λ w. w)
      eval-fewer (v.Entry name words index) =
          value-fewer (Wants (f.IndexOf name)) (Wants (f.IndexOf name)) (eval-fewer index)
          (fetch-fewer name)
      eval-fewer (v.Call name xs) = eval_call-fewer name [] xs
      eval-fewer (v.Random x) =
          value-fewer (Wants f.RangeOf) (Wants f.RangeOf) (eval-fewer x) random_to-fewer
      eval-fewer (v.Neg x) =
          value-fewer (Wants f.Negates) (Wants f.Negates) (eval-fewer x) (λ a. stays)
      eval-fewer (v.Sum x xs) = value-fewer (Wants (f.SumFrom xs)) (Wants (f.SumFrom xs))
          (eval-fewer x) (λ a. eval_sum-fewer a xs)
      eval-fewer (v.Product x xs) =
          value-fewer (Wants (f.ProductFrom xs)) (Wants (f.ProductFrom xs)) (eval-fewer x)
          (λ a. eval_product-fewer a xs)

      pub eval_call-fewer : (name : List ℕ) (values : List ℤ) (xs : Arguments)
          → Fewer b (eval_call old call name values xs)
          (eval_call new call' name values xs)
      eval_call-fewer name values v.NoArguments = tick-fewer (Begins (f.CallDue name values))
          (Begins (f.CallDue name values)) (hc name values)
      eval_call-fewer name values (v.MoreArguments x xs) =
          value-fewer (Wants (f.Args name values xs)) (Wants (f.Args name values xs))
          (eval-fewer x) (λ a. eval_call-fewer name (with_argument values a) xs)

      eval_sum-fewer : (a : ℤ) (xs : Terms)
          → Fewer b (eval_sum old call a xs) (eval_sum new call' a xs)
      eval_sum-fewer a v.NoTerms = stays
      eval_sum-fewer a (v.MoreTerms op x xs) =
          value-fewer (Wants (f.SumOnto op a xs)) (Wants (f.SumOnto op a xs)) (eval-fewer x)
          (λ c. eval_sum-fewer (summed width op a c) xs)

      eval_product-fewer : (a : ℤ) (xs : Factors)
          → Fewer b (eval_product old call a xs) (eval_product new call' a xs)
      eval_product-fewer a v.NoFactors = stays
      eval_product-fewer a (v.MoreFactors op x xs) =
          value-fewer (Wants (f.ProductOnto op a xs)) (Wants (f.ProductOnto op a xs))
          (eval-fewer x)
          (λ c. on_product-fewer (multiplied width op a c) (λ e. eval_product-fewer e xs))

    mutual
      pub test-fewer : (x : Condition)
          → Fewer b (test old call x) (test new call' x)
      test-fewer (d.Compare relation x y) =
          value-fewer (Wants (f.LeftOf relation y)) (Wants (f.LeftOf relation y)) (eval-fewer x)
          (λ a. value-fewer (Wants (f.RightOf relation a)) (Wants (f.RightOf relation a))
          (eval-fewer y) (λ c. stays))
      test-fewer (d.Nonzero x) =
          value-fewer (Wants f.IsNonzero) (Wants f.IsNonzero) (eval-fewer x) (λ a. stays)
      test-fewer (d.All xs) = test_all-fewer xs
      test-fewer (d.Any xs) = test_any-fewer xs
      test-fewer (d.Not x) =
          truth-fewer (Decides f.Flips) (Decides f.Flips) (test-fewer x) (λ a. stays)

      test_all-fewer : (xs : Conditions)
          → Fewer b (test_all old call xs) (test_all new call' xs)
      test_all-fewer d.NoConditions = stays
      test_all-fewer (d.MoreConditions x xs) =
          truth-fewer (Decides (f.AllOf xs)) (Decides (f.AllOf xs)) (test-fewer x)
          (λ a. when-fewer a (test_all-fewer xs) stays)

      test_any-fewer : (xs : Conditions)
          → Fewer b (test_any old call xs) (test_any new call' xs)
      test_any-fewer d.NoConditions = stays
      test_any-fewer (d.MoreConditions x xs) =
          truth-fewer (Decides (f.AnyOf xs)) (Decides (f.AnyOf xs)) (test-fewer x)
          (λ a. when-fewer a stays (test_any-fewer xs))

    pub test_if_any-fewer : (x : Option Condition)
        → Fewer b (test_if_any old call x) (test_if_any new call' x)
    test_if_any-fewer None = stays
    test_if_any-fewer (Some x) = test-fewer x

    pub alter-fewer : (x : Assignment)
        → Fewer b (alter old call x) (alter new call' x)
    alter-fewer (s.Set name x) = value-fewer (Wants (f.Sets name)) (Wants (f.Sets name))
        (eval-fewer x) (λ a. changes-fewer _)
    alter-fewer (s.SetEntry name words x y) =
        value-fewer (Wants (f.PlaceOf name words y)) (Wants (f.PlaceOf name words y))
        (eval-fewer x)
        (λ i. value-fewer (Wants (f.Stores name words i)) (Wants (f.Stores name words i))
        (eval-fewer y) (store-fewer name words i))
    alter-fewer (s.Inc name) = changes-fewer _
    alter-fewer (s.Dec name) = changes-fewer _

    pub alter_if_any-fewer : (x : Option Assignment)
        → Fewer b (alter_if_any old call x) (alter_if_any new call' x)
    alter_if_any-fewer None = stays
    alter_if_any-fewer (Some x) = alter-fewer x

    pub print_items-fewer : (xs : List PrintItem)
        → Fewer b (print_items old call xs) (print_items new call' xs)
    print_items-fewer [] = stays
    print_items-fewer (s.Text text ∷ xs) = saying-fewer text (print_items-fewer xs)
    print_items-fewer (s.Value x ∷ xs) =
        value-fewer (Wants (f.SaysNumber xs)) (Wants (f.SaysNumber xs)) (eval-fewer x)
        (λ a. saying-fewer (signed_decimal a) (print_items-fewer xs))
    print_items-fewer (s.Char x ∷ xs) =
        value-fewer (Wants (f.SaysChar xs)) (Wants (f.SaysChar xs)) (eval-fewer x)
        (λ a. saying-fewer (low_byte a ∷ []) (print_items-fewer xs))
