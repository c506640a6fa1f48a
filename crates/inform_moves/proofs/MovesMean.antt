-- What a frame does with an outcome is what its move does.
use Rattle.std.proofs.Common.{◌≡◌, ◌∙◌, ℕ, zero, suc, ℤ, pos, Bool, true, false, List, [], ◌∷◌, Option, Some, None, refl, ap}
use Rattle.std.specs.Prelude.{int_lt, if◌then◌else◌}
use Rattle.inform_meaning.specs.declared.traps.Trap.TheVariants as t
use Rattle.inform_tree.specs.Values as v
use Rattle.inform_tree.specs.Values.{Expression, Arguments, Terms, Factors}
use Rattle.inform_tree.specs.Conditions as d
use Rattle.inform_tree.specs.Conditions.{Condition, Conditions}
use Rattle.inform_tree.specs.Statements as s
use Rattle.inform_tree.specs.Statements.{Statement, Statements, Cases, Default, Assignment, PrintItem}
use Rattle.inform_meaning.specs.Words.{summed, multiplied, compares, low_byte}
use Rattle.std.specs.Fmt.{signed_decimal}
use Rattle.inform_meaning.specs.Worlds.{Program, Routine, Config, assigned, entries_of, entry_at, has_room, with_argument, stored, scope_of}
use Rattle.inform_meaning.specs.Frames as f
use Rattle.inform_meaning.specs.Frames.{Loop, Begin, Want, Decide, Frame, Begins, Wants, Decides, Looping, Calling, Main, Over, Outcome, Value, Truth, Normal, Returns, Breaks, Continues, Halts, Waits, Meaning, bind, when, on_normal, on_value, on_truth, gives}
use Rattle.inform_meaning.specs.Parts as parts
use Rattle.inform_meaning.specs.Parts.{tick, tick_at, trap, entry_by, fetch, store, take_draw, take_line, random_to, read_line}
use Rattle.inform_meaning.specs.Meaning.{eval, eval_call, eval_sum, eval_product, on_product, test, test_all, test_any, test_if_any, alter, alter_if_any, print_items}
use Rattle.inform_meaning.specs.Statements.{while_loop, do_loop, for_loop, loop_goes_on, fits_any, after_test, exec, exec_all, exec_cases, exec_default, turns_of, body_done}
use Rattle.inform_meaning.specs.Runs.{noted_body, enter, call_at, start, use_value, use_truth, hand}
use Rattle.inform_meaning.proofs.Opened.{opened}
use Rattle.inform_meaning.proofs.Looping.{loop_once}
use Rattle.inform_meaning.proofs.GoingTrees.{test_if_any-going, exec_all-going, alter_if_any-going}
use Rattle.inform_meaning.proofs.GoingRuns.{call_at-going}
use Rattle.inform_meaning.proofs.Splitting.{Settled}
use Rattle.inform_moves.specs.Immediate.{immediate_value, immediate_sum, immediate_product, immediate_arguments, immediate_truth}
use Rattle.inform_moves.specs.Moves.{Effect, Keeps, Says, Enters, Move, Goes, Ticks, Reads, Draws, at_once, done, goes_to, goes_with, evals, alters, says_move, argument_parts, arguments_move, sum_parts, sum_move, product_parts, product_move, factor_move, value_parts, eval_move, all_move, any_move, truth_parts, test_move, alter_move, prints_move, enter_move, call_move, ticked, turn_test, turn_move, picked_move, change_frames, call_parts, call_alone, tested_move, branch_move, switch_move, return_move, read_move, statement_move, block_move, default_move, cases_move, begin_move, entry_move, store_by, store_move, place_move, range_move, value_move, truth_move, next}
use Rattle.inform_moves.specs.Done.{going, move_done}
use Rattle.inform_moves.proofs.Needing.{Quiet, turn_test-quiet, alter-quiet, call_alone-quiet, branch-quiet, switch-quiet, return-quiet}
use Rattle.inform_moves.proofs.Immediate.{Gives, after-value, after-truth, eval-gives, sum-gives, product_from-gives, test-gives, IsDue, call-due}

module _ (p : Program) (n : ℕ) (y : Frame) where
  -- a move of the frame y means this
  abbrev Means : Move → Meaning → Config → Type 0
  Means move m c = m c ≡ move_done p n y move c

  -- what is there at once is what the part gives
  whole-means : {X : Type 0} (e : X → Outcome) (o : Option X) (m : Meaning) (move : Move) (c : Config)
      → Gives e o m c → Means move m c → Means (at_once o (λ a. done (e a)) move) m c
  unfolding opened
  whole-means e None m move c g h = h
  whole-means e (Some a) m move c g h = g

  -- a value that is there at once is used at once, and so is a truth value
  value_first-means : (o : Option ℤ) (z : Frame) (m : Meaning) (k : ℤ → Meaning) (follow : ℤ → Move) (move : Move) (c : Config)
      → Gives Value o m c → ((a : ℤ) → Means (follow a) (k a) c) → Means move (bind m (on_value z k)) c
      → Means (at_once o follow move) (bind m (on_value z k)) c
  value_first-means None z m k follow move c g h t = t
  value_first-means (Some a) z m k follow move c g h t = after-value z m k a c g ∙ h a

  truth_first-means : (o : Option Bool) (z : Frame) (m : Meaning) (k : Bool → Meaning) (follow : Bool → Move) (move : Move) (c : Config)
      → Gives Truth o m c → ((b : Bool) → Means (follow b) (k b) c) → Means move (bind m (on_truth z k)) c
      → Means (at_once o follow move) (bind m (on_truth z k)) c
  truth_first-means None z m k follow move c g h t = t
  truth_first-means (Some b) z m k follow move c g h t = after-truth z m k b c g ∙ h b

  argument_parts-mean : (name : List ℕ) (values : List ℤ) (xs : Arguments) (c : Config)
      → Means (argument_parts name values xs) (eval_call p (call_at p n) name values xs) c
  unfolding opened
  argument_parts-mean name values v.NoArguments c = refl
  argument_parts-mean name values (v.MoreArguments x xs) c = refl

  arguments-mean : (name : List ℕ) (values : List ℤ) (xs : Arguments) (c : Config)
      → Means (arguments_move p c.world name values xs) (eval_call p (call_at p n) name values xs) c
  unfolding opened
  arguments-mean name values xs c =
      by (immediate_arguments p c.world values xs) (call-due p (call_at p n) c name values xs) where
        by : (o : Option (List ℤ)) → IsDue p (call_at p n) c o name (eval_call p (call_at p n) name values xs)
            → Means (at_once o (λ all. goes_to (Begins (f.CallDue name all))) (argument_parts name values xs)) (eval_call p (call_at p n) name values xs) c
        by None d = argument_parts-mean name values xs c
        by (Some all) d = d

  sum_parts-mean : (a : ℤ) (xs : Terms) (c : Config)
      → Means (sum_parts a xs) (eval_sum p (call_at p n) a xs) c
  unfolding opened
  sum_parts-mean a v.NoTerms c = refl
  sum_parts-mean a (v.MoreTerms op x xs) c = refl

  sum-means : (a : ℤ) (xs : Terms) (c : Config)
      → Means (sum_move p c.world a xs) (eval_sum p (call_at p n) a xs) c
  sum-means a xs c =
      whole-means Value (immediate_sum p c.world a xs) (eval_sum p (call_at p n) a xs) (sum_parts a xs) c
      (sum-gives p (call_at p n) c a xs) (sum_parts-mean a xs c)

  product_parts-mean : (a : ℤ) (xs : Factors) (c : Config)
      → Means (product_parts a xs) (eval_product p (call_at p n) a xs) c
  unfolding opened
  product_parts-mean a v.NoFactors c = refl
  product_parts-mean a (v.MoreFactors op x xs) c = refl

  product-means : (a : ℤ) (xs : Factors) (c : Config)
      → Means (product_move p c.world a xs) (eval_product p (call_at p n) a xs) c
  product-means a xs c =
      whole-means Value (immediate_product p c.world a xs) (eval_product p (call_at p n) a xs) (product_parts a xs) c
      (product_from-gives p (call_at p n) c a xs) (product_parts-mean a xs c)

  factor-means : (o : Option ℤ) (xs : Factors) (c : Config)
      → Means (factor_move p c.world o xs) (on_product o (λ a. eval_product p (call_at p n) a xs)) c
  unfolding opened
  factor-means None xs c = refl
  factor-means (Some a) xs c = product-means a xs c

  -- the move to the parts of an expression means what the expression does
  value_parts-mean : (x : Expression) (c : Config)
      → Means (value_parts p c.world x) (eval p (call_at p n) x) c
  unfolding opened
  value_parts-mean (v.Number m) c = refl
  value_parts-mean (v.Char byte) c = refl
  value_parts-mean (v.Name name) c = refl
  value_parts-mean (v.Entry name words index) c = refl
  value_parts-mean (v.Call name xs) c = arguments-mean name [] xs c
  value_parts-mean (v.Random x) c = refl
  value_parts-mean (v.Neg x) c = refl
  value_parts-mean (v.Sum x xs) c = refl
  value_parts-mean (v.Product x xs) c = refl

  eval-means : (x : Expression) (c : Config)
      → Means (eval_move p c.world x) (eval p (call_at p n) x) c
  eval-means x c =
      whole-means Value (immediate_value p c.world x) (eval p (call_at p n) x) (value_parts p c.world x) c
      (eval-gives p (call_at p n) c x) (value_parts-mean x c)

  all-means : (xs : Conditions) (c : Config) → Means (all_move xs) (test_all p (call_at p n) xs) c
  unfolding opened
  all-means d.NoConditions c = refl
  all-means (d.MoreConditions x xs) c = refl

  any-means : (xs : Conditions) (c : Config) → Means (any_move xs) (test_any p (call_at p n) xs) c
  unfolding opened
  any-means d.NoConditions c = refl
  any-means (d.MoreConditions x xs) c = refl

  truth_parts-mean : (x : Condition) (c : Config)
      → Means (truth_parts x) (test p (call_at p n) x) c
  unfolding opened
  truth_parts-mean (d.Compare relation x y) c = refl
  truth_parts-mean (d.Nonzero x) c = refl
  truth_parts-mean (d.All xs) c = all-means xs c
  truth_parts-mean (d.Any xs) c = any-means xs c
  truth_parts-mean (d.Not x) c = refl

  test-means : (x : Condition) (c : Config)
      → Means (test_move p c.world x) (test p (call_at p n) x) c
  test-means x c =
      whole-means Truth (immediate_truth p c.world x) (test p (call_at p n) x) (truth_parts x) c
      (test-gives p (call_at p n) c x) (truth_parts-mean x c)

  entry-means : (name : List ℕ) (i : ℤ) (c : Config)
      → Means (entry_move c.world (entry_at (entries_of name c.world) i)) (fetch name i) c
  unfolding opened
  entry-means name i c = by (entry_at (entries_of name c.world) i) where
    by : (o : Option ℤ) → Means (entry_move c.world o) (entry_by o) c
    by None = refl
    by (Some a) = refl

  store-means : (name : List ℕ) (words : Bool) (i a : ℤ) (c : Config)
      → Means (store_move c.world name words i a) (store name words i a) c
  unfolding opened
  store-means name words i a c = by (entry_at (entries_of name c.world) i) where
    by : (o : Option ℤ)
        → Means (store_by c.world o (stored name words i a c.world)) (parts.store_by o (stored name words i a)) c
    by None = refl
    by (Some b) = refl

  -- the value of a part that an unfinished one waits for
  wanted-means : (w : Want) (x : Expression) (follow : ℤ → Move) (c : Config)
      → ((a : ℤ) → Means (follow a) (use_value p (call_at p n) w a) c)
      → Means (at_once (immediate_value p c.world x) follow (evals x (Wants w))) (bind (eval p (call_at p n) x) (on_value (Wants w) (use_value p (call_at p n) w))) c
  unfolding opened
  wanted-means w x follow c h =
      value_first-means (immediate_value p c.world x) (Wants w) (eval p (call_at p n) x) (use_value p (call_at p n) w) follow (evals x (Wants w)) c
      (eval-gives p (call_at p n) c x) h (waits w x c) where
        waits : (w : Want) (x : Expression) (c : Config)
            → Means (evals x (Wants w)) (bind (eval p (call_at p n) x) (on_value (Wants w) (use_value p (call_at p n) w))) c
        waits w x c = refl

  place-means : (name : List ℕ) (words : Bool) (i : ℤ) (y : Expression) (c : Config)
      → Means (place_move p c.world name words i y) (use_value p (call_at p n) (f.PlaceOf name words y) i) c
  place-means name words i y c =
      wanted-means (f.Stores name words i) y (store_move c.world name words i) c (λ a. store-means name words i a c)

  alter-means : (x : Assignment) (c : Config)
      → Means (alter_move p c.world x) (alter p (call_at p n) x) c
  unfolding opened
  alter-means (s.Set name x) c =
      wanted-means (f.Sets name) x (λ a. alters (assigned name a c.world)) c (λ a. refl)
  alter-means (s.SetEntry name words x y) c =
      wanted-means (f.PlaceOf name words y) x (λ i. place_move p c.world name words i y) c (λ i. place-means name words i y c)
  alter-means (s.Inc name) c = refl
  alter-means (s.Dec name) c = refl

  prints-mean : (xs : List PrintItem) (c : Config)
      → Means (prints_move p c.world xs) (print_items p (call_at p n) xs) c
  unfolding opened
  prints-mean [] c = refl
  prints-mean (s.Text text ∷ xs) c = refl
  prints-mean (s.Value x ∷ xs) c =
      wanted-means (f.SaysNumber xs) x (λ a. says_move (signed_decimal a) xs) c (λ a. refl)
  prints-mean (s.Char x ∷ xs) c =
      wanted-means (f.SaysChar xs) x (λ a. says_move (low_byte a ∷ []) xs) c (λ a. refl)

  block-means : (xs : Statements) (c : Config)
      → Means (block_move xs) (exec_all p (call_at p n) xs) c
  unfolding opened
  block-means s.NoStatements c = refl
  block-means (s.MoreStatements x xs) c = refl

  default-means : (x : Default) (c : Config)
      → Means (default_move x) (exec_default p (call_at p n) x) c
  unfolding opened
  default-means s.NoDefault c = refl
  default-means (s.SomeDefault body) c = refl

  -- the move to the case that a value picks, or to the default, means what the cases do with it
  cases-mean : (a : ℤ) (xs : Cases) (rest : Default) (c : Config)
      → Means (cases_move p a xs rest) (exec_cases p (call_at p n) a xs (exec_default p (call_at p n) rest)) c
  unfolding opened
  cases-mean a s.NoCases rest c = default-means rest c
  cases-mean a (s.MoreCases choices body xs) rest c =
      by (fits_any p a choices) (cases-mean a xs rest c) where
        by : (b : Bool)
            → Means (cases_move p a xs rest) (exec_cases p (call_at p n) a xs (exec_default p (call_at p n) rest)) c
            → Means (if b then Goes (Begins (f.Blocks body) ∷ []) Normal Keeps else cases_move p a xs rest)
            (when b (exec_all p (call_at p n) body) (exec_cases p (call_at p n) a xs (exec_default p (call_at p n) rest))) c
        by true h = refl
        by false h = h

  -- ---- frames that waited

  range-means : (a : ℤ) (c : Config)
      → Means (range_move c.world a (int_lt a (pos 1))) (random_to a) c
  unfolding opened
  range-means a c = by (int_lt a (pos 1)) where
    by : (b : Bool) → Means (range_move c.world a b) (when b (trap t.Random) (take_draw a)) c
    by true = refl
    by false = refl

  -- the move of what gets the value that it wants means what it does with the value
  value-means : (w : Want) (a : ℤ) (c : Config)
      → Means (value_move p c.world w a) (use_value p (call_at p n) w a) c
  unfolding opened
  value-means (f.IndexOf name) a c = entry-means name a c
  value-means (f.Args name values xs) a c = arguments-mean name (with_argument values a) xs c
  value-means f.RangeOf a c = range-means a c
  value-means f.Negates a c = refl
  value-means (f.SumFrom xs) a c = sum-means a xs c
  value-means (f.SumOnto op b xs) a c = sum-means (summed p.width op b a) xs c
  value-means (f.ProductFrom xs) a c = product-means a xs c
  value-means (f.ProductOnto op b xs) a c = factor-means (multiplied p.width op b a) xs c
  value-means (f.LeftOf relation x) a c =
      wanted-means (f.RightOf relation a) x (λ b. done (Truth (compares relation a b))) c (λ b. refl)
  value-means (f.RightOf relation b) a c = refl
  value-means f.IsNonzero a c = refl
  value-means (f.Sets name) a c = refl
  value-means (f.PlaceOf name words x) a c = place-means name words a x c
  value-means (f.Stores name words i) a c = store-means name words i a c
  value-means f.Forgets a c = refl
  value-means (f.Picks xs rest) a c = cases-mean a xs rest c
  value-means f.Gives a c = refl
  value-means (f.SaysNumber xs) a c = refl
  value-means (f.SaysChar xs) a c = refl

  change-means : (l : Loop) (x : Option Assignment) (c : Config)
      → Means (Goes (change_frames l x) Normal Keeps) (bind (alter_if_any p (call_at p n) x) (on_normal (Begins (f.TurnDue l)) (turns_of p (call_at p n) l))) c
  unfolding opened
  change-means l None c = refl
  change-means l (Some x) c = refl

  -- the move of what decides by a truth value means what it does with that
  truth-means : (x : Decide) (b : Bool) (c : Config)
      → Means (truth_move x b) (use_truth p (call_at p n) x b) c
  unfolding opened
  truth-means (f.AllOf xs) true c = all-means xs c
  truth-means (f.AllOf xs) false c = refl
  truth-means (f.AnyOf xs) true c = refl
  truth-means (f.AnyOf xs) false c = any-means xs c
  truth-means f.Flips b c = refl
  truth-means (f.Branches body other) true c = refl
  truth-means (f.Branches body other) false c = refl
  truth-means (f.Testing l) b c = by (loop_goes_on l b) where
    by : (go : Bool)
        → Means (tested_move l go) (when go (bind (exec_all p (call_at p n) l.body) (body_done p (call_at p n) l)) (gives Normal)) c
    by true = refl
    by false = refl

  -- the truth value of a part that an unfinished one waits for
  decided-means : (d : Decide) (x : Condition) (follow : Bool → Move) (c : Config)
      → ((b : Bool) → Means (follow b) (use_truth p (call_at p n) d b) c)
      → Means (at_once (immediate_truth p c.world x) follow (goes_with (Begins (f.Tests x)) (Decides d))) (bind (test p (call_at p n) x) (on_truth (Decides d) (use_truth p (call_at p n) d))) c
  unfolding opened
  decided-means d x follow c h =
      truth_first-means (immediate_truth p c.world x) (Decides d) (test p (call_at p n) x) (use_truth p (call_at p n) d) follow (goes_with (Begins (f.Tests x)) (Decides d)) c
      (test-gives p (call_at p n) c x) h (waits d x c) where
        waits : (d : Decide) (x : Condition) (c : Config)
            → Means (goes_with (Begins (f.Tests x)) (Decides d)) (bind (test p (call_at p n) x) (on_truth (Decides d) (use_truth p (call_at p n) d))) c
        waits d x c = refl

-- ---- steps

module _ (p : Program) (n : ℕ) where
  -- after a step
  tick-means : (y : Frame) (m : Meaning) (frames : List Frame) (e : Outcome) (effect : Effect) (c : Config)
      → ((k : ℕ) → m (record c { steps = k }) ≡ going p n frames e effect (record c { steps = k }))
      → tick y m c ≡ tick y (going p n frames e effect) c
  unfolding opened
  tick-means y m frames e effect c h = by c.steps where
    by : (k : ℕ) → tick_at k y m c ≡ tick_at k y (going p n frames e effect) c
    by zero = refl
    by (suc k) = h k

  ticked-means : (y : Frame) (m : Meaning) (move : Move) (c : Config) → Quiet move
      → ((k : ℕ) → m (record c { steps = k }) ≡ move_done p n y move (record c { steps = k }))
      → tick y m c ≡ move_done p n y (ticked move) c
  ticked-means y m (Goes frames e effect) c g h = tick-means y m frames e effect c h
  ticked-means y m (Ticks frames e effect) c g h = absurd cc
  ticked-means y m (Reads name) c g h = absurd cc
  ticked-means y m (Draws k) c g h = absurd cc

  -- the move by which a call enters its routine means what the call does
  enter-means : (name : List ℕ) (o : Option Routine) (values : List ℤ) (c : Config)
      → tick (Begins (f.CallDue name values)) (enter p (call_at p n) name o values) c
      ≡ move_done p (suc n) (Begins (f.CallDue name values)) (enter_move p c.world name o values) c
  unfolding opened
  enter-means name None values c = by c.steps where
    by : (k : ℕ)
        → tick_at k (Begins (f.CallDue name values)) (enter p (call_at p n) name None values) c
        ≡ tick_at k (Begins (f.CallDue name values)) (going p (suc n) [] (Value (pos 0)) Keeps) c
    by zero = refl
    by (suc k) = refl
  enter-means name (Some r) values c = by c.steps where
    by : (k : ℕ)
        → tick_at k (Begins (f.CallDue name values)) (enter p (call_at p n) name (Some r) values) c
        ≡ tick_at k (Begins (f.CallDue name values)) (going p (suc n) (Begins (f.Blocks r.body) ∷ Calling c.world.scope ∷ []) Normal (Enters (record c.world { scope = scope_of r values }) (noted_body (p.notes name r.directive) r.body))) c
    by zero = refl
    by (suc k) = refl

call-means : (p : Program) (n : ℕ) (name : List ℕ) (values : List ℤ) (c : Config)
    → tick (Begins (f.CallDue name values)) (call_at p n name values) c
    ≡ move_done p n (Begins (f.CallDue name values)) (call_move p n c.world name values) c
unfolding opened
call-means p zero name values c = by c.steps where
  by : (k : ℕ) → tick_at k (Begins (f.CallDue name values)) (trap t.Depth) c
      ≡ tick_at k (Begins (f.CallDue name values)) (going p zero [] (Halts (f.Trapped t.Depth c.world.scope.directive)) Keeps) c
  by zero = refl
  by (suc k) = refl
call-means p (suc n) name values c = enter-means p n name (p.routines name) values c

module _ (p : Program) (n : ℕ) where
  -- the move to the next turn of a loop means what the loop does from there
  turn-means : (l : Loop) (c : Config)
      → turns_of p (call_at p n) l c ≡ move_done p n (Begins (f.TurnDue l)) (turn_move p c.world l l.test) c
  unfolding opened
  turn-means l c =
      loop_once l (test_if_any p (call_at p n) l.test) (exec_all p (call_at p n) l.body) (alter_if_any p (call_at p n) l.change)
      (test_if_any-going p (call_at p n) (call_at-going p n) l.test) (exec_all-going p (call_at p n) (call_at-going p n) l.body)
      (alter_if_any-going p (call_at p n) (call_at-going p n) l.change) c
      ∙ by l.test where
        by : (x : Option Condition)
            → tick (Begins (f.TurnDue l)) (bind (test_if_any p (call_at p n) x) (after_test l (exec_all p (call_at p n) l.body) (alter_if_any p (call_at p n) l.change) (turns_of p (call_at p n) l))) c
            ≡ move_done p n (Begins (f.TurnDue l)) (turn_move p c.world l x) c
        by None =
            tick-means p n (Begins (f.TurnDue l)) _ (Decides (f.Testing l) ∷ []) (Truth true) Keeps c (λ k. refl)
        by (Some x) =
            ticked-means p n (Begins (f.TurnDue l)) _ (turn_test p c.world l x) c (turn_test-quiet p c.world l x) (λ k. decided-means p n (Begins (f.TurnDue l)) (f.Testing l) x (λ b. tested_move l (loop_goes_on l b)) (record c { steps = k }) (λ b. truth-means p n (Begins (f.TurnDue l)) (f.Testing l) b (record c { steps = k })))

  read-means : (line words : List ℕ) (c : Config)
      → exec p (call_at p n) (s.Read line words) c ≡ move_done p n (Begins (f.Due (s.Read line words))) (statement_move p c.world (s.Read line words)) c
  unfolding opened
  read-means line words c = by (has_room (entries_of line c.world)) refl where
    by : (b : Bool) → has_room (entries_of line c.world) ≡ b
        → tick (Begins (f.Due (s.Read line words))) (read_line line) c ≡ move_done p n (Begins (f.Due (s.Read line words))) (read_move c.world line b) c
    by true is =
        tick-means p n _ _ (Begins (f.LineDue line) ∷ []) Normal Keeps c (λ k. ap (λ b. when b (take_line line) (trap t.Line) (record c { steps = k })) is)
    by false is =
        tick-means p n _ _ [] (Halts (f.Trapped t.Line c.world.scope.directive)) Keeps c (λ k. ap (λ b. when b (take_line line) (trap t.Line) (record c { steps = k })) is)

  for-means : (first : Option Assignment) (l : Loop) (k : ℕ) (c : Config)
      → bind (alter_if_any p (call_at p n) first) (on_normal (Begins (f.TurnDue l)) (turns_of p (call_at p n) l)) (record c { steps = k })
      ≡ going p n (change_frames l first) Normal Keeps (record c { steps = k })
  unfolding opened
  for-means None l k c = refl
  for-means (Some x) l k c = refl

  call_parts-mean : (name : List ℕ) (xs : Arguments) (y : Frame) (c : Config)
      → bind (eval_call p (call_at p n) name [] xs) (on_value (Wants f.Forgets) (λ a. gives Normal)) c ≡ move_done p n y (call_parts name xs) c
  unfolding opened
  call_parts-mean name v.NoArguments y c = refl
  call_parts-mean name (v.MoreArguments x xs) y c = refl

  call_alone-means : (name : List ℕ) (xs : Arguments) (y : Frame) (c : Config)
      → bind (eval_call p (call_at p n) name [] xs) (on_value (Wants f.Forgets) (λ a. gives Normal)) c ≡ move_done p n y (call_alone p c.world name xs) c
  unfolding opened
  call_alone-means name xs y c = by (immediate_arguments p c.world [] xs) (call-due p (call_at p n) c name [] xs) where
    by : (o : Option (List ℤ)) → IsDue p (call_at p n) c o name (eval_call p (call_at p n) name [] xs)
        → bind (eval_call p (call_at p n) name [] xs) (on_value (Wants f.Forgets) (λ a. gives Normal)) c
        ≡ move_done p n y (at_once o (λ all. goes_with (Begins (f.CallDue name all)) (Wants f.Forgets)) (call_parts name xs)) c
    by None d = call_parts-mean name xs y c
    by (Some all) d = ap (λ r. on_value (Wants f.Forgets) (λ a. gives Normal) r.0 r.1) d

  -- the move of a statement means what the statement does
  statement-means : (x : Statement) (c : Config)
      → exec p (call_at p n) x c ≡ move_done p n (Begins (f.Due x)) (statement_move p c.world x) c
  unfolding opened
  statement-means s.Empty c = tick-means p n _ _ [] Normal Keeps c (λ k. refl)
  statement-means (s.Block body) c =
      tick-means p n _ _ (Begins (f.Blocks body) ∷ []) Normal Keeps c (λ k. refl)
  statement-means (s.Assign x) c =
      ticked-means p n _ (alter p (call_at p n) x) (alter_move p c.world x) c (alter-quiet p c.world x)
      (λ k. alter-means p n (Begins (f.Due (s.Assign x))) x (record c { steps = k }))
  statement-means (s.Call name xs) c =
      ticked-means p n _ _ (call_alone p c.world name xs) c (call_alone-quiet p c.world name xs)
      (λ k. call_alone-means name xs (Begins (f.Due (s.Call name xs))) (record c { steps = k }))
  statement-means (s.If x body other) c =
      ticked-means p n _ _ (branch_move p c.world x body other) c (branch-quiet p c.world x body other)
      (λ k. decided-means p n (Begins (f.Due (s.If x body other))) (f.Branches body other) x (picked_move body other) (record c { steps = k }) (λ b. truth-means p n (Begins (f.Due (s.If x body other))) (f.Branches body other) b (record c { steps = k })))
  statement-means (s.While x body) c =
      tick-means p n _ _ (Begins (f.TurnDue (while_loop x body)) ∷ []) Normal Keeps c (λ k. refl)
  statement-means (s.Do body x) c =
      tick-means p n _ _ (Begins (f.Blocks body) ∷ Looping (do_loop body x) ∷ []) Normal Keeps c (λ k. refl)
  statement-means (s.For first x change body) c =
      tick-means p n _ _ (change_frames (for_loop x change body) first) Normal Keeps c (λ k. for-means first (for_loop x change body) k c)
  statement-means (s.Switch x xs rest) c =
      ticked-means p n _ _ (switch_move p c.world x xs rest) c (switch-quiet p c.world x xs rest)
      (λ k. wanted-means p n (Begins (f.Due (s.Switch x xs rest))) (f.Picks xs rest) x (λ a. cases_move p a xs rest) (record c { steps = k }) (λ a. cases-mean p n (Begins (f.Due (s.Switch x xs rest))) a xs rest (record c { steps = k })))
  statement-means s.Break c = tick-means p n _ _ [] Breaks Keeps c (λ k. refl)
  statement-means s.Continue c = tick-means p n _ _ [] Continues Keeps c (λ k. refl)
  statement-means s.Quit c = tick-means p n _ _ [] (Halts f.Quits) Keeps c (λ k. refl)
  statement-means s.Rtrue c = tick-means p n _ _ [] (Returns (pos 1)) Keeps c (λ k. refl)
  statement-means s.Rfalse c = tick-means p n _ _ [] (Returns (pos 0)) Keeps c (λ k. refl)
  statement-means (s.Return None) c = tick-means p n _ _ [] (Returns (pos 1)) Keeps c (λ k. refl)
  statement-means (s.Return (Some x)) c =
      ticked-means p n _ _ (return_move p c.world x) c (return-quiet p c.world x)
      (λ k. wanted-means p n (Begins (f.Due (s.Return (Some x)))) f.Gives x (λ a. done (Returns a)) (record c { steps = k }) (λ a. refl))
  statement-means s.NewLine c = tick-means p n _ _ [] Normal (Says (10 ∷ [])) c (λ k. refl)
  statement-means (s.Print xs) c =
      tick-means p n _ _ (Begins (f.Prints xs) ∷ []) Normal Keeps c (λ k. refl)
  statement-means (s.Read line words) c = read-means line words c

  -- ---- any frame

  -- the move of what begins means what it does from its start
  begin-means : (x : Begin) (c : Config)
      → start p (call_at p n) x c ≡ move_done p n (Begins x) (begin_move p n c.world x) c
  begin-means (f.Evals x) c = eval-means p n _ x c
  begin-means (f.CallDue name values) c = call-means p n name values c
  begin-means (f.DrawDue m) c = refl
  begin-means (f.Tests x) c = test-means p n _ x c
  begin-means (f.Alters x) c = alter-means p n _ x c
  begin-means (f.Due x) c = statement-means x c
  begin-means (f.Blocks xs) c = block-means p n _ xs c
  begin-means (f.Prints xs) c = prints-mean p n _ xs c
  begin-means (f.LineDue name) c = refl
  begin-means (f.TurnDue l) c = turn-means l c

  -- the move of any frame means what the frame does with the outcome that is handed to it
  pub frame-means : (x : Frame) (e : Outcome) → Settled e → (c : Config)
      → hand p (call_at p n) x e c ≡ move_done p n x (next p n c.world x e) c
  unfolding opened
  frame-means (Begins x) (Value a) settled c = refl
  frame-means (Begins x) (Truth b) settled c = refl
  frame-means (Begins x) Normal settled c = begin-means x c
  frame-means (Begins x) (Returns a) settled c = refl
  frame-means (Begins x) Breaks settled c = refl
  frame-means (Begins x) Continues settled c = refl
  frame-means (Begins x) (Halts halt) settled c = refl
  frame-means (Begins x) (Waits lack fs) settled c = absurd settled
  frame-means (Wants w) (Value a) settled c = value-means p n _ w a c
  frame-means (Wants w) (Truth b) settled c = refl
  frame-means (Wants w) Normal settled c = refl
  frame-means (Wants w) (Returns a) settled c = refl
  frame-means (Wants w) Breaks settled c = refl
  frame-means (Wants w) Continues settled c = refl
  frame-means (Wants w) (Halts halt) settled c = refl
  frame-means (Wants w) (Waits lack fs) settled c = absurd settled
  frame-means (Decides d) (Value a) settled c = refl
  frame-means (Decides d) (Truth b) settled c = truth-means p n _ d b c
  frame-means (Decides d) Normal settled c = refl
  frame-means (Decides d) (Returns a) settled c = refl
  frame-means (Decides d) Breaks settled c = refl
  frame-means (Decides d) Continues settled c = refl
  frame-means (Decides d) (Halts halt) settled c = refl
  frame-means (Decides d) (Waits lack fs) settled c = absurd settled
  frame-means (Looping l) (Value a) settled c = refl
  frame-means (Looping l) (Truth b) settled c = refl
  frame-means (Looping l) Normal settled c = change-means p n (Looping l) l l.change c
  frame-means (Looping l) (Returns a) settled c = refl
  frame-means (Looping l) Breaks settled c = refl
  frame-means (Looping l) Continues settled c = change-means p n (Looping l) l l.change c
  frame-means (Looping l) (Halts halt) settled c = refl
  frame-means (Looping l) (Waits lack fs) settled c = absurd settled
  frame-means (Calling scope) (Value a) settled c = refl
  frame-means (Calling scope) (Truth b) settled c = refl
  frame-means (Calling scope) Normal settled c = refl
  frame-means (Calling scope) (Returns a) settled c = refl
  frame-means (Calling scope) Breaks settled c = refl
  frame-means (Calling scope) Continues settled c = refl
  frame-means (Calling scope) (Halts halt) settled c = refl
  frame-means (Calling scope) (Waits lack fs) settled c = absurd settled
  frame-means Main (Value a) settled c = refl
  frame-means Main (Truth b) settled c = refl
  frame-means Main Normal settled c = refl
  frame-means Main (Returns a) settled c = refl
  frame-means Main Breaks settled c = refl
  frame-means Main Continues settled c = refl
  frame-means Main (Halts halt) settled c = refl
  frame-means Main (Waits lack fs) settled c = absurd settled
  frame-means (Over halt) (Value a) settled c = refl
  frame-means (Over halt) (Truth b) settled c = refl
  frame-means (Over halt) Normal settled c = refl
  frame-means (Over halt) (Returns a) settled c = refl
  frame-means (Over halt) Breaks settled c = refl
  frame-means (Over halt) Continues settled c = refl
  frame-means (Over halt) (Halts stop) settled c = refl
  frame-means (Over halt) (Waits lack fs) settled c = absurd settled
