-- A loop by its next turn.
use Rattle.std.proofs.Common.{◌≡◌, ◌∙◌, arith, ℕ, zero, suc, ◌-◌, ◌≤◌, Bool, true, false, [], ◌∷◌, refl, sym, ap}
use Rattle.inform_meaning.specs.Worlds.{Config}
use Rattle.inform_meaning.specs.Frames as f
use Rattle.inform_meaning.specs.Frames.{Loop, TurnDue, Testing, Frame, Begins, Decides, Looping, Outcome, Value, Truth, Normal, Returns, Breaks, Continues, Halts, Waits, Meaning, gives, bind, when, on_normal, on_truth, on_body}
use Rattle.inform_meaning.specs.Parts.{tick_at, tick}
use Rattle.inform_meaning.specs.Statements.{loop_goes_on, after_body, after_test, turns, loop}
use Rattle.inform_meaning.proofs.Going.{Going}

-- two meanings are the same where at most so many steps are left
abbrev pub Same : ℕ → Meaning → Meaning → Type 0
Same b m m' = (c : Config) → c.steps ≤ b → m c ≡ m' c

module _ (b : ℕ) where
  bind-same : (m : Meaning) (k k' : Outcome → Meaning) → Going m
      → ((e : Outcome) → Same b (k e) (k' e)) → Same b (bind m k) (bind m k')
  unfolding bind
  bind-same m k k' going h c few = h (m c).0 (m c).1 (omega (arith, few, (going c).steps))

  when-same : (a : Bool) (m m' n : Meaning) → Same b m m' → Same b (when a m n) (when a m' n)
  unfolding when
  when-same true m m' n h = h
  when-same false m m' n h = λ c few. refl

  -- with so few steps left, a frame goes on the same after a normal outcome, if what follows does
  on_normal-same : (x : Frame) (m m' : Meaning) → Same b m m' → (e : Outcome)
      → Same b (on_normal x m e) (on_normal x m' e)
  unfolding on_normal
  on_normal-same x m m' h (Value a) = λ c few. refl
  on_normal-same x m m' h (Truth a) = λ c few. refl
  on_normal-same x m m' h Normal = h
  on_normal-same x m m' h (Returns a) = λ c few. refl
  on_normal-same x m m' h Breaks = λ c few. refl
  on_normal-same x m m' h Continues = λ c few. refl
  on_normal-same x m m' h (Halts halt) = λ c few. refl
  on_normal-same x m m' h (Waits lack fs) = λ c few. refl

  -- with so few steps left, a frame goes on the same after a loop's body, if what follows does
  on_body-same : (x : Frame) (m m' : Meaning) → Same b m m' → (e : Outcome)
      → Same b (on_body x m e) (on_body x m' e)
  unfolding on_body
  on_body-same x m m' h (Value a) = λ c few. refl
  on_body-same x m m' h (Truth a) = λ c few. refl
  on_body-same x m m' h Normal = h
  on_body-same x m m' h (Returns a) = λ c few. refl
  on_body-same x m m' h Breaks = λ c few. refl
  on_body-same x m m' h Continues = h
  on_body-same x m m' h (Halts halt) = λ c few. refl
  on_body-same x m m' h (Waits lack fs) = λ c few. refl

  -- with so few steps left, a frame goes on the same with a truth value, if what follows does
  on_truth-same : (x : Frame) (k k' : Bool → Meaning) → ((a : Bool) → Same b (k a) (k' a))
      → (e : Outcome) → Same b (on_truth x k e) (on_truth x k' e)
  unfolding on_truth
  on_truth-same x k k' h (Value a) = λ c few. refl
  on_truth-same x k k' h (Truth a) = h a
  on_truth-same x k k' h Normal = λ c few. refl
  on_truth-same x k k' h (Returns a) = λ c few. refl
  on_truth-same x k k' h Breaks = λ c few. refl
  on_truth-same x k k' h Continues = λ c few. refl
  on_truth-same x k k' h (Halts halt) = λ c few. refl
  on_truth-same x k k' h (Waits lack fs) = λ c few. refl

module _ (l : Loop) (x body change : Meaning) (hx : Going x) (hb : Going body) (hc : Going change)
  where
    after_body-same : (b : ℕ) (m m' : Meaning) → Same b m m' → (e : Outcome)
        → Same b (after_body l change m e) (after_body l change m' e)
    after_body-same b m m' h = on_body-same b (Looping l) _ _
        (bind-same b change _ _ hc (on_normal-same b (Begins (TurnDue l)) m m' h))

    after_test-same : (b : ℕ) (m m' : Meaning) → Same b m m' → (e : Outcome)
        → Same b (after_test l body change m e) (after_test l body change m' e)
    after_test-same b m m' h = on_truth-same b (Decides (Testing l)) _ _
        (λ a. when-same b (loop_goes_on l a) _ _ (gives Normal)
        (bind-same b body _ _ hb (after_body-same b m m' h)))

    -- one turn, and then what is done after it
    abbrev pub turn : Meaning → Meaning
    turn m = tick (Begins (TurnDue l)) (bind x (after_test l body change m))

    turn-same : (b : ℕ) (m m' : Meaning) → Same b m m' → (c : Config) → c.steps ≤ suc b
        → turn m c ≡ turn m' c
    unfolding tick
    turn-same b m m' h c few = by c.steps refl where
      by : (i : ℕ) → c.steps ≡ i → tick_at i (Begins (TurnDue l))
          (bind x (after_test l body change m)) c ≡ tick_at i (Begins (TurnDue l))
          (bind x (after_test l body change m')) c
      by zero is = refl
      by (suc i) is = bind-same b x _ _ hx (after_test-same b m m' h) (record c { steps = i })
          (omega (arith, is, few))

    no_step : (m : Meaning) (c : Config) → c.steps ≤ zero
        → turn m c ≡ (Waits f.Spent (Begins (TurnDue l) ∷ []), c)
    unfolding tick
    no_step m c none = ap (λ i. tick_at i (Begins (TurnDue l)) (bind x (after_test l body change m))
        c) zero_is where
          zero_is : c.steps ≡ zero
          zero_is = omega (arith, none)

    -- as many turns as there are steps are enough
    enough : (i j : ℕ) (c : Config) → c.steps ≤ i → c.steps ≤ j
        → turns l x body change i c ≡ turns l x body change j c
    unfolding turns
    enough zero zero c few less = refl
    enough zero (suc j) c few less = sym (no_step (turns l x body change j) c few)
    enough (suc i) zero c few less = no_step (turns l x body change i) c less
    enough (suc i) (suc j) c few less =
        turn-same (c.steps - 1) (turns l x body change i) (turns l x body change j)
        (λ d h. enough i j d (omega (arith, h, few)) (omega (arith, h, less))) c (omega arith)

    pub loop_once : (c : Config) → loop l x body change c ≡ turn (loop l x body change) c
    unfolding turns
    loop_once c = enough c.steps (suc c.steps) c (omega arith) (omega arith)
        ∙ turn-same c.steps (turns l x body change c.steps) (loop l x body change)
        (λ d few. enough c.steps d.steps d few (omega arith)) c (omega arith)
