-- How the smallest parts of a run, and the frames around a part, go on with more.
use Rattle.std.proofs.Common.{◌≡◌, ◌∙◌, arith, ℕ, zero, suc, ◌+◌, ◌<◌, ℤ, pos, Bool, true, false, List, [], ◌∷◌, ◌++◌, Option, Some, None, refl, sym, ap}
use Rattle.std.specs.Prelude.{int_lt}
use Rattle.inform_meaning.specs.declared.traps.Trap.{Trap}
use Rattle.inform_meaning.specs.declared.traps.Trap.TheVariants as t
use Rattle.inform_meaning.specs.Worlds.{Program, Scope, World, Config, entries_of, entry_at, has_room, with_said}
use Rattle.inform_meaning.specs.Frames as f
use Rattle.inform_meaning.specs.Frames.{Begin, Frame, Begins, Wants, Decides, Halt, Outcome, Value, Truth, Normal, Returns, Breaks, Continues, Halts, Waits, Meaning, bind, when, on_normal, on_value, on_truth, on_body, on_return, on_main, on_over}
use Rattle.inform_meaning.specs.Parts.{tick_at, tick, trap, draw_at, take_draw, random_to, line_at, take_line, read_line, changes, entry_by, fetch, store_by, store, saying}
use Rattle.inform_meaning.specs.Runs.{call_at, start, use_value, use_truth, resume_at}
use Rattle.inform_meaning.proofs.Going.{Going}
use Rattle.inform_meaning.proofs.Splitting.{Settled, more, going_at, Splits, frame-splits}

module _ (p : Program) (k : ℕ) (ls : List (List ℕ)) (ds : List ℕ) (n b : ℕ) where
  abbrev pub S : Meaning → Type 0
  S m = Splits p k ls ds n b m

  -- ---- frames

  module _ (x : Frame) where
    pub on_normal-settled : (m : Meaning) → S m → (e : Outcome) → Settled e → S (on_normal x m e)
    unfolding on_normal
    on_normal-settled m h Normal settled = h
    on_normal-settled m h (Value a) settled = λ c few. refl
    on_normal-settled m h (Truth a) settled = λ c few. refl
    on_normal-settled m h (Returns a) settled = λ c few. refl
    on_normal-settled m h Breaks settled = λ c few. refl
    on_normal-settled m h Continues settled = λ c few. refl
    on_normal-settled m h (Halts halt) settled = λ c few. refl
    on_normal-settled m h (Waits lack fs) settled = absurd settled

    pub on_value-settled : (g : ℤ → Meaning) → ((a : ℤ) → S (g a)) → (e : Outcome) → Settled e
        → S (on_value x g e)
    unfolding on_value
    on_value-settled g h (Value a) settled = h a
    on_value-settled g h Normal settled = λ c few. refl
    on_value-settled g h (Truth a) settled = λ c few. refl
    on_value-settled g h (Returns a) settled = λ c few. refl
    on_value-settled g h Breaks settled = λ c few. refl
    on_value-settled g h Continues settled = λ c few. refl
    on_value-settled g h (Halts halt) settled = λ c few. refl
    on_value-settled g h (Waits lack fs) settled = absurd settled

    pub on_truth-settled : (g : Bool → Meaning) → ((a : Bool) → S (g a)) → (e : Outcome) → Settled e
        → S (on_truth x g e)
    unfolding on_truth
    on_truth-settled g h (Truth a) settled = h a
    on_truth-settled g h (Value a) settled = λ c few. refl
    on_truth-settled g h Normal settled = λ c few. refl
    on_truth-settled g h (Returns a) settled = λ c few. refl
    on_truth-settled g h Breaks settled = λ c few. refl
    on_truth-settled g h Continues settled = λ c few. refl
    on_truth-settled g h (Halts halt) settled = λ c few. refl
    on_truth-settled g h (Waits lack fs) settled = absurd settled

    pub on_body-settled : (m : Meaning) → S m → (e : Outcome) → Settled e → S (on_body x m e)
    unfolding on_body
    on_body-settled m h Normal settled = h
    on_body-settled m h Continues settled = h
    on_body-settled m h (Value a) settled = λ c few. refl
    on_body-settled m h (Truth a) settled = λ c few. refl
    on_body-settled m h (Returns a) settled = λ c few. refl
    on_body-settled m h Breaks settled = λ c few. refl
    on_body-settled m h (Halts halt) settled = λ c few. refl
    on_body-settled m h (Waits lack fs) settled = absurd settled

  pub on_return-settled : (s : Scope) (e : Outcome) → Settled e → S (on_return s e)
  unfolding on_return
  on_return-settled s Normal settled = λ c few. refl
  on_return-settled s (Value a) settled = λ c few. refl
  on_return-settled s (Truth a) settled = λ c few. refl
  on_return-settled s (Returns a) settled = λ c few. refl
  on_return-settled s Breaks settled = λ c few. refl
  on_return-settled s Continues settled = λ c few. refl
  on_return-settled s (Halts halt) settled = λ c few. refl
  on_return-settled s (Waits lack fs) settled = absurd settled

  pub on_main-settled : (e : Outcome) → Settled e → S (on_main e)
  unfolding on_main
  on_main-settled Normal settled = λ c few. refl
  on_main-settled (Value a) settled = λ c few. refl
  on_main-settled (Truth a) settled = λ c few. refl
  on_main-settled (Returns a) settled = λ c few. refl
  on_main-settled Breaks settled = λ c few. refl
  on_main-settled Continues settled = λ c few. refl
  on_main-settled (Halts halt) settled = λ c few. refl
  on_main-settled (Waits lack fs) settled = absurd settled

  pub on_over-settled : (halt : Halt) (e : Outcome) → Settled e → S (on_over halt e)
  unfolding on_over
  on_over-settled halt Normal settled = λ c few. refl
  on_over-settled halt (Value a) settled = λ c few. refl
  on_over-settled halt (Truth a) settled = λ c few. refl
  on_over-settled halt (Returns a) settled = λ c few. refl
  on_over-settled halt Breaks settled = λ c few. refl
  on_over-settled halt Continues settled = λ c few. refl
  on_over-settled halt (Halts other) settled = λ c few. refl
  on_over-settled halt (Waits lack fs) settled = absurd settled

  pub begins-splits : (x : Begin) (m : Meaning) → S m → Going m → S (start p (call_at p n) x)
      → S (bind m (on_normal (Begins x) (start p (call_at p n) x)))
  begins-splits x m h going rest =
      frame-splits p k ls ds n b (Begins x) m h going (on_normal-settled (Begins x) _ rest)

  pub wants-splits : (w : f.Want) (m : Meaning) → S m → Going m
      → ((a : ℤ) → S (use_value p (call_at p n) w a))
      → S (bind m (on_value (Wants w) (use_value p (call_at p n) w)))
  wants-splits w m h going rest =
      frame-splits p k ls ds n b (Wants w) m h going (on_value-settled (Wants w) _ rest)

  pub decides-splits : (d : f.Decide) (m : Meaning) → S m → Going m
      → ((a : Bool) → S (use_truth p (call_at p n) d a))
      → S (bind m (on_truth (Decides d) (use_truth p (call_at p n) d)))
  decides-splits d m h going rest =
      frame-splits p k ls ds n b (Decides d) m h going (on_truth-settled (Decides d) _ rest)

  -- ---- the smallest parts

  pub when-splits : (a : Bool) (m o : Meaning) → S m → S o → S (when a m o)
  unfolding when
  when-splits true m o h g = h
  when-splits false m o h g = g

  pub trap-splits : (kind : Trap) → S (trap kind)
  trap-splits kind c few = refl

  draw_at-splits : (n' : ℤ) (draws : List ℕ) (c : Config) → c.draws ≡ draws
      → draw_at (c.draws ++ ds) n' (more p k ls ds c) ≡ going_at p k ls ds n (draw_at draws n' c).0
      (draw_at draws n' c).1
  unfolding resume_at bind on_normal
  draw_at-splits n' [] c is = refl
  draw_at-splits n' (draw ∷ draws) c is = ap (λ xs. draw_at (xs ++ ds) n' (more p k ls ds c)) is

  pub take_draw-splits : (n' : ℤ) → S (take_draw n')
  take_draw-splits n' c few = draw_at-splits n' c.draws c refl

  pub random_to-splits : (n' : ℤ) → S (random_to n')
  random_to-splits n' =
      when-splits (int_lt n' (pos 1)) _ _ (trap-splits t.Random) (take_draw-splits n')

  line_at-splits : (name : List ℕ) (lines : List (List ℕ)) (c : Config) → c.lines ≡ lines
      → line_at (c.lines ++ ls) name (more p k ls ds c) ≡ going_at p k ls ds n
      (line_at lines name c).0 (line_at lines name c).1
  unfolding resume_at bind on_normal
  line_at-splits name [] c is = refl
  line_at-splits name (line ∷ lines) c is = ap (λ xs. line_at (xs ++ ls) name (more p k ls ds c)) is

  pub take_line-splits : (name : List ℕ) → S (take_line name)
  take_line-splits name c few = line_at-splits name c.lines c refl

  pub read_line-splits : (name : List ℕ) → S (read_line name)
  read_line-splits name c few = when-splits (has_room (entries_of name c.world)) (take_line name)
      (trap t.Line) (take_line-splits name) (trap-splits t.Line) c few

  pub changes-splits : (g : World → World) → S (changes g)
  changes-splits g c few = refl

  entry_by-splits : (o : Option ℤ) → S (entry_by o)
  entry_by-splits None c few = refl
  entry_by-splits (Some v) c few = refl

  pub fetch-splits : (name : List ℕ) (index : ℤ) → S (fetch name index)
  fetch-splits name index c few = entry_by-splits (entry_at (entries_of name c.world) index) c few

  store_by-splits : (o : Option ℤ) (g : World → World) → S (store_by o g)
  store_by-splits None g c few = refl
  store_by-splits (Some v) g c few = refl

  pub store-splits : (name : List ℕ) (words : Bool) (index v : ℤ) → S (store name words index v)
  store-splits name words index v c few =
      store_by-splits (entry_at (entries_of name c.world) index) _ c few

  pub saying-splits : (bytes : List ℕ) (m : Meaning) → S m → S (saying bytes m)
  unfolding saying
  saying-splits bytes m h c few = h (with_said bytes c) few

  -- a step, and a part that does so where one step fewer is left
  pub tick-splits : (x : Begin) (m : Meaning) →
      ((c : Config) → start p (call_at p n) x c ≡ tick (Begins x) m c)
      → ((c : Config) → c.steps + 1 < b → m (more p k ls ds c) ≡ going_at p k ls ds n (m c).0
      (m c).1) → S (tick (Begins x) m)
  unfolding tick resume_at bind on_normal
  tick-splits x m begins h c few = by c.steps refl where
    by : (i : ℕ) → c.steps ≡ i → tick_at (c.steps + k) (Begins x) m (more p k ls ds c) ≡ going_at p
        k ls ds n (tick_at i (Begins x) m c).0 (tick_at i (Begins x) m c).1
    by zero is = sym (begins (more p k ls ds c))
    by (suc i) is = ap (λ j. tick_at j (Begins x) m (more p k ls ds c)) plus_is
        ∙ h (record c { steps = i }) (omega (arith, is, few)) where
          plus_is : c.steps + k ≡ suc (i + k)
          plus_is = omega (arith, is)
