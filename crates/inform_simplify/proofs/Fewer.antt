-- Parts of which the one does what the other does in at most as many steps.
use Rattle.std.proofs.Common.{◌≡◌, ◌∙◌, arith, ℕ, zero, suc, ◌+◌, ◌≤◌, ℤ, pos, Bool, true, false, List, [], ◌∷◌, ◌++◌, Option, Some, None, refl, sym, ap, subst, append_assoc}
use Rattle.std.specs.Prelude.{⊤, int_lt}
use Rattle.adv_io.specs.Steps.{Step}
use Rattle.inform_meaning.specs.declared.traps.Trap.{Trap}
use Rattle.inform_meaning.specs.declared.traps.Trap.TheVariants as t
use Rattle.inform_meaning.specs.Worlds.{Scope, World, Config, entries_of, entry_at, stored, has_room, with_said}
use Rattle.inform_meaning.specs.Frames.{Frame, Lack, Spent, Outcome, Value, Truth, Normal, Returns, Breaks, Continues, Halts, Waits, Meaning, gives, bind, when, on_normal, on_value, on_truth, on_body, on_return, on_main}
use Rattle.inform_meaning.specs.Parts.{tick_at, tick, trap, take_draw, take_line, draw_at, random_to, line_at, read_line, changes, entry_by, fetch, store_by, store, saying}
use Rattle.inform_meaning.proofs.Going.{Going, unmoved, bind-going, on_normal-going, on_value-going, on_truth-going, on_body-going, on_return-going, on_main-going, tick-going, trap-going, random_to-going, read_line-going, fetch-going, store-going, saying-going}

-- ---- what a part does with fewer steps

-- the same with so many steps more
abbrev pub plus : ℕ → Config → Config
plus k c = record c { steps = c.steps + k }

-- the same outcome, but for what has begun
pub data Same : Outcome → Outcome → Type 0 where
  equal : (e : Outcome) → Same e e
  waiting : (lack : Lack) (fs gs : List Frame) → Same (Waits lack fs) (Waits lack gs)

-- Two parts, of which the new one began with k steps more: they ended alike, and it has at least k
-- more still; or the old one was spent, and what happened in it has happened in the new one.
pub data Ends (k : ℕ) : Outcome × Config → Outcome × Config → Type 0 where
  alike : (e e' : Outcome) (c : Config) (j : ℕ) → k ≤ j → Same e e' → Ends k (e, c) (e', plus j c)
  spent : (fs : List Frame) (c : Config) (r : Outcome × Config) (events : List Step)
      → r.1.past ≡ c.past ++ events → Ends k (Waits Spent fs, c) r

-- wherever at most b steps are left to the old part
abbrev pub By : ℕ → Meaning → Meaning → Type 0
By b m m' = (c : Config) (k : ℕ) → c.steps ≤ b → Ends k (m c) (m' (plus k c))

pub record Fewer (b : ℕ) (m m' : Meaning) : Type 0 where
  pub before : Going m
  pub after : Going m'
  pub by : By b m m'

-- what follows such outcomes: where the old part was spent, it is spent
pub record Follows (P : Outcome → Type 0) (b : ℕ) (g g' : Outcome → Meaning) : Type 0 where
  pub waits : (fs : List Frame) (c : Config)
      → (gs : List Frame) × (g (Waits Spent fs) c ≡ (Waits Spent gs, c))
  pub before : (e : Outcome) → Going (g e)
  pub after : (e : Outcome) → Going (g' e)
  pub goes_on : (e e' : Outcome) → Same e e' → P e → By b (g e) (g' e')

abbrev pub Any : Outcome → Type 0
Any e = ⊤

-- an outcome that isn't the end of a statement
abbrev pub IsLeft : Outcome → Type 0
IsLeft Normal = ⊥
IsLeft e = ⊤

-- ---- the same with other bounds

pub wider : {k j : ℕ} {r r' : Outcome × Config} → k ≤ j → Ends j r r' → Ends k r r'
wider less (alike e e' c i few same) = alike e e' c i (omega (arith, less, few)) same
wider less (spent fs c r events is) = spent fs c r events is

pub fewer : {b b' : ℕ} {m m' : Meaning} → b' ≤ b → Fewer b m m' → Fewer b' m m'
fewer less h = record {
  before = h.before;
  after = h.after;
  by = λ c k few. h.by c k (omega (arith, few, less));
}

-- the old part does what another does
pub first_is : {b : ℕ} {m n m' : Meaning} → Going m → ((c : Config) → m c ≡ n c) → Fewer b n m'
    → Fewer b m m'
first_is {m' = m'} before is h = record {
  before = before;
  after = h.after;
  by = λ c k few. subst (λ r. Ends k r (m' (plus k c))) (sym (is c)) (h.by c k few);
}

-- ---- outcomes

module _ {b : ℕ} where
  -- what looks at the world, and changes it
  pub acts : (f : World → Outcome) (g : World → World)
      → Fewer b (λ c. (f c.world, record c { world = g c.world }))
      (λ c. (f c.world, record c { world = g c.world }))
  acts f g = record {
    before = λ c. unmoved c (g c.world);
    after = λ c. unmoved c (g c.world);
    by = λ c k few. alike (f c.world) (f c.world) (record c { world = g c.world }) k (omega arith)
        (equal (f c.world));
  }

  pub stays : {e : Outcome} → Fewer b (gives e) (gives e)
  stays {e} = acts (λ w. e) (λ w. w)

  stay-by : {e e' : Outcome} → Same e e' → By b (gives e) (gives e')
  stay-by {e} {e'} same c k few = alike e e' c k (omega arith) same

-- ---- one part after another

module _ {P : Outcome → Type 0} {b : ℕ} {g g' : Outcome → Meaning} (h : Follows P b g g') where
  follow : {k : ℕ} {r r' : Outcome × Config} → r.1.steps ≤ b → P r.0 → Ends k r r'
      → Ends k (g r.0 r.1) (g' r'.0 r'.1)
  follow few holds (alike e e' c j less same) = wider less (h.goes_on e e' same holds c j few)
  follow {k} few holds (spent fs c r events is) = let next = h.waits fs c in
      let more = h.after r.0 r.1 in
      subst (λ first. Ends k first (g' r.0 r.1)) (sym next.1)
      (spent next.0 c (g' r.0 r.1) (events ++ more.events)
      (more.past ∙ ap (λ past. past ++ more.events) is ∙ append_assoc c.past events more.events))

  pub bind-where : {m m' : Meaning} → ((c : Config) → P (m c).0) → Fewer b m m'
      → Fewer b (bind m g) (bind m' g')
  unfolding bind
  bind-where {m} {m'} holds first = record {
    before = bind-going m g first.before h.before;
    after = bind-going m' g' first.after h.after;
    by = λ c k few. follow (omega (arith, few, (first.before c).steps)) (holds c)
        (first.by c k few);
  }

pub bind-fewer : {b : ℕ} {g g' : Outcome → Meaning} {m m' : Meaning} → Fewer b m m'
    → Follows Any b g g' → Fewer b (bind m g) (bind m' g')
bind-fewer first h = bind-where h (λ c. tt) first

pub when-fewer : {b : ℕ} (a : Bool) {m m' n n' : Meaning} → Fewer b m m' → Fewer b n n'
    → Fewer b (when a m n) (when a m' n')
unfolding when
when-fewer true h k = h
when-fewer false h k = k

-- ---- what frames do

module _ {b : ℕ} (f f' : Frame) where
  -- a frame goes on, or hands on what it was handed
  normal-on : {m m' : Meaning} → Fewer b m m' → (e e' : Outcome) → Same e e' → Any e
      → By b (on_normal f m e) (on_normal f' m' e')
  unfolding on_normal
  normal-on h e e' (equal Normal) any = h.by
  normal-on h e e' (equal (Value v)) any = stay-by (equal _)
  normal-on h e e' (equal (Truth a)) any = stay-by (equal _)
  normal-on h e e' (equal (Returns v)) any = stay-by (equal _)
  normal-on h e e' (equal Breaks) any = stay-by (equal _)
  normal-on h e e' (equal Continues) any = stay-by (equal _)
  normal-on h e e' (equal (Halts halt)) any = stay-by (equal _)
  normal-on h e e' (equal (Waits lack fs)) any = stay-by (waiting _ _ _)
  normal-on h e e' (waiting lack fs gs) any = stay-by (waiting _ _ _)

  pub on_normal-fewer : {m m' : Meaning} → Fewer b m m'
      → Follows Any b (on_normal f m) (on_normal f' m')
  unfolding on_normal
  on_normal-fewer {m} {m'} h = record {
    waits = λ fs c. (fs ++ f ∷ [], refl);
    before = on_normal-going f m h.before;
    after = on_normal-going f' m' h.after;
    goes_on = normal-on h;
  }

  -- the same where what it goes on with makes no difference, since it never does
  left-on : (m m' : Meaning) (e e' : Outcome) → Same e e' → IsLeft e
      → By b (on_normal f m e) (on_normal f' m' e')
  unfolding on_normal
  left-on m m' e e' (equal Normal) left = absurd left
  left-on m m' e e' (equal (Value v)) left = stay-by (equal _)
  left-on m m' e e' (equal (Truth a)) left = stay-by (equal _)
  left-on m m' e e' (equal (Returns v)) left = stay-by (equal _)
  left-on m m' e e' (equal Breaks) left = stay-by (equal _)
  left-on m m' e e' (equal Continues) left = stay-by (equal _)
  left-on m m' e e' (equal (Halts halt)) left = stay-by (equal _)
  left-on m m' e e' (equal (Waits lack fs)) left = stay-by (waiting _ _ _)
  left-on m m' e e' (waiting lack fs gs) left = stay-by (waiting _ _ _)

  -- what stands after a part that never reaches its end
  pub on_left-fewer : (m m' : Meaning) → Going m → Going m'
      → Follows IsLeft b (on_normal f m) (on_normal f' m')
  unfolding on_normal
  on_left-fewer m m' before after = record {
    waits = λ fs c. (fs ++ f ∷ [], refl);
    before = on_normal-going f m before;
    after = on_normal-going f' m' after;
    goes_on = left-on m m';
  }

  -- a frame that waits for a value
  value-on : {k k' : ℤ → Meaning} → ((v : ℤ) → Fewer b (k v) (k' v)) → (e e' : Outcome)
      → Same e e' → Any e → By b (on_value f k e) (on_value f' k' e')
  unfolding on_value
  value-on h e e' (equal (Value v)) any = (h v).by
  value-on h e e' (equal Normal) any = stay-by (equal _)
  value-on h e e' (equal (Truth a)) any = stay-by (equal _)
  value-on h e e' (equal (Returns v)) any = stay-by (equal _)
  value-on h e e' (equal Breaks) any = stay-by (equal _)
  value-on h e e' (equal Continues) any = stay-by (equal _)
  value-on h e e' (equal (Halts halt)) any = stay-by (equal _)
  value-on h e e' (equal (Waits lack fs)) any = stay-by (waiting _ _ _)
  value-on h e e' (waiting lack fs gs) any = stay-by (waiting _ _ _)

  pub on_value-fewer : {k k' : ℤ → Meaning} → ((v : ℤ) → Fewer b (k v) (k' v))
      → Follows Any b (on_value f k) (on_value f' k')
  unfolding on_value
  on_value-fewer {k} {k'} h = record {
    waits = λ fs c. (fs ++ f ∷ [], refl);
    before = on_value-going f k (λ v. (h v).before);
    after = on_value-going f' k' (λ v. (h v).after);
    goes_on = value-on h;
  }

  -- and one that waits for a truth value
  truth-on : {k k' : Bool → Meaning} → ((a : Bool) → Fewer b (k a) (k' a)) → (e e' : Outcome)
      → Same e e' → Any e → By b (on_truth f k e) (on_truth f' k' e')
  unfolding on_truth
  truth-on h e e' (equal (Truth a)) any = (h a).by
  truth-on h e e' (equal Normal) any = stay-by (equal _)
  truth-on h e e' (equal (Value v)) any = stay-by (equal _)
  truth-on h e e' (equal (Returns v)) any = stay-by (equal _)
  truth-on h e e' (equal Breaks) any = stay-by (equal _)
  truth-on h e e' (equal Continues) any = stay-by (equal _)
  truth-on h e e' (equal (Halts halt)) any = stay-by (equal _)
  truth-on h e e' (equal (Waits lack fs)) any = stay-by (waiting _ _ _)
  truth-on h e e' (waiting lack fs gs) any = stay-by (waiting _ _ _)

  pub on_truth-fewer : {k k' : Bool → Meaning} → ((a : Bool) → Fewer b (k a) (k' a))
      → Follows Any b (on_truth f k) (on_truth f' k')
  unfolding on_truth
  on_truth-fewer {k} {k'} h = record {
    waits = λ fs c. (fs ++ f ∷ [], refl);
    before = on_truth-going f k (λ a. (h a).before);
    after = on_truth-going f' k' (λ a. (h a).after);
    goes_on = truth-on h;
  }

  -- a loop, after its body
  body-on : {m m' : Meaning} → Fewer b m m' → (e e' : Outcome) → Same e e' → Any e
      → By b (on_body f m e) (on_body f' m' e')
  unfolding on_body
  body-on h e e' (equal Normal) any = h.by
  body-on h e e' (equal Continues) any = h.by
  body-on h e e' (equal (Value v)) any = stay-by (equal _)
  body-on h e e' (equal (Truth a)) any = stay-by (equal _)
  body-on h e e' (equal (Returns v)) any = stay-by (equal _)
  body-on h e e' (equal Breaks) any = stay-by (equal _)
  body-on h e e' (equal (Halts halt)) any = stay-by (equal _)
  body-on h e e' (equal (Waits lack fs)) any = stay-by (waiting _ _ _)
  body-on h e e' (waiting lack fs gs) any = stay-by (waiting _ _ _)

  pub on_body-fewer : {m m' : Meaning} → Fewer b m m'
      → Follows Any b (on_body f m) (on_body f' m')
  unfolding on_body
  on_body-fewer {m} {m'} h = record {
    waits = λ fs c. (fs ++ f ∷ [], refl);
    before = on_body-going f m h.before;
    after = on_body-going f' m' h.after;
    goes_on = body-on h;
  }

module _ {b : ℕ} where
  -- a call, after the body of its routine
  return-on : (s : Scope) (e e' : Outcome) → Same e e' → Any e
      → By b (on_return s e) (on_return s e')
  unfolding on_return
  return-on s e e' (equal Normal) any c k few = alike _ _ _ k (omega arith) (equal _)
  return-on s e e' (equal (Value v)) any c k few = alike _ _ _ k (omega arith) (equal _)
  return-on s e e' (equal (Truth a)) any c k few = alike _ _ _ k (omega arith) (equal _)
  return-on s e e' (equal (Returns v)) any c k few = alike _ _ _ k (omega arith) (equal _)
  return-on s e e' (equal Breaks) any c k few = alike _ _ _ k (omega arith) (equal _)
  return-on s e e' (equal Continues) any c k few = alike _ _ _ k (omega arith) (equal _)
  return-on s e e' (equal (Halts halt)) any c k few = alike _ _ _ k (omega arith) (equal _)
  return-on s e e' (equal (Waits lack fs)) any c k few = stay-by (waiting _ _ _) c k few
  return-on s e e' (waiting lack fs gs) any c k few = stay-by (waiting _ _ _) c k few

  pub on_return-fewer : (s : Scope) → Follows Any b (on_return s) (on_return s)
  unfolding on_return
  on_return-fewer s = record {
    waits = λ fs c. (_, refl);
    before = on_return-going s;
    after = on_return-going s;
    goes_on = return-on s;
  }

  -- and the end of `Main`
  main-on : (e e' : Outcome) → Same e e' → Any e → By b (on_main e) (on_main e')
  unfolding on_main
  main-on e e' (equal Normal) any = stay-by (equal _)
  main-on e e' (equal (Value v)) any = stay-by (equal _)
  main-on e e' (equal (Truth a)) any = stay-by (equal _)
  main-on e e' (equal (Returns v)) any = stay-by (equal _)
  main-on e e' (equal Breaks) any = stay-by (equal _)
  main-on e e' (equal Continues) any = stay-by (equal _)
  main-on e e' (equal (Halts halt)) any = stay-by (equal _)
  main-on e e' (equal (Waits lack fs)) any = stay-by (waiting _ _ _)
  main-on e e' (waiting lack fs gs) any = stay-by (waiting _ _ _)

  pub on_main-fewer : Follows Any b on_main on_main
  unfolding on_main
  on_main-fewer = record {
    waits = λ fs c. (_, refl);
    before = on_main-going;
    after = on_main-going;
    goes_on = main-on;
  }

-- ---- steps

-- where no step is left, the old part is spent, and the new one adds to what has happened
none_left : {k : ℕ} (f : Frame) (c : Config) (m' : Meaning) → Going m'
    → Ends k (Waits Spent (f ∷ []), c) (m' (plus k c))
none_left {k} f c m' after = let more = after (plus k c) in
    spent (f ∷ []) c (m' (plus k c)) more.events more.past

-- each takes a step first
pub tick-more : {b : ℕ} (f f' : Frame) {m m' : Meaning} → Fewer b m m'
    → Fewer (suc b) (tick f m) (tick f' m')
unfolding tick
tick-more {b} f f' {m} {m'} h = record {
  before = tick-going f m h.before;
  after = tick-going f' m' h.after;
  by = λ c k few. at c.steps c k few refl;
} where
  at : (n : ℕ) (c : Config) (k : ℕ) → c.steps ≤ suc b → c.steps ≡ n
      → Ends k (tick_at n f m c) (tick f' m' (plus k c))
  at zero c k few is = none_left f c (tick f' m') (tick-going f' m' h.after)
  at (suc n) c k few is = subst (λ i. Ends k (m (record c { steps = n }))
      (tick_at i f' m' (plus k c))) steps_are
      (h.by (record c { steps = n }) k (omega (arith, few, is))) where
        steps_are : suc (n + k) ≡ c.steps + k
        steps_are = omega (arith, is)

pub tick-fewer : {b : ℕ} (f f' : Frame) {m m' : Meaning} → Fewer b m m'
    → Fewer b (tick f m) (tick f' m')
tick-fewer f f' h = fewer (omega arith) (tick-more f f' h)

-- a step that the old part alone takes
pub tick-skipped : {b : ℕ} (f : Frame) {m m' : Meaning} → Fewer b m m' → Fewer b (tick f m) m'
unfolding tick
tick-skipped {b} f {m} {m'} h = record {
  before = tick-going f m h.before;
  after = h.after;
  by = λ c k few. at c.steps c k few refl;
} where
  at : (n : ℕ) (c : Config) (k : ℕ) → c.steps ≤ b → c.steps ≡ n
      → Ends k (tick_at n f m c) (m' (plus k c))
  at zero c k few is = none_left f c m' h.after
  at (suc n) c k few is = subst (λ i. Ends k (m (record c { steps = n }))
      (m' (record c { steps = i }))) steps_are
      (wider (omega arith) (h.by (record c { steps = n }) (suc k) (omega (arith, few, is)))) where
        steps_are : n + suc k ≡ c.steps + k
        steps_are = omega (arith, is)

-- ---- the smallest parts

module _ {b : ℕ} where
  pub trap-fewer : (kind : Trap) → Fewer b (trap kind) (trap kind)
  trap-fewer kind = record {
    before = trap-going kind;
    after = trap-going kind;
    by = λ c k few. alike _ _ c k (omega arith) (equal _);
  }

  pub changes-fewer : (f : World → World) → Fewer b (changes f) (changes f)
  changes-fewer f = acts (λ w. Normal) f

  draw_at-by : (draws : List ℕ) (n : ℤ) → By b (draw_at draws n) (draw_at draws n)
  draw_at-by [] n c k few = alike _ _ c k (omega arith) (equal _)
  draw_at-by (draw ∷ draws) n c k few = alike _ _ _ k (omega arith) (equal _)

  -- a random number is the same where more steps are left
  pub random_to-fewer : (n : ℤ) → Fewer b (random_to n) (random_to n)
  unfolding when
  random_to-fewer n = record {
    before = random_to-going n;
    after = random_to-going n;
    by = at (int_lt n (pos 1));
  } where
    at : (a : Bool) → By b (when a (trap t.Random) (take_draw n))
        (when a (trap t.Random) (take_draw n))
    at true = (trap-fewer t.Random).by
    at false = λ c. draw_at-by c.draws n c

  line_at-by : (lines : List (List ℕ)) (name : List ℕ) → By b (line_at lines name)
      (line_at lines name)
  line_at-by [] name c k few = alike _ _ c k (omega arith) (equal _)
  line_at-by (line ∷ lines) name c k few = alike _ _ _ k (omega arith) (equal _)

  -- a line that is read is the same where more steps are left
  pub read_line-fewer : (name : List ℕ) → Fewer b (read_line name) (read_line name)
  unfolding when
  read_line-fewer name = record {
    before = read_line-going name;
    after = read_line-going name;
    by = λ c. at (has_room (entries_of name c.world)) c;
  } where
    at : (a : Bool) → By b (when a (take_line name) (trap t.Line))
        (when a (take_line name) (trap t.Line))
    at true = λ c. line_at-by c.lines name c
    at false = (trap-fewer t.Line).by

  entry_by-by : (o : Option ℤ) → By b (entry_by o) (entry_by o)
  entry_by-by None = (trap-fewer t.Index).by
  entry_by-by (Some v) = stay-by (equal _)

  pub fetch-fewer : (name : List ℕ) (index : ℤ) → Fewer b (fetch name index) (fetch name index)
  fetch-fewer name index = record {
    before = fetch-going name index;
    after = fetch-going name index;
    by = λ c. entry_by-by (entry_at (entries_of name c.world) index) c;
  }

  store_by-by : (o : Option ℤ) (f : World → World) → By b (store_by o f) (store_by o f)
  store_by-by None f = (trap-fewer t.Index).by
  store_by-by (Some v) f = (changes-fewer f).by

  pub store-fewer : (name : List ℕ) (words : Bool) (index v : ℤ)
      → Fewer b (store name words index v) (store name words index v)
  store-fewer name words index v = record {
    before = store-going name words index v;
    after = store-going name words index v;
    by = λ c. store_by-by (entry_at (entries_of name c.world) index)
        (stored name words index v) c;
  }

  pub saying-fewer : (bytes : List ℕ) {m m' : Meaning} → Fewer b m m'
      → Fewer b (saying bytes m) (saying bytes m')
  unfolding saying
  saying-fewer bytes {m} {m'} h = record {
    before = saying-going bytes m h.before;
    after = saying-going bytes m' h.after;
    by = λ c k few. h.by (with_said bytes c) k few;
  }
