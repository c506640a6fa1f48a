-- What a part of a run does with one step more: where it was spent it enters at most one routine,
-- which is the innermost one then. Here is what that is, and that the smallest parts do so.
use Rattle.std.proofs.Common.{◌≡◌, ◌∙◌, arith, ℕ, zero, suc, ◌+◌, ◌<◌, ◌≤◌, ℤ, pos, Bool, true, false, List, [], ◌∷◌, ◌++◌, Option, Some, None, refl, sym, ap, subst, append-nil}
use Rattle.std.specs.Prelude.{⊤, int_lt}
use Rattle.std.specs.List.{filter_map}
use Rattle.std.proofs.lemmas.List.Elements.{filter_map-append}
use Rattle.adv_io.specs.Steps.{Step, Took, Drew, noted_of, noted, said_steps}
use Rattle.inform_meaning.specs.declared.traps.Trap.{Trap}
use Rattle.inform_meaning.specs.declared.traps.Trap.TheVariants as t
use Rattle.inform_meaning.specs.Worlds.{Scope, World, Config, entries_of, entry_at, stored, has_room, with_said}
use Rattle.inform_meaning.specs.Frames.{Begin, Frame, Begins, Wants, Decides, Looping, Calling, Main, Over, Lack, Spent, Outcome, Value, Truth, Normal, Returns, Breaks, Continues, Halts, Waits, Meaning, bind, when, on_normal, on_value, on_truth, on_body, on_return, on_main}
use Rattle.inform_meaning.specs.Parts.{tick_at, tick, trap, take_line, draw_at, random_to, line_at, read_line, changes, entry_by, fetch, store_by, store, saying}
use Rattle.inform_entered.specs.Entered.{calls_open}

-- ---- what one step more does

abbrev pub more : Config → Config
more c = record c { steps = suc c.steps }

-- the calls that are open where a part stopped
abbrev pub calls_of : Outcome → ℕ
calls_of (Waits lack fs) = calls_open fs
calls_of e = 0

-- something has begun, and the run isn't over
abbrev pub IsLive : List Frame → Type 0
IsLive [] = ⊥
IsLive (Over halt ∷ fs) = ⊥
IsLive (f ∷ fs) = ⊤

-- without a step nothing is noted, and no more calls than these are open
pub record Still (most : ℕ) (c : Config) (r : Outcome × Config) : Type 0 where
  pub spent : r.1.steps ≡ 0
  pub few : calls_of r.0 ≤ most
  pub same : noted r.1.past ≡ noted c.past

module _ (number : ℕ → Option ℕ) where
  -- The same part with so many steps at most, and with one more: it ends alike; or it was spent
  -- and goes on without entering a routine, or enters one and is spent there, which is noted.
  pub data Next (s : ℕ) : Outcome × Config → Outcome × Config → Type 0 where
    rests : (e : Outcome) (c : Config) → c.steps ≤ s → Next s (e, c) (e, more c)
    goes : (fs : List Frame) (c : Config) (r : Outcome × Config) → IsLive fs
        → Still (calls_open fs) c r → Next s (Waits Spent fs, c) r
    opens : (fs gs : List Frame) (c d : Config) → IsLive gs → d.steps ≡ 0
        → calls_open gs ≡ calls_open fs + 1
        → noted d.past ≡ noted c.past ++ filter_map number (d.world.scope.directive ∷ [])
        → Next s (Waits Spent fs, c) (Waits Spent gs, d)

  -- ---- parts that keep to that

  -- a part does so wherever fewer steps than these are left, and is still where none is
  pub record Steady (most b : ℕ) (m : Meaning) : Type 0 where
    pub moves : (c : Config) → c.steps < b → Next c.steps (m c) (m (more c))
    pub still : (c : Config) → c.steps ≡ 0 → Still most c (m c)

  -- a part that begins where no step is left may be the body of a routine, which is then open
  pub data Entry (c : Config) : Outcome × Config → Type 0 where
    passes : (r : Outcome × Config) → Still 0 c r → Entry c r
    enters : (gs : List Frame) (d : Config) → IsLive gs → d.steps ≡ 0 → calls_open gs ≡ 1
        → noted d.past ≡ noted c.past ++ filter_map number (d.world.scope.directive ∷ [])
        → Entry c (Waits Spent gs, d)

  -- the same of a routine
  pub record Called (b : ℕ) (m : Meaning) : Type 0 where
    pub moves : (c : Config) → c.steps < b → Next c.steps (m c) (m (more c))
    pub entry : (c : Config) → c.steps ≡ 0 → Entry c (m c)

-- ---- frames in a list

calls-join : (fs gs : List Frame) → calls_open (fs ++ gs) ≡ calls_open fs + calls_open gs
calls-join [] gs = omega arith
calls-join (f ∷ fs) gs = let rest = calls-join fs gs in omega (arith, rest)

live-join : (fs gs : List Frame) → IsLive fs → IsLive (fs ++ gs)
live-join [] gs live = absurd live
live-join (Begins x ∷ fs) gs live = tt
live-join (Wants x ∷ fs) gs live = tt
live-join (Decides x ∷ fs) gs live = tt
live-join (Looping x ∷ fs) gs live = tt
live-join (Calling x ∷ fs) gs live = tt
live-join (Main ∷ fs) gs live = tt
live-join (Over halt ∷ fs) gs live = absurd live

-- ---- what isn't noted

unnoted : (past : List Step) (x : Step) → noted_of x ≡ None → noted (past ++ x ∷ []) ≡ noted past
unnoted past x none = filter_map-append noted_of past (x ∷ [])
    ∙ ap (λ xs. noted past ++ xs) (alone none) ∙ append-nil (noted past) where
      alone : noted_of x ≡ None → noted (x ∷ []) ≡ []
      alone is = rw is

said-unnoted : (bytes : List ℕ) → noted (said_steps bytes) ≡ []
said-unnoted [] = refl
said-unnoted (byte ∷ bytes) = said-unnoted bytes

-- ---- outcomes

-- one that waits for nothing
abbrev pub IsDone : Outcome → Type 0
IsDone (Waits lack fs) = ⊥
IsDone e = ⊤

data Kind : Outcome → Type 0 where
  done : (e : Outcome) → IsDone e → Kind e
  waiting : (lack : Lack) (fs : List Frame) → Kind (Waits lack fs)

kind_of : (e : Outcome) → Kind e
kind_of Normal = done Normal tt
kind_of (Value v) = done (Value v) tt
kind_of (Truth b) = done (Truth b) tt
kind_of (Returns v) = done (Returns v) tt
kind_of Breaks = done Breaks tt
kind_of Continues = done Continues tt
kind_of (Halts halt) = done (Halts halt) tt
kind_of (Waits lack fs) = waiting lack fs

-- what follows an outcome: where that waits, these frames wait too
pub record Follows (number : ℕ → Option ℕ) (b : ℕ) (tail : List Frame) (k : Outcome → Meaning)
    : Type 0 where
  pub waits : (lack : Lack) (fs : List Frame) (c : Config)
      → k (Waits lack fs) c ≡ (Waits lack (fs ++ tail), c)
  pub goes_on : (e : Outcome) → IsDone e → Steady number (calls_open tail) b (k e)

module _ {number : ℕ → Option ℕ} where
  pub wider : {s s' : ℕ} {r r' : Outcome × Config} → s ≤ s' → Next number s r r'
      → Next number s' r r'
  wider less (rests e c few) = rests e c (omega (arith, less, few))
  wider less (goes fs c r live still) = goes fs c r live still
  wider less (opens fs gs c d live spent calls same) = opens fs gs c d live spent calls same

  -- fewer steps, and more open calls
  pub fewer : {most b b' : ℕ} {m : Meaning} → b' ≤ b → Steady number most b m
      → Steady number most b' m
  fewer less h =
      record { moves = λ c few. h.moves c (omega (arith, less, few)); still = h.still }

  pub looser : {most b : ℕ} {m : Meaning} → Steady number 0 b m → Steady number most b m
  looser h = record {
    moves = h.moves;
    still = λ c none. let at = h.still c none in
        record { spent = at.spent; few = omega (arith, at.few); same = at.same };
  }

  pub as_called : {b : ℕ} {m : Meaning} → Steady number 0 b m → Called number b m
  as_called h = record { moves = h.moves; entry = λ c none. passes _ (h.still c none) }

  -- what looks at the world, and changes it
  pub acts : {most b : ℕ} (f : World → Outcome) (g : World → World)
      → ((w : World) → calls_of (f w) ≡ 0)
      → Steady number most b (λ c. (f c.world, record c { world = g c.world }))
  acts f g none = record {
    moves = λ c few. rests (f c.world) (record c { world = g c.world }) (omega arith);
    still = λ c spent. let calls = none c.world in
        record { spent = spent; few = omega (arith, calls); same = refl };
  }

  pub stays : {most b : ℕ} {e : Outcome} → calls_of e ≡ 0 → Steady number most b (λ c. (e, c))
  stays {most} {b} {e} none = acts (λ w. e) (λ w. w) (λ w. none)

  -- ---- one part after another

  module _ {b : ℕ} {tail : List Frame} {k : Outcome → Meaning} (h : Follows number b tail k) where
    still_after : {most : ℕ} {c : Config} (r : Outcome × Config) → Still most c r
        → Still (most + calls_open tail) c (k r.0 r.1)
    still_after {most} {c} (e, d) at = by (kind_of e) at where
      by : {e : Outcome} → Kind e → Still most c (e, d)
          → Still (most + calls_open tail) c (k e d)
      by (waiting lack fs) at = subst (Still (most + calls_open tail) c) (sym (h.waits lack fs d))
          (let calls = calls-join fs tail in record {
            spent = at.spent;
            few = omega (arith, calls, at.few);
            same = at.same;
          })
      by (done e over) at = let next = (h.goes_on e over).still d at.spent in record {
        spent = next.spent;
        few = omega (arith, next.few);
        same = next.same ∙ at.same;
      }

    next_after : {s : ℕ} {r r' : Outcome × Config} → s < b → Next number s r r'
        → Next number s (k r.0 r.1) (k r'.0 r'.1)
    next_after {s} less (rests e c few) = by (kind_of e) where
      by : {e : Outcome} → Kind e → Next number s (k e c) (k e (more c))
      by (waiting lack fs) = subst (λ r. Next number s r (k (Waits lack fs) (more c)))
          (sym (h.waits lack fs c))
          (subst (λ r. Next number s (Waits lack (fs ++ tail), c) r)
          (sym (h.waits lack fs (more c))) (rests (Waits lack (fs ++ tail)) c few))
      by (done e over) = wider few ((h.goes_on e over).moves c (omega (arith, few, less)))
    next_after {s} less (goes fs c r live at) =
        subst (λ first. Next number s first (k r.0 r.1)) (sym (h.waits Spent fs c))
        (goes (fs ++ tail) c (k r.0 r.1) (live-join fs tail live)
        (subst (λ most. Still most c (k r.0 r.1)) (sym (calls-join fs tail)) (still_after r at)))
    next_after {s} less (opens fs gs c d live spent calls same) =
        subst (λ first. Next number s first (k (Waits Spent gs) d)) (sym (h.waits Spent fs c))
        (subst (λ r. Next number s (Waits Spent (fs ++ tail), c) r) (sym (h.waits Spent gs d))
        (let before = calls-join fs tail in let now = calls-join gs tail in
        opens (fs ++ tail) (gs ++ tail) c d (live-join gs tail live) spent
        (omega (arith, before, now, calls)) same))

  pub bind-steady : {most b : ℕ} {tail : List Frame} {m : Meaning} {k : Outcome → Meaning}
      → Steady number most b m → Follows number b tail k
      → Steady number (most + calls_open tail) b (bind m k)
  unfolding bind
  bind-steady {most} {b} {tail} {m} {k} h hk = record {
    moves = λ c few. next_after hk few (h.moves c few);
    still = λ c none. still_after hk (m c) (h.still c none);
  }

  pub bind-moves : {b : ℕ} {tail : List Frame} {m : Meaning} {k : Outcome → Meaning} (c : Config)
      → c.steps < b → Steady number 0 b m → Follows number b tail k
      → Next number c.steps (bind m k c) (bind m k (more c))
  unfolding bind
  bind-moves c few h hk = next_after hk few (h.moves c few)

  pub when-steady : {most b : ℕ} (a : Bool) {m n : Meaning} → Steady number most b m
      → Steady number most b n → Steady number most b (when a m n)
  unfolding when
  when-steady true h k = h
  when-steady false h k = k

  -- ---- what frames do

  module _ {b : ℕ} (f : Frame) where
    normal-on : {m : Meaning} → Steady number 0 b m → (e : Outcome) → IsDone e
        → Steady number (calls_open (f ∷ [])) b (on_normal f m e)
    unfolding on_normal
    normal-on h Normal over = looser h
    normal-on h (Value v) over = stays refl
    normal-on h (Truth a) over = stays refl
    normal-on h (Returns v) over = stays refl
    normal-on h Breaks over = stays refl
    normal-on h Continues over = stays refl
    normal-on h (Halts halt) over = stays refl
    normal-on h (Waits lack fs) over = absurd over

    pub on_normal-steady : {m : Meaning} → Steady number 0 b m
        → Follows number b (f ∷ []) (on_normal f m)
    unfolding on_normal
    on_normal-steady h = record { waits = λ lack fs c. refl; goes_on = normal-on h }

    value-on : {k : ℤ → Meaning} → ((v : ℤ) → Steady number 0 b (k v)) → (e : Outcome) → IsDone e
        → Steady number (calls_open (f ∷ [])) b (on_value f k e)
    unfolding on_value
    value-on h (Value v) over = looser (h v)
    value-on h (Truth a) over = stays refl
    value-on h Normal over = stays refl
    value-on h (Returns v) over = stays refl
    value-on h Breaks over = stays refl
    value-on h Continues over = stays refl
    value-on h (Halts halt) over = stays refl
    value-on h (Waits lack fs) over = absurd over

    pub on_value-steady : {k : ℤ → Meaning} → ((v : ℤ) → Steady number 0 b (k v))
        → Follows number b (f ∷ []) (on_value f k)
    unfolding on_value
    on_value-steady h = record { waits = λ lack fs c. refl; goes_on = value-on h }

    truth-on : {k : Bool → Meaning} → ((a : Bool) → Steady number 0 b (k a)) → (e : Outcome)
        → IsDone e → Steady number (calls_open (f ∷ [])) b (on_truth f k e)
    unfolding on_truth
    truth-on h (Truth a) over = looser (h a)
    truth-on h (Value v) over = stays refl
    truth-on h Normal over = stays refl
    truth-on h (Returns v) over = stays refl
    truth-on h Breaks over = stays refl
    truth-on h Continues over = stays refl
    truth-on h (Halts halt) over = stays refl
    truth-on h (Waits lack fs) over = absurd over

    pub on_truth-steady : {k : Bool → Meaning} → ((a : Bool) → Steady number 0 b (k a))
        → Follows number b (f ∷ []) (on_truth f k)
    unfolding on_truth
    on_truth-steady h = record { waits = λ lack fs c. refl; goes_on = truth-on h }

    body-on : {m : Meaning} → Steady number 0 b m → (e : Outcome) → IsDone e
        → Steady number (calls_open (f ∷ [])) b (on_body f m e)
    unfolding on_body
    body-on h Normal over = looser h
    body-on h Continues over = looser h
    body-on h (Value v) over = stays refl
    body-on h (Truth a) over = stays refl
    body-on h (Returns v) over = stays refl
    body-on h Breaks over = stays refl
    body-on h (Halts halt) over = stays refl
    body-on h (Waits lack fs) over = absurd over

    pub on_body-steady : {m : Meaning} → Steady number 0 b m
        → Follows number b (f ∷ []) (on_body f m)
    unfolding on_body
    on_body-steady h = record { waits = λ lack fs c. refl; goes_on = body-on h }

  module _ {b : ℕ} where
    return-on : (s : Scope) (e : Outcome) → IsDone e → Steady number 1 b (on_return s e)
    unfolding on_return
    return-on s Normal over = acts _ _ (λ w. refl)
    return-on s (Value v) over = acts _ _ (λ w. refl)
    return-on s (Truth a) over = acts _ _ (λ w. refl)
    return-on s (Returns v) over = acts _ _ (λ w. refl)
    return-on s Breaks over = acts _ _ (λ w. refl)
    return-on s Continues over = acts _ _ (λ w. refl)
    return-on s (Halts halt) over = acts _ _ (λ w. refl)
    return-on s (Waits lack fs) over = absurd over

    pub on_return-steady : (s : Scope) → Follows number b (Calling s ∷ []) (on_return s)
    unfolding on_return
    on_return-steady s = record { waits = λ lack fs c. refl; goes_on = return-on s }

    main-on : (e : Outcome) → IsDone e → Steady number 0 b (on_main e)
    unfolding on_main
    main-on Normal over = stays refl
    main-on (Value v) over = stays refl
    main-on (Truth a) over = stays refl
    main-on (Returns v) over = stays refl
    main-on Breaks over = stays refl
    main-on Continues over = stays refl
    main-on (Halts halt) over = stays refl
    main-on (Waits lack fs) over = absurd over

    pub on_main-steady : Follows number b (Main ∷ []) on_main
    unfolding on_main
    on_main-steady = record { waits = λ lack fs c. refl; goes_on = main-on }

  -- ---- the smallest parts

  -- what takes a step first: where none is left, it is spent there
  pub call-steady : {b : ℕ} (x : Begin) {m : Meaning} → Called number b m
      → Steady number 0 (suc b) (tick (Begins x) m)
  unfolding tick
  call-steady {b} x {m} h = record {
    moves = λ c few. at c.steps c few refl;
    still = λ c none. subst (λ n. Still 0 c (tick_at n (Begins x) m c)) (sym none)
        (record { spent = none; few = omega arith; same = refl });
  } where
    entered : (c : Config) {r : Outcome × Config} → Entry number (record c { steps = 0 }) r
        → Next number 0 (Waits Spent (Begins x ∷ []), c) r
    entered c (passes r at) = goes (Begins x ∷ []) c r tt
        (record { spent = at.spent; few = omega (arith, at.few); same = at.same })
    entered c (enters gs d live spent calls same) =
        opens (Begins x ∷ []) gs c d live spent (omega (arith, calls)) same

    at : (n : ℕ) (c : Config) → c.steps < suc b → c.steps ≡ n
        → Next number n (tick_at n (Begins x) m c) (tick_at (suc n) (Begins x) m (more c))
    at zero c few is = entered c (h.entry (record c { steps = 0 }) refl)
    at (suc n) c few is =
        wider (omega arith) (h.moves (record c { steps = n }) (omega (arith, few, is)))

  pub tick-more : {b : ℕ} (x : Begin) {m : Meaning} → Steady number 0 b m
      → Steady number 0 (suc b) (tick (Begins x) m)
  tick-more x h = call-steady x (as_called h)

  pub tick-steady : {b : ℕ} (x : Begin) {m : Meaning} → Steady number 0 b m
      → Steady number 0 b (tick (Begins x) m)
  tick-steady x h = fewer (omega arith) (tick-more x h)

  module _ {b : ℕ} where
    pub trap-steady : (kind : Trap) → Steady number 0 b (trap kind)
    trap-steady kind = acts _ _ (λ w. refl)

    pub changes-steady : (g : World → World) → Steady number 0 b (changes g)
    changes-steady g = acts _ _ (λ w. refl)

    entry_by-steady : (o : Option ℤ) → Steady number 0 b (entry_by o)
    entry_by-steady None = trap-steady t.Index
    entry_by-steady (Some v) = stays refl

    pub fetch-steady : (name : List ℕ) (index : ℤ) → Steady number 0 b (fetch name index)
    fetch-steady name index = record {
      moves = λ c. (entry_by-steady (entry_at (entries_of name c.world) index)).moves c;
      still = λ c. (entry_by-steady (entry_at (entries_of name c.world) index)).still c;
    }

    store_by-steady : (o : Option ℤ) (g : World → World) → Steady number 0 b (store_by o g)
    store_by-steady None g = trap-steady t.Index
    store_by-steady (Some v) g = changes-steady g

    pub store-steady : (name : List ℕ) (words : Bool) (index v : ℤ)
        → Steady number 0 b (store name words index v)
    store-steady name words index v = record {
      moves = λ c. (store_by-steady (entry_at (entries_of name c.world) index)
          (stored name words index v)).moves c;
      still = λ c. (store_by-steady (entry_at (entries_of name c.world) index)
          (stored name words index v)).still c;
    }

    draw_at-steady : (draws : List ℕ) (n : ℤ) → Steady number 0 b (draw_at draws n)
    draw_at-steady [] n = stays refl
    draw_at-steady (draw ∷ draws) n = record {
      moves = λ c few. rests _ _ (omega arith);
      still = λ c none. record {
        spent = none;
        few = omega arith;
        same = unnoted c.past (Drew draw) refl;
      };
    }

    pub random_to-steady : (n : ℤ) → Steady number 0 b (random_to n)
    random_to-steady n = when-steady (int_lt n (pos 1)) (trap-steady t.Random) (record {
      moves = λ c. (draw_at-steady c.draws n).moves c;
      still = λ c. (draw_at-steady c.draws n).still c;
    })

    line_at-steady : (lines : List (List ℕ)) (name : List ℕ)
        → Steady number 0 b (line_at lines name)
    line_at-steady [] name = stays refl
    line_at-steady (line ∷ lines) name = record {
      moves = λ c few. rests _ _ (omega arith);
      still = λ c none. record {
        spent = none;
        few = omega arith;
        same = unnoted c.past (Took line) refl;
      };
    }

    take_line-steady : (name : List ℕ) → Steady number 0 b (take_line name)
    take_line-steady name = record {
      moves = λ c. (line_at-steady c.lines name).moves c;
      still = λ c. (line_at-steady c.lines name).still c;
    }

    pub read_line-steady : (name : List ℕ) → Steady number 0 b (read_line name)
    read_line-steady name = record {
      moves = λ c. (room c).moves c;
      still = λ c. (room c).still c;
    } where
      room : (c : Config) → Steady number 0 b
          (when (has_room (entries_of name c.world)) (take_line name) (trap t.Line))
      room c = when-steady (has_room (entries_of name c.world)) (take_line-steady name)
          (trap-steady t.Line)

    pub saying-steady : (bytes : List ℕ) {m : Meaning} → Steady number 0 b m
        → Steady number 0 b (saying bytes m)
    unfolding saying
    saying-steady bytes h = record {
      moves = λ c few. h.moves (with_said bytes c) few;
      still = λ c none. let at = h.still (with_said bytes c) none in record {
        spent = at.spent;
        few = at.few;
        same = at.same ∙ filter_map-append noted_of c.past (said_steps bytes)
            ∙ ap (λ xs. noted c.past ++ xs) (said-unnoted bytes) ∙ append-nil (noted c.past);
      };
    }
