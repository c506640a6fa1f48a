-- What the parts of a run do to what is left, and to what has happened.
use Rattle.std.proofs.Common.{◌≡◌, ◌∙◌, arith, ℕ, zero, suc, ℤ, pos, Bool, true, false, List, [], ◌∷◌, ◌++◌, Option, Some, None, refl, sym, ap, append-nil, append_assoc}
use Rattle.std.specs.Prelude.{int_lt}
use Rattle.adv_io.specs.Steps.{Step, Spends, Said, Took, Drew, said_steps}
use Rattle.adv_io.proofs.Spending.{Spends-append}
use Rattle.inform_meaning.specs.declared.traps.Trap.{Trap}
use Rattle.inform_meaning.specs.declared.traps.Trap.TheVariants as t
use Rattle.inform_meaning.specs.Worlds.{Scope, World, Config, entries_of, entry_at, has_room}
use Rattle.inform_meaning.specs.Frames.{Frame, Outcome, Value, Truth, Normal, Returns, Breaks, Continues, Halts, Waits, Meaning, bind, when, on_normal, on_value, on_truth, on_body, on_return, on_main, on_over, Halt}
use Rattle.inform_meaning.specs.Parts.{tick_at, tick, trap, take_draw, take_line, draw_at, random_to, line_at, read_line, changes, entry_by, fetch, store_by, store, saying}
use Rattle.inform_meaning.specs.Laws.{Goes}

abbrev pub Going : Meaning → Type 0
Going m = (c : Config) → Goes c (m c).1

-- nothing happened, but perhaps to the world
pub unmoved : (c : Config) (w : World) → Goes c (record c { world = w })
unmoved c w = record {
  events = [];
  past = sym (append-nil c.past);
  steps = omega arith;
  spends =
      record { lines_spent = refl; draws_spent = refl };
}

-- one thing after another
pub goes_on : (a b c : Config) → Goes a b → Goes b c → Goes a c
goes_on a b c g h = record {
  events = g.events ++ h.events;
  past = h.past ∙ ap (λ past. past ++ h.events) g.past ∙ append_assoc a.past g.events h.events;
  steps = omega (arith, g.steps, h.steps);
  spends = Spends-append a.lines a.draws g.events h.events b.lines b.draws c.lines c.draws
      g.spends h.spends;
}

-- an outcome alone
pub stays : (c : Config) → Goes c c
stays c = unmoved c c.world

pub bind-going : (m : Meaning) (k : Outcome → Meaning) → Going m → ((e : Outcome) → Going (k e))
    → Going (bind m k)
unfolding bind
bind-going m k h hk c = goes_on c (m c).1 (k (m c).0 (m c).1).1 (h c) (hk (m c).0 (m c).1)

pub when-going : (b : Bool) (m n : Meaning) → Going m → Going n → Going (when b m n)
unfolding when
when-going true m n h k = h
when-going false m n h k = k

-- ---- what frames do

module _ (f : Frame) where
  pub on_normal-going : (m : Meaning) → Going m → (e : Outcome) → Going (on_normal f m e)
  unfolding on_normal
  on_normal-going m h Normal = h
  on_normal-going m h (Value v) = stays
  on_normal-going m h (Truth b) = stays
  on_normal-going m h (Returns v) = stays
  on_normal-going m h Breaks = stays
  on_normal-going m h Continues = stays
  on_normal-going m h (Halts halt) = stays
  on_normal-going m h (Waits lack fs) = stays

  -- a frame that goes on with a value adds to the past and uses what is left, if what follows does
  pub on_value-going : (k : ℤ → Meaning) → ((v : ℤ) → Going (k v)) → (e : Outcome)
      → Going (on_value f k e)
  unfolding on_value
  on_value-going k h (Value v) = h v
  on_value-going k h (Truth b) = stays
  on_value-going k h Normal = stays
  on_value-going k h (Returns v) = stays
  on_value-going k h Breaks = stays
  on_value-going k h Continues = stays
  on_value-going k h (Halts halt) = stays
  on_value-going k h (Waits lack fs) = stays

  -- a frame that goes on with a truth adds to the past and uses what is left, if what follows does
  pub on_truth-going : (k : Bool → Meaning) → ((b : Bool) → Going (k b)) → (e : Outcome)
      → Going (on_truth f k e)
  unfolding on_truth
  on_truth-going k h (Truth b) = h b
  on_truth-going k h (Value v) = stays
  on_truth-going k h Normal = stays
  on_truth-going k h (Returns v) = stays
  on_truth-going k h Breaks = stays
  on_truth-going k h Continues = stays
  on_truth-going k h (Halts halt) = stays
  on_truth-going k h (Waits lack fs) = stays

  pub on_body-going : (m : Meaning) → Going m → (e : Outcome) → Going (on_body f m e)
  unfolding on_body
  on_body-going m h Normal = h
  on_body-going m h Continues = h
  on_body-going m h (Value v) = stays
  on_body-going m h (Truth b) = stays
  on_body-going m h (Returns v) = stays
  on_body-going m h Breaks = stays
  on_body-going m h (Halts halt) = stays
  on_body-going m h (Waits lack fs) = stays

pub on_return-going : (s : Scope) (e : Outcome) → Going (on_return s e)
unfolding on_return
on_return-going s Normal c = unmoved c _
on_return-going s (Value v) c = unmoved c _
on_return-going s (Truth b) c = unmoved c _
on_return-going s (Returns v) c = unmoved c _
on_return-going s Breaks c = unmoved c _
on_return-going s Continues c = unmoved c _
on_return-going s (Halts halt) c = unmoved c _
on_return-going s (Waits lack fs) c = unmoved c _

pub on_main-going : (e : Outcome) → Going (on_main e)
unfolding on_main
on_main-going Normal = stays
on_main-going (Value v) = stays
on_main-going (Truth b) = stays
on_main-going (Returns v) = stays
on_main-going Breaks = stays
on_main-going Continues = stays
on_main-going (Halts halt) = stays
on_main-going (Waits lack fs) = stays

pub on_over-going : (halt : Halt) (e : Outcome) → Going (on_over halt e)
unfolding on_over
on_over-going halt Normal = stays
on_over-going halt (Value v) = stays
on_over-going halt (Truth b) = stays
on_over-going halt (Returns v) = stays
on_over-going halt Breaks = stays
on_over-going halt Continues = stays
on_over-going halt (Halts other) = stays
on_over-going halt (Waits lack fs) = stays

-- ---- the smallest parts

-- one step fewer
pub stepped : (n : ℕ) (c : Config) → c.steps ≡ suc n → Goes c (record c { steps = n })
stepped n c h = record {
  events = [];
  past = sym (append-nil c.past);
  steps =
      omega (arith, h);
  spends = record { lines_spent = refl; draws_spent = refl };
}

pub tick-going : (f : Frame) (m : Meaning) → Going m → Going (tick f m)
unfolding tick
tick-going f m h c = by c.steps refl where
  by : (n : ℕ) → c.steps ≡ n → Goes c (tick_at n f m c).1
  by zero is = unmoved c c.world
  by (suc n) is = goes_on c (record c { steps = n }) (m (record c { steps = n })).1 (stepped n c is)
      (h (record c { steps = n }))

pub draw_at-going : (draws : List ℕ) (n : ℤ) (c : Config) → c.draws ≡ draws
    → Goes c (draw_at draws n c).1
draw_at-going [] n c is = unmoved c c.world
draw_at-going (draw ∷ draws) n c is = record {
  events = Drew draw ∷ [];
  past = refl;
  steps = omega arith;
  spends =
      record { lines_spent = refl; draws_spent = sym is };
}

pub trap-going : (kind : Trap) → Going (trap kind)
trap-going kind c = unmoved c c.world

pub take_draw-going : (n : ℤ) → Going (take_draw n)
take_draw-going n c = draw_at-going c.draws n c refl

pub random_to-going : (n : ℤ) → Going (random_to n)
random_to-going n = when-going (int_lt n (pos 1)) (trap t.Random) (take_draw n)
    (trap-going t.Random) (take_draw-going n)

pub line_at-going : (lines : List (List ℕ)) (name : List ℕ) (c : Config) → c.lines ≡ lines
    → Goes c (line_at lines name c).1
line_at-going [] name c is = unmoved c c.world
line_at-going (line ∷ lines) name c is = record {
  events = Took line ∷ [];
  past = refl;
  steps = omega arith;
  spends =
      record { lines_spent = sym is; draws_spent = refl };
}

pub take_line-going : (name : List ℕ) → Going (take_line name)
take_line-going name c = line_at-going c.lines name c refl

pub read_line-going : (name : List ℕ) → Going (read_line name)
read_line-going name c = when-going (has_room (entries_of name c.world)) (take_line name)
    (trap t.Line) (take_line-going name) (trap-going t.Line) c

pub changes-going : (f : World → World) → Going (changes f)
changes-going f c = unmoved c (f c.world)

pub entry_by-going : (o : Option ℤ) → Going (entry_by o)
entry_by-going None c = unmoved c c.world
entry_by-going (Some v) c = unmoved c c.world

pub fetch-going : (name : List ℕ) (index : ℤ) → Going (fetch name index)
fetch-going name index c = entry_by-going (entry_at (entries_of name c.world) index) c

pub store_by-going : (o : Option ℤ) (f : World → World) → Going (store_by o f)
store_by-going None f c = unmoved c c.world
store_by-going (Some v) f c = unmoved c (f c.world)

pub store-going : (name : List ℕ) (words : Bool) (index v : ℤ) → Going (store name words index v)
store-going name words index v c = store_by-going (entry_at (entries_of name c.world) index) _ c

-- what is said takes nothing
one-more : (byte : ℕ) (steps : List Step) (lines : List (List ℕ)) (draws : List ℕ)
    → Spends lines draws steps lines draws → Spends lines draws (Said byte ∷ steps) lines draws
one-more byte steps lines draws h =
    record { lines_spent = h.lines_spent; draws_spent = h.draws_spent }

said-spends : (bytes : List ℕ) (lines : List (List ℕ)) (draws : List ℕ)
    → Spends lines draws (said_steps bytes) lines draws
said-spends [] lines draws = record { lines_spent = refl; draws_spent = refl }
said-spends (byte ∷ bytes) lines draws =
    one-more byte (said_steps bytes) lines draws (said-spends bytes lines draws)

pub saying-going : (bytes : List ℕ) (m : Meaning) → Going m → Going (saying bytes m)
unfolding saying
saying-going bytes m h c = goes_on c _ (saying bytes m c).1
    (record {
      events = said_steps bytes;
      past = refl;
      steps = omega arith;
      spends =
          said-spends bytes c.lines c.draws;
    }) (h _)
