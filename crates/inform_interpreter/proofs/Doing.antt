-- What an interpreter does, put together from what it does with parts.
use Rattle.std.proofs.Common.{◌≡◌, ◌∙◌, ℕ, suc, ◌+◌, ◌*◌, ◌<◌, ◌≤◌, ℤ, Bool, true, List, [], ◌∷◌, ◌++◌, length, reverse, Option, Some, None, Result, Ok, Err, refl, sym, ap, subst, arith, append-nil, append_assoc}
use Rattle.std.proofs.lemmas.List.{reverse-append}
use Rattle.adv_draws.specs.Supply.{Supply}
use Rattle.adv_io.specs.Steps.{Step, shown_of, said_steps}
use Rattle.adv_io.specs.Console.{ConsoleView}
use Rattle.adv_io.specs.History.{grown, GrewByPrefix}
use Rattle.adv_io.proofs.Sayings.{grown-nil, grown_on, part_on, part_of_more, cause_none, cause_again, cause_fails, cause_then}
use Rattle.adv_io.proofs.Showing.{shown_of-append, shown_of-said}
use Rattle.inform_meaning.specs.declared.traps.Trap.{Trap}
use Rattle.inform_meaning.specs.Worlds.{Config, with_said}
use Rattle.inform_meaning.specs.Frames as f
use Rattle.inform_meaning.specs.Frames.{Begin, Want, Decide, Frame, Begins, Wants, Decides, Lack, Outcome, Value, Truth, Normal, Returns, Breaks, Continues, Halts, Waits, Meaning, gives, bind, on_normal, on_value, on_truth}
use Rattle.inform_meaning.specs.Parts.{tick, trap, saying}
use Rattle.inform_meaning.specs.Laws.{Goes}
use Rattle.inform_meaning.specs.Runs.{call_at, hand}
use Rattle.inform_meaning.proofs.GoingRuns.{call_at-going, hand-going}
use Rattle.inform_moves.specs.Heights.{ROUTINE_FRAMES, height, calls_open}
use Rattle.inform_moves.specs.Readiness.{IsDry, HasRoom}
use Rattle.inform_moves.specs.Laws.{IsSettled}
use Rattle.inform_steps.specs.Standing.{CallIsDue}
use Rattle.inform_worlds.specs.Worlds.{program_of as program_of_names}
use Rattle.inform_worlds.specs.Views.{world_of}
use Rattle.inform_frames.specs.declared.signals.Halt.TheVariants as g
use Rattle.inform_frames.specs.Frames.{halt_of}
use Rattle.inform_frames.specs.Stacks.{stack_of}
use Rattle.inform_interpreter.specs.declared.exits.Exit.{Exit}
use Rattle.inform_interpreter.specs.declared.exits.Exit.TheVariants as exits
use Rattle.inform_interpreter.specs.declared.exits.Lack.{Lack as Lacks}
use Rattle.inform_interpreter.specs.declared.exits.Stopped.{Stopped}
use Rattle.inform_interpreter.specs.declared.exits.Stopped.TheVariants as s
use Rattle.inform_interpreter.specs.declared.interpreters.Interpreter.{Interpreter}
use Rattle.inform_interpreter.specs.Leading.{Place, config_at, MayBeLeft, Anything, IsNoCall, IsQuiet, Leads, LeadsTo}
use Rattle.inform_interpreter.specs.Interpreters.{program_of, calls_of, waiting_in, place_of, IsReady, lack_of, stop_in, left_by}
use Rattle.inform_interpreter.specs.Doing.{Part, meant, Reaches, Breaks as Broken, Ends, WaitsAlone, IsSpentRight, answer_of, Stays, Does, Comes, begun, wanted, decided, handed, then_handed, joined, Joins, Says}
use Rattle.inform_interpreter.proofs.Leading.{settled-left, leads-nowhere, leads-then, leads-bind, leads-into}
use Rattle.inform_interpreter.proofs.Fitting.{fits-idle, fits-more, fits-alone, fits-joined}
use Rattle.inform_interpreter.proofs.Frames.{hand-holds, IsOf, IsLeftBy, leaves-by}

-- ---- readiness

pub ready-less : (i : Interpreter) (n m : ℕ) → IsReady i n → m ≤ n → IsReady i m
ready-less i n m r few = record { idle = r.idle; room = omega (arith, r.room, few); calls = r.calls }

-- ---- what stays

pub stays-still : (old new : Interpreter) (seen : ConsoleView) (given : Supply)
    → new.world.names ≡ old.world.names → new.room ≡ old.room → new.to_call ≡ old.to_call
    → new.left ≤ old.left → Stays old new seen seen given given (Ok tt)
stays-still old new seen given names room to_call left = record {
  names = names;
  room = room;
  to_call = to_call;
  left = left;
  supply = refl;
  bounded = omega arith;
  cause = cause_none tt;
}

pub stays-then : (i j k : Interpreter) (a b c : ConsoleView) (x y z : Supply)
    (r : Result (Unit {0}) (Unit {0}))
    → Stays i j a b x y (Ok tt) → Stays j k b c y z r → Stays i k a c x z r
stays-then i j k a b c x y z r first then = record {
  names = then.names ∙ first.names;
  room = then.room ∙ first.room;
  to_call = then.to_call ∙ first.to_call;
  left = omega (arith, first.left, then.left);
  supply = then.supply ∙ first.supply;
  bounded = omega (arith, first.bounded, then.bounded);
  cause = cause_then first.cause then.cause;
}

-- a part means the same where the names and the room are the same
pub meant-same : (part : Part) (i j : Interpreter) → j.world.names ≡ i.world.names
    → j.room ≡ i.room → meant part j ≡ meant part i
meant-same part i j names room =
    ap (λ n. part (program_of_names n.accepted.now) (call_at (program_of_names n.accepted.now) j.room)) names
    ∙ ap (λ r. part (program_of i) (call_at (program_of i) r)) room

-- ---- after a part was done up to where another one is left

module _ (old mid new : Interpreter) (a b c : ConsoleView) (drawn mid_drawn left : List ℕ)
    (lines : List (List ℕ)) (m m' : Meaning) (to_call : mid.to_call ≡ old.to_call)
    (first : Reaches Anything m m' old mid a b drawn mid_drawn lines) where
  pub reaches-then : (ok : ℕ → Type 0) (n : Meaning)
      → Reaches ok m' n mid new b c mid_drawn left first.left
      → Reaches ok m n old new a c drawn left lines
  reaches-then ok n then = record {
    used = first.used + then.used;
    done = first.done ++ then.done;
    left = then.left;
    steps = omega (arith, first.steps, then.steps);
    grew = grown_on a.history b.history c.history (shown_of first.done) (shown_of then.done)
        first.grew then.grew
        ∙ ap (grown a.history) (sym (shown_of-append first.done then.done));
    lines_left = then.lines_left;
    leads = leads-then m m' n (place_of old lines drawn) (place_of mid first.left mid_drawn)
        (place_of new then.left left) first.used then.used first.done then.done first.leads
        (subst (λ q. Leads q ok m' n (place_of mid first.left mid_drawn)
        (place_of new then.left left) then.used then.done) to_call then.leads);
  }

  breaks-then : (past : List Step) → Broken m' mid b c mid_drawn first.left (past ++ first.done)
      → Broken m old a c drawn lines past
  breaks-then past then = record {
    events = first.done ++ then.events;
    same =
        let order : old.left ≡ first.used + mid.left = omega (arith, first.steps) in
        ap (λ n. (m (config_at (place_of old lines drawn) n past)).1.past) order
        ∙ ap (λ r. r.1.past) (first.leads.same mid.left past tt)
        ∙ then.same
        ∙ append_assoc past first.done then.events;
    shows = subst (GrewByPrefix a.history c.history) (sym (shown_of-append first.done then.events))
        (part_on a.history b.history c.history (shown_of first.done) (shown_of then.events)
        first.grew then.shows);
  }

  pub ends-then : (e : Option Outcome) → Ends e m' mid new b c mid_drawn left first.left
      → Ends e m old new a c drawn left lines
  ends-then None h = λ past. breaks-then past (h (past ++ first.done))
  ends-then (Some e) h = reaches-then (MayBeLeft e) (gives e) h

-- what comes to a part, and does that, does the whole
pub comes-does : (n h : ℕ) (part rest : Part) (old mid new : Interpreter) (a b c : ConsoleView)
    (x y z : Supply) (e : Option Outcome) → n ≤ h
    → Comes part rest old mid a b x y → Does n rest mid new b c y z e
    → Does h part old new a c x z e
comes-does n h part rest old mid new a b c x y z e fits first then = record {
  stays = stays-then old mid new a b c x y z (answer_of e) first.stays then.stays;
  alone = then.alone;
  few = omega (arith, fits, then.few, ap (λ r. ROUTINE_FRAMES * r) first.stays.room);
  calls = omega (arith, then.calls, first.stays.room);
  fits = fits-more new e fits then.fits;
  spent = then.spent;
  ends = λ lines known.
      let r = first.reaches lines known in
      ends-then old mid new a b c x.left y.left z.left lines (meant part old) (meant rest old)
      first.stays.to_call r e
      (subst (λ m. Ends e m mid new b c y.left z.left r.left)
      (meant-same rest old mid first.stays.names first.stays.room) (then.ends r.left r.lines_left));
}

pub comes-comes : (part rest last : Part) (old mid new : Interpreter) (a b c : ConsoleView)
    (x y z : Supply)
    → Comes part rest old mid a b x y → Comes rest last mid new b c y z
    → Comes part last old new a c x z
comes-comes part rest last old mid new a b c x y z first then = record {
  stays = stays-then old mid new a b c x y z (Ok tt) first.stays then.stays;
  idle = then.idle;
  reaches = λ lines known.
      let r = first.reaches lines known in
      let t = then.reaches r.left r.lines_left in
      reaches-then old mid new a b c x.left y.left z.left lines (meant part old) (meant rest old)
      first.stays.to_call r Anything (meant last old)
      (subst (λ m. Reaches Anything m (meant last old) mid new b c y.left z.left r.left)
      (meant-same rest old mid first.stays.names first.stays.room)
      (subst (λ m. Reaches Anything (meant rest mid) m mid new b c y.left z.left r.left)
      (meant-same last old mid first.stays.names first.stays.room) t));
}

-- ---- a part, and what a frame does with its outcome

-- a part whose outcome doesn't wait comes to what the frame does with that
module _ (part : Part) (fr : Frame) (none : IsNoCall fr) (old mid : Interpreter) (a b : ConsoleView)
    (x y : Supply) where
  pub settles : (e : Outcome) → IsSettled e → WaitsAlone (Some e) (stack_of mid.waiting)
      → stack_of mid.waiting ≡ []
  settles (Value v) h alone = alone
  settles (Truth v) h alone = alone
  settles Normal h alone = alone
  settles (Returns v) h alone = alone
  settles f.Breaks h alone = alone
  settles Continues h alone = alone
  settles (Halts halt) h alone = alone
  settles (Waits lack fs) h alone = absurd h

  pub bound : (n : ℕ) (e : Outcome) → IsSettled e → Does n part old mid a b x y (Some e)
      → Comes (then_handed part fr) (handed fr e) old mid a b x y
  bound n e settled d = record {
    stays = d.stays;
    idle = settles e settled d.alone;
    reaches = λ lines known.
        let r = d.ends lines known in
        record {
          used = r.used;
          done = r.done;
          left = r.left;
          steps = r.steps;
          grew = r.grew;
          lines_left = r.lines_left;
          leads = leads-bind (meant part old) (hand (program_of old) (calls_of old) fr) e fr
              (place_of old lines x.left) (place_of mid r.left y.left) r.used r.done Anything
              (λ more any. settled-left e more settled) none (hand-holds (program_of old) (calls_of old) fr)
              r.leads;
        };
  }

-- what a frame does with what it wants
pub value-part : (w : Want) (a : ℤ) → handed (Wants w) (Value a) ≡ wanted w a
unfolding on_value
value-part w a = refl

pub truth-part : (d : Decide) (b : Bool) → handed (Decides d) (Truth b) ≡ decided d b
unfolding on_truth
truth-part d b = refl

pub normal-part : (b : Begin) → handed (Begins b) Normal ≡ begun b
unfolding on_normal
normal-part b = refl

-- ---- a part that is there at once

-- nothing is done but to the world
pub gives-world : (h : ℕ) (part : Part) (e : Outcome) (old new : Interpreter) (seen : ConsoleView)
    (given : Supply) → WaitsAlone (Some e) [] → IsSpentRight (Some e) new
    → stack_of new.waiting ≡ [] → new.left ≡ old.left
    → new.world.names ≡ old.world.names → new.room ≡ old.room → new.to_call ≡ old.to_call
    → ((lines : List (List ℕ)) (draws : List ℕ) (n : ℕ) (past : List Step)
    → meant part old (config_at (place_of old lines draws) n past)
    ≡ (e, config_at (place_of new lines draws) n past))
    → Does h part old new seen seen given given (Some e)
gives-world h part e old new seen given alone spent idle left names room to_call is = record {
  stays = stays-still old new seen given names room to_call (omega (arith, left));
  alone = subst (WaitsAlone (Some e)) (sym idle) alone;
  few = omega (arith, ap length idle);
  calls = omega (arith, ap calls_open idle);
  fits = fits-idle h new idle;
  spent = spent;
  ends = λ lines known. record {
    used = 0;
    done = [];
    left = lines;
    steps = omega (arith, left);
    grew = sym (grown-nil seen.history);
    lines_left = known;
    leads = leads-nowhere (meant part old) (gives e) (place_of old lines given.left)
        (place_of new lines given.left) (λ n past any. is lines given.left n past);
  };
}

-- ---- a part that waits or is left, and the frame after it

-- what waits for a step still has none
pub still-left : (lack : Lack) (fs gs : List Frame) (more : ℕ) → MayBeLeft (Waits lack gs) more
    → MayBeLeft (Waits lack fs) more
still-left f.NeedsLine fs gs more h = tt
still-left f.NeedsDraw fs gs more h = tt
still-left f.Spent fs gs more h = h

pub bind-past : (m : Meaning) (k : Outcome → Meaning) (c : Config)
    → (bind m k c).1.past ≡ (k (m c).0 (m c).1).1.past
unfolding bind
bind-past m k c = refl

-- how a part was left, where the interpreter stopped for this
abbrev by : Exit → Stopped → Interpreter → Option Outcome
by (exits.Returns v) stopped i = Some (Returns v)
by exits.Breaks stopped i = Some f.Breaks
by exits.Continues stopped i = Some Continues
by exits.Stops stopped i = stop_in (waiting_in i) stopped

by-left : (exit : Exit) (i : Interpreter) (stopped : Stopped) → i.stopped ≡ stopped
    → by exit stopped i ≡ left_by i exit
by-left (exits.Returns v) i stopped is = refl
by-left exits.Breaks i stopped is = refl
by-left exits.Continues i stopped is = refl
by-left exits.Stops i stopped is = ap (stop_in (waiting_in i)) (sym is)

module _ (part : Part) (fr : Frame) (none : IsNoCall fr) (plain : calls_open (fr ∷ []) ≡ 0)
    (old mid new : Interpreter) (a b : ConsoleView) (x y : Supply)
    (world : new.world ≡ mid.world) (left : new.left ≡ mid.left) (room : new.room ≡ mid.room)
    (to_call : new.to_call ≡ mid.to_call) where
  stays-on : (r : Result (Unit {0}) (Unit {0})) → Stays old mid a b x y r → Stays old new a b x y r
  stays-on r h = record {
    names = ap (λ w. w.names) world ∙ h.names;
    room = room ∙ h.room;
    to_call = to_call ∙ h.to_call;
    left = omega (arith, h.left, left);
    supply = h.supply;
    bounded = h.bounded;
    cause = h.cause;
  }

  -- the frame passes an outcome on
  pub left-too : (n h : ℕ) (exit : Exit) (e : Outcome) → IsLeftBy fr exit → IsOf exit e
      → stack_of new.waiting ≡ stack_of mid.waiting → IsSettled e
      → Does n part old mid a b x y (Some e) → Does h (then_handed part fr) old new a b x y (Some e)
  left-too n h exit e too leaves same settled d =
      let idle : stack_of new.waiting ≡ [] = same ∙ settles part fr none old mid a b x y e settled d.alone in
      record {
        stays = stays-on (Ok tt) d.stays;
        alone = subst (WaitsAlone (Some e)) (sym same) d.alone;
        few = omega (arith, ap length idle);
        calls = omega (arith, ap calls_open idle);
        fits = fits-idle h new idle;
        spent = never exit e leaves;
        ends = λ lines known.
            let r = d.ends lines known in
            record {
              used = r.used;
              done = r.done;
              left = r.left;
              steps = omega (arith, r.steps, left);
              grew = r.grew;
              lines_left = r.lines_left;
              leads = subst (λ w. LeadsTo old.to_call (meant (then_handed part fr) old) e
                  (place_of old lines x.left) (record { world = world_of w; lines = r.left; draws = y.left }) r.used r.done) (sym world)
                  (leads-into (meant (then_handed part fr) old) (hand (program_of old) (calls_of old) fr e) (gives e)
                  (place_of old lines x.left) (place_of mid r.left y.left) r.used r.done
                  (leaves-by (program_of old) (calls_of old) fr exit too e leaves)
                  (leads-bind (meant part old) (hand (program_of old) (calls_of old) fr) e fr
                  (place_of old lines x.left) (place_of mid r.left y.left) r.used r.done (MayBeLeft e)
                  (λ more may. may) none (hand-holds (program_of old) (calls_of old) fr) r.leads));
            };
      } where
        never : (exit : Exit) (e : Outcome) → IsOf exit e → IsSpentRight (Some e) new
        never (exits.Returns v) (Returns w) h = tt
        never exits.Breaks f.Breaks h = tt
        never exits.Continues Continues h = tt
        never exits.Stops (Halts halt) h = tt
        never exit e h = absurd h

  -- the frame waits with what waits
  pub waits-too : (n h : ℕ) (lack : Lack) → IsDry fr → height fr ≤ h → n + 1 ≤ h
      → stack_of new.waiting ≡ fr ∷ stack_of mid.waiting
      → Does n part old mid a b x y (Some (Waits lack (waiting_in mid)))
      → Does h (then_handed part fr) old new a b x y (Some (Waits lack (waiting_in new)))
  waits-too n h lack dry high fits more d =
      let fs = waiting_in mid in
      let is : waiting_in new ≡ fs ++ fr ∷ [] = ap reverse more ∙ reverse-append (fr ∷ []) (stack_of mid.waiting) in
      record {
        stays = stays-on (Ok tt) d.stays;
        alone = tt;
        few = omega (arith, ap length more, d.few, fits);
        calls = omega (arith, ap calls_open more, first fr (stack_of mid.waiting), plain, d.calls);
        fits = fits-joined n h fr mid new world dry high fits is d.fits;
        spent = spent-too lack fs (waiting_in new) is d.spent;
        ends = λ lines known.
            let r = d.ends lines known in
            record {
              used = r.used;
              done = r.done;
              left = r.left;
              steps = omega (arith, r.steps, left);
              grew = r.grew;
              lines_left = r.lines_left;
              leads = subst (λ gs. LeadsTo old.to_call (meant (then_handed part fr) old) (Waits lack gs)
                  (place_of old lines x.left) (place_of new r.left y.left) r.used r.done) (sym is)
                  (subst (λ w. LeadsTo old.to_call (meant (then_handed part fr) old) (Waits lack (fs ++ fr ∷ []))
                  (place_of old lines x.left) (record { world = world_of w; lines = r.left; draws = y.left }) r.used r.done) (sym world)
                  (leads-into (meant (then_handed part fr) old) (hand (program_of old) (calls_of old) fr (Waits lack fs)) (gives (Waits lack (fs ++ fr ∷ [])))
                  (place_of old lines x.left) (place_of mid r.left y.left) r.used r.done
                  (hand-holds (program_of old) (calls_of old) fr lack fs)
                  (leads-bind (meant part old) (hand (program_of old) (calls_of old) fr) (Waits lack fs) fr
                  (place_of old lines x.left) (place_of mid r.left y.left) r.used r.done (MayBeLeft (Waits lack (fs ++ fr ∷ [])))
                  (still-left lack fs (fs ++ fr ∷ [])) none (hand-holds (program_of old) (calls_of old) fr) r.leads)));
            };
      } where
        first : (x : Frame) (xs : List Frame) → calls_open (x ∷ xs) ≡ calls_open (x ∷ []) + calls_open xs
        first (f.Calling scope) xs = omega arith
        first (Begins q) xs = omega arith
        first (Wants q) xs = omega arith
        first (Decides q) xs = omega arith
        first (f.Looping q) xs = omega arith
        first f.Main xs = omega arith
        first (f.Over q) xs = omega arith

        due-too : (fs : List Frame) → CallIsDue fs → CallIsDue (fs ++ fr ∷ [])
        due-too [] due = absurd due
        due-too (Begins (f.CallDue name values) ∷ fs) due = tt
        due-too (g ∷ fs) due = absurd due

        spent-too : (lack : Lack) (fs gs : List Frame) → gs ≡ fs ++ fr ∷ []
            → IsSpentRight (Some (Waits lack fs)) mid → IsSpentRight (Some (Waits lack gs)) new
        spent-too f.NeedsLine fs gs is h = tt
        spent-too f.NeedsDraw fs gs is h = tt
        spent-too f.Spent fs gs is h = λ some.
            let due = h (subst (λ n. 0 < n) left some) in
            (to_call ∙ due.0, subst CallIsDue (sym is) (due-too fs due.1))

  -- the console failed before the frame went on
  pub fails-too : (n h : ℕ) → stack_of new.waiting ≡ stack_of mid.waiting → n ≤ h
      → Does n part old mid a b x y None → Does h (then_handed part fr) old new a b x y None
  fails-too n h same fits d = record {
    stays = stays-on (Err tt) d.stays;
    alone = tt;
    few = omega (arith, ap length same, d.few, fits);
    calls = omega (arith, ap calls_open same, d.calls);
    fits = tt;
    spent = tt;
    ends = λ lines known past.
        let r = d.ends lines known past in
        let p = program_of old in
        let call = calls_of old in
        let c = config_at (place_of old lines x.left) old.left past in
        let g = hand-going p call (call_at-going p old.room) fr (meant part old c).0 (meant part old c).1 in
        record {
          events = r.events ++ g.events;
          same = bind-past (meant part old) (hand p call fr) c ∙ g.past ∙ ap (λ q. q ++ g.events) r.same
              ∙ append_assoc past r.events g.events;
          shows = subst (GrewByPrefix a.history b.history) (sym (shown_of-append r.events g.events))
              (part_of_more a.history b.history (shown_of r.events) (shown_of g.events) r.shows);
        };
  }

  -- however the part was left
  pub exits-too : (n h : ℕ) (exit : Exit) (stopped : Stopped) → mid.stopped ≡ stopped
      → new.stopped ≡ stopped → IsDry fr → height fr ≤ h → n + 1 ≤ h → IsLeftBy fr exit
      → stack_of new.waiting ≡ joined exit stopped fr (stack_of mid.waiting)
      → Does n part old mid a b x y (by exit stopped mid)
      → Does h (then_handed part fr) old new a b x y (by exit stopped new)
  exits-too n h (exits.Returns v) stopped m w dry high fits too same d = left-too n h (exits.Returns v) (Returns v) too tt same tt d
  exits-too n h exits.Breaks stopped m w dry high fits too same d = left-too n h exits.Breaks f.Breaks too tt same tt d
  exits-too n h exits.Continues stopped m w dry high fits too same d = left-too n h exits.Continues Continues too tt same tt d
  exits-too n h exits.Stops (s.Over halt) m w dry high fits too same d = left-too n h exits.Stops (Halts (halt_of halt)) too tt same tt d
  exits-too n h exits.Stops (s.Lacks lack) m w dry high fits too same d = waits-too n h (lack_of lack) dry high fits same d
  exits-too n h exits.Stops (s.Fails fault) m w dry high fits too same d = fails-too n h same (omega (arith, fits)) d

-- what joins a part that was left
pub passed : (part : Part) (fr : Frame) (old mid new : Interpreter) (a b : ConsoleView) (x y : Supply)
    (n h : ℕ) (exit : Exit) → IsNoCall fr → calls_open (fr ∷ []) ≡ 0 → IsLeftBy fr exit
    → IsDry fr → height fr ≤ h → n + 1 ≤ h
    → Does n part old mid a b x y (left_by mid exit) → Joins exit fr mid new
    → Does h (then_handed part fr) old new a b x y (left_by new exit)
passed part fr old mid new a b x y n h exit none plain too dry high fits d j =
    subst (Does h (then_handed part fr) old new a b x y) (by-left exit new mid.stopped j.stopped)
    (exits-too part fr none plain old mid new a b x y j.world j.left j.room j.to_call n h exit
    mid.stopped refl j.stopped dry high fits too j.waiting
    (subst (Does n part old mid a b x y) (sym (by-left exit mid mid.stopped refl)) d))

-- ---- a step

tick-some : (fr : Frame) (m : Meaning) (x : Place) (more : ℕ) (past : List Step)
    → tick fr m (config_at x (suc more) past) ≡ m (config_at x more past)
unfolding tick
tick-some fr m x more past = refl

pub tick-none : (fr : Frame) (m : Meaning) (x : Place) (past : List Step)
    → tick fr m (config_at x 0 past) ≡ (Waits f.Spent (fr ∷ []), config_at x 0 past)
unfolding tick
tick-none fr m x past = refl

none-below : (n : ℕ) → n < 1 → 0 ≡ n
none-below n few = omega (arith, few)

-- a step is taken, and what follows it is left
pub ticked : (fr : Frame) (part rest : Part) (old new : Interpreter) (seen : ConsoleView)
    (given : Supply) → ((k : Config) → meant part old k ≡ tick fr (meant rest old) k)
    → new ≡ record old { left = new.left } → new.left + 1 ≡ old.left
    → (old.to_call ≡ true → IsNoCall fr) → stack_of old.waiting ≡ []
    → Comes part rest old new seen seen given given
ticked fr part rest old new seen given is same one none idle = record {
  stays = stays-still old new seen given (ap (λ i. i.world.names) same) (ap (λ i. i.room) same)
      (ap (λ i. i.to_call) same) (omega (arith, one));
  idle = ap (λ i. stack_of i.waiting) same ∙ idle;
  reaches = λ lines known. record {
    used = 1;
    done = [];
    left = lines;
    steps = one;
    grew = sym (grown-nil seen.history);
    lines_left = known;
    leads = leads (place_of old lines given.left) (place_of new lines given.left)
        (ap (λ i. place_of i lines given.left) same);
  };
} where
  m : Meaning
  m = meant rest old

  leads : (x y : Place) → y ≡ x → Leads old.to_call Anything (meant part old) m x y 1 []
  leads x y at = record {
    same = λ more past any.
        let one : 1 + more ≡ suc more = omega arith in
        ap (λ k. meant part old (config_at x k past)) one
        ∙ is (config_at x (suc more) past)
        ∙ tick-some fr m x more past
        ∙ ap (λ q. m (config_at x more q)) (sym (append-nil past))
        ∙ ap (λ z. m (config_at z more (past ++ []))) (sym at);
    quiet = λ q n past few.
        subst (λ n. IsQuiet (meant part old (config_at x n past)).0) (none-below n few)
        (subst (λ r. IsQuiet r.0)
        (sym (is (config_at x 0 past) ∙ tick-none fr m x past))
        (none q));
  }

-- ---- a part that waits at once

-- it waits for what it lacks
pub waits-at : (h : ℕ) (part : Part) (lack : Lacks) (fr : Frame) (old new : Interpreter)
    (before after : ConsoleView) (given : Supply)
    → stack_of new.waiting ≡ fr ∷ [] → new.world ≡ old.world → new.left ≡ old.left
    → calls_open (fr ∷ []) ≡ 0 → 1 ≤ h → height fr ≤ h → HasRoom (world_of old.world) fr
    → Stays old new before after given given (Ok tt)
    → IsSpentRight (Some (Waits (lack_of lack) (fr ∷ []))) new
    → after.history ≡ before.history
    → ((lines : List (List ℕ)) → before.left ≡ Some lines → (after.left ≡ Some lines)
    × ((n : ℕ) (past : List Step) → MayBeLeft (Waits (lack_of lack) (fr ∷ [])) n
    → meant part old (config_at (place_of old lines given.left) n past)
    ≡ (Waits (lack_of lack) (fr ∷ []), config_at (place_of old lines given.left) n past)))
    → Does h part old new before after given given (Some (Waits (lack_of lack) (waiting_in new)))
waits-at h part lack fr old new before after given waiting world left plain some high ready stays spent history is =
    subst (λ fs. Does h part old new before after given given (Some (Waits (lack_of lack) fs)))
    (sym (ap reverse waiting))
    (record {
      stays = stays;
      alone = tt;
      few = omega (arith, ap length waiting, some);
      calls = omega (arith, ap calls_open waiting, plain);
      fits = fits-alone h fr new waiting high (subst (λ w. HasRoom (world_of w) fr) (sym world) ready);
      spent = spent;
      ends = λ lines known. record {
        used = 0;
        done = [];
        left = lines;
        steps = omega (arith, left);
        grew = history ∙ sym (grown-nil before.history);
        lines_left = (is lines known).0;
        leads = subst (λ w. LeadsTo old.to_call (meant part old) (Waits (lack_of lack) (fr ∷ []))
            (place_of old lines given.left)
            (record { world = world_of w; lines = lines; draws = given.left }) 0 []) (sym world)
            (leads-nowhere (meant part old) (gives (Waits (lack_of lack) (fr ∷ [])))
            (place_of old lines given.left) (place_of old lines given.left) (is lines known).1);
      };
    })

-- ---- what is said

abbrev pub saying_part : List ℕ → Part → Part
saying_part bytes rest p call = saying bytes (rest p call)

saying-is : (bytes : List ℕ) (m : Meaning) (c : Config) → saying bytes m c ≡ m (with_said bytes c)
unfolding saying
saying-is bytes m c = refl

-- it was said, and what follows is left
pub said-comes : {T : Type 0} (y : T) (bytes : List ℕ) (rest : Part) (old new : Interpreter)
    (a b : ConsoleView) (given : Supply) → stack_of old.waiting ≡ []
    → Says bytes old new a b (Ok y) → Comes (saying_part bytes rest) rest old new a b given given
said-comes y bytes rest old new a b given idle h = record {
  stays = record {
    names = ap (λ i. i.world.names) h.same;
    room = ap (λ i. i.room) h.same;
    to_call = ap (λ i. i.to_call) h.same;
    left = omega (arith, ap (λ i. i.left) h.same);
    supply = refl;
    bounded = h.speaks.bounded;
    cause = cause_again tt h.speaks.cause;
  };
  idle = ap (λ i. stack_of i.waiting) h.same ∙ idle;
  reaches = λ lines known. record {
    used = 0;
    done = said_steps bytes;
    left = lines;
    steps = omega (arith, ap (λ i. i.left) h.same);
    grew = h.speaks.said ∙ ap (grown a.history) (sym (shown_of-said bytes));
    lines_left = h.speaks.lines_stay ∙ known;
    leads = subst (λ i. Leads old.to_call Anything (meant (saying_part bytes rest) old) (meant rest old)
        (place_of old lines given.left) (place_of i lines given.left) 0 (said_steps bytes)) (sym h.same)
        (says (place_of old lines given.left));
  };
} where
  says : (x : Place) → Leads old.to_call Anything (meant (saying_part bytes rest) old) (meant rest old)
      x x 0 (said_steps bytes)
  says x = record {
    same = λ more past any.
        let none : 0 + more ≡ more = omega arith in
        ap (λ k. meant (saying_part bytes rest) old (config_at x k past)) none
        ∙ saying-is bytes (meant rest old) (config_at x more past);
    quiet = λ q n past few. absurd (omega (arith, few));
  }

-- the console failed
pub said-breaks : {T : Type 0} (exit : Exit) (h : ℕ) (bytes : List ℕ) (rest : Part)
    (old new : Interpreter) (a b : ConsoleView) (given : Supply) → stack_of old.waiting ≡ []
    → ((c : Config) → Goes c (meant rest old c).1)
    → Says {T = T} bytes old new a b (Err exit)
    → Does h (saying_part bytes rest) old new a b given given (left_by new exit)
said-breaks exit h bytes rest old new a b given idle goes s =
    let same = s.fails.1 in
    subst (Does h (saying_part bytes rest) old new a b given given)
    (sym (ap (left_by new) s.exit ∙ ap (λ i. stop_in (waiting_in new) i.stopped) same))
    (record {
      stays = record {
        names = ap (λ i. i.world.names) same;
        room = ap (λ i. i.room) same;
        to_call = ap (λ i. i.to_call) same;
        left = omega (arith, ap (λ i. i.left) same);
        supply = refl;
        bounded = s.speaks.bounded;
        cause = cause_fails tt s.speaks.cause;
      };
      alone = tt;
      few = omega (arith, ap (λ i. length (stack_of i.waiting)) same, ap length idle);
      calls = omega (arith, ap (λ i. calls_open (stack_of i.waiting)) same, ap calls_open idle);
      fits = tt;
      spent = tt;
      ends = λ lines known past.
          let g = goes (with_said bytes (config_at (place_of old lines given.left) old.left past)) in
          record {
            events = said_steps bytes ++ g.events;
            same = ap (λ r. r.1.past) (saying-is bytes (meant rest old) (config_at (place_of old lines given.left) old.left past))
                ∙ g.past ∙ append_assoc past (said_steps bytes) g.events;
            shows = subst (GrewByPrefix a.history b.history)
                (sym (shown_of-append (said_steps bytes) g.events))
                (part_of_more a.history b.history (shown_of (said_steps bytes)) (shown_of g.events)
                (subst (GrewByPrefix a.history b.history) (sym (shown_of-said bytes)) s.speaks.part));
          };
    })

-- ---- traps

-- a part that traps at once
pub traps : (h : ℕ) (part : Part) (kind : Trap) (exit : Exit) (old new : Interpreter)
    → exit ≡ exits.Stops
    → new ≡ record old { stopped = s.Over (g.Trapped kind (world_of old.world).scope.directive) }
    → stack_of old.waiting ≡ []
    → ((lines : List (List ℕ)) (draws : List ℕ) (n : ℕ) (past : List Step)
    → meant part old (config_at (place_of old lines draws) n past)
    ≡ trap kind (config_at (place_of old lines draws) n past))
    → (seen : ConsoleView) (given : Supply)
    → Does h part old new seen seen given given (left_by new exit)
traps h part kind exit old new stops same idle is seen given =
    subst (Does h part old new seen seen given given)
    (sym (ap (left_by new) stops ∙ ap (λ i. stop_in (waiting_in new) i.stopped) same))
    (gives-world h part (Halts (f.Trapped kind (world_of old.world).scope.directive)) old new seen
    given refl tt (ap (λ i. stack_of i.waiting) same ∙ idle) (ap (λ i. i.left) same)
    (ap (λ i. i.world.names) same) (ap (λ i. i.room) same) (ap (λ i. i.to_call) same)
    (λ lines draws n past. is lines draws n past
    ∙ ap (λ i. (
      Halts (f.Trapped kind (world_of old.world).scope.directive),
      config_at (place_of i lines draws) n past,
    )) (sym same)))

-- what is there at once, and changes nothing
pub gives-here : (h : ℕ) (part : Part) (e : Outcome) (i : Interpreter) → WaitsAlone (Some e) []
    → IsSpentRight (Some e) i → stack_of i.waiting ≡ []
    → ((lines : List (List ℕ)) (draws : List ℕ) (n : ℕ) (past : List Step)
    → meant part i (config_at (place_of i lines draws) n past)
    ≡ (e, config_at (place_of i lines draws) n past))
    → (seen : ConsoleView) (given : Supply) → Does h part i i seen seen given given (Some e)
gives-here h part e i alone spent idle is seen given =
    gives-world h part e i i seen given alone spent idle refl refl refl refl is

-- ---- what is used at once

module _ (part : Part) (old mid : Interpreter) (a b : ConsoleView) (x y : Supply) where
  pub comes-value : (n : ℕ) (w : Want) (v : ℤ)
      → Does n part old mid a b x y (Some (Value v))
      → Comes (then_handed part (Wants w)) (wanted w v) old mid a b x y
  comes-value n w v d = subst (λ rest. Comes (then_handed part (Wants w)) rest old mid a b x y)
      (value-part w v) (bound part (Wants w) tt old mid a b x y n (Value v) tt d)

  pub comes-truth : (n : ℕ) (q : Decide) (v : Bool)
      → Does n part old mid a b x y (Some (Truth v))
      → Comes (then_handed part (Decides q)) (decided q v) old mid a b x y
  comes-truth n q v d = subst (λ rest. Comes (then_handed part (Decides q)) rest old mid a b x y)
      (truth-part q v) (bound part (Decides q) tt old mid a b x y n (Truth v) tt d)

  pub comes-normal : (n : ℕ) (q : Begin) → IsNoCall (Begins q)
      → Does n part old mid a b x y (Some Normal)
      → Comes (then_handed part (Begins q)) (begun q) old mid a b x y
  comes-normal n q none d = subst (λ rest. Comes (then_handed part (Begins q)) rest old mid a b x y)
      (normal-part q) (bound part (Begins q) none old mid a b x y n Normal tt d)

  -- a value, and what it is used for at once
  pub value-gives : (n h : ℕ) (w : Want) (v : ℤ) (e : Outcome) → WaitsAlone (Some e) []
      → IsSpentRight (Some e) mid → Does n part old mid a b x y (Some (Value v))
      → ((c : Config) → meant (wanted w v) mid c ≡ (e, c))
      → Does h (then_handed part (Wants w)) old mid a b x y (Some e)
  value-gives n h w v e alone spent d is =
      let c = comes-value n w v d in
      comes-does 0 h (then_handed part (Wants w)) (wanted w v) old mid mid a b b x y y (Some e)
      (omega arith) c
      (gives-here 0 (wanted w v) e mid alone spent c.idle (λ lines draws n past. is _) b y)

  pub truth-gives : (n h : ℕ) (q : Decide) (v : Bool) (e : Outcome) → WaitsAlone (Some e) []
      → IsSpentRight (Some e) mid → Does n part old mid a b x y (Some (Truth v))
      → ((c : Config) → meant (decided q v) mid c ≡ (e, c))
      → Does h (then_handed part (Decides q)) old mid a b x y (Some e)
  truth-gives n h q v e alone spent d is =
      let c = comes-truth n q v d in
      comes-does 0 h (then_handed part (Decides q)) (decided q v) old mid mid a b b x y y (Some e)
      (omega arith) c
      (gives-here 0 (decided q v) e mid alone spent c.idle (λ lines draws n past. is _) b y)
