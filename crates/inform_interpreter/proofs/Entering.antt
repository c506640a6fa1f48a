-- A routine that is called: from the call to its body, and from the end of that back to the caller.
use Rattle.std.proofs.Common.{◌≡◌, ◌∙◌, ℕ, suc, ◌+◌, ◌≤◌, ℤ, List, [], ◌∷◌, ◌++◌, length, reverse, Option, Some, None, Result, Ok, Err, refl, sym, ap, subst, arith, append_assoc}
use Rattle.std.proofs.lemmas.List.{reverse-append}
use Rattle.adv_draws.specs.Supply.{Supply}
use Rattle.adv_io.specs.Steps.{Step, shown_of}
use Rattle.adv_io.specs.Console.{ConsoleView}
use Rattle.adv_io.specs.History.{GrewByPrefix}
use Rattle.adv_io.proofs.Sayings.{part_of_more}
use Rattle.adv_io.proofs.Showing.{shown_of-append}
use Rattle.inform_meaning.specs.Worlds.{Routine, Program, Scope, Config, scope_of}
use Rattle.inform_meaning.specs.Frames as f
use Rattle.inform_meaning.specs.Frames.{Frame, Begins, Calling, Lack, Outcome, Value, Truth, Normal, Returns, Breaks, Continues, Halts, Waits, Meaning, gives, bind, returned, within_scope, on_return}
use Rattle.inform_meaning.specs.Statements.{exec_all}
use Rattle.inform_meaning.specs.Worlds.{with_note}
use Rattle.inform_meaning.specs.Runs.{call_at, hand, enter, noted_body}
use Rattle.inform_meaning.proofs.GoingRuns.{call_at-going, hand-going}
use Rattle.inform_moves.specs.Heights.{ROUTINE_FRAMES, Fits, calls_open}
use Rattle.inform_moves.specs.Readiness.{IsReady as IsReadyFor}
use Rattle.inform_moves.specs.Laws.{IsSettled}
use Rattle.inform_steps.specs.Standing.{CallIsDue}
use Rattle.inform_worlds.specs.Worlds.{program_of as program_of_names}
use Rattle.inform_worlds.specs.Views.{world_of}
use Rattle.inform_frames.specs.Frames.{halt_of}
use Rattle.inform_frames.specs.Stacks.{stack_of}
use Rattle.inform_interpreter.specs.declared.exits.Exit.{Exit}
use Rattle.inform_interpreter.specs.declared.exits.Exit.TheVariants as exits
use Rattle.inform_interpreter.specs.declared.exits.Stopped.{Stopped}
use Rattle.inform_interpreter.specs.declared.exits.Stopped.TheVariants as s
use Rattle.inform_interpreter.specs.declared.interpreters.Interpreter.{Interpreter}
use Rattle.inform_interpreter.specs.Leading.{config_at, MayBeLeft, Leads, LeadsTo}
use Rattle.inform_interpreter.specs.Interpreters.{program_of, waiting_in, place_of, lack_of, stop_in, ended, normal}
use Rattle.inform_interpreter.specs.Doing.{begun, meant, WaitsAlone, IsSpentRight, Stays, Does, returned_by, WorldBack, ComesBack}
use Rattle.inform_interpreter.specs.Parts.{called}
use Rattle.inform_interpreter.proofs.Leading.{settled-left, leads-bind, leads-from, leads-to}
use Rattle.inform_interpreter.proofs.Frames.{hand-holds}
use Rattle.inform_interpreter.proofs.Fitting.{fits-idle, ready-append}
use Rattle.inform_interpreter.proofs.Doing.{settles, still-left, bind-past}

-- the caller's scope comes back
returns : (p : Program) (call : _) (s : Scope) (e : Outcome) → IsSettled e → (c : Config)
    → hand p call (Calling s) e c ≡ (returned e, within_scope s c)
unfolding on_return
returns p call s (Value v) h c = refl
returns p call s (Truth v) h c = refl
returns p call s Normal h c = refl
returns p call s (Returns v) h c = refl
returns p call s f.Breaks h c = refl
returns p call s Continues h c = refl
returns p call s (Halts halt) h c = refl
returns p call s (Waits lack fs) h c = absurd h

-- a call where one more may be open enters its routine
enters : (p : Program) (n k : ℕ) (name : List ℕ) (values : List ℤ) (r : Routine) (c : Config)
    → n ≡ suc k → p.routines name ≡ Some r → ((d : ℕ) → p.notes name d ≡ None)
    → call_at p n name values c
    ≡ bind (exec_all p (call_at p k) r.body) (hand p (call_at p k) (Calling c.world.scope))
    (record c { world = record c.world { scope = scope_of r values } })
unfolding call_at
enters p n k name values r c one is quiet =
    ap (λ n. call_at p n name values c) one
    ∙ ap (λ o. enter p (call_at p k) name o values c) is
    ∙ ap (λ past. bind (exec_all p (call_at p k) r.body) (on_return c.world.scope)
    (record c { past = past; world = record c.world { scope = scope_of r values } })) none
  where
    none : with_note (noted_body (p.notes name r.directive) r.body) c.past ≡ c.past
    none = ap (λ o. with_note (noted_body o r.body) c.past) (quiet r.directive)

-- ---- outcomes of a body

over-alone : (e : Outcome) → IsSettled e → (fs : List Frame) → fs ≡ [] → WaitsAlone (Some (returned e)) fs
over-alone (Value v) h fs is = is
over-alone (Truth v) h fs is = is
over-alone Normal h fs is = is
over-alone (Returns v) h fs is = is
over-alone f.Breaks h fs is = is
over-alone Continues h fs is = is
over-alone (Halts halt) h fs is = is
over-alone (Waits lack gs) h fs is = absurd h

over-spent : (e : Outcome) → IsSettled e → (i : Interpreter) → IsSpentRight (Some (returned e)) i
over-spent (Value v) h i = tt
over-spent (Truth v) h i = tt
over-spent Normal h i = tt
over-spent (Returns v) h i = tt
over-spent f.Breaks h i = tt
over-spent Continues h i = tt
over-spent (Halts halt) h i = tt
over-spent (Waits lack gs) h i = absurd h

-- the world and what waits, where the body is over
came : (caller : Scope) (e : Outcome) (old new : Interpreter) → IsSettled e
    → WorldBack caller (Some e) old new → (stack_of new.waiting ≡ stack_of old.waiting)
    × (world_of new.world ≡ record (world_of old.world) { scope = caller })
came caller (Value v) old new h b = b
came caller (Truth v) old new h b = b
came caller Normal old new h b = b
came caller (Returns v) old new h b = b
came caller f.Breaks old new h b = b
came caller Continues old new h b = b
came caller (Halts halt) old new h b = b
came caller (Waits lack fs) old new h b = absurd h

module _ (name : List ℕ) (values : List ℤ) (r : Routine) (h : ℕ) (old i mid new : Interpreter)
    (a b : ConsoleView) (x y : Supply) (found : (program_of old).routines name ≡ Some r)
    (quiet : (d : ℕ) → (program_of old).notes name d ≡ None)
    (world : world_of i.world ≡ record (world_of old.world) { scope = scope_of r values })
    (names : i.world.names ≡ old.world.names) (left : i.left ≡ old.left)
    (to_call : i.to_call ≡ old.to_call) (room : old.room ≡ suc i.room)
    (fits : h + 1 ≤ ROUTINE_FRAMES) where
  abbrev p : Program
  p = program_of old

  abbrev k : ℕ
  k = i.room

  abbrev caller : Scope
  caller = (world_of old.world).scope

  abbrev body : Meaning
  body = meant (begun (f.Blocks r.body)) i

  abbrev after : Outcome → Meaning
  after = hand p (call_at p k) (Calling caller)

  body-is : exec_all p (call_at p k) r.body ≡ body
  body-is = ap (λ n. exec_all (program_of_names n.accepted.now) (call_at (program_of_names n.accepted.now) k) r.body) (sym names)

  -- the call is its body, and then what the caller does
  entering : (lines : List (List ℕ)) (draws : List ℕ) (n : ℕ) (past : List Step)
      → meant (called name values) old (config_at (place_of old lines draws) n past)
      ≡ bind body after (config_at (place_of i lines draws) n past)
  entering lines draws n past =
      enters p old.room k name values r (config_at (place_of old lines draws) n past) room found quiet
      ∙ ap (λ m. bind m after (config_at (record { world = record (world_of old.world) { scope = scope_of r values }; lines = lines; draws = draws }) n past)) body-is
      ∙ ap (λ w. bind body after (config_at (record { world = w; lines = lines; draws = draws }) n past)) (sym world)

  module _ (n : ℕ) (one : n ≡ mid.room + 1) where
    abbrev ended_body : Interpreter
    ended_body = record mid { room = n }

    stays-back : (e : Option Outcome) (q : Result (Unit {0}) (Unit {0})) → Stays i mid a b x y q
        → ComesBack caller e ended_body new → Stays old new a b x y q
    stays-back e q s back = record {
      names = back.names ∙ s.names ∙ names;
      room = omega (arith, back.room, one, s.room, room);
      to_call = back.to_call ∙ s.to_call ∙ to_call;
      left = omega (arith, back.left, s.left, left);
      supply = s.supply;
      bounded = s.bounded;
      cause = s.cause;
    }

    -- the body is over
    over-back : (e : Outcome) → IsSettled e → Does h (begun (f.Blocks r.body)) i mid a b x y (Some e)
        → ComesBack caller (Some e) ended_body new
        → Does 1 (called name values) old new a b x y (Some (returned e))
    over-back e settled d back =
        let w = came caller e ended_body new settled back.back in
        let idle : stack_of new.waiting ≡ [] = w.0 ∙ settles (begun (f.Blocks r.body)) (Calling caller) tt i mid a b x y e settled d.alone in
        record {
          stays = stays-back (Some e) (Ok tt) d.stays back;
          alone = over-alone e settled (stack_of new.waiting) idle;
          few = omega (arith, ap length idle);
          calls = omega (arith, ap calls_open idle);
          fits = fits-idle 1 new idle;
          spent = over-spent e settled new;
          ends = λ lines known.
              let q = d.ends lines known in
              record {
                used = q.used;
                done = q.done;
                left = q.left;
                steps = omega (arith, q.steps, back.left, left);
                grew = q.grew;
                lines_left = q.lines_left;
                leads = leads-from (bind body after) (meant (called name values) old) (gives (returned e))
                    (place_of i lines x.left) (place_of old lines x.left) (place_of new q.left y.left) q.used q.done
                    (entering lines x.left)
                    (leads-to (bind body after) (after e) (gives (returned e))
                    (place_of i lines x.left) (place_of mid q.left y.left) (place_of new q.left y.left) q.used q.done
                    (λ k past. returns p (call_at p i.room) caller e settled (config_at (place_of mid q.left y.left) k past)
                    ∙ ap (λ w. (returned e, config_at (record { world = w; lines = q.left; draws = y.left }) k past)) (sym w.1))
                    (leads-bind body after e (Calling caller)
                    (place_of i lines x.left) (place_of mid q.left y.left) q.used q.done (MayBeLeft (returned e))
                    (λ more may. settled-left e more settled) tt (hand-holds p (call_at p i.room) (Calling caller))
                    (subst (λ q'. Leads q' (MayBeLeft e) body (gives e) (place_of i lines x.left) (place_of mid q.left y.left) q.used q.done) to_call q.leads)));
              };
        }

    -- the body waits, and the caller waits for its end
    waits-back : (lack : Lack) → Does h (begun (f.Blocks r.body)) i mid a b x y (Some (Waits lack (waiting_in mid)))
        → ComesBack caller (Some (Waits lack (waiting_in mid))) ended_body new
        → Does 1 (called name values) old new a b x y (Some (Waits lack (waiting_in new)))
    waits-back lack d back =
        let fs = waiting_in mid in
        let more = back.back.0 in
        let same = back.back.1 in
        let is : waiting_in new ≡ fs ++ Calling caller ∷ [] = ap reverse more ∙ reverse-append (Calling caller ∷ []) (stack_of mid.waiting) in
        record {
          stays = stays-back (Some (Waits lack fs)) (Ok tt) d.stays back;
          alone = tt;
          few = omega (arith, ap length more, d.few, fits, room);
          calls = omega (arith, ap calls_open more, d.calls, room);
          fits = record {
            within = λ rest fit few.
                subst Fits (sym (ap (λ gs. gs ++ rest) is ∙ append_assoc fs (Calling caller ∷ []) rest))
                (d.fits.within (Calling caller ∷ rest) (omega (arith, few), fit) (omega (arith, fits)));
            ready = subst (IsReadyFor (world_of new.world)) (sym is)
                (subst (λ w. IsReadyFor (world_of w) (fs ++ Calling caller ∷ [])) (sym same)
                (ready-append (world_of mid.world) fs (Calling caller ∷ []) d.fits.ready (tt, tt)));
          };
          spent = spent-too lack fs (waiting_in new) is d.stays back d.spent;
          ends = λ lines known.
              let q = d.ends lines known in
              record {
                used = q.used;
                done = q.done;
                left = q.left;
                steps = omega (arith, q.steps, back.left, left);
                grew = q.grew;
                lines_left = q.lines_left;
                leads = subst (λ gs. LeadsTo old.to_call (meant (called name values) old) (Waits lack gs)
                    (place_of old lines x.left) (place_of new q.left y.left) q.used q.done) (sym is)
                    (leads-from (bind body after) (meant (called name values) old) (gives (Waits lack (fs ++ Calling caller ∷ [])))
                    (place_of i lines x.left) (place_of old lines x.left) (place_of new q.left y.left) q.used q.done
                    (entering lines x.left)
                    (leads-to (bind body after) (after (Waits lack fs)) (gives (Waits lack (fs ++ Calling caller ∷ [])))
                    (place_of i lines x.left) (place_of mid q.left y.left) (place_of new q.left y.left) q.used q.done
                    (λ k past. hand-holds p (call_at p i.room) (Calling caller) lack fs (config_at (place_of mid q.left y.left) k past)
                    ∙ ap (λ w. (Waits lack (fs ++ Calling caller ∷ []), config_at (record { world = world_of w; lines = q.left; draws = y.left }) k past)) (sym same))
                    (leads-bind body after (Waits lack fs) (Calling caller)
                    (place_of i lines x.left) (place_of mid q.left y.left) q.used q.done (MayBeLeft (Waits lack (fs ++ Calling caller ∷ [])))
                    (still-left lack fs (fs ++ Calling caller ∷ [])) tt (hand-holds p (call_at p i.room) (Calling caller))
                    (subst (λ q'. Leads q' (MayBeLeft (Waits lack fs)) body (gives (Waits lack fs)) (place_of i lines x.left) (place_of mid q.left y.left) q.used q.done) to_call q.leads))));
              };
        } where
          due-too : (fs : List Frame) → CallIsDue fs → CallIsDue (fs ++ Calling caller ∷ [])
          due-too [] due = absurd due
          due-too (Begins (f.CallDue name values) ∷ fs) due = tt
          due-too (g ∷ fs) due = absurd due

          spent-too : (lack : Lack) (fs gs : List Frame) → gs ≡ fs ++ Calling caller ∷ []
              → Stays i mid a b x y (Ok tt) → ComesBack caller (Some (Waits lack (waiting_in mid))) ended_body new
              → IsSpentRight (Some (Waits lack fs)) mid → IsSpentRight (Some (Waits lack gs)) new
          spent-too f.NeedsLine fs gs is s back h = tt
          spent-too f.NeedsDraw fs gs is s back h = tt
          spent-too f.Spent fs gs is s back h = λ some.
              let due = h (omega (arith, some, back.left)) in
              (back.to_call ∙ due.0, subst CallIsDue (sym is) (due-too fs due.1))

    -- the console failed in the body
    fails-back : Does h (begun (f.Blocks r.body)) i mid a b x y None
        → ComesBack caller None ended_body new → Does 1 (called name values) old new a b x y None
    fails-back d back =
        let same = back.back in
        record {
          stays = stays-back None (Err tt) d.stays back;
          alone = tt;
          few = omega (arith, ap (λ i. length (stack_of i.waiting)) same, d.few, fits, room);
          calls = omega (arith, ap (λ i. calls_open (stack_of i.waiting)) same, d.calls, room);
          fits = tt;
          spent = tt;
          ends = λ lines known past.
              let q = d.ends lines known past in
              let k = config_at (place_of i lines x.left) i.left past in
              let g = hand-going p (call_at p i.room) (call_at-going p i.room) (Calling caller) (body k).0 (body k).1 in
              record {
                events = q.events ++ g.events;
                same = ap (λ n. (meant (called name values) old (config_at (place_of old lines x.left) n past)).1.past) (sym left)
                    ∙ ap (λ r. r.1.past) (entering lines x.left i.left past)
                    ∙ bind-past body after k ∙ g.past ∙ ap (λ q. q ++ g.events) q.same
                    ∙ append_assoc past q.events g.events;
                shows = subst (GrewByPrefix a.history b.history) (sym (shown_of-append q.events g.events))
                    (part_of_more a.history b.history (shown_of q.events) (shown_of g.events) q.shows);
              };
        }

    stopped-does : (stopped : Stopped)
        → Does h (begun (f.Blocks r.body)) i mid a b x y (stop_in (waiting_in mid) stopped)
        → ComesBack caller (stop_in (waiting_in mid) stopped) ended_body new
        → Does 1 (called name values) old new a b x y (stop_in (waiting_in new) stopped)
    stopped-does (s.Over halt) d back = over-back (Halts (halt_of halt)) tt d back
    stopped-does (s.Lacks lack) d back = waits-back (lack_of lack) d back
    stopped-does (s.Fails fault) d back = fails-back d back

    -- however the body was left
    pub called-does : {T : Type 0} (ran : Result T Exit)
        → Does h (begun (f.Blocks r.body)) i mid a b x y (ended (normal {T = T}) mid ran)
        → ComesBack caller (ended (normal {T = T}) ended_body ran) ended_body new
        → Does 1 (called name values) old new a b x y (ended Value new (returned_by ran))
    called-does (Ok q) d back = over-back Normal tt d back
    called-does (Err (exits.Returns v)) d back = over-back (Returns v) tt d back
    called-does (Err exits.Breaks) d back = over-back f.Breaks tt d back
    called-does (Err exits.Continues) d back = over-back Continues tt d back
    called-does (Err exits.Stops) d back =
        subst (λ q. Does 1 (called name values) old new a b x y (stop_in (waiting_in new) q))
        (sym back.stopped) (stopped-does mid.stopped d back)
