-- A run: the innermost frame does what it does with an outcome, then the next one, and so on.
use Rattle.std.proofs.Common.{◌≡◌, ◌∙◌, ℕ, ◌-◌, ◌<◌, ◌≤◌, true, List, [], ◌∷◌, ◌++◌, length, reverse, Option, Some, None, refl, sym, ap, subst, arith, append-nil, append_assoc}
use Rattle.std.proofs.lemmas.List.{reverse-append}
use Rattle.adv_draws.specs.Supply.{Supply}
use Rattle.adv_io.specs.Steps.{shown_of}
use Rattle.adv_io.specs.Console.{ConsoleView}
use Rattle.adv_io.specs.History.{GrewByPrefix}
use Rattle.adv_io.proofs.Sayings.{grown-nil, part_of_more}
use Rattle.adv_io.proofs.Showing.{shown_of-append}
use Rattle.inform_meaning.specs.Worlds.{Program, World, Config}
use Rattle.inform_meaning.specs.Frames as f
use Rattle.inform_meaning.specs.Frames.{Frame, Begins, Lack, Outcome, Value, Truth, Normal, Returns, Breaks, Continues, Halts, Waits, Meaning, gives, bind}
use Rattle.inform_meaning.specs.Runs.{CALL_LIMIT, call_at, room_in, hand, resume_at, Halted, Lacking, stop_of, begun_of}
use Rattle.inform_meaning.specs.Laws.{Goes}
use Rattle.inform_moves.specs.Heights.{calls_open}
use Rattle.inform_moves.specs.Readiness.{IsReady}
use Rattle.inform_moves.specs.Laws.{IsSettled, RunsAdd, RoomIsLeft}
use Rattle.inform_steps.specs.Standing.{CallIsDue}
use Rattle.inform_worlds.specs.Views.{world_of}
use Rattle.inform_frames.specs.declared.stacks.Stack.{Stack}
use Rattle.inform_frames.specs.declared.signals.Signal.{Signal}
use Rattle.inform_frames.specs.declared.signals.Signal.TheVariants as g
use Rattle.inform_frames.specs.Frames.{signal_of}
use Rattle.inform_frames.proofs.Innermost.{calls-append}
use Rattle.inform_interpreter.specs.declared.exits.Stopped.{Stopped}
use Rattle.inform_interpreter.specs.declared.interpreters.Interpreter.{Interpreter}
use Rattle.inform_interpreter.specs.Leading.{config_at, MayBeLeft, Anything}
use Rattle.inform_interpreter.specs.Interpreters.{program_of, waiting_in, place_of, stop_in}
use Rattle.inform_interpreter.specs.Doing.{Part, handed, meant, Ends, IsSpentRight, Does, Comes}
use Rattle.inform_run.specs.Machines.{with_room, resumed}
use Rattle.inform_interpreter.proofs.Leading.{Keeps, settled-left, leads-nowhere, leads-through, leads-from, leads-into}
use Rattle.inform_interpreter.proofs.Frames.{hand-holds}
use Rattle.inform_interpreter.proofs.Fitting.{dry-ready}
use Rattle.inform_interpreter.proofs.Doing.{settles, still-left, bind-past, ends-then, meant-same}

-- ---- signals

pub signal-settled : (x : Signal) → IsSettled (signal_of x)
signal-settled (g.Value a) = tt
signal-settled (g.Truth b) = tt
signal-settled g.Normal = tt
signal-settled (g.Returns a) = tt
signal-settled g.Breaks = tt
signal-settled g.Continues = tt
signal-settled (g.Halts halt) = tt

-- how a run is over that ends like this
pub over-begun : (e : Outcome) → IsSettled e → begun_of e ≡ f.Over (f.halt_of e) ∷ []
over-begun (Value a) h = refl
over-begun (Truth b) h = refl
over-begun Normal h = refl
over-begun (Returns a) h = refl
over-begun f.Breaks h = refl
over-begun Continues h = refl
over-begun (Halts halt) h = refl
over-begun (Waits lack fs) h = absurd h

-- ---- what is ready without its innermost frame

pub rest-ready : (w w' : World) (x : Frame) (rest : List Frame) → IsReady w (x ∷ rest) → IsReady w' rest
rest-ready w w' x rest h = dry-ready w' rest h.1

-- ---- frames that go on

-- what waits, waits with all frames
pub resume-keeps : (p : Program) (n : ℕ) (rest : List Frame) → Keeps rest (resume_at p n rest)
unfolding resume_at bind
resume-keeps p n [] lack fs c = ap (λ gs. (Waits lack gs, c)) (sym (append-nil fs))
resume-keeps p n (x ∷ rest) lack fs c =
    ap (λ r. resume_at p n rest r.0 r.1) (hand-holds p (call_at p (room_in n rest)) x lack fs c)
    ∙ resume-keeps p n rest lack (fs ++ x ∷ []) c
    ∙ ap (λ gs. (Waits lack gs, c)) (append_assoc fs (x ∷ []) rest)

-- the innermost frame, and then the others
resume-once : (p : Program) (n m : ℕ) (x : Frame) (rest : List Frame) (e : Outcome) (c : Config)
    → m ≡ room_in n rest
    → resume_at p n (x ∷ rest) e c ≡ bind (hand p (call_at p m) x e) (resume_at p n rest) c
unfolding resume_at
resume-once p n m x rest e c is =
    ap (λ m. bind (hand p (call_at p m) x e) (resume_at p n rest) c) (sym is)

module _ (adds : RunsAdd) (room : RoomIsLeft) (x : Frame) (rest : List Frame) (e : Outcome)
    (h : ℕ) (i new : Interpreter) (b c : ConsoleView) (v w : Supply) where
  abbrev within : Interpreter
  within = with_room (CALL_LIMIT - calls_open rest) i

  abbrev p : Program
  p = program_of i

  abbrev part : Meaning
  part = meant (handed x e) within

  abbrev others : Outcome → Meaning
  others = resume_at p CALL_LIMIT rest

  whole-is : (c : Config) → meant (resumed (x ∷ rest) e) i c ≡ bind part others c
  whole-is c = resume-once (program_of i) CALL_LIMIT (CALL_LIMIT - calls_open rest) x rest e c (sym (room CALL_LIMIT rest))

  -- it handed an outcome on: the others go on with that
  pub hands-on : (e' : Outcome) → IsSettled e'
      → Does h (handed x e) within new b c v w (Some e')
      → Comes (resumed (x ∷ rest) e) (resumed rest e') i (with_room i.room new) b c v w
  hands-on e' settled d = record {
    stays = record {
      names = d.stays.names;
      room = refl;
      to_call = d.stays.to_call;
      left = d.stays.left;
      supply = d.stays.supply;
      bounded = d.stays.bounded;
      cause = d.stays.cause;
    };
    idle = settles (handed x e) f.Main tt within new b c v w e' settled d.alone;
    reaches = λ lines known.
        let r = d.ends lines known in
        record {
          used = r.used;
          done = r.done;
          left = r.left;
          steps = r.steps;
          grew = r.grew;
          lines_left = r.lines_left;
          leads = leads-from (bind part others) (meant (resumed (x ∷ rest) e) i) (others e')
              (place_of i lines v.left) (place_of i lines v.left) (place_of new r.left w.left) r.used r.done
              (λ k past. whole-is (config_at (place_of i lines v.left) k past))
              (leads-through part others e' rest (place_of i lines v.left) (place_of new r.left w.left) r.used r.done
              Anything (λ more any. settled-left e' more settled) (resume-keeps p CALL_LIMIT rest) r.leads);
        };
  }

  -- it waits, and so do the others
  pub waits-on : (lack : Lack) (fs : List Frame) (lines : List (List ℕ))
      → Ends (Some (Waits lack fs)) part within new b c v.left w.left lines
      → Ends (Some (Waits lack (fs ++ rest))) (meant (resumed (x ∷ rest) e) i) i new b c v.left w.left lines
  waits-on lack fs lines r = record {
    used = r.used;
    done = r.done;
    left = r.left;
    steps = r.steps;
    grew = r.grew;
    lines_left = r.lines_left;
    leads = leads-from (bind part others) (meant (resumed (x ∷ rest) e) i) (gives (Waits lack (fs ++ rest)))
        (place_of i lines v.left) (place_of i lines v.left) (place_of new r.left w.left) r.used r.done
        (λ k past. whole-is (config_at (place_of i lines v.left) k past))
        (leads-into (bind part others) (others (Waits lack fs)) (gives (Waits lack (fs ++ rest)))
        (place_of i lines v.left) (place_of new r.left w.left) r.used r.done
        (resume-keeps p CALL_LIMIT rest lack fs)
        (leads-through part others (Waits lack fs) rest (place_of i lines v.left) (place_of new r.left w.left) r.used r.done
        (MayBeLeft (Waits lack (fs ++ rest))) (still-left lack fs (fs ++ rest)) (resume-keeps p CALL_LIMIT rest) r.leads));
  }

  -- the console failed
  pub fails-on : (lines : List (List ℕ)) → Ends None part within new b c v.left w.left lines
      → Ends None (meant (resumed (x ∷ rest) e) i) i new b c v.left w.left lines
  fails-on lines broken = λ past.
      let r = broken past in
      let k = config_at (place_of i lines v.left) i.left past in
      let g : Goes (part k).1 (others (part k).0 (part k).1).1 = adds p rest (part k).0 (part k).1 in
      record {
        events = r.events ++ g.events;
        same = ap (λ r. r.1.past) (whole-is k) ∙ bind-past part others k ∙ g.past
            ∙ ap (λ q. q ++ g.events) r.same ∙ append_assoc past r.events g.events;
        shows = subst (GrewByPrefix b.history c.history) (sym (shown_of-append r.events g.events))
            (part_of_more b.history c.history (shown_of r.events) (shown_of g.events) r.shows);
      }

-- a call that is due is due with more frames after it
pub due-on : (fs gs : List Frame) → CallIsDue fs → CallIsDue (fs ++ gs)
due-on [] gs due = absurd due
due-on (Begins (f.CallDue name values) ∷ fs) gs due = tt
due-on (y ∷ fs) gs due = absurd due

-- ---- calls that are open

pub calls-reverse : (xs : List Frame) → calls_open (reverse xs) ≡ calls_open xs
calls-reverse [] = refl
calls-reverse (x ∷ xs) =
    ap calls_open (reverse-append (x ∷ []) xs)
    ∙ (let all = calls-append (reverse xs) (x ∷ []) in let first = calls-append (x ∷ []) xs in
    let rest = calls-reverse xs in omega (arith, all, first, rest))

pub rest-few : (x : Frame) (rest : List Frame) → calls_open rest ≤ calls_open (x ∷ rest)
rest-few x rest = let all = calls-append (x ∷ []) rest in omega (arith, all)

pub none-waits : (fs : List Frame) → length fs ≤ 0 → fs ≡ []
none-waits [] few = refl
none-waits (x ∷ fs) few = absurd (omega (arith, few))

-- an interpreter that stopped for this
pub does-stopped : (h : ℕ) (part : Part) (old new : Interpreter) (a b : ConsoleView) (x y : Supply)
    (stopped : Stopped) → new.stopped ≡ stopped
    → Does h part old new a b x y (stop_in (waiting_in new) new.stopped)
    → Does h part old new a b x y (stop_in (waiting_in new) stopped)
does-stopped h part old new a b x y stopped is d =
    subst (λ s. Does h part old new a b x y (stop_in (waiting_in new) s)) is d

-- ---- how a run ends

module _ (whole rest : Part) (i0 i : Interpreter) (a b : ConsoleView) (u v : Supply)
    (so-far : Comes whole rest i0 i a b u v) where
  -- as what is left does
  pub then-ends : (new : Interpreter) (c : ConsoleView) (w : Supply) (o : Option Outcome)
      → ((lines : List (List ℕ)) → b.left ≡ Some lines
      → Ends o (meant rest i) i new b c v.left w.left lines)
      → (lines : List (List ℕ)) → a.left ≡ Some lines
      → Ends o (meant whole i0) i0 new a c u.left w.left lines
  then-ends new c w o h = λ lines known.
      let r = so-far.reaches lines known in
      ends-then i0 i new a b c u.left v.left w.left lines (meant whole i0) (meant rest i0)
      so-far.stays.to_call r o
      (subst (λ m. Ends o m i new b c v.left w.left r.left)
      (meant-same rest i0 i so-far.stays.names so-far.stays.room) (h r.left r.lines_left))

nothing : (p : Program) (e : Outcome) (c : Config) → resume_at p CALL_LIMIT [] e c ≡ (e, c)
unfolding resume_at
nothing p e c = refl

-- no frame is left: the run is over
pub over-ends : (i new : Interpreter) (seen : ConsoleView) (given : Supply) (frames : List Frame)
    (e : Outcome) → IsSettled e → frames ≡ [] → new.world ≡ i.world → new.left ≡ i.left
    → (lines : List (List ℕ)) → seen.left ≡ Some lines
    → Ends (Some e) (meant (resumed frames e) i) i new seen seen given.left given.left lines
over-ends i new seen given frames e settled none world left lines known = record {
  used = 0;
  done = [];
  left = lines;
  steps = omega (arith, left);
  grew = sym (grown-nil seen.history);
  lines_left = known;
  leads = leads-nowhere (meant (resumed frames e) i) (gives e) (place_of i lines given.left)
      (place_of new lines given.left)
      (λ n past left. ap (λ fs. resume_at (program_of i) CALL_LIMIT fs e (config_at (place_of i lines given.left) n past)) none
      ∙ nothing (program_of i) e (config_at (place_of i lines given.left) n past)
      ∙ ap (λ w. (e, config_at (record { world = world_of w; lines = lines; draws = given.left }) n past)) (sym world));
}

-- what waits stands elsewhere
pub moved-ends : (e : Outcome) (m : Meaning) (i new : Interpreter) (waiting : Stack)
    (a b : ConsoleView) (drawn draws : List ℕ) (lines : List (List ℕ))
    → Ends (Some e) m i new a b drawn draws lines
    → Ends (Some e) m i (record new { waiting = waiting }) a b drawn draws lines
moved-ends e m i new waiting a b drawn draws lines r = record {
  used = r.used;
  done = r.done;
  left = r.left;
  steps = r.steps;
  grew = r.grew;
  lines_left = r.lines_left;
  leads = r.leads;
}

-- how a run stops that is over
pub over-stop : (e : Outcome) → IsSettled e → stop_of e ≡ Halted (f.halt_of e)
over-stop (Value a) h = refl
over-stop (Truth b) h = refl
over-stop Normal h = refl
over-stop (Returns a) h = refl
over-stop f.Breaks h = refl
over-stop Continues h = refl
over-stop (Halts halt) h = refl
over-stop (Waits lack fs) h = absurd h

-- one that is over is not spent
pub over-unspent : (halt : f.Halt) → Halted halt ≡ Lacking f.Spent → ⊥
over-unspent halt is = absurd cc

pub spent-right : (lack : Lack) (fs : List Frame) (new : Interpreter) → Lacking lack ≡ Lacking f.Spent
    → IsSpentRight (Some (Waits lack fs)) new → 0 < new.left
    → (new.to_call ≡ true) × CallIsDue fs
spent-right f.Spent fs new is h some = h some
spent-right f.NeedsLine fs new is h some = absurd cc
spent-right f.NeedsDraw fs new is h some = absurd cc
