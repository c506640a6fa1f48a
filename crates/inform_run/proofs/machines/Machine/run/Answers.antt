use Rattle.std.proofs.Common.{◌≡◌, ◌∙◌, ◌∷◌, ◌++◌, ◌-◌, [], length, Some, None, Ok, Err, refl, sym, ap, subst, arith}
use Rattle.adv_io.proofs.Sayings.{cause_again, cause_fails}
use Rattle.inform_meaning.specs.Frames as f
use Rattle.inform_meaning.specs.Runs.{CALL_LIMIT, Halted}
use Rattle.inform_moves.specs.Heights.{height, Fits, calls_open}
use Rattle.inform_moves.specs.Readiness.{IsReady}
use Rattle.inform_worlds.specs.Views.{world_of}
use Rattle.inform_frames.specs.Frames.{signal_of}
use Rattle.inform_frames.specs.Frames as v
use Rattle.inform_frames.specs.Stacks.{stack_of, top_seen}
use Rattle.inform_frames.proofs.Innermost.{calls-append}
use Rattle.inform_interpreter.specs.declared.exits.Stopped.TheVariants as s
use Rattle.inform_interpreter.specs.Interpreters.{waiting_in, lack_of}
use Rattle.inform_interpreter.specs.Doing.{handed, Stays, Does}
use Rattle.inform_run.specs.Machines.{with_room, resumed}
use Rattle.inform_run.specs.Stops.{stop_seen}
use Rattle.inform_interpreter.proofs.Doing.{comes-comes, stays-then}
use Rattle.inform_interpreter.proofs.Arms.{comes-nowhere}
use Rattle.inform_interpreter.proofs.Fitting.{ready-append}
use Rattle.inform_run.proofs.Running.{signal-settled, over-begun, rest-ready, hands-on, waits-on, fails-on, due-on, calls-reverse, does-stopped, rest-few, none-waits, then-ends, over-ends, moved-ends, over-stop, over-unspent, spent-right}
use Rattle.inform_run.proofs.machines.Machine.run.Goals as goal

pub running-init : goal.running-init
running-init g c = record {
  fits = c.requires.0;
  few = c.requires.1.0;
  ready = c.requires.1.1.0;
  comes = comes-nowhere (resumed (stack_of c.args.self.now.stack) f.Normal) c.args.self.now.interpreter
      (g.C.Console.seen c.args.console.now) c.args.draws.now (none-waits _ c.requires.1.1.1);
}

pub returns-in_default : goal.returns-in_default
returns-in_default g c =
    let l = c.running in
    let so-far = l.invariant.comes in
    let before = c.args.self.now in
    let i0 = before.interpreter in
    let i = with_room i0.room l.self.interpreter in
    let e = signal_of l.signal in
    let settled = signal-settled l.signal in
    let seen = g.C.Console.seen l.console in
    let stack : stack_of c.push.new.self ≡ f.Over (v.halt_of c.halt_of-halt.result) ∷ [] =
    c.push.ensures ∙ ap (λ fs. f.Over (v.halt_of c.halt_of-halt.result) ∷ fs) c.in_default.ensures.still in
    record {
      names = so-far.stays.names;
      left = so-far.stays.left;
      supply = so-far.stays.supply;
      bounded = so-far.stays.bounded;
      cause = cause_again c.stop_over.result so-far.stays.cause;
      fit = (
        subst Fits (sym stack) (omega arith, tt),
        (
          omega (arith, ap calls_open stack),
          (subst (IsReady (world_of l.self.interpreter.world)) (sym stack) (tt, tt), omega (arith, ap length so-far.idle)),
        ),
      );
      spent = λ is some. absurd (over-unspent (v.halt_of c.halt_of-halt.result) (sym c.stop_over.ensures ∙ ap stop_seen is));
      ends = λ lines known. record {
        outcome = e;
        stop_is = over-stop e settled ∙ sym (c.stop_over.ensures ∙ ap Halted c.halt_of-halt.ensures);
        begun = over-begun e settled ∙ ap (λ h. f.Over h ∷ []) (sym c.halt_of-halt.ensures) ∙ sym stack;
        reaches = then-ends (resumed (stack_of before.stack) f.Normal) (resumed (stack_of l.self.stack) e) i0 i
            (g.C.Console.seen c.args.console.now) seen c.args.draws.now l.draws so-far l.self.interpreter seen l.draws (Some e)
            (over-ends i l.self.interpreter seen l.draws (stack_of l.self.stack) e settled c.in_default.ensures.none refl refl) lines known;
      };
    }

pub move_onto-requires-clause-room : goal.move_onto-requires-clause-room
move_onto-requires-clause-room g c =
    let x = top_seen c.in-Some.top in
    let rest = stack_of c.take.new.self in
    let fits : Fits (x ∷ rest) = subst Fits c.in-Some.ensures.top c.running.invariant.fits in
    let few = c.running.invariant.few in
    let calls = ap calls_open c.in-Some.ensures.top in
    omega (arith, c.in-None.ensures.does.few, c.frames_are_few.ensures x rest fits, ap length c.hand.ensures.stack, few, calls, rest-few x rest)

pub running-preserved-in-Some-hand : goal.running-preserved-in-Some-hand
running-preserved-in-Some-hand g c =
    let l = c.running in
    let x = top_seen c.in-Some.top in
    let rest = stack_of c.take.new.self in
    let is = c.in-Some.ensures.top in
    let before = c.args.self.now in
    let i0 = before.interpreter in
    let i = with_room i0.room l.self.interpreter in
    let new = c.hand.new.self.interpreter in
    let e = signal_of l.signal in
    let next = signal_of c.in-Some-hand.handed in
    let seen = g.C.Console.seen in
    let stack = c.hand.ensures.stack in
    let whole = resumed (stack_of before.stack) f.Normal in
    let ready = rest-ready (world_of l.self.interpreter.world) (world_of new.world) x rest (subst (IsReady (world_of l.self.interpreter.world)) is l.invariant.ready) in
    let once = hands-on c.runs_add.ensures c.room_is_left.ensures x rest e (height x) i new (seen l.console) (seen c.hand.new.console) l.draws c.hand.new.draws
    next (signal-settled c.in-Some-hand.handed) c.in-Some-hand.ensures.does in
    record {
      fits = subst Fits (sym stack) (subst Fits is l.invariant.fits).1;
      few = omega (arith, l.invariant.few, ap calls_open is, rest-few x rest, ap calls_open stack);
      ready = subst (IsReady (world_of new.world)) (sym stack) ready;
      comes = comes-comes whole (resumed (stack_of l.self.stack) e) (resumed (stack_of c.hand.new.self.stack) next) i0 i (with_room i0.room new)
          (seen c.args.console.now) (seen l.console) (seen c.hand.new.console) c.args.draws.now l.draws c.hand.new.draws l.invariant.comes
          (rw (is, stack) once);
    }

pub running-preserved : goal.running-preserved
running-preserved g c =
    let l = c.running in
    let x = top_seen c.in-Some.top in
    let rest = stack_of c.take.new.self in
    let is = c.in-Some.ensures.top in
    let before = c.args.self.now in
    let i0 = before.interpreter in
    let i = with_room i0.room l.self.interpreter in
    let new = c.hand.new.self.interpreter in
    let e = signal_of l.signal in
    let next = f.Halts (v.halt_of c.in-Over.halt) in
    let seen = g.C.Console.seen in
    let stack = c.hand.ensures.stack in
    let whole = resumed (stack_of before.stack) f.Normal in
    let ready = rest-ready (world_of l.self.interpreter.world) (world_of new.world) x rest (subst (IsReady (world_of l.self.interpreter.world)) is l.invariant.ready) in
    let once = hands-on c.runs_add.ensures c.room_is_left.ensures x rest e (height x) i new (seen l.console) (seen c.hand.new.console) l.draws c.hand.new.draws
    next tt (does-stopped (height x) (handed x e) (with_room (CALL_LIMIT - calls_open rest) i) new (seen l.console) (seen c.hand.new.console) l.draws c.hand.new.draws (s.Over c.in-Over.halt) c.in-Over.is c.in-None.ensures.does) in
    record {
      fits = subst Fits (sym stack) (subst Fits is l.invariant.fits).1;
      few = omega (arith, l.invariant.few, ap calls_open is, rest-few x rest, ap calls_open stack);
      ready = subst (IsReady (world_of new.world)) (sym stack) ready;
      comes = comes-comes whole (resumed (stack_of l.self.stack) e) (resumed (stack_of c.hand.new.self.stack) next) i0 i (with_room i0.room new)
          (seen c.args.console.now) (seen l.console) (seen c.hand.new.console) c.args.draws.now l.draws c.hand.new.draws l.invariant.comes
          (rw (is, stack) once);
    }

pub returns-in-Lacks : goal.returns-in-Lacks
returns-in-Lacks g c =
    let l = c.running in
    let x = top_seen c.in-Some.top in
    let rest = stack_of c.take.new.self in
    let is = c.in-Some.ensures.top in
    let before = c.args.self.now in
    let i0 = before.interpreter in
    let i = with_room i0.room l.self.interpreter in
    let new = c.hand.new.self.interpreter in
    let e = signal_of l.signal in
    let seen = g.C.Console.seen in
    let lack = lack_of c.in-Lacks.lack in
    let fs = waiting_in new in
    let whole = resumed (stack_of before.stack) f.Normal in
    let d : Does (height x) (handed x e) (with_room (CALL_LIMIT - calls_open rest) i) new (seen l.console) (seen c.hand.new.console) l.draws c.hand.new.draws (Some (f.Waits lack fs)) = does-stopped (height x) (handed x e) (with_room (CALL_LIMIT - calls_open rest) i) new (seen l.console) (seen c.hand.new.console) l.draws c.hand.new.draws (s.Lacks c.in-Lacks.lack) c.in-Lacks.is c.in-None.ensures.does in
    let stack : stack_of c.move_onto.new.other ≡ fs ++ rest =
    c.move_onto.ensures.all ∙ ap (λ gs. fs ++ gs) c.hand.ensures.stack in
    let fits : Fits (x ∷ rest) = subst Fits is l.invariant.fits in
    let ready : IsReady (world_of l.self.interpreter.world) (x ∷ rest) = subst (IsReady (world_of l.self.interpreter.world)) is l.invariant.ready in
    let stays : Stays i0 (with_room i0.room new) (seen c.args.console.now) (seen c.hand.new.console) c.args.draws.now c.hand.new.draws (Ok tt) =
    stays-then i0 i (with_room i0.room new) (seen c.args.console.now) (seen l.console) (seen c.hand.new.console) c.args.draws.now l.draws c.hand.new.draws (Ok tt)
    l.invariant.comes.stays (record {
      names = d.stays.names;
      room = refl;
      to_call = d.stays.to_call;
      left = d.stays.left;
      supply = d.stays.supply;
      bounded = d.stays.bounded;
      cause = d.stays.cause;
    }) in
    record {
      names = stays.names;
      left = stays.left;
      supply = stays.supply;
      bounded = stays.bounded;
      cause = cause_again c.stop_for.result stays.cause;
      fit = (
        subst Fits (sym stack) (d.fits.within rest fits.1 fits.0),
        (
          omega (arith, ap calls_open stack, calls-append fs rest, calls-reverse (stack_of new.waiting), d.calls, l.invariant.few, ap calls_open is, rest-few x rest),
          (
            subst (IsReady (world_of new.world)) (sym stack) (ready-append (world_of new.world) fs rest d.fits.ready ready.1),
            omega (arith, ap length c.move_onto.ensures.none),
          ),
        ),
      );
      spent = λ spent some.
          let due = spent-right lack fs new (sym c.stop_for.ensures ∙ ap stop_seen spent) d.spent some in
          (sym stays.to_call ∙ due.0, rw (stack) (due-on fs rest due.1));
      ends = λ lines known. record {
        outcome = f.Waits lack (fs ++ rest);
        stop_is = sym c.stop_for.ensures;
        begun = sym stack;
        reaches = moved-ends (f.Waits lack (fs ++ rest)) _ i0 new c.move_onto.new.self (seen c.args.console.now) (seen c.hand.new.console) c.args.draws.now.left c.hand.new.draws.left lines
            (then-ends whole (resumed (stack_of l.self.stack) e) i0 i
            (seen c.args.console.now) (seen l.console) c.args.draws.now l.draws l.invariant.comes new (seen c.hand.new.console) c.hand.new.draws (Some (f.Waits lack (fs ++ rest)))
            (λ lines known. rw (is) (waits-on c.runs_add.ensures c.room_is_left.ensures x rest e (height x) i new (seen l.console) (seen c.hand.new.console) l.draws c.hand.new.draws lack fs lines (d.ends lines known)))
            lines known);
      };
    }

pub returns-in-Fails : goal.returns-in-Fails
returns-in-Fails g c =
    let l = c.running in
    let x = top_seen c.in-Some.top in
    let rest = stack_of c.take.new.self in
    let is = c.in-Some.ensures.top in
    let before = c.args.self.now in
    let i0 = before.interpreter in
    let i = with_room i0.room l.self.interpreter in
    let new = c.hand.new.self.interpreter in
    let e = signal_of l.signal in
    let seen = g.C.Console.seen in
    let whole = resumed (stack_of before.stack) f.Normal in
    let d : Does (height x) (handed x e) (with_room (CALL_LIMIT - calls_open rest) i) new (seen l.console) (seen c.hand.new.console) l.draws c.hand.new.draws None = does-stopped (height x) (handed x e) (with_room (CALL_LIMIT - calls_open rest) i) new (seen l.console) (seen c.hand.new.console) l.draws c.hand.new.draws (s.Fails c.in-Fails.fault) c.in-Fails.is c.in-None.ensures.does in
    let stays : Stays i0 (with_room i0.room new) (seen c.args.console.now) (seen c.hand.new.console) c.args.draws.now c.hand.new.draws (Err tt) =
    stays-then i0 i (with_room i0.room new) (seen c.args.console.now) (seen l.console) (seen c.hand.new.console) c.args.draws.now l.draws c.hand.new.draws (Err tt)
    l.invariant.comes.stays (record {
      names = d.stays.names;
      room = refl;
      to_call = d.stays.to_call;
      left = d.stays.left;
      supply = d.stays.supply;
      bounded = d.stays.bounded;
      cause = d.stays.cause;
    }) in
    record {
      names = stays.names;
      left = stays.left;
      supply = stays.supply;
      bounded = stays.bounded;
      cause = cause_fails c.in-Fails.fault stays.cause;
      fit = tt;
      spent = tt;
      ends = then-ends whole (resumed (stack_of l.self.stack) e) i0 i
          (seen c.args.console.now) (seen l.console) c.args.draws.now l.draws l.invariant.comes new (seen c.hand.new.console) c.hand.new.draws None
          (λ lines known. rw (is) (fails-on c.runs_add.ensures c.room_is_left.ensures x rest e (height x) i new (seen l.console) (seen c.hand.new.console) l.draws c.hand.new.draws lines (d.ends lines known)));
    }
