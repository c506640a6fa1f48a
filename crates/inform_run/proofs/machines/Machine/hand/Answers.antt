use Rattle.inform_run.proofs.machines.Machine.hand.Goals as goal

pub returns-in-Caller-clause-does : goal.returns-in-Caller-clause-does
returns-in-Caller-clause-does g c =
    rw (c.in-Caller.is, ← c.calls.ensures.value)
    (c.back.ensures (g.C.Console.seen c.args.console.now) c.args.draws.now)
