use Rattle.std.proofs.Common.{◌≡◌, ◌∙◌, ◌-◌, length, map, drop, take, get_or, Some, None, refl, sym}
use Rattle.adv_io.proofs.Sayings.{nothing_said}
use Rattle.scott_types.specs.Opcode.{opcode_of}
use Rattle.scott_types.specs.Style.{in_style}
use Rattle.scott_rules.specs.Opcodes.{op, takes, run_opcodes}
use Rattle.scott_actions.proofs.Parts.{run_opcodes-none, run_opcodes-first, and_then-on, and_then-over, part_stop, part_then}
use Rattle.scott_actions.proofs.actions.+run_opcodes.Goals as goal

pub returns-in-empty : goal.returns-in-empty
returns-in-empty g t c =
    let none = run_opcodes-none (in_style c.args.style c.args.db.now) c.args.noun.now c.args.opcodes.now c.args.parameters.now c.args.state.now c.in-empty.len_below in
    record {
      spoken = rw none (nothing_said (g.C.Console.seen c.args.console.now) None);
      state = rw none refl;
      over = rw none refl;
      fits = c.requires;
    }

pub returns-in-Ok-None : goal.returns-in-Ok-None
returns-in-Ok-None g t c =
    let game = in_style c.args.style c.args.db.now in
    let noun = c.args.noun.now in
    let opcode = opcode_of (get_or c.args.opcodes.now 0 0) in
    let others = take (length c.args.opcodes.now - 1) (drop 1 c.args.opcodes.now) in
    let first = op game noun opcode c.args.parameters.now c.args.state.now in
    let next = run_opcodes game noun (map opcode_of others) (drop (takes game.db c.args.state.now opcode) c.args.parameters.now) in
    let whole = run_opcodes-first game noun c.args.opcodes.now c.args.parameters.now c.args.state.now c.in-len1-up.len_at_least in
    let on : first.value.over ≡ None = sym (rw (c.in-Ok-None.field-0-is, c.of-opcode.ensures) at c.in-Ok-None.ensures.over) in
    record {
      spoken = rw whole
          (part_then first next on
          (rw c.of-opcode.ensures at c.in-Ok-None.ensures.spoken)
          (rw (c.in-Ok-None.ensures.state, c.left_by-rest.ensures, c.of-opcode.ensures) at c.run_opcodes.ensures.spoken));
      state = rw (whole, and_then-on first next on) (rw (c.in-Ok-None.ensures.state, c.left_by-rest.ensures, c.of-opcode.ensures) at c.run_opcodes.ensures.state);
      over = rw (whole, and_then-on first next on) (rw (c.in-Ok-None.ensures.state, c.left_by-rest.ensures, c.of-opcode.ensures) at c.run_opcodes.ensures.over);
      fits = c.run_opcodes.ensures.fits;
    }

pub returns-in-Ok-Some : goal.returns-in-Ok-Some
returns-in-Ok-Some g t c =
    let game = in_style c.args.style c.args.db.now in
    let noun = c.args.noun.now in
    let opcode = opcode_of (get_or c.args.opcodes.now 0 0) in
    let others = take (length c.args.opcodes.now - 1) (drop 1 c.args.opcodes.now) in
    let first = op game noun opcode c.args.parameters.now c.args.state.now in
    let next = run_opcodes game noun (map opcode_of others) (drop (takes game.db c.args.state.now opcode) c.args.parameters.now) in
    let over : first.value.over ≡ Some c.in-Ok-Some.ending = sym (rw (c.in-Ok-Some.field-0-is, c.of-opcode.ensures) at c.in-Ok-Some.ensures.over) in
    let whole : run_opcodes game noun (map opcode_of c.args.opcodes.now) c.args.parameters.now c.args.state.now ≡ first =
    run_opcodes-first game noun c.args.opcodes.now c.args.parameters.now c.args.state.now c.in-len1-up.len_at_least ∙ and_then-over first next over in
    record {
      spoken = rw whole (rw (c.in-Ok-Some.field-0-is, c.of-opcode.ensures) at c.in-Ok-Some.ensures.spoken);
      state = rw whole (rw c.of-opcode.ensures at c.in-Ok-Some.ensures.state);
      over = rw whole (sym over);
      fits = c.step.ensures.fits;
    }

pub returns-in-Err : goal.returns-in-Err
returns-in-Err g t c =
    let game = in_style c.args.style c.args.db.now in
    let noun = c.args.noun.now in
    let opcode = opcode_of (get_or c.args.opcodes.now 0 0) in
    let others = take (length c.args.opcodes.now - 1) (drop 1 c.args.opcodes.now) in
    let first = op game noun opcode c.args.parameters.now c.args.state.now in
    let next = run_opcodes game noun (map opcode_of others) (drop (takes game.db c.args.state.now opcode) c.args.parameters.now) in
    record {
      spoken = rw (run_opcodes-first game noun c.args.opcodes.now c.args.parameters.now c.args.state.now c.in-len1-up.len_at_least)
          (part_stop c.in-Err.fault first.value.over first next (rw c.of-opcode.ensures at c.in-Err.ensures.spoken));
      state = tt;
      over = tt;
      fits = c.step.ensures.fits;
    }
