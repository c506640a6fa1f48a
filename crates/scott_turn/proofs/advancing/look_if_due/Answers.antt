use Rattle.std.proofs.Common.{◌≡◌, ◌∙◌, true, false, sym}
use Rattle.scott_types.specs.declared.states.State.{State}
use Rattle.scott_types.specs.Database.{Database}
use Rattle.scott_types.specs.State.{Fits}
use Rattle.scott_rules.specs.Rounds.{look_due, unmarked}
use Rattle.scott_turn.proofs.Showing.{shown_said}
use Rattle.scott_turn.proofs.advancing.look_if_due.Goals as goal

-- a state without the mark fits where it fits with it
fits_unmarked : {db : Database} {s : State} → Fits db s → Fits db (unmarked s)
fits_unmarked f = record {
  rooms = record { room = f.rooms.room; saved = f.rooms.saved; rooms = f.rooms.rooms; count = f.rooms.count };
  counters = record { counter = f.counters.counter; counters = f.counters.counters; count = f.counters.count };
  flags = f.flags;
  light = f.light;
  places = record { count = f.places.count; places = f.places.places };
}

pub look-requires : goal.look-requires
look-requires g c = rw (c.db.ensures, c.unmark.ensures.state) (fits_unmarked c.requires)

pub returns-then-unmark : goal.returns-then-unmark
returns-then-unmark g c =
    let due : c.args.state.now.redraw ≡ true = sym c.unmark.ensures.due ∙ c.if-unmark.true in
    record {
      spoken = rw (shown_said (look_due c.args.game.now c.args.state.now), due) (rw (c.style.ensures, c.db.ensures, c.unmark.ensures.state) at c.look.ensures);
      state = c.unmark.ensures.state;
      fits = rw c.unmark.ensures.state (fits_unmarked c.requires);
    }

pub returns-else-unmark : goal.returns-else-unmark
returns-else-unmark g c =
    let due : c.args.state.now.redraw ≡ false = sym c.unmark.ensures.due ∙ c.if-unmark.false in
    record {
      spoken = rw due c.say_text.ensures;
      state = c.unmark.ensures.state;
      fits = rw c.unmark.ensures.state (fits_unmarked c.requires);
    }
