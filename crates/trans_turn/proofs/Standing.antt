-- What a stage stands for after what a round does itself.
use Rattle.std.proofs.Common.{ℕ, pos, List, codes, refl}
use Rattle.adv_io.specs.Steps.{Step}
use Rattle.inform_logic.specs.Stages.{Stage, with_past, with_global}
use Rattle.scott_types.specs.declared.states.State.{State}
use Rattle.scott_types.specs.Database.{Database}
use Rattle.scott_types.specs.State.{Fits}
use Rattle.scott_rules.specs.Rounds.{unmarked}
use Rattle.trans_specs.specs.Standing.{StandsFor}

-- a state without its mark fits where the state does
pub unmarked_fits : {db : Database} {s : State} → Fits db s → Fits db (unmarked s)
unmarked_fits h = record {
  rooms = record {
    room = h.rooms.room;
    saved = h.rooms.saved;
    rooms = h.rooms.rooms;
    count = h.rooms.count;
  };
  counters = record {
    counter = h.counters.counter;
    counters = h.counters.counters;
    count = h.counters.count;
  };
  flags = h.flags;
  light = h.light;
  places = record { count = h.places.count; places = h.places.places };
}

-- the mark is taken away
pub mark_off : {db : Database} {s : State} {noun : List ℕ} {w : Stage} → StandsFor db s noun w
    → StandsFor db (unmarked s) noun (with_global (codes "redraw") (pos 0) w)
mark_off h = record {
  ready = record {
    shows = record {
      room_is = h.ready.shows.room_is;
      saved_is = h.ready.shows.saved_is;
      counter_is = h.ready.shows.counter_is;
      light_is = h.ready.shows.light_is;
      mark_is = refl;
      guard = h.ready.shows.guard;
      places_are = h.ready.shows.places_are;
      flags_are = h.ready.shows.flags_are;
      counters_are = h.ready.shows.counters_are;
      rooms_are = h.ready.shows.rooms_are;
    };
    fits = unmarked_fits h.ready.fits;
    tables = h.ready.tables;
    working = h.ready.working;
  };
  has_noun = h.has_noun;
}

-- what happened doesn't count
pub past_aside : {db : Database} {s : State} {noun : List ℕ} {w : Stage} (past : List Step)
    → StandsFor db s noun w → StandsFor db s noun (with_past past w)
past_aside past h = record {
  ready = record {
    shows = h.ready.shows;
    fits = h.ready.fits;
    tables = h.ready.tables;
    working = h.ready.working;
  };
  has_noun = h.has_noun;
}
