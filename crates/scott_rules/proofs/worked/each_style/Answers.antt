use Rattle.std.proofs.Common.{refl}
use Rattle.std.specs.Fmt.{digits}
use Rattle.scott_types.specs.Phrase.{text_of, second_person}
use Rattle.scott_rules.specs.Play.{go}
use Rattle.scott_rules.proofs.worked.each_style.Goals as goal

pub returns : goal.returns
unfolding go text_of second_person digits
returns c = record {
  is_plain = record {
    no_way = record { events_are = refl; stopped = refl; lines_left = refl; draws_left = refl };
    light = record { events_are = refl; stopped = refl; lines_left = refl; draws_left = refl };
    place_after = refl;
    light_after = refl;
    out = refl;
  };
  you = record {
    no_way = record { events_are = refl; stopped = refl; lines_left = refl; draws_left = refl };
    light = record { events_are = refl; stopped = refl; lines_left = refl; draws_left = refl };
    place_after = refl;
    light_after = refl;
    out = refl;
  };
  counted = record {
    no_way = record { events_are = refl; stopped = refl; lines_left = refl; draws_left = refl };
    light = record { events_are = refl; stopped = refl; lines_left = refl; draws_left = refl };
    place_after = refl;
    light_after = refl;
    out = refl;
  };
  vanish = record {
    no_way = record { events_are = refl; stopped = refl; lines_left = refl; draws_left = refl };
    light = record { events_are = refl; stopped = refl; lines_left = refl; draws_left = refl };
    place_after = refl;
    light_after = refl;
    out = refl;
  };
  you_counted = record {
    no_way = record { events_are = refl; stopped = refl; lines_left = refl; draws_left = refl };
    light = record { events_are = refl; stopped = refl; lines_left = refl; draws_left = refl };
    place_after = refl;
    light_after = refl;
    out = refl;
  };
  you_vanish = record {
    no_way = record { events_are = refl; stopped = refl; lines_left = refl; draws_left = refl };
    light = record { events_are = refl; stopped = refl; lines_left = refl; draws_left = refl };
    place_after = refl;
    light_after = refl;
    out = refl;
  };
  counted_vanish = record {
    no_way = record { events_are = refl; stopped = refl; lines_left = refl; draws_left = refl };
    light = record { events_are = refl; stopped = refl; lines_left = refl; draws_left = refl };
    place_after = refl;
    light_after = refl;
    out = refl;
  };
  all_three = record {
    no_way = record { events_are = refl; stopped = refl; lines_left = refl; draws_left = refl };
    light = record { events_are = refl; stopped = refl; lines_left = refl; draws_left = refl };
    place_after = refl;
    light_after = refl;
    out = refl;
  };
}
