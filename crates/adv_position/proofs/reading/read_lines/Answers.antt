use Rattle.std.proofs.Common.{◌≡◌, to_z, of_z, w16, w32, refl, rules}
use Rattle.adv_position.specs.Reading.{position_in}
use Rattle.adv_position.proofs.reading.read_lines.Goals as goal

pub returns-in_default : goal.returns-in_default
unfolding position_in
returns-in_default c = rw (← c.new-reader.ensures, c.in_default.ensures) refl

pub returns-in_default-position : goal.returns-in_default-position
unfolding position_in
returns-in_default-position c = rw
    (← c.new-reader.ensures, c.in-Some.ensures, c.in_default-position.ensures) refl

pub returns-in_default-taken : goal.returns-in_default-taken
unfolding position_in
returns-in_default-taken c = rw (
  ← c.new-reader.ensures,
  c.in-Some.ensures,
  c.in-Some-position.ensures,
  c.in_default-taken.ensures,
) refl

pub returns-in_default-room_line : goal.returns-in_default-room_line
unfolding position_in
returns-in_default-room_line c = rw (
  ← c.new-reader.ensures,
  c.in-Some.ensures,
  c.in-Some-position.ensures,
  c.in-Some-taken.ensures,
  c.in_default-room_line.ensures,
) refl

pub returns-in_default-rooms : goal.returns-in_default-rooms
unfolding position_in
returns-in_default-rooms c = rw (
  ← c.new-reader.ensures,
  c.in-Some.ensures,
  c.in-Some-position.ensures,
  c.in-Some-taken.ensures,
  c.in-Some-room_line.ensures,
  c.in_default-rooms.ensures,
) refl

pub returns-in_default-counters : goal.returns-in_default-counters
unfolding position_in
returns-in_default-counters c = rw (
  ← c.new-reader.ensures,
  c.in-Some.ensures,
  c.in-Some-position.ensures,
  c.in-Some-taken.ensures,
  c.in-Some-room_line.ensures,
  c.in-Some-rooms.ensures,
  c.in_default-counters.ensures,
) refl

pub returns-in_default-flags : goal.returns-in_default-flags
unfolding position_in
returns-in_default-flags c = rw (
  ← c.new-reader.ensures,
  c.in-Some.ensures,
  c.in-Some-position.ensures,
  c.in-Some-taken.ensures,
  c.in-Some-room_line.ensures,
  c.in-Some-rooms.ensures,
  c.in-Some-counters.ensures,
  c.in_default-flags.ensures,
) refl

pub returns-in_default-places : goal.returns-in_default-places
unfolding position_in
returns-in_default-places c = rw (
  ← c.new-reader.ensures,
  c.in-Some.ensures,
  c.in-Some-position.ensures,
  c.in-Some-taken.ensures,
  c.in-Some-room_line.ensures,
  c.in-Some-rooms.ensures,
  c.in-Some-counters.ensures,
  c.in-Some-flags.ensures,
  c.in_default-places.ensures,
) refl

pub returns : goal.returns
unfolding position_in
returns c =
    let now = c.in-Some-room_line.now in
    let light : to_z w32 (of_z w32 now.light) ≡ now.light = search rules in
    let counter : to_z w16 (of_z w16 now.counter) ≡ now.counter = search rules in
    rw (
      ← c.new-reader.ensures,
      c.in-Some.ensures,
      c.in-Some-position.ensures,
      c.in-Some-taken.ensures,
      c.in-Some-room_line.ensures,
      c.in-Some-rooms.ensures,
      c.in-Some-counters.ensures,
      c.in-Some-flags.ensures,
      c.in-Some-places.ensures,
    )
    (rw (light, counter) at c.at_end.ensures)
