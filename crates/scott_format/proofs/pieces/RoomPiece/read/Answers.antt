use Rattle.std.proofs.Common.{◌≡◌, refl, ℕ, ℤ, List, [], ◌∷◌, to_z, of_z, w32, rules}
use Rattle.std.proofs.lemmas.Result.{err_from_is_err_and}
use Rattle.scott_types.specs.declared.parts.Room.{Room}
use Rattle.scott_format.specs.Sections.{any_number, string, room}
use Rattle.scott_format.proofs.OneByOne.{Eight, nothing, eight_read, stops_first, stops_second, stops_third, stops_fourth, stops_fifth, stops_sixth, stops_seventh}
use Rattle.scott_format.proofs.pieces.RoomPiece.read.Goals as goal

abbrev chain : Eight ℤ ℤ ℤ ℤ ℤ ℤ (List ℕ) (Unit {0}) Room
chain = record {
  first = any_number;
  second = any_number;
  third = any_number;
  fourth = any_number;
  fifth = any_number;
  sixth = any_number;
  seventh = string;
  eighth = nothing;
  made = λ north south east west up down text _. record {
    exits = north ∷ south ∷ east ∷ west ∷ up ∷ down ∷ [];
    text = text;
  };
}

pub returns : goal.returns
unfolding room
returns c =
    let north : to_z w32 (of_z w32 c.in_ok-north.north) ≡ c.in_ok-north.north = search rules in
    let south : to_z w32 (of_z w32 c.in_ok-south.south) ≡ c.in_ok-south.south = search rules in
    let east : to_z w32 (of_z w32 c.in_ok-east.east) ≡ c.in_ok-east.east = search rules in
    let west : to_z w32 (of_z w32 c.in_ok-west.west) ≡ c.in_ok-west.west = search rules in
    let up : to_z w32 (of_z w32 c.in_ok-up.up) ≡ c.in_ok-up.up = search rules in
    let down : to_z w32 (of_z w32 c.in_ok-down.down) ≡ c.in_ok-down.down = search rules in
    rw (north, south, east, west, up, down)
    (eight_read chain c.args.scan.now c.in_ok-north.ensures c.in_ok-south.ensures c.in_ok-east.ensures c.in_ok-west.ensures c.in_ok-up.ensures c.in_ok-down.ensures
    c.in_ok-text.ensures refl)

pub returns-in_err-north : goal.returns-in_err-north
unfolding room
returns-in_err-north c =
    let p = err_from_is_err_and c.from_residual.result c.from_residual.ensures.1 in
    rw (p.1, p.2) (stops_first chain c.args.scan.now c.in_err-north.field-0.0 c.in_err-north.ensures)

pub returns-in_err-south : goal.returns-in_err-south
unfolding room
returns-in_err-south c =
    let p = err_from_is_err_and c.from_residual-in_err-south.result c.from_residual-in_err-south.ensures.1 in
    rw (p.1, p.2) (stops_second chain c.args.scan.now c.in_err-south.field-0.0 c.in_ok-north.ensures c.in_err-south.ensures)

pub returns-in_err-east : goal.returns-in_err-east
unfolding room
returns-in_err-east c =
    let p = err_from_is_err_and c.from_residual-in_err-east.result c.from_residual-in_err-east.ensures.1 in
    rw (p.1, p.2) (stops_third chain c.args.scan.now c.in_err-east.field-0.0 c.in_ok-north.ensures c.in_ok-south.ensures c.in_err-east.ensures)

pub returns-in_err-west : goal.returns-in_err-west
unfolding room
returns-in_err-west c =
    let p = err_from_is_err_and c.from_residual-in_err-west.result c.from_residual-in_err-west.ensures.1 in
    rw (p.1, p.2) (stops_fourth chain c.args.scan.now c.in_err-west.field-0.0 c.in_ok-north.ensures c.in_ok-south.ensures c.in_ok-east.ensures c.in_err-west.ensures)

pub returns-in_err-up : goal.returns-in_err-up
unfolding room
returns-in_err-up c =
    let p = err_from_is_err_and c.from_residual-in_err-up.result c.from_residual-in_err-up.ensures.1 in
    rw (p.1, p.2) (stops_fifth chain c.args.scan.now c.in_err-up.field-0.0 c.in_ok-north.ensures c.in_ok-south.ensures c.in_ok-east.ensures c.in_ok-west.ensures c.in_err-up.ensures)

pub returns-in_err-down : goal.returns-in_err-down
unfolding room
returns-in_err-down c =
    let p = err_from_is_err_and c.from_residual-in_err-down.result c.from_residual-in_err-down.ensures.1 in
    rw (p.1, p.2) (stops_sixth chain c.args.scan.now c.in_err-down.field-0.0 c.in_ok-north.ensures c.in_ok-south.ensures c.in_ok-east.ensures c.in_ok-west.ensures c.in_ok-up.ensures c.in_err-down.ensures)

pub returns-in_err-text : goal.returns-in_err-text
unfolding room
returns-in_err-text c =
    let p = err_from_is_err_and c.from_residual-in_err-text.result c.from_residual-in_err-text.ensures.1 in
    rw (p.1, p.2) (stops_seventh chain c.args.scan.now c.in_err-text.field-0.0 c.in_ok-north.ensures c.in_ok-south.ensures c.in_ok-east.ensures c.in_ok-west.ensures c.in_ok-up.ensures c.in_ok-down.ensures c.in_err-text.ensures)
