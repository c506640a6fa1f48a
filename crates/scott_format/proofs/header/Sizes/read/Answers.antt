use Rattle.std.proofs.Common.{◌≡◌, refl, ℕ, ℤ, to_z, of_z, w32, rules}
use Rattle.std.proofs.lemmas.Result.{err_from_is_err_and}
use Rattle.scott_format.specs.declared.faults.Field.TheVariants.{HighestItem, HighestAction, HighestWord, HighestRoom}
use Rattle.scott_format.specs.declared.header.Sizes.{Sizes}
use Rattle.scott_format.specs.Sections.{any_number, limited, sizes}
use Rattle.scott_format.proofs.OneByOne.{Eight, nothing, eight_read, stops_first, stops_second, stops_third, stops_fourth, stops_fifth}
use Rattle.scott_format.proofs.header.Sizes.read.Goals as goal

abbrev chain : Eight ℤ ℕ ℕ ℕ ℕ (Unit {0}) (Unit {0}) (Unit {0}) Sizes
chain = record {
  first = any_number;
  second = limited HighestItem 0 254;
  third = limited HighestAction 0 4999;
  fourth = limited HighestWord 0 999;
  fifth = limited HighestRoom 0 254;
  sixth = nothing;
  seventh = nothing;
  eighth = nothing;
  made = λ unused items actions words rooms _ _ _. record {
    unused = unused;
    items = items;
    actions = actions;
    words = words;
    rooms = rooms;
  };
}

pub returns : goal.returns
unfolding sizes
returns c =
    let unused : to_z w32 (of_z w32 c.in_ok-unused.unused) ≡ c.in_ok-unused.unused = search rules in
    rw unused
    (eight_read chain c.args.scan.now c.in_ok-unused.ensures c.in_ok-items.ensures
    c.in_ok-actions.ensures c.in_ok-words.ensures c.in_ok-rooms.ensures refl refl refl)

pub returns-in_err-unused : goal.returns-in_err-unused
unfolding sizes
returns-in_err-unused c =
    let p = err_from_is_err_and c.from_residual.result c.from_residual.ensures.1 in
    rw (p.1, p.2) (stops_first chain c.args.scan.now c.in_err-unused.field-0.0 c.in_err-unused.ensures)

pub returns-in_err-items : goal.returns-in_err-items
unfolding sizes
returns-in_err-items c =
    let p = err_from_is_err_and c.from_residual-in_err-items.result c.from_residual-in_err-items.ensures.1 in
    rw (p.1, p.2) (stops_second chain c.args.scan.now c.in_err-items.field-0.0 c.in_ok-unused.ensures c.in_err-items.ensures)

pub returns-in_err-actions : goal.returns-in_err-actions
unfolding sizes
returns-in_err-actions c =
    let p = err_from_is_err_and c.from_residual-in_err-actions.result c.from_residual-in_err-actions.ensures.1 in
    rw (p.1, p.2) (stops_third chain c.args.scan.now c.in_err-actions.field-0.0 c.in_ok-unused.ensures c.in_ok-items.ensures c.in_err-actions.ensures)

pub returns-in_err-words : goal.returns-in_err-words
unfolding sizes
returns-in_err-words c =
    let p = err_from_is_err_and c.from_residual-in_err-words.result c.from_residual-in_err-words.ensures.1 in
    rw (p.1, p.2) (stops_fourth chain c.args.scan.now c.in_err-words.field-0.0 c.in_ok-unused.ensures c.in_ok-items.ensures c.in_ok-actions.ensures c.in_err-words.ensures)

pub returns-in_err-rooms : goal.returns-in_err-rooms
unfolding sizes
returns-in_err-rooms c =
    let p = err_from_is_err_and c.from_residual-in_err-rooms.result c.from_residual-in_err-rooms.ensures.1 in
    rw (p.1, p.2) (stops_fifth chain c.args.scan.now c.in_err-rooms.field-0.0 c.in_ok-unused.ensures c.in_ok-items.ensures c.in_ok-actions.ensures c.in_ok-words.ensures c.in_err-rooms.ensures)
