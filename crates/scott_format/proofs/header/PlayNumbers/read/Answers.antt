use Rattle.std.proofs.Common.{◌≡◌, refl, ℕ, ℤ, to_z, of_z, w32, rules}
use Rattle.std.proofs.lemmas.Result.{err_from_is_err_and}
use Rattle.scott_format.specs.declared.faults.Field.TheVariants.{WordLength}
use Rattle.scott_format.specs.declared.header.PlayNumbers.{PlayNumbers}
use Rattle.scott_format.specs.Faults.{no_start}
use Rattle.scott_format.specs.Sections.{any_number, natural, limited, light_time, play_numbers}
use Rattle.scott_format.proofs.OneByOne.{Eight, nothing, eight_read, stops_first, stops_second, stops_third, stops_fourth, stops_fifth}
use Rattle.scott_format.proofs.header.PlayNumbers.read.Goals as goal

abbrev chain : ℕ → Eight ℤ ℕ ℤ ℕ ℤ (Unit {0}) (Unit {0}) (Unit {0}) PlayNumbers
chain rooms = record {
  first = any_number;
  second = natural 0 rooms no_start;
  third = any_number;
  fourth = limited WordLength 1 20;
  fifth = light_time;
  sixth = nothing;
  seventh = nothing;
  eighth = nothing;
  made = λ carry start treasures length light _ _ _. record {
    carry = carry;
    start = start;
    treasures = treasures;
    length = length;
    light = light;
  };
}

pub returns : goal.returns
unfolding play_numbers
returns c =
    let carry : to_z w32 (of_z w32 c.in_ok-carry.carry) ≡ c.in_ok-carry.carry = search rules in
    let treasures : to_z w32 (of_z w32 c.in_ok-treasures.treasures) ≡ c.in_ok-treasures.treasures = search rules in
    let light : to_z w32 (of_z w32 c.in_ok-light.light) ≡ c.in_ok-light.light = search rules in
    rw (carry, treasures, light)
    (eight_read (chain c.args.rooms) c.args.scan.now c.in_ok-carry.ensures c.in_ok-start.ensures
    c.in_ok-treasures.ensures c.in_ok-length.ensures c.in_ok-light.ensures refl refl refl)

pub returns-in_err-carry : goal.returns-in_err-carry
unfolding play_numbers
returns-in_err-carry c =
    let p = err_from_is_err_and c.from_residual.result c.from_residual.ensures.1 in
    rw (p.1, p.2) (stops_first (chain c.args.rooms) c.args.scan.now c.in_err-carry.field-0.0 c.in_err-carry.ensures)

pub returns-in_err-start : goal.returns-in_err-start
unfolding play_numbers
returns-in_err-start c =
    let p = err_from_is_err_and c.from_residual-in_err-start.result c.from_residual-in_err-start.ensures.1 in
    rw (p.1, p.2) (stops_second (chain c.args.rooms) c.args.scan.now c.in_err-start.field-0.0 c.in_ok-carry.ensures c.in_err-start.ensures)

pub returns-in_err-treasures : goal.returns-in_err-treasures
unfolding play_numbers
returns-in_err-treasures c =
    let p = err_from_is_err_and c.from_residual-in_err-treasures.result c.from_residual-in_err-treasures.ensures.1 in
    rw (p.1, p.2) (stops_third (chain c.args.rooms) c.args.scan.now c.in_err-treasures.field-0.0 c.in_ok-carry.ensures c.in_ok-start.ensures c.in_err-treasures.ensures)

pub returns-in_err-length : goal.returns-in_err-length
unfolding play_numbers
returns-in_err-length c =
    let p = err_from_is_err_and c.from_residual-in_err-length.result c.from_residual-in_err-length.ensures.1 in
    rw (p.1, p.2) (stops_fourth (chain c.args.rooms) c.args.scan.now c.in_err-length.field-0.0 c.in_ok-carry.ensures c.in_ok-start.ensures c.in_ok-treasures.ensures c.in_err-length.ensures)

pub returns-in_err-light : goal.returns-in_err-light
unfolding play_numbers
returns-in_err-light c =
    let p = err_from_is_err_and c.from_residual-in_err-light.result c.from_residual-in_err-light.ensures.1 in
    rw (p.1, p.2) (stops_fifth (chain c.args.rooms) c.args.scan.now c.in_err-light.field-0.0 c.in_ok-carry.ensures c.in_ok-start.ensures c.in_ok-treasures.ensures c.in_ok-length.ensures c.in_err-light.ensures)
