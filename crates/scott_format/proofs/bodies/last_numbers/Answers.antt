use Rattle.std.proofs.Common.{◌≡◌, refl, ℤ, to_z, of_z, w32, rules}
use Rattle.std.proofs.lemmas.Result.{err_from_is_err_and}
use Rattle.scott_types.specs.declared.parts.Trailer.{Trailer}
use Rattle.scott_format.specs.Sections.{any_number, third_number, trailer}
use Rattle.scott_format.proofs.OneByOne.{Eight, three, eight_read, stops_third}
use Rattle.scott_format.proofs.bodies.last_numbers.Goals as goal

abbrev chain : Eight ℤ ℤ ℤ (Unit {0}) (Unit {0}) (Unit {0}) (Unit {0}) (Unit {0}) Trailer
chain = three any_number any_number third_number (λ version adventure third. record {
  version = version;
  adventure = adventure;
  third = third;
})

pub returns-in_err-third : goal.returns-in_err-third
unfolding trailer
returns-in_err-third c =
    let p = err_from_is_err_and c.from_residual-in_err-third.result c.from_residual-in_err-third.ensures.1 in
    rw (p.1, p.2)
    (stops_third chain c.args.scan.now c.in_err-third.field-0.0 c.in_ok-version.ensures
    c.in_ok-adventure.ensures c.in_err-third.ensures)

pub returns : goal.returns
unfolding trailer
returns c =
    let version : to_z w32 (of_z w32 c.in_ok-version.version) ≡ c.in_ok-version.version = search rules in
    let adventure : to_z w32 (of_z w32 c.in_ok-adventure.adventure) ≡ c.in_ok-adventure.adventure = search rules in
    let third : to_z w32 (of_z w32 c.in_ok-third.third) ≡ c.in_ok-third.third = search rules in
    rw (version, adventure, third)
    (eight_read chain c.args.scan.now c.in_ok-version.ensures c.in_ok-adventure.ensures
    c.in_ok-third.ensures refl refl refl refl refl)
