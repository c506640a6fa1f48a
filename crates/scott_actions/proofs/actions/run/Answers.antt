use Rattle.std.proofs.Common.{refl}
use Rattle.adv_io.proofs.Along.{as_ok}
use Rattle.scott_actions.proofs.actions.run.Goals as goal

pub returns : goal.returns
returns g c = record {
  spoken = as_ok _ (rw (c.opcode_numbers-numbers.ensures, c.as_slice.ensures.value, c.parameters-parameters.ensures) at c.in_ok-over.ensures.spoken);
  state = rw (c.opcode_numbers-numbers.ensures, c.as_slice.ensures.value, c.parameters-parameters.ensures) at c.in_ok-over.ensures.state;
  ran = rw (c.ran_of.ensures, c.in_ok-over.ensures.over, c.goes_on.ensures, c.opcode_numbers-numbers.ensures, c.as_slice.ensures.value, c.parameters-parameters.ensures) refl;
  fits = c.run_opcodes.ensures.fits;
}
