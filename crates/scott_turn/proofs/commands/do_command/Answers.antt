use Rattle.scott_turn.proofs.commands.do_command.Goals as goal

pub returns-then-command-eq-GO : goal.returns-then-command-eq-GO
returns-then-command-eq-GO g c = record {
  does = rw c.if-command-eq-GO.true c.do_going.ensures.does;
  fits = c.do_going.ensures.fits;
}
