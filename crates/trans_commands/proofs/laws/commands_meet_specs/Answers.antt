use Rattle.trans_commands.proofs.Commanded.{commands_meet_specs as law}
use Rattle.trans_commands.proofs.laws.commands_meet_specs.Goals as goal

pub returns : goal.returns
returns c = law (record {
  walk_fits = c.walk_fits.ensures;
  transfer_fits = c.transfer_fits.ensures;
  least_match = c.word_names_least_match.ensures;
  globals_written = c.globals_written.ensures;
  entries_written = c.entries_written.ensures;
  exits_stand = c.exits_stand.ensures;
  classes_tell = c.classes_tell.ensures;
})
