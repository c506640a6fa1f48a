use Rattle.inform_simplify.proofs.laws.shortened_is_simpler.Goals as goal

-- src/laws.rt
pub returns : goal.returns
returns c = λ width old new accepted shortens.
    let sound = c.shortened_stays_sound.ensures width old new shortens in record {
      accepted = sound.accepted accepted;
      formed = sound.formed;
      directives = sound.directives;
      reduced = c.shortened_has_no_redex.ensures width old new shortens;
      runs = c.runs_shorter.ensures width old new shortens;
    }
