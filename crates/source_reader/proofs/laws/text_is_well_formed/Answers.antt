use Rattle.adv_text.specs.Reading.{input}
use Rattle.source_reader.specs.Text.{source}
use Rattle.source_reader.specs.WellFormed.{WellFormed}
use Rattle.source_reader.proofs.Always.{always}
use Rattle.source_reader.proofs.Kept.{source_fits}
use Rattle.source_reader.proofs.laws.text_is_well_formed.Goals as goal

pub returns : goal.returns
returns c bytes tree all h =
    always (record {
      string_is_text = c.string_is_text.ensures;
      number_leaves_bytes = c.number_leaves_bytes.ensures;
      string_leaves_bytes = c.string_leaves_bytes.ensures;
    }) WellFormed source tree (input 0 bytes) h.0 source_fits h.1 all
