use Rattle.std.proofs.Common.{refl}
use Rattle.rand_pcg.specs.Lcg.{state_after}
use Rattle.adv_gen.specs.Picks.{generator_of, after, pick}
use Rattle.adv_gen.specs.Vocabulary.{noun}
use Rattle.adv_gen.specs.Items.{item_place}
use Rattle.adv_gen.proofs.laws.starts_as_worked_out.Goals as goal

pub returns : goal.returns
unfolding generator_of after pick state_after noun item_place
returns c = record { room = refl; item = refl; line = refl }
