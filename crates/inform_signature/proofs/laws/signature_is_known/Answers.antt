use Rattle.inform_signature.proofs.Sound.{signature_is_known}
use Rattle.inform_signature.proofs.laws.signature_is_known.Goals as goal

-- src/laws.rt
pub returns : goal.returns
returns c = signature_is_known c.meanings_are_first.ensures c.meanings_are_of_directives.ensures
