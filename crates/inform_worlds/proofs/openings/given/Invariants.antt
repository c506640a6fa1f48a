use Rattle.std.proofs.Common.{◌≡◌, map, pos, take, unwrap_or}
use Rattle.inform_names.specs.Meanings.{constant_word}
use Rattle.inform_names.specs.Views.{names_of}
use Rattle.inform_meaning.specs.Worlds.{kept}
use Rattle.inform_worlds.proofs.openings.given.Given as goal

abbrev pub invariant-loop-constant : goal.invariant-loop-constant
invariant-loop-constant l =
    l.entries.items ≡ map (λ x. kept l.words (unwrap_or (constant_word l.names.accepted.now.width (names_of l.names.accepted.now) x) (pos 0))) (take l.constant-index l.constants)
