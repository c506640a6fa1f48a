use Rattle.std.proofs.Common.{◌≡◌, ◌∙◌, false, refl, sym}
use Rattle.adv_io.proofs.Sayings.{nothing_said}
use Rattle.scott_turn.specs.Rounds.{is_prompt}
use Rattle.scott_turn.proofs.feeding.feed_line.Goals as goal

pub returns-else-is_prompt : goal.returns-else-is_prompt
returns-else-is_prompt g c =
    let dropped : is_prompt c.args.position ≡ false = sym c.is_prompt.ensures ∙ c.if-is_prompt.false in
    record {
      does = rw dropped (record { spoken = nothing_said _ _; tried = refl; left = refl });
      taken = refl;
      fits = c.requires;
    }
