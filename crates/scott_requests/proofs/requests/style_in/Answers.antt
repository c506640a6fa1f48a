use Rattle.std.proofs.Common.{◌∙◌, ap}
use Rattle.std.specs.Prelude.{unwrap_or}
use Rattle.scott_requests.proofs.requests.style_in.Goals as goal

pub returns : goal.returns
returns c = c.unwrap_or.ensures ∙ ap (unwrap_or c.args.settings.style) c.plain.ensures
