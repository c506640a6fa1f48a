use Rattle.std.proofs.Common.{◌∙◌, List, ℕ, ap, sym, map, string_bytes}
use Rattle.std.specs.Prelude.{option_map}
use Rattle.scott_requests.specs.Parts.{file_name}
use Rattle.scott_requests.specs.Settings.{Settings, no_settings, settings_from}
use Rattle.scott_requests.specs.Request.{file_and_settings}
use Rattle.scott_requests.specs.Views.{settings_of}
use Rattle.scott_requests.proofs.Pairs.{zipped}
use Rattle.scott_requests.proofs.requests.file_and_settings.Goals as goal

pub returns : goal.returns
returns c =
    ap (option_map {U = List ℕ × Settings} (λ p. (p.0.now, settings_of p.1))) c.zip.ensures
    ∙ zipped {X = List ℕ × Settings} settings_of (λ name settings.
    (name, settings)) c.file_name.result c.settings_in.result
    (file_name (string_bytes c.in_ok-file.file.now)) (settings_from c.args.kinds no_settings
    (map string_bytes c.in_ok-file.rest.now))
    (rw c.as_str.ensures.value at c.file_name.ensures) c.settings_in.ensures
    ∙ ap (file_and_settings c.args.kinds) (sym (ap (map string_bytes) c.in_ok-file.ensures.cases.0))
