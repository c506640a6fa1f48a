use Rattle.std.proofs.Common.{◌∙◌, List, ℕ, ap, sym, map, string_bytes}
use Rattle.std.specs.Prelude.{option_map}
use Rattle.scott_requests.specs.Parts.{file_name}
use Rattle.scott_requests.specs.Settings.{Settings}
use Rattle.scott_requests.specs.Request.{files_and_settings, three_and_settings}
use Rattle.scott_requests.specs.Views.{settings_of}
use Rattle.scott_requests.proofs.Pairs.{zipped}
use Rattle.scott_requests.proofs.requests.three_and_settings.Goals as goal

pub returns : goal.returns
returns c =
    ap (option_map {U = List ℕ × List ℕ × List ℕ × Settings} (λ p.
    (p.0.now, p.1.0.now, p.1.1.0.now, settings_of p.1.1.1))) c.zip.ensures
    ∙ zipped {C = List ℕ × List ℕ × Settings} {X = List ℕ × List ℕ × List ℕ × Settings} (λ p.
    (p.0.now, p.1.0.now, settings_of p.1.1)) (λ name p.
    (name, p.0, p.1, p.2)) c.file_name.result c.files_and_settings.result
    (file_name (string_bytes c.in_ok-file.file.now)) (files_and_settings c.args.kinds
    (map string_bytes c.in_ok-file.rest.now))
    (rw c.as_str.ensures.value at c.file_name.ensures) c.files_and_settings.ensures
    ∙ ap (three_and_settings c.args.kinds) (sym (ap
    (map string_bytes) c.in_ok-file.ensures.cases.0))
