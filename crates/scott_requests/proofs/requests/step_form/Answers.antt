use Rattle.std.proofs.Common.{true, IfSome, Option, List, ℕ, ap, sym, subst, map, string_bytes}
use Rattle.scott_requests.specs.Settings.{AreSteps, Settings, SettingsFit}
use Rattle.scott_requests.proofs.Fitting.{file-fits, given-steps}
use Rattle.scott_requests.specs.Views.{settings_of}
use Rattle.scott_requests.proofs.requests.step_form.Goals as goal

pub returns-clause-sized : goal.returns-clause-sized
returns-clause-sized c =
    let fit = subst (λ (o : Option (List ℕ × Settings)). IfSome o (λ p. SettingsFit p.1))
    (sym (rw c.in_ok-program.was at c.file_and_settings.ensures))
    (file-fits (record c.run_kinds.result { pauses = true }) (map string_bytes c.args.words.now)) in (
      subst AreSteps (sym (ap (λ r. r.steps) c.run_of.ensures))
          (given-steps (settings_of c.in_ok-program.settings) fit.1),
      rw c.in_ok-pause.was at fit.0,
    )
