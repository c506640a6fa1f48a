use Rattle.std.proofs.Common.{◌≡◌, ℕ, MatchResult, subst}
use Rattle.scott_tool.specs.Refusal.{unfit, unfit_by}
use Rattle.scott_tool.specs.Views.{number_of}
use Rattle.scott_tool.proofs.Obeying.{refuses-said}
use Rattle.scott_tool.proofs.refusals.Refusal.end.Goals as goal

pub returns-in-Unfit : goal.returns-in-Unfit
returns-in-Unfit g c =
    let ended = number_of c.concluded-in-Unfit.result in
    rw c.in-Unfit.is
    (refuses-said (g.C.Console.seen c.args.console.now) (g.C.Console.seen c.say.new.console)
    (unfit (unfit_by c.in-Unfit.name.now c.in-Unfit.fault)) c.say.result ended c.say.ensures
    (subst (λ (n : ℕ). MatchResult c.say.result (λ _. ended ≡ n) (λ _. ended ≡ 3)) c.status.ensures
    c.concluded-in-Unfit.ensures))
