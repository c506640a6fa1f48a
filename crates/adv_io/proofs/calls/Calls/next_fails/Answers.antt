use Rattle.std.proofs.Common.{◌∙◌, ◌==◌, ap}
use Rattle.std.specs.List.{list_any}
use Rattle.adv_io.specs.CallCount.{fails_next}
use Rattle.adv_io.proofs.calls.Calls.next_fails.Goals as goal

pub returns-else-fails-clause-answer : goal.returns-else-fails-clause-answer
returns-else-fails-clause-answer c =
    c.contains-fails.ensures.value
    ∙ ap (list_any (λ number. number == c.saturating_add-self-inside.result)) c.deref.ensures.value
    ∙ ap (λ made. list_any (λ number. number == made) c.self.inside.failing.items) c.saturating_add-self-inside.ensures
    ∙ ap fails_next c.self.view_is
