use Rattle.std.proofs.Common.{◌∙◌, ◌+◌, ℕ, min, ap, refl}
use Rattle.adv_gen.proofs.Picking.{taken, none_taken, pick-at}
use Rattle.adv_gen.proofs.actions.Kind.vocabulary.Goals as goal

pub returns-in-ForNoun-clause-made : goal.returns-in-ForNoun-clause-made
returns-in-ForNoun-clause-made c =
    let g = c.args.picks.now in
    let noun = c.pick-noun.ensures.value
    ∙ pick-at 1 (c.args.size + 30) g _ c.pick-verb.ensures.next in
    let first = c.from-in-ForNoun.ensures ∙ ap (λ (n : ℕ). 1 + n) c.pick-verb.ensures.value in
    let second = c.from-in-ForNoun-2.ensures ∙ c.min.ensures
    ∙ ap (λ (n : ℕ). min (7 + n) 149) noun in
    rw c.in-ForNoun.is (rw (first, second) refl)

pub returns-in-ForNoun-clause-next : goal.returns-in-ForNoun-clause-next
returns-in-ForNoun-clause-next c =
    rw c.in-ForNoun.is (taken 1 1 c.args.picks.now _ _ c.pick-verb.ensures.next
    c.pick-noun.ensures.next)

pub returns-in-Tail-clause-next : goal.returns-in-Tail-clause-next
returns-in-Tail-clause-next c = rw c.in-Tail.is (none_taken c.args.picks.now)
