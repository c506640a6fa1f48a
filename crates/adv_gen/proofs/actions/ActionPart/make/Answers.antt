use Rattle.std.proofs.Common.{◌≡◌, ◌∙◌, ◌+◌, ℕ, ap, arith}
use Rattle.adv_gen.specs.declared.actions.Kind.{Kind}
use Rattle.adv_gen.specs.Picks.{after}
use Rattle.adv_gen.specs.Actions.{vocabulary_picks, action_of}
use Rattle.adv_gen.proofs.Picking.{taken}
use Rattle.adv_gen.proofs.ActionParts.{action-made}
use Rattle.adv_gen.proofs.actions.ActionPart.make.Goals as goal

pub returns-clause-made : goal.returns-clause-made
returns-clause-made c =
    let g = c.args.picks.now in
    let kind = c.of-kind.result in
    action-made kind c.args.size g c.vocabulary-vocab.new.picks c.conditions-conds.new.picks _ _ _
    c.vocabulary-vocab.ensures.next
    (taken (vocabulary_picks kind) 7 g _ _ c.vocabulary-vocab.ensures.next
    c.conditions-conds.ensures.next)
    c.vocabulary-vocab.ensures.made c.conditions-conds.ensures.made
    c.opcode_pairs-pairs.ensures.made
    ∙ ap (λ (kind : Kind). action_of kind c.args.size g) c.of-kind.ensures

pub returns-clause-next : goal.returns-clause-next
returns-clause-next c =
    let g = c.args.picks.now in
    let kind = c.of-kind.result in
    let ten : vocabulary_picks kind + 7 + 3 ≡ vocabulary_picks kind + 10 = omega arith in
    taken (vocabulary_picks kind + 7) 3 g _ _
    (taken (vocabulary_picks kind) 7 g _ _ c.vocabulary-vocab.ensures.next
    c.conditions-conds.ensures.next)
    c.opcode_pairs-pairs.ensures.next
    ∙ ap (λ (n : ℕ). after n g) ten
    ∙ ap (λ (kind : Kind). after (vocabulary_picks kind + 10) g) c.of-kind.ensures
