use Rattle.std.proofs.Common.{◌≡◌, ◌∙◌, ◌+◌, ◌*◌, ◌++◌, ℕ, List, [], ◌∷◌, ap, sym, refl, append_assoc, append-nil}
use Rattle.std.proofs.lemmas.Result.{IfOk-weaker}
use Rattle.adv_gen.specs.Vocabulary.{verb, thing_noun}
use Rattle.adv_gen.proofs.Picking.{taken, none_taken, pick-at}
use Rattle.adv_gen.proofs.typed_lines.Form.command.Goals as goal

spaced : (verb noun : List ℕ) → verb ++ (32 ∷ (noun ++ [])) ≡ (verb ++ 32 ∷ []) ++ noun
spaced verb noun = ap (λ (rest : List ℕ). verb ++ (32 ∷ rest)) (append-nil noun)
    ∙ sym (append_assoc verb (32 ∷ []) noun)

pub returns-in-DropAll-clause-next : goal.returns-in-DropAll-clause-next
returns-in-DropAll-clause-next c = rw c.in-DropAll.is (none_taken c.args.picks.now)

pub returns-in-VerbAndItem-clause-made : goal.returns-in-VerbAndItem-clause-made
returns-in-VerbAndItem-clause-made c =
    let g = c.args.picks.now in
    let verb_is = c.plain_verb-verb.ensures.value
    ∙ ap (λ (n : ℕ). verb (3 + n)) c.pick-in-VerbAndItem.ensures.value in
    let noun_is = c.thing_noun-noun.ensures.value ∙ ap (λ (n : ℕ). thing_noun c.args.size n)
    (c.pick-in-VerbAndItem-2.ensures.value
    ∙ pick-at 1 (2 * c.args.size) g _ c.pick-in-VerbAndItem.ensures.next) in
    rw c.in-VerbAndItem.is
    (IfOk-weaker c.text-in-VerbAndItem.result _ _ (λ text e. e ∙ spaced _ _
    ∙ rw (verb_is, noun_is) refl) c.text-in-VerbAndItem.ensures)

pub returns-in-VerbAndItem-clause-next : goal.returns-in-VerbAndItem-clause-next
returns-in-VerbAndItem-clause-next c =
    rw c.in-VerbAndItem.is
    (taken 1 1 c.args.picks.now _ _ c.pick-in-VerbAndItem.ensures.next
    c.pick-in-VerbAndItem-2.ensures.next)
