-- The parts of an action, one after another.
use Rattle.std.proofs.Common.{◌≡◌, ℕ, ◌+◌, ◌*◌, List, refl, ap}
use Rattle.scott_types.specs.declared.parts.Action.{Action}
use Rattle.rand_pcg.specs.Lcg.{Lcg}
use Rattle.adv_gen.specs.declared.actions.Kind.{Kind}
use Rattle.adv_gen.specs.Picks.{after, pick}
use Rattle.adv_gen.specs.Actions.{condition, parameter, opcode, conditions, vocabulary, vocabulary_picks, opcode_pairs, action_of, made_opcodes}
use Rattle.adv_gen.proofs.Picking.{pick-after, pick-at}
use Rattle.std.proofs.Common.{get_or}

pub condition-made : (g h : Lcg) (argument code : ℕ) → h ≡ after 1 g → argument ≡ pick g 0 16
    → code ≡ pick h 0 20 → 20 * argument + code ≡ condition g 0
unfolding condition
condition-made g h argument code first is next = rw (is, next, pick-at 1 20 g h first) refl

pub condition-at : (a : ℕ) (g h : Lcg) → h ≡ after a g → condition h 0 ≡ condition g a
unfolding condition
condition-at a g h e = rw (pick-at a 16 g h e, pick-after a 1 20 g h e) refl

pub parameter-at : (a : ℕ) (g h : Lcg) → h ≡ after a g → parameter h 0 ≡ parameter g a
unfolding parameter
parameter-at a g h e = rw (pick-at a 16 g h e) refl

pub opcode-at : (a : ℕ) (g h : Lcg) → h ≡ after a g → opcode h 0 ≡ opcode g a
unfolding opcode
opcode-at a g h e = ap (λ (k : ℕ). get_or made_opcodes k 0) (pick-at a 16 g h e)

pub action-made : (kind : Kind) (size : ℕ) (g h k : Lcg) (words : ℕ) (conds pairs : List ℕ)
    → h ≡ after (vocabulary_picks kind) g → k ≡ after (vocabulary_picks kind + 7) g
    → words ≡ vocabulary kind size g → conds ≡ conditions h → pairs ≡ opcode_pairs kind k
    → (let made : Action = record { vocab = words; conds = conds; pairs = pairs } in
    made) ≡ action_of kind size g
action-made kind size g h k words conds pairs first second is_words is_conds is_pairs =
    rw (is_words, is_conds, is_pairs, first, second) refl
