-- The slots of names.
use Rattle.std.proofs.Common.{◌≡◌, ◌∙◌, ℕ, List, Some, sym, ap, slice_set}
use Rattle.std.specs.List.{All}
use Rattle.std.proofs.lemmas.List.Elements.{All-set}
use Rattle.inform_names.specs.declared.meanings.Meaning.{Meaning}
use Rattle.inform_names.specs.Meanings.{Known}
use Rattle.inform_tree.specs.Names.{name_number}
use Rattle.inform_tree.proofs.Numbered.{by_number}
use Rattle.inform_worlds.specs.declared.slots.Slot.{Slot}
use Rattle.inform_worlds.specs.Slots.{Tells}

-- one more slot, of a name that means this
pub told : (known : Known) (slots : List Slot) (i : ℕ) (name : List ℕ) (number : ℕ) (m : Meaning)
    → number ≡ name_number name → known name ≡ Some m → All (Tells known) slots
    → All (Tells known) (slice_set slots i (record { number = number; meaning = m }))
told known slots i name number m numbered is all =
    All-set (Tells known) slots i (record { number = number; meaning = m })
    (λ other same some. ap known (by_number other name (same ∙ numbered) (λ none. some (sym same ∙ none))) ∙ is) all
