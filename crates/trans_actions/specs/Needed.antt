-- The names that the routines of lines take for granted, besides those of messages.
use Rattle.std.specs.Prelude.{true, false, List, [], ◌∷◌, codes}
use Rattle.inform_names.specs.declared.meanings.Kind.TheVariants.{Global, Array, Routine}
use Rattle.inform_signature.specs.Signatures.{Sign}

-- arrays and globals, and the routines of the texts and the items with their locals
abbrev pub needed : List Sign
needed = (codes "item", Array true)
    ∷ (codes "start", Array true)
    ∷ (codes "flag", Array true)
    ∷ (codes "ctr", Array true)
    ∷ (codes "rsave", Array true)
    ∷ (codes "buf", Array false)
    ∷ (codes "here", Global)
    ∷ (codes "saved", Global)
    ∷ (codes "cur", Global)
    ∷ (codes "light", Global)
    ∷ (codes "redraw", Global)
    ∷ (codes "over", Global)
    ∷ (codes "wb", Global)
    ∷ (codes "nb", Global)
    ∷ (codes "place", Routine 1)
    ∷ (codes "near", Routine 1)
    ∷ (codes "carried", Routine 0)
    ∷ (codes "full", Routine 0)
    ∷ (codes "look", Routine 0)
    ∷ (codes "inventory", Routine 0)
    ∷ (codes "score", Routine 1)
    ∷ []
