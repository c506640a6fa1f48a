-- What is computed of the routines: they are well formed.
use Rattle.std.proofs.Common.{◌≡◌, arith, ℕ, Bool, true, false, length, refl, [], ◌∷◌, map}
use Rattle.inform_tree.specs.Formed.{is_well_formed}
use Rattle.inform_tree.specs.Words.{is_number}
use Rattle.inform_codes.specs.Grown.{body_of}
use Rattle.inform_codes.specs.Routines.{rows_directives}
use Rattle.scott_types.specs.Phrase.{text_of, second_person}
use Rattle.trans_specs.proofs.Lengths.{few}
use Rattle.trans_commands.specs.declared.emitting.TheConstants.{ROUTINES}
use Rattle.trans_commands.specs.Names.{command_names}
use Rattle.trans_commands.specs.Laws.{CommandsFormed}

formed : (you counted vanish : Bool) (items : ℕ) → is_number items ≡ true
    → is_well_formed (rows_directives
    (command_names (record { you = you; counted = counted; vanish = vanish })) (items ∷ [])
    (map (λ row. (row.0, row.1.now, row.2.now)) ROUTINES)) ≡ true
unfolding body_of text_of second_person
formed true counted vanish items small = rw small refl
formed false counted vanish items small = rw small refl

pub commands_formed : CommandsFormed
commands_formed style db limits =
    formed style.you style.counted style.vanish (length db.items)
    (grind (arith, few 255 db.items limits.sizes.items))
