use Rattle.std.proofs.Common.{◌≡◌, ◌∙◌, IfOk, map, length, ap, subst, ℕ, List, [], ◌∷◌}
use Rattle.inform_tree.specs.Programs.{directive_of}
use Rattle.inform_codes.specs.Routines.{rows_directives}
use Rattle.trans_commands.specs.declared.emitting.TheConstants.{ROUTINES}
use Rattle.trans_commands.proofs.emitting.commands.Goals as goal

-- the names and the count are those of the definition
pub returns : goal.returns
returns c = subst (λ (names : List (List ℕ)). IfOk c.routines.result (λ directives.
    map directive_of directives.items ≡ rows_directives names (length c.args.db.now.items ∷ [])
    (map (λ row. (row.0, row.1.now, row.2.now)) ROUTINES)))
    (ap (map (λ name. name.now)) c.as_slice.ensures.value ∙ c.in_ok-names.ensures)
    (subst (λ (count : ℕ). IfOk c.routines.result (λ directives.
    map directive_of directives.items
    ≡ rows_directives (map (λ name. name.now) c.as_slice.result.now) (count ∷ [])
    (map (λ row. (row.0, row.1.now, row.2.now)) ROUTINES)))
    (ap length c.items.ensures.value) c.routines.ensures)
