use Rattle.std.proofs.Common.{◌≡◌, ◌∙◌, IfOk, map, subst, ap}
use Rattle.inform_tree.specs.Programs.{directive_of}
use Rattle.inform_codes.specs.Routines.{Row, rows_directives}
use Rattle.trans_actions.specs.Names.{numbers}
use Rattle.trans_actions.specs.Helpers.{helper_rows}
use Rattle.trans_actions.proofs.table.helpers.Goals as goal

pub returns : goal.returns
returns c = subst (λ names. IfOk c.routines.result (λ ds. map directive_of ds.items
    ≡ rows_directives names (numbers c.args.db.now) (helper_rows c.args.db.now)))
    (ap (map (λ name. name.now)) c.deref.ensures.value ∙ c.in_ok-names.ensures)
    (subst (λ given. IfOk c.routines.result (λ ds. map directive_of ds.items
    ≡ rows_directives (map (λ name. name.now) c.deref.result.now) given
    (helper_rows c.args.db.now)))
    c.numbers.ensures
    (subst (λ rows. IfOk c.routines.result (λ ds. map directive_of ds.items
    ≡ rows_directives (map (λ name. name.now) c.deref.result.now) c.numbers.result rows))
    (ap (map {B = Row} (λ row. (row.0, row.1.now, row.2.now))) c.deref-2.ensures.value
    ∙ c.in_ok-rows.ensures)
    c.routines.ensures))
