use Rattle.std.proofs.Common.{◌≡◌, ◌++◌, map, drop}
use Rattle.trans_actions.specs.Helpers.{uses, used_rows}
use Rattle.trans_actions.proofs.table.used_rows.Given as goal

-- the routines so far, and those of the helpers to come, are all of them
abbrev pub invariant-loop-helper : goal.invariant-loop-helper
invariant-loop-helper l =
    used_rows (uses l.kind l.db) (map (λ h. (h.0.now, (h.1, h.2.now, h.3.now))) l.helpers)
    ≡ map (λ row. (row.0, row.1.now, row.2.now)) l.rows.items
    ++ used_rows (uses l.kind l.db)
    (map (λ h. (h.0.now, (h.1, h.2.now, h.3.now))) (drop l.helper-index l.helpers))
