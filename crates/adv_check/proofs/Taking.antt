-- The parameters that are left for an opcode.
use Rattle.std.proofs.Common.{◌≡◌, ◌∙◌, ℕ, zero, suc, ◌<◌, List, [], ◌∷◌, length, take, drop, get_or, None, refl, ap, sym, arith}
use Rattle.std.proofs.lemmas.List.{drop-drop}
use Rattle.std.proofs.lemmas.List.Sums.{sum_by-cons}
use Rattle.scott_types.specs.Database.{Database}
use Rattle.scott_types.specs.Opcode.{opcode_of, uses}
use Rattle.adv_check.specs.Faults.{opcode_fault, opcode_faults}
use Rattle.adv_check.specs.Laws.{taken_by}

pub get_or-opcode_faults : (db : Database) (numbers left : List ℕ) (j : ℕ) → j < length numbers
    → get_or (opcode_faults db numbers left) j None ≡ opcode_fault db (get_or numbers j 0) (drop (taken_by (take j numbers)) left)
get_or-opcode_faults db [] left j h = absurd (omega arith)
get_or-opcode_faults db (n ∷ numbers) left zero h = refl
get_or-opcode_faults db (n ∷ numbers) left (suc j) h =
    let taken = uses (opcode_of n) in
    let others = taken_by (take j numbers) in
    get_or-opcode_faults db numbers (drop taken left) j (omega arith)
    ∙ ap (opcode_fault db (get_or numbers j 0)) (drop-drop others taken left)
    ∙ ap (λ count. opcode_fault db (get_or numbers j 0) (drop count left)) (sym (sum_by-cons (λ m. uses (opcode_of m)) n (take j numbers)))
