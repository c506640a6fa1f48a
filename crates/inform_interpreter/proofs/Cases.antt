-- The cases of a `switch`, one after the other.
use Rattle.std.proofs.Common.{◌≡◌, ◌∙◌, ◌+◌, ◌<◌, ℕ, ℤ, true, false, List, ◌∷◌, length, drop, get_or, sym, ap}
use Rattle.std.proofs.lemmas.List.{drop_more}
use Rattle.inform_tree.specs.declared.statements.Case.{Case}
use Rattle.inform_tree.specs.declared.statements.Stmt.TheFolds.{fold_out-Case}
use Rattle.inform_tree.specs.Statements.{Choice, Statement, Statements, Cases, MoreCases, statement_step, case_step, statements_of, cases_of}
use Rattle.inform_meaning.specs.Worlds.{Program}
use Rattle.inform_meaning.specs.Frames.{Meaning, when}
use Rattle.inform_meaning.specs.Meaning.{Calls}
use Rattle.inform_meaning.specs.Statements.{fits_any, exec_all, exec_cases}

-- the cases from one on are that one and those after it
pub cases-more : (xs : List Case) (k : ℕ) (x : Case) → k < length xs → x ≡ get_or xs k x
    → cases_of (drop k xs) ≡ MoreCases x.choices.items (statements_of x.body.items) (cases_of (drop (k + 1) xs))
cases-more xs k x few is =
    ap cases_of (drop_more xs k x few ∙ ap (λ y. y ∷ drop (k + 1) xs) (sym is))
    ∙ ap (λ y. MoreCases y.0 y.1 (cases_of (drop (k + 1) xs)))
    (fold_out-Case Statement (List Choice × Statements) statement_step case_step x)

module _ (p : Program) (call : Calls) (a : ℤ) (choices : List Choice) (body : Statements) (xs : Cases)
    (rest : Meaning) where
  -- the first one fits
  pub first-fits : fits_any p a choices ≡ true
      → exec_cases p call a (MoreCases choices body xs) rest ≡ exec_all p call body
  unfolding when
  first-fits is = ap (λ b. when b (exec_all p call body) (exec_cases p call a xs rest)) is

  -- it doesn't
  pub first-passes : fits_any p a choices ≡ false
      → exec_cases p call a (MoreCases choices body xs) rest ≡ exec_cases p call a xs rest
  unfolding when
  first-passes is = ap (λ b. when b (exec_all p call body) (exec_cases p call a xs rest)) is
