use Rattle.std.proofs.Common.{ℕ, [], ◌∷◌}
use Rattle.std.proofs.lemmas.Result.{err_from_is_err_and}
use Rattle.scott_types.specs.declared.parts.Action.{Action}
use Rattle.scott_format.specs.Sections.{action_number, action}
use Rattle.scott_format.proofs.OneByOne.{Eight, eight_read, stops_first, stops_second, stops_third, stops_fourth, stops_fifth, stops_sixth, stops_seventh, stops_eighth}
use Rattle.scott_format.proofs.pieces.ActionPiece.read.Goals as goal

abbrev chain : ℕ → Eight ℕ ℕ ℕ ℕ ℕ ℕ ℕ ℕ Action
chain k = record {
  first = action_number k;
  second = action_number k;
  third = action_number k;
  fourth = action_number k;
  fifth = action_number k;
  sixth = action_number k;
  seventh = action_number k;
  eighth = action_number k;
  made = λ v a b c d e p q. record {
    vocab = v;
    conds = a ∷ b ∷ c ∷ d ∷ e ∷ [];
    pairs = p ∷ q ∷ [];
  };
}

pub returns : goal.returns
unfolding action
returns c =
    eight_read (chain c.args.k) c.args.scan.now c.in_ok-vocab.ensures c.in_ok-a.ensures
    c.in_ok-b.ensures c.in_ok-c.ensures c.in_ok-d.ensures c.in_ok-e.ensures c.in_ok-first.ensures
    c.in_ok-second.ensures

pub returns-in_err-vocab : goal.returns-in_err-vocab
unfolding action
returns-in_err-vocab c =
    let p = err_from_is_err_and c.from_residual.result c.from_residual.ensures.1 in
    rw (p.1, p.2)
    (stops_first (chain c.args.k) c.args.scan.now c.in_err-vocab.field-0.0 c.in_err-vocab.ensures)

pub returns-in_err-a : goal.returns-in_err-a
unfolding action
returns-in_err-a c =
    let p = err_from_is_err_and c.from_residual-in_err-a.result c.from_residual-in_err-a.ensures.1 in
    rw (p.1, p.2)
    (stops_second (chain c.args.k) c.args.scan.now c.in_err-a.field-0.0 c.in_ok-vocab.ensures c.in_err-a.ensures)

pub returns-in_err-b : goal.returns-in_err-b
unfolding action
returns-in_err-b c =
    let p = err_from_is_err_and c.from_residual-in_err-b.result c.from_residual-in_err-b.ensures.1 in
    rw (p.1, p.2)
    (stops_third (chain c.args.k) c.args.scan.now c.in_err-b.field-0.0 c.in_ok-vocab.ensures c.in_ok-a.ensures c.in_err-b.ensures)

pub returns-in_err-c : goal.returns-in_err-c
unfolding action
returns-in_err-c c =
    let p = err_from_is_err_and c.from_residual-in_err-c.result c.from_residual-in_err-c.ensures.1 in
    rw (p.1, p.2)
    (stops_fourth (chain c.args.k) c.args.scan.now c.in_err-c.field-0.0 c.in_ok-vocab.ensures c.in_ok-a.ensures c.in_ok-b.ensures c.in_err-c.ensures)

pub returns-in_err-d : goal.returns-in_err-d
unfolding action
returns-in_err-d c =
    let p = err_from_is_err_and c.from_residual-in_err-d.result c.from_residual-in_err-d.ensures.1 in
    rw (p.1, p.2)
    (stops_fifth (chain c.args.k) c.args.scan.now c.in_err-d.field-0.0 c.in_ok-vocab.ensures c.in_ok-a.ensures c.in_ok-b.ensures c.in_ok-c.ensures c.in_err-d.ensures)

pub returns-in_err-e : goal.returns-in_err-e
unfolding action
returns-in_err-e c =
    let p = err_from_is_err_and c.from_residual-in_err-e.result c.from_residual-in_err-e.ensures.1 in
    rw (p.1, p.2)
    (stops_sixth (chain c.args.k) c.args.scan.now c.in_err-e.field-0.0 c.in_ok-vocab.ensures c.in_ok-a.ensures c.in_ok-b.ensures c.in_ok-c.ensures c.in_ok-d.ensures c.in_err-e.ensures)

pub returns-in_err-first : goal.returns-in_err-first
unfolding action
returns-in_err-first c =
    let p = err_from_is_err_and c.from_residual-in_err-first.result c.from_residual-in_err-first.ensures.1 in
    rw (p.1, p.2)
    (stops_seventh (chain c.args.k) c.args.scan.now c.in_err-first.field-0.0 c.in_ok-vocab.ensures c.in_ok-a.ensures c.in_ok-b.ensures c.in_ok-c.ensures c.in_ok-d.ensures c.in_ok-e.ensures c.in_err-first.ensures)

pub returns-in_err-second : goal.returns-in_err-second
unfolding action
returns-in_err-second c =
    let p = err_from_is_err_and c.from_residual-in_err-second.result c.from_residual-in_err-second.ensures.1 in
    rw (p.1, p.2)
    (stops_eighth (chain c.args.k) c.args.scan.now c.in_err-second.field-0.0 c.in_ok-vocab.ensures c.in_ok-a.ensures c.in_ok-b.ensures c.in_ok-c.ensures c.in_ok-d.ensures c.in_ok-e.ensures c.in_ok-first.ensures c.in_err-second.ensures)
