use Rattle.std.proofs.Common.{refl}
use Rattle.std.proofs.lemmas.Bool.{false≢true}
use Rattle.inform_simplify.proofs.Layers.{known_true, known_false, indifferent, undecided}
use Rattle.inform_simplify.proofs.simplifying.chosen.Goals as goal

pub returns-in-Some-true : goal.returns-in-Some-true
returns-in-Some-true c = λ xs ys h k. known_true _ _ _ c.args.other xs ys h k (cc)

pub returns-in-Some-false : goal.returns-in-Some-false
returns-in-Some-false c = λ xs ys h k. known_false _ _ c.args.body _ xs ys h k (cc)

pub returns-in-None : goal.returns-in-None
returns-in-None c = λ xs ys h k. indifferent _ _ _ c.args.other xs ys h k (c.if-is_indifferent.ensures.0 refl).0 (c.if-is_indifferent.ensures.0 refl).1

pub returns : goal.returns
returns c = λ xs ys h k. undecided _ _ _ _ xs ys h k (cc) (λ p e. false≢true (c.if-is_indifferent.ensures.1 (p, e)))
