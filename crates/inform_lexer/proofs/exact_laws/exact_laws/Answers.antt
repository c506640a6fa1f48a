use Rattle.inform_lexer.proofs.Exact.{tokens_are_exact, fault_is_exact}
use Rattle.inform_lexer.proofs.exact_laws.exact_laws.Goals as goal

pub returns-clause-tokens_are_exact : goal.returns-clause-tokens_are_exact
returns-clause-tokens_are_exact c = tokens_are_exact

pub returns-clause-fault_is_exact : goal.returns-clause-fault_is_exact
returns-clause-fault_is_exact c = fault_is_exact
