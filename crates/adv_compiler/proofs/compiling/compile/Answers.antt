use Rattle.adv_compiler.specs.Meaning.{meant}
use Rattle.adv_compiler.proofs.Answered.{found, only, exact, expected}
use Rattle.adv_compiler.proofs.compiling.compile.Goals as goal

pub returns-clause-found : goal.returns-clause-found
returns-clause-found c = found (meant c.args.source.now) c.database.result c.database.ensures

pub returns-clause-only : goal.returns-clause-only
returns-clause-only c = only (meant c.args.source.now) c.database.result c.database.ensures

pub returns-clause-exact : goal.returns-clause-exact
returns-clause-exact c = exact (meant c.args.source.now) c.database.result c.database.ensures

pub returns-clause-expected : goal.returns-clause-expected
returns-clause-expected c = expected (meant c.args.source.now) c.database.result c.database.ensures
