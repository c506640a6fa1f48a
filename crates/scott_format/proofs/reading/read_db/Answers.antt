use Rattle.scott_format.proofs.Answered.{found, only, exact, expected, as_read}
use Rattle.scott_format.proofs.reading.read_db.Goals as goal

pub returns-clause-found : goal.returns-clause-found
returns-clause-found c = found c.text_laws.ensures c.args.bytes.now c.read.result c.read.ensures.value

pub returns-clause-only : goal.returns-clause-only
returns-clause-only c = only c.text_laws.ensures c.args.bytes.now c.read.result c.read.ensures.value c.read.ensures.fault

pub returns-clause-exact : goal.returns-clause-exact
returns-clause-exact c = exact c.text_laws.ensures c.args.bytes.now c.read.result c.read.ensures.fault

pub returns-clause-expected : goal.returns-clause-expected
returns-clause-expected c = expected c.text_laws.ensures c.args.bytes.now c.read.result c.read.ensures.value c.read.ensures.fault

pub returns-clause-as_read : goal.returns-clause-as_read
returns-clause-as_read c = as_read c.args.bytes.now c.read.result c.read.ensures.value c.read.ensures.fault
