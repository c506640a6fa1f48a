use Rattle.std.proofs.Common.{◌≡◌, ℕ, List, Result, subst, arith}
use Rattle.adv_text.specs.Reading.{Input, input}
use Rattle.source_reader.specs.declared.tree.Source.{Source}
use Rattle.source_reader.specs.declared.faults.SourceFault.{SourceFault}
use Rattle.source_reader.specs.Faults.{Reads}
use Rattle.source_reader.specs.Plan.{run}
use Rattle.source_reader.specs.Text.{source}
use Rattle.source_reader.proofs.Answered.{bytes_are, well_formed, found, only, refused, expected, as_read}
use Rattle.source_reader.proofs.reading.read_source.Goals as goal

-- what is read from a new scan is read from the beginning
from_start : (bytes : List ℕ) (s after : Input) (r : Result Source SourceFault) → s ≡ input 0 bytes → Reads (run source s) r after
    → Reads (run source (input 0 bytes)) r after
from_start bytes s after r e h = subst (λ (t : Input). Reads (run source t) r after) e h

pub returns-clause-found : goal.returns-clause-found
returns-clause-found c =
    found c.token_laws.ensures.token_is_exact c.token_laws.ensures.token_fault_is_exact c.args.bytes.now c.whole.new.scan c.whole.result
    (from_start c.args.bytes.now c.new-scan.result c.whole.new.scan c.whole.result c.new-scan.ensures c.whole.ensures)

pub returns-clause-only : goal.returns-clause-only
returns-clause-only c =
    only c.token_laws.ensures.token_is_exact c.token_laws.ensures.token_fault_is_exact c.args.bytes.now c.whole.new.scan c.whole.result
    (from_start c.args.bytes.now c.new-scan.result c.whole.new.scan c.whole.result c.new-scan.ensures c.whole.ensures)

pub returns-clause-exact : goal.returns-clause-exact
returns-clause-exact c =
    refused c.token_laws.ensures.token_is_exact c.token_laws.ensures.token_fault_is_exact c.args.bytes.now c.whole.new.scan c.whole.result
    (from_start c.args.bytes.now c.new-scan.result c.whole.new.scan c.whole.result c.new-scan.ensures c.whole.ensures)

pub returns-clause-expected : goal.returns-clause-expected
returns-clause-expected c =
    expected c.token_laws.ensures.token_is_exact c.token_laws.ensures.token_fault_is_exact c.args.bytes.now c.whole.new.scan c.whole.result
    (from_start c.args.bytes.now c.new-scan.result c.whole.new.scan c.whole.result c.new-scan.ensures c.whole.ensures)

pub returns-clause-well_formed : goal.returns-clause-well_formed
returns-clause-well_formed c =
    well_formed c.text_is_well_formed.ensures c.args.bytes.now (bytes_are c.args.bytes.now (λ i. omega (arith, c.type_inv.bytes i))) c.whole.result
    (found c.token_laws.ensures.token_is_exact c.token_laws.ensures.token_fault_is_exact c.args.bytes.now c.whole.new.scan c.whole.result
    (from_start c.args.bytes.now c.new-scan.result c.whole.new.scan c.whole.result c.new-scan.ensures c.whole.ensures))

pub returns-clause-as_read : goal.returns-clause-as_read
returns-clause-as_read c =
    as_read c.args.bytes.now c.whole.new.scan c.whole.result
    (from_start c.args.bytes.now c.new-scan.result c.whole.new.scan c.whole.result c.new-scan.ensures c.whole.ensures)
