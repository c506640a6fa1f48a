use Rattle.std.proofs.lemmas.Result.{err_from_is_err_and}
use Rattle.scott_types.specs.Database.{database_of}
use Rattle.scott_format.proofs.ReaderSteps.{not_failed, stopped, closed_limits, closed_value, closed_fault}
use Rattle.scott_format.proofs.readers.DbReader.finish.Goals as goal

pub returns-in-Err-clause-read : goal.returns-in-Err-clause-read
returns-in-Err-clause-read c = λ fed has. stopped c.args.self fed has c.in-Err.stop c.fault.result c.in-Err.is c.fault.ensures

pub returns-in_err-parts-clause-failed : goal.returns-in_err-parts-clause-failed
returns-in_err-parts-clause-failed c = λ failed. absurd (not_failed c.args.self c.in_default.is failed)

pub returns-in_err-parts-clause-read : goal.returns-in_err-parts-clause-read
returns-in_err-parts-clause-read c = λ fed has.
    let p = err_from_is_err_and c.from_residual.result c.from_residual.ensures.1 in
    rw (p.1, p.2) (closed_fault c.args.self fed has c.in_default.is c.in-Some.body c.in-Some.is c.on-scan.result c.deref.result.now c.on-scan.ensures c.deref.ensures.value c.in_err-parts.field-0.0 c.in_err-parts.ensures)

pub of-requires : goal.of-requires
of-requires c =
    closed_limits c.args.self c.requires.0 c.requires.1 c.in_default.is c.in-Some.body c.in-Some.is c.on-scan.result c.deref.result.now c.on-scan.ensures c.deref.ensures.value c.text_laws.ensures (database_of c.in_ok-parts.parts) c.close.new.scan c.in_ok-parts.ensures

pub returns-clause-read : goal.returns-clause-read
returns-clause-read c = λ fed has.
    closed_value c.args.self fed has c.in_default.is c.in-Some.body c.in-Some.is c.on-scan.result c.deref.result.now c.on-scan.ensures c.deref.ensures.value (database_of c.in_ok-parts.parts) c.of.result c.close.new.scan c.in_ok-parts.ensures c.of.ensures
