use Rattle.adv_text.specs.Reading.{input}
use Rattle.scott_format.specs.File.{file}
use Rattle.scott_format.proofs.Wrongs.{run-faulty, faulty-run}
use Rattle.scott_format.proofs.laws.first_fault.Goals as goal

pub returns : goal.returns
returns c bytes fault = (run-faulty c.text_laws.ensures file (input 0 bytes) fault, faulty-run c.text_laws.ensures file (input 0 bytes) fault)
