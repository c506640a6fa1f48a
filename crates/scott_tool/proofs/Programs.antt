-- That the program of a file's bytes is the one that is expected.
use Rattle.std.proofs.Common.{◌≡◌, ◌∙◌, ℕ, List, Result, Err, refl, sym, ap}
use Rattle.inform_tree.specs.Programs.{DirectiveTree}
use Rattle.inform_reader.specs.Reading.{Fault}
use Rattle.inform_reader.specs.Views.{fault_answer, Tells}
use Rattle.inform_reader.specs.declared.faults.ProgramFault.{ProgramFault}
use Rattle.inform_reader.specs.declared.faults.ProgramFault.TheVariants.{NoTokens, NoSentence, NotAccepted, Memory}
use Rattle.scott_tool.specs.Refusal.{unfit_by}
use Rattle.scott_tool.specs.Run.{program_or_unfit}
use Rattle.scott_tool.specs.declared.refusals.ContentFault.TheVariants.{NoProgram}

module _ (name : List ℕ) (expected : Result (List DirectiveTree) Fault) where
  told : (answer : ProgramFault) (fault : Fault) → expected ≡ Err fault → answer
      ≡ fault_answer fault
      → program_or_unfit name expected ≡ Err (unfit_by name (NoProgram answer))
  told answer fault is same = ap (program_or_unfit name) is ∙ ap
      (λ a. Err (unfit_by name (NoProgram a))) (sym same)

  -- a fault that is answered is the one that is expected
  pub declined : (answer : ProgramFault) → (answer ≡ Memory → ⊥) → Tells answer expected
      → program_or_unfit name expected ≡ Err (unfit_by name (NoProgram answer))
  declined (NoTokens f) other (fault, is, same) = told (NoTokens f) fault is same
  declined (NoSentence f) other (fault, is, same) = told (NoSentence f) fault is same
  declined (NotAccepted f) other (fault, is, same) = told (NotAccepted f) fault is same
  declined Memory other tells = absurd (other refl)
