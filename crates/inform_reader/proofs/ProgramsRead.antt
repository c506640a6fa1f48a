-- What is read of a text is its program, or what is wrong with it first.
use Rattle.std.proofs.Common.{◌≡◌, ◌↔◌, ◌∙◌, ℕ, List, Option, Some, None, Result, Ok, Err, refl, ap, subst}
use Rattle.inform_tree.specs.declared.widths.Width.{Width}
use Rattle.inform_tree.specs.Programs.{DirectiveTree}
use Rattle.inform_names.specs.Faults as names
use Rattle.inform_names.specs.Acceptance.{name_fault}
use Rattle.inform_texts.specs.Texts.{ProgramText}
use Rattle.inform_texts.specs.Faults.{TextFault}
use Rattle.inform_texts.specs.Reading as text
use Rattle.inform_texts.specs.Laws as t
use Rattle.inform_reader.specs.Reading.{Fault, NoProgram, NotAccepted, IsProgram, IsFaulty, program_or_fault, accepted_of, program_in}

module _ (programs : t.ProgramIn) (faults : t.FaultIn) (width : Width) (bytes : List ℕ) where
  abbrev Read : Type 0
  Read = Result (List DirectiveTree) Fault

  -- ---- what is read is right

  abbrev Right : Read → Type 0
  Right (Ok p) = IsProgram width bytes p
  Right (Err f) = IsFaulty width bytes f

  right_names : (p : List DirectiveTree) → ProgramText bytes p → (o : Option names.Fault)
      → name_fault width p ≡ o → Right (program_or_fault p o)
  right_names p text None is = record { text = text; accepted = is }
  right_names p text (Some f) is = (p, text, is)

  right_text : (o : Result (List DirectiveTree) TextFault) → text.program_in bytes ≡ o
      → Right (accepted_of width o)
  right_text (Ok p) is = right_names p ((programs bytes p).0 is) (name_fault width p) refl
  right_text (Err f) is = (faults bytes f).0 is

  right : Right (program_in width bytes)
  unfolding program_in
  right = right_text (text.program_in bytes) refl

  -- ---- and what is right is read

  read_names : (p : List DirectiveTree) (o : Option names.Fault) → ProgramText bytes p
      → name_fault width p ≡ o → program_in width bytes ≡ program_or_fault p o
  unfolding program_in
  read_names p o text is = ap (accepted_of width) ((programs bytes p).1 text) ∙ ap (program_or_fault p) is

  read_fault : (f : Fault) → IsFaulty width bytes f → program_in width bytes ≡ Err f
  unfolding program_in
  read_fault (NoProgram f) is = ap (accepted_of width) ((faults bytes f).1 is)
  read_fault (NotAccepted f) is = read_names is.0 (Some f) is.1 is.2

  pub program_law : (p : List DirectiveTree) → (program_in width bytes ≡ Ok p) ↔ IsProgram width bytes p
  program_law p = (λ is. subst Right is right, λ is. read_names p None is.text is.accepted)

  pub fault_law : (f : Fault) → (program_in width bytes ≡ Err f) ↔ IsFaulty width bytes f
  fault_law f = (λ is. subst Right is right, read_fault f)
