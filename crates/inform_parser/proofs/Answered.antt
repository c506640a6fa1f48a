-- What the parser's answer tells of sentences and faults.
use Rattle.std.proofs.Common.{◌⊎◌, inl, inr, ◌≡◌, ℕ, List, [], length, Ok, Err, Result, refl, ap, ◌∙◌, sym, subst}
use Rattle.inform_tree.specs.Programs.{DirectiveTree}
use Rattle.inform_lexer.specs.declared.kinds.Token.{Token}
use Rattle.inform_lexer.specs.Spans.{lexemes}
use Rattle.inform_grammar.specs.Faults as kind
use Rattle.inform_grammar.specs.Faults.{Fault, FaultKind, fault}
use Rattle.inform_grammar.specs.Reading.{Input, input, Answer, within_limit}
use Rattle.inform_grammar.specs.Rule.{program}
use Rattle.inform_grammar.specs.Laws.{SentenceIsRead, ReadIsSentence, FaultIsFirst}
use Rattle.inform_parser.specs.declared.faults.ParseFault.{ParseFault}
use Rattle.inform_parser.specs.declared.faults.ParseFault.TheVariants.{Unexpected, Mixed, TooDeep, Memory}
use Rattle.inform_parser.specs.declared.stops.Stop.{Stop}
use Rattle.inform_parser.specs.declared.stops.Stop.TheVariants as stop
use Rattle.inform_parser.specs.Reading.{read, StopsAt}
use Rattle.inform_parser.specs.Programs.{IsProgramOf, IsReadTo, IsFaultOf, place_before, fault_at, fault_answer}
use Rattle.adv_io.specs.Answers.{IsErrOr}
use Rattle.inform_tree.specs.declared.programs.Program.{Program}

abbrev good : List DirectiveTree × Input → Answer (List DirectiveTree)
good x = Ok x

abbrev tree_at : List DirectiveTree → Input → List DirectiveTree × Input
tree_at p s = (p, s)

abbrev bad : Fault → Answer (List DirectiveTree)
bad f = Err f

module _ (bytes : List ℕ) (tokens : List Token) (after : Input) where
  abbrev whole : Answer (List DirectiveTree)
  whole = read program (input 0 (lexemes bytes tokens))

  pub found : ReadIsSentence → (p : List DirectiveTree) → whole ≡ Ok (p, after) → IsProgramOf bytes tokens p
  unfolding read
  found law p e = law within_limit p (lexemes bytes tokens) after.opened after.rest e

  read_whole : SentenceIsRead → (p : List DirectiveTree) → IsProgramOf bytes tokens p → whole ≡ Ok (p, input 0 [])
  unfolding read
  read_whole law p h = law within_limit p (lexemes bytes tokens) h

  pub same : SentenceIsRead → (p q : List DirectiveTree) → whole ≡ Ok (q, after) → IsProgramOf bytes tokens p → q ≡ p
  same law p q e h = let both : good (q, after) ≡ good (p, input 0 []) = sym e ∙ read_whole law p h in
      let pair : tree_at q after ≡ tree_at p (input 0 []) = cc in ap (λ (x : List DirectiveTree × Input). x.0) pair

  pub no_fault : SentenceIsRead → (s : Stop) (at : ℕ) → StopsAt after s whole → (p : List DirectiveTree) → IsProgramOf bytes tokens p → fault_at s at ≡ Memory
  no_fault law stop.Unexpected at e p h = let both : bad (fault kind.Unexpected after.rest) ≡ good (p, input 0 []) = sym e ∙ read_whole law p h in absurd (cc)
  no_fault law stop.Mixed at e p h = let both : bad (fault kind.Mixed after.rest) ≡ good (p, input 0 []) = sym e ∙ read_whole law p h in absurd (cc)
  no_fault law stop.TooDeep at e p h = let both : bad (fault kind.TooDeep after.rest) ≡ good (p, input 0 []) = sym e ∙ read_whole law p h in absurd (cc)
  no_fault law stop.Memory at e p h = refl

  pub first : FaultIsFirst → (s : Stop) (at : ℕ) → StopsAt after s whole → at ≡ place_before bytes tokens (length after.rest) → IsFaultOf bytes tokens (fault_at s at)
  unfolding read
  first law stop.Unexpected at e h = (after.rest, e, law within_limit (lexemes bytes tokens) (fault kind.Unexpected after.rest) e, h)
  first law stop.Mixed at e h = (after.rest, e, law within_limit (lexemes bytes tokens) (fault kind.Mixed after.rest) e, h)
  first law stop.TooDeep at e h = (after.rest, e, law within_limit (lexemes bytes tokens) (fault kind.TooDeep after.rest) e, h)
  first law stop.Memory at e h = tt

  -- what is read up to a fault is no program, and refused at it
  pub no_program : (p : List DirectiveTree) (f : Fault) → whole ≡ Ok (p, after) → IsReadTo bytes tokens f → ⊥
  unfolding read
  no_program p f e h = let both : bad f ≡ good (p, after) = sym h ∙ e in cc

  same_fault : (k : FaultKind) (f : Fault) → whole ≡ Err (fault k after.rest) → IsReadTo bytes tokens f → fault k after.rest ≡ f
  unfolding read
  same_fault k f e h = let both : bad (fault k after.rest) ≡ bad f = sym e ∙ h in cc

  pub expected : (s : Stop) (at : ℕ) → StopsAt after s whole → at ≡ place_before bytes tokens (length after.rest) → (f : Fault) → IsReadTo bytes tokens f
      → (fault_at s at ≡ fault_answer bytes tokens f) ⊎ (fault_at s at ≡ Memory)
  expected stop.Unexpected at e h f g = inl (ap Unexpected h ∙ ap (fault_answer bytes tokens) (same_fault kind.Unexpected f e g))
  expected stop.Mixed at e h f g = inl (ap Mixed h ∙ ap (fault_answer bytes tokens) (same_fault kind.Mixed f e g))
  expected stop.TooDeep at e h f g = inl (ap TooDeep h ∙ ap (fault_answer bytes tokens) (same_fault kind.TooDeep f e g))
  expected stop.Memory at e h f g = inr refl

-- ---- what is answered: the fault that a stop is, or that memory ran out

abbrev IsOrMemory : ParseFault → ParseFault → Type 0
IsOrMemory answer fault = (answer ≡ fault) ⊎ (answer ≡ Memory)

pub is_memory : (answer fault : ParseFault) → IsOrMemory answer fault → fault ≡ Memory → answer ≡ Memory
is_memory answer fault (inl e) h = e ∙ h
is_memory answer fault (inr e) h = e

pub is_fault : (bytes : List ℕ) (tokens : List Token) (answer fault : ParseFault) → IsOrMemory answer fault → IsFaultOf bytes tokens fault
    → IsFaultOf bytes tokens answer
is_fault bytes tokens answer fault (inl e) h = subst (IsFaultOf bytes tokens) (sym e) h
is_fault bytes tokens answer fault (inr e) h = subst (IsFaultOf bytes tokens) (sym e) tt

abbrev refusal : ParseFault → Result Program ParseFault
refusal f = Err f

pub refused : (answer fault expected : ParseFault) → IsOrMemory answer fault → IsOrMemory fault expected → IsErrOr Memory (refusal answer) expected
refused answer fault expected (inl e) (inl h) = inl (ap refusal (e ∙ h))
refused answer fault expected (inl e) (inr h) = inr (ap refusal (e ∙ h))
refused answer fault expected (inr e) h = inr (ap refusal e)
