-- The laws of texts, from those of tokens and of the grammar.
use Rattle.std.proofs.Common.{◌≡◌, ℕ, List, Ok, Err, ◌⊎◌, inl, inr, sym, ap, subst, ◌∙◌, refl}
use Rattle.inform_tree.specs.Programs.{DirectiveTree}
use Rattle.inform_lexer.specs.declared.kinds.Token.{Token}
use Rattle.inform_lexer.specs.declared.faults.LexFault.{LexFault}
use Rattle.inform_lexer.specs.Tokens.{Spelled}
use Rattle.inform_lexer.specs.Spans.{lexemes}
use Rattle.inform_lexer.specs.Laws as l
use Rattle.inform_grammar.specs.Faults.{FaultKind, Fault, fault}
use Rattle.inform_grammar.specs.Rule.{program}
use Rattle.inform_grammar.specs.Reading.{Answer, reads, within_limit}
use Rattle.inform_grammar.specs.Sentences.{Sentence}
use Rattle.inform_grammar.specs.Laws as g
use Rattle.inform_texts.specs.Texts.{ProgramText}
use Rattle.inform_texts.specs.Faults.{TextFault, NoTokens, NoSentence, Refused, FaultyText, place_of, left}
use Rattle.inform_texts.specs.Laws.{OneProgramAText, ProgramOrFault, NeverBoth, OneFaultAText, FaultIsFirst}

pub one_program_a_text : l.OneTokenList → g.OneProgram → OneProgramAText
one_program_a_text tokens one bytes p q a b =
    let same : b.tokens ≡ a.tokens = tokens bytes b.tokens a.tokens b.spelled a.spelled in
    one within_limit p q (lexemes bytes a.tokens) a.says
    (subst (λ (ts : List Token). Sentence within_limit q (lexemes bytes ts)) same b.says)

-- ---- a program or a fault

-- a text with tokens has a program if they are a sentence, and a fault if one is read of them
judged : (bytes : List ℕ) (tokens : List Token) → Spelled bytes tokens
    → ((p : List DirectiveTree) × Sentence within_limit p (lexemes bytes tokens)) ⊎
    ((f : Fault) × (reads within_limit (lexemes bytes tokens) program 0 ≡ Err f))
    → ((p : List DirectiveTree) × ProgramText bytes p) ⊎ ((f : TextFault) × FaultyText bytes f)
judged bytes tokens spelled (inl s) =
    inl (s.0, record { tokens = tokens; spelled = spelled; says = s.1 })
judged bytes tokens spelled (inr f) =
    inr (
      NoSentence f.0.kind (place_of bytes (left tokens f.0.rest)),
      record { tokens = tokens; rest = f.0.rest; spelled = spelled; read = f.1; stands = refl },
    )

lexed : g.SentenceOrFault → (bytes : List ℕ)
    → ((tokens : List Token) × Spelled bytes tokens) ⊎
    ((f : LexFault) × FaultyText bytes (NoTokens f))
    → ((p : List DirectiveTree) × ProgramText bytes p) ⊎ ((f : TextFault) × FaultyText bytes f)
lexed sentences bytes (inl t) = judged bytes t.0 t.1 (sentences within_limit (lexemes bytes t.0))
lexed sentences bytes (inr f) = inr (NoTokens f.0, f.1)

pub program_or_fault : l.TokensOrFault → g.SentenceOrFault → ProgramOrFault
program_or_fault tokens sentences bytes = lexed sentences bytes (tokens bytes)

-- ---- never both, and one fault

pub never_both : l.NeverBoth → l.OneTokenList → g.NeverBoth → NeverBoth
never_both faulty tokens sentences bytes p (NoTokens f) a b = faulty bytes a.tokens f a.spelled b
never_both faulty tokens sentences bytes p (NoSentence kind place) a b =
    let same : b.tokens ≡ a.tokens = tokens bytes b.tokens a.tokens b.spelled a.spelled in
    sentences within_limit p (lexemes bytes a.tokens) (fault kind b.rest) a.says
    (subst (λ (ts : List Token). reads within_limit (lexemes bytes ts) program 0 ≡ Err
    (fault kind b.rest)) same b.read)

-- the fault of an answer, if it has one
abbrev fault_or : {X : Type 0} → Fault → Answer X → Fault
fault_or other (Ok x) = other
fault_or other (Err f) = f

abbrev found : List ℕ → List Token → Fault → TextFault
found bytes tokens f = NoSentence f.kind (place_of bytes (left tokens f.rest))

is_found : (bytes : List ℕ) (kind : FaultKind) (place : ℕ) (r : Refused bytes kind place)
    → NoSentence kind place ≡ found bytes r.tokens (fault kind r.rest)
is_found bytes kind place r = ap (λ (n : ℕ). NoSentence kind n) r.stands

-- two faults of a text are the same, whether of its tokens or of the grammar
pub one_fault_a_text : l.NeverBoth → l.OneTokenList → l.OneFault → OneFaultAText
one_fault_a_text never tokens one bytes (NoTokens f) (NoTokens g) a b =
    ap NoTokens (one bytes f g a b)
one_fault_a_text never tokens one bytes (NoTokens f) (NoSentence kind place) a b =
    absurd (never bytes b.tokens f b.spelled a)
one_fault_a_text never tokens one bytes (NoSentence kind place) (NoTokens f) a b =
    absurd (never bytes a.tokens f a.spelled b)
one_fault_a_text never tokens one bytes (NoSentence kind place) (NoSentence kind' place') a b =
    let same : b.tokens ≡ a.tokens = tokens bytes b.tokens a.tokens b.spelled a.spelled in
    let read : reads within_limit (lexemes bytes a.tokens) program 0 ≡ Err (fault kind' b.rest) =
    subst (λ (ts : List Token). reads within_limit (lexemes bytes ts) program 0 ≡ Err
    (fault kind' b.rest)) same b.read in
    let faults : fault kind a.rest ≡ fault kind' b.rest =
    ap (λ (r : Answer (List DirectiveTree)). fault_or (fault kind a.rest) r) (sym a.read ∙ read) in
    is_found bytes kind place a
    ∙ ap (found bytes a.tokens) faults
    ∙ ap (λ (ts : List Token). found bytes ts (fault kind' b.rest)) (sym same)
    ∙ sym (is_found bytes kind' place' b)

pub fault_is_first : g.FaultIsFirst → FaultIsFirst
fault_is_first first bytes kind place r =
    first within_limit (lexemes bytes r.tokens) (fault kind r.rest) r.read
