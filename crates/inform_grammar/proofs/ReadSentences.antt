-- Directives and programs that are spelled so are read so.
use Rattle.std.proofs.Common.{◌≡◌, ℕ, Bool, true, false, List, [], ◌∷◌, ◌++◌, Ok, Err, refl, sym, ap, ◌∙◌, append_assoc, append-nil}
use Rattle.inform_tree.specs.declared.values.Const.{Const}
use Rattle.inform_tree.specs.Programs.{DirectiveTree}
use Rattle.inform_lexemes.specs.Lexemes.{Lexeme, Name, is_name}
use Rattle.inform_grammar.specs.Rules as r
use Rattle.inform_grammar.specs.Lexemes.{No}
use Rattle.inform_grammar.specs.Plan.{Plan, many, one}
use Rattle.inform_grammar.specs.Rule.{program}
use Rattle.inform_grammar.specs.Reading.{Answer, input, reads}
use Rattle.inform_grammar.specs.Sentences.{Entries, last_entry, one_more_entry, Names, last_name, one_more_name, Directive, constant, global, global_with, array, routine, Sentence, no_more, one_more}
use Rattle.inform_grammar.specs.Laws.{SentenceIsRead, OneProgram, NeverBoth}
use Rattle.inform_grammar.proofs.Opened.{opened}
use Rattle.inform_grammar.proofs.Steps.{starts, many-no, many-yes, mark, there, same-heads}
use Rattle.inform_grammar.proofs.Held.{not-both}
use Rattle.inform_grammar.proofs.ReadValues.{read-constant, read-entry}
use Rattle.inform_grammar.proofs.ReadStatements.{read-statements}

read-entries : (room : ℕ → Bool) {X : Type 0} {o : ℕ} {xs : List Const} {ts rest : List Lexeme} → Entries room o xs ts rest
    → No (starts r.Entry) rest → (front : List Const) (k : List Const → Plan X)
    → reads room ts (many r.Entry front k) o ≡ reads room rest (k (front ++ xs)) o
read-entries room {o = o} (last_entry {rest = rest}) h front k =
    many-no room rest r.Entry h front k o ∙ ap (λ xs. reads room rest (k xs) o) (sym (append-nil front))
read-entries room {o = o} {rest = rest} (one_more_entry {x = x} {xs = xs} {ts = ts} {mid = mid} d ds) h front k =
    many-yes room ts r.Entry (there room r.Entry ts mid o o (read-entry room d (λ _. mark))) front k o
    ∙ read-entry room d _ ∙ read-entries room ds h _ k ∙ ap (λ xs. reads room rest (k xs) o) (append_assoc front (x ∷ []) xs)

starts-local : (x : Lexeme) → starts r.Local x ≡ is_name x
unfolding opened
starts-local (Name name) = refl
starts-local _ = refl

read-names : (room : ℕ → Bool) {X : Type 0} {names : List (List ℕ)} {ts rest : List Lexeme} → Names names ts rest → No is_name rest
    → (front : List (List ℕ)) (k : List (List ℕ) → Plan X) (o : ℕ)
    → reads room ts (many r.Local front k) o ≡ reads room rest (k (front ++ names)) o
unfolding opened
read-names room (last_name {rest = rest}) h front k o =
    many-no room rest r.Local (same-heads starts-local rest ∙ h) front k o ∙ ap (λ xs. reads room rest (k xs) o) (sym (append-nil front))
read-names room {rest = rest} (one_more_name {name = name} {names = names} ds) h front k o =
    read-names room ds h _ k o ∙ ap (λ xs. reads room rest (k xs) o) (append_assoc front (name ∷ []) names)

read-directive : (room : ℕ → Bool) {X : Type 0} {x : DirectiveTree} {ts rest : List Lexeme} → Directive room x ts rest
    → (k : DirectiveTree → Plan X) → reads room ts (one r.Directive k) 0 ≡ reads room rest (k x) 0
unfolding opened
read-directive room (constant x) k = read-constant room x _ 0
read-directive room global k = refl
read-directive room (global_with x) k = read-constant room x _ 0
read-directive room (array {words = true} x xs) k = read-entry room x _ ∙ read-entries room xs refl _ _
read-directive room (array {words = false} x xs) k = read-entry room x _ ∙ read-entries room xs refl _ _
read-directive room (routine names xs) k = read-names room names refl [] _ 0 ∙ read-statements room xs refl [] _

-- the directives of a sentence, after those that were read before
read-sentence-after : (room : ℕ → Bool) {xs : List DirectiveTree} {ts : List Lexeme} → Sentence room xs ts → (front : List DirectiveTree) (k : List DirectiveTree → Plan (List DirectiveTree))
    → reads room ts (many r.Directive front k) 0 ≡ reads room [] (k (front ++ xs)) 0
read-sentence-after room no_more front k =
    many-no room [] r.Directive refl front k 0 ∙ ap (λ xs. reads room [] (k xs) 0) (sym (append-nil front))
read-sentence-after room (one_more {x = x} {xs = xs} {ts = ts} {rest = rest} d ds) front k =
    many-yes room ts r.Directive (there room r.Directive ts rest 0 0 (read-directive room d (λ _. mark))) front k 0
    ∙ read-directive room d _ ∙ read-sentence-after room ds _ k ∙ ap (λ xs. reads room [] (k xs) 0) (append_assoc front (x ∷ []) xs)

-- a sentence is read as its program
pub read-sentence : (room : ℕ → Bool) (p : List DirectiveTree) (ts : List Lexeme) → Sentence room p ts → reads room ts program 0 ≡ Ok (p, input 0 [])
unfolding opened
read-sentence room p ts d = read-sentence-after room d [] _

-- the value of an answer, if it has one
abbrev value_or : {X : Type 0} → X → Answer X → X
value_or other (Ok y) = y.0
value_or other (Err e) = other

pub sentence_is_read : SentenceIsRead
sentence_is_read room p ts d = read-sentence room p ts d

-- a list of lexemes has one program at most
pub one_program : OneProgram
one_program room p q ts d e = ap (value_or p) (sym (read-sentence room p ts d) ∙ read-sentence room q ts e)

-- a sentence has no fault
pub never_both : NeverBoth
never_both room p ts f d e = not-both {A = ⊥} (sym e ∙ read-sentence room p ts d)
