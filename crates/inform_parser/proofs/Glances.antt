-- What a glance tells of a lexeme.
use denote.Enum.Declared.{tag_of}
use denote.Enum.Bare.{sameb}
use Rattle.std.proofs.Common.{◌≡◌, ℕ, suc, ◌<◌, Bool, true, false, List, [], ◌∷◌, drop, Option, Some, None, Ok, Err, refl, sym, ap, ap₂, ◌∙◌, cond, eqb, length, arith}
use Rattle.inform_lexemes.specs.declared.symbols.Symbol.{Symbol}
use Rattle.inform_lexemes.specs.declared.symbols.Symbol.TheVariants.{Semicolon, LeftRound}
use Rattle.inform_lexemes.specs.declared.keywords.Keyword.{Keyword}
use Rattle.inform_lexemes.specs.declared.keywords.Keyword.TheVariants as w
use Rattle.inform_lexemes.specs.contracts.symbols.Symbol as symbol
use Rattle.inform_lexemes.specs.contracts.keywords.Keyword as keyword
use Rattle.inform_lexemes.specs.Symbols.{symbol_number, same_symbol}
use Rattle.inform_lexemes.specs.Keywords.{keyword_number, same_keyword}
use Rattle.inform_lexemes.specs.Lexemes.{Lexeme, Word, Sign, is_sign, is_word}
use Rattle.inform_lexer.specs.declared.glances.Glance.{Glance}
use Rattle.inform_lexer.specs.declared.glances.Glance.TheVariants as g
use Rattle.inform_lexer.specs.Spans.{glance_of}
use Rattle.inform_grammar.specs.Lexemes.{heads, is_opener, is_closer, one_less}
use Rattle.inform_grammar.specs.Faults.{Unexpected, TooDeep, fault}
use Rattle.inform_grammar.specs.Plan.{done}
use Rattle.inform_grammar.specs.Reading.{Input, input, Answer, step, reads, within_limit}
use Rattle.inform_parser.specs.Glances.{first_glance, opens, closes, opened_within}
use Rattle.inform_parser.specs.Reading.{read}
use Rattle.inform_parser.specs.Nexts.{any_next}
use Rattle.inform_grammar.proofs.Steps.{done-here}

-- ---- symbols and words are told apart by their numbers

tag_of_symbol : (x : Symbol) → tag_of symbol.the_type x ≡ symbol_number x
tag_of_symbol Semicolon = refl
tag_of_symbol _ = refl

tag_of_keyword : (x : Keyword) → tag_of keyword.the_type x ≡ keyword_number x
tag_of_keyword w.If = refl
tag_of_keyword _ = refl

-- the next lexeme is seen to be this symbol, or another
sign_seen : (a b : Symbol) (xs : List Lexeme) → first_glance xs ≡ Some (g.Symbol b) → heads (is_sign a) xs ≡ same_symbol a b
sign_seen a b (Sign x ∷ xs) e = let same : x ≡ b = cc in ap (same_symbol a) same
sign_seen a b _ e = absurd (cc)

word_seen : (a b : Keyword) (xs : List Lexeme) → first_glance xs ≡ Some (g.Word b) → heads (is_word a) xs ≡ same_keyword a b
word_seen a b (Word x ∷ xs) e = let same : x ≡ b = cc in ap (same_keyword a) same
word_seen a b _ e = absurd (cc)

pub symbols : (a b : Symbol) (xs : List Lexeme) → first_glance xs ≡ Some (g.Symbol b) → sameb symbol.the_type a b ≡ heads (is_sign a) xs
symbols a b xs e = ap₂ (λ m n. eqb m n) (tag_of_symbol a) (tag_of_symbol b) ∙ sym (sign_seen a b xs e)

pub keywords : (a b : Keyword) (xs : List Lexeme) → first_glance xs ≡ Some (g.Word b) → sameb keyword.the_type a b ≡ heads (is_word a) xs
keywords a b xs e = ap₂ (λ m n. eqb m n) (tag_of_keyword a) (tag_of_keyword b) ∙ sym (word_seen a b xs e)

-- ---- a lexeme that is taken

opener_seen : (x : Lexeme) → is_opener x ≡ opens (glance_of x)
opener_seen (Sign LeftRound) = refl
opener_seen (Word w.If) = refl
opener_seen _ = refl

closer_seen : (x : Lexeme) → is_closer x ≡ closes (glance_of x)
closer_seen (Sign LeftRound) = refl
closer_seen _ = refl

nothing_next : (xs : List Lexeme) (n : ℕ) → first_glance xs ≡ None → read any_next (input n xs) ≡ Err (fault Unexpected xs)
unfolding read reads step
nothing_next [] n e = refl
nothing_next (x ∷ xs) n e = absurd (cc)

pub ended : (s : Input) → first_glance s.rest ≡ None → read any_next s ≡ Err (fault Unexpected s.rest)
ended s e = nothing_next s.rest s.opened e

-- what is read of a lexeme that is taken
abbrev taken_as : List Lexeme → ℕ → Option ℕ → Answer (Unit {0})
taken_as xs n None = Err (fault TooDeep xs)
taken_as xs n (Some m) = Ok (tt, input m (drop 1 xs))

room_cases : (a b r : Bool) (x : Lexeme) (xs : List Lexeme) (n : ℕ)
    → cond a (cond r (reads within_limit xs (done tt) (suc n)) (Err (fault TooDeep (x ∷ xs)))) (reads within_limit xs (done tt) (cond a (suc n) (cond b (one_less n) n)))
    ≡ taken_as (x ∷ xs) n (cond a (cond r (Some (suc n)) None) (Some (cond b (one_less n) n)))
room_cases true b true x xs n = done-here within_limit xs tt (suc n)
room_cases true b false x xs n = refl
room_cases false b r x xs n = done-here within_limit xs tt (cond b (one_less n) n)

taken_by : (x : Lexeme) (xs : List Lexeme) (n : ℕ) → read any_next (input n (x ∷ xs)) ≡ taken_as (x ∷ xs) n (opened_within (glance_of x) n)
unfolding read reads step
taken_by x xs n =
    room_cases (is_opener x) (is_closer x) (within_limit n) x xs n
    ∙ ap₂ (λ a b. taken_as (x ∷ xs) n (cond a (cond (within_limit n) (Some (suc n)) None) (Some (cond b (one_less n) n)))) (opener_seen x) (closer_seen x)

-- what is seen is what is taken
seen_taken : (xs : List Lexeme) (n : ℕ) (x : Glance) → first_glance xs ≡ Some x → read any_next (input n xs) ≡ taken_as xs n (opened_within x n)
seen_taken [] n x e = absurd (cc)
seen_taken (y ∷ ys) n x e =
    let same : glance_of y ≡ x = cc in taken_by y ys n ∙ ap (λ g. taken_as (y ∷ ys) n (opened_within g n)) same

-- fewer are left
pub fewer_left : (xs : List Lexeme) (x : Glance) → first_glance xs ≡ Some x → length (drop 1 xs) < length xs
fewer_left [] x e = absurd (cc)
fewer_left (y ∷ ys) x e = omega arith

pub no_room : (s : Input) (x : Glance) → first_glance s.rest ≡ Some x → opened_within x s.opened ≡ None → read any_next s ≡ Err (fault TooDeep s.rest)
no_room s x e h = seen_taken s.rest s.opened x e ∙ ap (taken_as s.rest s.opened) h

pub one_taken : (s : Input) (m : ℕ) (x : Glance) → first_glance s.rest ≡ Some x → opened_within x s.opened ≡ Some m
    → read any_next s ≡ Ok (tt, input m (drop 1 s.rest))
one_taken s m x e h = seen_taken s.rest s.opened x e ∙ ap (taken_as s.rest s.opened) h
