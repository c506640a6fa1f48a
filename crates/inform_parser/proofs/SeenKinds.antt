-- What is seen to be of a kind.
use Rattle.std.proofs.Common.{◌≡◌, ℕ, true, false, List, [], ◌∷◌, drop, Some, Ok, Err, refl, ap, ◌∙◌, ◌||◌}
use Rattle.inform_tree.specs.declared.conditions.Relation.{Relation}
use Rattle.inform_tree.specs.declared.conditions.Relation.TheVariants.{Eq}
use Rattle.inform_lexemes.specs.declared.symbols.Symbol.TheVariants.{ByteArrow, WordArrow, Plus, Minus, Times, Divide, Remainder}
use Rattle.inform_lexemes.specs.Lexemes.{Lexeme, Name, Number, Character, Quoted, Sign, is_sign, is_name, is_number, is_character, is_quoted}
use Rattle.inform_lexer.specs.declared.glances.Glance.TheVariants as g
use Rattle.inform_grammar.specs.Lexemes.{heads, is_opener, is_closer, is_arrow, is_factor_sign, is_term_sign, is_relation, relation_of}
use Rattle.inform_grammar.specs.Faults.{Unexpected, fault}
use Rattle.inform_grammar.specs.Plan.{done, refuse, next}
use Rattle.inform_grammar.specs.Reading.{Input, input, Answer, step, reads}
use Rattle.inform_grammar.proofs.Binding.{and_then}
use Rattle.inform_parser.specs.Glances.{first_glance}
use Rattle.inform_parser.specs.Reading.{read, StandsNext, ReadsSome}
use Rattle.inform_parser.specs.Nexts.{next_of, arrow_next, relation_next, relation_lexeme}
use Rattle.inform_parser.proofs.Steps.{read-done, read-then}
use Rattle.inform_parser.proofs.Taking.{fails}
use Rattle.inform_parser.proofs.Passing.{stands_read}

pub number_first : (xs : List Lexeme) (m : ℕ) → first_glance xs ≡ Some (g.Number m) → xs ≡ Number m ∷ drop 1 xs
number_first (Number x ∷ xs) m e = let same : x ≡ m = cc in ap (λ n. Number n ∷ xs) same
number_first _ m e = absurd (cc)

pub number_none : (xs : List Lexeme) → ((m : ℕ) → first_glance xs ≡ Some (g.Number m) → ⊥) → heads is_number xs ≡ false
number_none (Number x ∷ xs) e = absurd (e x refl)
number_none [] e = refl
number_none (_ ∷ xs) e = refl

pub number_seen : (xs : List Lexeme) (m : ℕ) → first_glance xs ≡ Some (g.Number m) → heads is_number xs ≡ true
number_seen (Number x ∷ xs) m e = refl
number_seen _ m e = absurd (cc)

pub ruleset numbers = (number_first, number_none, number_seen)

pub character_first : (xs : List Lexeme) (m : ℕ) → first_glance xs ≡ Some (g.Character m) → xs ≡ Character m ∷ drop 1 xs
character_first (Character x ∷ xs) m e = let same : x ≡ m = cc in ap (λ n. Character n ∷ xs) same
character_first _ m e = absurd (cc)

pub character_none : (xs : List Lexeme) → ((m : ℕ) → first_glance xs ≡ Some (g.Character m) → ⊥) → heads is_character xs ≡ false
character_none (Character x ∷ xs) e = absurd (e x refl)
character_none [] e = refl
character_none (_ ∷ xs) e = refl

pub character_seen : (xs : List Lexeme) (m : ℕ) → first_glance xs ≡ Some (g.Character m) → heads is_character xs ≡ true
character_seen (Character x ∷ xs) m e = refl
character_seen _ m e = absurd (cc)

pub ruleset characters = (character_first, character_none, character_seen)

pub name_seen : (xs : List Lexeme) → first_glance xs ≡ Some g.Name → heads is_name xs ≡ true
name_seen (Name x ∷ xs) e = refl
name_seen _ e = absurd (cc)

pub name_none : (xs : List Lexeme) → (first_glance xs ≡ Some g.Name → ⊥) → heads is_name xs ≡ false
name_none (Name x ∷ xs) e = absurd (e refl)
name_none [] e = refl
name_none (_ ∷ xs) e = refl

pub ruleset names = (name_seen, name_none)

pub text_seen : (xs : List Lexeme) → first_glance xs ≡ Some g.Quoted → heads is_quoted xs ≡ true
text_seen (Quoted x ∷ xs) e = refl
text_seen _ e = absurd (cc)

pub text_none : (xs : List Lexeme) → (first_glance xs ≡ Some g.Quoted → ⊥) → heads is_quoted xs ≡ false
text_none (Quoted x ∷ xs) e = absurd (e refl)
text_none [] e = refl
text_none (_ ∷ xs) e = refl

pub ruleset texts = (text_seen, text_none)

-- ---- symbols

pub relation_kind : (op : Relation) → is_relation (relation_lexeme op) ≡ true
relation_kind Eq = refl
relation_kind _ = refl

-- ---- symbols that compare values

relation_known : (op : Relation) → relation_of (relation_lexeme op) ≡ op
relation_known Eq = refl
relation_known _ = refl

relation_by : (s : Input) → read relation_next s ≡ and_then (read (next_of is_relation) s) (λ x s. Ok (relation_of x, s))
unfolding relation_next
relation_by s = read-then (λ x. done (relation_of x)) (next_of is_relation) s ∙ ended (read (next_of is_relation) s)
  where
    ended : (a : Answer Lexeme) → and_then a (λ x s. read (done (relation_of x)) s) ≡ and_then a (λ x s. Ok (relation_of x, s))
    ended (Ok y) = read-done (relation_of y.0) y.1
    ended (Err fault) = refl

pub relation_fails : (s : Input) → heads is_relation s.rest ≡ false → read relation_next s ≡ Err (fault Unexpected s.rest)
relation_fails s e = relation_by s ∙ ap (λ a. and_then a (λ x s. Ok (relation_of x, s))) (fails s is_relation done e)

relation_plain : (op : Relation) → (is_opener (relation_lexeme op) ≡ false) × (is_closer (relation_lexeme op) ≡ false)
relation_plain Eq = (refl, refl)
relation_plain _ = (refl, refl)

-- a relation that stands next is read
pub relation_read : (s after : Input) (op : Relation) → StandsNext (relation_lexeme op) s → after ≡ input s.opened (drop 1 s.rest)
    → ReadsSome (λ op. op) relation_next s (Ok op) after
relation_read s after op first same =
    let one = stands_read relation_lexeme s after op first is_relation (relation_kind op) (relation_plain op).0 (relation_plain op).1 same in
    record {
      gives = relation_by s ∙ ap (λ a. and_then a (λ x s. Ok (relation_of x, s))) one.gives ∙ ap (λ op. Ok (op, after)) (relation_known op);
      ahead = one.ahead;
      taken = one.taken;
    }

pub at_relation : (xs : List Lexeme) (op : Relation) → xs ≡ relation_lexeme op ∷ drop 1 xs → heads is_relation xs ≡ true
at_relation xs op e = rw e (relation_kind op)

-- ---- arrows and signs

arrow_at : (xs : List Lexeme) (n : ℕ) → read arrow_next (input n xs) ≡ read (next (is_sign WordArrow) (λ _. done true) (next (is_sign ByteArrow) (λ _. done false) refuse)) (input n xs)
unfolding read reads step arrow_next
arrow_at [] n = refl
arrow_at (Sign WordArrow ∷ xs) n = refl
arrow_at (_ ∷ xs) n = refl

pub arrow_as : (s : Input) → read arrow_next s ≡ read (next (is_sign WordArrow) (λ _. done true) (next (is_sign ByteArrow) (λ _. done false) refuse)) s
arrow_as s = arrow_at s.rest s.opened

pub ruleset arrows = (arrow_as)

pub at_arrow : (xs : List Lexeme) → heads is_arrow xs ≡ (heads (is_sign ByteArrow) xs || heads (is_sign WordArrow) xs)
at_arrow [] = refl
at_arrow (Sign WordArrow ∷ xs) = refl
at_arrow (_ ∷ xs) = refl

pub at_factor : (xs : List Lexeme) → heads is_factor_sign xs ≡ (heads (is_sign Times) xs || heads (is_sign Divide) xs || heads (is_sign Remainder) xs)
at_factor [] = refl
at_factor (Sign WordArrow ∷ xs) = refl
at_factor (_ ∷ xs) = refl

pub at_term : (xs : List Lexeme) → heads is_term_sign xs ≡ (heads (is_sign Plus) xs || heads (is_sign Minus) xs)
at_term [] = refl
at_term (Sign WordArrow ∷ xs) = refl
at_term (_ ∷ xs) = refl
