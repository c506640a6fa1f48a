-- What may stand after what is printed, so that it ends there.
use Rattle.std.proofs.Common.{◌≡◌, ℕ, true, false, List, [], ◌∷◌, refl}
use Rattle.inform_tree.specs.declared.values.SumOp.TheVariants.{Add, Sub}
use Rattle.inform_tree.specs.declared.values.ProdOp.TheVariants.{Mul, Div, Rem}
use Rattle.inform_tree.specs.declared.conditions.Relation.{Relation}
use Rattle.inform_tree.specs.declared.conditions.Relation.TheVariants.{Eq, Ne, Lt, Gt, Le, Ge}
use Rattle.inform_tree.specs.Values as v
use Rattle.inform_tree.specs.Values.{Expression, Terms, Factors}
use Rattle.inform_lexemes.specs.declared.symbols.Symbol.TheVariants.{Semicolon, Comma, Colon, LeftRound, RightRound}
use Rattle.inform_lexemes.specs.Lexemes.{Lexeme, Word, Reserved, Name, Number, Character, Quoted, Sign, is_sign}
use Rattle.inform_grammar.specs.Lexemes.{No, is_arrow, is_factor_sign, is_term_sign, is_relation, is_connective, relation_sign, connective}
use Rattle.inform_grammar.specs.Values.{begins_entry}
use Rattle.inform_grammar.specs.Trees.{Join, AllOf, AnyOf}
use Rattle.inform_printer.specs.ValueLexemes.{value_lexemes, term_lexemes, factor_lexemes}

-- after an operand: neither a bracket nor an arrow
pub record OperandEnds (rest : List Lexeme) : Type 0 where
  pub bracket : No (is_sign LeftRound) rest
  pub arrow : No is_arrow rest

-- after a product: nor a sign of one
pub record ProductEnds (rest : List Lexeme) : Type 0 where
  pub operand : OperandEnds rest
  pub factor : No is_factor_sign rest

-- after an expression: nor a sign of a sum
pub record ValueEnds (rest : List Lexeme) : Type 0 where
  pub product : ProductEnds rest
  pub term : No is_term_sign rest

-- after a condition of a chain: nor a relation
pub record TestEnds (rest : List Lexeme) : Type 0 where
  pub value : ValueEnds rest
  pub relation : No is_relation rest

-- after a condition: nor a connective
pub record ConditionEnds (rest : List Lexeme) : Type 0 where
  pub test : TestEnds rest
  pub connective : No is_connective rest

-- ---- what stands there

abbrev ends : {rest : List Lexeme} → No (is_sign LeftRound) rest → No is_arrow rest
    → No is_factor_sign rest → No is_term_sign rest → ValueEnds rest
ends b a f t =
    let operand : OperandEnds _ = record { bracket = b; arrow = a } in
    record { product = record { operand = operand; factor = f }; term = t }

pub at_bracket : (rest : List Lexeme) → ConditionEnds (Sign RightRound ∷ rest)
at_bracket rest =
    let test : TestEnds _ = record { value = ends refl refl refl refl; relation = refl } in
    record { test = test; connective = refl }

pub at_colon : (rest : List Lexeme) → ConditionEnds (Sign Colon ∷ rest)
at_colon rest =
    let test : TestEnds _ = record { value = ends refl refl refl refl; relation = refl } in
    record { test = test; connective = refl }

pub at_comma : (rest : List Lexeme) → ValueEnds (Sign Comma ∷ rest)
at_comma rest = ends refl refl refl refl

pub at_semicolon : (rest : List Lexeme) → ValueEnds (Sign Semicolon ∷ rest)
at_semicolon rest = ends refl refl refl refl

pub at_relation : (relation : Relation) (rest : List Lexeme)
    → ValueEnds (Sign (relation_sign relation) ∷ rest)
at_relation Eq rest = ends refl refl refl refl
at_relation Ne rest = ends refl refl refl refl
at_relation Lt rest = ends refl refl refl refl
at_relation Gt rest = ends refl refl refl refl
at_relation Le rest = ends refl refl refl refl
at_relation Ge rest = ends refl refl refl refl

pub at_connective : (join : Join) (rest : List Lexeme) → TestEnds (Sign (connective join) ∷ rest)
at_connective AllOf rest = record { value = ends refl refl refl refl; relation = refl }
at_connective AnyOf rest = record { value = ends refl refl refl refl; relation = refl }

-- further parts of a chain, or what follows them
pub at_terms : (xs : Terms) (rest : List Lexeme) → ValueEnds rest
    → ProductEnds (term_lexemes xs rest)
at_terms v.NoTerms rest e = e.product
at_terms (v.MoreTerms Add x xs) rest e =
    record { operand = record { bracket = refl; arrow = refl }; factor = refl }
at_terms (v.MoreTerms Sub x xs) rest e =
    record { operand = record { bracket = refl; arrow = refl }; factor = refl }

pub at_factors : (xs : Factors) (rest : List Lexeme) → ProductEnds rest
    → OperandEnds (factor_lexemes xs rest)
at_factors v.NoFactors rest e = e.operand
at_factors (v.MoreFactors Mul x xs) rest e = record { bracket = refl; arrow = refl }
at_factors (v.MoreFactors Div x xs) rest e = record { bracket = refl; arrow = refl }
at_factors (v.MoreFactors Rem x xs) rest e = record { bracket = refl; arrow = refl }

-- ---- parts begin no entry

name_is_no_entry : (name : List ℕ) (rest : List Lexeme) → No is_arrow rest
    → begins_entry (Name name ∷ rest) ≡ false
name_is_no_entry name [] h = refl
name_is_no_entry name (Word x ∷ rest) h = refl
name_is_no_entry name (Reserved ∷ rest) h = refl
name_is_no_entry name (Name x ∷ rest) h = refl
name_is_no_entry name (Number x ∷ rest) h = refl
name_is_no_entry name (Character x ∷ rest) h = refl
name_is_no_entry name (Quoted x ∷ rest) h = refl
name_is_no_entry name (Sign x ∷ rest) h = h

-- a printed operand doesn't begin as an entry does, where no arrow follows it
pub part_is_no_entry : (x : Expression) (rest : List Lexeme) → No is_arrow rest
    → begins_entry (value_lexemes true x rest) ≡ false
part_is_no_entry (v.Number n) rest h = refl
part_is_no_entry (v.Char byte) rest h = refl
part_is_no_entry (v.Name name) rest h = name_is_no_entry name rest h
part_is_no_entry (v.Entry name words index) rest h = refl
part_is_no_entry (v.Call name xs) rest h = refl
part_is_no_entry (v.Random limit) rest h = refl
part_is_no_entry (v.Neg operand) rest h = refl
part_is_no_entry (v.Sum first xs) rest h = refl
part_is_no_entry (v.Product first xs) rest h = refl
