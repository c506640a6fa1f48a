-- The lexemes with which conditions are printed, before those that follow.
use Rattle.std.specs.Prelude.{Bool, true, false, List, ◌∷◌}
use Rattle.inform_tree.specs.Conditions as c
use Rattle.inform_tree.specs.Conditions.{Condition, Conditions}
use Rattle.inform_lexemes.specs.declared.symbols.Symbol.{Symbol}
use Rattle.inform_lexemes.specs.declared.symbols.Symbol.TheVariants.{LeftRound, RightRound, And, Or, Not}
use Rattle.inform_lexemes.specs.Lexemes.{Lexeme, Sign}
use Rattle.inform_grammar.specs.Lexemes.{relation_sign}
use Rattle.inform_printer.specs.ValueLexemes.{bracketed, separated, value_lexemes}

-- The truth value tells whether it is a member of a chain: a chain in another one stands in
-- brackets. Of members it tells whether
-- one stands before them.
abbrev mutual
  pub condition_lexemes : Bool → Condition → List Lexeme → List Lexeme
  condition_lexemes member (c.Compare relation left right) rest =
      value_lexemes false left (Sign (relation_sign relation) ∷ value_lexemes false right rest)
  condition_lexemes member (c.Nonzero x) rest = value_lexemes false x rest
  condition_lexemes member (c.All xs) rest =
      bracketed member (member_lexemes And false xs) rest
  condition_lexemes member (c.Any xs) rest =
      bracketed member (member_lexemes Or false xs) rest
  condition_lexemes member (c.Not x) rest =
      Sign Not ∷ Sign LeftRound ∷ condition_lexemes false x (Sign RightRound ∷ rest)

  -- with this connective between them
  pub member_lexemes : Symbol → Bool → Conditions → List Lexeme → List Lexeme
  member_lexemes symbol later c.NoConditions rest = rest
  member_lexemes symbol later (c.MoreConditions x xs) rest =
      separated later symbol (condition_lexemes true x (member_lexemes symbol true xs rest))
