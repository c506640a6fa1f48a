-- With which lexemes each rule begins, and what follows.
use Rattle.std.specs.Prelude.{ℕ, List, [], ◌∷◌, Option, Some, None}
use Rattle.inform_tree.specs.Programs as d
use Rattle.inform_tree.specs.Programs.{DirectiveTree}
use Rattle.inform_lexemes.specs.declared.symbols.Symbol.TheVariants.{Semicolon, LeftSquare, RightSquare, Assign, WordArrow}
use Rattle.inform_lexemes.specs.declared.keywords.Keyword.TheVariants as w
use Rattle.inform_lexemes.specs.Lexemes.{Lexeme, Word, Name, Sign, is_sign, is_name}
use Rattle.inform_grammar.specs.Rules as r
use Rattle.inform_grammar.specs.Rules.{Rule, TreeOf}
use Rattle.inform_grammar.specs.Lexemes.{is_arrow, name_in, any_lexeme}
use Rattle.inform_grammar.specs.Plan.{Plan, done, refuse, next, look, many, take, one}
use Rattle.inform_grammar.specs.ValueRules.{constant, entry, primary, unary, factor, product, term, value, argument}
use Rattle.inform_grammar.specs.ConditionRules.{test, member, guarded}
use Rattle.inform_grammar.specs.StatementRules.{change, item, further_item, statement, body, choice, further_choice, part}
use Rattle.inform_grammar.specs.Trees.{routine_tree}

-- ---- directives

-- a name, which must stand here
abbrev pub named : {X : Type 0} → (List ℕ → Plan X) → Plan X
named k = next is_name (λ x. k (name_in x)) refuse

unfoldable pub constant_after : Plan DirectiveTree
constant_after =
    named (λ name. take (is_sign Assign)
    (one r.Constant (λ x. take (is_sign Semicolon) (done (d.Constant name x)))))

unfoldable pub global_after : Plan DirectiveTree
global_after =
    named (λ name. next (is_sign Assign)
    (λ _. one r.Constant (λ x. take (is_sign Semicolon) (done (d.Global name (Some x)))))
    (take (is_sign Semicolon) (done (d.Global name None))))

unfoldable pub array_after : Plan DirectiveTree
array_after =
    named (λ name. next is_arrow (λ a. one r.Entry (λ x. many r.Entry (x ∷ [])
    (λ xs. take (is_sign Semicolon) (done (d.Array name (is_sign WordArrow a) xs))))) refuse)

unfoldable pub routine_after : Plan DirectiveTree
routine_after =
    named (λ name. many r.Local [] (λ locals. take (is_sign Semicolon) (many r.Statement []
    (λ xs. take (is_sign RightSquare)
    (take (is_sign Semicolon) (done (routine_tree name locals xs)))))))

unfoldable pub directive : Lexeme → Option (Plan DirectiveTree)
directive (Word w.Constant) = Some constant_after
directive (Word w.Global) = Some global_after
directive (Word w.Array) = Some array_after
directive (Sign LeftSquare) = Some routine_after
directive _ = None

unfoldable pub local : Lexeme → Option (Plan (List ℕ))
local (Name name) = Some (done name)
local _ = None

-- a program is directives, and nothing after them
unfoldable pub program : Plan (List DirectiveTree)
program = many r.Directive [] (λ xs. look any_lexeme refuse (done xs))

-- ---- all rules

unfoldable pub rule : (r : Rule) → Lexeme → Option (Plan (TreeOf r))
rule r.Constant x = constant x
rule r.Entry x = entry x
rule r.Primary x = primary x
rule r.Unary x = unary x
rule r.Factor x = factor x
rule r.Product x = product x
rule r.Term x = term x
rule r.Value x = value x
rule r.Argument x = argument x
rule r.Test x = test x
rule (r.Member join) x = member join x
rule r.Condition x = guarded x
rule r.Change x = change x
rule r.Item x = item x
rule r.FurtherItem x = further_item x
rule r.Statement x = statement x
rule r.Body x = body x
rule r.Choice x = choice x
rule r.FurtherChoice x = further_choice x
rule r.Part x = part x
rule r.Local x = local x
rule r.Directive x = directive x
