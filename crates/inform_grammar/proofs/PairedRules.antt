-- In each rule and in a program, where one connective can't stand, the other one can't either.
use Rattle.std.proofs.Common.{◌≡◌, ℕ, Bool, true, false, List, [], ◌∷◌, Option, Some, None, refl}
use Rattle.std.specs.Bool.{MatchBool}
use Rattle.std.specs.Prelude.{⊤}
use Rattle.inform_tree.specs.declared.values.Const.{Const}
use Rattle.inform_tree.specs.declared.values.Const.TheVariants as k
use Rattle.inform_tree.specs.Values.{Expression}
use Rattle.inform_tree.specs.Statements as s
use Rattle.inform_tree.specs.Statements.{Statement, Assignment}
use Rattle.inform_tree.specs.Conditions.{Condition}
use Rattle.inform_lexemes.specs.declared.symbols.Symbol.TheVariants.{Semicolon, Comma, LeftRound, LeftBrace, LeftSquare, And, Or, Not, Plus, Minus, Times, Divide, Remainder}
use Rattle.inform_lexemes.specs.declared.keywords.Keyword.TheVariants as w
use Rattle.inform_lexemes.specs.Lexemes.{Lexeme, Word, Name, Number, Character, Quoted, Sign}
use Rattle.inform_grammar.specs.Rules as r
use Rattle.inform_grammar.specs.Rules.{Rule, TreeOf, SwitchPart, Said}
use Rattle.inform_grammar.specs.Plan.{Plan, done, refuse, next, maybe, chain, shut, ◌>>=◌, take, one, onward}
use Rattle.inform_grammar.specs.ValueRules.{constant, entry, arguments, name_after, entry_after, primary, unary, factor, factors_after, product, term, terms_after, value, argument}
use Rattle.inform_grammar.specs.ConditionRules.{relation_after, value_after, bracket_after, test, member, tests_after, guarded}
use Rattle.inform_grammar.specs.StatementRules.{change_after, change, statement_after, item, further_item, range_after, choice, further_choice, choices_after, head_after, part_after, cases_of, default_after, cases_after, switch, body_of, else_after, in_brackets, if_after, while_after, do_after, for_body, for_last, for_test, for_after, return_after, print_after, read_after, statement, body, part_of, part}
use Rattle.inform_grammar.specs.Rule.{directive, local, program, rule}
use Rattle.inform_grammar.specs.Trees.{AllOf, AnyOf, Guard, Join, Plain, Tested}
use Rattle.inform_grammar.proofs.Opened.{opened}
use Rattle.inform_grammar.proofs.Steps.{starts}
use Rattle.inform_grammar.proofs.Paired.{Meets, Barred, Follows, Paired, PairedIfAny, paired-then, paired-onward}

-- ---- each kind of plan

-- no connective passes the test
abbrev Bare : (Lexeme → Bool) → Type 0
Bare test = (test (Sign And) ≡ false) × (test (Sign Or) ≡ false)

past : (a b : Bool) (M P : Type 0) → a ≡ false → b ≡ false → P → MatchBool a ⊤ (MatchBool b M P)
past true b M P e f h = absurd (cc)
past false true M P e f h = absurd (cc)
past false false M P e f h = h

not-barred : (a b c d : Bool) (P : Type 0) → a ≡ false → b ≡ false → c ≡ false → d ≡ false → P → Barred a b c d P
not-barred true b c d P e f g h i = tt
not-barred false true c d P e f g h i = tt
not-barred false false true d P e f g h i = absurd (cc)
not-barred false false false true P e f g h i = tt
not-barred false false false false P e f g h i = i

done-paired : {X : Type 0} {x : X} → Paired (done x)
done-paired = record { both = (tt, tt); leading = tt }

refuse-paired : {X : Type 0} → Paired {X = X} refuse
refuse-paired = record { both = (tt, tt); leading = tt }

shut-paired : {X : Type 0} {p : Plan X} → Paired p → Paired (shut p)
shut-paired h = record { both = h.both; leading = h.leading }

next-paired : {X : Type 0} {test : Lexeme → Bool} {k : Lexeme → Plan X} {q : Plan X} → Bare test → ((x : Lexeme) → Paired (k x)) → Paired q → Paired (next test k q)
next-paired {test = test} {q = q} b g h = record {
  both = (
    past (test (Sign And)) (test (Sign Or)) (Meets (Sign And) q) (Follows (Sign And) (Sign Or) q) b.0 b.1 h.both.0,
    past (test (Sign Or)) (test (Sign And)) (Meets (Sign Or) q) (Follows (Sign Or) (Sign And) q) b.1 b.0 h.both.1,
  );
  leading = (λ x. ((g x).both, (g x).leading), h.leading);
}

take-paired : {X : Type 0} {test : Lexeme → Bool} {p : Plan X} → Bare test → Paired p → Paired (take test p)
take-paired b h = next-paired b (λ _. h) refuse-paired

maybe-paired : {X : Type 0} {r : Rule} {k : TreeOf r → Plan X} {q : Plan X} → Bare (starts r) → ((x : TreeOf r) → Paired (k x)) → Paired q → Paired (maybe r k q)
maybe-paired {r = r} {q = q} b g h = record {
  both = (
    past (starts r (Sign And)) (starts r (Sign Or)) (Meets (Sign And) q) (Follows (Sign And) (Sign Or) q) b.0 b.1 h.both.0,
    past (starts r (Sign Or)) (starts r (Sign And)) (Meets (Sign Or) q) (Follows (Sign Or) (Sign And) q) b.1 b.0 h.both.1,
  );
  leading = (λ x. ((g x).both, (g x).leading), h.leading);
}

one-paired : {X : Type 0} {r : Rule} {k : TreeOf r → Plan X} → Bare (starts r) → ((x : TreeOf r) → Paired (k x)) → Paired (one r k)
one-paired b g = maybe-paired b g refuse-paired

chain-paired : {X : Type 0} {r : Rule} {test : Lexeme → Bool} {front : List (TreeOf r)} {k : List (TreeOf r) → Plan X} → Bare (starts r) → Bare test
    → ((xs : List (TreeOf r)) → Paired (k xs)) → Paired (chain r test front k)
chain-paired {r = r} {test = test} {k = k} b c g =
    let one : Barred (starts r (Sign And)) (test (Sign And)) (starts r (Sign Or)) (test (Sign Or)) ((xs : List (TreeOf r)) → Follows (Sign And) (Sign Or) (k xs)) =
    not-barred (starts r (Sign And)) (test (Sign And)) (starts r (Sign Or)) (test (Sign Or)) _ b.0 c.0 b.1 c.1 (λ xs. (g xs).both.0) in
    let other : Barred (starts r (Sign Or)) (test (Sign Or)) (starts r (Sign And)) (test (Sign And)) ((xs : List (TreeOf r)) → Follows (Sign Or) (Sign And) (k xs)) =
    not-barred (starts r (Sign Or)) (test (Sign Or)) (starts r (Sign And)) (test (Sign And)) _ b.1 c.1 b.0 c.0 (λ xs. (g xs).both.1) in
    record { both = (one, other); leading = (one, other, λ xs. ((g xs).both, (g xs).leading)) }

many-paired : {X : Type 0} {r : Rule} {front : List (TreeOf r)} {k : List (TreeOf r) → Plan X} → Bare (starts r) → ((xs : List (TreeOf r)) → Paired (k xs))
    → Paired (chain r (λ _. false) front k)
many-paired b g = chain-paired b (refl, refl) g

-- ---- values

bare-value : Bare (starts r.Value)
unfolding opened
bare-value = (refl, refl)

bare-primary : Bare (starts r.Primary)
unfolding opened
bare-primary = (refl, refl)

bare-constant : Bare (starts r.Constant)
unfolding opened
bare-constant = (refl, refl)

paired-constant : (x : Lexeme) → PairedIfAny (constant x)
unfolding opened
paired-constant (Number n) = done-paired
paired-constant (Character byte) = done-paired
paired-constant (Name name) = done-paired
paired-constant (Sign Minus) = next-paired (refl, refl) (λ x. done-paired) refuse-paired
paired-constant _ = tt

paired-entry : (x : Lexeme) → PairedIfAny (entry x)
unfolding opened
paired-entry (Number n) = done-paired
paired-entry (Character byte) = done-paired
paired-entry (Name name) = done-paired
paired-entry (Sign LeftRound) = take-paired (refl, refl) (next-paired (refl, refl) (λ x. take-paired (refl, refl) done-paired) refuse-paired)
paired-entry _ = tt

paired-arguments : Paired arguments
unfolding opened
paired-arguments =
    maybe-paired bare-value (λ x. many-paired (refl, refl) (λ xs. take-paired (refl, refl) done-paired)) (take-paired (refl, refl) done-paired)

paired-name : (name : List ℕ) → Paired (name_after name)
unfolding name_after
paired-name name = next-paired (refl, refl) (λ x. paired-then paired-arguments (λ xs. done-paired)) done-paired

paired-entry-after : (name : List ℕ) → Paired (entry_after name)
unfolding entry_after
paired-entry-after name = next-paired (refl, refl) (λ a. one-paired bare-primary (λ x. done-paired)) (paired-name name)

paired-primary : (x : Lexeme) → PairedIfAny (primary x)
unfolding primary
paired-primary (Number n) = done-paired
paired-primary (Character byte) = done-paired
paired-primary (Name name) = paired-name name
paired-primary (Word w.Random) = take-paired (refl, refl) (one-paired bare-value (λ x. take-paired (refl, refl) done-paired))
paired-primary (Sign LeftRound) = one-paired bare-value (λ x. take-paired (refl, refl) done-paired)
paired-primary _ = tt

paired-unary : (x : Lexeme) → PairedIfAny (unary x)
unfolding unary
paired-unary (Name name) = paired-entry-after name
paired-unary (Sign Minus) = one-paired bare-primary (λ x. done-paired)
paired-unary x = paired-primary x

paired-factor : (x : Lexeme) → PairedIfAny (factor x)
unfolding opened
paired-factor (Sign Times) = one-paired (refl, refl) (λ x. done-paired)
paired-factor (Sign Divide) = one-paired (refl, refl) (λ x. done-paired)
paired-factor (Sign Remainder) = one-paired (refl, refl) (λ x. done-paired)
paired-factor _ = tt

paired-factors : (x : Expression) → Paired (factors_after x)
unfolding opened
paired-factors x = many-paired (refl, refl) (λ ys. done-paired)

paired-product : (x : Lexeme) → PairedIfAny (product x)
unfolding product
paired-product x = paired-onward (unary x) factors_after (paired-unary x) paired-factors

paired-term : (x : Lexeme) → PairedIfAny (term x)
unfolding opened
paired-term (Sign Plus) = one-paired (refl, refl) (λ x. done-paired)
paired-term (Sign Minus) = one-paired (refl, refl) (λ x. done-paired)
paired-term _ = tt

paired-terms : (x : Expression) → Paired (terms_after x)
unfolding opened
paired-terms x = many-paired (refl, refl) (λ ys. done-paired)

paired-value : (x : Lexeme) → PairedIfAny (value x)
unfolding value
paired-value x = paired-onward (product x) terms_after (paired-product x) paired-terms

paired-argument : (x : Lexeme) → PairedIfAny (argument x)
unfolding argument
paired-argument (Sign Comma) = one-paired bare-value (λ x. done-paired)
paired-argument _ = tt

-- ---- conditions

bare-condition : Bare (starts r.Condition)
unfolding opened
bare-condition = (refl, refl)

bare-test : Bare (starts r.Test)
unfolding opened
bare-test = (refl, refl)

paired-relation : (x : Expression) → Paired (relation_after x)
unfolding relation_after
paired-relation x = next-paired (refl, refl) (λ sign. one-paired bare-value (λ y. done-paired)) done-paired

paired-value-after : (x : Expression) → Paired (value_after x)
unfolding value_after
paired-value-after x = paired-then (paired-factors x) paired-terms

paired-bracket : (x : Guard) → Paired (bracket_after x)
unfolding bracket_after
paired-bracket (Plain x) = paired-then (paired-value-after x) paired-relation
paired-bracket (Tested x) = done-paired

paired-test : (x : Lexeme) → PairedIfAny (test x)
unfolding test
paired-test (Sign Not) = take-paired (refl, refl) (one-paired bare-condition (λ x. take-paired (refl, refl) done-paired))
paired-test (Sign LeftRound) = one-paired bare-condition (λ x. take-paired (refl, refl) (paired-bracket x))
paired-test x = paired-onward (value x) relation_after (paired-value x) paired-relation

paired-member : (join : Join) (x : Lexeme) → PairedIfAny (member join x)
unfolding member
paired-member AllOf (Sign And) = one-paired bare-test (λ x. done-paired)
paired-member AnyOf (Sign Or) = one-paired bare-test (λ x. done-paired)
paired-member _ _ = tt

-- after the first test both may stand
paired-tests : (x : Guard) → Paired (tests_after x)
unfolding opened
paired-tests x = record {
  both = (tt, tt);
  leading = (λ y. ((tt, tt), (tt, tt, λ xs. ((tt, tt), tt))), (λ y. ((tt, tt), (tt, tt, λ xs. ((tt, tt), tt))), tt));
}

paired-guarded : (x : Lexeme) → PairedIfAny (guarded x)
unfolding guarded
paired-guarded x = paired-onward (test x) tests_after (paired-test x) paired-tests

-- ---- statements

bare-body : Bare (starts r.Body)
unfolding opened
bare-body = (refl, refl)

bare-statement : Bare (starts r.Statement)
unfolding opened
bare-statement = (refl, refl)

bare-change : Bare (starts r.Change)
unfolding opened
bare-change = (refl, refl)

paired-change-after : (name : List ℕ) → Paired (change_after name)
unfolding change_after
paired-change-after name =
    next-paired (refl, refl) (λ y. one-paired bare-value (λ x. done-paired))
    (next-paired (refl, refl) (λ a. one-paired bare-primary (λ i. take-paired (refl, refl) (one-paired bare-value (λ x. done-paired))))
    (next-paired (refl, refl) (λ y. done-paired) (next-paired (refl, refl) (λ y. done-paired) refuse-paired)))

paired-change : (x : Lexeme) → PairedIfAny (change x)
unfolding change
paired-change (Name name) = paired-change-after name
paired-change _ = tt

paired-statement-after : (name : List ℕ) → Paired (statement_after name)
unfolding statement_after
paired-statement-after name =
    next-paired (refl, refl) (λ y. paired-then paired-arguments (λ xs. take-paired (refl, refl) done-paired))
    (paired-then (paired-change-after name) (λ x. take-paired (refl, refl) done-paired))

paired-item : (x : Lexeme) → PairedIfAny (item x)
unfolding item
paired-item (Quoted text) = done-paired
paired-item (Sign LeftRound) =
    maybe-paired bare-value (λ x. take-paired (refl, refl) (paired-then (paired-value-after x) (λ y. done-paired)))
    (take-paired (refl, refl) (take-paired (refl, refl) (one-paired bare-value (λ x. done-paired))))
paired-item x = paired-onward (value x) (λ y. done (s.Value y)) (paired-value x) (λ y. done-paired)

paired-further-item : (x : Lexeme) → PairedIfAny (further_item x)
unfolding opened
paired-further-item (Sign Comma) = one-paired (refl, refl) (λ x. done-paired)
paired-further-item _ = tt

paired-range : (x : Const) → Paired (range_after x)
unfolding range_after
paired-range x = next-paired (refl, refl) (λ y. one-paired bare-constant (λ y. done-paired)) done-paired

paired-choice : (x : Lexeme) → PairedIfAny (choice x)
unfolding choice
paired-choice x = paired-onward (constant x) range_after (paired-constant x) paired-range

paired-further-choice : (x : Lexeme) → PairedIfAny (further_choice x)
unfolding opened
paired-further-choice (Sign Comma) = one-paired (refl, refl) (λ x. done-paired)
paired-further-choice _ = tt

paired-choices : (x : s.Choice) → Paired (choices_after x)
unfolding opened
paired-choices x = many-paired (refl, refl) (λ xs. take-paired (refl, refl) done-paired)

paired-head : (x : Const) → Paired (head_after x)
unfolding head_after
paired-head x = paired-then (paired-then (paired-range x) paired-choices) (λ xs. done-paired)

paired-part-after : (name : List ℕ) → Paired (part_after name)
unfolding part_after
paired-part-after name =
    let head = paired-head (k.Name name) in
    let said : Paired (statement_after name >>= λ x. done (Said x)) = paired-then (paired-statement-after name) (λ x. done-paired) in
    record { both = ((refl, said.both.0), (refl, said.both.1)); leading = (head.leading, said.leading) }

paired-default : (x : Expression) (cases : List (List s.Choice × List Statement)) → Paired (default_after x cases)
unfolding default_after
paired-default x cases =
    next-paired (refl, refl) (λ y. take-paired (refl, refl) (many-paired bare-statement (λ xs. take-paired (refl, refl) done-paired)))
    (take-paired (refl, refl) done-paired)

bare-part : Bare (starts r.Part)
unfolding opened
bare-part = (refl, refl)

bare-choice : Bare (starts r.Choice)
unfolding opened
bare-choice = (refl, refl)

paired-cases : (x : Expression) → Paired (cases_after x)
unfolding cases_after
paired-cases x =
    maybe-paired bare-choice (λ first. paired-then (paired-choices first) (λ xs. many-paired bare-part (λ ps. paired-default x (cases_of xs ps)))) (paired-default x [])

paired-switch : Paired switch
unfolding switch
paired-switch = take-paired (refl, refl) (one-paired bare-value (λ x. take-paired (refl, refl) (take-paired (refl, refl) (paired-cases x))))

paired-brackets : {X : Type 0} {k : Guard → Plan X} → ((x : Guard) → Paired (k x)) → Paired (in_brackets k)
paired-brackets g = take-paired (refl, refl) (one-paired bare-condition (λ x. take-paired (refl, refl) (g x)))

paired-else : (x : Guard) (xs : List Statement) → Paired (else_after x xs)
unfolding else_after
paired-else x xs = next-paired (refl, refl) (λ y. one-paired bare-body (λ ys. shut-paired done-paired)) (shut-paired done-paired)

paired-if : Paired if_after
unfolding if_after
paired-if = paired-brackets (λ x. one-paired bare-body (paired-else x))

paired-while : Paired while_after
unfolding while_after
paired-while = paired-brackets (λ x. one-paired bare-body (λ xs. shut-paired done-paired))

paired-do : Paired do_after
unfolding do_after
paired-do = one-paired bare-body (λ xs. take-paired (refl, refl) (paired-brackets (λ x. take-paired (refl, refl) (shut-paired done-paired))))

paired-for-body : (first : Option Assignment) (x : Option Guard) (last : Option Assignment) → Paired (for_body first x last)
unfolding for_body
paired-for-body first x last = one-paired bare-body (λ xs. shut-paired done-paired)

paired-for-last : (first : Option Assignment) (x : Option Guard) → Paired (for_last first x)
unfolding for_last
paired-for-last first x =
    maybe-paired bare-change (λ last. take-paired (refl, refl) (paired-for-body first x (Some last))) (take-paired (refl, refl) (paired-for-body first x None))

paired-for-test : (first : Option Assignment) → Paired (for_test first)
unfolding for_test
paired-for-test first =
    maybe-paired bare-condition (λ x. take-paired (refl, refl) (paired-for-last first (Some x))) (take-paired (refl, refl) (paired-for-last first None))

paired-for : Paired for_after
unfolding for_after
paired-for =
    take-paired (refl, refl) (maybe-paired bare-change (λ first. take-paired (refl, refl) (paired-for-test (Some first))) (take-paired (refl, refl) (paired-for-test None)))

paired-return : Paired return_after
unfolding return_after
paired-return = maybe-paired bare-value (λ x. take-paired (refl, refl) done-paired) (take-paired (refl, refl) done-paired)

paired-print : Paired print_after
unfolding opened
paired-print = one-paired (refl, refl) (λ x. many-paired (refl, refl) (λ xs. take-paired (refl, refl) done-paired))

paired-read : Paired read_after
unfolding read_after
paired-read = next-paired (refl, refl) (λ line. next-paired (refl, refl) (λ words. take-paired (refl, refl) done-paired) refuse-paired) refuse-paired

-- after whatever begins a statement, a connective is taken or barred where the other one is taken
paired-statement : (x : Lexeme) → PairedIfAny (statement x)
unfolding statement
paired-statement (Sign Semicolon) = done-paired
paired-statement (Sign LeftBrace) = many-paired bare-statement (λ xs. take-paired (refl, refl) done-paired)
paired-statement (Name name) = paired-statement-after name
paired-statement (Word w.If) = paired-if
paired-statement (Word w.While) = paired-while
paired-statement (Word w.Do) = paired-do
paired-statement (Word w.For) = paired-for
paired-statement (Word w.Switch) = paired-switch
paired-statement (Word w.Break) = take-paired (refl, refl) done-paired
paired-statement (Word w.Continue) = take-paired (refl, refl) done-paired
paired-statement (Word w.Quit) = take-paired (refl, refl) done-paired
paired-statement (Word w.Rtrue) = take-paired (refl, refl) done-paired
paired-statement (Word w.Rfalse) = take-paired (refl, refl) done-paired
paired-statement (Word w.Return) = paired-return
paired-statement (Word w.NewLine) = take-paired (refl, refl) done-paired
paired-statement (Word w.Print) = paired-print
paired-statement (Word w.Read) = paired-read
paired-statement _ = tt

paired-body-of : (o : Option (Plan Statement)) (x : Lexeme) → PairedIfAny o → PairedIfAny (body_of o x)
unfolding body_of
paired-body-of o (Sign LeftBrace) h = many-paired bare-statement (λ xs. take-paired (refl, refl) done-paired)
paired-body-of o x h = paired-onward o (λ y. done (y ∷ [])) h (λ y. done-paired)

paired-body : (x : Lexeme) → PairedIfAny (body x)
unfolding body
paired-body x = paired-body-of (statement x) x (paired-statement x)

paired-part-of : (o q : Option (Plan SwitchPart)) → PairedIfAny o → PairedIfAny q → PairedIfAny (part_of o q)
unfolding part_of
paired-part-of None q g h = h
paired-part-of (Some p) q g h = g

paired-part : (x : Lexeme) → PairedIfAny (part x)
unfolding part
paired-part (Name name) = paired-part-after name
paired-part x =
    paired-part-of (onward (constant x) head_after) (onward (statement x) (λ y. done (Said y))) (paired-onward (constant x) head_after (paired-constant x) paired-head)
    (paired-onward (statement x) (λ y. done (Said y)) (paired-statement x) (λ y. done-paired))

-- ---- directives

-- after whatever begins a directive, a connective is taken or barred where the other one is taken
paired-directive : (x : Lexeme) → PairedIfAny (directive x)
unfolding opened
paired-directive (Word w.Constant) =
    next-paired (refl, refl) (λ a. take-paired (refl, refl) (one-paired (refl, refl) (λ x. take-paired (refl, refl) done-paired))) refuse-paired
paired-directive (Word w.Global) =
    next-paired (refl, refl) (λ a. next-paired (refl, refl) (λ y. one-paired (refl, refl) (λ x. take-paired (refl, refl) done-paired))
    (take-paired (refl, refl) done-paired)) refuse-paired
paired-directive (Word w.Array) =
    next-paired (refl, refl) (λ a. next-paired (refl, refl) (λ b. one-paired (refl, refl) (λ x.
    many-paired (refl, refl) (λ xs. take-paired (refl, refl) done-paired))) refuse-paired) refuse-paired
paired-directive (Sign LeftSquare) =
    next-paired (refl, refl) (λ a. many-paired (refl, refl) (λ locals. take-paired (refl, refl) (many-paired (refl, refl)
    (λ xs. take-paired (refl, refl) (take-paired (refl, refl) done-paired))))) refuse-paired
paired-directive _ = tt

paired-local : (x : Lexeme) → PairedIfAny (local x)
unfolding local
paired-local (Name name) = done-paired
paired-local _ = tt

-- ---- all rules, and the program

-- after whatever begins a rule, a connective is taken or barred where the other one is taken
pub paired : (r : Rule) (x : Lexeme) → PairedIfAny (rule r x)
unfolding rule
paired r.Constant x = paired-constant x
paired r.Entry x = paired-entry x
paired r.Primary x = paired-primary x
paired r.Unary x = paired-unary x
paired r.Factor x = paired-factor x
paired r.Product x = paired-product x
paired r.Term x = paired-term x
paired r.Value x = paired-value x
paired r.Argument x = paired-argument x
paired r.Test x = paired-test x
paired (r.Member join) x = paired-member join x
paired r.Condition x = paired-guarded x
paired r.Change x = paired-change x
paired r.Item x = paired-item x
paired r.FurtherItem x = paired-further-item x
paired r.Statement x = paired-statement x
paired r.Body x = paired-body x
paired r.Choice x = paired-choice x
paired r.FurtherChoice x = paired-further-choice x
paired r.Part x = paired-part x
paired r.Local x = paired-local x
paired r.Directive x = paired-directive x

pub program-paired : Paired program
unfolding opened
program-paired = record {
  both = (λ xs. (refl, tt), λ xs. (refl, tt));
  leading = (λ xs. (refl, tt), λ xs. (refl, tt), λ xs. (((refl, tt), (refl, tt)), (tt, tt)));
}
