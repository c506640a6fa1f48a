-- Statements and programs that were begun can be completed.
use Rattle.std.proofs.Common.{◌≡◌, ℕ, List, [], ◌∷◌, Option, Some, None, Ok, refl}
use Rattle.inform_tree.specs.declared.values.Const.{Const}
use Rattle.inform_tree.specs.declared.values.Const.TheVariants as k
use Rattle.inform_tree.specs.Values.{Expression}
use Rattle.inform_tree.specs.Statements as s
use Rattle.inform_tree.specs.Statements.{Assignment}
use Rattle.inform_tree.specs.Programs.{DirectiveTree}
use Rattle.inform_lexemes.specs.declared.symbols.Symbol.TheVariants.{Semicolon, Comma, Colon, LeftRound, RightRound, LeftBrace, RightBrace, LeftSquare, RightSquare, Assign, ByteArrow}
use Rattle.inform_lexemes.specs.declared.keywords.Keyword.TheVariants as w
use Rattle.inform_lexemes.specs.Lexemes.{Lexeme, Word, Name, Number, Quoted, Sign, is_sign, is_word}
use Rattle.inform_grammar.specs.Rules as r
use Rattle.inform_grammar.specs.Rules.{Rule, SwitchPart, Head, Said}
use Rattle.inform_grammar.specs.Lexemes.{continues_choice, swapped, any_lexeme}
use Rattle.inform_grammar.specs.Plan.{Plan, done, refuse, look, ◌>>=◌, take, one, optional, onward}
use Rattle.inform_grammar.specs.ValueRules.{constant, value}
use Rattle.inform_grammar.specs.StatementRules.{change_after, change, statement_after, item, further_item, range_after, choice, further_choice, choices_after, head_after, part_after, statements_to_brace, cases_of, default_after, cases_after, in_brackets, else_after, for_body, for_last, for_test, for_after, body_of, statement, body, part_of, part}
use Rattle.inform_grammar.specs.Rule.{directive, local, program, rule}
use Rattle.inform_grammar.specs.Reading.{input, reads, no_limit}
use Rattle.inform_grammar.proofs.Opened.{opened}
use Rattle.inform_grammar.proofs.Steps.{starts, done-here}
use Rattle.inform_grammar.proofs.Ready.{Place, Program, Statements, Others, place_of, Stop, Good, Safe, good, good-then, safe-then}
use Rattle.inform_grammar.proofs.ReadyPlans.{done-safe, shut-safe, next-good, next-skip, leads, take-good, take-safe, Witness, maybe-good, maybe-skip, one-good, chain-safe, GoodIfAny}
use Rattle.inform_grammar.proofs.ReadyValues.{free-others, free-statements, bars-none, ready-then, done-good, value-safe, number-primary, number-value, number-constant, number-entry, number-condition, arguments-good, ready-constant, ready-entry, ready-primary, ready-unary, ready-factor, ready-product, ready-term, ready-value, ready-argument, ready-test, ready-member, ready-guarded}
use Rattle.inform_grammar.specs.Trees.{Guard}

-- ---- what begins with a name

change-good : {X : Type 0} {place : Place} (name : List ℕ) (k : Assignment → Plan X) → ((x : Assignment) → Safe place Others (k x)) → Good place (change_after name >>= k)
unfolding opened
change-good name k g =
    next-good (Sign Assign) refl (λ y e. one-good number-value (λ x. g _)) (
      leads (λ a e. one-good number-primary (λ i. take-safe (Sign Assign) refl refl (one-good number-value (λ x. g _)))),
      (leads (λ y e. good (g (s.Inc name))), (leads (λ y e. good (g (s.Dec name))), tt)),
    )

ready-change : (x : Lexeme) → GoodIfAny Others (change x)
unfolding opened
ready-change (Name name) = change-good name done (λ x. done-safe)
ready-change _ = tt

statement-good : (name : List ℕ) → Good Statements (statement_after name)
unfolding opened
statement-good name =
    next-good (Sign LeftRound) refl (λ y e. arguments-good (λ xs. take-good (Sign Semicolon) refl done-good))
    (change-good name (λ x. take (is_sign Semicolon) (done (s.Assign x))) (λ x. take-safe (Sign Semicolon) refl refl done-good)).onward

-- ---- items, choices and lists

number-item : Witness r.Item
unfolding opened
number-item = record { first = Quoted []; plan = done (s.Text []); begins = refl; completes = (done-good).completes }

ready-item : (x : Lexeme) → GoodIfAny Others (item x)
unfolding opened
ready-item (Quoted bytes) = done-good
ready-item (Sign LeftRound) =
    maybe-good {q = take (is_word w.Char) (take (is_sign RightRound) (one r.Value (λ x. done (s.Char x))))} number-value
    (λ x. take-safe (Sign RightRound) refl refl (good (safe-then (value-safe x) (λ y. done-safe {x = s.Value y}))))
    (leads (λ y e. take-good (Sign RightRound) refl (one-good number-value (λ x. done-safe))), tt)
ready-item x = ready-then {place = Others} {between = Others} (value x) (λ y. done (s.Value y)) (ready-value x) (λ y. done-safe)

ready-further-item : (x : Lexeme) → GoodIfAny Others (further_item x)
unfolding opened
ready-further-item (Sign Comma) = one-good number-item (λ x. done-safe)
ready-further-item _ = tt

range-safe : {X : Type 0} {place : Place} (x : Const) (k : s.Choice → Plan X) → ((y : s.Choice) → Safe place Others (k y)) → Safe place Others (range_after x >>= k)
unfolding opened
range-safe x k g = next-skip (free-others (is_word w.To) (refl, refl, refl, refl, refl, refl, refl)) (λ y e. one-good number-constant (λ z. g _)) (g _)

ready-choice : (x : Lexeme) → GoodIfAny Others (choice x)
unfolding opened
ready-choice x = ready-then (constant x) range_after (ready-constant x) (λ y. range-safe y done (λ z. done-safe))

number-choice : Witness r.Choice
unfolding opened
number-choice = record {
  first = Number 0;
  plan = range_after (k.Number 0);
  begins = refl;
  completes = (range-safe {place = Others} (k.Number 0) done (λ z. done-safe)).closes.completes;
}

ready-further-choice : (x : Lexeme) → GoodIfAny Others (further_choice x)
unfolding opened
ready-further-choice (Sign Comma) = one-good number-choice (λ x. done-safe)
ready-further-choice _ = tt

choices-safe : {X : Type 0} {place : Place} (x : s.Choice) (k : List s.Choice → Plan X) → ((xs : List s.Choice) → Good place (k xs))
    → Safe place Others (choices_after x >>= k)
unfolding opened
choices-safe x k g =
    chain-safe (free-others (starts r.FurtherChoice) (refl, refl, refl, refl, refl, refl, refl)) (bars-none r.FurtherChoice)
    (λ xs. take-safe (Sign Colon) refl refl (g xs))

head-safe : (x : Const) → Safe Statements Others (head_after x)
unfolding opened
head-safe x = range-safe x (λ y. choices_after y >>= λ xs. done (Head xs)) (λ y. choices-safe y (λ xs. done (Head xs)) (λ xs. done-good))

-- statements up to a closing brace
braces-safe : {X : Type 0} {place : Place} {k : List s.Statement → Plan X} → ((xs : List s.Statement) → Good place (k xs))
    → Safe place Statements (statements_to_brace k)
unfolding opened
braces-safe g =
    chain-safe (free-statements (starts r.Statement) (refl, refl, refl, refl, refl, refl)) (bars-none r.Statement)
    (λ xs. take-safe (Sign RightBrace) refl refl (g xs))

default-safe : (x : Expression) (cs : List (List s.Choice × List s.Statement)) → Safe Statements Statements (default_after x cs)
unfolding opened
default-safe x cs =
    next-skip (free-statements (is_word w.Default) (refl, refl, refl, refl, refl, refl)) (λ y e. take-good (Sign Colon) refl (good (braces-safe (λ xs. done-good))))
    (take-safe (Sign RightBrace) refl refl done-good)

cases-good : (x : Expression) → Good Statements (cases_after x)
unfolding opened
cases-good x =
    good (maybe-skip (free-statements (starts r.Choice) (refl, refl, refl, refl, refl, refl))
    (λ first. choices-safe first _ (λ xs. good (chain-safe (free-statements (starts r.Part) (refl, refl, refl, refl, refl, refl)) (bars-none r.Part)
    (λ ps. default-safe x (cases_of xs ps)))))
    (default-safe x []))

-- ---- statements

empty-body : Witness r.Body
unfolding opened
empty-body = record { first = Sign Semicolon; plan = done (s.Empty ∷ []); begins = refl; completes = (done-good).completes }

else-safe : (x : Guard) (xs : List s.Statement) → Safe Statements Statements (else_after x xs)
unfolding opened
else-safe x xs =
    next-skip (free-statements (is_word w.Else) (refl, refl, refl, refl, refl, refl)) (λ y e. one-good empty-body (λ ys. shut-safe done-safe)) (shut-safe done-safe)

brackets-good : {X : Type 0} {place : Place} {k : Guard → Plan X} → ((x : Guard) → Good place (k x)) → Good place (in_brackets k)
unfolding opened
brackets-good g = take-good (Sign LeftRound) refl (one-good number-condition (λ x. take-safe (Sign RightRound) refl refl (g x)))

change-if-safe : {X : Type 0} {place : Place} (k : Option Assignment → Plan X) → ((x : Option Assignment) → Safe place Others (k x))
    → Safe place Others (optional r.Change k)
unfolding opened
change-if-safe k g = maybe-skip (free-others (starts r.Change) (refl, refl, refl, refl, refl, refl, refl)) (λ x. g (Some x)) (g None)

condition-if-safe : {X : Type 0} {place : Place} (k : Option Guard → Plan X) → ((x : Option Guard) → Safe place Others (k x))
    → Safe place Others (optional r.Condition k)
unfolding opened
condition-if-safe k g = maybe-skip (free-others (starts r.Condition) (refl, refl, refl, refl, refl, refl, refl)) (λ x. g (Some x)) (g None)

for-last-safe : (a : Option Assignment) (x : Option Guard) → Safe Statements Others (for_last a x)
unfolding opened
for-last-safe a x =
    change-if-safe (λ b. take (is_sign RightRound) (for_body a x b)) (λ b. take-safe (Sign RightRound) refl refl (one-good empty-body (λ xs. shut-safe done-safe)))

for-test-safe : (a : Option Assignment) → Safe Statements Others (for_test a)
unfolding for_test
for-test-safe a =
    condition-if-safe (λ x. take (is_sign Colon) (for_last a x)) (λ x. take-safe (Sign Colon) refl refl (good (for-last-safe a x)))

for-good : Good Statements for_after
unfolding for_after
for-good =
    take-good (Sign LeftRound) refl
    (good (change-if-safe (λ a. take (is_sign Colon) (for_test a)) (λ a. take-safe (Sign Colon) refl refl (good (for-test-safe a)))))

alone-good : {x : s.Statement} → Good Statements (take (is_sign Semicolon) (done x))
alone-good = take-good (Sign Semicolon) refl done-good

-- after whatever begins a statement, the rest of it can be completed
ready-statement : (x : Lexeme) → GoodIfAny Statements (statement x)
unfolding opened
ready-statement (Sign Semicolon) = done-good
ready-statement (Sign LeftBrace) = good (braces-safe (λ xs. done-good))
ready-statement (Name name) = statement-good name
ready-statement (Word w.If) = brackets-good (λ x. one-good empty-body (else-safe x))
ready-statement (Word w.While) = brackets-good (λ x. one-good empty-body (λ xs. shut-safe done-safe))
ready-statement (Word w.Do) =
    one-good empty-body (λ xs. take-safe (Word w.Until) refl refl (brackets-good (λ x. take-good (Sign Semicolon) refl (good (shut-safe done-safe)))))
ready-statement (Word w.For) = for-good
ready-statement (Word w.Switch) =
    take-good (Sign LeftRound) refl (one-good number-value (λ x. take-safe (Sign RightRound) refl refl (take-good (Sign LeftBrace) refl (cases-good x))))
ready-statement (Word w.Break) = alone-good
ready-statement (Word w.Continue) = alone-good
ready-statement (Word w.Quit) = alone-good
ready-statement (Word w.Rtrue) = alone-good
ready-statement (Word w.Rfalse) = alone-good
ready-statement (Word w.Return) =
    maybe-good {q = take (is_sign Semicolon) (done (s.Return None))} number-value (λ x. take-safe (Sign Semicolon) refl refl done-good)
    (leads (λ y e. done-good), tt)
ready-statement (Word w.NewLine) = alone-good
ready-statement (Word w.Print) =
    one-good number-item (λ x. chain-safe (free-others (starts r.FurtherItem) (refl, refl, refl, refl, refl, refl, refl)) (bars-none r.FurtherItem)
    (λ xs. take-safe (Sign Semicolon) refl refl done-good))
ready-statement (Word w.Read) = next-good (Name []) refl (λ a e. next-good (Name []) refl (λ b e. alone-good) tt) tt
ready-statement _ = tt

ready-body : (x : Lexeme) → GoodIfAny Statements (body x)
unfolding body body_of
ready-body (Sign LeftBrace) = good (braces-safe (λ xs. done-good))
ready-body x = ready-then (statement x) (λ y. done (y ∷ [])) (ready-statement x) (λ y. done-safe)

-- ---- parts of a `switch`

swap-continues : (x : Lexeme) → continues_choice (swapped x) ≡ continues_choice x
swap-continues (Sign Colon) = refl
swap-continues (Sign Comma) = refl
swap-continues (Word w.To) = refl
swap-continues _ = refl

part-good : (name : List ℕ) → Good Statements (part_after name)
unfolding opened
part-good name = record {
  completes = record {
    value = Head ((k.Name name, None) ∷ []);
    more = Sign Colon ∷ [];
    finishes = λ rest n s. (n, done-here no_limit rest _ n);
  };
  onward = (swap-continues, (head-safe (k.Name name)).onward, (good-then (statement-good name) (λ x. done-safe {x = Said x})).onward);
}

ready-part-of : (o q : Option (Plan SwitchPart)) → GoodIfAny Statements o → GoodIfAny Statements q → GoodIfAny Statements (part_of o q)
unfolding part_of
ready-part-of None q g h = h
ready-part-of (Some p) q g h = g

ready-part : (x : Lexeme) → GoodIfAny Statements (part x)
unfolding part
ready-part (Name name) = part-good name
ready-part x =
    ready-part-of (onward (constant x) head_after) (onward (statement x) (λ y. done (Said y)))
    (ready-then (constant x) head_after (ready-constant x) head-safe) (ready-then (statement x) (λ y. done (Said y)) (ready-statement x) (λ y. done-safe))

-- ---- directives

-- after whatever begins a directive, the rest of it can be completed
ready-directive : (x : Lexeme) → GoodIfAny Statements (directive x)
unfolding opened
ready-directive (Word w.Constant) =
    next-good (Name []) refl (λ a e. take-good (Sign Assign) refl (one-good number-constant (λ x. take-safe (Sign Semicolon) refl refl done-good))) tt
ready-directive (Word w.Global) =
    next-good (Name []) refl (λ a e. next-good (Sign Assign) refl (λ y e. one-good number-constant (λ x. take-safe (Sign Semicolon) refl refl done-good))
    (leads (λ y e. done-good), tt)) tt
ready-directive (Word w.Array) =
    next-good (Name []) refl (λ a e. next-good (Sign ByteArrow) refl (λ b e. one-good number-entry (λ x.
    chain-safe (free-others (starts r.Entry) (refl, refl, refl, refl, refl, refl, refl)) (bars-none r.Entry) (λ xs. take-safe (Sign Semicolon) refl refl done-good))) tt) tt
ready-directive (Sign LeftSquare) =
    next-good (Name []) refl (λ a e. good (chain-safe (free-others (starts r.Local) (refl, refl, refl, refl, refl, refl, refl)) (bars-none r.Local)
    (λ locals. take-safe (Sign Semicolon) refl refl (good (chain-safe (free-statements (starts r.Statement) (refl, refl, refl, refl, refl, refl)) (bars-none r.Statement)
    (λ xs. take-safe (Sign RightSquare) refl refl (take-good (Sign Semicolon) refl done-good))))))) tt
ready-directive _ = tt

ready-local : (x : Lexeme) → GoodIfAny Others (local x)
unfolding local
ready-local (Name name) = done-good
ready-local _ = tt

-- ---- all rules, and the program

-- after whatever begins a rule, the rest of it can be completed
pub ready : (r : Rule) (x : Lexeme) → GoodIfAny (place_of r) (rule r x)
unfolding rule
ready r.Constant x = ready-constant x
ready r.Entry x = ready-entry x
ready r.Primary x = ready-primary x
ready r.Unary x = ready-unary x
ready r.Factor x = ready-factor x
ready r.Product x = ready-product x
ready r.Term x = ready-term x
ready r.Value x = ready-value x
ready r.Argument x = ready-argument x
ready r.Test x = ready-test x
ready (r.Member join) x = ready-member join x
ready r.Condition x = ready-guarded x
ready r.Change x = ready-change x
ready r.Item x = ready-item x
ready r.FurtherItem x = ready-further-item x
ready r.Statement x = ready-statement x
ready r.Body x = ready-body x
ready r.Choice x = ready-choice x
ready r.FurtherChoice x = ready-further-choice x
ready r.Part x = ready-part x
ready r.Local x = ready-local x
ready r.Directive x = ready-directive x

end-finishes : (xs : List DirectiveTree) (rest : List Lexeme) (n : ℕ) → Stop Program rest
    → (m : ℕ) × (reads no_limit rest (look any_lexeme refuse (done xs)) n ≡ Ok (xs, input m rest))
unfolding opened
end-finishes xs [] n s = (n, refl)
end-finishes xs (x ∷ rest) n s = absurd (cc)

end-stops : (rest : List Lexeme) → Stop Program rest → Stop Statements rest
end-stops [] s = tt
end-stops (x ∷ rest) s = absurd (cc)

end-safe : (xs : List DirectiveTree) → Safe Program Statements (look any_lexeme refuse (done xs))
end-safe xs = record {
  closes = record {
    completes = record { value = xs; more = []; finishes = end-finishes xs };
    stops = end-stops;
  };
  onward = (λ x. refl, tt, tt);
}

pub program-good : Good Program program
unfolding opened
program-good = good (chain-safe (free-statements (starts r.Directive) (refl, refl, refl, refl, refl, refl)) (bars-none r.Directive) end-safe)
