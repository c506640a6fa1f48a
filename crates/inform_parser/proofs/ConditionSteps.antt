-- The rules of conditions, by what stands next.
use Rattle.std.proofs.Common.{◌≡◌, ℕ, true, false, List, [], ◌∷◌, ◌++◌, map, Ok, Err, refl, sym, ap, ◌∙◌}
use Rattle.inform_tree.specs.Values.{Expression}
use Rattle.inform_tree.specs.Conditions as c
use Rattle.inform_tree.specs.Conditions.{Condition, condition_of}
use Rattle.inform_tree.specs.declared.conditions.Cond.{Cond}
use Rattle.inform_lexemes.specs.declared.symbols.Symbol.{Symbol}
use Rattle.inform_lexemes.specs.declared.symbols.Symbol.TheVariants.{LeftRound, RightRound, And, Or, Not, Equal, NotEqual, Less, Greater, LessEqual, GreaterEqual}
use Rattle.inform_lexemes.specs.Lexemes.{Lexeme, Sign, is_sign}
use Rattle.inform_grammar.specs.Faults.{Mixed, fault}
use Rattle.inform_grammar.specs.Rules as r
use Rattle.inform_grammar.specs.Lexemes.{heads, is_relation, connective, other_connective}
use Rattle.inform_grammar.specs.Trees.{Guard, Plain, Tested, AllOf, AnyOf, Join, condition, joined}
use Rattle.inform_grammar.specs.ConditionRules.{relation_after, bracket_after, test, member, members_after, tests_after, guarded}
use Rattle.inform_grammar.specs.Plan.{Plan, done, next, ◌>>=◌, take, one}
use Rattle.inform_grammar.specs.Rule.{rule}
use Rattle.inform_grammar.specs.Reading.{Input, input, Answer, step, reads, within_limit}
use Rattle.inform_grammar.proofs.Binding.{and_then}
use Rattle.inform_grammar.proofs.Steps.{one-as, one-as-here}
use Rattle.inform_parser.specs.Reading.{read}
use Rattle.inform_parser.specs.Nexts.{relation_next}
use Rattle.inform_parser.specs.Plans.{members_from, guard_in_brackets}
use Rattle.inform_parser.proofs.Steps.{continued, read-one}
use Rattle.inform_parser.proofs.Loops.{map_push}

-- ---- tests

module _ (x : Expression) where
  abbrev pub compared_plan : Plan Guard
  compared_plan = relation_next >>= λ op. one r.Value (λ y. done (Tested (c.Compare op x y)))

  compared_by : (xs : List Lexeme) (n : ℕ) → heads is_relation xs ≡ true → read (relation_after x) (input n xs) ≡ read compared_plan (input n xs)
  unfolding read reads step relation_after relation_next
  compared_by (Sign Equal ∷ xs) n e = refl
  compared_by (Sign NotEqual ∷ xs) n e = refl
  compared_by (Sign Less ∷ xs) n e = refl
  compared_by (Sign Greater ∷ xs) n e = refl
  compared_by (Sign LessEqual ∷ xs) n e = refl
  compared_by (Sign GreaterEqual ∷ xs) n e = refl
  compared_by _ n e = absurd (cc)

  plain_by : (xs : List Lexeme) (n : ℕ) → heads is_relation xs ≡ false → read (relation_after x) (input n xs) ≡ Ok (Plain x, input n xs)
  unfolding read reads step relation_after
  plain_by [] n e = refl
  plain_by (Sign Equal ∷ xs) n e = absurd (cc)
  plain_by (Sign NotEqual ∷ xs) n e = absurd (cc)
  plain_by (Sign Less ∷ xs) n e = absurd (cc)
  plain_by (Sign Greater ∷ xs) n e = absurd (cc)
  plain_by (Sign LessEqual ∷ xs) n e = absurd (cc)
  plain_by (Sign GreaterEqual ∷ xs) n e = absurd (cc)
  plain_by (_ ∷ xs) n e = refl

pub compared : (x : Expression) (s : Input) → heads is_relation s.rest ≡ true → read (relation_after x) s ≡ read (compared_plan x) s
compared x s e = compared_by x s.rest s.opened e

pub plain : (x : Expression) (s : Input) → heads is_relation s.rest ≡ false → read (relation_after x) s ≡ Ok (Plain x, s)
plain x s e = plain_by x s.rest s.opened e

abbrev pub test_plan : Plan Guard
test_plan =
    next (is_sign Not) (λ _. guard_in_brackets >>= λ x. done (Tested (c.Not (condition x))))
    (next (is_sign LeftRound) (λ _. one r.Condition (λ x. take (is_sign RightRound) (bracket_after x >>= done)))
    (one r.Value (λ x. relation_after x >>= done)))

test_by : (xs : List Lexeme) (n : ℕ) → read (one r.Test done) (input n xs) ≡ read test_plan (input n xs)
unfolding read reads step rule test guard_in_brackets
test_by [] n = refl
test_by (Sign Not ∷ xs) n = refl
test_by (Sign LeftRound ∷ xs) n = refl
test_by (x ∷ xs) n = one-as-here within_limit _ xs r.Test r.Value relation_after done n refl

pub test_as : (s : Input) → read (one r.Test done) s ≡ read test_plan s
test_as s = test_by s.rest s.opened

pub bracketed_as : (s : Input) → read (take (is_sign LeftRound) (one r.Condition (λ x. take (is_sign RightRound) (bracket_after x >>= done)))) s
    ≡ read (guard_in_brackets >>= λ x. bracket_after x >>= done) s
unfolding guard_in_brackets
bracketed_as s = refl

-- ---- chains

member_by : (j : Join) (xs : List Lexeme) (n : ℕ)
    → read (one (r.Member j) done) (input n xs) ≡ read (take (is_sign (connective j)) (one r.Test (λ x. done (condition x)))) (input n xs)
unfolding read reads step rule member
member_by AllOf [] n = refl
member_by AllOf (Sign And ∷ xs) n = refl
member_by AllOf (_ ∷ xs) n = refl
member_by AnyOf [] n = refl
member_by AnyOf (Sign Or ∷ xs) n = refl
member_by AnyOf (_ ∷ xs) n = refl

pub member_as : (j : Join) (a : Symbol) (s : Input) → a ≡ connective j
    → read (one (r.Member j) done) s ≡ read (take (is_sign a) (one r.Test (λ x. done (condition x)))) s
member_as j a s e = rw e (member_by j s.rest s.opened)

more_by : (j : Join) (front : List Condition) (xs : List Lexeme) (n : ℕ) → heads (is_sign (connective j)) xs ≡ true
    → read (members_from j front) (input n xs) ≡ read (one (r.Member j) (λ x. members_from j (front ++ x ∷ []))) (input n xs)
unfolding read reads step rule member members_from
more_by AllOf front (Sign And ∷ xs) n e = refl
more_by AllOf front _ n e = absurd (cc)
more_by AnyOf front (Sign Or ∷ xs) n e = refl
more_by AnyOf front _ n e = absurd (cc)

module _ (j : Join) (front : List Condition) (s : Input) (a : Symbol) (same : a ≡ connective j) where
  pub member_more : heads (is_sign a) s.rest ≡ true → read (members_from j front) s ≡ read (one (r.Member j) (λ x. members_from j (front ++ x ∷ []))) s
  member_more e = more_by j front s.rest s.opened (rw same at e)

mixed_by : (j : Join) (front : List Condition) (xs : List Lexeme) (n : ℕ) → heads (is_sign (other_connective j)) xs ≡ true
    → read (members_from j front) (input n xs) ≡ Err (fault Mixed xs)
unfolding read reads step rule member members_from
mixed_by AllOf front (Sign Or ∷ xs) n e = refl
mixed_by AllOf front _ n e = absurd (cc)
mixed_by AnyOf front (Sign And ∷ xs) n e = refl
mixed_by AnyOf front _ n e = absurd (cc)

-- the members of a condition end where neither their own connective nor the other one stands
last_by : (j : Join) (front : List Condition) (xs : List Lexeme) (n : ℕ) → heads (is_sign (connective j)) xs ≡ false
    → heads (is_sign (other_connective j)) xs ≡ false → read (members_from j front) (input n xs) ≡ Ok (front, input n xs)
unfolding read reads step rule member members_from
last_by AllOf front [] n e f = refl
last_by AllOf front (Sign And ∷ xs) n e f = absurd (cc)
last_by AllOf front (Sign Or ∷ xs) n e f = absurd (cc)
last_by AllOf front (_ ∷ xs) n e f = refl
last_by AnyOf front [] n e f = refl
last_by AnyOf front (Sign And ∷ xs) n e f = absurd (cc)
last_by AnyOf front (Sign Or ∷ xs) n e f = absurd (cc)
last_by AnyOf front (_ ∷ xs) n e f = refl

module _ (j : Join) (front : List Condition) (s : Input) (b : Symbol) (other : b ≡ other_connective j) where
  pub member_mixed : heads (is_sign b) s.rest ≡ true → read (members_from j front) s ≡ Err (fault Mixed s.rest)
  member_mixed e = mixed_by j front s.rest s.opened (rw other at e)

  pub member_last : (a : Symbol) → a ≡ connective j → heads (is_sign a) s.rest ≡ false → heads (is_sign b) s.rest ≡ false
      → read (members_from j front) s ≡ Ok (front, s)
  member_last a same e f = last_by j front s.rest s.opened (rw same at e) (rw other at f)

-- where one more member is read, what is read from there on stays
pub members_go_on : (j : Join) (found items : List Cond) (x : Cond) (s after : Input) (total : Answer (List Condition))
    → read (members_from j (map condition_of found)) s ≡ read (one (r.Member j) (λ x. members_from j (map condition_of found ++ x ∷ []))) s
    → items ≡ found ++ x ∷ [] → read (one (r.Member j) done) s ≡ Ok (condition_of x, after) → read (members_from j (map condition_of found)) s ≡ total
    → read (members_from j (map condition_of items)) after ≡ total
members_go_on j found items x s after total more push here same =
    ap (λ items. read (members_from j (map condition_of items)) after) push
    ∙ ap (λ front. read (members_from j front) after) (map_push condition_of found x)
    ∙ sym (ap (λ a. and_then a (continued (λ x. members_from j (map condition_of found ++ x ∷ [])))) here)
    ∙ sym (read-one (r.Member j) (λ x. members_from j (map condition_of found ++ x ∷ [])) s) ∙ sym more ∙ same

pub members_after_as : (j : Join) (x z y : Condition) (s : Input) → x ≡ z
    → read (members_after j z y) s ≡ read (members_from j (x ∷ y ∷ []) >>= λ xs. done (Tested (joined j xs))) s
unfolding members_after members_from
members_after_as j x z y s e = rw e refl

module _ (x : Guard) where
  and_by : (xs : List Lexeme) (n : ℕ) → heads (is_sign And) xs ≡ true
      → read (tests_after x) (input n xs) ≡ read (one (r.Member AllOf) (λ y. members_after AllOf (condition x) y)) (input n xs)
  unfolding read reads step rule member tests_after
  and_by (Sign And ∷ xs) n e = refl
  and_by _ n e = absurd (cc)

  or_by : (xs : List Lexeme) (n : ℕ) → heads (is_sign Or) xs ≡ true
      → read (tests_after x) (input n xs) ≡ read (one (r.Member AnyOf) (λ y. members_after AnyOf (condition x) y)) (input n xs)
  unfolding read reads step rule member tests_after
  or_by (Sign Or ∷ xs) n e = refl
  or_by _ n e = absurd (cc)

  alone_by : (xs : List Lexeme) (n : ℕ) → heads (is_sign And) xs ≡ false → heads (is_sign Or) xs ≡ false → read (tests_after x) (input n xs) ≡ Ok (x, input n xs)
  unfolding read reads step rule member tests_after
  alone_by [] n e f = refl
  alone_by (Sign And ∷ xs) n e f = absurd (cc)
  alone_by (Sign Or ∷ xs) n e f = absurd (cc)
  alone_by (_ ∷ xs) n e f = refl

pub tests_and : (x : Guard) (s : Input) → heads (is_sign And) s.rest ≡ true
    → read (tests_after x) s ≡ read (one (r.Member AllOf) (λ y. members_after AllOf (condition x) y)) s
tests_and x s e = and_by x s.rest s.opened e

pub tests_or : (x : Guard) (s : Input) → heads (is_sign Or) s.rest ≡ true
    → read (tests_after x) s ≡ read (one (r.Member AnyOf) (λ y. members_after AnyOf (condition x) y)) s
tests_or x s e = or_by x s.rest s.opened e

pub tests_alone : (x : Guard) (s : Input) → heads (is_sign And) s.rest ≡ false → heads (is_sign Or) s.rest ≡ false → read (tests_after x) s ≡ Ok (x, s)
tests_alone x s e f = alone_by x s.rest s.opened e f

pub condition_as : (s : Input) → read (one r.Condition done) s ≡ read (one r.Test (λ x. tests_after x >>= done)) s
unfolding read rule guarded
condition_as s = one-as within_limit s.rest r.Condition r.Test tests_after done s.opened (λ t. refl)
