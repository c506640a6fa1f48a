-- Conditions that were read are spelled so.
use Rattle.std.proofs.Common.{◌≡◌, ℕ, suc, Bool, true, List, [], ◌∷◌, refl, sym, subst, ◌∙◌}
use Rattle.inform_tree.specs.Values.{Expression}
use Rattle.inform_tree.specs.Conditions as c
use Rattle.inform_lexemes.specs.declared.symbols.Symbol.TheVariants.{LeftRound, RightRound, And, Or, Not}
use Rattle.inform_lexemes.specs.Lexemes.{Lexeme, Sign, is_sign}
use Rattle.inform_lexemes.specs.Laws.{SymbolsTold}
use Rattle.inform_grammar.specs.Rules as r
use Rattle.inform_grammar.specs.Lexemes.{No, relation_sign, relation_of, is_connective, connective, other_connective}
use Rattle.inform_grammar.specs.Plan.{◌>>=◌}
use Rattle.inform_grammar.specs.ValueRules.{terms_after, value}
use Rattle.inform_grammar.specs.ConditionRules.{relation_after, bracket_after, test, member, members_after, tests_after, guarded}
use Rattle.inform_grammar.specs.Reading.{opened_after}
use Rattle.inform_grammar.specs.Values.{bracketed, operand, Value}
use Rattle.inform_grammar.specs.Conditions.{Test, negated, in_brackets, by_itself, compared, Members, last_member, one_more_member, Condition, a_test, a_chain}
use Rattle.inform_grammar.proofs.Opened.{opened}
use Rattle.inform_grammar.proofs.Steps.{same-heads}
use Rattle.inform_grammar.proofs.ReadConditions.{starts-member}
use Rattle.inform_grammar.proofs.Says.{Says, Each, Fits, Read, Begun, Found}
use Rattle.inform_grammar.proofs.Held.{begun-then}
use Rattle.inform_grammar.proofs.Taking.{ended, found_at, ruled, must_be, repeated, took_as, must, must_after, relation-told, relation-plain}
use Rattle.inform_grammar.proofs.SaysValues.{says-value, says-factors, says-terms}
use Rattle.inform_grammar.specs.Trees.{AllOf, AnyOf, Guard, Join, Plain, Tested, condition}

-- where neither connective stands, none does
neither-stands : (join : Join) (ts : List Lexeme) → No (is_sign (connective join)) ts → No (is_sign (other_connective join)) ts → No is_connective ts
neither-stands join [] h g = refl
neither-stands AllOf (Sign And ∷ ts) h g = absurd (cc)
neither-stands AllOf (Sign Or ∷ ts) h g = absurd (cc)
neither-stands AllOf (_ ∷ ts) h g = refl
neither-stands AnyOf (Sign And ∷ ts) h g = absurd (cc)
neither-stands AnyOf (Sign Or ∷ ts) h g = absurd (cc)
neither-stands AnyOf (_ ∷ ts) h g = refl

-- a value by itself is one
value-alone : {room : ℕ → Bool} {o : ℕ} {x : Expression} {ts rest : List Lexeme} → Test room o (Plain x) ts rest → Value room o x ts rest
value-alone (by_itself d h) = d

value-of-guard : {room : ℕ → Bool} {o : ℕ} {x : Expression} {ts rest : List Lexeme} → Condition room o (Plain x) ts rest → Value room o x ts rest
value-of-guard (a_test d h) = value-alone d

module _ (told : SymbolsTold) (room : ℕ → Bool) where
  says-relation : (x : Expression) (n : ℕ) (ts : List Lexeme) (mid : List Lexeme) (v : Guard) (m : ℕ) (rest : List Lexeme) → Value room n x ts mid
      → Read room (relation_after x) n v mid m rest → Found room r.Test n ts v m rest
  unfolding opened
  says-relation x n ts mid v m rest d h =
      took_as room (λ x. Sign (relation_sign (relation_of x))) relation-told (relation-plain n) h
      (λ op us e h. must_be room h (λ y far g h. ended room h refl (compared (subst (Value room n x ts) e d) g)))
      (λ e h. ended room h refl (by_itself d e))

  says-bracket : (x : Guard) (n : ℕ) (ts : List Lexeme) (us : List Lexeme) (v : Guard) (m : ℕ) (rest : List Lexeme) → room n ≡ true
      → Condition room (suc n) x ts (Sign RightRound ∷ us) → Read room (bracket_after x) n v us m rest → Found room r.Test n (Sign LeftRound ∷ ts) v m rest
  unfolding opened
  says-bracket (Tested x) n ts us v m rest f d h = ended room h refl (in_brackets f d)
  says-bracket (Plain x) n ts us v m rest f d h =
      let a = says-factors told room x (λ y. terms_after y >>= relation_after) n v us m rest h in
      let b = says-terms told room a.0 relation_after n v a.1 m rest a.3 in
      says-relation b.0 n _ b.1 v m rest (b.2 _ (a.2 _ (operand refl (bracketed f (value-of-guard d))))) b.3

  says-compared : (x : Lexeme) (n : ℕ) (v : Guard) (us : List Lexeme) (m : ℕ) (rest : List Lexeme) (y : Expression) (i : ℕ) (mid : List Lexeme)
      → Found room r.Value n (x ∷ us) y i mid → Read room (relation_after y) i v mid m rest → Found room r.Test n (x ∷ us) v m rest
  says-compared x n v us m rest y i mid b h =
      says-relation y n (x ∷ us) mid v m rest b.says (subst (λ i. Read room (relation_after y) i v mid m rest) (sym b.same) h)

  -- what is read as a test is spelled so, and as many are open after it as before
  pub says-test : (x : Lexeme) (n : ℕ) (v : Guard) (us : List Lexeme) (m : ℕ) (rest : List Lexeme) → Fits room x n
      → Begun room (test x) (opened_after x n) v us m rest → Found room r.Test n (x ∷ us) v m rest
  unfolding opened
  says-test (Sign Not) n v us m rest f h =
      must room (Sign LeftRound) (told LeftRound) h
      (λ us e f h. must_be room h (λ x mid d h. must_after room (Condition room _ _ _) (Sign RightRound) (told RightRound) d h
      (λ us d _ h. found_at room e (ended room h refl (negated f d)))))
  says-test (Sign LeftRound) n v us m rest f h =
      must_be room h (λ x mid d h. must_after room (Condition room _ _ _) (Sign RightRound) (told RightRound) d h
      (λ ts d _ h. says-bracket x n us ts v m rest f d h))
  says-test x n v us m rest f h =
      let a = begun-then room (value x) relation_after (opened_after x n) v us m rest h in
      says-compared x n v us m rest a.0 a.1 a.2 (says-value told room x n a.0 us a.1 a.2 f a.3) a.4

  pub says-member : (join : Join) (x : Lexeme) (n : ℕ) (v : c.Condition) (us : List Lexeme) (m : ℕ) (rest : List Lexeme)
      → Begun room (member join x) (opened_after x n) v us m rest → Found room (r.Member join) n (x ∷ us) v m rest
  unfolding opened
  says-member AllOf (Sign And) n v us m rest h = must_be room h (λ x mid d h. ended room h refl (x, refl, (us, refl, d)))
  says-member AllOf _ n v us m rest h = absurd h
  says-member AnyOf (Sign Or) n v us m rest h = must_be room h (λ x mid d h. ended room h refl (x, refl, (us, refl, d)))
  says-member AnyOf _ n v us m rest h = absurd h

  -- the further members, of which the first is known
  members : (join : Join) (n : ℕ) (y : c.Condition) (xs : List c.Condition) (ts mid rest : List Lexeme) → Says room (r.Member join) n y ts mid
      → Each room (r.Member join) n xs mid rest → No is_connective rest → Members room n join (y ∷ xs) ts rest
  members join n y [] ts mid rest (x, e, (us, g, d)) same h =
      subst (λ ts. Members room n join (y ∷ []) ts rest) (sym g)
      (subst (λ y. Members room n join (y ∷ []) (Sign (connective join) ∷ us) rest) (sym e) (last_member (subst (Test room n x us) same d) h))
  members join n y (z ∷ zs) ts mid rest (x, e, (us, g, d)) (far, b, more) h =
      subst (λ ts. Members room n join (y ∷ z ∷ zs) ts rest) (sym g)
      (subst (λ y. Members room n join (y ∷ z ∷ zs) (Sign (connective join) ∷ us) rest) (sym e)
      (one_more_member d (members join n z zs mid far rest b more h)))

  says-chain : (join : Join) (x : Guard) (y : c.Condition) (n : ℕ) (ts mid far : List Lexeme) (v : Guard) (m : ℕ) (rest : List Lexeme) → Test room n x ts mid
      → Says room (r.Member join) n y mid far → Read room (members_after join (condition x) y) n v far m rest → Found room r.Condition n ts v m rest
  unfolding members_after
  says-chain join x y n ts mid far v m rest d b h =
      repeated room h (λ xs end more e g h. ended room h refl
      (a_chain d (members join n y xs mid far end b more (neither-stands join end (sym (same-heads (starts-member join) end) ∙ e) g))))

  says-tests : (x : Guard) (n : ℕ) (ts mid : List Lexeme) (v : Guard) (m : ℕ) (rest : List Lexeme) → Test room n x ts mid
      → Read room (tests_after x) n v mid m rest → Found room r.Condition n ts v m rest
  unfolding tests_after
  says-tests x n ts mid v m rest d h =
      ruled room h (λ y far b h. says-chain AllOf x y n ts mid far v m rest d b h)
      (λ e h. ruled room h (λ y far b h. says-chain AnyOf x y n ts mid far v m rest d b h)
      (λ g h. ended room h refl
      (a_test d (neither-stands AllOf mid (sym (same-heads (starts-member AllOf) mid) ∙ e) (sym (same-heads (starts-member AnyOf) mid) ∙ g)))))

  pub says-guarded : (x : Lexeme) (n : ℕ) (v : Guard) (us : List Lexeme) (m : ℕ) (rest : List Lexeme) → Fits room x n
      → Begun room (guarded x) (opened_after x n) v us m rest → Found room r.Condition n (x ∷ us) v m rest
  unfolding guarded
  says-guarded x n v us m rest f h =
      let a = begun-then room (test x) tests_after (opened_after x n) v us m rest h in
      let b = says-test x n a.0 us a.1 a.2 f a.3 in
      says-tests a.0 n (x ∷ us) a.2 v m rest b.says (subst (λ i. Read room (tests_after a.0) i v a.2 m rest) (sym b.same) a.4)
