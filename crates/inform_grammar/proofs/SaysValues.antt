-- Constants and expressions that were read are spelled so.
use Rattle.std.proofs.Common.{◌≡◌, ℕ, suc, Bool, false, List, [], ◌∷◌, refl, sym, subst, ◌∙◌}
use Rattle.inform_tree.specs.declared.values.Const.{Const}
use Rattle.inform_tree.specs.declared.values.SumOp.{SumOp}
use Rattle.inform_tree.specs.declared.values.ProdOp.{ProdOp}
use Rattle.inform_tree.specs.Values.{Expression}
use Rattle.inform_lexemes.specs.declared.symbols.Symbol.TheVariants.{Comma, LeftRound, RightRound, Plus, Minus, Times, Divide, Remainder, WordArrow}
use Rattle.inform_lexemes.specs.declared.keywords.Keyword.TheVariants as w
use Rattle.inform_lexemes.specs.Lexemes.{Lexeme, Word, Name, Number, Character, Sign, is_sign}
use Rattle.inform_lexemes.specs.Laws.{SymbolsTold}
use Rattle.inform_grammar.specs.Rules as r
use Rattle.inform_grammar.specs.Lexemes.{No, arrow, is_arrow, is_factor_sign, is_term_sign, one_less}
use Rattle.inform_grammar.specs.Plan.{Plan, ◌>>=◌}
use Rattle.inform_grammar.specs.ValueRules.{number_in, constant, entry, arguments, name_after, primary, unary, factor, factors_after, product, term, terms_after, value, argument}
use Rattle.inform_grammar.specs.Reading.{opened_after}
use Rattle.inform_grammar.specs.Values.{a_number, a_character, a_constant, below_zero, entry_number, entry_character, entry_constant, entry_below_zero, begins_entry, number, character, named, called, random, bracketed, Arguments, no_arguments, some_arguments, FurtherArguments, last_argument, one_more_argument, Unary, negative, indexed, operand, Factors, no_factor, one_more_factor, Product, a_product, Terms, no_term, one_more_term, Value, a_value}
use Rattle.inform_grammar.proofs.Opened.{opened}
use Rattle.inform_grammar.proofs.Steps.{same-heads}
use Rattle.inform_grammar.proofs.ReadValues.{starts-factor, starts-term}
use Rattle.inform_grammar.proofs.Says.{Each, Fits, Read, Begun, Found}
use Rattle.inform_grammar.proofs.Held.{begun-then}
use Rattle.inform_grammar.proofs.Taking.{ended, found_at, ruled, must_be, repeated, took, took_as, must, must_after, must_as, and_after, number-told, number-plain, arrow-told, arrow-plain}

-- a name before a lexeme that is no arrow begins no entry
no-entry : (name : List ℕ) (ts : List Lexeme) → No is_arrow ts → begins_entry (Name name ∷ ts) ≡ false
no-entry name [] h = refl
no-entry name (Sign symbol ∷ ts) h = h
no-entry name (_ ∷ ts) h = refl

module _ (told : SymbolsTold) (room : ℕ → Bool) where
  -- ---- constants

  pub says-constant : (x : Lexeme) (n : ℕ) (v : Const) (us : List Lexeme) (m : ℕ) (rest : List Lexeme)
      → Begun room (constant x) (opened_after x n) v us m rest → Found room r.Constant n (x ∷ us) v m rest
  unfolding opened
  says-constant (Number k) n v us m rest h = ended room h refl a_number
  says-constant (Character byte) n v us m rest h = ended room h refl a_character
  says-constant (Name name) n v us m rest h = ended room h refl a_constant
  says-constant (Sign Minus) n v us m rest h =
      must_as room (λ x. Number (number_in x)) number-told (number-plain n) h (λ x us e h. found_at room e (ended room h refl below_zero))
  says-constant _ n v us m rest h = absurd h

  -- what is read as an entry of an array is spelled so, and as many are open after it as before
  pub says-entry : (x : Lexeme) (n : ℕ) (v : Const) (us : List Lexeme) (m : ℕ) (rest : List Lexeme) → Fits room x n
      → Begun room (entry x) (opened_after x n) v us m rest → Found room r.Entry n (x ∷ us) v m rest
  unfolding opened
  says-entry (Number k) n v us m rest f h = ended room h refl entry_number
  says-entry (Character byte) n v us m rest f h = ended room h refl entry_character
  says-entry (Name name) n v us m rest f h = ended room h refl entry_constant
  says-entry (Sign LeftRound) n v us m rest f h =
      must room (Sign Minus) (told Minus) h
      (λ us e _ h. must_as room (λ x. Number (number_in x)) number-told (number-plain (suc n)) h
      (λ x us g h. must room (Sign RightRound) (told RightRound) h
      (λ us i _ h. found_at room (and_after e (and_after g i)) (ended room h refl (entry_below_zero f)))))
  says-entry _ n v us m rest f h = absurd h

  -- ---- operands

  further-arguments : (n : ℕ) (xs : List Expression) (ts rest : List Lexeme) → Each room r.Argument n xs ts rest → FurtherArguments room n xs ts rest
  further-arguments n [] ts rest e = subst (λ rest. FurtherArguments room n [] ts rest) e last_argument
  further-arguments n (x ∷ xs) ts rest (mid, (us, e, d), ds) =
      subst (λ ts. FurtherArguments room n (x ∷ xs) ts rest) (sym e) (one_more_argument d (further-arguments n xs mid rest ds))

  -- what is read as the arguments of a call is spelled so, with the bracket that closes them
  pub says-arguments : {X : Type 0} (k : List Expression → Plan X) (n : ℕ) (v : X) (ts : List Lexeme) (m : ℕ) (rest : List Lexeme)
      → Read room (arguments >>= k) n v ts m rest
      → (xs : List Expression) × (mid : List Lexeme) × Arguments room n xs ts mid × Read room (k xs) (one_less n) v mid m rest
  unfolding opened
  says-arguments k n v ts m rest h =
      ruled room h
      (λ x mid d h. repeated room h
      (λ xs far ds _ _ h. must_after room (FurtherArguments room n xs mid) (Sign RightRound) (told RightRound) (further-arguments n xs mid far ds) h
      (λ us ds _ h. (x ∷ xs, us, some_arguments d ds, h))))
      (λ _ h. must room (Sign RightRound) (told RightRound) h
      (λ us e _ h. ([], us, subst (λ ts. Arguments room n [] ts us) (sym e) no_arguments, h)))

  says-name : (name : List ℕ) (n : ℕ) (v : Expression) (us : List Lexeme) (m : ℕ) (rest : List Lexeme)
      → Read room (name_after name) n v us m rest → Found room r.Primary n (Name name ∷ us) v m rest
  unfolding opened
  says-name name n v us m rest h =
      took room (Sign LeftRound) (told LeftRound) h
      (λ us e f h. let a = says-arguments _ (suc n) v us m rest h in found_at room e (ended room a.3 refl (called f a.2)))
      (λ e h. ended room h refl (named e))

  -- what is read as an operand is spelled so, and as many are open after it as before
  pub says-primary : (x : Lexeme) (n : ℕ) (v : Expression) (us : List Lexeme) (m : ℕ) (rest : List Lexeme) → Fits room x n
      → Begun room (primary x) (opened_after x n) v us m rest → Found room r.Primary n (x ∷ us) v m rest
  unfolding opened
  says-primary (Number k) n v us m rest f h = ended room h refl number
  says-primary (Character byte) n v us m rest f h = ended room h refl character
  says-primary (Name name) n v us m rest f h = says-name name n v us m rest h
  says-primary (Word w.Random) n v us m rest f h =
      must room (Sign LeftRound) (told LeftRound) h
      (λ us e f h. must_be room h (λ x mid d h. must_after room (Value room _ _ _) (Sign RightRound) (told RightRound) d h
      (λ us d _ h. found_at room e (ended room h refl (random f d)))))
  says-primary (Sign LeftRound) n v us m rest f h =
      must_be room h (λ x mid d h. must_after room (Value room _ _ _) (Sign RightRound) (told RightRound) d h (λ us d _ h. ended room h refl (bracketed f d)))
  says-primary _ n v us m rest f h = absurd h

  -- what is no name is an operand
  as-operand : (x : Lexeme) (n : ℕ) (v : Expression) (us : List Lexeme) (m : ℕ) (rest : List Lexeme) → begins_entry (x ∷ us) ≡ false
      → Found room r.Primary n (x ∷ us) v m rest → Found room r.Unary n (x ∷ us) v m rest
  as-operand x n v us m rest e a = record { same = a.same; says = operand e a.says }

  pub says-unary : (x : Lexeme) (n : ℕ) (v : Expression) (us : List Lexeme) (m : ℕ) (rest : List Lexeme) → Fits room x n
      → Begun room (unary x) (opened_after x n) v us m rest → Found room r.Unary n (x ∷ us) v m rest
  unfolding opened
  says-unary (Name name) n v us m rest f h =
      took_as room (λ x. Sign (arrow (is_sign WordArrow x))) arrow-told (arrow-plain n) h
      (λ x us e h. must_be room h (λ y mid d h. found_at room e (ended room h refl (indexed d))))
      (λ e h. as-operand (Name name) n v us m rest (no-entry name us e) (says-name name n v us m rest h))
  says-unary (Sign Minus) n v us m rest f h = must_be room h (λ x mid d h. ended room h refl (negative d))
  says-unary x n v us m rest f h = as-operand _ n v us m rest refl (says-primary _ n v us m rest f h)

  -- ---- chains

  factors : (n : ℕ) (xs : List (ProdOp × Expression)) (ts rest : List Lexeme) → Each room r.Factor n xs ts rest → No is_factor_sign rest → Factors room n xs ts rest
  factors n [] ts rest e h = subst (λ ts. Factors room n [] ts rest) (sym e) (no_factor h)
  factors n (x ∷ xs) ts rest (mid, (us, e, d), ds) h =
      subst (λ ts. Factors room n (x ∷ xs) ts rest) (sym e) (one_more_factor d (factors n xs mid rest ds h))

  pub says-factors : {X : Type 0} (x : Expression) (k : Expression → Plan X) (n : ℕ) (v : X) (ts : List Lexeme) (m : ℕ) (rest : List Lexeme)
      → Read room (factors_after x >>= k) n v ts m rest
      → (y : Expression) × (mid : List Lexeme) × ((us : List Lexeme) → Unary room n x us ts → Product room n y us mid) × Read room (k y) n v mid m rest
  unfolding opened
  says-factors x k n v ts m rest h =
      repeated room h (λ xs mid ds e _ h. (_, mid, (λ us d. a_product d (factors n xs ts mid ds (sym (same-heads starts-factor mid) ∙ e))), h))

  terms : (n : ℕ) (xs : List (SumOp × Expression)) (ts rest : List Lexeme) → Each room r.Term n xs ts rest → No is_term_sign rest → Terms room n xs ts rest
  terms n [] ts rest e h = subst (λ ts. Terms room n [] ts rest) (sym e) (no_term h)
  terms n (x ∷ xs) ts rest (mid, (us, e, d), ds) h =
      subst (λ ts. Terms room n (x ∷ xs) ts rest) (sym e) (one_more_term d (terms n xs mid rest ds h))

  pub says-terms : {X : Type 0} (x : Expression) (k : Expression → Plan X) (n : ℕ) (v : X) (ts : List Lexeme) (m : ℕ) (rest : List Lexeme)
      → Read room (terms_after x >>= k) n v ts m rest
      → (y : Expression) × (mid : List Lexeme) × ((us : List Lexeme) → Product room n x us ts → Value room n y us mid) × Read room (k y) n v mid m rest
  unfolding opened
  says-terms x k n v ts m rest h =
      repeated room h (λ xs mid ds e _ h. (_, mid, (λ us d. a_value d (terms n xs ts mid ds (sym (same-heads starts-term mid) ∙ e))), h))

  pub says-factor : (x : Lexeme) (n : ℕ) (v : ProdOp × Expression) (us : List Lexeme) (m : ℕ) (rest : List Lexeme)
      → Begun room (factor x) (opened_after x n) v us m rest → Found room r.Factor n (x ∷ us) v m rest
  unfolding opened
  says-factor (Sign Times) n v us m rest h = must_be room h (λ x mid d h. ended room h refl (us, refl, d))
  says-factor (Sign Divide) n v us m rest h = must_be room h (λ x mid d h. ended room h refl (us, refl, d))
  says-factor (Sign Remainder) n v us m rest h = must_be room h (λ x mid d h. ended room h refl (us, refl, d))
  says-factor _ n v us m rest h = absurd h

  pub says-term : (x : Lexeme) (n : ℕ) (v : SumOp × Expression) (us : List Lexeme) (m : ℕ) (rest : List Lexeme)
      → Begun room (term x) (opened_after x n) v us m rest → Found room r.Term n (x ∷ us) v m rest
  unfolding opened
  says-term (Sign Plus) n v us m rest h = must_be room h (λ x mid d h. ended room h refl (us, refl, d))
  says-term (Sign Minus) n v us m rest h = must_be room h (λ x mid d h. ended room h refl (us, refl, d))
  says-term _ n v us m rest h = absurd h

  pub says-argument : (x : Lexeme) (n : ℕ) (v : Expression) (us : List Lexeme) (m : ℕ) (rest : List Lexeme)
      → Begun room (argument x) (opened_after x n) v us m rest → Found room r.Argument n (x ∷ us) v m rest
  unfolding opened
  says-argument (Sign Comma) n v us m rest h = must_be room h (λ x mid d h. ended room h refl (us, refl, d))
  says-argument _ n v us m rest h = absurd h

  says-chain : (x : Lexeme) (y : Expression) (n : ℕ) (v : Expression) (us : List Lexeme) (i : ℕ) (mid : List Lexeme) (m : ℕ) (rest : List Lexeme)
      → Found room r.Unary n (x ∷ us) y i mid → Read room (factors_after y) i v mid m rest → Found room r.Product n (x ∷ us) v m rest
  unfolding factors_after
  says-chain x y n v us i mid m rest b h =
      repeated room h (λ xs far ds e _ h. ended room h b.same
      (a_product b.says (factors n xs mid far (subst (λ n. Each room r.Factor n xs mid far) (sym b.same) ds) (sym (same-heads starts-factor far) ∙ e))))

  says-sum : (x : Lexeme) (y : Expression) (n : ℕ) (v : Expression) (us : List Lexeme) (i : ℕ) (mid : List Lexeme) (m : ℕ) (rest : List Lexeme)
      → Found room r.Product n (x ∷ us) y i mid → Read room (terms_after y) i v mid m rest → Found room r.Value n (x ∷ us) v m rest
  unfolding terms_after
  says-sum x y n v us i mid m rest b h =
      repeated room h (λ xs far ds e _ h. ended room h b.same
      (a_value b.says (terms n xs mid far (subst (λ n. Each room r.Term n xs mid far) (sym b.same) ds) (sym (same-heads starts-term far) ∙ e))))

  pub says-product : (x : Lexeme) (n : ℕ) (v : Expression) (us : List Lexeme) (m : ℕ) (rest : List Lexeme) → Fits room x n
      → Begun room (product x) (opened_after x n) v us m rest → Found room r.Product n (x ∷ us) v m rest
  unfolding product
  says-product x n v us m rest f h =
      let a = begun-then room (unary x) factors_after (opened_after x n) v us m rest h in
      let b = says-unary x n a.0 us a.1 a.2 f a.3 in
      says-chain x a.0 n v us a.1 a.2 m rest b a.4

  pub says-value : (x : Lexeme) (n : ℕ) (v : Expression) (us : List Lexeme) (m : ℕ) (rest : List Lexeme) → Fits room x n
      → Begun room (value x) (opened_after x n) v us m rest → Found room r.Value n (x ∷ us) v m rest
  unfolding value
  says-value x n v us m rest f h =
      let a = begun-then room (product x) terms_after (opened_after x n) v us m rest h in
      let b = says-product x n a.0 us a.1 a.2 f a.3 in
      says-sum x a.0 n v us a.1 a.2 m rest b a.4
