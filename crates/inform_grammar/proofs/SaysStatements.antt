-- Statements that were read are spelled so.
use Rattle.std.proofs.Common.{◌≡◌, ℕ, suc, Bool, true, List, [], ◌∷◌, Option, Some, None, refl, sym, subst}
use Rattle.inform_tree.specs.declared.values.Const.{Const}
use Rattle.inform_tree.specs.declared.values.Const.TheVariants as k
use Rattle.inform_tree.specs.Values.{Expression, arguments as argument_tree}
use Rattle.inform_tree.specs.Statements as s
use Rattle.inform_tree.specs.Statements.{Assignment, PrintItem}
use Rattle.inform_lexemes.specs.declared.symbols.Symbol.{Symbol}
use Rattle.inform_lexemes.specs.declared.symbols.Symbol.TheVariants.{Semicolon, Comma, Colon, LeftRound, RightRound, LeftBrace, RightBrace, Assign, Minus, WordArrow, Increment, Decrement}
use Rattle.inform_lexemes.specs.declared.keywords.Keyword.TheVariants as w
use Rattle.inform_lexemes.specs.Lexemes.{Lexeme, Word, Name, Number, Character, Quoted, Sign, is_sign}
use Rattle.inform_lexemes.specs.Laws.{SymbolsTold, KeywordsTold}
use Rattle.inform_grammar.specs.Rules as r
use Rattle.inform_grammar.specs.Rules.{SwitchPart, Head, Said}
use Rattle.inform_grammar.specs.Lexemes.{No, arrow, name_in, one_less}
use Rattle.inform_grammar.specs.Plan.{Plan, ◌>>=◌, done, take, optional}
use Rattle.inform_grammar.specs.ValueRules.{constant, value, terms_after}
use Rattle.inform_grammar.specs.StatementRules.{change_after, change, statement_after, item, further_item, range_after, choice, further_choice, choices_after, head_after, part_after, split_parts, cases_of, default_after, cases_after, else_after, for_body, for_last, for_test, body_of, statement, body, part_of, part}
use Rattle.inform_grammar.specs.Reading.{opened_after}
use Rattle.inform_grammar.specs.Values.{Constant, a_constant, Primary, Arguments, bracketed, operand, Value}
use Rattle.inform_grammar.specs.Conditions.{Condition}
use Rattle.inform_grammar.specs.Statements.{Change, set, set_entry, increment, decrement, ChangeIfAny, no_change, a_change, ConditionIfAny, no_condition, some_condition, Item, text, decimal, as_character, Items, last_item, one_more_item, Choice, single, range, Choices, last_choice, one_more_choice, Statement, empty, block, call, conditional, while_loop, do_loop, for_loop, switch, break, continue, quit, rtrue, rfalse, return, return_value, new_line, print, read, Body, in_braces, just_one, ElseIfAny, no_else, an_else, Statements, last_statement, one_more_statement, Cases, last_case, one_more_case, DefaultIfAny, no_default, a_default}
use Rattle.inform_grammar.specs.Statements as g
use Rattle.inform_grammar.proofs.Opened.{opened}
use Rattle.inform_grammar.proofs.Says.{Each, Fits, Read, Begun, Found}
use Rattle.inform_grammar.proofs.Held.{begun-then}
use Rattle.inform_grammar.proofs.Taking.{ended, found_at, closed, ruled, must_be, repeated, looked, took, took_as, must, must_after, must_as, and_after, name-told, name-plain, arrow-told, arrow-plain}
use Rattle.inform_grammar.proofs.SaysValues.{says-constant, says-arguments, says-value, says-factors, says-terms}
use Rattle.inform_grammar.specs.Trees.{Guard, cases_tree}

module _ (told : SymbolsTold) (words : KeywordsTold) (room : ℕ → Bool) where
  -- ---- what begins with a name

  change_at : {n : ℕ} {x : Assignment} {name : List ℕ} {ts us rest : List Lexeme} → ts ≡ us → Change room n x (Name name ∷ us) rest
      → Change room n x (Name name ∷ ts) rest
  change_at {n = n} {x = x} {name = name} {rest = rest} e d = subst (λ ts. Change room n x (Name name ∷ ts) rest) (sym e) d

  statement_at : {n : ℕ} {x : s.Statement} {name : List ℕ} {ts us rest : List Lexeme} → ts ≡ us → Statement room n x (Name name ∷ us) rest
      → Statement room n x (Name name ∷ ts) rest
  statement_at {n = n} {x = x} {name = name} {rest = rest} e d = subst (λ ts. Statement room n x (Name name ∷ ts) rest) (sym e) d

  -- what is read as a change after its name is spelled so, and the plan goes on after it
  says-change : {X : Type 0} (k : Assignment → Plan X) (name : List ℕ) (n : ℕ) (v : X) (ts : List Lexeme) (m : ℕ) (rest : List Lexeme)
      → Read room (change_after name >>= k) n v ts m rest
      → (x : Assignment) × (mid : List Lexeme) × Change room n x (Name name ∷ ts) mid × Read room (k x) n v mid m rest
  unfolding opened
  says-change k name n v ts m rest h =
      took room (Sign Assign) (told Assign) h
      (λ us e _ h. must_be room h (λ x mid d h. (s.Set name x, mid, change_at e (set d), h)))
      (λ _ h. took_as room (λ x. Sign (arrow (is_sign WordArrow x))) arrow-told (arrow-plain n) h
      (λ a us e h. must_be room h (λ i mid d h. must_after room (Primary room _ _ _) (Sign Assign) (told Assign) d h
      (λ us d _ h. must_be room h (λ x far b h.
      (s.SetEntry name (is_sign WordArrow a) i x, far, change_at e (set_entry d b), h)))))
      (λ _ h. took room (Sign Increment) (told Increment) h
      (λ us e _ h. (s.Inc name, us, change_at e increment, h))
      (λ _ h. must room (Sign Decrement) (told Decrement) h
      (λ us e _ h. (s.Dec name, us, change_at e decrement, h)))))

  pub says-changed : (x : Lexeme) (n : ℕ) (v : Assignment) (us : List Lexeme) (m : ℕ) (rest : List Lexeme)
      → Begun room (change x) (opened_after x n) v us m rest → Found room r.Change n (x ∷ us) v m rest
  unfolding opened
  says-changed (Name name) n v us m rest h = let a = says-change done name n v us m rest h in ended room a.3 refl a.2
  says-changed _ n v us m rest h = absurd h

  -- what is read as a statement after its first name is spelled so, and the plan goes on after it
  says-named : {X : Type 0} (k : s.Statement → Plan X) (name : List ℕ) (n : ℕ) (v : X) (ts : List Lexeme) (m : ℕ) (rest : List Lexeme)
      → Read room (statement_after name >>= k) n v ts m rest
      → (x : s.Statement) × (mid : List Lexeme) × Statement room n x (Name name ∷ ts) mid × Read room (k x) n v mid m rest
  unfolding opened
  says-named k name n v ts m rest h =
      took room (Sign LeftRound) (told LeftRound) h
      (λ us e f h. let a = says-arguments told room _ (suc n) v us m rest h in
      must_after room (Arguments room (suc n) a.0 us) (Sign Semicolon) (told Semicolon) a.2 a.3
      (λ far d _ h. (s.Call name (argument_tree a.0), far, statement_at e (call f d), h)))
      (λ _ h. let a = says-change (λ x. take (is_sign Semicolon) (k (s.Assign x))) name n v ts m rest h in
      must_after room (Change room n a.0 (Name name ∷ ts)) (Sign Semicolon) (told Semicolon) a.2 a.3
      (λ far d _ h. (s.Assign a.0, far, g.change d, h)))

  -- ---- what may be left out

  change-if : {X : Type 0} (symbol : Symbol) (k : Option Assignment → Plan X) (n : ℕ) (v : X) (ts : List Lexeme) (m : ℕ) (rest : List Lexeme)
      → Read room (optional r.Change (λ x. take (is_sign symbol) (k x))) n v ts m rest
      → (x : Option Assignment) × (us : List Lexeme) × ChangeIfAny room n x ts (Sign symbol ∷ us) × Read room (k x) (opened_after (Sign symbol) n) v us m rest
  change-if symbol k n v ts m rest h =
      ruled room h
      (λ x mid d h. must_after room (Change room _ _ _) (Sign symbol) (told symbol) d h (λ us d _ h. (Some x, us, a_change d, h)))
      (λ _ h. must room (Sign symbol) (told symbol) h (λ us e _ h. (None, us, subst (λ ts. ChangeIfAny room n None ts (Sign symbol ∷ us)) (sym e) no_change, h)))

  condition-if : {X : Type 0} (symbol : Symbol) (k : Option Guard → Plan X) (n : ℕ) (v : X) (ts : List Lexeme) (m : ℕ) (rest : List Lexeme)
      → Read room (optional r.Condition (λ x. take (is_sign symbol) (k x))) n v ts m rest
      → (x : Option Guard) × (us : List Lexeme) × ConditionIfAny room n x ts (Sign symbol ∷ us) × Read room (k x) (opened_after (Sign symbol) n) v us m rest
  condition-if symbol k n v ts m rest h =
      ruled room h
      (λ x mid d h. must_after room (Condition room _ _ _) (Sign symbol) (told symbol) d h (λ us d _ h. (Some x, us, some_condition d, h)))
      (λ _ h. must room (Sign symbol) (told symbol) h (λ us e _ h. (None, us, subst (λ ts. ConditionIfAny room n None ts (Sign symbol ∷ us)) (sym e) no_condition, h)))

  -- ---- items of `print`

  -- what is read as an item of `print` is spelled so, and as many are open after it as before
  pub says-item : (x : Lexeme) (n : ℕ) (v : PrintItem) (us : List Lexeme) (m : ℕ) (rest : List Lexeme) → Fits room x n
      → Begun room (item x) (opened_after x n) v us m rest → Found room r.Item n (x ∷ us) v m rest
  unfolding opened
  says-item (Quoted bytes) n v us m rest f h = ended room h refl text
  says-item (Sign LeftRound) n v us m rest f h =
      ruled room h
      (λ x mid d h. must_after room (Value room _ _ _) (Sign RightRound) (told RightRound) d h (λ ts d _ h.
      let a = says-factors told room x (λ y. terms_after y >>= λ z. done (s.Value z)) n v ts m rest h in
      let b = says-terms told room a.0 (λ z. done (s.Value z)) n v a.1 m rest a.3 in
      ended room b.3 refl (decimal (b.2 _ (a.2 _ (operand refl (bracketed f d)))))))
      (λ _ h. must room (Word w.Char) (words w.Char) h (λ ts e _ h. must room (Sign RightRound) (told RightRound) h (λ ts i _ h.
      must_be room h (λ x mid d h. found_at room (and_after e i) (ended room h refl (as_character f d))))))
  says-item x n v us m rest f h =
      let a = begun-then room (value x) (λ y. done (s.Value y)) (opened_after x n) v us m rest h in
      let b = says-value told room x n a.0 us a.1 a.2 f a.3 in
      ended room a.4 b.same (decimal b.says)

  pub says-further-item : (x : Lexeme) (n : ℕ) (v : PrintItem) (us : List Lexeme) (m : ℕ) (rest : List Lexeme)
      → Begun room (further_item x) (opened_after x n) v us m rest → Found room r.FurtherItem n (x ∷ us) v m rest
  unfolding opened
  says-further-item (Sign Comma) n v us m rest h = must_be room h (λ x mid d h. ended room h refl (us, refl, d))
  says-further-item _ n v us m rest h = absurd h

  items : (n : ℕ) (xs : List PrintItem) (ts rest : List Lexeme) → Each room r.FurtherItem n xs ts rest → Items room n xs ts rest
  items n [] ts rest e = subst (Items room n [] ts) e last_item
  items n (x ∷ xs) ts rest (mid, (us, e, d), ds) = subst (λ ts. Items room n (x ∷ xs) ts rest) (sym e) (one_more_item d (items n xs mid rest ds))

  -- ---- choices and cases

  says-range : {X : Type 0} (x : Const) (k : s.Choice → Plan X) (n : ℕ) (v : X) (ts mid : List Lexeme) (m : ℕ) (rest : List Lexeme) → Constant x ts mid
      → Read room (range_after x >>= k) n v mid m rest
      → (y : s.Choice) × (far : List Lexeme) × Choice y ts far × Read room (k y) n v far m rest
  unfolding opened
  says-range x k n v ts mid m rest d h =
      took room (Word w.To) (words w.To) h
      (λ us e _ h. must_be room h (λ y far b h. ((x, Some y), far, range (subst (Constant x ts) e d) b, h)))
      (λ e h. ((x, None), mid, single d e, h))

  pub says-choice : (x : Lexeme) (n : ℕ) (v : s.Choice) (us : List Lexeme) (m : ℕ) (rest : List Lexeme)
      → Begun room (choice x) (opened_after x n) v us m rest → Found room r.Choice n (x ∷ us) v m rest
  unfolding opened
  says-choice x n v us m rest h =
      let a = begun-then room (constant x) range_after (opened_after x n) v us m rest h in
      let b = says-constant told room x n a.0 us a.1 a.2 a.3 in
      let e = says-range a.0 done a.1 v (x ∷ us) a.2 m rest b.says a.4 in
      ended room e.3 b.same e.2

  pub says-further-choice : (x : Lexeme) (n : ℕ) (v : s.Choice) (us : List Lexeme) (m : ℕ) (rest : List Lexeme)
      → Begun room (further_choice x) (opened_after x n) v us m rest → Found room r.FurtherChoice n (x ∷ us) v m rest
  unfolding opened
  says-further-choice (Sign Comma) n v us m rest h = must_be room h (λ x mid d h. ended room h refl (us, refl, d))
  says-further-choice _ n v us m rest h = absurd h

  choices : (n : ℕ) (xs : List s.Choice) (ts rest : List Lexeme) → Each room r.FurtherChoice n xs ts rest → Choices xs ts rest
  choices n [] ts rest e = subst (Choices [] ts) e last_choice
  choices n (x ∷ xs) ts rest (mid, (us, e, d), ds) = subst (λ ts. Choices (x ∷ xs) ts rest) (sym e) (one_more_choice d (choices n xs mid rest ds))

  says-choices : {X : Type 0} (x : s.Choice) (k : List s.Choice → Plan X) (n : ℕ) (v : X) (ts : List Lexeme) (m : ℕ) (rest : List Lexeme)
      → Read room (choices_after x >>= k) n v ts m rest
      → (xs : List s.Choice) × (us : List Lexeme) × Choices xs ts (Sign Colon ∷ us) × Read room (k (x ∷ xs)) n v us m rest
  unfolding opened
  says-choices x k n v ts m rest h =
      repeated room h (λ xs mid ds _ _ h. must_after room (Choices xs ts) (Sign Colon) (told Colon) (choices n xs ts mid ds) h (λ us d _ h. (xs, us, d, h)))

  says-head : (x : Const) (n i : ℕ) (v : SwitchPart) (ts mid : List Lexeme) (m : ℕ) (rest : List Lexeme) → n ≡ i → Constant x ts mid
      → Read room (head_after x) i v mid m rest → Found room r.Part n ts v m rest
  unfolding opened
  says-head x n i v ts mid m rest same d h =
      let a = says-range x (λ y. choices_after y >>= λ xs. done (Head xs)) i v ts mid m rest d h in
      let b = says-choices a.0 (λ xs. done (Head xs)) i v a.1 m rest a.3 in
      ended room b.3 same (a.0, b.0, a.1, refl, a.2, b.2)

  -- the statements up to the first case, and the cases
  grouped : (n : ℕ) (ps : List SwitchPart) (ts rest : List Lexeme) → Each room r.Part n ps ts rest
      → (mid : List Lexeme) × Statements room n (split_parts ps).0 ts mid × Cases room n (split_parts ps).1 mid rest
  grouped n [] ts rest e = (ts, last_statement, subst (Cases room n [] ts) e last_case)
  grouped n (Said x ∷ ps) ts rest (mid, d, ds) = let a = grouped n ps mid rest ds in (a.0, one_more_statement d a.1, a.2)
  grouped n (Head xs ∷ ps) ts rest (mid, (x, ys, far, e, c, cs), ds) =
      let a = grouped n ps mid rest ds in (
        ts,
        last_statement,
        subst (λ xs. Cases room n ((xs, (split_parts ps).0) ∷ (split_parts ps).1) ts rest) (sym e) (one_more_case c cs a.1 a.2),
      )

  pub statements : (n : ℕ) (xs : List s.Statement) (ts rest : List Lexeme) → Each room r.Statement n xs ts rest → Statements room n xs ts rest
  statements n [] ts rest e = subst (Statements room n [] ts) e last_statement
  statements n (x ∷ xs) ts rest (mid, d, ds) = one_more_statement d (statements n xs mid rest ds)

  -- what is read as the default of a switch, or as none, is spelled so up to the closing brace
  says-default : (x : Expression) (cs : List (List s.Choice × List s.Statement)) (n : ℕ) (v : s.Statement) (ts : List Lexeme) (m : ℕ) (rest : List Lexeme)
      → Read room (default_after x cs) n v ts m rest
      → (other : Option (List s.Statement)) × (us : List Lexeme) × DefaultIfAny room n other ts (Sign RightBrace ∷ us)
      × Read room (done (s.Switch x (cases_tree cs) (s.default other))) (one_less n) v us m rest
  unfolding opened
  says-default x cs n v ts m rest h =
      took room (Word w.Default) (words w.Default) h
      (λ us e _ h. must room (Sign Colon) (told Colon) h (λ us i _ h. repeated room h (λ xs mid ds _ _ h.
      must_after room (Statements room n xs us) (Sign RightBrace) (told RightBrace) (statements n xs us mid ds) h
      (λ far d _ h. (Some xs, far, subst (λ ts. DefaultIfAny room n (Some xs) ts (Sign RightBrace ∷ far)) (sym (and_after e i)) (a_default d), h)))))
      (λ _ h. must room (Sign RightBrace) (told RightBrace) h
      (λ us e _ h. (None, us, subst (λ ts. DefaultIfAny room n None ts (Sign RightBrace ∷ us)) (sym e) no_default, h)))

  -- what is read as the cases and the default of a switch is spelled so up to the closing brace
  says-cases : (x : Expression) (n : ℕ) (v : s.Statement) (ts : List Lexeme) (m : ℕ) (rest : List Lexeme) → Read room (cases_after x) n v ts m rest
      → (cs : List (List s.Choice × List s.Statement)) × (other : Option (List s.Statement)) × (mid us : List Lexeme)
      × Cases room n cs ts mid × DefaultIfAny room n other mid (Sign RightBrace ∷ us)
      × Read room (done (s.Switch x (cases_tree cs) (s.default other))) (one_less n) v us m rest
  unfolding opened
  says-cases x n v ts m rest h =
      ruled room h
      (λ first mid c h.
      let b = says-choices first (λ xs. _) n v mid m rest h in
      repeated room b.3 (λ ps far ds _ _ h.
      let a = grouped n ps b.1 far ds in
      let e = says-default x (cases_of (first ∷ b.0) ps) n v far m rest h in
      (cases_of (first ∷ b.0) ps, e.0, far, e.1, one_more_case c b.2 a.1 a.2, e.2, e.3)))
      (λ _ h. let e = says-default x [] n v ts m rest h in ([], e.0, ts, e.1, last_case, e.2, e.3))

  -- ---- statements

  says-else : (x : Guard) (xs : List s.Statement) (n : ℕ) (ts us mid : List Lexeme) (v : s.Statement) (m : ℕ) (rest : List Lexeme) → room n ≡ true → room (suc n) ≡ true
      → Condition room (suc (suc n)) x ts (Sign RightRound ∷ us) → Body room (suc n) xs us mid → Read room (else_after x xs) (suc n) v mid m rest
      → Found room r.Statement n (Word w.If ∷ Sign LeftRound ∷ ts) v m rest
  unfolding opened
  says-else x xs n ts us mid v m rest f g d b h =
      took room (Word w.Else) (words w.Else) h
      (λ vs e _ h. must_be room h (λ ys far i h. ended room (closed room h) refl
      (conditional f g d b (subst (λ mid. ElseIfAny room (suc n) ys mid far) (sym e) (an_else i)))))
      (λ e h. ended room (closed room h) refl (conditional f g d b (no_else e)))

  -- what is read as a statement is spelled so, and as many are open after it as before
  pub says-statement : (x : Lexeme) (n : ℕ) (v : s.Statement) (us : List Lexeme) (m : ℕ) (rest : List Lexeme) → Fits room x n
      → Begun room (statement x) (opened_after x n) v us m rest → Found room r.Statement n (x ∷ us) v m rest
  unfolding opened
  says-statement (Sign Semicolon) n v us m rest f h = ended room h refl empty
  says-statement (Sign LeftBrace) n v us m rest f h =
      repeated room h (λ xs mid ds _ _ h. must_after room (Statements room (suc n) xs us) (Sign RightBrace) (told RightBrace) (statements (suc n) xs us mid ds) h
      (λ far d _ h. ended room h refl (block f d)))
  says-statement (Name name) n v us m rest f h = let a = says-named done name n v us m rest h in ended room a.3 refl a.2
  says-statement (Word w.If) n v us m rest f h =
      must room (Sign LeftRound) (told LeftRound) h (λ ts e g h. must_be room h (λ x mid d h.
      must_after room (Condition room _ _ _) (Sign RightRound) (told RightRound) d h (λ us d _ h. must_be room h (λ xs far b h.
      found_at room e (says-else x xs n ts us far v m rest f g d b h)))))
  says-statement (Word w.While) n v us m rest f h =
      must room (Sign LeftRound) (told LeftRound) h (λ ts e g h. must_be room h (λ x mid d h.
      must_after room (Condition room _ _ _) (Sign RightRound) (told RightRound) d h (λ us d _ h. must_be room h (λ xs far b h.
      found_at room e (ended room (closed room h) refl (while_loop f g d b))))))
  says-statement (Word w.Do) n v us m rest f h =
      must_be room h (λ xs far b h. must room (Word w.Until) (words w.Until) h (λ ts e _ h. must room (Sign LeftRound) (told LeftRound) h (λ ts i g h.
      must_be room h (λ x mid d h. must_after room (Condition room _ _ _) (Sign RightRound) (told RightRound) d h (λ vs d _ h.
      must_after room (λ vs. Condition room (suc (suc n)) x ts (Sign RightRound ∷ vs)) (Sign Semicolon) (told Semicolon) d h (λ end d _ h.
      ended room (closed room h) refl (do_loop f g (subst (Body room (suc n) xs us) (and_after e i) b) d)))))))
  says-statement (Word w.For) n v us m rest f h =
      must room (Sign LeftRound) (told LeftRound) h (λ ts e g h.
      let a = change-if Colon for_test (suc (suc n)) v ts m rest h in
      let b = condition-if Colon (for_last a.0) (suc (suc n)) v a.1 m rest a.3 in
      let l = change-if RightRound (for_body a.0 b.0) (suc (suc n)) v b.1 m rest b.3 in
      must_be room l.3 (λ xs far i h. found_at room e (ended room (closed room h) refl (for_loop f g a.2 b.2 l.2 i))))
  says-statement (Word w.Switch) n v us m rest f h =
      must room (Sign LeftRound) (told LeftRound) h (λ ts e g h. must_be room h (λ x mid d h.
      must_after room (Value room _ _ _) (Sign RightRound) (told RightRound) d h (λ us d _ h.
      must_after room (λ us. Value room (suc n) x ts (Sign RightRound ∷ us)) (Sign LeftBrace) (told LeftBrace) d h (λ us d _ h.
      let a = says-cases x (suc n) v us m rest h in
      found_at room e (ended room a.6 refl (switch g d a.4 a.5))))))
  says-statement (Word w.Break) n v us m rest f h = must room (Sign Semicolon) (told Semicolon) h (λ ts e _ h. found_at room e (ended room h refl break))
  says-statement (Word w.Continue) n v us m rest f h = must room (Sign Semicolon) (told Semicolon) h (λ ts e _ h. found_at room e (ended room h refl continue))
  says-statement (Word w.Quit) n v us m rest f h = must room (Sign Semicolon) (told Semicolon) h (λ ts e _ h. found_at room e (ended room h refl quit))
  says-statement (Word w.Rtrue) n v us m rest f h = must room (Sign Semicolon) (told Semicolon) h (λ ts e _ h. found_at room e (ended room h refl rtrue))
  says-statement (Word w.Rfalse) n v us m rest f h = must room (Sign Semicolon) (told Semicolon) h (λ ts e _ h. found_at room e (ended room h refl rfalse))
  says-statement (Word w.Return) n v us m rest f h =
      ruled room h
      (λ x mid d h. must_after room (Value room _ _ _) (Sign Semicolon) (told Semicolon) d h (λ us d _ h. ended room h refl (return_value d)))
      (λ _ h. must room (Sign Semicolon) (told Semicolon) h (λ ts e _ h. found_at room e (ended room h refl return)))
  says-statement (Word w.NewLine) n v us m rest f h = must room (Sign Semicolon) (told Semicolon) h (λ ts e _ h. found_at room e (ended room h refl new_line))
  says-statement (Word w.Print) n v us m rest f h =
      must_be room h (λ x mid d h. repeated room h (λ xs far ds _ _ h.
      must_after room (Items room n xs mid) (Sign Semicolon) (told Semicolon) (items n xs mid far ds) h (λ us ds _ h. ended room h refl (print d ds))))
  says-statement (Word w.Read) n v us m rest f h =
      must_as room (λ x. Name (name_in x)) name-told (name-plain n) h (λ a ts e h. must_as room (λ x. Name (name_in x)) name-told (name-plain n) h (λ b us i h.
      must room (Sign Semicolon) (told Semicolon) h (λ vs l _ h. found_at room (and_after e (and_after i l)) (ended room h refl read))))
  says-statement _ n v us m rest f h = absurd h

  says-just-one : (x : Lexeme) (n : ℕ) (v : List s.Statement) (us : List Lexeme) (m : ℕ) (rest : List Lexeme) → No (is_sign LeftBrace) (x ∷ us) → Fits room x n
      → (w : s.Statement) × (i : ℕ) × (mid : List Lexeme) × Begun room (statement x) (opened_after x n) w us i mid × Read room (done (w ∷ [])) i v mid m rest
      → Found room r.Body n (x ∷ us) v m rest
  says-just-one x n v us m rest e f a =
      let b = says-statement x n a.0 us a.1 a.2 f a.3 in ended room a.4 b.same (just_one e b.says)

  pub says-body : (x : Lexeme) (n : ℕ) (v : List s.Statement) (us : List Lexeme) (m : ℕ) (rest : List Lexeme) → Fits room x n
      → Begun room (body x) (opened_after x n) v us m rest → Found room r.Body n (x ∷ us) v m rest
  unfolding body body_of
  says-body (Sign LeftBrace) n v us m rest f h =
      repeated room h (λ xs mid ds _ _ h. must_after room (Statements room (suc n) xs us) (Sign RightBrace) (told RightBrace) (statements (suc n) xs us mid ds) h
      (λ far d _ h. ended room h refl (in_braces f d)))
  says-body x n v us m rest f h =
      says-just-one _ n v us m rest refl f (begun-then room (statement _) (λ y. done (y ∷ [])) _ v us m rest h)

  -- ---- parts of a `switch`

  says-said : (x : Lexeme) (n : ℕ) (v : SwitchPart) (us : List Lexeme) (m : ℕ) (rest : List Lexeme) → Fits room x n
      → (w : s.Statement) × (i : ℕ) × (mid : List Lexeme) × Begun room (statement x) (opened_after x n) w us i mid × Read room (done (Said w)) i v mid m rest
      → Found room r.Part n (x ∷ us) v m rest
  says-said x n v us m rest f a =
      let b = says-statement x n a.0 us a.1 a.2 f a.3 in ended room a.4 b.same b.says

  says-case : (x : Lexeme) (n : ℕ) (v : SwitchPart) (us : List Lexeme) (m : ℕ) (rest : List Lexeme)
      → (w : Const) × (i : ℕ) × (mid : List Lexeme) × Begun room (constant x) (opened_after x n) w us i mid × Read room (head_after w) i v mid m rest
      → Found room r.Part n (x ∷ us) v m rest
  says-case x n v us m rest a =
      let b = says-constant told room x n a.0 us a.1 a.2 a.3 in says-head a.0 n a.1 v (x ∷ us) a.2 m rest b.same b.says a.4

  pub says-part : (x : Lexeme) (n : ℕ) (v : SwitchPart) (us : List Lexeme) (m : ℕ) (rest : List Lexeme) → Fits room x n
      → Begun room (part x) (opened_after x n) v us m rest → Found room r.Part n (x ∷ us) v m rest
  unfolding part part_of constant part_after
  says-part (Name name) n v us m rest f h =
      looked room h (λ _ h. says-head (k.Name name) n n v (Name name ∷ us) us m rest refl a_constant h)
      (λ _ h. let a = says-named (λ x. done (Said x)) name n v us m rest h in ended room a.3 refl a.2)
  says-part (Number i) n v us m rest f h = says-case (Number i) n v us m rest (begun-then room (constant (Number i)) head_after n v us m rest h)
  says-part (Character i) n v us m rest f h = says-case (Character i) n v us m rest (begun-then room (constant (Character i)) head_after n v us m rest h)
  says-part (Sign Minus) n v us m rest f h = says-case (Sign Minus) n v us m rest (begun-then room (constant (Sign Minus)) head_after n v us m rest h)
  says-part x n v us m rest f h = says-said _ n v us m rest f (begun-then room (statement _) (λ y. done (Said y)) _ v us m rest h)
