-- Programs that were read are spelled so.
use Rattle.std.proofs.Common.{◌≡◌, ◌⊎◌, inl, inr, ℕ, Bool, List, [], ◌∷◌, Ok, Err, refl, sym, subst}
use Rattle.inform_tree.specs.declared.values.Const.{Const}
use Rattle.inform_tree.specs.Programs.{DirectiveTree}
use Rattle.inform_lexemes.specs.declared.symbols.Symbol.TheVariants.{Semicolon, LeftSquare, RightSquare, Assign, WordArrow}
use Rattle.inform_lexemes.specs.declared.keywords.Keyword.TheVariants as w
use Rattle.inform_lexemes.specs.Lexemes.{Lexeme, Word, Name, Sign, is_sign}
use Rattle.inform_lexemes.specs.Laws.{SymbolsTold, KeywordsTold}
use Rattle.inform_grammar.specs.Rules as r
use Rattle.inform_grammar.specs.Rules.{Rule, TreeOf}
use Rattle.inform_grammar.specs.Lexemes.{No, arrow, name_in, any_lexeme}
use Rattle.inform_grammar.specs.Rule.{directive, local, program, rule}
use Rattle.inform_grammar.specs.Reading.{Answer, input, opened_after, reads}
use Rattle.inform_grammar.specs.Values.{Constant, Entry}
use Rattle.inform_grammar.specs.Statements.{Statements}
use Rattle.inform_grammar.specs.Sentences.{Entries, last_entry, one_more_entry, Names, last_name, one_more_name, constant, global, global_with, array, routine, Sentence, no_more, one_more}
use Rattle.inform_grammar.specs.Faults.{Fault}
use Rattle.inform_grammar.specs.Laws.{SentenceOrFault}
use Rattle.inform_grammar.proofs.Opened.{opened}
use Rattle.inform_grammar.proofs.Says.{Each, Fits, Read, Begun, Found}
use Rattle.inform_grammar.proofs.Held.{held}
use Rattle.inform_grammar.proofs.Taking.{ended, found_at, refused, must_be, repeated, looked, took, must, must_after, must_as, and_after, name-told, name-plain, arrow-told, arrow-plain}
use Rattle.inform_grammar.proofs.SaysValues.{says-constant, says-entry, says-primary, says-unary, says-factor, says-product, says-term, says-value, says-argument}
use Rattle.inform_grammar.proofs.SaysConditions.{says-test, says-member, says-guarded}
use Rattle.inform_grammar.proofs.SaysStatements.{says-changed, says-item, says-further-item, says-choice, says-further-choice, statements, says-statement, says-body, says-part}

module _ (told : SymbolsTold) (words : KeywordsTold) (room : ℕ → Bool) where
  entries : (n : ℕ) (xs : List Const) (ts rest : List Lexeme) → Each room r.Entry n xs ts rest → Entries room n xs ts rest
  entries n [] ts rest e = subst (Entries room n [] ts) e last_entry
  entries n (x ∷ xs) ts rest (mid, d, ds) = one_more_entry d (entries n xs mid rest ds)

  names : (n : ℕ) (xs : List (List ℕ)) (ts rest : List Lexeme) → Each room r.Local n xs ts rest → Names xs ts rest
  names n [] ts rest e = subst (Names [] ts) e last_name
  names n (x ∷ xs) ts rest (mid, e, ds) = subst (λ ts. Names (x ∷ xs) ts rest) (sym e) (one_more_name (names n xs mid rest ds))

  -- ---- directives

  -- what is read as a directive is spelled so, and as many are open after it as before
  says-directive : (x : Lexeme) (n : ℕ) (v : DirectiveTree) (us : List Lexeme) (m : ℕ) (rest : List Lexeme)
      → Begun room (directive x) (opened_after x n) v us m rest → Found room r.Directive n (x ∷ us) v m rest
  unfolding opened
  says-directive (Word w.Constant) n v us m rest h =
      must_as room (λ x. Name (name_in x)) name-told (name-plain n) h (λ a ts e h. must room (Sign Assign) (told Assign) h (λ ts i _ h.
      must_be room h (λ x mid d h. must_after room (Constant _ _) (Sign Semicolon) (told Semicolon) d h (λ us d _ h.
      found_at room (and_after e i) (ended room h refl (λ _. constant d))))))
  says-directive (Word w.Global) n v us m rest h =
      must_as room (λ x. Name (name_in x)) name-told (name-plain n) h (λ a ts e h. took room (Sign Assign) (told Assign) h
      (λ ts i _ h. must_be room h (λ x mid d h. must_after room (Constant _ _) (Sign Semicolon) (told Semicolon) d h (λ us d _ h.
      found_at room (and_after e i) (ended room h refl (λ _. global_with d)))))
      (λ _ h. must room (Sign Semicolon) (told Semicolon) h (λ ts i _ h. found_at room (and_after e i) (ended room h refl (λ _. global)))))
  says-directive (Word w.Array) n v us m rest h =
      must_as room (λ x. Name (name_in x)) name-told (name-plain n) h (λ a ts e h.
      must_as room (λ x. Sign (arrow (is_sign WordArrow x))) arrow-told (arrow-plain n) h (λ b ts i h.
      must_be room h (λ x mid d h. repeated room h (λ xs far ds _ _ h.
      must_after room (Entries room n xs mid) (Sign Semicolon) (told Semicolon) (entries n xs mid far ds) h (λ us ds _ h.
      found_at room (and_after e i) (ended room h refl (λ z. array (subst (λ n. Entry room n x ts mid) z d) (subst (λ n. Entries room n xs mid (Sign Semicolon ∷ us)) z ds))))))))
  says-directive (Sign LeftSquare) n v us m rest h =
      must_as room (λ x. Name (name_in x)) name-told (name-plain n) h (λ a ts e h. repeated room h (λ locals mid ds _ _ h.
      must_after room (Names locals ts) (Sign Semicolon) (told Semicolon) (names n locals ts mid ds) h (λ us ds _ h.
      repeated room h (λ xs far b _ _ h. must_after room (Statements room n xs us) (Sign RightSquare) (told RightSquare) (statements told words room n xs us far b) h (λ vs b _ h.
      must_after room (λ vs. Statements room n xs us (Sign RightSquare ∷ vs)) (Sign Semicolon) (told Semicolon) b h (λ end b _ h.
      found_at room e (ended room h refl (λ z. routine ds (subst (λ n. Statements room n xs us (Sign RightSquare ∷ Sign Semicolon ∷ end)) z b)))))))))
  says-directive _ n v us m rest h = absurd h

  -- ---- all rules

  says-local : (x : Lexeme) (n : ℕ) (v : List ℕ) (us : List Lexeme) (m : ℕ) (rest : List Lexeme)
      → Begun room (local x) (opened_after x n) v us m rest → Found room r.Local n (x ∷ us) v m rest
  unfolding local
  says-local (Name name) n v us m rest h = ended room h refl refl
  says-local _ n v us m rest h = absurd h

  -- what any rule reads is spelled so, and as many are open after it as before
  pub says-rule : (r : Rule) (x : Lexeme) (n : ℕ) (v : TreeOf r) (us : List Lexeme) (m : ℕ) (rest : List Lexeme) → Fits room x n
      → Begun room (rule r x) (opened_after x n) v us m rest → Found room r n (x ∷ us) v m rest
  unfolding rule
  says-rule r.Constant x n v us m rest f h = says-constant told room x n v us m rest h
  says-rule r.Entry x n v us m rest f h = says-entry told room x n v us m rest f h
  says-rule r.Primary x n v us m rest f h = says-primary told room x n v us m rest f h
  says-rule r.Unary x n v us m rest f h = says-unary told room x n v us m rest f h
  says-rule r.Factor x n v us m rest f h = says-factor told room x n v us m rest h
  says-rule r.Product x n v us m rest f h = says-product told room x n v us m rest f h
  says-rule r.Term x n v us m rest f h = says-term told room x n v us m rest h
  says-rule r.Value x n v us m rest f h = says-value told room x n v us m rest f h
  says-rule r.Argument x n v us m rest f h = says-argument told room x n v us m rest h
  says-rule r.Test x n v us m rest f h = says-test told room x n v us m rest f h
  says-rule (r.Member join) x n v us m rest f h = says-member told room join x n v us m rest h
  says-rule r.Condition x n v us m rest f h = says-guarded told room x n v us m rest f h
  says-rule r.Change x n v us m rest f h = says-changed told words room x n v us m rest h
  says-rule r.Item x n v us m rest f h = says-item told words room x n v us m rest f h
  says-rule r.FurtherItem x n v us m rest f h = says-further-item told words room x n v us m rest h
  says-rule r.Statement x n v us m rest f h = says-statement told words room x n v us m rest f h
  says-rule r.Body x n v us m rest f h = says-body told words room x n v us m rest f h
  says-rule r.Choice x n v us m rest f h = says-choice told words room x n v us m rest h
  says-rule r.FurtherChoice x n v us m rest f h = says-further-choice told words room x n v us m rest h
  says-rule r.Part x n v us m rest f h = says-part told words room x n v us m rest f h
  says-rule r.Local x n v us m rest f h = says-local x n v us m rest h
  says-rule r.Directive x n v us m rest f h = says-directive x n v us m rest h

  -- ---- programs

  sentence : (xs : List DirectiveTree) (ts : List Lexeme) → Each room r.Directive 0 xs ts [] → Sentence room xs ts
  sentence [] ts e = subst (Sentence room []) (sym e) no_more
  sentence (x ∷ xs) ts (mid, d, ds) = one_more (d refl) (sentence xs mid ds)

  -- where no lexeme stands, the end is
  at-end-then : (ts : List Lexeme) → No any_lexeme ts → ts ≡ []
  at-end-then [] h = refl
  at-end-then (x ∷ ts) h = absurd (cc)

  says-program : (p : List DirectiveTree) (ts : List Lexeme) (m : ℕ) (rest : List Lexeme) → Read room program 0 p ts m rest → Sentence room p ts
  unfolding program
  says-program p ts m rest h =
      repeated room h (λ xs mid ds _ _ h. looked room h (λ _ h. refused room h) (λ e h.
      subst (λ p. Sentence room p ts) h.says.0 (sentence xs ts (subst (Each room r.Directive 0 xs ts) (at-end-then mid e) ds))))

  -- what is read as a program is a sentence of it
  pub read-is-sentence : (p : List DirectiveTree) (ts : List Lexeme) (n : ℕ) (rest : List Lexeme) → reads room ts program 0 ≡ Ok (p, input n rest)
      → Sentence room p ts
  read-is-sentence p ts n rest e = says-program p ts n rest (record { says = held room says-rule ts program 0 p n rest e })

-- each list of lexemes is a sentence, or it has a fault
pub sentence-or-fault : SymbolsTold → KeywordsTold → SentenceOrFault
sentence-or-fault told words room ts = by (reads room ts program 0) refl
  where
    by : (r : Answer (List DirectiveTree)) → reads room ts program 0 ≡ r
        → ((p : List DirectiveTree) × Sentence room p ts) ⊎ ((f : Fault) × (reads room ts program 0 ≡ Err f))
    by (Ok y) e = inl (y.0, read-is-sentence told words room y.0 ts y.1.opened y.1.rest e)
    by (Err f) e = inr (f, e)
