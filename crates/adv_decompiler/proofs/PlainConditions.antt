-- Conditions that were written are read as the same conditions.
use Rattle.std.proofs.Common.{◌≡◌, ℕ, ◌+◌, ◌*◌, ◌≤◌, ◌<◌, true, false, cond, leb, ltb, List, [], ◌∷◌, ◌++◌, length, ℤ, pos, Option, Result, Ok, Err, refl, sym, ap, subst, ◌∙◌, append_assoc, arith, length-append}
use Rattle.std.specs.Prelude.{int_le, flat_map}
use Rattle.std.specs.List.{AllByRecursion}
use Rattle.std.proofs.lemmas.Bool.{and_from, cond-true, le-leb, lt-ltb}
use Rattle.std.proofs.lemmas.List.{append-nil}
use Rattle.scott_types.specs.Action.{argument_of, condition_code}
use Rattle.scott_types.specs.Condition.{condition_of, names_of}
use Rattle.source_reader.specs.declared.tree.At.{At}
use Rattle.source_reader.specs.declared.tree.Cond.{Cond}
use Rattle.source_reader.specs.Plan.{done, ◌>>◌}
use Rattle.source_reader.specs.Singles.{here, any_token, symbol, reference}
use Rattle.source_reader.specs.Lists.{braced, many}
use Rattle.source_reader.specs.Entries.{condition_of as condition_plan}
use Rattle.source_reader.specs.Entries.{condition as condition_piece}
use Rattle.adv_compiler.specs.Faults.{Fault, limit}
use Rattle.adv_compiler.specs.Faults.{◌>>=◌ as ◌onto◌}
use Rattle.adv_compiler.specs.Known.{Known}
use Rattle.adv_compiler.specs.Values.{thing, natural, packed_condition}
use Rattle.adv_compiler.specs.Lines.{with_condition, condition, conditions}
use Rattle.adv_decompiler.specs.declared.sizes.Sizes.{Sizes}
use Rattle.adv_decompiler.specs.Layout.{spaced, Chunk, chunk, mark, semicolon}
use Rattle.adv_decompiler.specs.Layout.{braced as braced_chunks}
use Rattle.adv_decompiler.specs.References.{thing_token}
use Rattle.adv_decompiler.specs.Lines.{condition as condition_chunks}
use Rattle.adv_decompiler.proofs.Apart.{laid, laid-lines, flat-lines}
use Rattle.adv_decompiler.proofs.Feeding.{Fed, fed_then}
use Rattle.adv_decompiler.proofs.Finding.{Finds, AreFew, Means, thing_refers, thing_written}
use Rattle.adv_decompiler.proofs.Names.{condition_word-code, condition_word-spelled}
use Rattle.adv_decompiler.proofs.Listing.{Each, EntryFed, fed_many}

-- a number that a database can have
abbrev pub IsSmall : ℕ → Type 0
IsSmall n = n ≤ 2147483647

-- ---- packed numbers

pub natural_is : (at n : ℕ) → natural at (pos n) ≡ Ok n
natural_is at n = cond-true (int_le (pos 0) (pos n)) _ _ (le-leb 0 n (omega arith))

pub packed_is : (at code n c : ℕ) → 20 * n + code ≡ c → IsSmall c → packed_condition at code (pos n) ≡ Ok c
packed_is at code n c e small =
    ap (λ (r : Result ℕ Fault). r onto λ m. cond (leb (20 * m + code) 2147483647) (Ok (20 * m + code)) (Err (limit at (pos n)))) (natural_is at n)
    ∙ cond-true (leb (20 * n + code) 2147483647) _ _ (le-leb (20 * n + code) 2147483647 (omega arith))
    ∙ ap (λ (m : ℕ). Ok m) e

pub with_is : (at : ℕ) (before : List ℕ) (n : ℕ) (packed : Result ℕ Fault) → length before < 5 → packed ≡ Ok n → with_condition at before packed ≡ Ok (before ++ n ∷ [])
with_is at before n packed few e =
    cond-true (ltb (length before) 5) _ _ (lt-ltb (length before) 5 few) ∙ ap (λ (r : Result ℕ Fault). r onto λ m. Ok (before ++ m ∷ [])) e

-- ---- one condition

abbrev pub ConditionMeans : Sizes → ℕ → ℕ → At Cond → Type 0
ConditionMeans sizes k c e = (e.what.code ≡ condition_code c) × Means sizes thing (pos (argument_of c)) e.what.arg

condition_again : (c : ℕ) → 20 * argument_of c + condition_code c ≡ c
condition_again c = omega arith

module _ (sizes : Sizes) (few : AreFew sizes) where
  -- what is written of a condition is read as its code and what its argument names
  condition_fed : (k c : ℕ) → k < 5 → IsSmall c → EntryFed condition_piece (condition_chunks sizes c) (ConditionMeans sizes k c)
  unfolding symbol any_token
  condition_fed k c low small =
      let code_small : condition_code c < 20 = omega arith in (
        refl,
        λ at. subst
            (λ (o : Option ℕ). Fed (condition_plan at o) (chunk spaced (thing_token sizes (names_of (condition_of (condition_code c))) (argument_of c)) ∷ semicolon ∷ [])
            (λ v. ConditionMeans sizes k c (here at v))) (sym (condition_word-code (condition_code c) code_small))
            (fed_then (Means sizes thing (pos (argument_of c))) (λ v. ConditionMeans sizes k c (here at v)) reference
            (λ arg. symbol 59 >> done (record { code = condition_code c; arg = arg }))
            (chunk spaced (thing_token sizes (names_of (condition_of (condition_code c))) (argument_of c)) ∷ []) (semicolon ∷ [])
            (thing_refers sizes few (names_of (condition_of (condition_code c))) (argument_of c) spaced) (λ r m at_end. (refl, m))),
      )

  condition_means : (known : Known) → Finds sizes known → (k c : ℕ) (e : At Cond) (before : List ℕ) → length before < 5 → IsSmall c → ConditionMeans sizes k c e
      → condition known before e ≡ Ok (before ++ c ∷ [])
  condition_means known finds k c e before room small h =
      with_is e.at before c _ room
      (ap (λ (r : Result ℤ Fault). r onto λ z. packed_condition e.what.arg.at e.what.code z) (h.1 known finds)
      ∙ ap (λ (code : ℕ). packed_condition e.what.arg.at code (pos (argument_of c))) h.0
      ∙ packed_is e.what.arg.at (condition_code c) (argument_of c) c (condition_again c) small)

  -- ---- conditions

  pub conditions_fed : (conds : List ℕ) → length conds ≤ 5 → AllByRecursion IsSmall conds
      → Fed (braced condition_piece) (braced_chunks (flat_map (condition_chunks sizes) conds)) (λ es. Each (ConditionMeans sizes) 0 conds es.entries)
  unfolding braced symbol any_token
  conditions_fed conds low small at =
      subst (λ (chunks : List Chunk). Fed (many condition_piece) (chunks ++ mark spaced 125 ∷ []) (λ es. Each (ConditionMeans sizes) 0 conds es.entries))
      (sym (flat-lines (condition_chunks sizes) conds 0))
      (fed_many condition_piece IsSmall (λ k. condition_chunks sizes) (ConditionMeans sizes) 5 condition_fed spaced conds low (omega arith) small)

  -- conditions that were read are, after those before them, the ones that were written
  conditions_from : (known : Known) → Finds sizes known → (conds : List ℕ) (entries : List (At Cond)) (k : ℕ) (before : List ℕ) → length before + length conds ≤ 5
      → AllByRecursion IsSmall conds → Each (ConditionMeans sizes) k conds entries → conditions known before entries ≡ Ok (before ++ conds)
  conditions_from known finds [] [] k before room small h = ap (λ (cs : List ℕ). Ok cs) (sym (append-nil before))
  conditions_from known finds [] (e ∷ entries) k before room small h = absurd h
  conditions_from known finds (c ∷ conds) [] k before room small h = absurd h
  conditions_from known finds (c ∷ conds) (e ∷ entries) k before room small h =
      let there : length before < 5 = omega arith in
      let more : length (before ++ c ∷ []) + length conds ≤ 5 = omega (arith, length-append before (c ∷ [])) in
      ap (λ (r : Result (List ℕ) Fault). r onto λ so_far. conditions known so_far entries) (condition_means known finds k c e before there small.0 h.0)
      ∙ conditions_from known finds conds entries (k + 1) (before ++ c ∷ []) more small.1 h.1
      ∙ ap (λ (cs : List ℕ). Ok cs) (append_assoc before (c ∷ []) conds)

  pub conditions_mean : (known : Known) → Finds sizes known → (conds : List ℕ) (entries : List (At Cond)) → length conds ≤ 5
      → AllByRecursion IsSmall conds → Each (ConditionMeans sizes) 0 conds entries → conditions known [] entries ≡ Ok conds
  conditions_mean known finds conds entries room small h = conditions_from known finds conds entries 0 [] (omega arith) small h

  -- ---- they stand apart

  condition_laid : (k c : ℕ) → k < 5 → IsSmall c → laid false (condition_chunks sizes c) ≡ true
  condition_laid k c low small =
      let code_small : condition_code c < 20 = omega arith in
      let arg_small : argument_of c ≤ 2147483647 = omega arith in
      and_from _ _ (condition_word-spelled (condition_code c) code_small)
      (and_from _ _ (thing_written sizes few (names_of (condition_of (condition_code c))) (argument_of c) arg_small) refl)

  pub conditions_laid : (conds : List ℕ) → length conds ≤ 5 → AllByRecursion IsSmall conds → laid false (flat_map (condition_chunks sizes) conds) ≡ true
  conditions_laid conds low small =
      ap (laid false) (flat-lines (condition_chunks sizes) conds 0) ∙ laid-lines IsSmall (λ k. condition_chunks sizes) 5 condition_laid conds 0 (omega arith) small
