-- What opcodes mean that were read: they are packed one after another, and their parameters are
-- conditions.
use Rattle.std.proofs.Common.{◌≡◌, ℕ, ◌+◌, ◌*◌, ◌≤◌, ◌<◌, ◌&&◌, leb, ltb, List, [], ◌∷◌, ◌++◌, map, length, get_or, ℤ, pos, Result, Ok, refl, sym, ap, subst, ◌∙◌, append_assoc, arith, length-append}
use Rattle.std.specs.Prelude.{int_le, flat_map}
use Rattle.std.specs.List.{AllByRecursion}
use Rattle.std.proofs.lemmas.Bool.{and_from, cond-true, le-leb, lt-ltb}
use Rattle.std.proofs.lemmas.List.{append-nil, map-append, length-map}
use Rattle.scott_types.specs.Opcode.{say_number}
use Rattle.source_reader.specs.declared.tree.At.{At}
use Rattle.source_reader.specs.declared.tree.Ref.{Ref}
use Rattle.source_reader.specs.declared.tree.Op.{Op}
use Rattle.source_reader.specs.declared.tree.Op.TheVariants as op
use Rattle.adv_compiler.specs.declared.pairs.Pairs.{Pairs}
use Rattle.adv_compiler.specs.Faults.{Fault}
use Rattle.adv_compiler.specs.Faults.{◌>>=◌ as ◌onto◌}
use Rattle.adv_compiler.specs.Known.{Known}
use Rattle.adv_compiler.specs.Values.{natural, first_of_two, second_of_two, packed_condition}
use Rattle.adv_compiler.specs.Lines.{with_condition, parameter, parameters, with_opcode, message_opcode, added, opcode, opcodes, no_opcodes}
use Rattle.adv_decompiler.specs.declared.sizes.Sizes.{Sizes}
use Rattle.adv_decompiler.specs.Written.{Piece, says, numbered, named, bracketed, number_of, parameters_of, as_condition}
use Rattle.adv_decompiler.proofs.Finding.{Finds, AreFew}
use Rattle.adv_decompiler.proofs.Listing.{Each}
use Rattle.adv_decompiler.proofs.PlainConditions.{natural_is, packed_is, with_is}
use Rattle.adv_decompiler.proofs.PlainOpcodes.{IsParameter, IsPiece, ThingsMean, PieceMeans, OpcodeMeans}

-- ---- packed opcodes

-- the opcodes so far, packed
abbrev pub packed : List ℕ → Pairs
packed ns = record { first = 150 * get_or ns 0 0 + get_or ns 1 0; second = 150 * get_or ns 2 0 + get_or ns 3 0; count = length ns }

pub record FitPairs (ns : List ℕ) : Type 0 where
  pub first : 150 * get_or ns 0 0 + get_or ns 1 0 ≤ 2147483647
  pub first_low : get_or ns 1 0 ≤ 149
  pub second : 150 * get_or ns 2 0 + get_or ns 3 0 ≤ 2147483647
  pub second_low : get_or ns 3 0 ≤ 149

pub first_is : (at : ℕ) (written : ℤ) (n : ℕ) → 150 * n ≤ 2147483647 → first_of_two at written n ≡ Ok (150 * n)
first_is at written n h = cond-true (leb (150 * n) 2147483647) _ _ (le-leb (150 * n) 2147483647 h)

pub second_is : (at : ℕ) (written : ℤ) (first n : ℕ) → n ≤ 149 → first + n ≤ 2147483647 → second_of_two at written first n ≡ Ok (first + n)
second_is at written first n low h =
    cond-true (leb n 149 && leb (first + n) 2147483647) _ _ (and_from _ _ (le-leb n 149 low) (le-leb (first + n) 2147483647 h))

abbrev pairs_of : ℕ → ℕ → ℕ → Pairs
pairs_of first second count = record { first = first; second = second; count = count }

same_pairs : (a b c d count : ℕ) → a ≡ b → c ≡ d → pairs_of a c count ≡ pairs_of b d count
same_pairs a b c d count e h = λ i. record { first = e i; second = h i; count = count }

-- an opcode after fewer than four is packed in the place after them
one_more : (at : ℕ) (written : ℤ) (ns : List ℕ) (n : ℕ) (rest : List ℕ) → length ns < 4 → FitPairs (ns ++ n ∷ rest)
    → with_opcode at written (packed ns) n ≡ Ok (packed (ns ++ n ∷ []))
one_more at written [] n rest room fit =
    let low : 150 * n ≤ 2147483647 = omega (arith, fit.first) in
    let same : 150 * n ≡ 150 * n + 0 = omega arith in
    ap (λ (r : Result ℕ Fault). r onto λ v. Ok (pairs_of v 0 1)) (first_is at written n low) ∙ ap (λ (p : Pairs). Ok p) (same_pairs _ _ 0 0 1 same refl)
one_more at written (a ∷ []) n rest room fit =
    let low : 150 * a + 0 + n ≤ 2147483647 = omega (arith, fit.first) in
    let same : 150 * a + 0 + n ≡ 150 * a + n = omega arith in
    ap (λ (r : Result ℕ Fault). r onto λ v. Ok (pairs_of v 0 2)) (second_is at written (150 * a + 0) n fit.first_low low)
    ∙ ap (λ (p : Pairs). Ok p) (same_pairs _ _ 0 0 2 same refl)
one_more at written (a ∷ b ∷ []) n rest room fit =
    let low : 150 * n ≤ 2147483647 = omega (arith, fit.second) in
    let same : 150 * n ≡ 150 * n + 0 = omega arith in
    ap (λ (r : Result ℕ Fault). r onto λ v. Ok (pairs_of (150 * a + b) v 3)) (first_is at written n low)
    ∙ ap (λ (p : Pairs). Ok p) (same_pairs (150 * a + b) (150 * a + b) _ _ 3 refl same)
one_more at written (a ∷ b ∷ c ∷ []) n rest room fit =
    let low : 150 * c + 0 + n ≤ 2147483647 = omega (arith, fit.second) in
    let same : 150 * c + 0 + n ≡ 150 * c + n = omega arith in
    ap (λ (r : Result ℕ Fault). r onto λ v. Ok (pairs_of (150 * a + b) v 4)) (second_is at written (150 * c + 0) n fit.second_low low)
    ∙ ap (λ (p : Pairs). Ok p) (same_pairs (150 * a + b) (150 * a + b) _ _ 4 refl same)
one_more at written (a ∷ b ∷ c ∷ d ∷ ns) n rest room fit = absurd (omega arith)

-- ---- what opcodes mean

abbrev kept : List ℕ → Pairs → Result (List ℕ × Pairs) Fault
kept conds pairs = Ok (conds, pairs)

module _ (sizes : Sizes) (known : Known) (finds : Finds sizes known) where
  -- parameters that were read become conditions of code 0 after the conditions before them
  parameters_mean : (few : AreFew sizes) (ps : List ℕ) (refs : List (At Ref)) (before : List ℕ) → length before + length ps ≤ 5 → AllByRecursion IsParameter ps
      → ThingsMean sizes few ps refs → parameters known before refs ≡ Ok (before ++ map as_condition ps)
  parameters_mean few [] [] before room small h = ap (λ (cs : List ℕ). Ok cs) (sym (append-nil before))
  parameters_mean few [] (r ∷ refs) before room small h = absurd h
  parameters_mean few (p ∷ ps) [] before room small h = absurd h
  parameters_mean few (p ∷ ps) (r ∷ refs) before room small h =
      let there : length before < 5 = omega arith in
      let more : length (before ++ as_condition p ∷ []) + length ps ≤ 5 = omega (arith, length-append before (as_condition p ∷ [])) in
      let one : parameter known before r ≡ Ok (before ++ as_condition p ∷ []) =
      ap (λ (v : Result ℤ Fault). v onto λ z. with_condition r.at before (packed_condition r.at 0 z)) (h.0 known finds)
      ∙ with_is r.at before (as_condition p) _ there (packed_is r.at 0 p (as_condition p) (omega arith) small.0) in
      ap (λ (v : Result (List ℕ) Fault). v onto λ so_far. parameters known so_far refs) one
      ∙ parameters_mean few ps refs (before ++ as_condition p ∷ []) more small.1 h.1
      ∙ ap (λ (cs : List ℕ). Ok cs) (append_assoc before (as_condition p ∷ []) (map as_condition ps))

  message_is : (at message : ℕ) → 1 ≤ message → message_opcode at (pos message) ≡ Ok (say_number message)
  message_is at message h = cond-true (int_le (pos 1) (pos message)) _ _ (le-leb 1 message h)

  -- the conditions and the opcodes after one that was added
  abbrev After : List ℕ → List ℕ → Piece → Result (List ℕ × Pairs) Fault
  After conds ns p = Ok (conds ++ map as_condition (parameters_of p), packed (ns ++ number_of p ∷ []))

  same_after : (conds : List ℕ) (q : Pairs) → kept conds q ≡ kept (conds ++ []) q
  same_after conds q = ap (λ (cs : List ℕ). kept cs q) (sym (append-nil conds))

  -- an opcode that was read adds its number to the opcodes and its parameters to the conditions
  added_means : (few : AreFew sizes) (p : Piece) (at : ℕ) (o : Op) (conds ns rest : List ℕ) → IsPiece p → PieceMeans sizes few p o
      → length ns < 4 → FitPairs (ns ++ number_of p ∷ rest) → length conds + length (parameters_of p) ≤ 5 → added known conds (packed ns) at o ≡ After conds ns p
  added_means few (says message) at (op.Say r) conds ns rest is h room fit enough =
      ap (λ (v : Result ℤ Fault). (v onto λ z. message_opcode r.at z onto λ n. with_opcode r.at z (packed ns) n) onto λ q. kept conds q) (h known finds)
      ∙ ap (λ (v : Result ℕ Fault). (v onto λ n. with_opcode r.at (pos message) (packed ns) n) onto λ q. kept conds q) (message_is r.at message is.0)
      ∙ ap (λ (v : Result Pairs Fault). v onto λ q. kept conds q) (one_more r.at (pos message) ns (say_number message) rest room fit)
      ∙ same_after conds (packed (ns ++ say_number message ∷ []))
  added_means few (numbered n) at (op.Number a) conds ns rest is h room fit enough =
      ap (λ (v : Result ℕ Fault). (v onto with_opcode a.at a.what (packed ns)) onto λ q. kept conds q) (ap (natural a.at) h ∙ natural_is a.at n)
      ∙ ap (λ (v : Result Pairs Fault). v onto λ q. kept conds q) (one_more a.at a.what ns n rest room fit)
      ∙ same_after conds (packed (ns ++ n ∷ []))
  added_means few (named n) at (op.Named m) conds ns rest is h room fit enough =
      ap (λ (v : Result Pairs Fault). v onto λ q. kept conds q)
      (ap (λ (k : ℕ). with_opcode at (pos k) (packed ns) k) h ∙ one_more at (pos n) ns n rest room fit)
      ∙ same_after conds (packed (ns ++ n ∷ []))
  added_means few (bracketed n ps) at (op.With m refs) conds ns rest is h room fit enough =
      ap (λ (v : Result Pairs Fault). v onto λ q. parameters known conds refs onto λ more. kept more q)
      (ap (λ (k : ℕ). with_opcode at (pos k) (packed ns) k) h.0 ∙ one_more at (pos n) ns n rest room fit)
      ∙ ap (λ (v : Result (List ℕ) Fault). v onto λ more. kept more (packed (ns ++ n ∷ []))) (parameters_mean few ps refs conds enough is.small h.1)
  added_means few (says message) at (op.Number a) conds ns rest is h room fit enough = absurd h
  added_means few (says message) at (op.Named m) conds ns rest is h room fit enough = absurd h
  added_means few (says message) at (op.With m refs) conds ns rest is h room fit enough = absurd h
  added_means few (numbered n) at (op.Say r) conds ns rest is h room fit enough = absurd h
  added_means few (numbered n) at (op.Named m) conds ns rest is h room fit enough = absurd h
  added_means few (numbered n) at (op.With m refs) conds ns rest is h room fit enough = absurd h
  added_means few (named n) at (op.Say r) conds ns rest is h room fit enough = absurd h
  added_means few (named n) at (op.Number a) conds ns rest is h room fit enough = absurd h
  added_means few (named n) at (op.With m refs) conds ns rest is h room fit enough = absurd h
  added_means few (bracketed n ps) at (op.Say r) conds ns rest is h room fit enough = absurd h
  added_means few (bracketed n ps) at (op.Number a) conds ns rest is h room fit enough = absurd h
  added_means few (bracketed n ps) at (op.Named m) conds ns rest is h room fit enough = absurd h

  abbrev all_parameters : List Piece → List ℕ
  all_parameters ps = flat_map parameters_of ps

  -- further opcodes add their numbers and their parameters in order, after what was there before
  opcodes_from : (few : AreFew sizes) (ps : List Piece) (entries : List (At Op)) (k : ℕ) (conds ns : List ℕ) → AllByRecursion IsPiece ps
      → length ns + length ps ≤ 4 → FitPairs (ns ++ map number_of ps) → length conds + length (all_parameters ps) ≤ 5 → Each (OpcodeMeans sizes few) k ps entries
      → opcodes known conds (packed ns) entries ≡ kept (conds ++ map as_condition (all_parameters ps)) (packed (ns ++ map number_of ps))
  opcodes_from few [] [] k conds ns all room fit enough h =
      same_after conds (packed ns) ∙ ap (λ (ms : List ℕ). kept (conds ++ []) (packed ms)) (sym (append-nil ns))
  opcodes_from few [] (e ∷ entries) k conds ns all room fit enough h = absurd h
  opcodes_from few (p ∷ ps) [] k conds ns all room fit enough h = absurd h
  opcodes_from few (p ∷ ps) (e ∷ entries) k conds ns all room fit enough h =
      let there : length ns < 4 = omega arith in
      let sum : length (parameters_of p ++ all_parameters ps) ≡ length (parameters_of p) + length (all_parameters ps) = length-append (parameters_of p) (all_parameters ps) in
      let one_enough : length conds + length (parameters_of p) ≤ 5 = omega arith in
      let mapped : length (map as_condition (parameters_of p)) ≡ length (parameters_of p) = length-map (parameters_of p) as_condition in
      let more : List ℕ = conds ++ map as_condition (parameters_of p) in
      let longer : length more ≡ length conds + length (map as_condition (parameters_of p)) = length-append conds (map as_condition (parameters_of p)) in
      let enough_more : length more + length (all_parameters ps) ≤ 5 = omega arith in
      let next : List ℕ = ns ++ number_of p ∷ [] in
      let again : next ++ map number_of ps ≡ ns ++ map number_of (p ∷ ps) = append_assoc ns (number_of p ∷ []) (map number_of ps) in
      let counted : length next + length ps ≤ 4 = omega (arith, length-append ns (number_of p ∷ [])) in
      let conditions_again : more ++ map as_condition (all_parameters ps) ≡ conds ++ map as_condition (parameters_of p ++ all_parameters ps) =
      append_assoc conds (map as_condition (parameters_of p)) (map as_condition (all_parameters ps))
      ∙ ap (λ (cs : List ℕ). conds ++ cs) (sym (map-append as_condition (parameters_of p) (all_parameters ps))) in
      let one : opcode known conds (packed ns) e ≡ kept more (packed next) =
      cond-true (ltb (length ns) 4) _ _ (lt-ltb (length ns) 4 there)
      ∙ added_means few p e.at e.what conds ns (map number_of ps) all.0 h.0 there fit one_enough in
      ap (λ (v : Result (List ℕ × Pairs) Fault). v onto λ so_far. opcodes known so_far.0 so_far.1 entries) one
      ∙ opcodes_from few ps entries (k + 1) more next all.1 counted (subst FitPairs (sym again) fit) enough_more h.1
      ∙ ap (λ (cs : List ℕ). kept cs (packed (next ++ map number_of ps))) conditions_again
      ∙ ap (λ (ms : List ℕ). kept (conds ++ map as_condition (parameters_of p ++ all_parameters ps)) (packed ms)) again

  pub opcodes_mean : (few : AreFew sizes) (ps : List Piece) (entries : List (At Op)) (conds : List ℕ) → AllByRecursion IsPiece ps
      → length ps ≤ 4 → FitPairs (map number_of ps) → length conds + length (all_parameters ps) ≤ 5 → Each (OpcodeMeans sizes few) 0 ps entries
      → opcodes known conds no_opcodes entries ≡ Ok (conds ++ map as_condition (flat_map parameters_of ps), packed (map number_of ps))
  opcodes_mean few ps entries conds all room fit enough h = opcodes_from few ps entries 0 conds [] all (omega arith) fit enough h
