-- Opcodes that were written are read as the same opcodes, with the same parameters.
use Rattle.std.proofs.Common.{◌≡◌, ℕ, ◌+◌, ◌-◌, ◌≤◌, ◌<◌, true, false, cond, eqb, List, [], ◌∷◌, ◌++◌, length, pos, refl, sym, ap, subst, ◌∙◌, arith}
use Rattle.std.specs.Prelude.{codes, flat_map}
use Rattle.std.specs.List.{AllByRecursion}
use Rattle.std.specs.Str.{bytes_eq}
use Rattle.std.proofs.lemmas.Bool.{and_from, cond-false}
use Rattle.scott_types.specs.Opcode.{opcode_of, uses}
use Rattle.scott_types.specs.Opcode.{parameters_of as kinds_of}
use Rattle.scott_types.specs.declared.parameters.Parameter.{Parameter}
use Rattle.source_reader.specs.declared.tokens.Token.TheVariants as token
use Rattle.source_reader.specs.declared.tree.At.{At}
use Rattle.source_reader.specs.declared.tree.Ref.{Ref}
use Rattle.source_reader.specs.declared.tree.Op.{Op}
use Rattle.source_reader.specs.declared.tree.Op.TheVariants as op
use Rattle.source_reader.specs.Plan.{Plan, done, refuse, ◌>>◌}
use Rattle.source_reader.specs.Names.{opcode_word}
use Rattle.source_reader.specs.Singles.{any_token, symbol, number, reference}
use Rattle.source_reader.specs.Lists.{braced, many}
use Rattle.source_reader.specs.Entries.{next_reference, one_parameter, two_parameters, named_opcode, opcode_named, message_said, opcode_numbered}
use Rattle.source_reader.specs.Entries.{opcode as opcode_piece}
use Rattle.adv_compiler.specs.Values.{thing}
use Rattle.adv_compiler.specs.Lines.{parameters}
use Rattle.adv_decompiler.specs.declared.sizes.Sizes.{Sizes}
use Rattle.adv_decompiler.specs.Layout.{joined, spaced, Chunk, chunk, mark, semicolon, listed}
use Rattle.adv_decompiler.specs.Layout.{braced as braced_chunks}
use Rattle.adv_decompiler.specs.References.{message_token, thing_token}
use Rattle.adv_decompiler.specs.Written.{Piece, says, numbered, named, bracketed, as_condition}
use Rattle.adv_decompiler.specs.Lines.{parameter_tokens}
use Rattle.adv_decompiler.specs.Lines.{opcode as opcode_chunks}
use Rattle.adv_decompiler.proofs.Apart.{is_a_mark, or_true, laid, laid-lines, flat-lines}
use Rattle.adv_decompiler.proofs.Feeding.{Fed, fed_then}
use Rattle.adv_decompiler.proofs.Finding.{AreFew, Means, message_refers, thing_refers, message_written, thing_written, number_written}
use Rattle.adv_decompiler.proofs.Names.{opcode_word-right}
use Rattle.adv_decompiler.proofs.Listing.{Each, EntryFed, fed_many}
use Rattle.adv_decompiler.proofs.PlainConditions.{IsSmall}

-- ---- what holds of each piece that is written

abbrev pub IsParameter : ℕ → Type 0
IsParameter p = IsSmall (as_condition p)

pub record IsBracketed (n : ℕ) (parameters : List ℕ) : Type 0 where
  pub least : 52 ≤ n
  pub most : n < 90
  pub enough : length parameters ≡ uses (opcode_of n)
  pub some : 1 ≤ length parameters
  pub few : length parameters ≤ 2
  pub small : AllByRecursion IsParameter parameters

abbrev pub IsPiece : Piece → Type 0
IsPiece (says message) = (1 ≤ message) × IsSmall message
IsPiece (numbered n) = IsSmall n
IsPiece (named n) = (52 ≤ n) × (n < 90)
IsPiece (bracketed n parameters) = IsBracketed n parameters

module _ (sizes : Sizes) (few : AreFew sizes) where
  -- ---- one opcode

  abbrev pub ThingsMean : List ℕ → List (At Ref) → Type 0
  ThingsMean [] [] = Unit {0}
  ThingsMean [] (r ∷ refs) = ⊥
  ThingsMean (p ∷ ps) [] = ⊥
  ThingsMean (p ∷ ps) (r ∷ refs) = Means sizes thing (pos p) r × ThingsMean ps refs

  -- the opcode that was read is this piece: the same message, number or name, and parameters
  abbrev pub PieceMeans : Piece → Op → Type 0
  PieceMeans (says message) (op.Say r) = Means sizes (λ known. known.messages) (pos message) r
  PieceMeans (says message) (op.Number a) = ⊥
  PieceMeans (says message) (op.Named m) = ⊥
  PieceMeans (says message) (op.With m refs) = ⊥
  PieceMeans (numbered n) (op.Say r) = ⊥
  PieceMeans (numbered n) (op.Number a) = a.what ≡ pos n
  PieceMeans (numbered n) (op.Named m) = ⊥
  PieceMeans (numbered n) (op.With m refs) = ⊥
  PieceMeans (named n) (op.Say r) = ⊥
  PieceMeans (named n) (op.Number a) = ⊥
  PieceMeans (named n) (op.Named m) = m ≡ n
  PieceMeans (named n) (op.With m refs) = ⊥
  PieceMeans (bracketed n ps) (op.Say r) = ⊥
  PieceMeans (bracketed n ps) (op.Number a) = ⊥
  PieceMeans (bracketed n ps) (op.Named m) = ⊥
  PieceMeans (bracketed n ps) (op.With m refs) = (m ≡ n) × ThingsMean ps refs

  abbrev pub OpcodeMeans : ℕ → Piece → At Op → Type 0
  OpcodeMeans k p e = PieceMeans p e.what

  fed_next : (kind : Parameter) (p : ℕ) → Fed next_reference (mark joined 44 ∷ chunk spaced (thing_token sizes kind p) ∷ []) (Means sizes thing (pos p))
  unfolding next_reference symbol any_token
  fed_next kind p = λ at. thing_refers sizes few kind p spaced

  one_fed : (n : ℕ) (kind : Parameter) (p : ℕ)
      → Fed (one_parameter n) (chunk joined (thing_token sizes kind p) ∷ mark joined 41 ∷ semicolon ∷ []) (PieceMeans (bracketed n (p ∷ [])))
  unfolding one_parameter symbol any_token
  one_fed n kind p =
      fed_then (Means sizes thing (pos p)) (PieceMeans (bracketed n (p ∷ []))) reference _ (chunk joined (thing_token sizes kind p) ∷ []) (mark joined 41 ∷ semicolon ∷ [])
      (thing_refers sizes few kind p joined) (λ r h at at_end. (refl, (h, tt)))

  two_fed : (n : ℕ) (kind other : Parameter) (p q : ℕ)
      → Fed (two_parameters n) (chunk joined (thing_token sizes kind p) ∷ mark joined 44 ∷ chunk spaced (thing_token sizes other q) ∷ mark joined 41 ∷ semicolon ∷ [])
      (PieceMeans (bracketed n (p ∷ q ∷ [])))
  unfolding two_parameters symbol any_token
  two_fed n kind other p q =
      let P = PieceMeans (bracketed n (p ∷ q ∷ [])) in
      fed_then (Means sizes thing (pos p)) P reference _ (chunk joined (thing_token sizes kind p) ∷ []) _ (thing_refers sizes few kind p joined) (λ r h.
      fed_then (Means sizes thing (pos q)) P next_reference _ (mark joined 44 ∷ chunk spaced (thing_token sizes other q) ∷ []) (mark joined 41 ∷ semicolon ∷ [])
      (fed_next other q) (λ s m at at_end. (refl, (h, (m, tt)))))

  -- one or two parameters in brackets are read as references that mean just these
  brackets_fed : (n at : ℕ) (kinds : List Parameter) (ps : List ℕ) → length ps ≡ length kinds → 1 ≤ length ps → length ps ≤ 2
      → Fed (cond (eqb (length kinds) 1) (one_parameter n) (cond (eqb (length kinds) 2) (two_parameters n) (refuse at)))
      (listed joined (parameter_tokens sizes kinds ps) ++ mark joined 41 ∷ semicolon ∷ []) (PieceMeans (bracketed n ps))
  brackets_fed n at (kind ∷ []) (p ∷ []) same some most = one_fed n kind p
  brackets_fed n at (kind ∷ other ∷ []) (p ∷ q ∷ []) same some most = two_fed n kind other p q
  brackets_fed n at kinds [] same some most = absurd (omega arith)
  brackets_fed n at kinds (p ∷ q ∷ r ∷ ps) same some most = absurd (omega arith)
  brackets_fed n at [] (p ∷ []) same some most = absurd (omega arith)
  brackets_fed n at [] (p ∷ q ∷ []) same some most = absurd (omega arith)
  brackets_fed n at (kind ∷ other ∷ kinds) (p ∷ []) same some most = absurd (omega arith)
  brackets_fed n at (kind ∷ []) (p ∷ q ∷ []) same some most = absurd (omega arith)
  brackets_fed n at (kind ∷ other ∷ third ∷ kinds) (p ∷ q ∷ []) same some most = absurd (omega arith)

  -- the word of an opcode is read as its number
  by_word : (n at : ℕ) → 52 ≤ n → n < 90 → opcode_piece at (token.Word (opcode_word n)) ≡ named_opcode n
  by_word n at least most =
      let is = opcode_word-right n least most in
      cond-false (bytes_eq (opcode_word n) (codes "say")) _ _ is.no_say ∙ cond-false (bytes_eq (opcode_word n) (codes "op")) _ _ is.no_op
      ∙ ap (opcode_named at) is.number

  named_fed : (n : ℕ) → Fed (named_opcode n) (semicolon ∷ []) (PieceMeans (named n))
  unfolding named_opcode any_token
  named_fed n = λ at. refl

  bracketed_fed : (n : ℕ) (ps : List ℕ) → IsBracketed n ps
      → Fed (named_opcode n) (mark joined 40 ∷ (listed joined (parameter_tokens sizes (kinds_of (opcode_of n)) ps) ++ mark joined 41 ∷ semicolon ∷ []))
      (PieceMeans (bracketed n ps))
  unfolding named_opcode any_token
  bracketed_fed n ps is = λ at. brackets_fed n at (kinds_of (opcode_of n)) ps is.enough is.some is.few

  -- what is written of an opcode is read as that opcode, with what its parameters name
  opcode_fed : (k : ℕ) (p : Piece) → k < 4 → IsPiece p → EntryFed opcode_piece (opcode_chunks sizes p) (OpcodeMeans k p)
  unfolding message_said opcode_numbered number symbol any_token
  opcode_fed k (says message) low is = (
    refl,
    λ at. fed_then (Means sizes (λ known. known.messages) (pos message)) (PieceMeans (says message)) reference (λ m. symbol 59 >> done (op.Say m))
        (chunk spaced (message_token sizes message) ∷ []) (semicolon ∷ []) (message_refers sizes few message spaced) (λ r h at_end. h),
  )
  opcode_fed k (numbered n) low is = (refl, λ at at_number at_end. refl)
  opcode_fed k (named n) low is =
      (refl, λ at. subst (λ (p : Plan Op). Fed p (semicolon ∷ []) (PieceMeans (named n))) (sym (by_word n at is.0 is.1)) (named_fed n))
  opcode_fed k (bracketed n ps) low is = (
    refl,
    λ at. subst
        (λ (p : Plan Op). Fed p (mark joined 40 ∷ (listed joined (parameter_tokens sizes (kinds_of (opcode_of n)) ps) ++ mark joined 41 ∷ semicolon ∷ []))
        (PieceMeans (bracketed n ps))) (sym (by_word n at is.least is.most)) (bracketed_fed n ps is),
  )

  pub opcodes_fed : (ps : List Piece) → length ps ≤ 4 → AllByRecursion IsPiece ps
      → Fed (braced opcode_piece) (braced_chunks (flat_map (opcode_chunks sizes) ps)) (λ es. Each OpcodeMeans 0 ps es.entries)
  unfolding braced symbol any_token
  opcodes_fed ps low all at =
      subst (λ (chunks : List Chunk). Fed (many opcode_piece) (chunks ++ mark spaced 125 ∷ []) (λ es. Each OpcodeMeans 0 ps es.entries))
      (sym (flat-lines (opcode_chunks sizes) ps 0))
      (fed_many opcode_piece IsPiece (λ k. opcode_chunks sizes) OpcodeMeans 4 opcode_fed spaced ps low (omega arith) all)

  -- ---- they stand apart

  -- the tokens of parameters, up to the closing bracket and the semicolon, stand apart
  tokens_laid : (kinds : List Parameter) (ps : List ℕ) → AllByRecursion IsParameter ps → length ps ≤ 2
      → laid true (listed joined (parameter_tokens sizes kinds ps) ++ mark joined 41 ∷ semicolon ∷ []) ≡ true
  tokens_laid [] ps small most = refl
  tokens_laid (kind ∷ kinds) [] small most = refl
  tokens_laid (kind ∷ []) (p ∷ ps) small most =
      and_from _ _ (thing_written sizes few kind p (omega arith)) (and_from _ _ (or_true (is_a_mark (thing_token sizes kind p))) refl)
  tokens_laid (kind ∷ other ∷ kinds) (p ∷ []) small most =
      and_from _ _ (thing_written sizes few kind p (omega arith)) (and_from _ _ (or_true (is_a_mark (thing_token sizes kind p))) refl)
  tokens_laid (kind ∷ other ∷ []) (p ∷ q ∷ ps) small most =
      and_from _ _ (thing_written sizes few kind p (omega arith))
      (and_from _ _ (or_true (is_a_mark (thing_token sizes kind p))) (and_from _ _ (thing_written sizes few other q (omega arith)) refl))
  tokens_laid (kind ∷ other ∷ third ∷ kinds) (p ∷ q ∷ []) small most =
      and_from _ _ (thing_written sizes few kind p (omega arith))
      (and_from _ _ (or_true (is_a_mark (thing_token sizes kind p))) (and_from _ _ (thing_written sizes few other q (omega arith)) refl))
  tokens_laid (kind ∷ other ∷ third ∷ kinds) (p ∷ q ∷ r ∷ ps) small most = absurd (omega arith)

  opcode_laid : (k : ℕ) (p : Piece) → k < 4 → IsPiece p → laid false (opcode_chunks sizes p) ≡ true
  opcode_laid k (says message) low is = and_from _ _ (message_written sizes few message is.1) refl
  opcode_laid k (numbered n) low is = and_from _ _ (number_written sizes few n is) refl
  opcode_laid k (named n) low is = and_from _ _ (opcode_word-right n is.0 is.1).spelled refl
  opcode_laid k (bracketed n ps) low is =
      and_from _ _ (opcode_word-right n is.least is.most).spelled (tokens_laid (kinds_of (opcode_of n)) ps is.small is.few)

  pub opcodes_laid : (ps : List Piece) → length ps ≤ 4 → AllByRecursion IsPiece ps → laid false (flat_map (opcode_chunks sizes) ps) ≡ true
  opcodes_laid ps low all =
      ap (laid false) (flat-lines (opcode_chunks sizes) ps 0) ∙ laid-lines IsPiece (λ k. opcode_chunks sizes) 4 opcode_laid ps 0 (omega arith) all
