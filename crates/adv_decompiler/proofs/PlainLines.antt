-- The line of an action is read as an entry that means the action, and has its comment.
use Rattle.std.proofs.Common.{◌≡◌, ℕ, ◌+◌, ◌*◌, ◌≤◌, true, false, eqb, List, [], ◌∷◌, ◌++◌, map, pos, Result, Ok, refl, sym, ap, ◌∙◌, arith}
use Rattle.std.specs.Prelude.{codes, flat_map}
use Rattle.std.proofs.lemmas.Bool.{and_from, cond_both, eqb-true}
use Rattle.scott_types.specs.declared.parts.Action.{Action}
use Rattle.scott_types.specs.Action.{verb_of, noun_of}
use Rattle.scott_types.specs.Limits.{is_file_text}
use Rattle.source_reader.specs.declared.tokens.Token.{Token}
use Rattle.source_reader.specs.declared.tokens.Token.TheVariants as token
use Rattle.source_reader.specs.declared.tree.At.{At}
use Rattle.source_reader.specs.declared.tree.Head.{Head}
use Rattle.source_reader.specs.declared.tree.LinePart.{LinePart}
use Rattle.source_reader.specs.Singles.{here, any_token, symbol, number, vocab_word}
use Rattle.source_reader.specs.Lists.{braced}
use Rattle.source_reader.specs.Entries.{command_head, automatic_head, line_head, comment, line_part}
use Rattle.source_reader.specs.Entries.{condition as condition_piece}
use Rattle.source_reader.specs.Entries.{opcode as opcode_piece}
use Rattle.adv_compiler.specs.declared.pairs.Pairs.{Pairs}
use Rattle.adv_compiler.specs.Faults.{Fault}
use Rattle.adv_compiler.specs.Faults.{◌>>=◌ as ◌onto◌}
use Rattle.adv_compiler.specs.Known.{Known}
use Rattle.adv_compiler.specs.Values.{first_of_two, second_of_two}
use Rattle.adv_compiler.specs.Lines.{noun_after, verb_first, vocabulary, conditions, opcodes, no_opcodes, line}
use Rattle.adv_compiler.specs.Lines.{action_of as compiled_action}
use Rattle.adv_decompiler.specs.declared.sizes.Sizes.{Sizes}
use Rattle.adv_decompiler.specs.Layout.{spaced, below, Chunk, word, quoted, mark, semicolon}
use Rattle.adv_decompiler.specs.Layout.{number as number_chunk}
use Rattle.adv_decompiler.specs.Layout.{braced as braced_chunks}
use Rattle.adv_decompiler.specs.Written.{written, number_of, parameters_of, as_condition}
use Rattle.adv_decompiler.specs.Lines.{head, action_line}
use Rattle.adv_decompiler.specs.Lines.{condition as condition_chunks}
use Rattle.adv_decompiler.specs.Lines.{opcode as opcode_chunks}
use Rattle.adv_decompiler.proofs.Apart.{laid, laid-free, laid-append}
use Rattle.adv_decompiler.proofs.Feeding.{Fed, fed_then, fed_done}
use Rattle.adv_decompiler.proofs.Finding.{Finds, AreFew, number_written}
use Rattle.adv_decompiler.proofs.Listing.{Each, EntryFed}
use Rattle.adv_decompiler.proofs.PlainConditions.{ConditionMeans, natural_is, conditions_fed, conditions_mean, conditions_laid}
use Rattle.adv_decompiler.proofs.PlainOpcodes.{OpcodeMeans, opcodes_fed, opcodes_laid}
use Rattle.adv_decompiler.proofs.OpcodeMeanings.{packed, first_is, second_is, opcodes_mean}
use Rattle.adv_decompiler.proofs.WrittenActions.{written_is_meant}
use Rattle.adv_decompiler.proofs.WrittenLimits.{IsGood, written_is}

-- ---- heads

abbrev HeadMeans : ℕ → Head → Type 0
HeadMeans vocab h = (known : Known) → vocabulary known h ≡ Ok vocab

noun_is : (verb at n : ℕ) → n ≤ 149 → verb + n ≤ 2147483647 → noun_after verb at (pos n) ≡ Ok (verb + n)
noun_is verb at n low most =
    ap (λ (r : Result ℕ Fault). r onto second_of_two at (pos n) verb) (natural_is at n) ∙ second_is at (pos n) verb n low most

verb_is : (at v : ℕ) → 150 * v ≤ 2147483647 → verb_first at (pos v) ≡ Ok (150 * v)
verb_is at v most = ap (λ (r : Result ℕ Fault). r onto first_of_two at (pos v)) (natural_is at v) ∙ first_is at (pos v) v most

also_fed : (at vocab : ℕ) → vocab ≡ 0 → Fed (line_head at (token.Word (codes "also"))) [] (HeadMeans vocab)
unfolding line_head
also_fed at vocab e = λ known. ap (λ (n : ℕ). Ok n) (sym e)

auto_fed : (at vocab : ℕ) → verb_of vocab ≡ 0 → vocab ≤ 2147483647
    → Fed (line_head at (token.Word (codes "auto"))) (number_chunk spaced (noun_of vocab) ∷ []) (HeadMeans vocab)
unfolding line_head automatic_head number any_token
auto_fed at vocab e small = λ at_number known.
    let low : noun_of vocab ≤ 149 = omega arith in
    let most : 0 + noun_of vocab ≤ 2147483647 = omega arith in
    let same : 0 + noun_of vocab ≡ vocab = omega arith in noun_is 0 at_number (noun_of vocab) low most ∙ ap (λ (n : ℕ). Ok n) same

line_fed : (at vocab : ℕ) → vocab ≤ 2147483647
    → Fed (line_head at (token.Word (codes "line"))) (number_chunk spaced (verb_of vocab) ∷ number_chunk spaced (noun_of vocab) ∷ []) (HeadMeans vocab)
unfolding line_head command_head vocab_word any_token
line_fed at vocab small = λ at_verb at_noun known.
    let verb : 150 * verb_of vocab ≤ 2147483647 = omega arith in
    let low : noun_of vocab ≤ 149 = omega arith in
    let most : 150 * verb_of vocab + noun_of vocab ≤ 2147483647 = omega arith in
    let same : 150 * verb_of vocab + noun_of vocab ≡ vocab = omega arith in
    ap (λ (r : Result ℕ Fault). r onto λ first. noun_after first at_noun (pos (noun_of vocab))) (verb_is at_verb (verb_of vocab) verb)
    ∙ noun_is (150 * verb_of vocab) at_noun (noun_of vocab) low most ∙ ap (λ (n : ℕ). Ok n) same

comment_fed : (text : List ℕ) → Fed comment (quoted spaced text ∷ semicolon ∷ []) (λ read. read ≡ text)
unfolding comment symbol any_token
comment_fed text = λ at at_end. refl

module _ (sizes : Sizes) (few : AreFew sizes) where
  -- ---- a line

  pub record LineMeans (a : Action) (text : List ℕ) (e : At LinePart) : Type 0 where
    pub head : HeadMeans a.vocab e.what.head
    pub conds : Each (ConditionMeans sizes) 0 (written a).conds e.what.conds
    pub ops : Each (OpcodeMeans sizes few) 0 (written a).ops e.what.ops
    pub comment : e.what.comment ≡ text

  abbrev rest_of : Action → List ℕ → List Chunk
  rest_of a text =
      braced_chunks (flat_map (condition_chunks sizes) (written a).conds)
      ++ (braced_chunks (flat_map (opcode_chunks sizes) (written a).ops) ++ quoted spaced text ∷ semicolon ∷ [])

  -- after a head that is read as that of the action, the rest of its line is read as its
  -- conditions, its opcodes and its comment
  rest_fed : (a : Action) (text : List ℕ) → IsGood a → (at : ℕ) (t : Token) (chunks : List Chunk) → Fed (line_head at t) chunks (HeadMeans a.vocab)
      → Fed (line_part at t) (chunks ++ rest_of a text) (λ v. LineMeans a text (here at v))
  rest_fed a text good at t chunks fed =
      let w = written_is a good in
      let P : LinePart → Type 0 = λ v. LineMeans a text (here at v) in
      fed_then (HeadMeans a.vocab) P (line_head at t) _ chunks _ fed (λ h hh.
      fed_then (λ es. Each (ConditionMeans sizes) 0 (written a).conds es.entries) P (braced condition_piece) _ (braced_chunks (flat_map (condition_chunks sizes) (written a).conds)) _
      (conditions_fed sizes few (written a).conds w.conds_few w.conds_small) (λ cs hc.
      fed_then (λ es. Each (OpcodeMeans sizes few) 0 (written a).ops es.entries) P (braced opcode_piece) _ (braced_chunks (flat_map (opcode_chunks sizes) (written a).ops)) _
      (opcodes_fed sizes few (written a).ops w.ops_few w.ops_right) (λ os ho.
      fed_done (λ read. read ≡ text) P comment (λ read. record { head = h; conds = cs.entries; ops = os.entries; comment = read }) (quoted spaced text ∷ semicolon ∷ [])
      (comment_fed text) (λ read hr. record { head = hh; conds = hc; ops = ho; comment = hr }))))

  -- the line of an action is read as an entry that means its four parts
  pub action_fed : (k : ℕ) (a : Action) (text : List ℕ) → IsGood a → EntryFed line_part (action_line sizes k (a, text)) (LineMeans a text)
  action_fed k a text good =
      let rest = rest_of a text in
      let P : List Chunk → Type 0 = λ chunks. EntryFed line_part (chunks ++ rest) (LineMeans a text) in
      cond_both (eqb a.vocab 0) (word below (codes "also") ∷ []) _ P
      (λ e. (refl, λ at. rest_fed a text good at (token.Word (codes "also")) [] (also_fed at a.vocab (eqb-true a.vocab 0 e))))
      (λ e. cond_both (eqb (verb_of a.vocab) 0) (word below (codes "auto") ∷ number_chunk spaced (noun_of a.vocab) ∷ [])
      (word below (codes "line") ∷ number_chunk spaced (verb_of a.vocab) ∷ number_chunk spaced (noun_of a.vocab) ∷ []) P
      (λ e. (
        refl,
        λ at. rest_fed a text good at (token.Word (codes "auto")) (number_chunk spaced (noun_of a.vocab) ∷ [])
            (auto_fed at a.vocab (eqb-true (verb_of a.vocab) 0 e) good.vocab),
      ))
      (λ e. (
        refl,
        λ at. rest_fed a text good at (token.Word (codes "line")) (number_chunk spaced (verb_of a.vocab) ∷ number_chunk spaced (noun_of a.vocab) ∷ [])
            (line_fed at a.vocab good.vocab),
      )))

  -- an entry that means the parts of an action is compiled to that action
  pub action_means : (known : Known) → Finds sizes known → (k : ℕ) (a : Action) (text : List ℕ) (e : At LinePart) → IsGood a → LineMeans a text e → line known k e ≡ Ok a
  action_means known finds k a text e good h =
      let w = written_is a good in
      let pairs : Pairs = packed (map number_of (written a).ops) in
      let conds : List ℕ = (written a).conds ++ map as_condition (flat_map parameters_of (written a).ops) in
      ap (λ (r : Result ℕ Fault). r onto λ vocab. conditions known [] e.what.conds onto λ cs. opcodes known cs no_opcodes e.what.ops onto λ all. Ok (compiled_action vocab all.0 all.1))
      (h.head known)
      ∙ ap (λ (r : Result (List ℕ) Fault). r onto λ cs. opcodes known cs no_opcodes e.what.ops onto λ all. Ok (compiled_action a.vocab all.0 all.1))
      (conditions_mean sizes few known finds (written a).conds e.what.conds w.conds_few w.conds_small h.conds)
      ∙ ap (λ (r : Result (List ℕ × Pairs) Fault). r onto λ all. Ok (compiled_action a.vocab all.0 all.1))
      (opcodes_mean sizes known finds few (written a).ops e.what.ops (written a).conds w.ops_right w.ops_few w.ops_fit w.enough h.ops)
      ∙ ap (λ (b : Action). Ok b) (written_is_meant a good.five good.two)

  -- ---- it stands apart

  braced_laid : (chunks : List Chunk) → laid false chunks ≡ true → laid false (braced_chunks chunks) ≡ true
  braced_laid chunks h = laid-append true chunks (mark spaced 125 ∷ []) (laid-free true chunks h) refl

  head_laid : (vocab : ℕ) → vocab ≤ 2147483647 → laid false (head vocab) ≡ true
  head_laid vocab small =
      let verb : verb_of vocab ≤ 2147483647 = omega arith in
      let noun : noun_of vocab ≤ 2147483647 = omega arith in
      cond_both (eqb vocab 0) (word below (codes "also") ∷ []) _ (λ chunks. laid false chunks ≡ true) (λ e. refl)
      (λ e. cond_both (eqb (verb_of vocab) 0) (word below (codes "auto") ∷ number_chunk spaced (noun_of vocab) ∷ [])
      (word below (codes "line") ∷ number_chunk spaced (verb_of vocab) ∷ number_chunk spaced (noun_of vocab) ∷ []) (λ chunks. laid false chunks ≡ true)
      (λ e. and_from _ _ (number_written sizes few (noun_of vocab) noun) refl)
      (λ e. and_from _ _ (number_written sizes few (verb_of vocab) verb) (and_from _ _ (number_written sizes few (noun_of vocab) noun) refl)))

  pub action_laid : (k : ℕ) (a : Action) (text : List ℕ) → IsGood a → is_file_text text ≡ true → laid false (action_line sizes k (a, text)) ≡ true
  action_laid k a text good ok =
      let w = written_is a good in
      let conds = flat_map (condition_chunks sizes) (written a).conds in
      let ops = flat_map (opcode_chunks sizes) (written a).ops in
      let last = quoted spaced text ∷ semicolon ∷ [] in
      laid-append false (head a.vocab) (braced_chunks conds ++ (braced_chunks ops ++ last)) (head_laid a.vocab good.vocab)
      (laid-append false (braced_chunks conds) (braced_chunks ops ++ last) (braced_laid conds (conditions_laid sizes few (written a).conds w.conds_few w.conds_small))
      (laid-append false (braced_chunks ops) last (braced_laid ops (opcodes_laid sizes few (written a).ops w.ops_few w.ops_right)) (and_from _ _ ok refl)))
