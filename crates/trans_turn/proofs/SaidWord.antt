-- The first word of a line is said, byte by byte.
use Rattle.std.proofs.Common.{◌≡◌, arith, ℕ, suc, ◌+◌, ◌*◌, ◌<◌, ℤ, pos, true, false, nat_lt, List, [], ◌∷◌, drop, length, codes, Some, refl, sym, subst}
use Rattle.inform_codes.specs.Grown.{body_of}
use Rattle.inform_tree.specs.declared.conditions.Relation.TheVariants.{Lt}
use Rattle.inform_tree.specs.declared.values.SumOp.TheVariants.{Add}
use Rattle.inform_tree.specs.Values as v
use Rattle.inform_tree.specs.Conditions as c
use Rattle.inform_tree.specs.Statements as t
use Rattle.inform_tree.specs.Statements.{statements}
use Rattle.inform_meaning.specs.Worlds.{Program, Scope}
use Rattle.inform_meaning.specs.Words.{low_byte}
use Rattle.inform_meaning.specs.Frames.{Loop, Normal}
use Rattle.inform_meaning.specs.Statements.{for_loop}
use Rattle.inform_logic.specs.Stages.{Stage, said}
use Rattle.inform_logic.specs.Leading.{Executes, Loops, Does, at_end}
use Rattle.inform_logic.specs.Holding.{Has}
use Rattle.inform_logic.proofs.Lists.{at_rest, after_rest}
use Rattle.inform_logic.proofs.Words.{small_byte, small_sum, counted_up}
use Rattle.inform_logic.proofs.Values.{within, number, local, global, entry, sum_of_two}
use Rattle.inform_logic.proofs.Conditions.{compare}
use Rattle.inform_logic.proofs.Changes.{set_variable, increment}
use Rattle.inform_logic.proofs.Printing.{said_nothing, said_twice, print_nothing, print_character}
use Rattle.inform_logic.proofs.Statements.{end, next, print}
use Rattle.inform_logic.proofs.Loops.{for, for_once_more, for_ends}
use Rattle.inform_logic.proofs.Routines.{does_within, routine}
use Rattle.trans_turn.specs.declared.names.TheConstants.{SAY_WORD, I}
use Rattle.trans_turn.specs.declared.codes.TheConstants.{SAYING_WORD}
use Rattle.trans_turn.proofs.Holding.{written}
use Rattle.trans_turn.proofs.Bytes.{WordThere}

abbrev at_byte : ℕ → ℕ → Scope
at_byte r i = record { directive = r; locals = (codes "i", pos i) ∷ [] }

-- `print (char) buf->(wa + i);`
abbrev say_byte : t.Statement
say_byte = let place = v.Sum (v.Name (codes "wa"))
    (v.MoreTerms Add (v.Name (codes "i")) v.NoTerms) in
    t.Print (t.Char (v.Entry (codes "buf") false place) ∷ [])

abbrev word_loop : Loop
word_loop = for_loop (Some (c.Compare Lt (v.Name (codes "i")) (v.Name (codes "na"))))
    (Some (t.Inc (codes "i"))) (statements (say_byte ∷ []))

module _ (p : Program) (d r : ℕ) (word : List ℕ) (at : ℕ) (entries : List ℤ)
    (there : WordThere word at entries) (small : at + length word < 32768) where
  -- a stage with this word
  record HasWord (w : Stage) : Type 0 where
    wa_is : w.globals (codes "wa") ≡ Some (pos at)
    na_is : w.globals (codes "na") ≡ Some (pos (length word))
    buf_is : w.arrays (codes "buf") ≡ Some entries

  still : (bytes : List ℕ) {w : Stage} → HasWord w → HasWord (said bytes w)
  still bytes h = record { wa_is = h.wa_is; na_is = h.na_is; buf_is = h.buf_is }

  one : (i b : ℕ) (rest : List ℕ) → drop i word ≡ b ∷ rest → i < length word → (w : Stage)
      → HasWord w → Executes p d say_byte (at_byte r i) w Normal (at_byte r i) (said (b ∷ []) w) 1
  one i b rest left few w h =
      let byte : low_byte (pos b) ≡ b = small_byte b (there.small i b (at_rest word i left)) in
      subst (λ n. Executes p d say_byte (at_byte r i) w Normal (at_byte r i) (said (n ∷ []) w) 1)
      byte (print (print_character (entry (sum_of_two (global refl h.wa_is) (local refl)
      (small_sum p.width at i (omega (arith, small, few)))) h.buf_is
      (there.there i b (at_rest word i left))) print_nothing))

  -- the loop says the bytes of the word that are left, in at most two steps for each and one more
  loop : (rest : List ℕ) (i : ℕ) → drop i word ≡ rest → i + length rest ≡ length word → (w : Stage)
      → HasWord w → Loops p d word_loop (at_byte r i) w Normal (at_byte r (length word))
      (said rest w) (2 * length rest + 1)
  loop [] i left all w h = let
      done : i ≡ length word = omega (arith, all) in
      let over : nat_lt i (length word) ≡ false = grind (arith, all) in
      subst (λ n. Loops p d word_loop (at_byte r i) w Normal (at_byte r n) (said [] w) 1) done
      (subst (λ w'. Loops p d word_loop (at_byte r i) w Normal (at_byte r i) w' 1)
      (sym (said_nothing w)) (for_ends (compare (local refl) (global refl h.na_is) over)))
  loop (b ∷ rest) i left all w h = let
      under : nat_lt i (length word) ≡ true = grind (arith, all) in
      let few : i < length word = omega (arith, all) in
      within (omega arith) (for_once_more (compare (local refl) (global refl h.na_is) under)
      (next (one i b rest left few w h) end)
      (increment refl (counted_up p.width i (omega (arith, small, few))))
      (subst (λ w'. Loops p d word_loop (at_byte r (i + 1)) (said (b ∷ []) w) Normal
      (at_byte r (length word)) w' (2 * length rest + 1)) (said_twice (b ∷ []) rest w)
      (loop rest (i + 1) (after_rest word i left) (omega (arith, all)) (said (b ∷ []) w)
      (still (b ∷ []) h))))

pub word_is_said : (p : Program) (asked : ℕ) → Has p (written asked SAY_WORD (I ∷ []) SAYING_WORD)
    → (d : ℕ) (word : List ℕ) (at : ℕ) (entries : List ℤ) (w : Stage) → WordThere word at entries
    → at + length word < 32768 → w.globals (codes "wa") ≡ Some (pos at)
    → w.globals (codes "na") ≡ Some (pos (length word)) → w.arrays (codes "buf") ≡ Some entries
    → Does p (suc d) (codes "say_word") [] w (pos 1) (said word w) (2 * length word + 2)
unfolding body_of
word_is_said p asked has d word at entries w there small wa na buf =
    does_within (omega arith) (routine has (next (for (set_variable number refl)
    (loop p d has.at word at entries there small word 0 refl (omega arith) w
    (record { wa_is = wa; na_is = na; buf_is = buf }))) end) at_end)
