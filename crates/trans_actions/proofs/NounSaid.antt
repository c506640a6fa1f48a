-- The noun is said as it was typed, byte by byte.
use Rattle.std.proofs.Common.{◌≡◌, ◌∙◌, arith, ℕ, zero, suc, ◌+◌, ◌*◌, ◌<◌, ◌≤◌, ℤ, pos, nat_lt, true, false, List, [], ◌∷◌, take, drop, length, slice_get, codes, Option, Some, unwrap_or, refl, sym, ap, subst}
use Rattle.std.specs.List.{AllByRecursion, list_any}
use Rattle.std.specs.Fmt.{digits}
use Rattle.std.proofs.lemmas.List.{length-map, length-take, length-drop}
use Rattle.inform_tree.specs.declared.conditions.Relation.TheVariants.{Lt}
use Rattle.inform_tree.specs.declared.values.SumOp.TheVariants.{Add}
use Rattle.inform_tree.specs.Values as v
use Rattle.inform_tree.specs.Conditions as c
use Rattle.inform_tree.specs.Statements as t
use Rattle.inform_tree.specs.Statements.{statements}
use Rattle.inform_meaning.specs.Words.{low_byte}
use Rattle.inform_meaning.specs.Worlds.{Program, Scope}
use Rattle.inform_meaning.specs.Frames.{Loop, Normal}
use Rattle.inform_meaning.specs.Statements.{for_loop}
use Rattle.inform_logic.specs.Stages.{Stage, said}
use Rattle.inform_logic.specs.Leading.{Executes, Loops, Does, at_end}
use Rattle.inform_logic.proofs.Lists.{after_rest, map_at_rest}
use Rattle.inform_logic.proofs.Words.{small_byte, small_sum, counted_up}
use Rattle.inform_logic.proofs.Values.{within, number, local, global, entry, sum_of_two}
use Rattle.inform_logic.proofs.Conditions.{compare}
use Rattle.inform_logic.proofs.Changes.{set_variable, increment}
use Rattle.inform_logic.proofs.Printing.{said_nothing, said_twice, print_nothing, print_character}
use Rattle.inform_logic.proofs.Statements.{end, next, print}
use Rattle.inform_logic.proofs.Loops.{for, for_once_more, for_ends}
use Rattle.inform_logic.proofs.Routines.{does_within, routine}
use Rattle.inform_codes.specs.Grown.{body_of}
use Rattle.scott_types.specs.declared.states.State.{State}
use Rattle.scott_types.specs.declared.styles.Style.{Style}
use Rattle.scott_types.specs.Database.{Database}
use Rattle.trans_specs.specs.Views.{naturals}
use Rattle.trans_specs.specs.Tables.{buffer_length}
use Rattle.trans_specs.specs.Names.{opcode_name}
use Rattle.trans_specs.specs.Standing.{StandsFor, IsPrintable}
use Rattle.trans_actions.specs.declared.table.Kind.TheVariants as kinds
use Rattle.trans_actions.specs.Names.{action_names}
use Rattle.trans_actions.specs.Helpers.{uses}
use Rattle.trans_actions.proofs.Known.{Known, opcode_there}
use Rattle.trans_actions.proofs.Stored.{less_is, not_under}
use Rattle.trans_actions.proofs.Effects.{opcode_steps}

abbrev at_byte : ℕ → ℕ → Scope
at_byte r i = record { directive = r; locals = (codes "i", pos i) ∷ [] }

-- `print (char) buf->(wb + i);`
abbrev say_byte : t.Statement
say_byte = let place = v.Sum (v.Name (codes "wb"))
    (v.MoreTerms Add (v.Name (codes "i")) v.NoTerms) in
    t.Print (t.Char (v.Entry (codes "buf") false place) ∷ [])

abbrev noun_loop : Loop
noun_loop = for_loop (Some (c.Compare Lt (v.Name (codes "i")) (v.Name (codes "nb"))))
    (Some (t.Inc (codes "i"))) (statements (say_byte ∷ []))

-- ---- a byte among the entries

-- one of the first n, and one of those from a place on
taken : {X : Type 0} (n : ℕ) (xs : List X) (j : ℕ) {x : X} → slice_get (take n xs) j ≡ Some x
    → slice_get xs j ≡ Some x
taken zero xs zero h = cc
taken zero xs (suc j) h = cc
taken (suc n) [] zero h = cc
taken (suc n) [] (suc j) h = cc
taken (suc n) (y ∷ ys) zero h = h
taken (suc n) (y ∷ ys) (suc j) h = taken n ys j h

shifted : {X : Type 0} (at : ℕ) (xs : List X) (j : ℕ) {x : X} → slice_get (drop at xs) j ≡ Some x
    → slice_get xs (at + j) ≡ Some x
shifted zero xs j {x} h =
    let is : j ≡ zero + j = omega arith in subst (λ n. slice_get xs n ≡ Some x) is h
shifted (suc at) [] zero h = cc
shifted (suc at) [] (suc j) h = cc
shifted (suc at) (y ∷ ys) j {x} h =
    let is : suc (at + j) ≡ suc at + j = omega arith in
    subst (λ n. slice_get (y ∷ ys) n ≡ Some x) is (shifted at ys j h)

byte_at : (noun : List ℕ) (at i : ℕ) (all : List ℤ) {b : ℕ} {rest : List ℕ}
    → take (length noun) (drop at all) ≡ naturals noun → drop i noun ≡ b ∷ rest
    → slice_get all (at + i) ≡ Some (pos b)
byte_at noun at i all stand left = shifted at all i (taken (length noun) (drop at all) i
    (ap (λ zs. slice_get zs i) stand ∙ map_at_rest pos noun i left))

small : (b : ℕ) → IsPrintable b → b < 256
small b h = grind (arith, h)

each_small : (noun : List ℕ) (i : ℕ) {b : ℕ} {rest : List ℕ} → AllByRecursion IsPrintable noun
    → drop i noun ≡ b ∷ rest → b < 256
each_small [] zero h left = cc
each_small [] (suc i) h left = cc
each_small (x ∷ xs) zero h left = subst (λ b. b < 256) (same left) (small x h.0) where
  same : {b : ℕ} {rest : List ℕ} → x ∷ xs ≡ b ∷ rest → x ≡ b
  same e = cc
each_small (x ∷ xs) (suc i) h left = each_small xs i h.1 left

-- ---- the loop

module _ {style : Style} {db : Database} {p : Program} (known : Known style db p) (s : State)
    (noun : List ℕ) (w : Stage) (stands : StandsFor db s noun w) where
  abbrev at : ℕ
  at = stands.has_noun.at

  abbrev all : List ℤ
  all = stands.has_noun.stands.all

  -- the noun ends within the buffer
  same_buffer : length all ≡ buffer_length
  same_buffer = ap (λ (o : Option (List ℤ)). length (unwrap_or o []))
      (sym stands.has_noun.stands.all_are ∙ stands.ready.working.buffer_is)
      ∙ stands.ready.working.buffer_long

  noun_long : length noun ≡ length (take (length noun) (drop at all))
  noun_long = sym (ap length stands.has_noun.stands.stand ∙ length-map noun pos)

  pub few_bytes : 2 * length noun + 2 ≤ opcode_steps db
  few_bytes = omega (
    arith,
    same_buffer,
    noun_long,
    length-take (length noun) (drop at all),
    length-drop at all,
  )

  pub more_bytes : 2 * length noun + 2 + 1 + 1 + 1 ≤ opcode_steps db
  more_bytes = omega (
    arith,
    same_buffer,
    noun_long,
    length-take (length noun) (drop at all),
    length-drop at all,
  )

  -- where a byte is there, its place is a word
  small_place : (i : ℕ) → i < length noun → at + i < 32768
  small_place i less = omega (
    arith,
    less,
    same_buffer,
    noun_long,
    length-take (length noun) (drop at all),
    length-drop at all,
  )

  module _ (d r : ℕ) where
    -- a stage with this noun
    record HasNoun (w1 : Stage) : Type 0 where
      wb_is : w1.globals (codes "wb") ≡ Some (pos at)
      nb_is : w1.globals (codes "nb") ≡ Some (pos (length noun))
      buf_is : w1.arrays (codes "buf") ≡ Some all

    still : (bytes : List ℕ) {w : Stage} → HasNoun w → HasNoun (said bytes w)
    still bytes h = record { wb_is = h.wb_is; nb_is = h.nb_is; buf_is = h.buf_is }

    one : (i b : ℕ) (rest : List ℕ) → drop i noun ≡ b ∷ rest → i < length noun → (w : Stage)
        → HasNoun w
        → Executes p d say_byte (at_byte r i) w Normal (at_byte r i) (said (b ∷ []) w) 1
    one i b rest left few w h =
        let byte : low_byte (pos b) ≡ b =
        small_byte b (each_small noun i stands.has_noun.printable left) in
        subst (λ n. Executes p d say_byte (at_byte r i) w Normal (at_byte r i) (said (n ∷ []) w) 1)
        byte (print (print_character (entry (sum_of_two (global refl h.wb_is) (local refl)
        (small_sum p.width at i (small_place i few))) h.buf_is
        (byte_at noun at i all stands.has_noun.stands.stand left)) print_nothing))

    loop : (rest : List ℕ) (i : ℕ) → drop i noun ≡ rest → i + length rest ≡ length noun
        → (w : Stage) → HasNoun w → Loops p d noun_loop (at_byte r i) w Normal
        (at_byte r (length noun)) (said rest w) (2 * length rest + 1)
    loop [] i left every w h = let
        done : i ≡ length noun = omega (arith, every) in
        let over : nat_lt i (length noun) ≡ false =
        not_under i (length noun) (omega (arith, every)) in
        subst (λ n. Loops p d noun_loop (at_byte r i) w Normal (at_byte r n) (said [] w) 1) done
        (subst (λ w'. Loops p d noun_loop (at_byte r i) w Normal (at_byte r i) w' 1)
        (sym (said_nothing w)) (for_ends (compare (local refl) (global refl h.nb_is) over)))
    loop (b ∷ rest) i left every w h = let
        few : i < length noun = omega (arith, every) in
        let under : nat_lt i (length noun) ≡ true = less_is i (length noun) few in
        within (omega arith) (for_once_more (compare (local refl) (global refl h.nb_is) under)
        (next (one i b rest left few w h) end)
        (increment refl (counted_up p.width i (omega (
          arith,
          few,
          same_buffer,
          noun_long,
          length-take (length noun) (drop at all),
          length-drop at all,
        ))))
        (subst (λ w'. Loops p d noun_loop (at_byte r (i + 1)) (said (b ∷ []) w) Normal
        (at_byte r (length noun)) w' (2 * length rest + 1)) (said_twice (b ∷ []) rest w)
        (loop rest (i + 1) (after_rest noun i left) (omega (arith, every)) (said (b ∷ []) w)
        (still (b ∷ []) h))))

  pub noun_is_said : list_any (uses kinds.Opcode db) (84 ∷ 85 ∷ []) ≡ true → (d : ℕ)
      → Does p (suc d) (opcode_name 84) [] w (pos 1) (said noun w) (2 * length noun + 2)
  unfolding body_of action_names digits
  noun_is_said used d = does_within (omega arith) (routine (opcode_there known 31 used)
      (next (for (set_variable number refl) (loop d _ noun 0 refl (omega arith) w (record {
        wb_is = stands.has_noun.at_is;
        nb_is = stands.has_noun.size_is;
        buf_is = stands.has_noun.stands.all_are;
      }))) end) at_end)
