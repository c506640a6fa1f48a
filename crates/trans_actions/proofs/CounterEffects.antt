-- Opcodes that change the counter meet their specifications.
use Rattle.std.proofs.Common.{◌≡◌, ◌∙◌, arith, ℕ, suc, ℤ, pos, negsuc, ◌+ℤ◌, ◌-ℤ◌, int_le, int_lt, nat_lt, Bool, true, false, if◌then◌else◌, List, [], ◌∷◌, codes, Some, None, is_some, refl, sym, ap, append-nil}
use Rattle.std.specs.Prelude.{set, slice_get, slice_index_or, slice_set, IsTrue, ◌-◌}
use Rattle.std.specs.Int.{int_min, int_max}
use Rattle.std.specs.Fmt.{digits}
use Rattle.inform_meaning.specs.Worlds.{Program}
use Rattle.inform_logic.specs.Stages.{Stage, with_global}
use Rattle.inform_logic.specs.Leading.{at_end, by_return}
use Rattle.inform_logic.proofs.Words.{gt_is, negation_is, negative_word}
use Rattle.inform_logic.proofs.Values.{valued, number, local, global, entry, negation, sum_of_two}
use Rattle.inform_logic.proofs.Conditions.{compare}
use Rattle.inform_logic.proofs.Changes.{set_variable, set_entry, decrement}
use Rattle.inform_logic.proofs.Statements.{end, next, returns, assign, if_true, if_false, return_true}
use Rattle.inform_logic.proofs.Routines.{does_within, routine}
use Rattle.inform_codes.specs.Grown.{body_of}
use Rattle.scott_types.specs.declared.states.State.{State}
use Rattle.scott_types.specs.declared.styles.Style.{Style}
use Rattle.scott_types.specs.declared.opcodes.Opcode.TheVariants.{Counters}
use Rattle.scott_types.specs.declared.opcodes.CounterOp.TheVariants.{Down, SetCounter, SwapCounter, Add, Subtract}
use Rattle.scott_types.specs.Database.{Database}
use Rattle.scott_types.specs.State.{Fits, is_counter}
use Rattle.scott_rules.specs.Opcodes.{most_count, with_counter}
use Rattle.trans_specs.specs.Names.{opcode_name}
use Rattle.trans_specs.specs.Standing.{StandsFor}
use Rattle.trans_specs.specs.Calls.{StageLeft}
use Rattle.trans_specs.proofs.Kept.{kept_then, kept_cur, kept_ctr}
use Rattle.trans_specs.proofs.Left.{nothing_left}
use Rattle.trans_specs.proofs.Acts.{CallActs, returns_acts}
use Rattle.trans_actions.specs.Names.{action_names}
use Rattle.trans_actions.proofs.Known.{Known, opcode_there}
use Rattle.trans_specs.proofs.Room.{one_less}
use Rattle.trans_actions.proofs.Stored.{is_less, number_at}
use Rattle.trans_actions.proofs.Counted.{counts_down, at_least_zero, cut_off, whole, cut_sum, whole_sum, room_left, cut_less, whole_less, too_much}
use Rattle.trans_actions.proofs.Effects.{left_by, opcode_steps, OpcodeSpec, alone}

module _ {style : Style} {db : Database} {p : Program} (known : Known style db p) where
  -- another count is left
  count_left : (s : State) (noun : List ℕ) (w : Stage) → StandsFor db s noun w → (z : ℤ)
      → Fits db (with_counter s z)
      → StageLeft db (with_counter s z) noun [] w (with_global (codes "cur") z w)
  count_left s noun w stands z fits = left_by stands (kept_cur z w)
      (known.laws.globals_written.count z s w stands.ready.shows) fits (sym (append-nil w.past))

  -- 77: one less, but not from -1
  pub opcode_77 : OpcodeSpec style db p 77
  unfolding body_of action_names digits
  opcode_77 used called_here a b s noun w d room stands = one_less (λ d. CallActs None db p d
      (opcode_name 77) [] w noun (if int_le (pos 0) s.counter then with_counter s
      (s.counter -ℤ pos 1)
      else s) [] (opcode_steps db)) 109 d room
      (λ k few. by k (int_le (pos 0) s.counter) refl
      (known.laws.opcode_fits db (Counters Down) a b s known.limits stands.ready.fits)) where
        by : (k : ℕ) (some : Bool) → int_le (pos 0) s.counter ≡ some
            → Fits db (if some then with_counter s (s.counter -ℤ pos 1) else s)
            → CallActs None db p (suc k) (opcode_name 77) [] w noun
            (if some then with_counter s (s.counter -ℤ pos 1) else s) [] (opcode_steps db)
        by k true some fits = returns_acts (does_within (omega arith)
            (routine (opcode_there known 24 (alone db 77 used))
            (next (if_true (compare (global refl stands.ready.shows.counter_is) number
            (at_least_zero s.counter ∙ some)) (next (assign (decrement
            stands.ready.shows.counter_is (counts_down p.width s.counter
            stands.ready.fits.counters.counter some))) end)) end) at_end))
            (count_left s noun w stands (s.counter -ℤ pos 1) fits)
        by k false some fits = returns_acts (does_within (omega arith)
            (routine (opcode_there known 24 (alone db 77 used))
            (next (if_false (compare (global refl stands.ready.shows.counter_is) number
            (at_least_zero s.counter ∙ some)) end) end) at_end)) (nothing_left stands)

  -- 79: a number, at most 32,767
  pub opcode_79 : OpcodeSpec style db p 79
  unfolding body_of action_names digits
  opcode_79 used called_here a b s noun w d room stands = one_less (λ d. CallActs None db p d
      (opcode_name 79) (pos a ∷ []) w noun (with_counter s (int_min (pos a) most_count)) []
      (opcode_steps db)) 109 d room
      (λ k few. by k (nat_lt 32767 a) refl
      (known.laws.opcode_fits db (Counters SetCounter) a b s known.limits stands.ready.fits)) where
        by : (k : ℕ) (more : Bool) → nat_lt 32767 a ≡ more
            → Fits db (with_counter s (int_min (pos a) most_count))
            → CallActs None db p (suc k) (opcode_name 79) (pos a ∷ []) w noun
            (with_counter s (int_min (pos a) most_count)) [] (opcode_steps db)
        by k true more fits = returns_acts (does_within (omega arith)
            (routine (opcode_there known 26 (alone db 79 used))
            (returns (if_true (compare (local refl) number (gt_is a 32767 ∙ more))
            (next (assign (set_variable (valued (sym (cut_off a more)) number)
            (ap is_some stands.ready.shows.counter_is))) (returns return_true)))) by_return))
            (count_left s noun w stands (int_min (pos a) most_count) fits)
        by k false more fits = returns_acts (does_within (omega arith)
            (routine (opcode_there known 26 (alone db 79 used))
            (next (if_false (compare (local refl) number (gt_is a 32767 ∙ more)) end)
            (next (assign (set_variable (valued (sym (whole a more)) (local refl))
            (ap is_some stands.ready.shows.counter_is))) end)) at_end))
            (count_left s noun w stands (int_min (pos a) most_count) fits)

  -- 81: a backup counter
  pub opcode_81 : OpcodeSpec style db p 81
  unfolding body_of action_names digits
  opcode_81 used called_here a b s noun w d room stands = one_less (λ d. CallActs None db p d
      (opcode_name 81) (pos a ∷ []) w noun (if nat_lt a 16 then backed else s) []
      (opcode_steps db)) 109 d room
      (λ k few. by k (nat_lt a 16) refl
      (known.laws.opcode_fits db (Counters SwapCounter) a b s known.limits stands.ready.fits)) where
        backed : State
        backed = record s {
          counter = slice_index_or s.counters a (pos 0);
          counters = slice_set s.counters a s.counter;
        }

        by : (k : ℕ) (there : Bool) → nat_lt a 16 ≡ there → Fits db (if there then backed else s)
            → CallActs None db p (suc k) (opcode_name 81) (pos a ∷ []) w noun
            (if there then backed else s) [] (opcode_steps db)
        by k true there fits = let
            at : slice_get s.counters a ≡ Some (slice_index_or s.counters a (pos 0)) =
            number_at s.counters a (omega (
              arith,
              is_less a 16 there,
              stands.ready.fits.counters.count,
            ))
            in let w1 : Stage =
            with_global (codes "cur") (slice_index_or s.counters a (pos 0)) w in
            returns_acts (does_within (omega arith) (routine
            (opcode_there known 28 (alone db 81 used))
            (next (if_true (compare (local refl) number there)
            (next (assign (set_variable (global refl stands.ready.shows.counter_is) refl))
            (next (assign (set_variable (entry (local refl) stands.ready.shows.counters_are at)
            (ap is_some stands.ready.shows.counter_is)))
            (next (assign (set_entry (local refl) (local refl) stands.ready.shows.counters_are
            (ap is_some at))) end)))) end) at_end))
            (left_by stands (kept_then (kept_cur (slice_index_or s.counters a (pos 0)) w)
            (kept_ctr (set s.counters a s.counter) w1))
            (known.laws.entries_written.backup_counter
            (record s { counter = slice_index_or s.counters a (pos 0) }) w1 a s.counter s.counters
            (known.laws.globals_written.count (slice_index_or s.counters a (pos 0)) s w
            stands.ready.shows) stands.ready.shows.counters_are) fits (sym (append-nil w.past)))
        by k false there fits = returns_acts (does_within (omega arith)
            (routine (opcode_there known 28 (alone db 81 used))
            (next (if_false (compare (local refl) number there) end) end) at_end))
            (nothing_left stands)

  -- 82: a sum, at most 32,767
  pub opcode_82 : OpcodeSpec style db p 82
  unfolding body_of action_names digits
  opcode_82 used called_here a b s noun w d room stands = one_less (λ d. CallActs None db p d
      (opcode_name 82) (pos a ∷ []) w noun
      (with_counter s (int_min (s.counter +ℤ pos a) most_count)) [] (opcode_steps db)) 109 d room
      (λ k few. by k (nat_lt 32767 a) refl
      (known.laws.opcode_fits db (Counters Add) a b s known.limits stands.ready.fits)) where
        counter : IsTrue (is_counter s.counter)
        counter = stands.ready.fits.counters.counter

        inner : (k : ℕ) (more : Bool) → nat_lt 32767 a ≡ false
            → int_lt (pos (32767 - a)) s.counter ≡ more
            → Fits db (with_counter s (int_min (s.counter +ℤ pos a) most_count))
            → CallActs None db p (suc k) (opcode_name 82) (pos a ∷ []) w noun
            (with_counter s (int_min (s.counter +ℤ pos a) most_count)) [] (opcode_steps db)
        inner k true few more fits = returns_acts (does_within (omega arith)
            (routine (opcode_there known 29 (alone db 82 used))
            (next (if_false (compare (local refl) number (gt_is a 32767 ∙ few)) end)
            (returns (if_true (compare (global refl stands.ready.shows.counter_is)
            (sum_of_two number (local refl) (room_left p.width a few)) more)
            (next (assign (set_variable (valued (sym (cut_sum s.counter a few more)) number)
            (ap is_some stands.ready.shows.counter_is))) (returns return_true))))) by_return))
            (count_left s noun w stands (int_min (s.counter +ℤ pos a) most_count) fits)
        inner k false few more fits = returns_acts (does_within (omega arith)
            (routine (opcode_there known 29 (alone db 82 used))
            (next (if_false (compare (local refl) number (gt_is a 32767 ∙ few)) end)
            (next (if_false (compare (global refl stands.ready.shows.counter_is)
            (sum_of_two number (local refl) (room_left p.width a few)) more) end)
            (next (assign (set_variable (sum_of_two (global refl stands.ready.shows.counter_is)
            (local refl) (whole_sum p.width s.counter a counter few more))
            (ap is_some stands.ready.shows.counter_is))) end))) at_end))
            (count_left s noun w stands (int_min (s.counter +ℤ pos a) most_count) fits)

        by : (k : ℕ) (more : Bool) → nat_lt 32767 a ≡ more
            → Fits db (with_counter s (int_min (s.counter +ℤ pos a) most_count))
            → CallActs None db p (suc k) (opcode_name 82) (pos a ∷ []) w noun
            (with_counter s (int_min (s.counter +ℤ pos a) most_count)) [] (opcode_steps db)
        by k true more fits = returns_acts (does_within (omega arith)
            (routine (opcode_there known 29 (alone db 82 used))
            (returns (if_true (compare (local refl) number (gt_is a 32767 ∙ more))
            (next (assign (set_variable (valued (sym (too_much s.counter a counter more)) number)
            (ap is_some stands.ready.shows.counter_is))) (returns return_true)))) by_return))
            (count_left s noun w stands (int_min (s.counter +ℤ pos a) most_count) fits)
        by k false more fits = inner k (int_lt (pos (32767 - a)) s.counter) more refl fits

  -- 83: a difference, at least -1
  pub opcode_83 : OpcodeSpec style db p 83
  unfolding body_of action_names digits
  opcode_83 used called_here a b s noun w d room stands = one_less (λ d. CallActs None db p d
      (opcode_name 83) (pos a ∷ []) w noun
      (with_counter s (int_max (s.counter -ℤ pos a) (negsuc 0))) [] (opcode_steps db)) 109 d room
      (λ k few. by k (int_lt s.counter (pos a)) refl
      (known.laws.opcode_fits db (Counters Subtract) a b s known.limits stands.ready.fits)) where
        by : (k : ℕ) (more : Bool) → int_lt s.counter (pos a) ≡ more
            → Fits db (with_counter s (int_max (s.counter -ℤ pos a) (negsuc 0)))
            → CallActs None db p (suc k) (opcode_name 83) (pos a ∷ []) w noun
            (with_counter s (int_max (s.counter -ℤ pos a) (negsuc 0))) [] (opcode_steps db)
        by k true more fits = returns_acts (does_within (omega arith)
            (routine (opcode_there known 30 (alone db 83 used))
            (returns (if_true (compare (local refl) (global refl stands.ready.shows.counter_is)
            more)
            (next (assign (set_variable (valued (sym (cut_less s.counter a more))
            (negation number (negation_is p.width (pos 1) (negative_word (omega arith)))))
            (ap is_some stands.ready.shows.counter_is))) (returns return_true)))) by_return))
            (count_left s noun w stands (int_max (s.counter -ℤ pos a) (negsuc 0)) fits)
        by k false more fits = returns_acts (does_within (omega arith)
            (routine (opcode_there known 30 (alone db 83 used))
            (next (if_false (compare (local refl) (global refl stands.ready.shows.counter_is) more)
            end) (next (assign (set_variable (sum_of_two
            (global refl stands.ready.shows.counter_is) (local refl)
            (whole_less p.width s.counter a stands.ready.fits.counters.counter more))
            (ap is_some stands.ready.shows.counter_is))) end)) at_end))
            (count_left s noun w stands (int_max (s.counter -ℤ pos a) (negsuc 0)) fits)
