-- Opcodes that change the room or a flag meet their specifications.
use Rattle.std.proofs.Common.{◌≡◌, arith, ℕ, suc, ◌<◌, pos, nat_lt, Bool, true, false, if◌then◌else◌, List, [], ◌∷◌, ◌++◌, length, map, codes, Some, None, is_some, refl, sym, ap, subst, append-nil}
use Rattle.std.specs.Prelude.{set, slice_get, slice_index, slice_set}
use Rattle.std.proofs.lemmas.List.{map-append}
use Rattle.std.specs.Fmt.{digits}
use Rattle.adv_io.specs.Steps.{Said, said_steps}
use Rattle.inform_meaning.specs.Worlds.{Program}
use Rattle.inform_logic.specs.Stages.{Stage, with_global, with_array, said}
use Rattle.inform_logic.specs.Leading.{at_end}
use Rattle.inform_logic.proofs.Words.{small_number}
use Rattle.inform_logic.proofs.Values.{valued, number, local, global, entry, called}
use Rattle.inform_logic.proofs.Conditions.{compare}
use Rattle.inform_logic.proofs.Changes.{set_variable, set_entry}
use Rattle.inform_logic.proofs.Printing.{print_nothing, print_text}
use Rattle.inform_logic.proofs.Statements.{end, next, assign, print, call_alone, if_true, if_false}
use Rattle.inform_logic.proofs.Routines.{does_within, routine}
use Rattle.inform_codes.specs.Grown.{body_of}
use Rattle.scott_types.specs.declared.states.State.{State}
use Rattle.scott_types.specs.declared.styles.Style.{Style}
use Rattle.scott_types.specs.declared.opcodes.Opcode.TheVariants.{Rooms, Flags, Die}
use Rattle.scott_types.specs.declared.opcodes.RoomOp.TheVariants.{Go, SwapSaved, SwapRoom}
use Rattle.scott_types.specs.declared.opcodes.FlagOp.TheVariants.{Darken, Lighten, SetFlag, ClearFlag, SetZero, ClearZero}
use Rattle.scott_types.specs.declared.phrases.Phrase.TheVariants.{Dead}
use Rattle.scott_types.specs.Phrase.{text_in}
use Rattle.scott_types.specs.Style.{in_style}
use Rattle.scott_types.specs.Database.{Database}
use Rattle.scott_types.specs.State.{Fits, with_flag}
use Rattle.scott_rules.specs.Opcodes.{last_room, dead}
use Rattle.scott_rules.specs.Looking.{looked}
use Rattle.trans_specs.specs.Tables.{bit}
use Rattle.trans_specs.specs.Views.{naturals}
use Rattle.trans_specs.specs.Steps.{text_steps}
use Rattle.trans_specs.specs.Names.{opcode_name}
use Rattle.trans_specs.specs.Standing.{StandsFor}
use Rattle.trans_specs.specs.Calls.{StageLeft, CallSays}
use Rattle.trans_specs.proofs.Lengths.{few}
use Rattle.trans_specs.proofs.Kept.{kept_then, kept_said, kept_here, kept_saved, kept_redraw, kept_flag, kept_rsave}
use Rattle.trans_specs.proofs.Left.{nothing_left, said_left, left_then}
use Rattle.trans_specs.proofs.Acts.{CallActs, returns_acts}
use Rattle.trans_actions.specs.Names.{action_names}
use Rattle.trans_actions.proofs.Known.{Known, opcode_there}
use Rattle.trans_specs.proofs.Room.{one_less}
use Rattle.trans_actions.proofs.Stored.{is_less, flag_at, natural_at}
use Rattle.trans_actions.proofs.Effects.{left_by, opcode_steps, OpcodeSpec, alone}

module _ {style : Style} {db : Database} {p : Program} (known : Known style db p) where
  few_rooms : length db.rooms < 32768
  few_rooms = omega (arith, few 255 db.rooms known.limits.sizes.rooms)

  -- 54: to a room that is there
  pub opcode_54 : OpcodeSpec style db p 54
  unfolding body_of action_names digits
  opcode_54 used called_here a b s noun w d room stands = one_less (λ d. CallActs None db p d
      (opcode_name 54) (pos a ∷ []) w noun (if nat_lt a (length db.rooms)
      then record s { room = a; redraw = true } else s) [] (opcode_steps db)) 109 d room
      (λ k few. by k (nat_lt a (length db.rooms)) refl
      (known.laws.opcode_fits db (Rooms Go) a b s known.limits stands.ready.fits)) where
        by : (k : ℕ) (there : Bool) → nat_lt a (length db.rooms) ≡ there
            → Fits db (if there then record s { room = a; redraw = true } else s)
            → CallActs None db p (suc k) (opcode_name 54) (pos a ∷ []) w noun
            (if there then record s { room = a; redraw = true } else s) [] (opcode_steps db)
        by k true there fits = returns_acts (does_within (omega arith)
            (routine (opcode_there known 3 (alone db 54 used))
            (next (if_true (compare (local refl) (valued (small_number p.width few_rooms) number)
            there) (next (assign (set_variable (local refl)
            (ap is_some stands.ready.shows.room_is)))
            (next (assign (set_variable number (ap is_some stands.ready.shows.mark_is))) end))) end)
            at_end))
            (left_by stands (kept_then (kept_here (pos a) w)
            (kept_redraw (pos 1) (with_global (codes "here") (pos a) w)))
            (known.laws.globals_written.mark true (record s { room = a })
            (with_global (codes "here") (pos a) w)
            (known.laws.globals_written.room a s w stands.ready.shows)) fits
            (sym (append-nil w.past)))
        by k false there fits = returns_acts (does_within (omega arith)
            (routine (opcode_there known 3 (alone db 54 used))
            (next (if_false (compare (local refl) (valued (small_number p.width few_rooms) number)
            there) end) end) at_end)) (nothing_left stands)

  -- 80: the saved room
  pub opcode_80 : OpcodeSpec style db p 80
  unfolding body_of action_names digits
  opcode_80 used called_here a b s noun w d room stands = one_less (λ d. CallActs None db p d
      (opcode_name 80) [] w noun (record s { room = s.saved; saved = s.room; redraw = true }) []
      (opcode_steps db)) 109 d room
      (λ k few. returns_acts (does_within (omega arith) (routine
      (opcode_there known 27 (alone db 80 used))
      (next (assign (set_variable (global refl stands.ready.shows.room_is) refl))
      (next (assign (set_variable (global refl stands.ready.shows.saved_is)
      (ap is_some stands.ready.shows.room_is)))
      (next (assign (set_variable (local refl) (ap is_some stands.ready.shows.saved_is)))
      (next (assign (set_variable number (ap is_some stands.ready.shows.mark_is))) end)))) at_end))
      (left_by stands (kept_then (kept_here (pos s.saved) w) (kept_then (kept_saved (pos s.room) _)
      (kept_redraw (pos 1) _)))
      (known.laws.globals_written.mark true (record s { room = s.saved; saved = s.room })
      (with_global (codes "saved") (pos s.room) (with_global (codes "here") (pos s.saved) w))
      (known.laws.globals_written.saved_room s.room (record s { room = s.saved })
      (with_global (codes "here") (pos s.saved) w)
      (known.laws.globals_written.room s.saved s w stands.ready.shows)))
      (known.laws.opcode_fits db (Rooms SwapSaved) a b s known.limits stands.ready.fits)
      (sym (append-nil w.past))))

  -- 87: a backup room
  pub opcode_87 : OpcodeSpec style db p 87
  unfolding body_of action_names digits
  opcode_87 used called_here a b s noun w d room stands = one_less (λ d. CallActs None db p d
      (opcode_name 87) (pos a ∷ []) w noun (if nat_lt a 16 then backed else s) []
      (opcode_steps db)) 109 d room
      (λ k few. by k (nat_lt a 16) refl
      (known.laws.opcode_fits db (Rooms SwapRoom) a b s known.limits stands.ready.fits)) where
        backed : State
        backed = record s {
          room = slice_index s.rooms a;
          rooms = slice_set s.rooms a s.room;
          redraw = true;
        }

        by : (k : ℕ) (there : Bool) → nat_lt a 16 ≡ there → Fits db (if there then backed else s)
            → CallActs None db p (suc k) (opcode_name 87) (pos a ∷ []) w noun
            (if there then backed else s) [] (opcode_steps db)
        by k true there fits = let
            at : slice_get (naturals s.rooms) a ≡ Some (pos (slice_index s.rooms a)) =
            natural_at s.rooms a (omega (arith, is_less a 16 there, stands.ready.fits.rooms.count))
            in
            let w1 : Stage = with_global (codes "here") (pos (slice_index s.rooms a)) w in
            let w2 : Stage = with_array (codes "rsave") (set (naturals s.rooms) a (pos s.room)) w1
            in
            returns_acts (does_within (omega arith) (routine
            (opcode_there known 34 (alone db 87 used))
            (next (if_true (compare (local refl) number there)
            (next (assign (set_variable (global refl stands.ready.shows.room_is) refl))
            (next (assign (set_variable (entry (local refl) stands.ready.shows.rooms_are at)
            (ap is_some stands.ready.shows.room_is)))
            (next (assign (set_entry (local refl) (local refl) stands.ready.shows.rooms_are
            (ap is_some at)))
            (next (assign (set_variable number (ap is_some stands.ready.shows.mark_is))) end)))))
            end) at_end))
            (left_by stands (kept_then (kept_here (pos (slice_index s.rooms a)) w)
            (kept_then (kept_rsave (set (naturals s.rooms) a (pos s.room)) w1)
            (kept_redraw (pos 1) w2)))
            (known.laws.globals_written.mark true
            (record s { room = slice_index s.rooms a; rooms = slice_set s.rooms a s.room }) w2
            (known.laws.entries_written.backup_room (record s { room = slice_index s.rooms a }) w1 a
            s.room (naturals s.rooms)
            (known.laws.globals_written.room (slice_index s.rooms a) s w stands.ready.shows)
            stands.ready.shows.rooms_are)) fits (sym (append-nil w.past)))
        by k false there fits = returns_acts (does_within (omega arith)
            (routine (opcode_there known 34 (alone db 87 used))
            (next (if_false (compare (local refl) number there) end) end) at_end))
            (nothing_left stands)

  -- ---- flags

  module _ (s : State) (noun : List ℕ) (w : Stage) (stands : StandsFor db s noun w) where
    flag_left : (n : ℕ) (on : Bool) → Fits db (with_flag s n on)
        → StageLeft db (with_flag s n on) noun [] w
        (with_array (codes "flag") (set (naturals (map bit s.flags)) n (pos (bit on))) w)
    flag_left n on fits = left_by stands
        (kept_flag (set (naturals (map bit s.flags)) n (pos (bit on))) w)
        (known.laws.entries_written.flag s w n on (naturals (map bit s.flags)) stands.ready.shows
        stands.ready.shows.flags_are) fits (sym (append-nil w.past))

    flag_there : (n : ℕ) → n < 32 → is_some (slice_get (naturals (map bit s.flags)) n) ≡ true
    flag_there n few =
        ap is_some (flag_at s.flags n (omega (arith, few, stands.ready.fits.flags)))

  pub opcode_56 : OpcodeSpec style db p 56
  unfolding body_of action_names digits
  opcode_56 used called_here a b s noun w d room stands = one_less (λ d. CallActs None db p d
      (opcode_name 56) [] w noun (with_flag s 15 true) [] (opcode_steps db)) 109 d room
      (λ k few. returns_acts (does_within (omega arith) (routine
      (opcode_there known 5 (alone db 56 used))
      (next (assign (set_entry number number stands.ready.shows.flags_are
      (flag_there s noun w stands 15 (omega arith)))) end) at_end))
      (flag_left s noun w stands 15 true
      (known.laws.opcode_fits db (Flags Darken) a b s known.limits stands.ready.fits)))

  pub opcode_57 : OpcodeSpec style db p 57
  unfolding body_of action_names digits
  opcode_57 used called_here a b s noun w d room stands = one_less (λ d. CallActs None db p d
      (opcode_name 57) [] w noun (with_flag s 15 false) [] (opcode_steps db)) 109 d room
      (λ k few. returns_acts (does_within (omega arith) (routine
      (opcode_there known 6 (alone db 57 used))
      (next (assign (set_entry number number stands.ready.shows.flags_are
      (flag_there s noun w stands 15 (omega arith)))) end) at_end))
      (flag_left s noun w stands 15 false
      (known.laws.opcode_fits db (Flags Lighten) a b s known.limits stands.ready.fits)))

  pub opcode_67 : OpcodeSpec style db p 67
  unfolding body_of action_names digits
  opcode_67 used called_here a b s noun w d room stands = one_less (λ d. CallActs None db p d
      (opcode_name 67) [] w noun (with_flag s 0 true) [] (opcode_steps db)) 109 d room
      (λ k few. returns_acts (does_within (omega arith) (routine
      (opcode_there known 16 (alone db 67 used))
      (next (assign (set_entry number number stands.ready.shows.flags_are
      (flag_there s noun w stands 0 (omega arith)))) end) at_end))
      (flag_left s noun w stands 0 true
      (known.laws.opcode_fits db (Flags SetZero) a b s known.limits stands.ready.fits)))

  pub opcode_68 : OpcodeSpec style db p 68
  unfolding body_of action_names digits
  opcode_68 used called_here a b s noun w d room stands = one_less (λ d. CallActs None db p d
      (opcode_name 68) [] w noun (with_flag s 0 false) [] (opcode_steps db)) 109 d room
      (λ k few. returns_acts (does_within (omega arith) (routine
      (opcode_there known 17 (alone db 68 used))
      (next (assign (set_entry number number stands.ready.shows.flags_are
      (flag_there s noun w stands 0 (omega arith)))) end) at_end))
      (flag_left s noun w stands 0 false
      (known.laws.opcode_fits db (Flags ClearZero) a b s known.limits stands.ready.fits)))

  -- 58: a flag below 32 is set
  pub opcode_58 : OpcodeSpec style db p 58
  unfolding body_of action_names digits
  opcode_58 used called_here a b s noun w d room stands = one_less (λ d. CallActs None db p d
      (opcode_name 58) (pos a ∷ []) w noun (if nat_lt a 32 then with_flag s a true else s) []
      (opcode_steps db)) 109 d room
      (λ k few. by k (nat_lt a 32) refl
      (known.laws.opcode_fits db (Flags SetFlag) a b s known.limits stands.ready.fits)) where
        by : (k : ℕ) (there : Bool) → nat_lt a 32 ≡ there
            → Fits db (if there then with_flag s a true else s)
            → CallActs None db p (suc k) (opcode_name 58) (pos a ∷ []) w noun
            (if there then with_flag s a true else s) [] (opcode_steps db)
        by k true there fits = returns_acts (does_within (omega arith)
            (routine (opcode_there known 7 (alone db 58 used))
            (next (if_true (compare (local refl) number there)
            (next (assign (set_entry (local refl) number stands.ready.shows.flags_are
            (flag_there s noun w stands a (is_less a 32 there)))) end)) end) at_end))
            (flag_left s noun w stands a true fits)
        by k false there fits = returns_acts (does_within (omega arith)
            (routine (opcode_there known 7 (alone db 58 used))
            (next (if_false (compare (local refl) number there) end) end) at_end))
            (nothing_left stands)

  -- 60: a flag below 32 is cleared
  pub opcode_60 : OpcodeSpec style db p 60
  unfolding body_of action_names digits
  opcode_60 used called_here a b s noun w d room stands = one_less (λ d. CallActs None db p d
      (opcode_name 60) (pos a ∷ []) w noun (if nat_lt a 32 then with_flag s a false else s) []
      (opcode_steps db)) 109 d room
      (λ k few. by k (nat_lt a 32) refl
      (known.laws.opcode_fits db (Flags ClearFlag) a b s known.limits stands.ready.fits)) where
        by : (k : ℕ) (there : Bool) → nat_lt a 32 ≡ there
            → Fits db (if there then with_flag s a false else s)
            → CallActs None db p (suc k) (opcode_name 60) (pos a ∷ []) w noun
            (if there then with_flag s a false else s) [] (opcode_steps db)
        by k true there fits = returns_acts (does_within (omega arith)
            (routine (opcode_there known 9 (alone db 60 used))
            (next (if_true (compare (local refl) number there)
            (next (assign (set_entry (local refl) number stands.ready.shows.flags_are
            (flag_there s noun w stands a (is_less a 32 there)))) end)) end) at_end))
            (flag_left s noun w stands a false fits)
        by k false there fits = returns_acts (does_within (omega arith)
            (routine (opcode_there known 9 (alone db 60 used))
            (next (if_false (compare (local refl) number there) end) end) at_end))
            (nothing_left stands)

  -- 61: the dead wake in the last room, which is described
  pub opcode_61 : OpcodeSpec style db p 61
  unfolding body_of action_names digits
  opcode_61 used called_here a b s noun w d room stands = one_less (λ d. CallActs None db p d
      (opcode_name 61) [] w noun (dead db s)
      (said_steps (text_in style Dead ++ looked (in_style style db) (dead db s)))
      (opcode_steps db)) 109 d room (λ k few. let
      w1 : Stage = said (text_in style Dead) w in
      let w2 : Stage = with_array (codes "flag") (set (naturals (map bit s.flags)) 15 (pos 0)) w1 in
      let w3 : Stage = with_global (codes "here") (pos (last_room db)) w2 in
      let left : StageLeft db (dead db s) noun (said_steps (text_in style Dead)) w w3 =
      left_by stands (kept_then (kept_said (text_in style Dead) w)
      (kept_then (kept_flag (set (naturals (map bit s.flags)) 15 (pos 0)) w1)
      (kept_here (pos (last_room db)) w2)))
      (known.laws.globals_written.room (last_room db) (with_flag s 15 false) w2
      (known.laws.entries_written.flag s w1 15 false (naturals (map bit s.flags))
      stands.ready.shows stands.ready.shows.flags_are))
      (known.laws.opcode_fits db Die a b s known.limits stands.ready.fits) refl in
      let looks : CallSays p k (codes "look") [] w3 (looked (in_style style db) (dead db s))
      (text_steps db) =
      known.texts.looks (dead db s) noun w3 k (omega (arith, few)) left.stands in
      subst (λ steps. CallActs None db p (suc k) (opcode_name 61) [] w noun (dead db s) steps
      (opcode_steps db))
      (sym (map-append Said (text_in style Dead) (looked (in_style style db) (dead db s))))
      (returns_acts (does_within (omega arith) (routine (opcode_there known 10 (alone db 61 used))
      (next (print (print_text print_nothing))
      (next (assign (set_entry number number stands.ready.shows.flags_are
      (flag_there s noun w stands 15 (omega arith))))
      (next (assign (set_variable (valued (small_number p.width last_few) number)
      (ap is_some stands.ready.shows.room_is)))
      (next (call_alone (called looks.does)) end)))) at_end))
      (left_then left (said_left (looked (in_style style db) (dead db s)) left.stands)))) where
        last_few : last_room db < 32768
        last_few = omega (arith, few_rooms)
