-- Opcodes that say something, or end the game, meet their specifications.
use Rattle.std.proofs.Common.{◌≡◌, ◌∙◌, arith, ℕ, suc, ◌≤◌, pos, Bool, true, false, if◌then◌else◌, [], ◌∷◌, ◌++◌, codes, Some, None, refl, sym, subst}
use Rattle.std.specs.Prelude.{slice_get}
use Rattle.std.proofs.lemmas.List.{map-append}
use Rattle.std.specs.List.{list_any}
use Rattle.std.specs.Fmt.{digits, signed_decimal}
use Rattle.adv_io.specs.Steps.{Said, said_steps}
use Rattle.inform_meaning.specs.Worlds.{Program}
use Rattle.inform_logic.specs.Stages.{with_global, said}
use Rattle.inform_logic.specs.Leading.{at_end}
use Rattle.inform_logic.proofs.Values.{number, global, call, called}
use Rattle.inform_logic.proofs.Conditions.{nonzero}
use Rattle.inform_logic.proofs.Changes.{set_variable}
use Rattle.inform_logic.proofs.Printing.{print_nothing, print_text, print_number}
use Rattle.inform_logic.proofs.Statements.{end, next, assign, print, new_line, call_alone, if_true, if_false}
use Rattle.inform_logic.proofs.Routines.{does_within, routine}
use Rattle.inform_logic.specs.Stopping.{in_block}
use Rattle.inform_logic.proofs.Stops.{later, handed_up, quit, routine_stops}
use Rattle.inform_codes.specs.Grown.{body_of}
use Rattle.scott_types.specs.declared.styles.Style.{Style}
use Rattle.scott_types.specs.declared.phrases.Phrase.TheVariants.{NoSaving, GameOver}
use Rattle.scott_types.specs.Phrase.{text_of}
use Rattle.scott_types.specs.Style.{in_style}
use Rattle.scott_types.specs.Database.{Database}
use Rattle.scott_rules.specs.Looking.{looked, inventory, scored, all_stored}
use Rattle.scott_rules.specs.Opcodes.{by_opcode, by_score}
use Rattle.trans_specs.specs.Names.{opcode_name}
use Rattle.trans_specs.proofs.Entries.{bit_tells}
use Rattle.trans_specs.proofs.Left.{nothing_left, said_left, left_then}
use Rattle.trans_specs.proofs.Acts.{CallActs, returns_acts, stops_within}
use Rattle.trans_actions.specs.declared.table.Kind.TheVariants as kinds
use Rattle.trans_actions.specs.Names.{action_names}
use Rattle.trans_actions.specs.Helpers.{uses}
use Rattle.trans_actions.proofs.Known.{Known, opcode_there}
use Rattle.trans_specs.proofs.Room.{one_less}
use Rattle.trans_actions.proofs.NounSaid.{noun_is_said, few_bytes, more_bytes}
use Rattle.trans_actions.proofs.Effects.{opcode_steps, OpcodeSpec, some_is, two_less, alone}

module _ {style : Style} {db : Database} {p : Program} (known : Known style db p) where
  pub opcode_64 : OpcodeSpec style db p 64
  unfolding body_of action_names digits
  opcode_64 used called_here a b s noun w d room stands = one_less (λ d. CallActs None db p d
      (opcode_name 64) [] w noun s (said_steps (looked (in_style style db) s)) (opcode_steps db))
      109 d room
      (λ k few. returns_acts (does_within (omega arith) (routine
      (opcode_there known 13 (alone db 64 used))
      (next (call_alone (called (known.texts.looks s noun w k (omega (arith, few)) stands).does))
      end) at_end))
      (said_left (looked (in_style style db) s) stands))

  pub opcode_76 : OpcodeSpec style db p 76
  unfolding body_of action_names digits
  opcode_76 used called_here a b s noun w d room stands = one_less (λ d. CallActs None db p d
      (opcode_name 76) [] w noun s (said_steps (looked (in_style style db) s)) (opcode_steps db))
      109 d room
      (λ k few. returns_acts (does_within (omega arith) (routine
      (opcode_there known 23 (alone db 76 used))
      (next (call_alone (called (known.texts.looks s noun w k (omega (arith, few)) stands).does))
      end) at_end))
      (said_left (looked (in_style style db) s) stands))

  pub opcode_66 : OpcodeSpec style db p 66
  unfolding body_of action_names digits
  opcode_66 used called_here a b s noun w d room stands = one_less (λ d. CallActs None db p d
      (opcode_name 66) [] w noun s (said_steps (inventory (in_style style db) s)) (opcode_steps db))
      109 d room
      (λ k few. returns_acts (does_within (omega arith) (routine
      (opcode_there known 15 (alone db 66 used))
      (next (call_alone (called (known.texts.carries s noun w k (omega (arith, few)) stands).does))
      end) at_end))
      (said_left (inventory (in_style style db) s) stands))

  pub opcode_71 : OpcodeSpec style db p 71
  unfolding body_of action_names digits
  opcode_71 used called_here a b s noun w d room stands = one_less (λ d. CallActs None db p d
      (opcode_name 71) [] w noun s (said_steps (text_of NoSaving)) (opcode_steps db)) 109 d room
      (λ k few. returns_acts (does_within (omega arith) (routine
      (opcode_there known 19 (alone db 71 used))
      (next (print (print_text print_nothing)) end) at_end))
      (said_left (text_of NoSaving) stands))

  pub opcode_78 : OpcodeSpec style db p 78
  unfolding body_of action_names digits
  opcode_78 used called_here a b s noun w d room stands = one_less (λ d. CallActs None db p d
      (opcode_name 78) [] w noun s (said_steps (signed_decimal s.counter)) (opcode_steps db)) 109 d
      room
      (λ k few. returns_acts (does_within (omega arith) (routine
      (opcode_there known 25 (alone db 78 used))
      (next (print (print_number (global refl stands.ready.shows.counter_is) print_nothing)) end)
      at_end))
      (said_left (signed_decimal s.counter) stands))

  pub opcode_86 : OpcodeSpec style db p 86
  unfolding body_of action_names digits text_of
  opcode_86 used called_here a b s noun w d room stands = one_less (λ d. CallActs None db p d
      (opcode_name 86) [] w noun s (said_steps (10 ∷ [])) (opcode_steps db)) 109 d room
      (λ k few. returns_acts (does_within (omega arith) (routine
      (opcode_there known 33 (alone db 86 used))
      (next new_line end) at_end))
      (said_left (10 ∷ []) stands))

  pub opcode_70 : OpcodeSpec style db p 70
  unfolding body_of action_names digits
  opcode_70 used called_here a b s noun w d room stands = one_less (λ d. CallActs None db p d
      (opcode_name 70) [] w noun s [] (opcode_steps db)) 109 d room
      (λ k few. returns_acts (does_within (omega arith) (routine
      (opcode_there known 18 (alone db 70 used)) end at_end))
      (nothing_left stands))

  pub opcode_88 : OpcodeSpec style db p 88
  unfolding body_of action_names digits
  opcode_88 used called_here a b s noun w d room stands = one_less (λ d. CallActs None db p d
      (opcode_name 88) [] w noun s [] (opcode_steps db)) 109 d room
      (λ k few. returns_acts (does_within (omega arith) (routine
      (opcode_there known 35 (alone db 88 used)) end at_end))
      (nothing_left stands))

  pub opcode_89 : OpcodeSpec style db p 89
  unfolding body_of action_names digits
  opcode_89 used called_here a b s noun w d room stands = one_less (λ d. CallActs None db p d
      (opcode_name 89) (pos a ∷ []) w noun s [] (opcode_steps db)) 109 d room
      (λ k few. returns_acts (does_within (omega arith) (routine
      (opcode_there known 36 (alone db 89 used)) end at_end))
      (nothing_left stands))

  -- ---- the noun as it was typed

  saying_noun : (n i : ℕ) → slice_get (84 ∷ 85 ∷ []) i ≡ Some n → uses kinds.Opcode db n ≡ true
      → list_any (uses kinds.Opcode db) (84 ∷ 85 ∷ []) ≡ true
  saying_noun n i at used = some_is (uses kinds.Opcode db) (84 ∷ 85 ∷ []) i at used

  pub opcode_84 : OpcodeSpec style db p 84
  unfolding body_of action_names digits
  opcode_84 used called_here a b s noun w d room stands = one_less (λ d. CallActs None db p d
      (opcode_name 84) [] w noun s (said_steps noun) (opcode_steps db)) 109 d room
      (λ k few. returns_acts (does_within (few_bytes known s noun w stands)
      (noun_is_said known s noun w stands
      (saying_noun 84 0 refl used) k)) (said_left noun stands))

  -- 85: the noun is said, and then the end of a line
  pub opcode_85 : OpcodeSpec style db p 85
  unfolding body_of action_names digits text_of
  opcode_85 used called_here a b s noun w d room stands = two_less (λ d. CallActs None db p d
      (opcode_name 85) [] w noun s (said_steps (noun ++ 10 ∷ [])) (opcode_steps db)) 108 d room
      (λ k few. subst (λ steps. CallActs None db p (suc (suc k)) (opcode_name 85) [] w noun s steps
      (opcode_steps db)) (sym (map-append Said noun (10 ∷ [])))
      (returns_acts (does_within (more_bytes known s noun w stands)
      (routine (opcode_there known 32 (alone db 85 used))
      (next (call_alone (called (noun_is_said known s noun w stands (saying_noun 85 1 refl used)
      k)))
      (next new_line end)) at_end))
      (left_then (said_left noun stands) (said_left (10 ∷ []) (said_left noun stands).stands))))

  -- ---- endings

  -- 63: the text that the game is over is said, and the game ends with 1 in `over`
  pub opcode_63 : OpcodeSpec style db p 63
  unfolding body_of action_names digits
  opcode_63 used called_here a b s noun w d room stands = one_less
      (λ d. CallActs (Some by_opcode) db
      p d (opcode_name 63) [] w noun s (said_steps (text_of GameOver)) (opcode_steps db)) 109 d room
      (λ k few. record {
        acts = record {
          after = with_global (codes "over") (pos 1) (said (text_of GameOver) w);
          stops = stops_within (omega arith) (routine_stops
              (opcode_there known 12 (alone db 63 used))
              (later (λ e s'. next (print (print_text print_nothing)))
              (later (λ e s'. next (assign (set_variable number stands.ready.working.over_there)))
              (handed_up in_block quit))));
          shows = stands.ready.shows;
          past_is = refl;
          over_is = refl;
        };
      })

  -- 65: the score is said, and where all treasures are stored, the game ends with 3 in `over`
  pub opcode_65 : OpcodeSpec style db p 65
  unfolding body_of action_names digits
  opcode_65 used called_here a b s noun w d room stands = one_less (λ d. CallActs
      (if all_stored db s then Some by_score else None) db p d (opcode_name 65) [] w noun s
      (said_steps (scored (in_style style db) s)) (opcode_steps db)) 109 d room
      (λ k few. by k few (all_stored db s) refl) where
        by : (k : ℕ) → 109 ≤ k → (all : Bool) → all_stored db s ≡ all
            → CallActs (if all then Some by_score else None) db p (suc k) (opcode_name 65) [] w noun
            s (said_steps (scored (in_style style db) s)) (opcode_steps db)
        by k few true all = record {
          acts = record {
            after = with_global (codes "over") (pos 3) (said (scored (in_style style db) s) w);
            stops = stops_within (omega arith) (routine_stops
                (opcode_there known 14 (alone db 65 used))
                (handed_up in_block (later (λ e s'. if_true
                (nonzero (call (called (known.texts.scores s noun w k (omega (arith, few)) stands)))
                (bit_tells (all_stored db s) ∙ all)))
                (later (λ e s'. next (assign (set_variable number stands.ready.working.over_there)))
                (handed_up in_block quit)))));
            shows = stands.ready.shows;
            past_is = refl;
            over_is = refl;
          };
        }
        by k few false all = returns_acts (does_within (omega arith)
            (routine (opcode_there known 14 (alone db 65 used))
            (next (if_false (nonzero (call (called (known.texts.scores s noun w k
            (omega (arith, few)) stands))) (bit_tells (all_stored db s) ∙ all)) end) end) at_end))
            (said_left (scored (in_style style db) s) stands)
