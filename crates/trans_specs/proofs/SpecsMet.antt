-- Routines that meet their specifications.
use Rattle.std.proofs.Common.{◌≡◌, ◌∙◌, arith, ℕ, suc, ◌<◌, pos, nat_lt, Bool, true, if◌then◌else◌, List, [], ◌∷◌, ◌++◌, length, slice_index_or, Some, refl, sym, ap, subst, append_assoc}
use Rattle.adv_io.specs.Steps.{Noted, said_steps}
use Rattle.inform_meaning.specs.Worlds.{Program}
use Rattle.inform_logic.specs.Stages.{Stage, with_past, said}
use Rattle.inform_logic.specs.Leading.{Does, at_end, by_return}
use Rattle.inform_logic.specs.Holding.{Has}
use Rattle.inform_logic.proofs.Values.{number, called}
use Rattle.inform_logic.proofs.Printing.{print_nothing, print_text, said_twice}
use Rattle.inform_logic.proofs.Statements.{end, next, returns, print, new_line, call_alone, return}
use Rattle.inform_logic.proofs.Routines.{does_within, routine, noted_routine}
use Rattle.scott_types.specs.Phrase.{text_of}
use Rattle.scott_types.specs.Style.{in_style}
use Rattle.scott_types.specs.Database.{Database}
use Rattle.scott_rules.specs.Opcodes.{said_message}
use Rattle.scott_rules.specs.Actions.{try_action}
use Rattle.scott_rules.specs.Games.{chance}
use Rattle.trans_specs.specs.Steps.{text_steps, line_steps}
use Rattle.trans_specs.specs.Names.{message_name, line_name}
use Rattle.trans_specs.specs.Calls.{CallSays, CallLeaves}
use Rattle.trans_specs.specs.ActionSpecs.{LineDone}
use Rattle.trans_specs.specs.WorkedSpecs.{PastCountsForNothing, message_routine, MessagesAreSaid, ChanceLineIsDone}
use Rattle.trans_specs.proofs.Room.{one_less}
use Rattle.trans_specs.proofs.Left.{stands_after}

pub past_counts_for_nothing : PastCountsForNothing
past_counts_for_nothing db s noun w past h = stands_after past h

-- ---- messages

module _ (db : Database) (p : Program) (m : ℕ) (less : m < length db.messages)
    (has : Has p (message_routine db m)) where
  message : List ℕ
  message = slice_index_or db.messages m []

  message_is : slice_index_or db.messages m [] ++ 10 ∷ [] ≡ said_message db m
  unfolding text_of
  message_is = ap (λ (b : Bool). if b then slice_index_or db.messages m [] ++ 10 ∷ [] else [])
      (sym there) where
        there : nat_lt m (length db.messages) ≡ true
        there = grind (arith, less)

  message_does : (d : ℕ) (w : Stage)
      → Does p (suc d) (message_name m) [] w (pos 1) (said (said_message db m) w) 2
  message_does d w = subst (λ w'. Does p (suc d) (message_name m) [] w (pos 1) w' 2)
      (said_twice (slice_index_or db.messages m []) (10 ∷ []) w
      ∙ ap (λ bytes. said bytes w) message_is)
      (routine has (next (print (print_text print_nothing)) (next new_line end)) at_end)

-- a program whose routine of a message is the translated one says it as specified
pub messages_are_said : MessagesAreSaid
messages_are_said game p notes only m less has s noun w d room stands =
    one_less (λ d. CallSays p d (message_name m) [] w (said_message game.db m)
    (text_steps game.db)) 99 d room
    (λ k few. record {
      value = pos 1;
      does = does_within (omega arith) (message_does game.db p m less own k w);
    }) where
      own : Has p (message_routine game.db m)
      own = record {
        at = (only m has.0 has.1).0;
        there = has.1 ∙ ap Some (only m has.0 has.1).1;
        unseen = notes (message_name m) (only m has.0 has.1).0;
      }

-- ---- a line

-- where messages are said as specified, line 2 of `chance` meets its specification
pub chance_line_is_done : ChanceLineIsDone
unfolding text_of
chance_line_is_done style p notes messages has s noun w d room stands =
    one_less (λ d. LineDone (in_style style chance) p d 2 w noun
    (try_action (in_style style chance) noun 2 s)) 119 d room
    (λ k few. done k (messages 2 (omega arith) has s noun entered k (omega (arith, few))
    (past_counts_for_nothing chance s noun w (w.past ++ Noted 2 ∷ []) stands))) where
      entered : Stage
      entered = with_past (w.past ++ Noted 2 ∷ []) w

      done : (k : ℕ) → CallSays p k (message_name 2) [] entered (said_message chance 2)
          (text_steps chance) → CallLeaves p (suc k) (line_name 2) [] w (pos 2) chance s noun
          (Noted 2 ∷ said_steps (said_message chance 2)) (line_steps chance)
      done k says = record {
        after = said (said_message chance 2) entered;
        does = does_within (omega arith) (noted_routine notes refl
            (next (call_alone (called says.does)) (returns (return number))) by_return);
        leaves = record {
          stands = past_counts_for_nothing chance s noun w
              ((w.past ++ Noted 2 ∷ []) ++ said_steps (said_message chance 2)) stands;
          past_is = append_assoc w.past (Noted 2 ∷ []) (said_steps (said_message chance 2));
          lines_stay = refl;
          draws_stay = refl;
          globals_stay = λ name h. refl;
          arrays_stay = λ name h. refl;
        };
      }
