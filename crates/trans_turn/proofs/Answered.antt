-- The answer to a line that stands in the buffer.
use Rattle.std.proofs.Common.{◌≡◌, ◌∙◌, arith, ℕ, suc, ◌+◌, ◌*◌, ◌<◌, ◌≤◌, ℤ, pos, not, List, [], ◌++◌, length, codes, Option, Some, None, refl, sym, ap, subst, append-nil, append_assoc}
use Rattle.adv_io.specs.Steps.{Step, Traced, after, said_steps}
use Rattle.adv_io.specs.TypedLine.{IsTyped}
use Rattle.inform_codes.specs.Grown.{body_of}
use Rattle.inform_meaning.specs.Worlds.{Program}
use Rattle.inform_logic.specs.Stages.{Stage, said}
use Rattle.inform_logic.specs.Leading.{Does, by_return}
use Rattle.inform_logic.specs.Stopping.{in_block, in_call_alone}
use Rattle.inform_logic.proofs.Words.{not_zero}
use Rattle.inform_logic.proofs.Values.{within, global, called}
use Rattle.inform_logic.proofs.Conditions.{nonzero}
use Rattle.inform_logic.proofs.Printing.{said_twice, happened_then, print_nothing, print_text}
use Rattle.inform_logic.proofs.Statements.{end, next, returns, print, call_alone, if_true, if_false, return_true, return_false}
use Rattle.inform_logic.proofs.Stops.{later, handed_up, step_stops, called_stops, routine_stops}
use Rattle.inform_logic.proofs.Routines.{does_within, routine}
use Rattle.scott_types.specs.declared.phrases.Phrase.TheVariants.{Prompt, UnknownOpening, UnknownBack}
use Rattle.scott_types.specs.declared.states.State.{State}
use Rattle.scott_types.specs.declared.commands.Heard.{Heard}
use Rattle.scott_types.specs.declared.commands.Heard.TheVariants.{Blank, Unknown}
use Rattle.scott_types.specs.declared.endings.Position.{Position}
use Rattle.scott_types.specs.declared.endings.Position.TheVariants.{Fresh, Draw, Line, Over}
use Rattle.scott_types.specs.Phrase.{text_of}
use Rattle.scott_types.specs.Database.{Database}
use Rattle.scott_types.specs.Style.{Game}
use Rattle.scott_rules.specs.Progress.{Progress}
use Rattle.scott_rules.specs.Commands.{Span, split, typed_noun, word_at, heard}
use Rattle.scott_rules.specs.Rounds.{Answered, command_result, turn_ended, unknown_word, by_heard}
use Rattle.scott_rules.specs.Laws.{WordNamesLeastMatch}
use Rattle.trans_specs.specs.Standing.{Ready, StandsFor, HasLine}
use Rattle.trans_specs.specs.Steps.{share, text_steps, reader_steps}
use Rattle.trans_specs.specs.Calls.{StageLeft, CallEndsGame}
use Rattle.trans_specs.specs.DataSpecs.{LightCounted}
use Rattle.trans_specs.specs.WordSpecs.{verb_heard, noun_heard, WordSeen, WordsRead, Reads}
use Rattle.trans_specs.specs.CommandSpecs.{command_steps, CommandReturns, CommandEnds}
use Rattle.trans_turn.specs.RoundSpecs.{RoundParts}
use Rattle.trans_turn.proofs.Holding.{HasRound}
use Rattle.trans_turn.proofs.Standing.{past_aside}
use Rattle.trans_specs.proofs.Room.{one_less}
use Rattle.trans_turn.proofs.Parts.{Went, went_on}
use Rattle.trans_turn.proofs.Bytes.{word_there}
use Rattle.trans_turn.proofs.SaidWord.{word_is_said}
use Rattle.trans_turn.proofs.HeardWords.{IsHeard, blank, unknown, command, is_heard, IsWord, first_is_word}

-- ---- what an answer leaves

-- it gives this value, and the stage stands for the state
pub record AnswerDone (p : Program) (d : ℕ) (w : Stage) (v : ℤ) (db : Database)
    (t : Traced Step Answered) (most : ℕ) : Type 0 where
  pub last : Stage
  pub does : Does p d (codes "answer") [] w v last most
  pub noun : List ℕ
  pub stands : StandsFor db t.value.state noun last
  pub went : Went w last t.events

-- where a line is asked for again, and where a turn was done
abbrev pub short_steps : Database → ℕ
short_steps db = reader_steps db + 2 * share db

abbrev pub full_steps : Database → ℕ
full_steps db = reader_steps db + command_steps db + text_steps db + 20

-- 1 where the next round begins, and 0 where a line is asked for again, or the game ends
abbrev pub AnswerOutcome : Position → Program → ℕ → Stage → Database → Traced Step Answered
    → Type 0
AnswerOutcome Fresh p d w db t = AnswerDone p d w (pos 1) db t (full_steps db)
AnswerOutcome Line p d w db t = AnswerDone p d w (pos 0) db t (short_steps db)
AnswerOutcome (Draw head) p d w db t = ⊥
AnswerOutcome (Over ending) p d w db t =
    CallEndsGame p d (codes "answer") [] w t.value.state t.events ending (full_steps db)

-- ---- what other calls leave

left_went : {db : Database} {s : State} {noun : List ℕ} {steps : List Step} {w w' : Stage}
    → StageLeft db s noun steps w w' → Went w w' steps
left_went h = record {
  past_is = h.past_is;
  lines_stay = h.lines_stay;
  draws_stay = h.draws_stay;
  over_stays = h.globals_stay (codes "over") (refl, (refl, (refl, (refl, (refl, tt)))));
}

read_went : {db : Database} {s : State} {line : List ℕ} {w w' : Stage}
    → WordsRead db s line w w' → Went w w' []
read_went {w = w} h = record {
  past_is = h.past_stays ∙ sym (append-nil w.past);
  lines_stay = h.lines_stay;
  draws_stay = h.draws_stay;
  over_stays = h.globals_stay (codes "over") (refl, (refl, (refl, (refl, (refl, (refl, tt))))));
}

said_went : (bytes : List ℕ) (w : Stage) → Went w (said bytes w) (said_steps bytes)
said_went bytes w =
    record { past_is = refl; lines_stay = refl; draws_stay = refl; over_stays = refl }

module _ (game : Game) (p : Program) (asked : ℕ) (has : HasRound p asked)
    (parts : RoundParts game p) (d : ℕ) (room : 130 ≤ d) (s : State) (line : List ℕ) (w : Stage)
    (reads : Reads game.db p (codes "hear") s line w d) where
  abbrev read : WordsRead game.db s line w reads.after
  read = reads.read

  -- ---- where a line is asked for again

  -- a blank line
  blank_line : reads.after.globals (codes "vnum") ≡ Some (pos 0)
      → reads.after.globals (codes "na") ≡ Some (pos 0)
      → AnswerDone p (suc d) w (pos 0) game.db (by_heard Blank game line s) (short_steps game.db)
  unfolding body_of
  blank_line vnum na = record {
    last = said (text_of Prompt) reads.after;
    does = does_within (omega arith) (routine has.answer (next (call_alone (called reads.does))
        (next (if_false (nonzero (global refl vnum) refl) end)
        (next (if_false (nonzero (global refl na) refl) end)
        (next (print (print_text print_nothing)) (returns return_false))))) by_return);
    noun = typed_noun line;
    stands = past_aside (reads.after.past ++ said_steps (text_of Prompt)) read.stands;
    went = went_on (read_went read) (said_went (text_of Prompt) reads.after);
  }

  -- a word that isn't known
  module _ (typed : IsTyped line) (span : Span) (is_word : IsWord line span) where
    abbrev word : List ℕ
    word = word_at line span

    abbrev told : List ℕ
    told = unknown_word word ++ text_of Prompt

    abbrev by_pieces : Stage
    by_pieces = said (text_of Prompt) (said (text_of UnknownBack) (said word
        (said (text_of UnknownOpening) reads.after)))

    one_text : by_pieces ≡ said told reads.after
    one_text = ap (λ w'. said (text_of Prompt) (said (text_of UnknownBack) w'))
        (said_twice (text_of UnknownOpening) word reads.after)
        ∙ ap (said (text_of Prompt))
        (said_twice (text_of UnknownOpening ++ word) (text_of UnknownBack) reads.after)
        ∙ said_twice ((text_of UnknownOpening ++ word) ++ text_of UnknownBack) (text_of Prompt)
        reads.after
        ∙ ap (λ bytes. said (bytes ++ text_of Prompt) reads.after)
        (append_assoc (text_of UnknownOpening) word (text_of UnknownBack))

    short : length word ≤ 120
    short = omega (arith, is_word.size_is, is_word.size_few, typed.short)

    unknown_line : reads.after.globals (codes "vnum") ≡ Some (pos 0)
        → reads.after.globals (codes "wa") ≡ Some (pos (span.0 + 2))
        → reads.after.globals (codes "na") ≡ Some (pos span.1)
        → AnswerDone p (suc d) w (pos 0) game.db (by_heard (Unknown span.0 span.1) game line s)
        (short_steps game.db)
    unfolding body_of
    unknown_line vnum wa na = let
        entries : List ℤ = read.line_stays.stands.all in
        let says : Does p d (codes "say_word") [] (said (text_of UnknownOpening) reads.after)
        (pos 1)
        (said word (said (text_of UnknownOpening) reads.after)) 242 =
        one_less (λ d. Does p d (codes "say_word") [] (said (text_of UnknownOpening) reads.after)
        (pos 1) (said word (said (text_of UnknownOpening) reads.after)) 242) 129 d room
        (λ k few. does_within (omega (arith, short)) (word_is_said p asked has.say_word k word
        (span.0 + 2) entries (said (text_of UnknownOpening) reads.after)
        (word_there line span.0 span.1 entries typed read.line_stays.stands.stand)
        (omega (arith, is_word.start_few, typed.short, short)) wa
        (na ∙ ap (λ n. Some (pos n)) (sym is_word.size_is)) read.line_stays.stands.all_are))
        in record {
          last = said told reads.after;
          does = subst (λ w'. Does p (suc d) (codes "answer") [] w (pos 0) w'
              (short_steps game.db)) one_text (does_within (omega arith)
              (routine has.answer (next (call_alone (called reads.does))
              (next (if_false (nonzero (global refl vnum) refl) end)
              (next (if_true (nonzero (global refl na) (ap not (not_zero span.1 is_word.some)))
              (next (print (print_text print_nothing)) (next (call_alone (called says))
              (next (print (print_text print_nothing)) end))))
              (next (print (print_text print_nothing)) (returns return_false))))) by_return));
          noun = typed_noun line;
          stands = past_aside (reads.after.past ++ said_steps told) read.stands;
          went = went_on (read_went read) (said_went told reads.after);
        }

  -- ---- where a turn is done

  module _ (verb : ℕ) (noun : Option ℕ) (some : 0 < verb)
      (vnum : reads.after.globals (codes "vnum") ≡ Some (pos verb)) where
    abbrev noun_text : List ℕ
    noun_text = typed_noun line

    abbrev obeyed : Traced Step Progress
    obeyed = command_result game noun_text verb noun s

    abbrev ended : Option ℕ → Traced Step Answered
    ended over = after obeyed.events (turn_ended game.style over obeyed.value.state)

    -- the command and a turn of the light
    goes_on : CommandReturns game p d (codes "command") reads.after noun_text obeyed
        → AnswerDone p (suc d) w (pos 1) game.db (ended None) (full_steps game.db)
    unfolding body_of
    goes_on returned = let
        left : StageLeft game.db obeyed.value.state noun_text obeyed.events reads.after
        returned.leaves.after = returned.leaves.leaves in
        let lit : LightCounted game p (codes "burn") obeyed.value.state noun_text
        returned.leaves.after d = parts.burns obeyed.value.state noun_text returned.leaves.after d
        (omega (arith, room)) left.stands in record {
          last = lit.gives.after;
          does = does_within (omega arith) (routine has.answer
              (next (call_alone (called reads.does))
              (returns (if_true (nonzero (global refl vnum) (ap not (not_zero verb some)))
              (next (call_alone (called returned.leaves.does))
              (next (call_alone (called lit.gives.does)) (returns return_true)))))) by_return);
          noun = noun_text;
          stands = lit.gives.leaves.stands;
          went = went_on (read_went read) (went_on (left_went left) (left_went lit.gives.leaves));
        }

    -- the command ends the game
    ends : (ending : ℕ) → CallEndsGame p d (codes "command") [] reads.after obeyed.value.state
        obeyed.events ending (command_steps game.db)
        → CallEndsGame p (suc d) (codes "answer") [] w obeyed.value.state
        (ended (Some ending)).events ending (full_steps game.db)
    unfolding body_of
    ends ending over = record {
      after = over.after;
      stops = routine_stops has.answer (later (λ e s'. within (omega arith))
          (later (λ e s'. next (call_alone (called reads.does)))
          (handed_up in_block
          (later (λ e s'. if_true (nonzero (global refl vnum) (ap not (not_zero verb some))))
          (handed_up in_block (step_stops (handed_up in_call_alone (called_stops over.stops))))))));
      shows = over.shows;
      past_is = happened_then w.past [] (ended (Some ending)).events (read_went read).past_is
          (over.past_is ∙ ap (λ es. reads.after.past ++ es) (sym (append-nil obeyed.events)));
      over_is = over.over_is;
    }

    by_command : (over : Option ℕ) → CommandEnds over game p d
        (codes "command") reads.after noun_text
        obeyed → AnswerOutcome (ended over).value.position p (suc d) w game.db (ended over)
    by_command None x = goes_on x
    by_command (Some ending) x = ends ending x

  -- ---- whatever was heard

  -- `answer` does what the rules do, whatever was heard
  by : (first : Option Span) (h : Heard) → (split line).first ≡ first → IsHeard game.db first h
      → IsTyped line
      → reads.after.globals (codes "vnum") ≡ Some (pos (verb_heard h))
      → reads.after.globals (codes "nnum") ≡ Some (pos (noun_heard h))
      → WordSeen first (reads.after.globals (codes "wa")) (reads.after.globals (codes "na"))
      → AnswerOutcome (by_heard h game line s).value.position p (suc d) w game.db
      (by_heard h game line s)
  by _ _ first blank typed vnum nnum na = blank_line vnum na
  by _ _ first (unknown span) typed vnum nnum seen =
      unknown_line typed span (first_is_word line span first) vnum seen.0 seen.1
  by _ _ first (command span verb noun some is_noun) typed vnum nnum seen =
      by_command verb noun some vnum
      (command_result game (typed_noun line) verb noun s).value.over
      (parts.commands verb noun s (typed_noun line) reads.after d room some is_noun vnum nnum
      read.stands)

-- a line that stands in the buffer is answered
pub answers : (law : WordNamesLeastMatch) (game : Game) (p : Program) (asked : ℕ)
    → HasRound p asked → RoundParts game p → (d : ℕ) → 130 ≤ d → (s : State) (line : List ℕ)
    (w : Stage) → IsTyped line → Ready game.db s w → HasLine line w
    → let a = by_heard (heard game.db line) game line s in
    AnswerOutcome a.value.position p (suc d) w game.db a
answers law game p asked has parts d room s line w typed ready has_line = let
    reads : Reads game.db p (codes "hear") s line w d =
    parts.reads s line w d (omega (arith, room)) typed ready has_line in
    by game p asked has parts d room s line w reads (split line).first (heard game.db line) refl
    (is_heard law game.db line) typed reads.read.verb_is reads.read.noun_is reads.read.first_word
