-- A program that has the directives of a round has its routines, and notes none of them.
use Rattle.std.proofs.Common.{ℕ, List, [], ◌∷◌, codes}
use Rattle.inform_tree.specs.declared.widths.Width.{Width}
use Rattle.inform_tree.specs.Programs.{RoutineTree}
use Rattle.inform_codes.specs.declared.codes.Code.{Code}
use Rattle.inform_codes.specs.Routines.{row_routine}
use Rattle.inform_meaning.specs.Worlds.{Program}
use Rattle.inform_logic.specs.Holding.{Has}
use Rattle.inform_logic.proofs.Holding.{has}
use Rattle.scott_types.specs.declared.endings.Position.{Position}
use Rattle.trans_specs.specs.Programs.{Serves}
use Rattle.trans_turn.specs.declared.names.TheConstants.{MAIN, ROUND, ADVANCE, DESCRIBE, ASK, ANSWER, SAY_WORD, ASKED, I}
use Rattle.trans_turn.specs.declared.codes.TheConstants.{DESCRIBING, ADVANCING, ASKING, SAYING_WORD, ANSWERING, ROUNDING, PLAYING}
use Rattle.trans_turn.specs.Routines.{turn_names, first_asked, rounds_asking, round_directives}

-- a routine by the places of its name and its locals, where this number is handed in
abbrev pub written : ℕ → ℕ → List ℕ → List Code → RoutineTree
written given name locals body = row_routine turn_names (given ∷ []) (name, locals, body)

-- all routines of a round are there
pub record HasRound (p : Program) (asked : ℕ) : Type 0 where
  pub describe : Has p (written asked DESCRIBE [] DESCRIBING)
  pub advance : Has p (written asked ADVANCE [] ADVANCING)
  pub ask : Has p (written asked ASK [] ASKING)
  pub say_word : Has p (written asked SAY_WORD (I ∷ []) SAYING_WORD)
  pub answer : Has p (written asked ANSWER [] ANSWERING)
  pub round : Has p (written asked ROUND (ASKED ∷ []) ROUNDING)
  pub main : Has p (written asked MAIN [] PLAYING)

-- a program that serves the directives of a round has each of its routines
pub has_round : {width : Width} (begin : Position) {p : Program}
    → Serves width (round_directives begin) p → HasRound p (first_asked begin)
unfolding rounds_asking
has_round begin {p = p} serves = let all = serves.holds in record {
  describe = has p all.0 (serves.notes_lines (codes "describe") _);
  advance = has p all.1.0 (serves.notes_lines (codes "advance") _);
  ask = has p all.1.1.0 (serves.notes_lines (codes "ask") _);
  say_word = has p all.1.1.1.0 (serves.notes_lines (codes "say_word") _);
  answer = has p all.1.1.1.1.0 (serves.notes_lines (codes "answer") _);
  round = has p all.1.1.1.1.1.0 (serves.notes_lines (codes "round") _);
  main = has p all.1.1.1.1.1.1.0 (serves.notes_lines (codes "main") _);
}
