-- A line is read into the buffer, or is waited for.
use Rattle.std.proofs.Common.{◌≡◌, ◌∙◌, arith, ℕ, suc, ◌+◌, ◌-◌, ◌≤◌, ℤ, pos, true, List, [], ◌∷◌, ◌++◌, map, take, drop, length, codes, Some, refl, sym, ap, subst}
use Rattle.std.proofs.Math.Nat.{min-eq_left}
use Rattle.std.proofs.Math.Seq.{take-length, take-append_seam}
use Rattle.std.proofs.lemmas.List.{length-map, length-append, length-drop}
use Rattle.adv_io.specs.Steps.{Took}
use Rattle.adv_io.specs.TypedLine.{IsTyped}
use Rattle.inform_codes.specs.Grown.{body_of}
use Rattle.inform_meaning.specs.Worlds.{Program, has_room, filled, filled_by}
use Rattle.inform_meaning.specs.Frames.{NeedsLine}
use Rattle.inform_meaning.specs.Runs.{Lacking}
use Rattle.inform_logic.specs.Stages.{Stage, with_array, line_taken}
use Rattle.inform_logic.specs.Leading.{Does, at_end}
use Rattle.inform_logic.specs.Holding.{Has}
use Rattle.inform_logic.specs.Stopping.{CallStops, in_block}
use Rattle.inform_logic.proofs.Values.{number}
use Rattle.inform_logic.proofs.Changes.{set_entry}
use Rattle.inform_logic.proofs.Statements.{end, next, assign, read}
use Rattle.inform_logic.proofs.Stops.{later, handed_up, read_waits, routine_stops}
use Rattle.inform_logic.proofs.Routines.{routine}
use Rattle.scott_types.specs.declared.states.State.{State}
use Rattle.scott_types.specs.Database.{Database}
use Rattle.trans_specs.specs.Tables.{buffer_length}
use Rattle.trans_specs.specs.Views.{Shows}
use Rattle.trans_specs.specs.Standing.{Ready, LineSeen, HasLine}
use Rattle.trans_turn.specs.declared.names.TheConstants.{ASK}
use Rattle.trans_turn.specs.declared.codes.TheConstants.{ASKING}
use Rattle.trans_turn.proofs.Holding.{written}

-- ---- a buffer

-- a buffer of the length that it is declared with has two entries before those of a line
data Long : List ℤ → Type 0 where
  long : (a b : ℤ) (xs : List ℤ) → length xs ≡ 121 → Long (a ∷ b ∷ xs)

long_buffer : (xs : List ℤ) → length xs ≡ buffer_length → Long xs
long_buffer [] h = absurd (omega (arith, h))
long_buffer (a ∷ []) h = absurd (omega (arith, h))
long_buffer (a ∷ b ∷ xs) h = long a b xs (omega (arith, h))

-- without a line, and with room for 120 bytes
abbrev emptied : List ℤ → List ℤ
emptied xs = pos 120 ∷ pos 0 ∷ xs

module _ (xs : List ℤ) (size : length xs ≡ 121) where
  has_line_room : has_room (emptied xs) ≡ true
  has_line_room = grind (arith, size)

  module _ (line : List ℕ) (short : length line ≤ 120) where
    -- what follows the line
    abbrev rest : List ℤ
    rest = drop (length line + 2) (emptied xs)

    -- the buffer with the line
    abbrev with_line : List ℤ
    with_line = pos 120 ∷ pos (length line) ∷ (map pos line ++ rest)

    line_is_there : filled (emptied xs) line ≡ with_line
    line_is_there = ap (λ n. filled_by n (emptied xs) line) (min-eq_left short)
        ∙ ap (λ bytes. pos 120 ∷ pos (length line) ∷ (map pos bytes ++ rest)) (take-length line)

    same_length : length with_line ≡ buffer_length
    same_length = let
        all : length (map pos line ++ rest) ≡ length (map pos line) + length rest =
        length-append (map pos line) rest in
        let left : length rest ≡ length (emptied xs) - (length line + 2) =
        length-drop (length line + 2) (emptied xs) in
        omega (arith, all, left, length-map line pos, short, size)

    bytes_stand : take (length line) (map pos line ++ rest) ≡ map pos line
    bytes_stand = ap (λ n. take n (map pos line ++ rest)) (sym (length-map line pos))
        ∙ take-append_seam (map pos line) rest

-- ---- the routine

-- a line was read: the stage has the state and the line
pub record LineAsked (p : Program) (d : ℕ) (db : Database) (s : State) (w : Stage) (line : List ℕ)
    (lines : List (List ℕ)) : Type 0 where
  pub last : Stage
  pub does : Does p (suc d) (codes "ask") [] w (pos 1) last 3
  pub ready : Ready db s last
  pub has_line : HasLine line last
  pub past_is : last.past ≡ w.past ++ Took line ∷ []
  pub lines_left : last.lines ≡ lines
  pub draws_stay : last.draws ≡ w.draws
  pub over_stays : last.globals (codes "over") ≡ w.globals (codes "over")

-- a line is waited for
pub record LineAwaited (p : Program) (d : ℕ) (s : State) (w : Stage) : Type 0 where
  pub last : Stage
  pub stops : CallStops p (suc d) (codes "ask") [] w (Lacking NeedsLine) last 3
  pub shows : Shows s last
  pub past_stays : last.past ≡ w.past
  pub over_stays : last.globals (codes "over") ≡ w.globals (codes "over")

-- another buffer of the same length
pub with_buffer : {db : Database} {s : State} {w : Stage} (xs : List ℤ)
    → length xs ≡ buffer_length → Ready db s w → Ready db s (with_array (codes "buf") xs w)
with_buffer xs size h = record {
  shows = h.shows;
  fits = h.fits;
  tables = h.tables;
  working = record {
    over_there = h.working.over_there;
    vnum_there = h.working.vnum_there;
    nnum_there = h.working.nnum_there;
    wa_there = h.working.wa_there;
    na_there = h.working.na_there;
    wb_there = h.working.wb_there;
    nb_there = h.working.nb_there;
    buffer = xs;
    buffer_is = refl;
    buffer_long = size;
  };
}

module _ (p : Program) (asked : ℕ) (has : Has p (written asked ASK [] ASKING)) (db : Database)
    (s : State) (w : Stage) (d : ℕ) (ready : Ready db s w) where
  -- the buffer is emptied in two steps
  abbrev half : ℤ → List ℤ → Stage
  half b xs = with_array (codes "buf") (pos 120 ∷ b ∷ xs) w

  abbrev empty : ℤ → List ℤ → Stage
  empty b xs = with_array (codes "buf") (emptied xs) (half b xs)

  -- where a line is left, `ask` reads it into an emptied buffer, in at most three steps
  asks_by : (line : List ℕ) (lines : List (List ℕ)) → w.lines ≡ line ∷ lines → length line ≤ 120
      → (xs : List ℤ) → Long xs → w.arrays (codes "buf") ≡ Some xs
      → LineAsked p d db s w line lines
  unfolding body_of
  asks_by line lines left short _ (long a b xs size) there = record {
    last = line_taken (codes "buf") (emptied xs) line lines (empty b xs);
    does = routine has (next (assign (set_entry number number there refl))
        (next (assign (set_entry number number refl refl))
        (next (read refl (has_line_room xs size) left) end))) at_end;
    ready = let
        filled_size : length (filled (emptied xs) line) ≡ buffer_length =
        ap length (line_is_there xs size line short) ∙ same_length xs size line short in
        let with_it : Ready db s (with_array (codes "buf") (filled (emptied xs) line) w) =
        with_buffer (filled (emptied xs) line) filled_size ready in record {
          shows = with_it.shows;
          fits = with_it.fits;
          tables = with_it.tables;
          working = with_it.working;
        };
    has_line = subst (λ ys. LineSeen line (Some ys)) (sym (line_is_there xs size line short))
        (record {
          all = with_line xs size line short;
          all_are = refl;
          size_is = refl;
          stands = record {
            all = with_line xs size line short;
            all_are = refl;
            stand = bytes_stand xs size line short;
          };
        });
    past_is = refl;
    lines_left = refl;
    draws_stay = refl;
    over_stays = refl;
  }

  pub asks : (line : List ℕ) (lines : List (List ℕ)) → w.lines ≡ line ∷ lines → IsTyped line
      → LineAsked p d db s w line lines
  asks line lines left typed = let working = ready.working in
      asks_by line lines left typed.short working.buffer
      (long_buffer working.buffer working.buffer_long) working.buffer_is

  -- where no line is left, `ask` waits for one, in at most three steps
  awaits_by : w.lines ≡ [] → (xs : List ℤ) → Long xs → w.arrays (codes "buf") ≡ Some xs
      → LineAwaited p d s w
  unfolding body_of
  awaits_by left _ (long a b xs size) there = record {
    last = empty b xs;
    stops = routine_stops has
        (later (λ e s'. next (assign (set_entry number number there refl)))
        (later (λ e s'. next (assign (set_entry number number refl refl)))
        (handed_up in_block (read_waits refl (has_line_room xs size) left))));
    shows = ready.shows;
    past_stays = refl;
    over_stays = refl;
  }

  pub awaits : w.lines ≡ [] → LineAwaited p d s w
  awaits left = let working = ready.working in
      awaits_by left working.buffer (long_buffer working.buffer working.buffer_long)
      working.buffer_is
