-- The reader finds in a line what the rules hear.
use Rattle.std.proofs.Common.{◌≡◌, ◌∙◌, arith, ℕ, suc, ◌+◌, ◌-◌, ◌*◌, ◌≤◌, ◌==◌, ℤ, pos, Bool, true, false, if◌then◌else◌, List, [], length, take, drop, codes, Option, Some, None, unwrap_or, refl, sym, ap, subst}
use Rattle.adv_io.specs.TypedLine.{IsTyped}
use Rattle.inform_tree.specs.declared.conditions.Relation.TheVariants.{Eq, Ne}
use Rattle.inform_meaning.specs.Worlds.{Program}
use Rattle.inform_logic.specs.Stages.{Stage, with_global}
use Rattle.inform_logic.specs.Leading.{Does, at_end}
use Rattle.inform_logic.proofs.Steps.{with_room}
use Rattle.inform_logic.proofs.Words.{small_sum, small_difference, eq_is, ne_is}
use Rattle.inform_logic.proofs.Values.{number, local, global, entry, sum_of_two, argument, called, call}
use Rattle.inform_logic.proofs.Changes.{set_variable}
use Rattle.inform_logic.proofs.Statements.{end, next, assign}
use Rattle.inform_logic.proofs.Routines.{does_within, routine}
use Rattle.scott_types.specs.declared.states.State.{State}
use Rattle.scott_types.specs.declared.commands.Column.{Column}
use Rattle.scott_types.specs.declared.commands.Column.TheVariants.{Verbs, Nouns}
use Rattle.scott_types.specs.Database.{Database}
use Rattle.scott_types.specs.Limits.{KeepsLimits}
use Rattle.scott_rules.specs.Words.{which}
use Rattle.scott_rules.specs.Commands.{Span, is_space, span_of}
use Rattle.trans_specs.specs.Tables.{or_zero}
use Rattle.trans_specs.specs.Steps.{highest, reader_steps}
use Rattle.trans_specs.specs.Standing.{HasTables, StandsFor, Ready, HasLine}
use Rattle.trans_specs.specs.WordSpecs.{WordSeen, WordsRead, Reads}
use Rattle.trans_words.specs.Laws.{LinesAreHeard}
use Rattle.trans_words.proofs.Trees.{word_array, base_array}
use Rattle.trans_words.proofs.Held.{HasReader, has_reader}
use Rattle.trans_words.proofs.Standing.{by_bytes, to_bytes, stands_after, stands_first}
use Rattle.trans_words.proofs.Matching.{all_printable}
use Rattle.trans_words.proofs.Splitting as l
use Rattle.trans_words.proofs.Splitting.{in_word}
use Rattle.trans_words.proofs.Letters.{HasWord}
use Rattle.trans_words.proofs.Tables.{some_words, HasColumn}
use Rattle.trans_words.proofs.Finding.{find_steps}
use Rattle.trans_words.proofs.First.{spoken, first_is}
use Rattle.trans_words.proofs.Heard.{verb_by, noun_by, line_verb, line_noun, verb_of_line, noun_of_line}
use Rattle.trans_words.proofs.Scanning.{LineThere, after_is}
use Rattle.trans_words.proofs.Commands.{heard_verb_is, heard_noun_is}

-- ---- how many steps are enough

few_steps : (items words messages rooms size long entries : ℕ) → entries ≡ words + 1 → size ≤ 20
    → long ≤ 120 → 8 * long + 60 + 3 * find_steps size entries
    ≤ 100 * (items + words * (size + 1) + messages + rooms + 200)
few_steps items words messages rooms size long entries all few short =
    subst (λ (n : ℕ). 8 * long + 60 + 3 * find_steps size n
    ≤ 100 * (items + words * (size + 1) + messages + rooms + 200)) (sym all)
    (omega (arith, few, short))

-- ---- what a stage has

columns : (db : Database) (w : Stage) → HasTables db w → (column : Column)
    → HasColumn db column (w.arrays (word_array column)) (w.arrays (base_array column))
columns db w tables Verbs =
    record { words_are = tables.verbs_are; bases_are = tables.verb_bases_are }
columns db w tables Nouns =
    record { words_are = tables.nouns_are; bases_are = tables.noun_bases_are }

-- the entries of one array
same_entries : {a b : List ℤ} {o : Option (List ℤ)} → o ≡ Some a → o ≡ Some b → a ≡ b
same_entries h k = ap (λ (o : Option (List ℤ)). unwrap_or o []) (sym h ∙ k)

line_there : (line : List ℕ) (w : Stage) → IsTyped line → HasLine line w
    → LineThere line (w.arrays (codes "buf"))
line_there line w typed has = record {
  all = has.all;
  all_are = has.all_are;
  size_is = has.size_is;
  stands = by_bytes line 2 has.all (ap (λ (all : List ℤ). take (length line) (drop 2 all))
      (same_entries has.all_are has.stands.all_are) ∙ has.stands.stand);
  short = typed.short;
}

-- a part of the line
part : (line : List ℕ) (at n : ℕ) (buffer : Option (List ℤ)) → at + n ≤ length line
    → length (take n (drop at line)) ≡ n → LineThere line buffer
    → HasWord (take n (drop at line)) (2 + at) buffer
part line at n buffer few long there = record {
  all = there.all;
  all_are = there.all_are;
  stands = stands_first (drop at line) (2 + at) n there.all
      (stands_after line 2 at there.all (omega (arith, few)) there.stands);
  small = omega (arith, few, long, there.short);
}

module _ (p : Program) (db : Database) (limits : KeepsLimits db) (has : HasReader db p)
    (line : List ℕ) (typed : IsTyped line) (s : State) (w : Stage) (ready : Ready db s w)
    (has_line : HasLine line w) where
  there : LineThere line (w.arrays (codes "buf"))
  there = line_there line w typed has_line

  -- where the words are
  abbrev start : ℕ
  start = l.start line typed.lower

  abbrev size : ℕ
  size = l.size line typed.lower

  abbrev later : ℕ
  later = l.later line typed.lower

  abbrev later_size : ℕ
  later_size = l.later_size line typed.lower

  abbrev word : List ℕ
  word = l.word line typed.lower

  abbrev noun : List ℕ
  noun = l.noun line typed.lower

  -- what they mean
  abbrev verb : ℕ
  verb = line_verb db limits line typed.lower

  abbrev noun_number : ℕ
  noun_number = line_noun db limits line typed.lower

  -- what the first word names, where the second one has so many bytes
  abbrev first_number : ℕ
  first_number = or_zero (which db Nouns (spoken word (length noun)))

  abbrev verb_given : ℕ
  verb_given = verb_by first_number (or_zero (which db Verbs (spoken word (length noun))))

  abbrev noun_given : ℕ
  noun_given = noun_by first_number verb_given (or_zero (which db Nouns noun))

  -- what is left
  abbrev with_places : Stage
  with_places = with_global (codes "nb") (pos (length noun)) (with_global (codes "wb")
      (pos (2 + later)) (with_global (codes "na") (pos (length word)) (with_global (codes "wa")
      (pos (2 + start)) w)))

  abbrev left : Stage
  left = with_global (codes "nnum") (pos noun_given)
      (with_global (codes "vnum") (pos verb_given) with_places)

  has_word : HasWord word (2 + start) (w.arrays (codes "buf"))
  has_word = part line start size (w.arrays (codes "buf")) (l.word_within line typed.lower)
      (l.word_long line typed.lower) there

  has_noun : HasWord noun (2 + later) (w.arrays (codes "buf"))
  has_noun = part line later later_size (w.arrays (codes "buf")) (l.noun_within line typed.lower)
      (l.noun_long line typed.lower) there

  -- the steps of all parts are few
  enough : 8 * length line + 60 + 3 * find_steps db.header.length (length db.words)
      ≤ reader_steps db
  enough = few_steps (highest db.items) (highest db.words) (highest db.messages)
      (highest db.rooms) db.header.length (length line) (length db.words)
      (omega (arith, some_words db limits)) limits.header.length_range.1 typed.short

  -- the lengths of the words, as differences of places
  word_length : (2 + (start + size)) - (2 + start) ≡ length word
  word_length = omega (arith, l.word_long line typed.lower)

  noun_length : (2 + (later + later_size)) - (2 + later) ≡ length noun
  noun_length = omega (arith, l.noun_long line typed.lower)

  tables : (column : Column)
      → HasColumn db column (w.arrays (word_array column)) (w.arrays (base_array column))
  tables = columns db w ready.tables

  -- `hear` leaves the two words of the line and what they name, within the steps of the reader
  hear_is : (d : ℕ) → Does p (suc (suc (suc (suc d)))) (codes "hear") [] w (pos 1) left
      (reader_steps db)
  hear_is d = does_within (omega (arith, enough)) (routine has.hear
      (next (assign (set_variable (sum_of_two (entry number there.all_are there.size_is) number
      (small_sum p.width (length line) 2 (omega (arith, typed.short)))) refl))
      (next (assign (set_variable (call (argument number (argument (local refl)
      (called (after_is p w line there (codes "after_spaces") Eq is_space (λ b. eq_is b 32)
      has.after_spaces _ 0 (2 + start) (omega arith) refl))))) ready.working.wa_there))
      (next (assign (set_variable (call (argument (global refl refl) (argument (local refl)
      (called (after_is p _ line there (codes "after_word") Ne in_word (λ b. ne_is b 32)
      has.after_word _ start (2 + (start + size)) (l.start_within line typed.lower)
      (omega arith)))))) refl))
      (next (assign (set_variable (sum_of_two (local refl) (global refl refl)
      (small_difference p.width (2 + (start + size)) (2 + start) (omega arith)
      (omega (arith, l.word_within line typed.lower, typed.short))
      ∙ ap pos word_length)) ready.working.na_there))
      (next (assign (set_variable (call (argument (local refl) (argument (local refl)
      (called (after_is p _ line there (codes "after_spaces") Eq is_space (λ b. eq_is b 32)
      has.after_spaces _ (start + size) (2 + later) (l.word_within line typed.lower)
      (omega arith)))))) ready.working.wb_there))
      (next (assign (set_variable (sum_of_two (call (argument (global refl refl)
      (argument (local refl) (called (after_is p _ line there (codes "after_word") Ne in_word
      (λ b. ne_is b 32) has.after_word _ later (2 + (later + later_size))
      (l.later_within line typed.lower) (omega arith)))))) (global refl refl)
      (small_difference p.width (2 + (later + later_size)) (2 + later) (omega arith)
      (omega (arith, l.noun_within line typed.lower, typed.short))
      ∙ ap pos noun_length)) ready.working.nb_there))
      (next (assign (set_variable (call (argument (global refl refl) (argument (global refl refl)
      (argument (global refl refl) (called (first_is p with_places word
      (l.word_typed line typed.lower) (2 + start) (length noun) has_word db limits Nouns
      (tables Nouns) has (suc d))))))) refl))
      (next (assign (set_variable (call (argument (local refl) (argument (global refl refl)
      (argument (global refl refl) (argument (global refl refl) (called (heard_verb_is p with_places
      db limits tables has word (l.word_typed line typed.lower) (2 + start) has_word d
      first_number (length noun)))))))) ready.working.vnum_there))
      (next (assign (set_variable (call (argument (local refl) (argument (global refl refl)
      (argument (global refl refl) (argument (global refl refl) (called (heard_noun_is p
      (with_global (codes "vnum") (pos verb_given) with_places) db limits tables has noun
      (l.noun_typed line typed.lower) (2 + later) has_noun (suc d) first_number verb_given)))))))
      ready.working.nnum_there))
      end))))))))) at_end)

  -- ---- what was read

  same_spoken : spoken word (length noun) ≡ spoken word later_size
  same_spoken = ap (spoken word) (l.noun_long line typed.lower)

  same_verb : verb_given ≡ verb
  same_verb = ap (λ (text : List ℕ). verb_by (or_zero (which db Nouns text))
      (or_zero (which db Verbs text))) same_spoken

  same_noun : noun_given ≡ noun_number
  same_noun = ap (λ (text : List ℕ). noun_by (or_zero (which db Nouns text))
      (verb_by (or_zero (which db Nouns text)) (or_zero (which db Verbs text)))
      (or_zero (which db Nouns noun))) same_spoken

  -- a word by its place and its length
  seen : (at n : ℕ) (bytes : List ℕ) → length bytes ≡ n
      → WordSeen (span_of at n) (Some (pos (2 + at))) (Some (pos (length bytes)))
  seen at n bytes long = from (n == 0) refl where
    place : 2 + at ≡ at + 2
    place = omega arith

    from : (t : Bool) → (n == 0) ≡ t → WordSeen (if t then None else Some (at, n))
        (Some (pos (2 + at))) (Some (pos (length bytes)))
    from true is = ap (λ (k : ℕ). Some (pos k)) (long ∙ l.is_zero n is)
    from false is = (ap (λ (k : ℕ). Some (pos k)) place, ap (λ (k : ℕ). Some (pos k)) long)

  -- the stage after `hear` is ready for the same state
  still_ready : Ready db s left
  still_ready = record {
    shows = ready.shows;
    fits = ready.fits;
    tables = ready.tables;
    working = record {
      over_there = ready.working.over_there;
      vnum_there = refl;
      nnum_there = refl;
      wa_there = refl;
      na_there = refl;
      wb_there = refl;
      nb_there = refl;
      buffer = ready.working.buffer;
      buffer_is = ready.working.buffer_is;
      buffer_long = ready.working.buffer_long;
    };
  }

  -- the stage after `hear` stands for the same state, with the second word as the noun
  stands : StandsFor db s noun left
  stands = record {
    ready = still_ready;
    has_noun = record {
      printable = all_printable noun (l.noun_typed line typed.lower);
      at = 2 + later;
      at_is = refl;
      size_is = refl;
      stands = to_bytes noun (2 + later) has_noun.all has_noun.all_are has_noun.stands;
    };
  }

  -- what `hear` leaves is what the rules hear in the line
  words_read : WordsRead db s line w left
  words_read = record {
    verb_is = ap (λ (n : ℕ). Some (pos n))
        (same_verb ∙ sym (verb_of_line db limits line typed.lower));
    noun_is = ap (λ (n : ℕ). Some (pos n))
        (same_noun ∙ sym (noun_of_line db limits line typed.lower));
    first_word = subst (λ (one : Option Span). WordSeen one (Some (pos (2 + start)))
        (Some (pos (length word)))) (sym (l.first_is line typed.lower))
        (seen start size word (l.word_long line typed.lower));
    second_word = subst (λ (two : Option Span). WordSeen two (Some (pos (2 + later)))
        (Some (pos (length noun)))) (sym (l.second_is line typed.lower))
        (seen later later_size noun (l.noun_long line typed.lower));
    stands = subst (λ (text : List ℕ). StandsFor db s text left)
        (sym (l.noun_is line typed.lower)) stands;
    line_stays = has_line;
    past_stays = refl;
    lines_stay = refl;
    draws_stay = refl;
    globals_stay = λ name h. rw (h.0, h.1.0, h.1.1.0, h.1.1.1.0, h.1.1.1.1.0, h.1.1.1.1.1.0) refl;
    arrays_stay = λ name h. refl;
  }

pub lines_are_heard : LinesAreHeard
lines_are_heard db p width limits serves s line w d room typed ready has_line =
    with_room 4 (λ d. Reads db p (codes "hear") s line w d) (λ d. record {
      value = pos 1;
      after = left p db limits reader line typed s w ready has_line;
      does = hear_is p db limits reader line typed s w ready has_line d;
      read = words_read p db limits reader line typed s w ready has_line;
    }) d (omega (arith, room)) where
      reader : HasReader db p
      reader = has_reader width db p serves
