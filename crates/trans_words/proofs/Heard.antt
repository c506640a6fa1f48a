-- What is heard, by what the two words name.
use Rattle.std.proofs.Common.{◌≡◌, ◌∙◌, arith, ℕ, ◌+◌, ◌≤◌, ◌==◌, nat_eq, Bool, true, false, if◌then◌else◌, List, [], ◌∷◌, take, drop, Option, Some, None, IfSome, is_some, refl, sym, ap}
use Rattle.std.specs.Prelude.{◌&&◌}
use Rattle.std.specs.List.{list_all}
use Rattle.adv_io.specs.TypedLine.{is_line_byte}
use Rattle.scott_types.specs.declared.commands.Column.{Column}
use Rattle.scott_types.specs.declared.commands.Column.TheVariants.{Verbs, Nouns}
use Rattle.scott_types.specs.declared.commands.Heard.{Heard}
use Rattle.scott_types.specs.declared.commands.Heard.TheVariants.{Unknown, Command}
use Rattle.scott_types.specs.Database.{Database}
use Rattle.scott_types.specs.Limits.{KeepsLimits}
use Rattle.scott_types.specs.ItemText.{is_starred}
use Rattle.scott_rules.specs.Words.{is_typed, spelling, entries_of, entry_from, which}
use Rattle.scott_rules.specs.Commands.{Span, span_of, split, is_direction, whole_word, noun_named, first_word, by_verb, by_direction, heard_words, heard}
use Rattle.trans_specs.specs.Tables.{or_zero}
use Rattle.trans_specs.specs.WordSpecs.{verb_heard, noun_heard}
use Rattle.trans_words.proofs.Splitting.{start, size, later, later_size, word, noun, first_is, second_is, is_zero}
use Rattle.trans_words.proofs.Tables.{nothing_named}
use Rattle.trans_words.proofs.First.{spoken}

-- the verb and the noun, by the noun and the verb that the first word names, and the noun that the
-- second one names, each 0 for none
abbrev pub verb_by : ℕ → ℕ → ℕ
verb_by x v = if is_direction x then 1 else v

abbrev pub noun_by : ℕ → ℕ → ℕ → ℕ
noun_by x v y = if nat_eq v 0 then 0 else if is_direction x then x else y

-- ---- what is named is an entry from 1 on

-- the base entry that a word names is 1 at least, where the entries are numbered from 1 on
counted_from : (size : ℕ) (word : List ℕ) (base : Option ℕ) (k : ℕ) (entries : List (List ℕ))
    → 1 ≤ k → IfSome base (λ n. 1 ≤ n) → IfSome (entry_from size word base k entries) (λ n. 1 ≤ n)
counted_from size word base k [] one h = tt
counted_from size word base k (text ∷ entries) one h =
    pick (if is_starred text then base else Some k) (is_typed size (spelling text) word)
    (nearest (is_starred text)) (counted_from size word (if is_starred text then base else Some k)
    (k + 1) entries (omega arith) (nearest (is_starred text))) where
      nearest : (t : Bool) → IfSome (if t then base else Some k) (λ n. 1 ≤ n)
      nearest true = h
      nearest false = one

      pick : (o : Option ℕ) (t : Bool) → IfSome o (λ n. 1 ≤ n)
          → IfSome (entry_from size word o (k + 1) entries) (λ n. 1 ≤ n)
          → IfSome (if t && is_some o then o else entry_from size word o (k + 1) entries)
          (λ n. 1 ≤ n)
      pick None true some more = more
      pick None false some more = more
      pick (Some n) true some more = some
      pick (Some n) false some more = more

named_counts : (db : Database) (column : Column) (word : List ℕ)
    → IfSome (which db column word) (λ n. 1 ≤ n)
named_counts db column word = counted_from db.header.length word None 1
    (drop 1 (entries_of db column)) (omega arith) tt

-- ---- by cases

-- the verb that is heard is go for a direction, and else what the first word names as a verb
verb_is : (span : Span) (x v y : Option ℕ) → verb_heard (by_direction x (by_verb span v y))
    ≡ verb_by (or_zero x) (or_zero v)
verb_is span None None y = refl
verb_is span None (Some v) y = refl
verb_is span (Some x) None y = from (is_direction x) where
  from : (t : Bool) → verb_heard (if t then Command 1 (Some x) else Unknown span.0 span.1)
      ≡ (if t then 1 else 0)
  from true = refl
  from false = refl
verb_is span (Some x) (Some v) y = from (is_direction x) where
  from : (t : Bool) → verb_heard (if t then Command 1 (Some x) else Command v y)
      ≡ (if t then 1 else v)
  from true = refl
  from false = refl

some_not_none : (n : ℕ) → 1 ≤ n → nat_eq n 0 ≡ false
some_not_none n h = grind (arith, h)

-- the noun that is heard is none without a verb, and else the direction, or what the second word
-- names
noun_is : (span : Span) (x v y : Option ℕ) → IfSome v (λ n. 1 ≤ n)
    → noun_heard (by_direction x (by_verb span v y))
    ≡ noun_by (or_zero x) (verb_by (or_zero x) (or_zero v)) (or_zero y)
noun_is span None None y h = refl
noun_is span None (Some v) y h = rw (some_not_none v h) refl
noun_is span (Some x) None y h = from (is_direction x) where
  from : (t : Bool) → noun_heard (if t then Command 1 (Some x) else Unknown span.0 span.1)
      ≡ (if nat_eq (if t then 1 else 0) 0 then 0 else if t then x else or_zero y)
  from true = refl
  from false = refl
noun_is span (Some x) (Some v) y h = from (is_direction x) where
  from : (t : Bool) → noun_heard (if t then Command 1 (Some x) else Command v y)
      ≡ (if nat_eq (if t then 1 else v) 0 then 0 else if t then x else or_zero y)
  from true = refl
  from false = rw (some_not_none v h) refl

-- ---- a line

-- nothing is named by no first word
spoken_none : (m : ℕ) → spoken [] m ≡ []
spoken_none m = from (nat_eq m 0) where
  from : (t : Bool) → (if t then whole_word [] else []) ≡ []
  from true = refl
  from false = refl

module _ (db : Database) (limits : KeepsLimits db) (line : List ℕ)
    (lower : list_all is_line_byte line ≡ true) where
  abbrev first : List ℕ
  first = spoken (word line lower) (later_size line lower)

  abbrev by_first : Column → ℕ
  by_first column = or_zero (which db column first)

  abbrev second : Option Span
  second = span_of (later line lower) (later_size line lower)

  abbrev by_second : ℕ
  by_second = or_zero (which db Nouns (noun line lower))

  -- the verb and the noun of the line
  abbrev pub line_verb : ℕ
  line_verb = verb_by (by_first Nouns) (by_first Verbs)

  abbrev pub line_noun : ℕ
  line_noun = noun_by (by_first Nouns) line_verb by_second

  -- what is heard, by the places of the words
  places : heard db line
      ≡ heard_words db line (span_of (start line lower) (size line lower)) second
  places = ap (λ (one : Option Span). heard_words db line one (split line).second)
      (first_is line lower)
      ∙ ap (heard_words db line (span_of (start line lower) (size line lower)))
      (second_is line lower)

  none_named : size line lower ≡ 0 → (column : Column) → by_first column ≡ 0
  none_named none column = ap (λ (text : List ℕ). or_zero (which db column text))
      (ap (λ (n : ℕ). spoken (take n (drop (start line lower) line)) (later_size line lower)) none
      ∙ spoken_none (later_size line lower)) ∙ ap or_zero (nothing_named db column limits)

  -- the second word
  second_named : or_zero (noun_named db line second) ≡ by_second
  second_named = from (later_size line lower == 0) refl where
    from : (t : Bool) → (later_size line lower == 0) ≡ t → or_zero (noun_named db line
        (if t then None else Some (later line lower, later_size line lower))) ≡ by_second
    from true is = sym (ap (λ (n : ℕ). or_zero (which db Nouns
        (take n (drop (later line lower) line)))) (is_zero (later_size line lower) is)
        ∙ ap or_zero (nothing_named db Nouns limits))
    from false is = refl

  -- the first word as it is looked up
  first_spoken : first_word line (start line lower, size line lower) second ≡ first
  first_spoken = from (later_size line lower == 0) where
    from : (t : Bool) → first_word line (start line lower, size line lower)
        (if t then None else Some (later line lower, later_size line lower))
        ≡ (if t then whole_word (word line lower) else word line lower)
    from true = refl
    from false = refl

  -- with a first word
  abbrev command : Heard
  command = by_direction (which db Nouns first)
      (by_verb (start line lower, size line lower) (which db Verbs first)
      (noun_named db line second))

  some_word : heard_words db line (Some (start line lower, size line lower)) second ≡ command
  some_word = ap (λ (text : List ℕ). by_direction (which db Nouns text)
      (by_verb (start line lower, size line lower) (which db Verbs text)
      (noun_named db line second))) first_spoken

  pub verb_of_line : verb_heard (heard db line) ≡ line_verb
  verb_of_line = ap verb_heard places ∙ from (size line lower == 0) refl where
    from : (t : Bool) → (size line lower == 0) ≡ t → verb_heard (heard_words db line
        (if t then None else Some (start line lower, size line lower)) second) ≡ line_verb
    from true is =
        let none = none_named (is_zero (size line lower) is) in
        sym (ap (λ (x : ℕ). verb_by x (by_first Verbs)) (none Nouns) ∙ ap (verb_by 0) (none Verbs))
    from false is = ap verb_heard some_word
        ∙ verb_is (start line lower, size line lower) (which db Nouns first) (which db Verbs first)
        (noun_named db line second)

  -- the noun that is heard in a line is told by what its two words name
  pub noun_of_line : noun_heard (heard db line) ≡ line_noun
  noun_of_line = ap noun_heard places ∙ from (size line lower == 0) refl where
    from : (t : Bool) → (size line lower == 0) ≡ t → noun_heard (heard_words db line
        (if t then None else Some (start line lower, size line lower)) second) ≡ line_noun
    from true is =
        let none = none_named (is_zero (size line lower) is) in
        sym (ap (λ (x : ℕ). noun_by x (verb_by x (by_first Verbs)) by_second) (none Nouns)
        ∙ ap (λ (v : ℕ). noun_by 0 (verb_by 0 v) by_second) (none Verbs))
    from false is = ap noun_heard some_word
        ∙ noun_is (start line lower, size line lower) (which db Nouns first) (which db Verbs first)
        (noun_named db line second) (named_counts db Verbs first)
        ∙ ap (noun_by (by_first Nouns) line_verb) second_named
