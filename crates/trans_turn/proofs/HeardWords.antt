-- What is heard in a line, and where its first word stands.
use Rattle.std.proofs.Common.{◌≡◌, arith, ℕ, ◌+◌, ◌<◌, ◌≤◌, ◌==◌, Bool, true, false, not, unwrap_or, if◌then◌else◌, List, drop, length, Option, Some, None, refl, ap, subst}
use Rattle.std.specs.Prelude.{MatchOption}
use Rattle.std.specs.List.{prefix_len}
use Rattle.std.proofs.lemmas.List.{length-map, length-drop}
use Rattle.std.proofs.lemmas.List.Sums.{prefix_len-le-length}
use Rattle.std.proofs.lemmas.List.Folds.{length-prefix_len}
use Rattle.scott_types.specs.declared.commands.Column.{Column}
use Rattle.scott_types.specs.declared.commands.Column.TheVariants.{Verbs, Nouns}
use Rattle.scott_types.specs.declared.commands.Heard.{Heard}
use Rattle.scott_types.specs.declared.commands.Heard.TheVariants.{Blank, Unknown, Command}
use Rattle.scott_types.specs.Database.{Database}
use Rattle.scott_rules.specs.Words.{column_of, entries_of, which}
use Rattle.scott_rules.specs.Commands.{is_space, Span, split, word_at, go_verb, is_direction, by_verb, by_direction, noun_named, first_word, heard_words, heard}
use Rattle.scott_rules.specs.Laws.{EntryMatches, IsLeastMatch, WordNamesLeastMatch}
use Rattle.trans_specs.specs.CommandSpecs.{IsNoun}

-- ---- what can be heard, by the first word

pub data IsHeard (db : Database) : Option Span → Heard → Type 0 where
  blank : IsHeard db None Blank
  unknown : (span : Span) → IsHeard db (Some span) (Unknown span.0 span.1)
  command : (span : Span) (verb : ℕ) (noun : Option ℕ) → 0 < verb → IsNoun db noun
      → IsHeard db (Some span) (Command verb noun)

module _ (law : WordNamesLeastMatch) (db : Database) where
  -- an entry that a word names is one from 1 on
  named : (column : Column) (word : List ℕ) (k : ℕ) → which db column word ≡ Some k
      → IsNoun db (Some k)
  named column word k is = (match.base.counted, few) where
    match : IsLeastMatch db.header.length (entries_of db column) word k
    match = subst (λ (o : Option ℕ). MatchOption o
        ((k : ℕ) → ¬ (EntryMatches db.header.length (entries_of db column) word k))
        (λ answer. IsLeastMatch db.header.length (entries_of db column) word answer)) is
        (law db column word)

    few : k < length db.words
    few = omega (
      arith,
      match.base.before,
      match.matches.there,
      length-map db.words (column_of column),
    )

  noun_is : (column : Column) (word : List ℕ) (o : Option ℕ) → which db column word ≡ o
      → IsNoun db o
  noun_is column word None is = tt
  noun_is column word (Some k) is = named column word k is

  second_is : (line : List ℕ) (second : Option Span) → IsNoun db (noun_named db line second)
  second_is line None = tt
  second_is line (Some span) = noun_is Nouns (word_at line span)
      (which db Nouns (word_at line span)) refl

  -- by what the first word names, a command is heard, or that word is unknown
  by_words : (line word : List ℕ) (span : Span) (second : Option Span) (noun verb : Option ℕ)
      → which db Nouns word ≡ noun → which db Verbs word ≡ verb
      → IsHeard db (Some span)
      (by_direction noun (by_verb span verb (noun_named db line second)))
  by_words line word span second noun verb noun_was verb_was = go noun noun_was where
    otherwise : (verb : Option ℕ) → which db Verbs word ≡ verb
        → IsHeard db (Some span) (by_verb span verb (noun_named db line second))
    otherwise None is = unknown span
    otherwise (Some k) is =
        command span k (noun_named db line second) (named Verbs word k is).0 (second_is line second)

    directed : (k : ℕ) → which db Nouns word ≡ Some k → (b : Bool)
        → IsHeard db (Some span) (if b then Command go_verb (Some k)
        else by_verb span verb (noun_named db line second))
    directed k is true = command span go_verb (Some k) (omega arith) (named Nouns word k is)
    directed k is false = otherwise verb verb_was

    go : (noun : Option ℕ) → which db Nouns word ≡ noun
        → IsHeard db (Some span) (by_direction noun
        (by_verb span verb (noun_named db line second)))
    go None is = otherwise verb verb_was
    go (Some k) is = directed k is (is_direction k)

  by_first : (line : List ℕ) (first second : Option Span)
      → IsHeard db first (heard_words db line first second)
  by_first line None second = blank
  by_first line (Some span) second = let word : List ℕ = first_word line span second in
      by_words line word span second (which db Nouns word) (which db Verbs word) refl refl

  pub is_heard : (line : List ℕ) → IsHeard db (split line).first (heard db line)
  is_heard line = by_first line (split line).first (split line).second

-- ---- the first word

-- it has a length, and stands within the line
pub record IsWord (line : List ℕ) (span : Span) : Type 0 where
  pub size_is : length (word_at line span) ≡ span.1
  pub some : 0 < span.1
  pub start_few : span.0 ≤ length line
  pub size_few : span.1 ≤ length line

abbrev is_solid : ℕ → Bool
is_solid byte = not (is_space byte)

-- a span that is found from a start on is that of a word of the line
from_span : (line : List ℕ) (start : ℕ) → start ≤ length line → (b : Bool)
    → (prefix_len is_solid (drop start line) == 0) ≡ b → (span : Span)
    → (if b then None else Some (start, prefix_len is_solid (drop start line))) ≡ Some span
    → IsWord line span
from_span line start few true zero span is = cc
from_span line start few false some span is = subst (IsWord line) (some_is is) (record {
  size_is = length-prefix_len is_solid (drop start line);
  some = grind (arith, some);
  start_few = few;
  size_few = omega (
    arith,
    prefix_len-le-length is_solid (drop start line),
    length-drop start line,
  );
}) where
  some_is : {a b : Span} → Some a ≡ Some b → a ≡ b
  some_is {a} h = ap (λ (o : Option Span). unwrap_or o a) h

pub first_is_word : (line : List ℕ) (span : Span) → (split line).first ≡ Some span
    → IsWord line span
first_is_word line span is = from_span line (0 + prefix_len is_space (drop 0 line))
    (omega (arith, prefix_len-le-length is_space line))
    (prefix_len is_solid (drop (0 + prefix_len is_space (drop 0 line)) line) == 0) refl span is
