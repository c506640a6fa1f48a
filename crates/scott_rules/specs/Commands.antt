-- What a line means: its words, and the command that they are.
use Rattle.std.specs.Prelude.{ℕ, ◌+◌, ◌==◌, ◌&&◌, Bool, not, List, [], take, drop, nat_lt, nat_le, codes, bytes_eq, Option, Some, None, is_none, if◌then◌else◌}
use Rattle.std.specs.List.{prefix_len}
use Rattle.adv_io.specs.Text.{space}
use Rattle.scott_types.specs.declared.verbs.TheConstants.{GO, GET, DROP, LAST_DIRECTION}
use Rattle.scott_types.specs.declared.commands.Column.TheVariants.{Verbs, Nouns}
use Rattle.scott_types.specs.declared.commands.Words.{Words}
use Rattle.scott_types.specs.declared.commands.Heard.{Heard}
use Rattle.scott_types.specs.declared.commands.Heard.TheVariants.{Blank, Unknown, Command}
use Rattle.scott_types.specs.Database.{Database}
use Rattle.scott_rules.specs.Words.{which}

-- ---- the words of a line

abbrev pub is_space : ℕ → Bool
is_space byte = byte == space

-- where a word stands: its start and its length
abbrev pub Span : Type 0
Span = ℕ × ℕ

abbrev pub word_at : List ℕ → Span → List ℕ
word_at line span = take span.1 (drop span.0 line)

-- a word of no length is none
abbrev pub span_of : ℕ → ℕ → Option Span
span_of start size = if size == 0 then None else Some (start, size)

-- the first word at or after a place
abbrev pub next_word : List ℕ → ℕ → Option Span
next_word line at =
    let start = at + prefix_len is_space (drop at line) in
    span_of start (prefix_len (λ byte. not (is_space byte)) (drop start line))

abbrev pub word_after : List ℕ → Option Span → Option Span
word_after line None = None
word_after line (Some span) = next_word line (span.0 + span.1)

-- the first two words; later ones are ignored
abbrev pub split : List ℕ → Words
split line = record { first = next_word line 0; second = word_after line (next_word line 0) }

abbrev pub word_or_none : List ℕ → Option Span → List ℕ
word_or_none line None = []
word_or_none line (Some span) = word_at line span

-- the second word as it was typed, or nothing
abbrev pub typed_noun : List ℕ → List ℕ
typed_noun line = word_or_none line (split line).second

-- ---- the command

-- a direction or the inventory by its letter; any other word is itself
abbrev pub whole_word : List ℕ → List ℕ
whole_word word =
    if bytes_eq word (codes "n") then codes "north" else
    if bytes_eq word (codes "s") then codes "south" else
    if bytes_eq word (codes "e") then codes "east" else
    if bytes_eq word (codes "w") then codes "west" else
    if bytes_eq word (codes "u") then codes "up" else
    if bytes_eq word (codes "d") then codes "down" else
    if bytes_eq word (codes "i") then codes "inventory" else word

-- the verb that goes somewhere, the one that takes and the one that drops
abbrev pub go_verb : ℕ
go_verb = GO

abbrev pub get_verb : ℕ
get_verb = GET

abbrev pub drop_verb : ℕ
drop_verb = DROP

-- the nouns 1 to 6 are the directions
abbrev pub is_direction : ℕ → Bool
is_direction noun = nat_lt 0 noun && nat_le noun LAST_DIRECTION

abbrev pub by_verb : Span → Option ℕ → Option ℕ → Heard
by_verb span None noun = Unknown span.0 span.1
by_verb span (Some verb) noun = Command verb noun

-- a first word that is a direction is going there; otherwise it is the verb
abbrev pub by_direction : Option ℕ → Heard → Heard
by_direction None otherwise = otherwise
by_direction (Some noun) otherwise =
    if is_direction noun then Command go_verb (Some noun) else otherwise

abbrev pub noun_named : Database → List ℕ → Option Span → Option ℕ
noun_named db line None = None
noun_named db line (Some span) = which db Nouns (word_at line span)

abbrev pub first_word : List ℕ → Span → Option Span → List ℕ
first_word line span second =
    if is_none second then whole_word (word_at line span) else word_at line span

abbrev pub heard_words : Database → List ℕ → Option Span → Option Span → Heard
heard_words db line None second = Blank
heard_words db line (Some span) second =
    let word = first_word line span second in
    by_direction (which db Nouns word)
    (by_verb span (which db Verbs word) (noun_named db line second))

abbrev pub heard : Database → List ℕ → Heard
heard db line = heard_words db line (split line).first (split line).second
