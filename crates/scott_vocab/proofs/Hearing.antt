-- A line whose first word isn't known.
use Rattle.std.proofs.Common.{◌≡◌, ◌∙◌, ℕ, List, Option, Some, None, sym, ap}
use Rattle.scott_types.specs.declared.commands.Column.TheVariants.{Verbs, Nouns}
use Rattle.scott_types.specs.declared.commands.Heard.{Heard}
use Rattle.scott_types.specs.declared.commands.Heard.TheVariants.{Unknown}
use Rattle.scott_types.specs.declared.commands.Words.{Words}
use Rattle.scott_types.specs.Database.{Database}
use Rattle.scott_rules.specs.Words.{which}
use Rattle.scott_rules.specs.Commands.{Span, split, first_word, by_direction, by_verb, noun_named, heard, heard_words}

-- a first word that is neither a direction nor a verb is heard as a word that isn't known
pub unknown_heard : (db : Database) (line word : List ℕ) (words : Words) (span : Span) (noun : Option ℕ) → words ≡ split line → words.first ≡ Some span
    → word ≡ first_word line span words.second → noun ≡ which db Nouns word → ((other : Heard) → by_direction noun other ≡ other) → None ≡ which db Verbs word
    → Unknown span.0 span.1 ≡ heard db line
unknown_heard db line word words span noun by_line first is named undirected unknown =
    let other = noun_named db line words.second in
    sym (undirected (Unknown span.0 span.1))
    ∙ ap (λ n. by_direction n (Unknown span.0 span.1)) named
    ∙ ap (λ verb. by_direction (which db Nouns word) (by_verb span verb other)) unknown
    ∙ ap (λ w. by_direction (which db Nouns w) (by_verb span (which db Verbs w) other)) is
    ∙ ap (λ f. heard_words db line f words.second) (sym first)
    ∙ ap (λ (ws : Words). heard_words db line ws.first ws.second) by_line
