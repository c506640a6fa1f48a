-- What the names of a source stand for.
use Rattle.std.specs.Prelude.{ℕ, ◌+◌, ℤ, pos, Bool, false, if◌then◌else◌, List, [], ◌∷◌, map, drop, Option, Some, None}
use Rattle.std.specs.Str.{bytes_eq}
use Rattle.source_reader.specs.declared.tree.At.{At}
use Rattle.source_reader.specs.declared.tree.WordPart.{WordPart}
use Rattle.source_reader.specs.declared.tree.Source.{Source}
use Rattle.adv_compiler.specs.declared.names.Key.{Key}
use Rattle.adv_compiler.specs.declared.names.Key.TheVariants.{Name, Verb, Noun}

-- whether a name is this word
abbrev pub has_name : List ℕ → Option (List ℕ) → Bool
has_name word (Some name) = bytes_eq word name
has_name word None = false

-- the number of the first entry with this name, where the first of these names is entry k's
abbrev pub named_from : List (Option (List ℕ)) → ℕ → List ℕ → Option ℤ
named_from [] k word = None
named_from (name ∷ names) k word =
    if has_name word name then Some (pos k) else named_from names (k + 1) word

-- the name of an entry
abbrev pub title_of : Option (At (List ℕ)) → Option (List ℕ)
title_of (Some name) = Some name.what
title_of None = None

-- the text by which a word's verb or noun is found
abbrev pub column_of : Key → WordPart → Option (List ℕ)
column_of Verb w = Some w.verb
column_of Noun w = Some w.noun
column_of Name w = None

-- what each name is found as: rooms, messages and items by their names, verbs and nouns by their
-- texts
pub record Known : Type 0 where
  pub rooms : List ℕ → Option ℤ
  pub messages : List ℕ → Option ℤ
  pub items : List ℕ → Option ℤ
  pub verbs : List ℕ → Option ℤ
  pub nouns : List ℕ → Option ℤ

-- the names of the lists; of the vocabulary entry 0 is never found
abbrev pub known_of : Source → Known
known_of tree = record {
  rooms = named_from (map (λ e. title_of e.what.name) tree.rooms.entries) 0;
  messages = named_from (map (λ e. title_of e.what.name) tree.messages.entries) 0;
  items = named_from (map (λ e. title_of e.what.name) tree.items.entries) 0;
  verbs = named_from (map (λ e. column_of Verb e.what) (drop 1 tree.words.entries)) 1;
  nouns = named_from (map (λ e. column_of Noun e.what) (drop 1 tree.words.entries)) 1;
}
