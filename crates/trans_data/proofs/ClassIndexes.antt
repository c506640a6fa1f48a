-- An index of the classes, noun by noun.
use Rattle.std.proofs.Common.{◌≡◌, ◌∙◌, ℕ, suc, ◌+◌, ◌<◌, ◌≤◌, List, ◌∷◌, length, map, drop, get_or, Bool, true, false, cond, Option, None, Some, refl, sym, ap, add-one, drop-cons}
use Rattle.std.proofs.lemmas.List.{drop_all, drop-map, length-map}
use Rattle.std.specs.List.{position_from}
use Rattle.std.specs.Option.{option_or}
use Rattle.std.specs.Prelude.{◌&&◌}
use Rattle.scott_types.specs.declared.parts.Word.{Word}
use Rattle.scott_types.specs.declared.commands.Column.TheVariants.{Nouns}
use Rattle.scott_types.specs.Database.{Database}
use Rattle.scott_rules.specs.Words.{column_of, entries_of, is_typed}
use Rattle.scott_index.specs.WordIndex.{WordIndex, found_in}
use Rattle.trans_specs.specs.Tables.{is_class}
use Rattle.trans_data.specs.Nouns.{class_from, FindsClasses, FindsClassesBefore}

-- a noun is the class of a word, or the word has it after it
class_at : (db : Database) (word : List ℕ) (k : ℕ) (w : Word) → k < length db.words
    → w ≡ get_or db.words k w
    → class_from db word k
    ≡ cond (is_class w.noun && is_typed db.header.length w.noun word) (Some k)
    (class_from db word (k + 1))
class_at db word k w there is =
    let is_named : List ℕ → Bool = λ noun. is_class noun && is_typed db.header.length noun word in
    ap (position_from is_named k) (drop-map (column_of Nouns) k db.words
    ∙ ap (map (column_of Nouns)) (drop-cons db.words k w there
    ∙ ap (λ x. x ∷ drop (suc k) db.words) (sym is)))
    ∙ ap (λ n. position_from is_named k (w.noun ∷ map (column_of Nouns) (drop n db.words)))
    (sym (add-one k))
    ∙ ap (λ nouns. position_from is_named k (w.noun ∷ nouns))
    (sym (drop-map (column_of Nouns) (k + 1) db.words))

-- what was found, then what is added, then what is found after it
found_or : (found rest : Option ℕ) (k : ℕ) (names : Bool)
    → option_or (option_or found (cond names (Some k) None)) rest
    ≡ option_or found (cond names (Some k) rest)
found_or (Some n) rest k names = refl
found_or None rest k true = refl
found_or None rest k false = refl

-- with noun k an index has all classes up to it
pub finds_further : (db : Database) (k : ℕ) (w : Word) (old new : WordIndex)
    → k < length db.words → w ≡ get_or db.words k w → old.size ≡ db.header.length
    → ((word : List ℕ) → found_in new word ≡ option_or (found_in old word)
    (cond (is_class w.noun && is_typed old.size w.noun word) (Some k) None))
    → FindsClassesBefore db k old → FindsClassesBefore db (k + 1) new
finds_further db k w old new there is size added finds = λ word.
    let rest = class_from db word (k + 1) in
    ap (λ o. option_or o rest) (added word)
    ∙ ap (λ n. option_or (option_or (found_in old word)
    (cond (is_class w.noun && is_typed n w.noun word) (Some k) None)) rest) size
    ∙ found_or (found_in old word) rest k
    (is_class w.noun && is_typed db.header.length w.noun word)
    ∙ ap (option_or (found_in old word)) (sym (class_at db word k w there is))
    ∙ finds word

or_none : (found : Option ℕ) → found ≡ option_or found None
or_none None = refl
or_none (Some n) = refl

-- after the last noun it has all classes
pub finds_all : (db : Database) (k : ℕ) (index : WordIndex) → length db.words ≤ k
    → FindsClassesBefore db k index → FindsClasses db index
finds_all db k index past finds = λ word.
    or_none (found_in index word)
    ∙ ap (λ nouns. option_or (found_in index word) (position_from
    (λ noun. is_class noun && is_typed db.header.length noun word) k nouns))
    (sym (drop_all k (entries_of db Nouns) (rw (length-map db.words (column_of Nouns)) past)))
    ∙ finds word
