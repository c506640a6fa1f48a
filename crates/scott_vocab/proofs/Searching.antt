-- One entry of the vocabulary after another.
use Rattle.std.proofs.Common.{◌≡◌, ◌∙◌, ℕ, suc, ◌+◌, ◌<◌, List, [], ◌∷◌, length, map, drop, get_or, Bool, true, false, cond, Option, Some, None, IfSome, sym, ap, subst, arith, add-one, drop-cons}
use Rattle.std.specs.Prelude.{◌&&◌, is_some, if◌then◌else◌}
use Rattle.std.proofs.lemmas.List.{drop-map, length-map}
use Rattle.scott_types.specs.declared.parts.Word.{Word}
use Rattle.scott_types.specs.declared.commands.Column.{Column}
use Rattle.scott_types.specs.ItemText.{is_starred}
use Rattle.scott_types.specs.Database.{Database}
use Rattle.scott_rules.specs.Words.{column_of, entry_from, is_typed, spelling, which}
use Rattle.scott_vocab.specs.Found.{which_from}
use Rattle.scott_vocab.specs.Heard.{IsEntry}

-- the entries from k on begin with that of the word at k
entries_from : (f : Word → List ℕ) (words : List Word) (k : ℕ) (w : Word) → k < length words → w ≡ get_or words k w → drop k (map f words) ≡ f w ∷ drop (k + 1) (map f words)
entries_from f words k w h e =
    drop-map f k words
    ∙ ap (map f) (drop-cons words k w h ∙ ap (λ x. x ∷ drop (suc k) words) (sym e))
    ∙ ap (λ n. f w ∷ map f (drop n words)) (sym (add-one k))
    ∙ ap (λ xs. f w ∷ xs) (sym (drop-map f (k + 1) words))

-- what a word names from entry k on: the base entry that this one stands for where the word matches
-- it, or what it names after it
pub which_from-at : (db : Database) (column : Column) (word : List ℕ) (base : Option ℕ) (k : ℕ) (w : Word) (text : List ℕ) (nearest : Option ℕ)
    → k < length db.words → w ≡ get_or db.words k w
    → text ≡ column_of column w
    → nearest ≡ cond (is_starred text) base (Some k)
    → which_from db column word base k
    ≡ cond (is_typed db.header.length (spelling text) word && is_some nearest) nearest (which_from db column word nearest (k + 1))
which_from-at db column word base k w text nearest there is by_column by_mark =
    rw (by_mark, by_column) (ap (entry_from db.header.length word base k) (entries_from (column_of column) db.words k w there is))

-- a word names the base entry of this one, where it matches it
pub found_here : (here : Bool) (base others from all : Option ℕ) → true ≡ here → from ≡ cond here base others → from ≡ all → base ≡ all
found_here here base others from all matched one found = sym (one ∙ ap (λ b. cond b base others) (sym matched)) ∙ found

-- ---- what is found is there

-- one more entry, where the nearest base entry stands before the next
found-there : (starred names : Bool) (base : Option ℕ) (k : ℕ) (rest : Option ℕ → Option ℕ) (end : ℕ) → IfSome base (λ p. p < k) → k < end
    → ((nearest : Option ℕ) → IfSome nearest (λ p. p < k + 1) → IfSome (rest nearest) (λ n. n < end))
    → IfSome (let nearest = if starred then base else Some k in if names && is_some nearest then nearest else rest nearest) (λ n. n < end)
found-there true true None k rest end before within others = others None tt
found-there true true (Some p) k rest end before within others = omega (arith, before, within)
found-there true false None k rest end before within others = others None tt
found-there true false (Some p) k rest end before within others = others (Some p) (omega (arith, before))
found-there false true base k rest end before within others = within
found-there false false base k rest end before within others = others (Some k) (omega arith)

entry_from-there : (size : ℕ) (word : List ℕ) (base : Option ℕ) (k : ℕ) (entries : List (List ℕ)) → IfSome base (λ p. p < k) → IfSome (entry_from size word base k entries) (λ n. n < k + length entries)
entry_from-there size word base k [] before = tt
entry_from-there size word base k (entry ∷ entries) before =
    found-there (is_starred entry) (is_typed size (spelling entry) word) base k (λ nearest. entry_from size word nearest (k + 1) entries) (k + length (entry ∷ entries)) before (omega arith)
    (λ nearest before. subst (λ end. IfSome (entry_from size word nearest (k + 1) entries) (λ n. n < end)) (omega arith) (entry_from-there size word nearest (k + 1) entries before))

named-there : (size : ℕ) (word : List ℕ) (column : Column) (words : List Word) → IfSome (entry_from size word None 1 (drop 1 (map (column_of column) words))) (λ n. n < length words)
named-there size word column [] = tt
named-there size word column (w ∷ words) =
    subst (λ end. IfSome (entry_from size word None 1 (map (column_of column) words)) (λ n. n < end)) (omega (arith, length-map words (column_of column)))
    (entry_from-there size word None 1 (map (column_of column) words) tt)

-- what a word names is an entry of the vocabulary
pub named_is_there : (db : Database) (column : Column) (word : List ℕ) (found : Option ℕ) → found ≡ which db column word → IsEntry db found
named_is_there db column word found is = subst (IsEntry db) (sym is) (named-there db.header.length word column db.words)
