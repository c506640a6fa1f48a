-- The item that a noun names, by the classes of nouns and items.
use Rattle.std.proofs.Common.{◌≡◌, ◌∙◌, arith, ℕ, zero, suc, ◌+◌, ◌<◌, ◌≤◌, pos, nat_eq, Bool, true, false, not, ◌&&◌, cond, if◌then◌else◌, List, [], ◌∷◌, map, take, drop, length, slice_get, bytes_eq, Option, Some, None, refl, sym, ap}
use Rattle.std.specs.Prelude.{slice_index_or}
use Rattle.std.specs.List.{position_from}
use Rattle.std.specs.Char.{to_ascii_lowercase}
use Rattle.std.proofs.lemmas.Bool.{and_parts}
use Rattle.std.proofs.lemmas.List.{length-map}
use Rattle.scott_types.specs.declared.states.State.{State}
use Rattle.scott_types.specs.declared.parts.Item.{Item}
use Rattle.scott_types.specs.declared.commands.Column.TheVariants.{Nouns}
use Rattle.scott_types.specs.declared.endings.Transfer.{Transfer}
use Rattle.scott_types.specs.Database.{Database}
use Rattle.scott_types.specs.ItemText.{is_starred, between_slashes, get_word}
use Rattle.scott_types.specs.Limits.{KeepsLimits}
use Rattle.scott_rules.specs.Words.{is_empty, is_typed, entries_of, column_of, root}
use Rattle.scott_rules.specs.Transfer.{is_at_hand, item_named}
use Rattle.trans_specs.specs.Tables.{or_zero, guarded, item_word, is_class, class_of, class_of_noun, classes}
use Rattle.trans_specs.specs.Views.{naturals}
use Rattle.trans_specs.specs.Laws.{ClassesTell}
use Rattle.trans_commands.proofs.Tabled.{tabled_at}

-- ---- words that aren't typed

-- no class matches the empty word
untyped : (size : ℕ) (noun : List ℕ) → 1 ≤ size → is_class noun && is_typed size noun [] ≡ false
untyped zero noun some = absurd (omega (arith, some))
untyped (suc n) [] some = refl
untyped (suc n) (byte ∷ noun) some = by (is_class (byte ∷ noun)) where
  by : (b : Bool) → b && false ≡ false
  by true = refl
  by false = refl

none_found : (size : ℕ) (i : ℕ) (nouns : List (List ℕ)) → 1 ≤ size
    → position_from (λ noun. is_class noun && is_typed size noun []) i nouns ≡ None
none_found size i [] some = refl
none_found size i (noun ∷ nouns) some =
    ap (λ b. cond b (Some i)
    (position_from (λ noun. is_class noun && is_typed size noun []) (i + 1) nouns))
    (untyped size noun some) ∙ none_found size (i + 1) nouns some

-- the word of an item has no star before it
unstarred : (xs : List ℕ) → is_starred (if is_starred xs then [] else xs) ≡ false
unstarred xs = by (is_starred xs) refl where
  by : (b : Bool) → is_starred xs ≡ b → is_starred (if b then [] else xs) ≡ false
  by true h = refl
  by false h = h

other_letter : (n : ℕ) → nat_eq n 42 ≡ false → nat_eq (to_ascii_lowercase n) 42 ≡ false
other_letter n h = grind arith

-- so it is never typed as a synonym stands in its entry
starred_untyped : (size : ℕ) (word noun : List ℕ) → 1 ≤ size → is_starred word ≡ false
    → is_starred noun ≡ true → is_typed size word noun ≡ false
starred_untyped zero word noun some plain starred = absurd (omega (arith, some))
starred_untyped (suc n) [] noun some plain starred = refl
starred_untyped (suc n) (x ∷ xs) [] some plain starred = cc
starred_untyped (suc n) (x ∷ xs) (y ∷ ys) some plain starred =
    let star : y ≡ 42 = grind (arith, starred) in
    let other : nat_eq (to_ascii_lowercase x) (to_ascii_lowercase y) ≡ false =
    ap (λ y. nat_eq (to_ascii_lowercase x) (to_ascii_lowercase y)) star ∙ other_letter x plain in
    ap (λ b. b
    && bytes_eq (map to_ascii_lowercase (take n xs)) (map to_ascii_lowercase (take n ys))) other

-- ---- the item

module _ (db : Database) (t : Transfer) (s : State) where
  -- the least item from i on that is at hand and has this class
  abbrev pub classed : ℕ → ℕ → List Item → Option ℕ
  classed c i [] = None
  classed c i (item ∷ items) =
      if is_at_hand t s i && nat_eq (class_of db (item_word item)) c then Some i else
      classed c (i + 1) items

  -- no item is found by a noun that none is typed as
  no_item : (size : ℕ) (noun : List ℕ) → ((item : Item)
      → not (is_empty noun) && is_typed size (get_word item.text) noun ≡ false) → (i : ℕ)
      (items : List Item) → item_named t size noun i items s ≡ None
  no_item size noun none i [] = refl
  no_item size noun none i (item ∷ items) =
      by (is_at_hand t s i)
      (not (is_empty noun) && is_typed size (get_word item.text) noun) (none item)
      ∙ no_item size noun none (i + 1) items where
        by : (a b : Bool) → b ≡ false
            → (if a && b then Some i else item_named t size noun (i + 1) items s)
            ≡ item_named t size noun (i + 1) items s
        by true true h = cc
        by true false h = refl
        by false b h = refl

  -- where the classes tell who is typed as the noun is, the item is the one of its class
  same_item : (size c : ℕ) (noun : List ℕ) → ((item : Item)
      → nat_eq (class_of db (item_word item)) c
      ≡ (not (is_empty noun) && is_typed size (get_word item.text) noun)) → (i : ℕ)
      (items : List Item) → classed c i items ≡ item_named t size noun i items s
  same_item size c noun tells i [] = refl
  same_item size c noun tells i (item ∷ items) =
      ap (λ (b : Bool). if is_at_hand t s i && b then Some i else classed c (i + 1) items)
      (tells item)
      ∙ ap (λ (o : Option ℕ). if is_at_hand t s i
      && (not (is_empty noun) && is_typed size (get_word item.text) noun) then Some i else o)
      (same_item size c noun tells (i + 1) items)

-- what is equal where a test holds, and only there
same_test : (a c : ℕ) (typed : Bool) → (a ≡ c → typed ≡ true) → (typed ≡ true → a ≡ c)
    → nat_eq a c ≡ typed
same_test a c true to from = grind (arith, from refl)
same_test a c false to from = by (nat_eq a c) refl where
  by : (b : Bool) → nat_eq a c ≡ b → b ≡ false
  by true h = let same : a ≡ c = grind (arith, h) in sym (to same)
  by false h = refl

-- ---- the class of a noun

-- the entry of a noun from 1 on
pub class_at : (db : Database) (nouns : List (List ℕ)) (k : ℕ) → 1 ≤ k → k < length nouns
    → slice_get (naturals (guarded (classes db nouns))) k
    ≡ Some (pos (class_of_noun db (slice_index_or nouns k [])))
class_at db [] k some less = absurd (omega (arith, less))
class_at db (noun ∷ nouns) zero some less = absurd (omega (arith, some))
class_at db (noun ∷ nouns) (suc k) some less =
    tabled_at (class_of_noun db) [] nouns k (omega (arith, less))

module _ (law : ClassesTell) (db : Database) (limits : KeepsLimits db) (t : Transfer) (s : State)
    (noun : ℕ) (some : 1 ≤ noun) (there : noun < length db.words) where
  entry_there : noun < length (entries_of db Nouns)
  entry_there = omega (arith, there, length-map db.words (column_of Nouns))

  size : ℕ
  size = db.header.length

  -- a noun that is no class has class 0, and names no item
  pub no_class : is_class (root db noun) ≡ false
      → item_named t db.header.length (root db noun) 0 db.items s ≡ None
  no_class none = no_item db t s db.header.length (root db noun) never 0 db.items where
    never : (item : Item)
        → not (is_empty (root db noun))
        && is_typed db.header.length (get_word item.text) (root db noun) ≡ false
    never item = by (is_starred (root db noun)) (is_empty (root db noun)) refl refl none where
      by : (a b : Bool) → is_starred (root db noun) ≡ a → is_empty (root db noun) ≡ b
          → not a && not b ≡ false
          → not b && is_typed db.header.length (get_word item.text) (root db noun) ≡ false
      by a true starred empty h = refl
      by true false starred empty h = starred_untyped db.header.length (get_word item.text)
          (root db noun) limits.header.length_range.0 (unstarred (between_slashes item.text))
          starred
      by false false starred empty h = cc

  module _ (is : is_class (root db noun) ≡ true) where
    -- the class isn't 0
    pub class_some : nat_eq (class_of_noun db (root db noun)) 0 ≡ false
    class_some = by (nat_eq (class_of_noun db (root db noun)) 0) refl where
      nothing : class_of db [] ≡ 0
      nothing = ap or_zero (none_found db.header.length 1 (drop 1 (entries_of db Nouns))
          limits.header.length_range.0)

      by : (b : Bool) → nat_eq (class_of_noun db (root db noun)) 0 ≡ b → b ≡ false
      by true h =
          let zero_is : 0 ≡ class_of_noun db (root db noun) = grind (arith, h) in
          sym ((law db noun [] limits some entry_there is).0 (nothing ∙ zero_is))
      by false h = refl

    -- and the item of that class is the one that is named
    pub by_class : classed db t s (class_of_noun db (root db noun)) 0 db.items
        ≡ item_named t db.header.length (root db noun) 0 db.items s
    by_class = same_item db t s db.header.length (class_of_noun db (root db noun)) (root db noun)
        tells 0 db.items where
          filled : not (is_empty (root db noun)) ≡ true
          filled =
              (and_parts (not (is_starred (root db noun))) (not (is_empty (root db noun))) is).1

          tells : (item : Item)
              → nat_eq (class_of db (item_word item)) (class_of_noun db (root db noun))
              ≡ (not (is_empty (root db noun))
              && is_typed db.header.length (get_word item.text) (root db noun))
          tells item =
              let law = law db noun (item_word item) limits some entry_there is in
              same_test (class_of db (item_word item)) (class_of_noun db (root db noun))
              (is_typed db.header.length (get_word item.text) (root db noun)) law.0 law.1
              ∙ ap (λ b. b && is_typed db.header.length (get_word item.text) (root db noun))
              (sym filled)
