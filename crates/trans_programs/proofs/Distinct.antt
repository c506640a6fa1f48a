-- No two directives of the program have one name.
use Rattle.std.proofs.Common.{◌≡◌, ◌≢◌, ◌∙◌, arith, ℕ, ◌+◌, ◌<◌, ◌≤◌, ◌^◌, nat_eq, Bool, true, not, List, [], ◌∷◌, ◌++◌, map, drop, length, codes, Option, refl, sym, ap, subst, true≢false, append_assoc}
use Rattle.std.specs.List.{AllByRecursion, list_all, starts_with}
use Rattle.std.proofs.lemmas.Fmt.{decimal_injective}
use Rattle.inform_tree.specs.Programs.{DirectiveTree, Routine}
use Rattle.inform_names.specs.Meanings.{name_of}
use Rattle.inform_logic.specs.Holding.{Distinct}
use Rattle.scott_types.specs.declared.states.State.{State}
use Rattle.scott_types.specs.declared.styles.Style.{Style}
use Rattle.scott_types.specs.declared.endings.Position.{Position}
use Rattle.scott_types.specs.Database.{Database}
use Rattle.scott_types.specs.Limits.{KeepsLimits}
use Rattle.scott_rules.specs.Groups.{Group, groups}
use Rattle.trans_specs.specs.Names.{message_name}
use Rattle.trans_specs.specs.Lines.{group_routine}
use Rattle.trans_specs.specs.Faithful.{opening_state, opening_position}
use Rattle.trans_specs.proofs.Distinct.{are_apart, distinct}
use Rattle.trans_specs.proofs.Lengths.{few}
use Rattle.trans_specs.proofs.Lists.{each_passes, each_with, of_both, of_three}
use Rattle.trans_data.specs.Routines.{table_rows, routine_names}
use Rattle.trans_data.specs.Texts.{message_directives}
use Rattle.trans_words.specs.Directives.{word_directives}
use Rattle.trans_actions.specs.Directives.{action_directives}
use Rattle.trans_actions.specs.Parts.{is_action_name, ActionsAreNamed, ActionsAreDistinct}
use Rattle.trans_groups.specs.Directives.{group_directives}
use Rattle.trans_groups.specs.Parts.{GroupsAreDistinct}
use Rattle.trans_turn.specs.Routines.{rounds_asking}
use Rattle.trans_programs.specs.Programs.{game_program}
use Rattle.trans_programs.specs.Laws.{ProgramsAreDistinct}
use Rattle.trans_programs.proofs.Parts.{before_messages, before_groups, after_groups, named, parts_are}

-- ---- the names that are fixed

fixed_apart : (style : Style) (db : Database) (s : State) (begin : Position)
    → are_apart (named style db s begin) ≡ true
unfolding table_rows routine_names rounds_asking
fixed_apart style db s begin = refl

-- ---- three families of names

-- the name of a message, of a group, and of what belongs to the lines
data Family : Type 0 where
  Messages : Family
  Groups : Family
  Lines : Family

abbrev is_of : Family → DirectiveTree → Bool
is_of Messages x = starts_with nat_eq (name_of x) (codes "msg_")
is_of Groups x = starts_with nat_eq (name_of x) (codes "group_")
is_of Lines x = is_action_name (name_of x)

abbrev AreOf : Family → List DirectiveTree → Type 0
AreOf family xs = AllByRecursion (λ x. is_of family x ≡ true) xs

abbrev NoneOf : Family → List DirectiveTree → Type 0
NoneOf family xs = AllByRecursion (λ x. not (is_of family x) ≡ true) xs

none_named : (family : Family) (style : Style) (db : Database) (s : State) (begin : Position)
    → list_all (λ x. not (is_of family x)) (named style db s begin) ≡ true
unfolding table_rows routine_names rounds_asking
none_named Messages style db s begin = refl
none_named Groups style db s begin = refl
none_named Lines style db s begin = refl

-- ---- messages

each_is_message : (m : ℕ) (texts : List (List ℕ)) → AreOf Messages (message_directives m texts)
each_is_message m [] = tt
each_is_message m (text ∷ texts) = (refl, each_is_message (m + 1) texts)

no_message_groups : (m : ℕ) (texts : List (List ℕ)) → NoneOf Groups (message_directives m texts)
no_message_groups m [] = tt
no_message_groups m (text ∷ texts) = (refl, no_message_groups (m + 1) texts)

no_message_acts : (m : ℕ) (texts : List (List ℕ)) → NoneOf Lines (message_directives m texts)
no_message_acts m [] = tt
no_message_acts m (text ∷ texts) = (refl, no_message_acts (m + 1) texts)

same_number : (m n : ℕ) → m < 2 ^ 64 → n < 2 ^ 64 → message_name m ≡ message_name n → m ≡ n
same_number m n few_m few_n same = decimal_injective m n few_m few_n (ap (drop 4) same)

-- a message of a lower number
lower_apart : (m n : ℕ) (texts : List (List ℕ)) → m < n → n + length texts ≤ 2 ^ 63
    → AllByRecursion (λ y. message_name m ≢ name_of y) (message_directives n texts)
lower_apart m n [] less fits = tt
lower_apart m n (text ∷ texts) less fits = (
  λ same. absurd (omega (
    arith,
    less,
    same_number m n (omega (arith, less, fits)) (omega (arith, fits)) same,
  )),
  lower_apart m (n + 1) texts (omega (arith, less)) (omega (arith, fits)),
)

messages_distinct : (m : ℕ) (texts : List (List ℕ)) → m + length texts ≤ 2 ^ 63
    → Distinct (message_directives m texts)
messages_distinct m [] fits = tt
messages_distinct m (text ∷ texts) fits = (
  lower_apart m (m + 1) texts (omega arith) (omega (arith, fits)),
  messages_distinct (m + 1) texts (omega (arith, fits)),
)

-- ---- groups

groups_are : (db : Database) (gs : List Group)
    → AreOf Groups (map (λ g. Routine (group_routine db g)) gs)
groups_are db [] = tt
groups_are db (g ∷ gs) = (refl, groups_are db gs)

no_group_acts : (db : Database) (gs : List Group)
    → NoneOf Lines (map (λ g. Routine (group_routine db g)) gs)
no_group_acts db [] = tt
no_group_acts db (g ∷ gs) = (refl, no_group_acts db gs)

-- ---- some directives between others

module _ (family : Family) where
  -- a name that is none of the family, and one that is
  told_apart : (x y : DirectiveTree) → not (is_of family x) ≡ true → is_of family y ≡ true
      → name_of x ≢ name_of y
  told_apart x y other is same = by family other is where
    by : (family : Family) → not (is_of family x) ≡ true → is_of family y ≡ true → ⊥
    by Messages other is = true≢false (sym other
        ∙ ap (λ name. not (starts_with nat_eq name (codes "msg_"))) same ∙ ap not is)
    by Groups other is = true≢false (sym other
        ∙ ap (λ name. not (starts_with nat_eq name (codes "group_"))) same ∙ ap not is)
    by Lines other is =
        true≢false (sym other ∙ ap (λ name. not (is_action_name name)) same ∙ ap not is)

  joined_distinct : (xs ys : List DirectiveTree) → NoneOf family ys → AreOf family xs
      → Distinct xs → Distinct ys → Distinct (xs ++ ys)
  joined_distinct [] ys others are own rest = rest
  joined_distinct (x ∷ xs) ys others are own rest = (
    of_both (λ y. name_of x ≢ name_of y) xs ys own.0
        (each_with (λ y. not (is_of family y) ≡ true) (λ y. name_of x ≢ name_of y)
        (λ y other same. told_apart y x other are.0 (sym same)) ys others),
    joined_distinct xs ys others are.1 own.1 rest,
  )

  between : (xs ms ys : List DirectiveTree) → NoneOf family (xs ++ ys) → AreOf family ms
      → Distinct ms → Distinct (xs ++ ys) → Distinct (xs ++ (ms ++ ys))
  between [] ms ys others are own rest = joined_distinct ms ys others are own rest
  between (x ∷ xs) ms ys others are own rest = (
    of_three (λ y. name_of x ≢ name_of y) xs ms ys rest.0
        (each_with (λ y. is_of family y ≡ true) (λ y. name_of x ≢ name_of y)
        (λ y is. told_apart x y others.0 is) ms are),
    between xs ms ys others.1 are own rest.1,
  )

-- none of a family in three lists
none_in_three : (family : Family) (xs ms ys : List DirectiveTree) → NoneOf family (xs ++ ys)
    → NoneOf family ms → NoneOf family (xs ++ (ms ++ ys))
none_in_three family xs ms ys h k = of_three (λ x. not (is_of family x) ≡ true) xs ms ys h k

-- ---- all of them

module _ (names : ActionsAreNamed) (lines : ActionsAreDistinct) (heads : GroupsAreDistinct)
    (style : Style) (db : Database) (from : Option State) (limits : KeepsLimits db) where
  abbrev tables : List DirectiveTree
  tables = before_messages style db (opening_state db from)

  abbrev messages : List DirectiveTree
  messages = message_directives 0 db.messages

  abbrev words : List DirectiveTree
  words = word_directives db

  abbrev acting : List DirectiveTree
  acting = action_directives style db

  abbrev search : List DirectiveTree
  search = before_groups db

  abbrev trying : List DirectiveTree
  trying = group_directives db

  abbrev turns : List DirectiveTree
  turns = after_groups style db (opening_position from)

  fixed : (family : Family) → NoneOf family (tables ++ (words ++ (search ++ turns)))
  fixed family = each_passes (λ x. not (is_of family x))
      (named style db (opening_state db from) (opening_position from))
      (none_named family style db (opening_state db from) (opening_position from))

  -- with the messages
  with_messages : Distinct (tables ++ (messages ++ (words ++ (search ++ turns))))
  with_messages = between Messages tables messages (words ++ (search ++ turns)) (fixed Messages)
      (each_is_message 0 db.messages) (messages_distinct 0 db.messages
      (omega (arith, few 1000 db.messages limits.sizes.messages)))
      (distinct (named style db (opening_state db from) (opening_position from))
      (fixed_apart style db (opening_state db from) (opening_position from)))

  -- and the groups
  abbrev to_search : List DirectiveTree
  to_search = tables ++ (messages ++ (words ++ search))

  flat_search : (zs : List DirectiveTree)
      → to_search ++ zs ≡ tables ++ (messages ++ (words ++ (search ++ zs)))
  flat_search zs = append_assoc tables (messages ++ (words ++ search)) zs
      ∙ ap (λ rest. tables ++ rest) (append_assoc messages (words ++ search) zs
      ∙ ap (λ rest. messages ++ rest) (append_assoc words search zs))

  none_to_search : (family : Family) → NoneOf family messages → NoneOf family (to_search ++ turns)
  none_to_search family none = subst (NoneOf family) (sym (flat_search turns))
      (none_in_three family tables messages (words ++ (search ++ turns)) (fixed family) none)

  with_groups : Distinct (to_search ++ (trying ++ turns))
  with_groups = between Groups to_search trying turns
      (none_to_search Groups (no_message_groups 0 db.messages)) (groups_are db (groups db))
      (heads db limits) (subst Distinct (sym (flat_search turns)) with_messages)

  -- and the lines
  abbrev to_words : List DirectiveTree
  to_words = tables ++ (messages ++ words)

  abbrev from_search : List DirectiveTree
  from_search = search ++ (trying ++ turns)

  flat_words : (zs : List DirectiveTree) → to_words ++ zs ≡ tables ++ (messages ++ (words ++ zs))
  flat_words zs = append_assoc tables (messages ++ words) zs
      ∙ ap (λ rest. tables ++ rest) (append_assoc messages words zs)

  same : to_search ++ (trying ++ turns) ≡ to_words ++ from_search
  same = flat_search (trying ++ turns) ∙ sym (flat_words from_search)

  with_lines : Distinct (to_words ++ (acting ++ from_search))
  with_lines = between Lines to_words acting from_search (subst (NoneOf Lines) same
      (none_in_three Lines to_search trying turns
      (none_to_search Lines (no_message_acts 0 db.messages)) (no_group_acts db (groups db))))
      (names style db) (lines style db limits) (subst Distinct same with_groups)

  all_distinct : Distinct (game_program style db from)
  all_distinct =
      subst Distinct (flat_words (acting ++ from_search) ∙ parts_are style db from) with_lines

pub programs_are_distinct : ActionsAreNamed → ActionsAreDistinct → GroupsAreDistinct
    → ProgramsAreDistinct
programs_are_distinct names lines heads style db from limits =
    all_distinct names lines heads style db from limits
