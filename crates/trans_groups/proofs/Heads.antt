-- Groups and their lines, as they stand in a database.
use Rattle.std.proofs.Common.{◌≡◌, ◌∙◌, ℕ, ◌+◌, ◌<◌, ◌==◌, ◌&&◌, Bool, true, false, not, cond, if◌then◌else◌, List, [], ◌∷◌, map, filter, drop, length, refl, sym, ap, ap₂}
use Rattle.std.specs.List.{AllByRecursion, list_all}
use Rattle.inform_tree.specs.Programs.{Routine}
use Rattle.inform_signature.proofs.Elements.{element_at}
use Rattle.scott_types.specs.declared.parts.Action.{Action}
use Rattle.scott_types.specs.Database.{Database, action_at}
use Rattle.scott_types.specs.Action.{is_zero, is_zero_action}
use Rattle.scott_rules.specs.Groups.{Group, tail_of, groups_of}
use Rattle.trans_specs.specs.Lines.{group_routine}
use Rattle.trans_specs.specs.ActionSpecs.{HasLineRoutine}
use Rattle.trans_groups.specs.Directives.{group_directives, tried_from, routine_of_head, heads_from}

abbrev none : Action
none = record { vocab = 0; conds = []; pairs = [] }

module _ (db : Database) where
  -- the lines of a tail that aren't all zeros
  abbrev pub tried_of : List ℕ → List ℕ
  tried_of tail = filter (λ k. not (is_zero_action (action_at db k))) tail

  -- the lines that are tried after a head are those of its tail that aren't all zeros
  tried_are : (k : ℕ) (actions : List Action) → drop k db.actions ≡ actions
      → tried_from k actions ≡ tried_of (tail_of k actions)
  tried_are k [] is = refl
  tried_are k (a ∷ actions) is =
      by (a.vocab == 0) (is_zero_action a) refl (tried_are (k + 1) actions at.2) where
        at : (k < length db.actions) × (action_at db k ≡ a) × (drop (k + 1) db.actions ≡ actions)
        at = element_at none db.actions k a actions is

        by : (plain zeros : Bool) → is_zero_action a ≡ zeros
            → tried_from (k + 1) actions ≡ tried_of (tail_of (k + 1) actions)
            → (if plain then
            if zeros then tried_from (k + 1) actions else k ∷ tried_from (k + 1) actions
            else [])
            ≡ tried_of (if plain then k ∷ tail_of (k + 1) actions else [])
        by false zeros own more = refl
        by true true own more = more ∙ sym (ap (λ (b : Bool). cond (not b)
            (k ∷ tried_of (tail_of (k + 1) actions)) (tried_of (tail_of (k + 1) actions)))
            (ap is_zero_action at.1 ∙ own))
        by true false own more = ap (λ xs. k ∷ xs) more ∙ sym (ap (λ (b : Bool). cond (not b)
            (k ∷ tried_of (tail_of (k + 1) actions)) (tried_of (tail_of (k + 1) actions)))
            (ap is_zero_action at.1 ∙ own))

  -- the routines of the heads from a line on are those of the groups from it on
  heads_are : (k : ℕ) (actions : List Action) → drop k db.actions ≡ actions
      → heads_from k actions ≡ map (λ g. Routine (group_routine db g)) (groups_of k actions)
  heads_are k [] is = refl
  heads_are k (a ∷ actions) is =
      by (a.vocab == 0) (heads_are (k + 1) actions at.2) where
        at : (k < length db.actions) × (action_at db k ≡ a) × (drop (k + 1) db.actions ≡ actions)
        at = element_at none db.actions k a actions is

        routine : routine_of_head k a (tried_from (k + 1) actions) ≡ group_routine db
            (record { head = k; vocab = a.vocab; tail = tail_of (k + 1) actions })
        routine = ap₂ (λ a tail. routine_of_head k a tail) (sym at.1)
            (tried_are (k + 1) actions at.2)

        by : (plain : Bool) → heads_from (k + 1) actions
            ≡ map (λ g. Routine (group_routine db g)) (groups_of (k + 1) actions)
            → (if plain then heads_from (k + 1) actions
            else Routine (routine_of_head k a (tried_from (k + 1) actions))
            ∷ heads_from (k + 1) actions)
            ≡ map (λ g. Routine (group_routine db g)) (if plain then groups_of (k + 1) actions
            else record { head = k; vocab = a.vocab; tail = tail_of (k + 1) actions }
            ∷ groups_of (k + 1) actions)
        by true more = more
        by false more = ap₂ (λ r rest. Routine r ∷ rest) routine more

pub groups_are : (db : Database) → heads_from 0 db.actions ≡ group_directives db
groups_are db = heads_are db 0 db.actions refl

-- ---- where the lines of a group stand

-- a head isn't all zeros
head_is_none : (a : Action) → (a.vocab == 0) ≡ false → is_zero_action a ≡ false
head_is_none a h =
    ap (λ (b : Bool). b && (list_all is_zero a.conds && list_all is_zero a.pairs)) h

pub record GroupStands (db : Database) (g : Group) : Type 0 where
  pub head : HasLineRoutine db g.head
  pub tail : AllByRecursion (λ k. k < length db.actions) g.tail

module _ (db : Database) where
  -- each line of a tail is a line of the database
  tail_stands : (k : ℕ) (actions : List Action) → drop k db.actions ≡ actions
      → AllByRecursion (λ k. k < length db.actions) (tail_of k actions)
  tail_stands k [] is = tt
  tail_stands k (a ∷ actions) is = by (a.vocab == 0) (tail_stands (k + 1) actions at.2) where
    at : (k < length db.actions) × (action_at db k ≡ a) × (drop (k + 1) db.actions ≡ actions)
    at = element_at none db.actions k a actions is

    by : (plain : Bool)
        → AllByRecursion (λ k. k < length db.actions) (tail_of (k + 1) actions)
        → AllByRecursion (λ k. k < length db.actions)
        (if plain then k ∷ tail_of (k + 1) actions else [])
    by true more = (at.0, more)
    by false more = tt

  -- the head of each group has a line's routine, and its tail has lines of the database
  pub groups_stand : (k : ℕ) (actions : List Action) → drop k db.actions ≡ actions
      → AllByRecursion (GroupStands db) (groups_of k actions)
  groups_stand k [] is = tt
  groups_stand k (a ∷ actions) is =
      by (a.vocab == 0) refl (groups_stand (k + 1) actions at.2) where
        at : (k < length db.actions) × (action_at db k ≡ a) × (drop (k + 1) db.actions ≡ actions)
        at = element_at none db.actions k a actions is

        by : (plain : Bool) → (a.vocab == 0) ≡ plain
            → AllByRecursion (GroupStands db) (groups_of (k + 1) actions)
            → AllByRecursion (GroupStands db) (if plain then groups_of (k + 1) actions
            else record { head = k; vocab = a.vocab; tail = tail_of (k + 1) actions }
            ∷ groups_of (k + 1) actions)
        by true own more = more
        by false own more = (
          record {
            head = record {
              there = at.0;
              not_zero = ap is_zero_action at.1 ∙ head_is_none a own;
            };
            tail = tail_stands (k + 1) actions at.2;
          },
          more,
        )
