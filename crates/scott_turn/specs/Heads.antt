-- Heads and tails, found by the numbers of their lines.
use Rattle.std.specs.Prelude.{◌≡◌, ◌≢◌, ℕ, ◌+◌, ◌<◌, ◌≤◌, ◌==◌, ◌&&◌, Bool, true, false, not, List, [], ◌∷◌, length, drop, filter, slice_index_or, Option, None, Some, MatchOption}
use Rattle.scott_types.specs.declared.parts.Action.{Action}
use Rattle.scott_types.specs.Database.{Database, action_at}
use Rattle.scott_types.specs.Action.{verb_of}
use Rattle.scott_rules.specs.Groups.{Group, tail_of, groups_from}

-- the tail that goes on at a line
abbrev pub tail_from : Database → ℕ → List ℕ
tail_from db line = tail_of line (drop line db.actions)

-- the group whose head is a line
abbrev pub group_at : Database → ℕ → Group
group_at db line =
    record { head = line; vocab = (action_at db line).vocab; tail = tail_from db (line + 1) }

abbrev pub has_verb : ℕ → Group → Bool
has_verb verb g = verb_of g.vocab == verb

-- the groups of a verb whose heads stand at a line or after it
abbrev pub groups_for : Database → ℕ → ℕ → List Group
groups_for db verb line = filter (has_verb verb) (groups_from db line)

-- a line is a head of a verb
abbrev pub is_head_of : ℕ → Action → Bool
is_head_of verb a = not (a.vocab == 0) && verb_of a.vocab == verb

-- a head of the verb is there at the line or after it, and its group is the first of those
pub record ComesNext (db : Database) (verb line head : ℕ) : Type 0 where
  pub from : line ≤ head
  pub there : head < length db.actions
  pub is_head : is_head_of verb (action_at db head) ≡ true
  pub first : groups_for db verb line ≡ group_at db head ∷ groups_for db verb (head + 1)

-- a tail goes on with a line that is there, or it ends before it
abbrev pub TailGoesOn : Database → ℕ → Bool → Type 0
TailGoesOn db line true =
    (line < length db.actions) × (tail_from db line ≡ line ∷ tail_from db (line + 1))
TailGoesOn db line false = tail_from db line ≡ []

-- ---- an index of the heads

-- a head that was found is the first of the verb at a line or after it; none is there where none
-- was found
abbrev pub IsFirst : Database → ℕ → ℕ → Option ℕ → Type 0
IsFirst db verb line found =
    MatchOption found (groups_for db verb line ≡ []) (λ head. ComesNext db verb line head)

-- the first heads of all verbs at a line or after it
abbrev pub HasFirsts : Database → ℕ → (ℕ → Option ℕ) → Type 0
HasFirsts db line firsts = (verb : ℕ) → IsFirst db verb line (firsts verb)

-- where a line is a head, what was found is the next head of its verb after it
abbrev pub IsAfter : Database → ℕ → Option ℕ → Type 0
IsAfter db line found =
    (action_at db line).vocab ≢ 0 → IsFirst db (verb_of (action_at db line).vocab) (line + 1) found

-- an index of the lines from one on: the first heads of all verbs, and after each head the next of
-- its verb
pub record IsIndexFrom (db : Database) (line : ℕ) (firsts : ℕ → Option ℕ) (nexts : List (Option ℕ))
    : Type 0 where
  pub whole : length nexts ≡ length db.actions
  pub has_firsts : HasFirsts db line firsts
  pub has_nexts : (head : ℕ) → line ≤ head → head < length db.actions
      → IsAfter db head (slice_index_or nexts head None)

abbrev pub IsIndex : Database → (ℕ → Option ℕ) → List (Option ℕ) → Type 0
IsIndex db firsts nexts = IsIndexFrom db 0 firsts nexts

-- where a walk over the heads of a verb stands: at a head, or after the last line
abbrev pub line_of : Database → Option ℕ → ℕ
line_of db None = length db.actions
line_of db (Some head) = head

-- a head, if there is one, is there and has the verb
abbrev pub IsHead : Database → ℕ → Option ℕ → Type 0
IsHead db verb None = Unit
IsHead db verb (Some head) =
    (head < length db.actions) × (is_head_of verb (action_at db head) ≡ true)
