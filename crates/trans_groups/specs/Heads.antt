-- The heads of a verb, found one after the other.
use Rattle.std.specs.Prelude.{◌≡◌, ℕ, ◌+◌, ◌≤◌, ◌<◌, ◌==◌, false, List, [], ◌∷◌, length, drop, slice_index_or, Option, Some, None, if◌then◌else◌}
use Rattle.inform_tree.specs.Statements.{Statement}
use Rattle.scott_types.specs.declared.parts.Action.{Action}
use Rattle.scott_types.specs.Action.{verb_of, noun_of}
use Rattle.scott_rules.specs.Groups.{Group, groups_of}
use Rattle.trans_groups.specs.Search.{head_tries, verb_tries}

abbrev pub vocab_at : List Action → ℕ → ℕ
vocab_at actions line =
    (slice_index_or actions line (record { vocab = 0; conds = []; pairs = [] })).vocab

-- the groups whose heads stand at a line or after it
abbrev pub groups_after : List Action → ℕ → List Group
groups_after actions line = groups_of line (drop line actions)

-- ---- the first head of a verb

abbrev pub first_head : ℕ → List Group → Option ℕ
first_head verb [] = None
first_head verb (g ∷ gs) = if verb_of g.vocab == verb then Some g.head else first_head verb gs

-- at a line or after it
abbrev pub first_from : List Action → ℕ → ℕ → Option ℕ
first_from actions verb line = first_head verb (groups_after actions line)

-- the next head of a head's verb
abbrev pub next_of : List Action → ℕ → Option ℕ
next_of actions line =
    if vocab_at actions line == 0 then None
    else first_from actions (verb_of (vocab_at actions line)) (line + 1)

-- ---- an index of the heads

-- the first heads of all verbs at a line or after it
abbrev pub HasFirsts : List Action → ℕ → (ℕ → Option ℕ) → Type 0
HasFirsts actions line firsts = (verb : ℕ) → firsts verb ≡ first_from actions verb line

-- an index of the lines from one on: the first heads of all verbs, and after each head the next of
-- its verb
pub record IsIndexFrom (actions : List Action) (line : ℕ) (firsts : ℕ → Option ℕ)
    (nexts : List (Option ℕ)) : Type 0 where
  pub whole : length nexts ≡ length actions
  pub has_firsts : HasFirsts actions line firsts
  pub has_nexts : (head : ℕ) → line ≤ head → head < length actions
      → slice_index_or nexts head None ≡ next_of actions head

-- ---- what is left to try

-- a head that was found, and those of its verb after it
abbrev pub tries_from : List Action → ℕ → Option ℕ → List Statement
tries_from actions verb None = []
tries_from actions verb (Some line) = head_tries (noun_of (vocab_at actions line)) line
    (verb_tries verb (groups_after actions (line + 1)))

-- it is there and has the verb
pub record IsHeadOf (actions : List Action) (verb line : ℕ) : Type 0 where
  pub there : line < length actions
  pub is_head : (vocab_at actions line == 0) ≡ false
  pub has_verb : verb_of (vocab_at actions line) ≡ verb

abbrev pub IsFound : List Action → ℕ → Option ℕ → Type 0
IsFound actions verb None = Unit {0}
IsFound actions verb (Some line) = IsHeadOf actions verb line

-- where a walk over the heads of a verb stands: at a head, or after the last line
abbrev pub place_of : List Action → Option ℕ → ℕ
place_of actions None = length actions
place_of actions (Some line) = line
