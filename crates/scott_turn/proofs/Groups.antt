-- Groups and tails by the numbers of their lines.
use Rattle.std.proofs.Common.{◌≡◌, ◌≢◌, ◌∙◌, ℕ, ◌+◌, ◌-◌, ◌≤◌, ◌<◌, ◌⊎◌, inl, inr, List, [], Option, None, Some, ◌∷◌, Bool, true, false, cond, not, length, get_or, set, drop, refl, sym, ap, subst, arith, add-one, drop-cons}
use Rattle.std.proofs.lemmas.Bool.{cases_eq}
use Rattle.std.proofs.lemmas.List.{drop_all, length-set, get_or-set_same, get_or-set_other}
use Rattle.std.specs.Prelude.{◌==◌, ◌&&◌, filter}
use Rattle.scott_types.specs.declared.parts.Action.{Action}
use Rattle.scott_types.specs.Database.{Database, action_at}
use Rattle.scott_types.specs.Action.{verb_of}
use Rattle.scott_rules.specs.Groups.{Group, tail_of, groups_of, groups_from}
use Rattle.scott_turn.specs.Heads.{tail_from, group_at, has_verb, groups_for, is_head_of, ComesNext, TailGoesOn, IsFirst, IsHead, HasFirsts, IsAfter, IsIndexFrom, line_of}

-- the lines from one on begin with it
pub lines_from : (db : Database) (line : ℕ) → line < length db.actions → drop line db.actions
    ≡ action_at db line ∷ drop (line + 1) db.actions
lines_from db line there = drop-cons db.actions line (record { vocab = 0; conds = []; pairs = [] }) there ∙ ap (λ n. action_at db line ∷ drop n db.actions) (sym (add-one line))

-- ---- tails

tail_from-at : (db : Database) (line : ℕ) (a : Action) (in_tail : Bool) → line < length db.actions → action_at db line ≡ a → (a.vocab == 0) ≡ in_tail
    → tail_from db line ≡ cond in_tail (line ∷ tail_from db (line + 1)) []
tail_from-at db line a in_tail there is test =
    ap (tail_of line) (lines_from db line there)
    ∙ ap (λ b. cond b (line ∷ tail_from db (line + 1)) []) (ap (λ x. x.vocab == 0) is ∙ test)

-- a line that is there goes on with the tail where its vocabulary is 0
pub tail_there : (db : Database) (line : ℕ) (a : Action) (in_tail : Bool) → line < length db.actions → action_at db line ≡ a → (a.vocab == 0) ≡ in_tail → TailGoesOn db line in_tail
tail_there db line a true there is test = (there, tail_from-at db line a true there is test)
tail_there db line a false there is test = tail_from-at db line a false there is test

-- after the last line there is none
pub tail_ended : (db : Database) (line : ℕ) → length db.actions ≤ line → TailGoesOn db line false
tail_ended db line past = ap (tail_of line) (drop_all line db.actions past)

-- ---- heads

filter-head : (p : Group → Bool) (in_tail : Bool) (g : Group) (rest : List Group) → filter p (cond in_tail rest (g ∷ rest)) ≡ cond (not in_tail && p g) (g ∷ filter p rest) (filter p rest)
filter-head p true g rest = refl
filter-head p false g rest = refl

groups_for-at : (db : Database) (verb line : ℕ) (a : Action) (head : Bool) → line < length db.actions → action_at db line ≡ a → is_head_of verb a ≡ head
    → groups_for db verb line ≡ cond head (group_at db line ∷ groups_for db verb (line + 1)) (groups_for db verb (line + 1))
groups_for-at db verb line a head there is test =
    ap (λ lines. filter (has_verb verb) (groups_of line lines)) (lines_from db line there)
    ∙ filter-head (has_verb verb) ((action_at db line).vocab == 0) (group_at db line) (groups_from db (line + 1))
    ∙ ap (λ b. cond b (group_at db line ∷ groups_for db verb (line + 1)) (groups_for db verb (line + 1))) (ap (is_head_of verb) is ∙ test)

-- a line that is no head of the verb is passed over
pub groups_for-skip : (db : Database) (verb line : ℕ) (a : Action) → line < length db.actions → action_at db line ≡ a → is_head_of verb a ≡ false → groups_for db verb line ≡ groups_for db verb (line + 1)
groups_for-skip db verb line a there is test = groups_for-at db verb line a false there is test

-- a head of the verb comes first
pub groups_for-head : (db : Database) (verb line : ℕ) (a : Action) → line < length db.actions → action_at db line ≡ a → is_head_of verb a ≡ true → groups_for db verb line ≡ group_at db line ∷ groups_for db verb (line + 1)
groups_for-head db verb line a there is test = groups_for-at db verb line a true there is test

-- after the last line there is none
pub groups_for-end : (db : Database) (verb line : ℕ) → length db.actions ≤ line → groups_for db verb line ≡ []
groups_for-end db verb line past = ap (λ lines. filter (has_verb verb) (groups_of line lines)) (drop_all line db.actions past)

pub groups_for-none : (db : Database) (verb : ℕ) → groups_for db verb (length db.actions) ≡ []
groups_for-none db verb = groups_for-end db verb (length db.actions) (omega arith)

-- a head that was found, where none stands before it, comes next
pub comes_first : (db : Database) (verb from line : ℕ) (a : Action) → from ≤ line → line < length db.actions → action_at db line ≡ a → is_head_of verb a ≡ true
    → groups_for db verb from ≡ groups_for db verb line → ComesNext db verb from line
comes_first db verb from line a after there is test none = record {
  from = after;
  there = there;
  is_head = ap (is_head_of verb) is ∙ test;
  first = none ∙ groups_for-head db verb line a there is test;
}

-- a head of a verb has it
pub verb_of_head : (verb : ℕ) (a : Action) → is_head_of verb a ≡ true → verb_of a.vocab ≡ verb
verb_of_head verb a test = grind (arith, test)

-- and its vocabulary isn't 0
pub vocab_of_head : (verb : ℕ) (a : Action) → is_head_of verb a ≡ true → a.vocab ≢ 0
vocab_of_head verb a test = grind (arith, test)

-- ---- a walk over the heads of a verb

-- a head where a walk stands comes next there
pub comes_here : (db : Database) (verb head : ℕ) → IsHead db verb (Some head) → ComesNext db verb head head
comes_here db verb head at = record {
  from = omega arith;
  there = at.0;
  is_head = at.1;
  first = groups_for-head db verb head (action_at db head) at.0 refl at.1;
}

-- from where a head was looked for, the groups are those from where it was found
pub groups_for-found : (db : Database) (verb line : ℕ) (found : Option ℕ) → IsFirst db verb line found → groups_for db verb line ≡ groups_for db verb (line_of db found)
groups_for-found db verb line None none = none ∙ sym (groups_for-end db verb (length db.actions) (omega arith))
groups_for-found db verb line (Some head) comes = comes.first ∙ sym (groups_for-head db verb head (action_at db head) comes.there refl comes.is_head)

-- what was found is a head of the verb
pub head_found : (db : Database) (verb line : ℕ) (found : Option ℕ) → IsFirst db verb line found → IsHead db verb found
head_found db verb line None none = tt
head_found db verb line (Some head) comes = (comes.there, comes.is_head)

-- after each head fewer lines are left
pub fewer_lines : (db : Database) (verb head : ℕ) (found : Option ℕ) → head < length db.actions → IsFirst db verb (head + 1) found → length db.actions - line_of db found < length db.actions - head
fewer_lines db verb head None there none = omega arith
fewer_lines db verb head (Some next) there comes = omega (arith, comes.from, comes.there)

-- ---- an index of the heads, which is made from the last line on

-- the line before one is there
pub line_before : (db : Database) (lines : List Action) (line : ℕ) → lines ≡ db.actions → line ≤ length lines → 0 < line → line - 1 < length db.actions
line_before db lines line all within some = omega (arith, ap length all)

-- and the one after that is the line itself
pub firsts_after : (db : Database) (line : ℕ) (firsts : ℕ → Option ℕ) → 0 < line → HasFirsts db line firsts → HasFirsts db ((line - 1) + 1) firsts
firsts_after db line firsts some has =
    let same : line ≡ (line - 1) + 1 = omega arith in
    subst (λ n. HasFirsts db n firsts) same has

-- one more line before those that are in the index
pub index_step : (db : Database) (line : ℕ) (before after : ℕ → Option ℕ) (nexts : List (Option ℕ)) (next : Option ℕ) → 0 < line → line - 1 < length db.actions
    → IsIndexFrom db line before nexts → HasFirsts db (line - 1) after → IsAfter db (line - 1) next
    → IsIndexFrom db (line - 1) after (set nexts (line - 1) next)
index_step db line before after nexts next some there index firsts is_next = record {
  whole = length-set nexts (line - 1) next ∙ index.whole;
  has_firsts = firsts;
  has_nexts = λ head from head_there. by_place head from head_there (cases_eq head (line - 1));
}
  where
    by_place : (head : ℕ) → line - 1 ≤ head → head < length db.actions → (head ≡ line - 1) ⊎ (head ≢ line - 1) → IsAfter db head (get_or (set nexts (line - 1) next) head None)
    by_place head from head_there (inl same) = rw (same, get_or-set_same nexts (line - 1) next None (omega (arith, index.whole))) is_next
    by_place head from head_there (inr other) = rw (get_or-set_other nexts (line - 1) head next None other) (index.has_nexts head (omega arith) head_there)

-- no line is left before the first
pub index_whole : (db : Database) (line : ℕ) (firsts : ℕ → Option ℕ) (nexts : List (Option ℕ)) → line ≤ 0 → IsIndexFrom db line firsts nexts → IsIndexFrom db 0 firsts nexts
index_whole db line firsts nexts none index =
    let first : line ≡ 0 = omega arith in
    subst (λ n. IsIndexFrom db n firsts nexts) first index
