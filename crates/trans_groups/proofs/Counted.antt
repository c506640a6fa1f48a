-- How many steps the groups of a game may take: each line is in one of them at most.
use Rattle.std.proofs.Common.{◌≡◌, arith, ℕ, zero, suc, ◌+◌, ◌-◌, ◌*◌, ◌==◌, ◌≤◌, Bool, true, false, if◌then◌else◌, List, [], ◌∷◌, length, sym, subst}
use Rattle.scott_types.specs.declared.parts.Action.{Action}
use Rattle.scott_types.specs.Database.{Database}
use Rattle.scott_rules.specs.Groups.{Group, tail_of, groups_of, groups}
use Rattle.trans_specs.specs.Steps.{highest, line_steps}
use Rattle.trans_specs.specs.CommandSpecs.{search_steps}
use Rattle.trans_groups.specs.GroupSpecs.{group_steps}

-- each group, and a few steps around it
abbrev pub tries_steps : Database → List Group → ℕ
tries_steps db [] = 0
tries_steps db (g ∷ gs) = group_steps db g + 10 + tries_steps db gs

abbrev pub lines_in : List Group → ℕ
lines_in [] = 0
lines_in (g ∷ gs) = length g.tail + 1 + lines_in gs

-- the lines up to the next head, and those of the groups from there on
lines_few : (k : ℕ) (actions : List Action)
    → length (tail_of k actions) + lines_in (groups_of k actions) ≤ length actions
lines_few k [] = omega arith
lines_few k (a ∷ actions) = by (a.vocab == 0) (lines_few (k + 1) actions) where
  by : (plain : Bool) → length (tail_of (k + 1) actions) + lines_in (groups_of (k + 1) actions)
      ≤ length actions
      → length (if plain then k ∷ tail_of (k + 1) actions else [])
      + lines_in (if plain then groups_of (k + 1) actions
      else record { head = k; vocab = a.vocab; tail = tail_of (k + 1) actions }
      ∷ groups_of (k + 1) actions) ≤ suc (length actions)
  by true more = omega (arith, more)
  by false more = omega (arith, more)

module _ (db : Database) where
  tries_few : (gs : List Group) → tries_steps db gs ≤ lines_in gs * (line_steps db + 16)
  tries_few [] = omega arith
  tries_few (g ∷ gs) = both (length g.tail) (lines_in gs) (line_steps db) (tries_steps db gs)
      (tries_few gs) where
        both : (n m x rest : ℕ) → rest ≤ m * (x + 16)
            → (n + 1) * (x + 2) + 4 + 10 + rest ≤ (n + 1 + m) * (x + 16)
        both n m x rest few = omega (arith, few)

  -- so many lines, and the rest of a search
  all_few : (n r : ℕ) → n * (100 * (r + 200) + 16) + 10 ≤ (n - 1 + 2) * (110 * (r + 200))
  all_few zero r = omega arith
  all_few (suc n) r = let is : suc n - 1 ≡ n = omega arith in
      subst (λ m. suc n * (100 * (r + 200) + 16) + 10 ≤ (m + 2) * (110 * (r + 200))) (sym is)
      (omega arith)

  fewer : (n k y : ℕ) → n * y ≤ (n + k) * y
  fewer n k y = omega arith

  -- all groups are tried, and ten more steps are taken, within the steps of a search
  pub enough_steps : tries_steps db (groups db) + 10 ≤ search_steps db
  enough_steps = omega (arith, tries_few (groups db), more, all_few (length db.actions) rest) where
    rest : ℕ
    rest = highest db.items + highest db.words * (db.header.length + 1) + highest db.messages
        + highest db.rooms

    there : lines_in (groups db) ≤ length db.actions
    there = omega (arith, lines_few 0 db.actions)

    more : lines_in (groups db) * (line_steps db + 16) ≤ length db.actions * (line_steps db + 16)
    more = let is : lines_in (groups db) + (length db.actions - lines_in (groups db))
        ≡ length db.actions = omega (arith, there) in
        subst (λ n. lines_in (groups db) * (line_steps db + 16) ≤ n * (line_steps db + 16)) is
        (fewer (lines_in (groups db)) (length db.actions - lines_in (groups db)) (line_steps db +
        16))
