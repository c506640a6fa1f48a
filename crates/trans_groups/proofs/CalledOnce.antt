-- Each group is called at one place: in the automatic step, or in the case of its verb.
use Rattle.std.proofs.Common.{◌≡◌, ◌∙◌, arith, ℕ, zero, suc, ◌+◌, ◌==◌, ◌<◌, ◌≤◌, ◌^◌, nat_eq, Bool, true, false, ◌&&◌, ◌||◌, if◌then◌else◌, List, [], ◌∷◌, map, drop, length, slice_get, Some, refl, sym, ap, subst}
use Rattle.std.specs.Cmp.Lexicographic.{same_text}
use Rattle.std.proofs.lemmas.Fmt.{decimal_injective}
use Rattle.inform_tree.specs.Statements.{statements}
use Rattle.inform_tree.specs.Programs.{Routine}
use Rattle.inform_names.specs.Demands.{no_loop, switch_in, statements_demands}
use Rattle.inform_meaning.specs.Tables.{same_name}
use Rattle.scott_types.specs.declared.parts.Action.{Action}
use Rattle.scott_types.specs.Database.{Database, action_at}
use Rattle.scott_types.specs.Action.{verb_of}
use Rattle.scott_rules.specs.Actions.{goes_on_after}
use Rattle.scott_rules.specs.Groups.{Group, tail_of, groups_of, groups}
use Rattle.trans_specs.specs.Tables.{bit}
use Rattle.trans_specs.specs.Names.{group_name, line_name}
use Rattle.trans_specs.specs.Lines.{call_statement, tail_lines, group_parts, group_routine}
use Rattle.trans_specs.specs.Shaped.{demands_calls, program_calls}
use Rattle.trans_specs.proofs.Lengths.{few}
use Rattle.trans_groups.specs.Automatic.{chances}
use Rattle.trans_groups.specs.Search.{has_verb}
use Rattle.trans_groups.specs.Trying.{trying_directives}
use Rattle.trans_groups.specs.Parts.{GroupsAreCalledOnce}
use Rattle.trans_groups.proofs.Called.{at_verb, chances_calls, cases_none, cases_one}

-- ---- groups call lines alone

module _ (name : ℕ) where
  tail_calls : (ks : List ℕ) → demands_calls (group_name name) (statements_demands no_loop
      (statements (map (λ k. call_statement (line_name k) []) ks))) ≡ 0
  tail_calls [] = refl
  tail_calls (k ∷ ks) = omega (arith, tail_calls ks)

  parts_calls : (more : Bool) (head : ℕ) (tail : List ℕ) → demands_calls (group_name name)
      (statements_demands no_loop (statements (group_parts more head tail).1)) ≡ 0
  parts_calls true head (k ∷ tail) = omega (arith, tail_calls tail)
  parts_calls true head [] = refl
  parts_calls false head tail = refl

  groups_call : (db : Database) (gs : List Group)
      → program_calls (group_name name) (map (λ g. Routine (group_routine db g)) gs) ≡ 0
  groups_call db [] = refl
  groups_call db (g ∷ gs) = omega (
    arith,
    groups_call db gs,
    parts_calls (goes_on_after (action_at db g.head)) g.head (tail_lines db g),
  )

-- ---- names

same_itself : (xs : List ℕ) → same_name xs xs ≡ true
same_itself [] = refl
same_itself (x ∷ xs) = both (nat_eq x x) (itself x) (same_itself xs) where
  itself : (n : ℕ) → nat_eq n n ≡ true
  itself n = grind arith

  both : (a : Bool) {b : Bool} → a ≡ true → b ≡ true → a && b ≡ true
  both true h k = k
  both false h k = cc

names_differ : (a b : ℕ) → a < 2 ^ 64 → b < 2 ^ 64 → (a ≡ b → ⊥)
    → same_name (group_name a) (group_name b) ≡ false
names_differ a b few_a few_b other = by (same_name (group_name a) (group_name b)) refl where
  by : (same : Bool) → same_name (group_name a) (group_name b) ≡ same → same ≡ false
  by false is = refl
  by true is = absurd (other (decimal_injective a b few_a few_b
      (ap (drop 6) (same_text (group_name a) (group_name b) (sym is)))))

-- ---- the groups of a name

apart : (h k : ℕ) → h < 2 ^ 64 → k < 2 ^ 64 → (h ≡ k → ⊥) → (same : Bool)
    → (if same then bit (same_name (group_name h) (group_name k)) else 0) ≡ 0
apart h k few_h few_k other true = ap bit (names_differ h k few_h few_k other)
apart h k few_h few_k other false = refl

own : (h : ℕ) (same : Bool)
    → (if same then bit (same_name (group_name h) (group_name h)) else 0) ≡ bit same
own h true = ap bit (same_itself (group_name h))
own h false = refl

-- the heads from a line on have no lower number
none_later : (h verb k : ℕ) (actions : List Action) → h < k → k + length actions ≤ 2 ^ 63
    → at_verb (group_name h) verb (groups_of k actions) ≡ 0
none_later h verb k [] less fits = refl
none_later h verb k (a ∷ actions) less fits = by (a.vocab == 0)
    (none_later h verb (k + 1) actions (omega (arith, less)) (omega (arith, fits))) where
      differs : h ≡ k → ⊥
      differs is = absurd (omega (arith, is, less))

      first : (if verb_of a.vocab == verb then bit (same_name (group_name h) (group_name k)) else 0)
          ≡ 0
      first = apart h k (omega (arith, less, fits)) (omega (arith, fits)) differs
          (verb_of a.vocab == verb)

      by : (plain : Bool) → at_verb (group_name h) verb (groups_of (k + 1) actions) ≡ 0
          → at_verb (group_name h) verb (if plain then groups_of (k + 1) actions
          else record { head = k; vocab = a.vocab; tail = tail_of (k + 1) actions }
          ∷ groups_of (k + 1) actions) ≡ 0
      by true more = more
      by false more = omega (arith, more, first)

-- where a group stands, and how often its name is there
record Once (verb k : ℕ) (actions : List Action) (g : Group) : Type 0 where
  lower : k ≤ g.head
  upper : g.head < k + length actions
  calls : at_verb (group_name g.head) verb (groups_of k actions) ≡ bit (verb_of g.vocab == verb)

-- a group among those of the lines from one on has its head among these lines, and is called once,
-- at its own verb
once : (verb k : ℕ) (actions : List Action) (g : Group) (at : ℕ)
    → slice_get (groups_of k actions) at ≡ Some g → k + length actions ≤ 2 ^ 63
    → Once verb k actions g
once verb k [] g at there fits = cc
once verb k (a ∷ actions) g at there fits = by (a.vocab == 0) refl at there
    (λ at there. once verb (k + 1) actions g at there (omega (arith, fits))) where
      by : (plain : Bool) → (a.vocab == 0) ≡ plain → (at : ℕ)
          → slice_get (if plain then groups_of (k + 1) actions
          else record { head = k; vocab = a.vocab; tail = tail_of (k + 1) actions }
          ∷ groups_of (k + 1) actions) at ≡ Some g
          → ((at : ℕ) → slice_get (groups_of (k + 1) actions) at ≡ Some g
          → Once verb (k + 1) actions g)
          → Once verb k (a ∷ actions) g
      by true is at there more = let x = more at there in record {
        lower = omega (arith, x.lower);
        upper = omega (arith, x.upper);
        calls = ap (λ (b : Bool). at_verb (group_name g.head) verb (if b
            then groups_of (k + 1) actions
            else record { head = k; vocab = a.vocab; tail = tail_of (k + 1) actions }
            ∷ groups_of (k + 1) actions)) is ∙ x.calls;
      }
      by false is (suc at) there more = let x = more at there in record {
        lower = omega (arith, x.lower);
        upper = omega (arith, x.upper);
        calls = ap (λ (b : Bool). at_verb (group_name g.head) verb (if b
            then groups_of (k + 1) actions
            else record { head = k; vocab = a.vocab; tail = tail_of (k + 1) actions }
            ∷ groups_of (k + 1) actions)) is
            ∙ omega (
              arith,
              x.calls,
              apart g.head k (omega (arith, x.upper, fits))
                  (omega (arith, fits)) (λ same. absurd (omega (arith, same, x.lower)))
                  (verb_of a.vocab == verb),
            );
      }
      by false is zero there more = subst (Once verb k (a ∷ actions)) (first there) (record {
        lower = omega arith;
        upper = omega arith;
        calls = ap (λ (b : Bool). at_verb (group_name k) verb (if b
            then groups_of (k + 1) actions
            else record { head = k; vocab = a.vocab; tail = tail_of (k + 1) actions }
            ∷ groups_of (k + 1) actions)) is
            ∙ omega (
              arith,
              own k (verb_of a.vocab == verb),
              none_later k verb (k + 1) actions (omega arith) (omega (arith, fits)),
            );
      }) where
        first : Some (record { head = k; vocab = a.vocab; tail = tail_of (k + 1) actions }) ≡ Some g
            → record { head = k; vocab = a.vocab; tail = tail_of (k + 1) actions } ≡ g
        first is = cc

-- ---- a group that is there

-- its verb is there
there_has : (gs : List Group) (at : ℕ) (g : Group) → slice_get gs at ≡ Some g
    → has_verb (verb_of g.vocab) gs ≡ true
there_has [] at g there = cc
there_has (x ∷ gs) zero g there = first there where
  itself : (n : ℕ) → nat_eq n n ≡ true
  itself n = grind arith

  first : Some x ≡ Some g → has_verb (verb_of g.vocab) (x ∷ gs) ≡ true
  first is = subst (λ g. has_verb (verb_of g.vocab) (x ∷ gs) ≡ true) (one is)
      (ap (λ (b : Bool). b || has_verb (verb_of x.vocab) gs) (itself (verb_of x.vocab))) where
        one : Some x ≡ Some g → x ≡ g
        one is = cc
there_has (x ∷ gs) (suc at) g there = later (verb_of x.vocab == verb_of g.vocab)
    (there_has gs at g there) where
      later : (b : Bool) {c : Bool} → c ≡ true → b || c ≡ true
      later true h = refl
      later false h = h

-- the search, the automatic step and the groups have one call of each group
pub groups_are_called_once : GroupsAreCalledOnce
groups_are_called_once db limits g there =
    by (verb_of g.vocab == 0) refl where
      fits : 0 + length db.actions ≤ 2 ^ 63
      fits = omega (arith, few 5000 db.actions limits.sizes.actions)

      each : (verb : ℕ)
          → at_verb (group_name g.head) verb (groups db) ≡ bit (verb_of g.vocab == verb)
      each verb = (once verb 0 db.actions g there.0 there.1 fits).calls

      from_groups : program_calls (group_name g.head)
          (map (λ g. Routine (group_routine db g)) (groups db)) ≡ 0
      from_groups = groups_call g.head db (groups db)

      from_step : demands_calls (group_name g.head) (statements_demands no_loop
          (statements (chances (groups db)))) ≡ bit (verb_of g.vocab == 0)
      from_step = chances_calls (group_name g.head) no_loop (groups db) ∙ each 0

      by : (none : Bool) → (verb_of g.vocab == 0) ≡ none
          → program_calls (group_name g.head) (trying_directives db) ≡ 1
      by true is = omega (
        arith,
        from_groups,
        from_step ∙ ap bit is,
        cases_none (group_name g.head) (switch_in no_loop) (groups db)
            (λ verb some. each verb ∙ ap bit (other verb some)) (groups db),
      ) where
        same_number : (a b : ℕ) → nat_eq a b ≡ true → a ≡ b
        same_number a b h = grind (arith, h)

        turned : (a b : ℕ) → nat_eq a b ≡ nat_eq b a
        turned a b = grind arith

        other : (verb : ℕ) → (verb == 0) ≡ false → (verb_of g.vocab == verb) ≡ false
        other verb some = ap (λ n. n == verb) (same_number (verb_of g.vocab) 0 is)
            ∙ turned 0 verb ∙ some
      by false is = omega (
        arith,
        from_groups,
        from_step ∙ ap bit is,
        cases_one (group_name g.head) (switch_in no_loop) (groups db) (verb_of g.vocab) is each
            (groups db) ∙ ap bit (there_has (groups db) there.0 g there.1),
      )
