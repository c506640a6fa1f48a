-- An index of the heads, and the walk over those of a verb.
use Rattle.std.proofs.Common.{◌≡◌, ◌∙◌, ℕ, ◌+◌, ◌-◌, ◌≤◌, ◌<◌, ◌⊎◌, ◌≢◌, inl, inr, List, [], Option, None, Some, ◌∷◌, ◌++◌, Bool, true, false, cond, length, get_or, set, drop, refl, sym, ap, subst, arith, append_assoc, add-one, drop-cons, reverse, zero, suc}
use Rattle.std.proofs.lemmas.Bool.{cases_eq}
use Rattle.std.proofs.lemmas.List.{length-set, get_or-set_same, get_or-set_other, reverse-append}
use Rattle.std.specs.Prelude.{◌==◌, ◌||◌, is_some, if◌then◌else◌}
use Rattle.inform_signature.proofs.Elements.{element_at}
use Rattle.inform_tree.specs.declared.values.Const.TheVariants.{Number}
use Rattle.inform_tree.specs.declared.statements.Case.{Case}
use Rattle.inform_tree.specs.Statements.{Statement, statements, Cases, MoreCases, case_of, cases_of}
use Rattle.scott_types.specs.declared.parts.Action.{Action}
use Rattle.scott_types.specs.Action.{verb_of, noun_of}
use Rattle.scott_rules.specs.Groups.{Group, tail_of, groups_of}
use Rattle.trans_groups.specs.Search.{group_tries, for_noun, head_tries, verb_tries, has_verb, verb_cases}
use Rattle.trans_groups.specs.Heads.{vocab_at, groups_after, first_head, first_from, next_of, HasFirsts, IsIndexFrom, tries_from, IsHeadOf, IsFound, place_of}

abbrev zero_action : Action
zero_action = record { vocab = 0; conds = []; pairs = [] }

same_number : (m n : ℕ) → (m == n) ≡ true → m ≡ n
same_number m n same = grind (arith, same)

-- a verb has a head where its first one is found
pub found_is_there : (verb : ℕ) (gs : List Group) → has_verb verb gs ≡ is_some (first_head verb gs)
found_is_there verb [] = refl
found_is_there verb (g ∷ gs) = by (verb_of g.vocab == verb) (found_is_there verb gs) where
  by : (same : Bool) → has_verb verb gs ≡ is_some (first_head verb gs)
      → (same || has_verb verb gs)
      ≡ is_some (cond same (Some g.head) (first_head verb gs))
  by true rest = refl
  by false rest = rest

abbrev own_group : ℕ → Action → List Action → Group
own_group k a rest = record { head = k; vocab = a.vocab; tail = tail_of (k + 1) rest }

module _ (actions : List Action) where
  -- the lines from one on begin with it
  abbrev At : ℕ → Action → List Action → Type 0
  At k a rest = (k < length actions) × (vocab_at actions k ≡ a.vocab)
      × (drop (k + 1) actions ≡ rest)

  at : (k : ℕ) (a : Action) (rest : List Action) → drop k actions ≡ a ∷ rest → At k a rest
  at k a rest is = let here = element_at zero_action actions k a rest is in
      (here.0, ap (λ a. a.vocab) here.1, here.2)

  module _ (verb : ℕ) where
    -- what is found from a line on is the first head of the verb, and the others come after it
    pub record Found (k : ℕ) (o : Option ℕ) (tries : List Statement) : Type 0 where
      pub is_head : IsFound actions verb o
      pub after : k ≤ place_of actions o
      pub tries_are : tries ≡ tries_from actions verb o

    later : {k : ℕ} {o : Option ℕ} {tries : List Statement} → Found (k + 1) o tries
        → Found k o tries
    later f =
        record { is_head = f.is_head; after = omega (arith, f.after); tries_are = f.tries_are }

    found : (k : ℕ) (rest : List Action) → k ≤ length actions → drop k actions ≡ rest
        → Found k (first_head verb (groups_of k rest)) (verb_tries verb (groups_of k rest))
    found k [] less is = record { is_head = tt; after = less; tries_are = refl }
    found k (a ∷ rest) less is =
        by (a.vocab == 0) refl (found (k + 1) rest (omega (arith, here.0)) here.2) where
          here : At k a rest
          here = at k a rest is

          of_head : (a.vocab == 0) ≡ false → (same : Bool) → (verb_of a.vocab == verb) ≡ same
              → Found (k + 1) (first_head verb (groups_of (k + 1) rest)) (verb_tries verb (groups_of (k + 1) rest))
              → Found k (if same then Some k else first_head verb (groups_of (k + 1) rest))
              (if same then head_tries (noun_of a.vocab) k (verb_tries verb (groups_of (k + 1) rest))
              else verb_tries verb (groups_of (k + 1) rest))
          of_head zeros false is_verb f = later f
          of_head zeros true is_verb f = record {
            is_head = record {
              there = here.0;
              is_head = ap (λ v. v == 0) here.1 ∙ zeros;
              has_verb = ap verb_of here.1 ∙ same_number (verb_of a.vocab) verb is_verb;
            };
            after = omega arith;
            tries_are = ap (λ v. head_tries (noun_of v) k (verb_tries verb (groups_of (k + 1) rest))) (sym here.1)
                ∙ ap (λ rest. head_tries (noun_of (vocab_at actions k)) k
                (verb_tries verb (groups_of (k + 1) rest))) (sym here.2);
          }

          by : (plain : Bool) → (a.vocab == 0) ≡ plain
              → Found (k + 1) (first_head verb (groups_of (k + 1) rest)) (verb_tries verb (groups_of (k + 1) rest))
              → Found k (first_head verb (if plain then groups_of (k + 1) rest else own_group k a rest ∷ groups_of (k + 1) rest))
              (verb_tries verb (if plain then groups_of (k + 1) rest else own_group k a rest ∷ groups_of (k + 1) rest))
          by true zeros f = later f
          by false zeros f = of_head zeros (verb_of a.vocab == verb) refl f

    pub found_from : (k : ℕ) → k ≤ length actions
        → Found k (first_from actions verb k) (verb_tries verb (groups_after actions k))
    found_from k less = found k (drop k actions) less refl

  -- ---- the index grows

  vocab_here : (k : ℕ) → k < length actions
      → drop k actions ≡ get_or actions k zero_action ∷ drop (k + 1) actions
  vocab_here k less = drop-cons actions k zero_action less
      ∙ ap (λ n. get_or actions k zero_action ∷ drop n actions) (sym (add-one k))

  -- the first heads with that of one verb put before
  abbrev put : (ℕ → Option ℕ) → ℕ → ℕ → ℕ → Option ℕ
  put firsts own k verb = if own == verb then Some k else firsts verb

  -- an index of the lines from one on becomes one from the line before on, with that line's entries
  pub index_step : (line : ℕ) (before after : ℕ → Option ℕ) (nexts : List (Option ℕ))
      (next : Option ℕ) → 0 < line → line - 1 < length actions
      → IsIndexFrom actions line before nexts → HasFirsts actions (line - 1) after
      → next ≡ next_of actions (line - 1)
      → IsIndexFrom actions (line - 1) after (set nexts (line - 1) next)
  index_step line before after nexts next some there index firsts is_next = record {
    whole = length-set nexts (line - 1) next ∙ index.whole;
    has_firsts = firsts;
    has_nexts = λ head from less. by head from less (cases_eq head (line - 1));
  } where
    by : (head : ℕ) → line - 1 ≤ head → head < length actions
        → (head ≡ line - 1) ⊎ (head ≢ line - 1)
        → get_or (set nexts (line - 1) next) head None ≡ next_of actions head
    by head from less (inl same) =
        rw (same, get_or-set_same nexts (line - 1) next None (omega (arith, index.whole, there)))
        is_next
    by head from less (inr other) =
        get_or-set_other nexts (line - 1) head next None other
        ∙ index.has_nexts head (omega (arith, from, other)) less

  pub firsts_after : (line : ℕ) (firsts : ℕ → Option ℕ) → 0 < line
      → HasFirsts actions line firsts → HasFirsts actions ((line - 1) + 1) firsts
  firsts_after line firsts some has = let same : line ≡ (line - 1) + 1 = omega (arith, some) in
      subst (λ n. HasFirsts actions n firsts) same has

-- ---- a walk over the heads of a verb

heads_join : (own head : ℕ) (after : List Statement)
    → head_tries own head after ≡ head_tries own head [] ++ after
heads_join own head after = by (own == 0) where
  by : (plain : Bool) → (if plain then group_tries head after else for_noun own head ∷ after)
      ≡ (if plain then group_tries head [] else for_noun own head ∷ []) ++ after
  by true = refl
  by false = refl

module _ (actions : List Action) (verb : ℕ) where
  -- the walk begins at the first head
  pub begun : (first : Option ℕ) → first ≡ first_from actions verb 0
      → IsFound actions verb first
      × (tries_from actions verb first ≡ verb_tries verb (groups_of 0 actions))
  begun first is = let found = found_from actions verb 0 (omega arith) in
      subst (λ o. IsFound actions verb o
      × (tries_from actions verb o ≡ verb_tries verb (groups_of 0 actions))) (sym is)
      (found.is_head, sym found.tries_are)

  -- after a head comes the next one of its verb
  next_found : (line : ℕ) (next : Option ℕ) → IsHeadOf actions verb line
      → next ≡ next_of actions line → Found actions verb (line + 1) next
      (verb_tries verb (groups_after actions (line + 1)))
  next_found line next head is = subst (λ o. Found actions verb (line + 1) o
      (verb_tries verb (groups_after actions (line + 1)))) (sym same)
      (found_from actions verb (line + 1) (omega (arith, head.there))) where
        same : next ≡ first_from actions verb (line + 1)
        same = is ∙ ap (λ (b : Bool). if b then None
            else first_from actions (verb_of (vocab_at actions line)) (line + 1)) head.is_head
            ∙ ap (λ verb. first_from actions verb (line + 1)) head.has_verb

  module _ (o next : Option ℕ) (line : ℕ) (at_line : o ≡ Some line)
      (is_next : next ≡ next_of actions line) where
    -- what was tried, the head, and what is left after it
    pub walked : (xs ys all : List Statement)
        → IsFound actions verb o × (xs ++ tries_from actions verb o ≡ all)
        → ys ≡ xs ++ head_tries (noun_of (vocab_at actions line)) line []
        → IsFound actions verb next × (ys ++ tries_from actions verb next ≡ all)
    walked xs ys all stands grown = (
      found.is_head,
      ap (λ ys. ys ++ tries_from actions verb next) grown
          ∙ append_assoc xs (head_tries (noun_of (vocab_at actions line)) line [])
          (tries_from actions verb next)
          ∙ ap (λ ts. xs ++ ts) (sym (heads_join (noun_of (vocab_at actions line)) line
          (tries_from actions verb next))
          ∙ ap (λ ts. head_tries (noun_of (vocab_at actions line)) line ts) (sym found.tries_are))
          ∙ ap (λ o. xs ++ tries_from actions verb o) (sym at_line) ∙ stands.1,
    ) where
      found : Found actions verb (line + 1) next
          (verb_tries verb (groups_after actions (line + 1)))
      found = next_found line next (subst (IsFound actions verb) at_line stands.0) is_next

    -- and it comes later
    pub walked_on : IsFound actions verb o
        → length actions - place_of actions next < length actions - place_of actions o
    walked_on stands = let head : IsHeadOf actions verb line =
        subst (IsFound actions verb) at_line stands in
        let found = next_found line next head is_next in
        let here : place_of actions o ≡ line = ap (place_of actions) at_line in
        omega (arith, here, head.there, found.after)

-- ---- the cases

module _ (actions : List Action) (gs : List Group) (k : ℕ) (less : k < length actions) where
  abbrev verb_here : ℕ
  verb_here = verb_of (vocab_at actions k)

  abbrev later_cases : Cases
  later_cases = verb_cases gs (groups_after actions (k + 1))

  abbrev cases_by : Bool → Bool → Cases
  cases_by plain others =
      if plain then later_cases else if others then later_cases
      else MoreCases ((Number verb_here, None) ∷ []) (statements (verb_tries verb_here gs))
      later_cases

  -- the cases from a line on
  cases_here : verb_cases gs (groups_after actions k)
      ≡ cases_by (vocab_at actions k == 0)
      (verb_here == 0 || has_verb verb_here (groups_after actions (k + 1)))
  cases_here = ap (λ rest. verb_cases gs (groups_of k rest)) (vocab_here actions k less)
      ∙ by (vocab_at actions k == 0) where
        by : (plain : Bool) → verb_cases gs (if plain then groups_after actions (k + 1)
            else own_group k (get_or actions k zero_action) (drop (k + 1) actions)
            ∷ groups_after actions (k + 1))
            ≡ cases_by plain (verb_here == 0 || has_verb verb_here (groups_after actions (k + 1)))
        by true = refl
        by false = refl

  abbrev more_heads : Bool
  more_heads = has_verb verb_here (groups_after actions (k + 1))

  settled : (plain none more : Bool) → (plain ≡ true) ⊎ (none ≡ true) ⊎ (more ≡ true)
      → cases_by plain (none || more) ≡ later_cases
  settled true none more why = refl
  settled false true more why = refl
  settled false false true why = refl
  settled false false false (inl why) = absurd (grind (arith, why))
  settled false false false (inr (inl why)) = absurd (grind (arith, why))
  settled false false false (inr (inr why)) = absurd (grind (arith, why))

  -- a head has a further head of its verb where one is next
  next_is_more : (vocab_at actions k == 0) ≡ false → more_heads ≡ is_some (next_of actions k)
  next_is_more head = found_is_there verb_here (groups_after actions (k + 1))
      ∙ ap (λ (b : Bool). is_some (if b then None else first_from actions verb_here (k + 1)))
      (sym head)

  -- where the line is no head, or not the last one of its verb, or its verb is 0
  pub no_case : (vocab_at actions k == 0) ≡ true ⊎ (verb_here == 0) ≡ true
      ⊎ is_some (next_of actions k) ≡ true
      → verb_cases gs (groups_after actions k) ≡ later_cases
  no_case why = cases_here ∙ settled (vocab_at actions k == 0) (verb_here == 0) more_heads
      (by (vocab_at actions k == 0) refl why) where
        by : (plain : Bool) → (vocab_at actions k == 0) ≡ plain
            → plain ≡ true ⊎ (verb_here == 0) ≡ true ⊎ is_some (next_of actions k) ≡ true
            → plain ≡ true ⊎ (verb_here == 0) ≡ true ⊎ more_heads ≡ true
        by true is why = inl refl
        by false is (inl plain) = inl plain
        by false is (inr (inl none)) = inr (inl none)
        by false is (inr (inr more)) = inr (inr (next_is_more is ∙ more))

  pub one_case : (vocab_at actions k == 0) ≡ false → (verb_here == 0) ≡ false
      → is_some (next_of actions k) ≡ false → verb_cases gs (groups_after actions k)
      ≡ MoreCases ((Number verb_here, None) ∷ []) (statements (verb_tries verb_here gs))
      later_cases
  one_case head verb last = cases_here
      ∙ ap (λ (b : Bool). cases_by b (verb_here == 0 || more_heads)) head
      ∙ ap (λ (b : Bool). cases_by false (b || more_heads)) verb
      ∙ ap (λ (b : Bool). cases_by false b) (next_is_more head ∙ last)

-- ---- a case after those that were put

case_put : (xs : List Case) (x : Case) → cases_of (reverse (xs ++ x ∷ []))
    ≡ MoreCases (case_of x).0 (case_of x).1 (cases_of (reverse xs))
case_put xs x = ap cases_of (reverse-append xs (x ∷ []))

verb_of_none : (vocab : ℕ) → verb_of vocab ≢ 0 → (vocab == 0) ≡ false
verb_of_none zero some = absurd (some refl)
verb_of_none (suc n) some = grind arith

not_zero : (n : ℕ) → n ≢ 0 → (n == 0) ≡ false
not_zero zero some = absurd (some refl)
not_zero (suc n) some = grind arith

module _ (actions : List Action) (line : ℕ) (less : line < length actions)
    (some : verb_of (vocab_at actions line) ≢ 0) (next : Option ℕ)
    (is_next : next ≡ next_of actions line) (xs : List Case)
    (so_far : cases_of (reverse xs)
    ≡ verb_cases (groups_of 0 actions) (groups_after actions (line + 1))) where
  -- a head after which one of its verb comes has no case
  pub not_last : (later : ℕ) → next ≡ Some later → cases_of (reverse xs)
      ≡ verb_cases (groups_of 0 actions) (groups_after actions line)
  not_last later is = so_far ∙ sym (no_case actions (groups_of 0 actions) line less
      (inr (inr (ap is_some (sym is_next ∙ is)))))

  -- the last one of its verb has the case of it
  pub last : next ≡ None → (x : Case) (ys : List Case) → ys ≡ xs ++ x ∷ []
      → case_of x ≡ (
        (Number (verb_of (vocab_at actions line)), None) ∷ [],
        statements (verb_tries (verb_of (vocab_at actions line)) (groups_of 0 actions)),
      )
      → cases_of (reverse ys) ≡ verb_cases (groups_of 0 actions) (groups_after actions line)
  last is x ys grown own = ap (λ ys. cases_of (reverse ys)) grown ∙ case_put xs x
      ∙ ap (λ c. MoreCases c.0 c.1 (cases_of (reverse xs))) own
      ∙ ap (MoreCases ((Number (verb_of (vocab_at actions line)), None) ∷ [])
      (statements (verb_tries (verb_of (vocab_at actions line)) (groups_of 0 actions)))) so_far
      ∙ sym (one_case actions (groups_of 0 actions) line less
      (verb_of_none (vocab_at actions line) some) (not_zero (verb_of (vocab_at actions line)) some)
      (ap is_some (sym is_next ∙ is)))
