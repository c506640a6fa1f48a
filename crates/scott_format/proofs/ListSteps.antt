-- The steps by which a list is read on, for any kind of entry, where bytes come in pieces.
use Rattle.std.proofs.Common.{◌≡◌, ℕ, zero, suc, ◌+◌, ◌-◌, ◌≤◌, ◌<◌, Bool, true, false, eqb, inl, inr, List, [], ◌∷◌, ◌++◌, length, Result, Ok, Err, refl, sym, ap, subst, ◌∙◌, length-append, arith}
use Rattle.std.proofs.lemmas.Bool.{eqb-true, eqb-false}
use Rattle.std.proofs.lemmas.Bool.Decides.{leb_tells}
use Rattle.adv_text.specs.Reading.{Input, input, with_more, no_number, big_number, no_quote, open_string, long_string}
use Rattle.scott_types.specs.Database.{Database}
use Rattle.scott_format.specs.declared.faults.FormatFault.{FormatFault}
use Rattle.scott_format.specs.declared.faults.FormatFault.TheVariants as answer
use Rattle.scott_format.specs.declared.stops.Due.{Due}
use Rattle.scott_format.specs.declared.stops.Stop.{Stop}
use Rattle.scott_format.specs.declared.stops.Stop.TheVariants as stop
use Rattle.scott_format.specs.Faults.{Fault, text, limit, no_start, negative_action, fault_answer}
use Rattle.scott_format.specs.Plan.{Plan, done, ◌>>=◌, many, run}
use Rattle.scott_format.specs.Reading.{Stands}
use Rattle.scott_format.specs.Pieces.{settles, missing, IsFaultOf, IsSteady, IsDue, Moves, Advances, Takes, list_from, list_then}
use Rattle.scott_format.specs.TextLaws.{TextLaws}
use Rattle.scott_format.proofs.Plans.{and_then, run-then, run-ok, Stands-then}
use Rattle.scott_format.proofs.Loop.{with_prefix, goes_on, ends, many-suc}
use Rattle.scott_format.proofs.Answered.{fault_or_memory}
use Rattle.scott_format.proofs.Staying.{ends_by, value_stays, fault_stays}

-- ---- faults that are known

pub stands_by : {A : Type 0} (fault : Fault) (r : Result A Fault) → r ≡ Err fault → Stands (fault_answer fault) r
stands_by (text (no_number at)) r e = e
stands_by (text (big_number at)) r e = e
stands_by (text (no_quote at)) r e = e
stands_by (text (open_string at)) r e = e
stands_by (text (long_string at)) r e = e
stands_by (limit field value) r e = e
stands_by (no_start value) r e = e
stands_by (negative_action k) r e = e

pub is_fault_by : {A : Type 0} (fault : Fault) (r : Result A Fault) → r ≡ Err fault → IsFaultOf (fault_answer fault) r
is_fault_by (text (no_number at)) r e = e
is_fault_by (text (big_number at)) r e = e
is_fault_by (text (no_quote at)) r e = e
is_fault_by (text (open_string at)) r e = e
is_fault_by (text (long_string at)) r e = e
is_fault_by (limit field value) r e = e
is_fault_by (no_start value) r e = e
is_fault_by (negative_action k) r e = e

-- ---- one entry

positive : (n : ℕ) → (n ≡ 0 → ⊥) → 0 < n
positive zero h = absurd (h refl)
positive (suc n) h = omega arith

pub the_spot : (t s : Input) (at : ℕ) (rest : List ℕ) → t ≡ input at rest → at ≡ s.at → rest ≡ s.rest → t ≡ s
the_spot t s at rest e f g = e ∙ (λ i. input (f i) (g i))

nothing_left : (q : Plan Database) (then : Due) (at : ℕ) (rest : List ℕ) → length rest ≡ 0 → run q (input at []) ≡ Err (missing then at) → run q (input at rest) ≡ Err (missing then at)
nothing_left q then at [] none e = e
nothing_left q then at (b ∷ rest) none e = absurd (omega (arith, none))

module _ {X : Type 0} (p : Plan X) (s : Input) where
  -- an entry that ends where the bytes end
  pub entry_ends : (go_on : X → Plan Database) (then : Due) (mid : Input) (x : X) → run p s ≡ Ok (x, mid) → length mid.rest ≡ 0 → IsDue then (go_on x)
      → IsFaultOf (fault_answer (missing then mid.at)) (run (p >>= go_on) s)
  entry_ends go_on then mid x e none due =
      let at_end : run (go_on x) mid ≡ Err (missing then mid.at) = nothing_left (go_on x) then mid.at mid.rest none (due mid.at) in
      is_fault_by (missing then mid.at) (run (p >>= go_on) s) (run-ok go_on p s mid x e ∙ at_end)

  -- a fault that more bytes may change
  pub entry_cut : (go_on : X → Plan Database) (fault : FormatFault) → Stands fault (run p s) → settles fault s ≡ false → IsFaultOf fault (run (p >>= go_on) s)
  entry_cut go_on fault h changes =
      elim (fault_or_memory fault (run p s) h) [
        | inl e ↦ absurd (let not_memory : true ≡ false = ap (λ f. settles f s) (sym e) ∙ changes in cc)
        | inr f ↦
            subst (λ (g : FormatFault). IsFaultOf g (run (p >>= go_on) s)) (sym f.1)
            (is_fault_by f.0 (run (p >>= go_on) s) (run-then go_on p s ∙ ap (λ r. and_then r (λ x after. run (go_on x) after)) f.2))
      ]

  -- an entry that a byte follows
  pub entry_taken : (laws : TextLaws) (then : Due) (mid : Input) (x : X) → IsSteady p → run p s ≡ Ok (x, mid) → 0 < length mid.rest → Takes p then s (Ok x) mid
  entry_taken laws then mid x steady e some = (ends_by laws p s mid x steady e, λ more. value_stays laws more p s mid x steady e some)

  -- a fault that stays
  pub entry_stops : (laws : TextLaws) (fault : FormatFault) → IsSteady p → Stands fault (run p s) → settles fault s ≡ true
      → (more : List ℕ) → Stands fault (run p (with_more s more))
  entry_stops laws fault steady h settled more =
      elim (fault_or_memory fault (run p s) h) [
        | inl e ↦ subst (λ (g : FormatFault). Stands g (run p (with_more s more))) (sym e) tt
        | inr f ↦
            subst (λ (g : FormatFault). Stands g (run p (with_more s more))) (sym f.1)
            (stands_by f.0 (run p (with_more s more)) (fault_stays laws more p s f.0 steady f.2 (ap (λ g. settles g s) (sym f.1) ∙ settled)))
      ]

-- the same of what a function found
module _ {X : Type 0} (p : Plan X) (s t : Input) (same : t ≡ s) where
  pub entry_ended : (x : X) (mid : Input) (then : Due) (fault : FormatFault) (at : ℕ) (rest : List ℕ) (empty : Bool) → run p t ≡ Ok (x, mid)
      → fault ≡ fault_answer (missing then at) → at ≡ mid.at → rest ≡ mid.rest → empty ≡ eqb (length rest) 0 → empty ≡ true
      → (go_on : X → Plan Database) → ((x : X) → IsDue then (go_on x)) → IsFaultOf fault (run (p >>= go_on) s)
  entry_ended x mid then fault at rest empty e is where_at left test holds go_on due =
      let none : length rest ≡ 0 = eqb-true _ _ (sym test ∙ holds) in
      subst (λ (f : FormatFault). IsFaultOf f (run (p >>= go_on) s)) (sym (is ∙ ap (λ (a : ℕ). fault_answer (missing then a)) where_at))
      (entry_ends p s go_on then mid x (subst (λ (u : Input). run p u ≡ Ok (x, mid)) same e) (sym (ap (λ (r : List ℕ). length r) left) ∙ none) (due x))

  pub entry_was_taken : (laws : TextLaws) (then : Due) (x : X) (mid : Input) (rest : List ℕ) (empty : Bool) → IsSteady p → run p t ≡ Ok (x, mid)
      → rest ≡ mid.rest → empty ≡ eqb (length rest) 0 → empty ≡ false → Takes p then s (Ok x) mid
  entry_was_taken laws then x mid rest empty steady e left test holds =
      let some : length rest ≡ 0 → ⊥ = eqb-false _ _ (sym test ∙ holds) in
      let size : length rest ≡ length mid.rest = ap (λ (r : List ℕ). length r) left in
      entry_taken p s laws then mid x steady (subst (λ (u : Input). run p u ≡ Ok (x, mid)) same e) (positive (length mid.rest) (λ none. some (size ∙ none)))

  pub stands_here : (fault : FormatFault) → Stands fault (run p t) → Stands fault (run p s)
  stands_here fault h = subst (λ (u : Input). Stands fault (run p u)) same h

-- ---- plans that read the same

abbrev pub Same : {X : Type 0} → Plan X → Plan X → Type 0
Same p q = (s : Input) → run p s ≡ run q s

pub same_then : {X Y : Type 0} (p q : Plan X) (f g : X → Plan Y) → Same p q → ((x : X) → Same (f x) (g x)) → Same (p >>= f) (q >>= g)
same_then {X = X} {Y = Y} p q f g h k s =
    run-then f p s ∙ ap (λ (r : Result (X × Input) Fault). and_then r (λ x after. run (f x) after)) (h s) ∙ onward (run q s) ∙ sym (run-then g q s)
  where
    onward : (r : Result (X × Input) Fault) → and_then r (λ x after. run (f x) after) ≡ and_then r (λ x after. run (g x) after)
    onward (Ok x) = k x.0 x.1
    onward (Err fault) = refl

pub move_on : {X : Type 0} (p q t : Plan X) (s mid after : Input) → Moves p s q mid → Moves q mid t after → Moves p s t after
move_on p q t s mid after h k = record { ends = k.ends ∙ h.ends; reads = λ more. h.reads more ∙ k.reads more }

same_move : {X : Type 0} (p p' q q' : Plan X) (s after : Input) → Same p p' → Same q q' → Moves p' s q' after → Moves p s q after
same_move p p' q q' s after h k a = record { ends = a.ends; reads = λ more. h (with_more s more) ∙ a.reads more ∙ sym (k (with_more after more)) }

pub stay : {X : Type 0} (p : Plan X) (s after : Input) → after ≡ s → Moves p s p after
stay p s after e = record {
  ends = ap (λ (t : Input). t.at + length t.rest) e;
  reads = λ more. ap (λ (t : Input). run p (with_more t more)) (sym e);
}

-- what moves on can move on further
pub moves_then : {T X : Type 0} (p q t : Plan X) (s mid after : Input) (r : Result T Stop) → Moves p s q mid → Advances q mid r t after → Advances p s r t after
moves_then p q t s mid after (Ok given) h k = move_on p q t s mid after h k
moves_then p q t s mid after (Err (stop.Cut fault)) h k = (move_on p q t s mid after h k.0, k.1)
moves_then {X = X} p q t s mid after (Err (stop.Fault fault)) h k =
    λ more. subst (λ (r : Result (X × Input) Fault). Stands fault r) (sym (h.reads more)) (k more)

-- plans are as good as those that read the same
pub same_advances : {T X : Type 0} (p p' q q' : Plan X) (s after : Input) (r : Result T Stop) → Same p p' → Same q q' → Advances p' s r q' after → Advances p s r q after
same_advances p p' q q' s after (Ok given) h k a = same_move p p' q q' s after h k a
same_advances {X = X} p p' q q' s after (Err (stop.Cut fault)) h k a = (
  same_move p p' q q' s after h k a.0,
  subst (λ (r : Result (X × Input) Fault). IsFaultOf fault r) (sym (k after)) a.1,
)
same_advances {X = X} p p' q q' s after (Err (stop.Fault fault)) h k a =
    λ more. subst (λ (r : Result (X × Input) Fault). Stands fault r) (sym (h (with_more s more))) (a more)

-- ---- a list

module _ {X : Type 0} (piece : ℕ → Plan X) (n : ℕ) where
  prefixed : (entries : List X) (r : Result (List X × Input) Fault) → and_then r (λ rest after. Ok (entries ++ rest, after)) ≡ with_prefix entries r
  prefixed entries (Ok x) = refl
  prefixed entries (Err fault) = refl

  pub list_run : (entries : List X) (s : Input) → run (list_from piece n entries) s ≡ with_prefix entries (run (many piece (length entries) (n - length entries)) s)
  list_run entries s =
      run-then (λ rest. done (entries ++ rest)) (many piece (length entries) (n - length entries)) s
      ∙ prefixed entries (run (many piece (length entries) (n - length entries)) s)

  -- one entry more was read
  one_read : (entries : List X) (x : X) (s after : Input) → length entries < n → run (piece (length entries)) s ≡ Ok (x, after)
      → run (list_from piece n entries) s ≡ run (list_from piece n (entries ++ x ∷ [])) after
  one_read entries x s after less e =
      let k = length entries in
      let size : length (entries ++ x ∷ []) ≡ k + 1 = length-append entries (x ∷ []) in
      let on : with_prefix (entries ++ x ∷ []) (run (many piece (k + 1) (n - (k + 1))) after) ≡ run (list_from piece n entries) s =
      goes_on piece entries x k n s after _ less e (sym (list_run entries s)) in
      sym on
      ∙ ap (λ (j : ℕ). with_prefix (entries ++ x ∷ []) (run (many piece j (n - j)) after)) (sym size)
      ∙ sym (list_run (entries ++ x ∷ []) after)

  -- the next entry has a fault
  none_read : (entries : List X) (s : Input) (fault : Fault) → length entries < n → run (piece (length entries)) s ≡ Err fault → run (list_from piece n entries) s ≡ Err fault
  none_read entries s fault less e =
      let k = length entries in
      let count : n - k ≡ suc (n - (k + 1)) = omega arith in
      let m = n - (k + 1) in
      list_run entries s
      ∙ ap (with_prefix entries) (ap (λ (j : ℕ). run (many piece k j) s) count ∙ ap (λ (q : Plan (List X)). run q s) (many-suc piece k m)
      ∙ run-then (λ x. many piece (k + 1) m >>= λ xs. done (x ∷ xs)) (piece k) s
      ∙ ap (λ (r : Result (X × Input) Fault). and_then r (λ x after. run (many piece (k + 1) m >>= λ xs. done (x ∷ xs)) after)) e)

  -- a list that is full is what it is
  pub list_full : {Y : Type 0} (go_on : List X → Plan Y) (entries : List X) → n ≤ length entries → Same (list_from piece n entries >>= go_on) (go_on entries)
  list_full go_on entries full s =
      run-ok go_on (list_from piece n entries) s s entries (ends piece entries (length entries) n s _ full (sym (list_run entries s)))

  module _ (go_on : List X → Plan Database) (entries : List X) (less : length entries < n) where
    abbrev whole : List X → Plan Database
    whole now = list_from piece n now >>= go_on

    -- an entry is read, and then the others
    unrolled : Same (whole entries) (piece (length entries) >>= λ x. whole (entries ++ x ∷ []))
    unrolled s = cases (run (piece (length entries)) s) refl
      where
        cases : (r : Result (X × Input) Fault) → run (piece (length entries)) s ≡ r → run (whole entries) s ≡ run (piece (length entries) >>= λ x. whole (entries ++ x ∷ [])) s
        cases (Ok x) e =
            run-then go_on (list_from piece n entries) s
            ∙ ap (λ (r : Result (List X × Input) Fault). and_then r (λ xs after. run (go_on xs) after)) (one_read entries x.0 s x.1 less e)
            ∙ sym (run-then go_on (list_from piece n (entries ++ x.0 ∷ [])) x.1)
            ∙ sym (run-ok (λ x. whole (entries ++ x ∷ [])) (piece (length entries)) s x.1 x.0 e)
        cases (Err fault) e =
            run-then go_on (list_from piece n entries) s
            ∙ ap (λ (r : Result (List X × Input) Fault). and_then r (λ xs after. run (go_on xs) after)) (none_read entries s fault less e)
            ∙ sym (run-then (λ x. whole (entries ++ x ∷ [])) (piece (length entries)) s
            ∙ ap (λ (r : Result (X × Input) Fault). and_then r (λ x after. run (whole (entries ++ x ∷ [])) after)) e)

    pub entry_moves : (then : Due) (x : X) (s after : Input) → Takes (piece (length entries)) then s (Ok x) after → Moves (whole entries) s (whole (entries ++ x ∷ [])) after
    entry_moves then x s after h = record {
      ends = h.0;
      reads = λ more. unrolled (with_more s more)
          ∙ run-ok (λ x. whole (entries ++ x ∷ [])) (piece (length entries)) (with_more s more) (with_more after more) x (h.1 more);
    }

    -- a list that isn't full begins as its entries do
    pub list_due : (what : Due) → IsDue what (piece (length entries)) → IsDue what (whole entries)
    list_due what due at =
        unrolled (input at []) ∙ run-then (λ x. whole (entries ++ x ∷ [])) (piece (length entries)) (input at [])
        ∙ ap (λ (r : Result (X × Input) Fault). and_then r (λ x after. run (whole (entries ++ x ∷ [])) after)) (due at)

    -- where no entry could be read, none of the list
    pub list_stops : (T : Type 0) (then : Due) (s after : Input) (why : Stop) → ((x : X) → IsDue then (whole (entries ++ x ∷ [])))
        → Takes (piece (length entries)) then s (Err why) after → Advances {T = T} (whole entries) s (Err why) (whole entries) after
    list_stops T then s after (stop.Cut fault) due h = (
      stay (whole entries) s after h.0,
      subst (λ (t : Input). IsFaultOf fault (run (whole entries) t)) (sym h.0)
          (subst (λ (r : Result (Database × Input) Fault). IsFaultOf fault r) (sym (unrolled s)) (h.1 (λ x. whole (entries ++ x ∷ [])) due)),
    )
    list_stops T then s after (stop.Fault fault) due h =
        λ more. subst (λ (r : Result (Database × Input) Fault). Stands fault r) (sym (unrolled (with_more s more)))
        (Stands-then (λ x. whole (entries ++ x ∷ [])) (piece (length entries)) (with_more s more) fault (h more))

  -- what is due after an entry: another one, or what is due after the list
  pub due_then : (go_on : List X → Plan Database) (then next : Due) (entries : List X) → length entries < n → ((all : List X) → IsDue then (go_on all))
      → (length entries + 1 < n → (j : ℕ) → IsDue next (piece j)) → (n ≤ length entries + 1 → next ≡ then)
      → (x : X) → IsDue next (list_from piece n (entries ++ x ∷ []) >>= go_on)
  due_then go_on then next entries less due another last x =
      let size : length (entries ++ x ∷ []) ≡ length entries + 1 = length-append entries (x ∷ []) in
      elim (leb_tells n (length entries + 1)) [
        | inl h ↦ λ at.
            list_full go_on (entries ++ x ∷ []) (omega (arith, h.1, size)) (input at [])
            ∙ due (entries ++ x ∷ []) at ∙ ap (λ (d : Due). Err (missing d at)) (sym (last h.1))
        | inr h ↦ list_due go_on (entries ++ x ∷ []) (omega (arith, h.1, size)) next (another h.1 _)
      ]

-- ---- the loop

module _ {X : Type 0} (piece : ℕ → Plan X) (highest : ℕ) (start now : List X) (k : ℕ) (s₀ s after : Input)
    (is : k ≡ length now) (less : length now < highest + 1)
    (so_far : (go_on : List X → Plan Database) → Moves (list_then piece (highest + 1) start go_on) s₀ (list_then piece (highest + 1) now go_on) s) where
  pub list_goes : (x : X) (new : List X) (due : Due) → new ≡ now ++ x ∷ [] → Takes (piece k) due s (Ok x) after
      → (go_on : List X → Plan Database) → Moves (list_then piece (highest + 1) start go_on) s₀ (list_then piece (highest + 1) new go_on) after
  list_goes x new due items h go_on =
      subst (λ (xs : List X). Moves (list_then piece (highest + 1) start go_on) s₀ (list_then piece (highest + 1) xs go_on) after) (sym items)
      (move_on _ _ _ s₀ s after (so_far go_on)
      (entry_moves piece (highest + 1) go_on now less due x s after (subst (λ (j : ℕ). Takes (piece j) due s (Ok x) after) is h)))

  pub list_halts : (T : Type 0) (then due : Due) (why : Stop) → length start ≤ length now → (k < highest → (j : ℕ) → IsDue due (piece j)) → (highest ≤ k → due ≡ then)
      → Takes (piece k) due s (Err why) after
      → (go_on : List X → Plan Database) → (length start < highest + 1 → (all : List X) → IsDue then (go_on all))
      → Advances {T = T} (list_then piece (highest + 1) start go_on) s₀ (Err why) (list_then piece (highest + 1) now go_on) after
  list_halts T then due why grew another last h go_on after_list =
      moves_then {T = T} _ _ _ s₀ s after (Err why) (so_far go_on)
      (list_stops piece (highest + 1) go_on now less T due s after why
      (due_then piece (highest + 1) go_on then due now less (after_list (omega arith)) (λ more. another (omega (arith, more, is))) (λ full. last (omega (arith, full, is))))
      (subst (λ (j : ℕ). Takes (piece j) due s (Err why) after) is h))
