-- A line changes one seat of a hall, and leaves all where they would stand alone.
use Rattle.std.proofs.Common.{◌≡◌, ◌≢◌, ◌∙◌, ℕ, zero, suc, ◌+◌, ◌-◌, ◌<◌, ◌≤◌, ◌⊎◌, inl, inr, Bool, true, false, cond, eqb, List, [], ◌∷◌, ◌++◌, Option, Some, None, refl, sym, ap, arith}
use Rattle.std.specs.Prelude.{slice_get, slice_set, ◌==◌, bytes_eq}
use Rattle.std.specs.List.{filter_map}
use Rattle.std.specs.Fmt.{decimal}
use Rattle.std.proofs.lemmas.Bool.{cases_eq, eq-eqb, eqb-true}
use Rattle.std.proofs.lemmas.List.{append-nil}
use Rattle.std.proofs.lemmas.List.Elements.{filter_map-append}
use Rattle.scott_types.specs.Database.{Database}
use Rattle.scott_rules.specs.Commands.{Span, next_word, word_at}
use Rattle.adv_hall.specs.declared.halls.Seat.{Seat}
use Rattle.adv_hall.specs.declared.addressing.Address.{Address}
use Rattle.adv_hall.specs.Address.{number_among, addressed, address_by, address_of, after_word}
use Rattle.adv_hall.specs.Seats.{seat_opened, seats_opened, seat_after}
use Rattle.adv_hall.specs.Alone.{line_if, lines_for}
use Rattle.adv_hall.specs.Laws.{seat_alone, seats_alone, EachHearsAlone, GoesOnAlone, HallGoesOnAlone, HallBeginsAlone}

-- ---- the number of a session

-- a word that is the number of a session is one from 1 to as many as there are
pub number-range : (count : ℕ) (word : List ℕ) (k : ℕ) → number_among count word ≡ Some k → (1 ≤ k)
    × (k ≤ count)
number-range zero word k is = absurd (cc)
number-range (suc n) word k is = by (bytes_eq (decimal (suc n)) word) (number-range n word k) is
  where
    some-same : (x y : ℕ) → Some x ≡ Some y → x ≡ y
    some-same x y e = cc

    by : (q : Bool) → (number_among n word ≡ Some k → (1 ≤ k) × (k ≤ n))
        → cond q (Some (suc n)) (number_among n word) ≡ Some k → (1 ≤ k) × (k ≤ suc n)
    by true below e = let same : suc n ≡ k = some-same (suc n) k e in (omega arith, omega arith)
    by false below e = let range = below e in (range.0, omega (arith, range.1))

-- ---- the lines of a session

none-added : {X Y : Type 0} (f : X → Option Y) (xs : List X) (x : X) → f x ≡ None
    → filter_map f (xs ++ x ∷ []) ≡ filter_map f xs
none-added f xs x none = filter_map-append f xs (x ∷ []) ∙ rw none (append-nil (filter_map f xs))

one-added : {X Y : Type 0} (f : X → Option Y) (xs : List X) (x : X) (y : Y) → f x ≡ Some y
    → filter_map f (xs ++ x ∷ []) ≡ filter_map f xs ++ y ∷ []
one-added f xs x y is = filter_map-append f xs (x ∷ []) ∙ rw is refl

not-for : (k : ℕ) (a : Address) → k ≢ a.session → line_if k (Some a) ≡ None
not-for k a other = by (a.session == k) refl
  where
    by : (q : Bool) → eqb a.session k ≡ q → cond q (Some a.line) None ≡ None
    by true same = absurd (other (sym (eqb-true a.session k same)))
    by false differ = refl

module _ (db : Database) (count : ℕ) (lines : List (List ℕ)) (line : List ℕ) where
  -- ---- a line for no session

  stays : (k n : ℕ) → ((j : ℕ) → k ≤ j → line_if j (address_of count line) ≡ None)
      → seats_alone db count (lines ++ line ∷ []) k n ≡ seats_alone db count lines k n
  stays k zero none = refl
  stays k (suc n) none =
      let here = none-added (λ l. line_if k (address_of count l)) lines line
      (none k (omega arith)) in
      ap (λ ls. seat_alone db k ls ∷ seats_alone db count (lines ++ line ∷ []) (k + 1) n) here
      ∙ ap (λ seats. seat_alone db k (lines_for count k lines) ∷ seats)
      (stays (k + 1) n (λ j from. none j (omega arith)))

  -- ---- a line for one

  module _ (hears : EachHearsAlone) (a : Address) (is : address_of count line ≡ Some a) where
    abbrev seat : Seat
    seat = seat_alone db a.session (lines_for count a.session lines)

    other_lines : (k : ℕ) → k ≢ a.session → line_if k (address_of count line) ≡ None
    other_lines k other = ap (line_if k) is ∙ not-for k a other

    own_line : line_if a.session (address_of count line) ≡ Some a.line
    own_line = ap (line_if a.session) is ∙ rw (eq-eqb a.session a.session refl) refl

    own : seat_after seat a.line
        ≡ seat_alone db a.session (lines_for count a.session (lines ++ line ∷ []))
    own =
        (hears db a.session (lines_for count a.session lines) a.line).stands
        ∙ ap (seat_alone db a.session)
        (sym (one-added (λ l. line_if a.session (address_of count l)) lines line a.line
        own_line))

    is_there : (k n : ℕ) → k ≤ a.session → a.session < k + n
        → slice_get (seats_alone db count lines k n) (a.session - k) ≡ Some seat
    is_there k zero from to = absurd (omega arith)
    is_there k (suc n) from to = by (cases_eq a.session k)
        (λ later. is_there (k + 1) n later (omega arith))
      where
        by : (a.session ≡ k) ⊎ (a.session ≢ k)
            → (k + 1 ≤ a.session → slice_get (seats_alone db count lines (k + 1) n)
            (a.session - (k + 1)) ≡ Some seat)
            → slice_get (seats_alone db count lines k (suc n)) (a.session - k) ≡ Some seat
        by (inl same) rest =
            let e : a.session - k ≡ 0 = omega arith in
            rw e (ap (λ j. Some (seat_alone db j (lines_for count j lines))) (sym same))
        by (inr differ) rest =
            let e : a.session - k ≡ suc (a.session - (k + 1)) = omega arith in
            rw e (rest (omega arith))

    is_set : (k n : ℕ) → k ≤ a.session → a.session < k + n
        → slice_set (seats_alone db count lines k n) (a.session - k) (seat_after seat a.line)
        ≡ seats_alone db count (lines ++ line ∷ []) k n
    is_set k zero from to = absurd (omega arith)
    is_set k (suc n) from to = by (cases_eq a.session k)
        (λ later. is_set (k + 1) n later (omega arith))
      where
        by : (a.session ≡ k) ⊎ (a.session ≢ k)
            → (k + 1 ≤ a.session → slice_set (seats_alone db count lines (k + 1) n)
            (a.session - (k + 1)) (seat_after seat a.line)
            ≡ seats_alone db count (lines ++ line ∷ []) (k + 1) n)
            → slice_set (seats_alone db count lines k (suc n)) (a.session - k)
            (seat_after seat a.line) ≡ seats_alone db count (lines ++ line ∷ []) k (suc n)
        by (inl same) rest =
            let e : a.session - k ≡ 0 = omega arith in
            let later = stays (k + 1) n (λ j after. other_lines j (λ bad. absurd (omega arith))) in
            let here : seat_after seat a.line
            ≡ seat_alone db k (lines_for count k (lines ++ line ∷ [])) =
            own ∙ ap (λ j. seat_alone db j (lines_for count j (lines ++ line ∷ []))) same in
            rw e (ap (λ s. s ∷ seats_alone db count lines (k + 1) n) here
            ∙ ap (λ seats. seat_alone db k (lines_for count k (lines ++ line ∷ [])) ∷ seats)
            (sym later))
        by (inr differ) rest =
            let e : a.session - k ≡ suc (a.session - (k + 1)) = omega arith in
            let here = none-added (λ l. line_if k (address_of count l)) lines line
            (other_lines k (λ bad. differ (sym bad))) in
            rw e (ap (λ seats. seat_alone db k (lines_for count k lines) ∷ seats)
            (rest (omega arith))
            ∙ ap (λ ls. seat_alone db k ls ∷ seats_alone db count (lines ++ line ∷ []) (k + 1) n)
            (sym here))

-- ---- the address of a line is one of the sessions

-- a line that is addressed goes to one of the sessions that there are
addressed-range : (count : ℕ) (line : List ℕ) (span : Span) (o : Option ℕ) (a : Address)
    → number_among count (word_at line span) ≡ o
    → addressed line span o ≡ Some a → (1 ≤ a.session) × (a.session ≤ count)
addressed-range count line span None a is e = absurd (cc)
addressed-range count line span (Some k) a is e =
    let same : k ≡ a.session = ap (λ x. x.session)
    (address-same (record { session = k; line = after_word line span }) a e) in
    let range = number-range count (word_at line span) k is in
    (omega (arith, range.0), omega (arith, range.1))
  where
    address-same : (x y : Address) → Some x ≡ Some y → x ≡ y
    address-same x y same = cc

span-range : (count : ℕ) (line : List ℕ) (o : Option Span) (a : Address) → address_by count line o
    ≡ Some a → (1 ≤ a.session) × (a.session ≤ count)
span-range count line None a e = absurd (cc)
span-range count line (Some span) a e = addressed-range count line span
    (number_among count (word_at line span)) a refl e

goes_on : EachHearsAlone → (db : Database) (count : ℕ) (lines : List (List ℕ)) (line : List ℕ)
    (o : Option Address) → address_of count line ≡ o → GoesOnAlone db count lines line o
goes_on hears db count lines line None is = stays db count lines line 1 count
    (λ j from. ap (line_if j) is)
goes_on hears db count lines line (Some a) is =
    let range = span-range count line (next_word line 0) a is in (
      is_there db count lines line hears a is 1 count range.0 (omega (arith, range.1)),
      is_set db count lines line hears a is 1 count range.0 (omega (arith, range.1)),
    )

pub hall_goes_on_alone : EachHearsAlone → HallGoesOnAlone
hall_goes_on_alone hears db count lines line = goes_on hears db count lines line
    (address_of count line) refl

begins : (db : Database) (count k n : ℕ) → seats_opened db k n ≡ seats_alone db count [] k n
begins db count k zero = refl
begins db count k (suc n) = ap (λ seats. seat_opened db k ∷ seats) (begins db count (k + 1) n)

pub hall_begins_alone : HallBeginsAlone
hall_begins_alone db count = begins db count 1 count
