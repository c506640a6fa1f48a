-- The seats of a hall, as one of them hears a line.
use Rattle.std.proofs.Common.{◌≡◌, ◌≢◌, ◌∙◌, ℕ, zero, suc, ◌+◌, ◌-◌, ◌<◌, ◌≤◌, Bool, List, [], ◌∷◌, ◌++◌, length, Some, refl, sym, ap, arith, append_assoc}
use Rattle.std.specs.Prelude.{IsTrue, slice_get, slice_set, slice_index_or}
use Rattle.std.specs.List.{list_all}
use Rattle.std.proofs.lemmas.Bool.{and_parts, and_from}
use Rattle.std.proofs.lemmas.List.{append-nil}
use Rattle.scott_types.specs.Database.{Database}
use Rattle.adv_hall.specs.declared.halls.Seat.{Seat}
use Rattle.adv_hall.specs.Seats.{seat_opened, seats_opened}

-- ---- seats that are opened

-- one more seat stands in front of those to come
pub one_more : (db : Database) (seats all : List Seat) (seat : Seat) (k n : ℕ) → k < n → seat
    ≡ seat_opened db (k + 1)
    → seats ++ seats_opened db (k + 1) (n - k) ≡ all
    → (seats ++ seat ∷ []) ++ seats_opened db (k + 1 + 1) (n - (k + 1)) ≡ all
one_more db seats all seat k n below is so_far =
    let e : n - k ≡ suc (n - (k + 1)) = omega arith in
    append_assoc seats (seat ∷ []) (seats_opened db (k + 1 + 1) (n - (k + 1)))
    ∙ ap (λ s. seats ++ s ∷ seats_opened db (k + 1 + 1) (n - (k + 1))) is
    ∙ ap (λ m. seats ++ seats_opened db (k + 1) m) (sym e)
    ∙ so_far

pub none_left : (db : Database) (seats all : List Seat) (k n : ℕ) → n ≤ k
    → seats ++ seats_opened db (k + 1) (n - k) ≡ all → seats ≡ all
none_left db seats all k n past so_far =
    let e : n - k ≡ 0 = omega arith in
    let end : seats ++ seats_opened db (k + 1) (n - k) ≡ seats = rw e (append-nil seats) in
    sym end ∙ so_far

pub all-more : {X : Type 0} (p : X → Bool) (xs : List X) (x : X) → IsTrue (list_all p xs)
    → IsTrue (p x) → IsTrue (list_all p (xs ++ x ∷ []))
all-more p [] x all here = and_from _ _ here refl
all-more p (y ∷ xs) x all here =
    let parts = and_parts (p y) (list_all p xs) all in
    and_from _ _ parts.0 (all-more p xs x parts.1 here)

-- ---- a seat that changes

pub all-set : {X : Type 0} (p : X → Bool) (xs : List X) (i : ℕ) (x : X) → IsTrue (list_all p xs)
    → IsTrue (p x) → IsTrue (list_all p (slice_set xs i x))
all-set p [] i x all here = refl
all-set p (y ∷ xs) zero x all here =
    let parts = and_parts (p y) (list_all p xs) all in and_from _ _ here parts.1
all-set p (y ∷ xs) (suc i) x all here =
    let parts = and_parts (p y) (list_all p xs) all in
    and_from _ _ parts.0 (all-set p xs i x parts.1 here)

pub others-stay : {X : Type 0} (xs : List X) (i j : ℕ) (x : X) → j ≢ i
    → slice_get (slice_set xs i x) j ≡ slice_get xs j
others-stay [] i j x other = refl
others-stay (y ∷ xs) zero zero x other = absurd (other refl)
others-stay (y ∷ xs) zero (suc j) x other = refl
others-stay (y ∷ xs) (suc i) zero x other = refl
others-stay (y ∷ xs) (suc i) (suc j) x other = others-stay xs i j x (λ e. other (ap suc e))

pub set-there : {X : Type 0} (xs : List X) (i : ℕ) (x : X) → i < length xs
    → slice_get (slice_set xs i x) i ≡ Some x
set-there [] i x there = absurd (omega arith)
set-there (y ∷ xs) zero x there = refl
set-there (y ∷ xs) (suc i) x there = set-there xs i x (omega arith)

some-same : {X : Type 0} (x y : X) → Some x ≡ Some y → x ≡ y
some-same x y e = cc

-- what holds of all holds of one
pub all-there : {X : Type 0} (p : X → Bool) (xs : List X) (i : ℕ) (x : X)
    → IsTrue (list_all p xs) → slice_get xs i ≡ Some x → IsTrue (p x)
all-there p [] i x all there = absurd (cc)
all-there p (y ∷ xs) zero x all there =
    let parts = and_parts (p y) (list_all p xs) all in
    let same : y ≡ x = some-same y x there in
    ap p (sym same) ∙ parts.0
all-there p (y ∷ xs) (suc i) x all there =
    let parts = and_parts (p y) (list_all p xs) all in all-there p xs i x parts.1 there

-- what is read at a place is there
pub there-is : {X : Type 0} (xs : List X) (i : ℕ) (x : X) → i < length xs
    → x ≡ slice_index_or xs i x → slice_get xs i ≡ Some x
there-is [] i x below is = absurd (omega arith)
there-is (y ∷ xs) zero x below is = ap Some (sym is)
there-is (y ∷ xs) (suc i) x below is = there-is xs i x (omega arith) is

pub count-opened : (db : Database) (k n : ℕ) → length (seats_opened db k n) ≡ n
count-opened db k zero = refl
count-opened db k (suc n) = ap suc (count-opened db (k + 1) n)
