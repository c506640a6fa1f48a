-- How parts that lead on are put together.
use Rattle.std.proofs.Common.{◌≡◌, ◌∙◌, ℕ, zero, suc, ◌+◌, ◌<◌, Bool, List, [], ◌∷◌, ◌++◌, sym, ap, subst, arith, append-nil, append_assoc}
use Rattle.adv_io.specs.Steps.{Step}
use Rattle.inform_meaning.specs.Worlds.{Config}
use Rattle.inform_meaning.specs.Frames.{Frame, Lack, Outcome, Value, Truth, Normal, Returns, Breaks, Continues, Halts, Waits, Meaning, bind}
use Rattle.inform_moves.specs.Laws.{IsSettled}
use Rattle.inform_interpreter.specs.Leading.{Place, config_at, MayBeLeft, Anything, IsNoCall, IsQuiet, Leads, LeadsTo}

-- a number is below another one, or that one and some more
parted : {X : Type 0} (n u : ℕ) → (n < u → X) → ((k : ℕ) → n ≡ u + k → X) → X
parted zero zero below more = more zero (omega arith)
parted zero (suc u) below more = below (omega arith)
parted (suc n) zero below more = more (suc n) (omega arith)
parted (suc n) (suc u) below more =
    parted n u (λ less. below (omega (arith, less))) (λ k is. more k (omega (arith, is)))

-- after an outcome that doesn't wait any number of steps may be left
pub settled-left : (e : Outcome) (more : ℕ) → IsSettled e → MayBeLeft e more
settled-left (Value a) more h = tt
settled-left (Truth b) more h = tt
settled-left Normal more h = tt
settled-left (Returns a) more h = tt
settled-left Breaks more h = tt
settled-left Continues more h = tt
settled-left (Halts halt) more h = tt
settled-left (Waits lack fs) more h = absurd h

-- nothing is done
pub leads-nowhere : {b : Bool} {ok : ℕ → Type 0} (m m' : Meaning) (x y : Place)
    → ((n : ℕ) (past : List Step) → ok n → m (config_at x n past) ≡ m' (config_at y n past))
    → Leads b ok m m' x y 0 []
leads-nowhere m m' x y h = record {
  same = λ more past left.
      let none : 0 + more ≡ more = omega arith in
      ap (λ k. m (config_at x k past)) none
      ∙ h more past left
      ∙ ap (λ q. m' (config_at y more q)) (sym (append-nil past));
  quiet = λ is n past few. absurd (omega (arith, few));
}

-- one after the other
pub leads-then : {b : Bool} {ok : ℕ → Type 0} (m m' m'' : Meaning) (x y z : Place) (u v : ℕ)
    (d e : List Step)
    → Leads b Anything m m' x y u d → Leads b ok m' m'' y z v e
    → Leads b ok m m'' x z (u + v) (d ++ e)
leads-then m m' m'' x y z u v d e l r = record {
  same = λ more past left.
      let order : (u + v) + more ≡ u + (v + more) = omega arith in
      ap (λ k. m (config_at x k past)) order
      ∙ l.same (v + more) past tt
      ∙ r.same more (past ++ d) left
      ∙ ap (λ q. m'' (config_at z more q)) (append_assoc past d e);
  quiet = λ is n past few. parted n u (λ less. l.quiet is n past less)
      (λ k here. subst (λ r. IsQuiet r.0)
      (sym (ap (λ k. m (config_at x k past)) here ∙ l.same k past tt))
      (r.quiet is k (past ++ d) (omega (arith, few, here))));
}

-- what is done with an outcome
abbrev pub through : (Outcome → Meaning) → Outcome × Config → Outcome × Config
through k r = k r.0 r.1

-- what waits, waits with more frames
quiet-more : (lack : Lack) (fs gs : List Frame) → IsQuiet (Waits lack fs) → IsQuiet (Waits lack (fs ++ gs))
quiet-more lack [] gs h = absurd h
quiet-more lack (y ∷ fs) gs h = h

-- what keeps what waits, with more frames, and with one
abbrev pub Keeps : List Frame → (Outcome → Meaning) → Type 0
Keeps gs k = (lack : Lack) (fs : List Frame) (c : Config)
    → k (Waits lack fs) c ≡ (Waits lack (fs ++ gs), c)

abbrev pub Holds : Frame → (Outcome → Meaning) → Type 0
Holds x k = Keeps (x ∷ []) k

quiet-through : (gs : List Frame) (k : Outcome → Meaning) → Keeps gs k
    → (r : Outcome × Config) → IsQuiet r.0 → IsQuiet (through k r).0
quiet-through gs k keeps (Waits lack fs, c) h =
    subst (λ r. IsQuiet r.0) (sym (keeps lack fs c)) (quiet-more lack fs gs h)
quiet-through gs k keeps (Value a, c) h = absurd h
quiet-through gs k keeps (Truth b, c) h = absurd h
quiet-through gs k keeps (Normal, c) h = absurd h
quiet-through gs k keeps (Returns a, c) h = absurd h
quiet-through gs k keeps (Breaks, c) h = absurd h
quiet-through gs k keeps (Continues, c) h = absurd h
quiet-through gs k keeps (Halts halt, c) h = absurd h

-- A part that leads to its outcome, and then what is done with that: where the part waits, so do
-- these frames. So many steps may be left as after the part.
pub leads-through : {b : Bool} (m : Meaning) (k : Outcome → Meaning) (e : Outcome)
    (gs : List Frame) (x y : Place) (u : ℕ) (d : List Step) (ok : ℕ → Type 0)
    → ((more : ℕ) → ok more → MayBeLeft e more) → Keeps gs k
    → LeadsTo b m e x y u d → Leads b ok (bind m k) (k e) x y u d
unfolding bind
leads-through m k e gs x y u d ok may keeps l = record {
  same = λ more past left. ap (through k) (l.same more past (may more left));
  quiet = λ is n past few. quiet-through gs k keeps (m (config_at x n past)) (l.quiet is n past few);
}

pub leads-bind : {b : Bool} (m : Meaning) (k : Outcome → Meaning) (e : Outcome) (f : Frame)
    (x y : Place) (u : ℕ) (d : List Step) (ok : ℕ → Type 0)
    → ((more : ℕ) → ok more → MayBeLeft e more) → IsNoCall f → Holds f k
    → LeadsTo b m e x y u d → Leads b ok (bind m k) (k e) x y u d
leads-bind m k e f x y u d ok may none holds l =
    leads-through m k e (f ∷ []) x y u d ok may holds l

-- a part does what another one does from there on
pub leads-as : {b : Bool} {ok : ℕ → Type 0} (m m' n : Meaning) (x y : Place) (u : ℕ) (d : List Step)
    → ((c : Config) → m' c ≡ m c) → Leads b ok m n x y u d → Leads b ok m' n x y u d
leads-as m m' n x y u d is l = record {
  same = λ more past left. is (config_at x (u + more) past) ∙ l.same more past left;
  quiet = λ q k past few. subst (λ r. IsQuiet r.0) (sym (is (config_at x k past))) (l.quiet q k past few);
}

-- it leads to what another part does
pub leads-into : {b : Bool} {ok : ℕ → Type 0} (m n n' : Meaning) (x y : Place) (u : ℕ)
    (d : List Step) → ((c : Config) → n c ≡ n' c) → Leads b ok m n x y u d → Leads b ok m n' x y u d
leads-into m n n' x y u d is l = record {
  same = λ more past left. l.same more past left ∙ is (config_at y more (past ++ d));
  quiet = l.quiet;
}

-- from another place, and to another one
pub leads-from : {b : Bool} {ok : ℕ → Type 0} (m m' n : Meaning) (x x' y : Place) (u : ℕ)
    (d : List Step) → ((k : ℕ) (past : List Step) → m' (config_at x' k past) ≡ m (config_at x k past))
    → Leads b ok m n x y u d → Leads b ok m' n x' y u d
leads-from m m' n x x' y u d is l = record {
  same = λ more past left. is (u + more) past ∙ l.same more past left;
  quiet = λ q k past few. subst (λ r. IsQuiet r.0) (sym (is k past)) (l.quiet q k past few);
}

pub leads-to : {b : Bool} {ok : ℕ → Type 0} (m n n' : Meaning) (x y y' : Place) (u : ℕ)
    (d : List Step) → ((k : ℕ) (past : List Step) → n (config_at y k past) ≡ n' (config_at y' k past))
    → Leads b ok m n x y u d → Leads b ok m n' x y' u d
leads-to m n n' x y y' u d is l = record {
  same = λ more past left. l.same more past left ∙ is more (past ++ d);
  quiet = l.quiet;
}
