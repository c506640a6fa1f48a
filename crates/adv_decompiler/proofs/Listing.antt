-- Lists of entries: fed with a line for each, a list has an entry for each, and means what they
-- mean.
use Rattle.std.proofs.Common.{◌≡◌, ℕ, zero, suc, ◌+◌, ◌≤◌, ◌<◌, Bool, true, false, cond, leb, List, [], ◌∷◌, ◌++◌, map, length, Result, Ok, refl, sym, ap, subst, ◌∙◌, append_assoc, arith, length-append}
use Rattle.std.specs.List.{AllByRecursion}
use Rattle.std.proofs.lemmas.Bool.{cond-true, le-leb}
use Rattle.std.proofs.lemmas.List.{append-nil}
use Rattle.source_reader.specs.declared.tokens.Token.{Token}
use Rattle.source_reader.specs.declared.tree.At.{At}
use Rattle.source_reader.specs.declared.tree.Entries.{Entries}
use Rattle.source_reader.specs.Plan.{Plan, done, refuse, ◌>>=◌}
use Rattle.source_reader.specs.Singles.{here, is_mark, any_token, symbol, key}
use Rattle.source_reader.specs.Lists.{no_entries, with_first, entry_or_end, up_to, most, many, braced, listing}
use Rattle.adv_compiler.specs.Faults.{Fault}
use Rattle.adv_compiler.specs.Faults.{◌>>=◌ as ◌onto◌}
use Rattle.adv_compiler.specs.Lists.{each, some, list_of}
use Rattle.adv_decompiler.specs.Layout.{Lead, spaced, below, Chunk, mark, section}
use Rattle.adv_decompiler.specs.Plain.{lines_from, lines_of}
use Rattle.adv_decompiler.proofs.Apart.{laid, laid-lines}
use Rattle.adv_decompiler.proofs.Feeding.{Fed, fed_then, fed_done, fed_weaken}
use Rattle.adv_decompiler.proofs.Names.{name-same}

-- ---- entries

-- entries one for each, related with their numbers
abbrev pub Each : {X E : Type 0} → (ℕ → X → At E → Type 0) → ℕ → List X → List (At E) → Type 0
Each R k [] [] = Unit {0}
Each R k [] (e ∷ entries) = ⊥
Each R k (x ∷ xs) [] = ⊥
Each R k (x ∷ xs) (e ∷ entries) = R k x e × Each R (k + 1) xs entries

-- fed with this line, a piece ends with an entry of which R holds; it doesn't begin with a closing
-- brace
abbrev pub EntryFed : {E : Type 0} → (ℕ → Token → Plan E) → List Chunk → (At E → Type 0) → Type 0
EntryFed piece [] R = ⊥
EntryFed piece (c ∷ chunks) R = (is_mark 125 c.token ≡ false) × ((at : ℕ) → Fed (piece at c.token) chunks (λ x. R (here at x)))

-- ---- feeding a list

module _ {E : Type 0} (piece : ℕ → Token → Plan E) where
  fed_entry : (P : Entries E → Type 0) (R : At E → Type 0) (others : Plan (Entries E)) (line ys : List Chunk) → EntryFed piece line R
      → ((e : At E) → R e → Fed others ys (λ more. P (with_first e more))) → Fed (any_token >>= entry_or_end piece others) (line ++ ys) P
  unfolding any_token
  fed_entry P R others [] ys h go_on = absurd h
  fed_entry P R others (c ∷ line) ys h go_on =
      λ at. subst
      (λ (b : Bool). Fed (cond b (done (no_entries at)) (piece at c.token >>= λ x. others >>= λ more. done (with_first (here at x) more))) (line ++ ys) P)
      (sym h.0)
      (fed_then (λ x. R (here at x)) P (piece at c.token) (λ x. others >>= λ more. done (with_first (here at x) more)) line ys (h.1 at)
      (λ x r. fed_done (λ more. P (with_first (here at x) more)) P others (with_first (here at x)) ys (go_on (here at x) r) (λ more q. q)))

  fed_end : (P : Entries E → Type 0) (others : Plan (Entries E)) (lead : Lead) → ((at : ℕ) → P (no_entries at))
      → Fed (any_token >>= entry_or_end piece others) (mark lead 125 ∷ []) P
  unfolding any_token
  fed_end P others lead h = h

  module _ {X : Type 0} (Q : X → Type 0) (line : ℕ → X → List Chunk) (R : ℕ → X → At E → Type 0) (highest : ℕ)
      (each_fed : (k : ℕ) (x : X) → k < highest → Q x → EntryFed piece (line k x) (R k x)) (lead : Lead) where
    fed_up_to : (xs : List X) (k n : ℕ) → k + length xs ≤ highest → AllByRecursion Q xs → length xs < n
        → Fed (up_to piece n) (lines_from line k xs ++ mark lead 125 ∷ []) (λ es. Each R k xs es.entries)
    unfolding up_to
    fed_up_to xs k zero few all enough = absurd (omega arith)
    fed_up_to [] k (suc n) few all enough = fed_end (λ es. Each R k [] es.entries) (up_to piece n) lead (λ at. tt)
    fed_up_to (x ∷ xs) k (suc n) few all enough =
        subst (λ (chunks : List Chunk). Fed (any_token >>= entry_or_end piece (up_to piece n)) chunks (λ es. Each R k (x ∷ xs) es.entries))
        (sym (append_assoc (line k x) (lines_from line (k + 1) xs) (mark lead 125 ∷ [])))
        (fed_entry (λ es. Each R k (x ∷ xs) es.entries) (R k x) (up_to piece n) (line k x) (lines_from line (k + 1) xs ++ mark lead 125 ∷ [])
        (each_fed k x (omega arith) all.0)
        (λ e r. fed_weaken (λ more. Each R (k + 1) xs more.entries) (λ more. Each R k (x ∷ xs) (e ∷ more.entries)) (up_to piece n)
        (lines_from line (k + 1) xs ++ mark lead 125 ∷ []) (λ more h. (r, h)) (fed_up_to xs (k + 1) n (omega arith) all.1 (omega arith))))

    pub fed_many : (xs : List X) → length xs ≤ highest → length xs < 18446744073709551615 → AllByRecursion Q xs
        → Fed (many piece) (lines_from line 0 xs ++ mark lead 125 ∷ []) (λ es. Each R 0 xs es.entries)
    unfolding many
    fed_many xs few short all = fed_up_to xs 0 most (omega arith) all short

-- ---- what a list means

module _ {X Y E : Type 0} (one : ℕ → At E → Result Y Fault) (view : X → Y) (Q : X → Type 0) (R : ℕ → X → At E → Type 0) (highest bound : ℕ)
    (means : (k : ℕ) (x : X) (e : At E) → k < bound → Q x → R k x e → one k e ≡ Ok (view x)) where
  -- entries that each mean what they were written of give just that, after what was given before
  each_means : (xs : List X) (entries : List (At E)) (before : List Y) (k : ℕ) → length before ≡ k → k + length xs ≤ highest + 1 → k + length xs ≤ bound
      → AllByRecursion Q xs → Each R k xs entries → each one highest before entries ≡ Ok (before ++ map view xs)
  each_means [] [] before k e few there all h = ap (λ (ys : List Y). Ok ys) (sym (append-nil before))
  each_means [] (x ∷ entries) before k e few there all h = absurd h
  each_means (x ∷ xs) [] before k e few there all h = absurd h
  each_means (x ∷ xs) (entry ∷ entries) before k e few there all h =
      let low : length before ≤ highest = omega arith in
      let next : length (before ++ view x ∷ []) ≡ k + 1 = omega (arith, length-append before (view x ∷ [])) in
      let value : one (length before) entry ≡ Ok (view x) = ap (λ (j : ℕ). one j entry) e ∙ means k x entry (omega arith) all.0 h.0 in
      cond-true (leb (length before) highest) _ _ (le-leb (length before) highest low)
      ∙ ap (λ (r : Result Y Fault). r onto λ y. each one highest (before ++ y ∷ []) entries) value
      ∙ each_means xs entries (before ++ view x ∷ []) (k + 1) next (omega arith) (omega arith) all.1 h.1
      ∙ ap (λ (ys : List Y). Ok ys) (append_assoc before (view x ∷ []) (map view xs))

  some_there : (end : ℕ) (xs : List X) → 1 ≤ length xs → some end (map view xs) ≡ Ok (map view xs)
  some_there end [] h = absurd (omega arith)
  some_there end (x ∷ xs) h = refl

  entries_mean : (xs : List X) (list : Entries E) → 1 ≤ length xs → length xs ≤ highest + 1 → length xs ≤ bound → AllByRecursion Q xs → Each R 0 xs list.entries
      → list_of one highest list ≡ Ok (map view xs)
  entries_mean xs list there few bounded all h =
      ap (λ (r : Result (List Y) Fault). r onto some list.end) (each_means xs list.entries [] 0 refl (omega arith) (omega arith) all h)
      ∙ some_there list.end xs there

-- ---- a list whose elements are written line by line

-- what holds of it: some elements are there and not too many, each passes, and the line of one that
-- passes is read by the piece as an entry of which R holds, and stands apart
pub record Listed {X E : Type 0} (piece : ℕ → Token → Plan E) (Q : X → Type 0) (line : ℕ → X → List Chunk) (R : ℕ → X → At E → Type 0) (xs : List X) : Type 0 where
  pub some : 1 ≤ length xs
  pub few : length xs ≤ 5000
  pub all : AllByRecursion Q xs
  pub fed : (k : ℕ) (x : X) → k < length xs → Q x → EntryFed piece (line k x) (R k x)
  pub apart : (k : ℕ) (x : X) → k < length xs → Q x → laid false (line k x) ≡ true

module _ {X E : Type 0} {piece : ℕ → Token → Plan E} {Q : X → Type 0} {line : ℕ → X → List Chunk} {R : ℕ → X → At E → Type 0} {xs : List X} (listed : Listed piece Q line R xs) where
  -- under its word it is read
  pub listing_fed : (name : List ℕ) → Fed (listing name piece) (section below name (lines_of line xs)) (λ es. Each R 0 xs es.entries)
  unfolding listing braced key symbol any_token
  listing_fed name at =
      subst
      (λ (b : Bool). Fed (cond b (done tt) (refuse at) >>= λ u. braced piece) (mark spaced 123 ∷ (lines_of line xs ++ mark below 125 ∷ []))
      (λ es. Each R 0 xs es.entries)) (sym (name-same name))
      (λ at_brace. fed_many piece Q line R (length xs) listed.fed below xs (omega arith) (omega (arith, listed.few)) listed.all)

  -- its lines stand apart
  pub lines_laid : laid false (lines_of line xs) ≡ true
  lines_laid = laid-lines Q line (length xs) listed.apart xs 0 (omega arith) listed.all

  -- it means its elements, as they are viewed
  module _ {Y : Type 0} (one : ℕ → At E → Result Y Fault) (view : X → Y) (highest : ℕ) (few : length xs ≤ highest + 1) where
    pub list_means : ((k : ℕ) (x : X) (e : At E) → k < length xs → Q x → R k x e → one k e ≡ Ok (view x))
        → (list : Entries E) → Each R 0 xs list.entries → list_of one highest list ≡ Ok (map view xs)
    list_means means list h = entries_mean one view Q R highest (length xs) means xs list listed.some few (omega arith) listed.all h

pub each-length : {X E : Type 0} (R : ℕ → X → At E → Type 0) (xs : List X) (entries : List (At E)) (k : ℕ) → Each R k xs entries → length entries ≡ length xs
each-length R [] [] k h = refl
each-length R [] (e ∷ entries) k h = absurd h
each-length R (x ∷ xs) [] k h = absurd h
each-length R (x ∷ xs) (e ∷ entries) k h = ap suc (each-length R xs entries (k + 1) h.1)
