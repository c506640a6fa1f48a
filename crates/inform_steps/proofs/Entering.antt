-- That what the pieces of a run enter, one after the other, is what the whole run enters, and that
-- a run which stopped enters nothing more.
use Rattle.std.proofs.Common.{◌≡◌, ◌∙◌, ℕ, zero, suc, ◌+◌, false, nat_lt, List, [], ◌∷◌, ◌++◌, if◌then◌else◌, refl, sym, ap, append-nil, append_assoc, arith}
use Rattle.std.proofs.lemmas.Bool.Decides.{nat_tests}
use Rattle.inform_meaning.specs.Worlds.{Program, World, Config}
use Rattle.inform_meaning.specs.Frames.{Frame, Outcome}
use Rattle.inform_meaning.specs.Runs.{begun_of}
use Rattle.inform_meaning.specs.Programs.{no_notes, run_of}
use Rattle.inform_entered.specs.Entered.{open_routines, newly_entered}
use Rattle.inform_steps.specs.Pieces.{standing, IsSpent, afresh, next_piece, entered_in}
use Rattle.inform_steps.specs.Laws.{PiecesJoin, StoppedStays, EnteredJoin, StoppedEntersNothing, EnteredFromTheBeginning}

-- what is newly entered is told by the frames that have begun, and by the world
opened : List Frame → List Frame → World → List ℕ
opened before now w =
    if nat_lt (open_routines before) (open_routines now) then w.scope.directive ∷ [] else []

same_opened : {before before' now now' : List Frame} {w w' : World} → before ≡ before'
    → now ≡ now' → w ≡ w' → opened before now w ≡ opened before' now' w'
same_opened a b c = cc

same_newly : (before before' now now' : Outcome × Config) → begun_of before.0 ≡ begun_of before'.0
    → begun_of now.0 ≡ begun_of now'.0 → now.1.world ≡ now'.1.world
    → newly_entered before now ≡ newly_entered before' now'
unfolding opened
same_newly before before' now now' a b c = same_opened a b c

not_below : (n : ℕ) → nat_lt n n ≡ false
not_below n = grind (arith, nat_tests)

pub none_newly : (before now : Outcome × Config) → begun_of now.0 ≡ begun_of before.0
    → newly_entered before now ≡ []
none_newly before now same = ap (λ b. if b then now.1.world.scope.directive ∷ [] else [])
    (ap (λ fs. nat_lt (open_routines (begun_of before.0)) (open_routines fs)) same
    ∙ not_below (open_routines (begun_of before.0)))

none-more : (n : ℕ) → n + 0 ≡ n
none-more n = omega arith

module _ (p : Program) (frames : List Frame) (c : Config) (first : ℕ) where
  abbrev from : Outcome × Config
  from = standing p frames c first

  abbrev further : ℕ → List ℕ
  further n = entered_in p (begun_of from.0) (afresh from.1) n

  -- what is entered with one step more
  one_more : (n : ℕ) → entered_in p frames c (first + suc n)
      ≡ entered_in p frames c (first + n)
      ++ newly_entered (standing p frames c (first + n)) (standing p frames c (first + suc n))
  one_more n = let next : first + suc n ≡ suc (first + n) = omega arith in
      ap (entered_in p frames c) next
      ∙ ap (λ m. entered_in p frames c (first + n)
      ++ newly_entered (standing p frames c (first + n)) (standing p frames c m)) (sym next)

  -- what a run enters is what its first piece enters, and then what is entered with further steps
  join : PiecesJoin → (more : ℕ)
      → entered_in p frames c (first + more) ≡ entered_in p frames c first ++ further more
  join joins zero = ap (entered_in p frames c) (none-more first) ∙ sym (append-nil _)
  join joins (suc n) =
      let before = joins p frames c first n in
      let now = joins p frames c first (suc n) in
      let last = newly_entered (next_piece p from n) (next_piece p from (suc n)) in
      one_more n
      ∙ ap (λ xs. entered_in p frames c (first + n) ++ xs)
      (same_newly (standing p frames c (first + n)) (next_piece p from n)
      (standing p frames c (first + suc n)) (next_piece p from (suc n)) before.begun now.begun
      (ap (λ c. c.world) now.config))
      ∙ ap (λ xs. xs ++ last) (join joins n)
      ∙ append_assoc (entered_in p frames c first) (further n) last

  -- a run that stopped for anything but steps enters nothing more
  none : StoppedStays → (IsSpent from → ⊥) → (more : ℕ)
      → entered_in p frames c (first + more) ≡ entered_in p frames c first
  none stays other zero = ap (entered_in p frames c) (none-more first)
  none stays other (suc n) =
      let before = ap (λ r. begun_of r.0) (stays p frames c first n other) in
      let now = ap (λ r. begun_of r.0) (stays p frames c first (suc n) other) in
      one_more n
      ∙ ap (λ xs. entered_in p frames c (first + n) ++ xs)
      (none_newly (standing p frames c (first + n)) (standing p frames c (first + suc n))
      (now ∙ sym before))
      ∙ append-nil _ ∙ none stays other n

pub entered_join : PiecesJoin → EnteredJoin
entered_join joins p frames c first more = join p frames c first joins more

pub stopped_enters_nothing : StoppedStays → StoppedEntersNothing
stopped_enters_nothing stays p frames c n more other = none p frames c n stays other more

pub entered_from_the_beginning : EnteredFromTheBeginning
entered_from_the_beginning width ds steps zero lines draws = refl
entered_from_the_beginning width ds steps (suc n) lines draws =
    ap (λ xs. xs ++ newly_entered (run_of width ds no_notes n lines draws)
    (run_of width ds no_notes (suc n) lines draws))
    (entered_from_the_beginning width ds steps n lines draws)
