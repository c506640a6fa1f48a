-- Pieces of a runner's run, one after another, are the whole run, and what they enter is what it
-- enters: for the loop of `count_calls`.
use Rattle.std.proofs.Common.{◌≡◌, ◌∙◌, ℕ, suc, ◌+◌, List, [], ◌∷◌, ◌++◌, length, nat_lt, if◌then◌else◌, Some, Result, Ok, Err, IfOk, OnOk, OnErr, refl, sym, ap, subst, arith, length-append, add-one}
use Rattle.std.proofs.lemmas.List.Elements.{filter_map-append}
use Rattle.adv_draws.specs.Supply.{Supply}
use Rattle.adv_io.specs.History.{grown, GrewByPrefix, draw_taken, draws_taken}
use Rattle.adv_io.specs.Steps.{Step, trace_of, shown_of}
use Rattle.adv_io.specs.Console.{ConsoleView}
use Rattle.adv_io.specs.declared.faults.ConsoleFault.{ConsoleFault}
use Rattle.adv_io.proofs.Sayings.{grown_on, part_on, part_of_more}
use Rattle.adv_io.proofs.Showing.{trace_of-append, shown_of-append}
use Rattle.inform_meaning.specs.Worlds.{Program, World, Config}
use Rattle.inform_meaning.specs.Frames as f
use Rattle.inform_meaning.specs.Frames.{Outcome}
use Rattle.inform_meaning.specs.Runs.{Lacking, stop_of, begun_of, resume}
use Rattle.inform_entered.specs.Entered.{open_routines, newly_entered}
use Rattle.inform_steps.specs.Pieces.{IsSpent, afresh, next_piece, Joins, entered_in}
use Rattle.inform_steps.specs.Laws.{PiecesJoin, EnteredJoin, StoppedStays, StoppedEntersNothing}
use Rattle.inform_run.specs.declared.runners.Runner.{Runner}
use Rattle.inform_run.specs.declared.stops.Stop.{Stop}
use Rattle.inform_run.specs.Runners.{program_run, begun_in, world_in, left_to, resumed, Leaves, Runs}
use Rattle.inform_run.specs.Stops.{stop_seen}
use Rattle.adv_coverage.specs.Calls.{entered_by, entered_since}

-- ---- what is shown and drawn

drawn-append : (es fs : List Step) → length (draws_taken (trace_of (es ++ fs)))
    ≡ length (draws_taken (trace_of es)) + length (draws_taken (trace_of fs))
drawn-append es fs = let both : draws_taken (trace_of (es ++ fs))
    ≡ draws_taken (trace_of es) ++ draws_taken (trace_of fs) =
    ap draws_taken (trace_of-append es fs)
    ∙ filter_map-append draw_taken (trace_of es) (trace_of fs) in
    ap length both ∙ length-append (draws_taken (trace_of es)) (draws_taken (trace_of fs))

-- one after the other
joined-shows : (result : Result Stop ConsoleFault) (old mid new : ConsoleView)
    (es fs all : List Step)
    → mid.history ≡ grown old.history (shown_of es)
    → OnOk result (new.history ≡ grown mid.history (shown_of fs)) → all ≡ es ++ fs
    → OnOk result (new.history ≡ grown old.history (shown_of all))
joined-shows (Err fault) old mid new es fs all first next both = tt
joined-shows (Ok stop) old mid new es fs all first next both =
    grown_on old.history mid.history new.history (shown_of es) (shown_of fs) first next
    ∙ ap (grown old.history) (sym (shown_of-append es fs) ∙ ap shown_of (sym both))

joined-part : (result : Result Stop ConsoleFault) (old mid new : ConsoleView)
    (es fs all : List Step)
    → mid.history ≡ grown old.history (shown_of es)
    → OnErr result (GrewByPrefix mid.history new.history (shown_of fs)) → all ≡ es ++ fs
    → OnErr result (GrewByPrefix old.history new.history (shown_of all))
joined-part (Ok stop) old mid new es fs all first next both = tt
joined-part (Err fault) old mid new es fs all first next both =
    subst (GrewByPrefix old.history new.history)
    (sym (shown_of-append es fs) ∙ ap shown_of (sym both))
    (part_on old.history mid.history new.history (shown_of es) (shown_of fs) first next)

-- ---- a run, and some steps more

-- what a piece leaves is what the whole run leaves
joined-leaves : (t q whole : Outcome × Config) (k m : ℕ) (r0 r r' : Runner) (s0 s s' : Supply)
    (before stop : Stop) → Leaves t k r0 r s0 s before → Leaves q m r r' s s' stop
    → Joins t q whole → Leaves whole (k + m) r0 r' s0 s' stop
joined-leaves t q whole k m r0 r r' s0 s s' before stop a b j = record {
  begun = b.begun ∙ sym j.begun;
  world = b.world ∙ ap (λ c. c.world) (sym j.config);
  draws = b.draws ∙ ap (λ c. c.draws) (sym j.config);
  taken = let past : whole.1.past ≡ t.1.past ++ q.1.past = ap (λ c. c.past) j.config in
      omega (
        arith,
        a.taken,
        b.taken,
        drawn-append t.1.past q.1.past,
        ap (λ es. length (draws_taken (trace_of es))) past,
      );
  used = omega (arith, a.used, b.used, ap (λ c. c.steps) j.config);
  stop = b.stop ∙ sym j.stop;
}

joined-ok : (result : Result Stop ConsoleFault) (t q whole : Outcome × Config) (k m : ℕ)
    (r0 r r' : Runner) (s0 s s' : Supply) (before : Stop) → Leaves t k r0 r s0 s before
    → IfOk result (λ stop. Leaves q m r r' s s' stop) → Joins t q whole
    → IfOk result (λ stop. Leaves whole (k + m) r0 r' s0 s' stop)
joined-ok (Err fault) t q whole k m r0 r r' s0 s s' before a b j = tt
joined-ok (Ok stop) t q whole k m r0 r r' s0 s s' before a b j =
    joined-leaves t q whole k m r0 r r' s0 s s' before stop a b j

joined-lines : (result : Result Stop ConsoleFault) (new : ConsoleView) (q whole : Outcome × Config)
    → OnOk result (new.left ≡ Some q.1.lines) → whole.1.lines ≡ q.1.lines
    → OnOk result (new.left ≡ Some whole.1.lines)
joined-lines (Err fault) new q whole is same = tt
joined-lines (Ok stop) new q whole is same = is ∙ ap Some (sym same)

-- a runner goes on from where it stands as its program does from where a run stopped
pub goes-on-there : (t : Outcome × Config) (k m : ℕ) (r0 r : Runner) (s0 s : Supply) (stop : Stop)
    (lines : List (List ℕ)) → program_run r ≡ program_run r0 → Leaves t k r0 r s0 s stop
    → t.1.lines ≡ lines → resumed r m lines s.left ≡ next_piece (program_run r0) t m
goes-on-there t k m r0 r s0 s stop lines same a is =
    ap (λ p. resume p (begun_in r) (left_to r m lines s.left)) same
    ∙ ap (λ fs. resume (program_run r0) fs (left_to r m lines s.left)) a.begun
    ∙ ap (λ w. resume (program_run r0) (begun_of t.0)
    (record { steps = m; lines = lines; draws = s.left; past = []; world = w })) a.world
    ∙ ap (λ ds. resume (program_run r0) (begun_of t.0)
    (record { steps = m; lines = lines; draws = ds; past = []; world = t.1.world })) a.draws
    ∙ ap (λ ls. resume (program_run r0) (begun_of t.0)
    (record { steps = m; lines = ls; draws = t.1.draws; past = []; world = t.1.world })) (sym is)

-- what a run enters with so many steps, after nothing that happened
entered_with : ℕ → Program → List f.Frame → World → List ℕ → List (List ℕ) → List ℕ
entered_with m p fs w draws lines =
    entered_in p fs (record { steps = m; lines = lines; draws = draws; past = []; world = w }) m

-- the directive of the innermost routine, where more are open among these frames than before
abbrev newly_at : ℕ → List f.Frame → World → List ℕ
newly_at before frames w =
    if nat_lt before (open_routines frames) then w.scope.directive ∷ [] else []

-- what is newly entered, by runners that stand where the runs stopped
newly-since : (t whole : Outcome × Config) (r r' : Runner) → begun_in r ≡ begun_of t.0
    → begun_in r' ≡ begun_of whole.0 → world_in r' ≡ whole.1.world
    → newly_entered t whole ≡ entered_since (open_routines (begun_in r)) r'
newly-since t whole r r' before begun world =
    ap (λ fs. newly_at (open_routines fs) (begun_of whole.0) whole.1.world) (sym before)
    ∙ ap (λ fs. newly_at (open_routines (begun_in r)) fs whole.1.world) (sym begun)
    ∙ ap (newly_at (open_routines (begun_in r)) (begun_in r')) (sym world)

module _ (join : PiecesJoin) (old mid new : ConsoleView) (result : Result Stop ConsoleFault)
    (r0 r r' : Runner) (s0 s s' : Supply) (lines : List (List ℕ)) (k : ℕ) (before : Stop)
    (same : program_run r ≡ program_run r0)
    (first : Runs old mid (Ok before) k (resumed r0 k lines s0.left) r0 r s0 s) where
  -- the run so far, and the lines that it left
  abbrev sofar : Outcome × Config
  sofar = resumed r0 k lines s0.left

  abbrev pub rest : List (List ℕ)
  rest = sofar.1.lines

  module _ (m : ℕ) where
    abbrev whole : Outcome × Config
    whole = resumed r0 (k + m) lines s0.left

    abbrev piece : Outcome × Config
    piece = resumed r m rest s.left

    pub on-there : piece ≡ next_piece (program_run r0) sofar m
    on-there = goes-on-there sofar k m r0 r s0 s before rest same first.leaves refl

    joins : Joins sofar piece whole
    joins = subst (λ q. Joins sofar q whole) (sym on-there)
        (join (program_run r0) (begun_in r0) (left_to r0 k lines s0.left) k m)

    -- a run and a piece are the run with the steps of both
    pub runs-on : Runs mid new result m piece r r' s s'
        → Runs old new result (k + m) whole r0 r' s0 s'
    runs-on next =
        let past : whole.1.past ≡ sofar.1.past ++ piece.1.past = ap (λ c. c.past) joins.config in
        record {
          shows = joined-shows result old mid new sofar.1.past piece.1.past whole.1.past
              first.shows next.shows past;
          part = joined-part result old mid new sofar.1.past piece.1.past whole.1.past first.shows
              next.part past;
          lines = joined-lines result new piece whole next.lines (ap (λ c. c.lines) joins.config);
          leaves = joined-ok result sofar piece whole k m r0 r r' s0 s s' before first.leaves
              next.leaves joins;
        }

    -- what the piece entered comes after what the run so far did
    pub enters-more : EnteredJoin → entered_by r0 (k + m) lines s0.left
        ≡ entered_by r0 k lines s0.left ++ entered_by r m rest s.left
    unfolding entered_with
    enters-more law =
        let p = program_run r0 in
        let there : entered_by r m rest s.left ≡ entered_in p (begun_of sofar.0) (afresh sofar.1) m =
        ap (λ p. entered_with m p (begun_in r) (world_in r) s.left rest) same
        ∙ ap (λ fs. entered_with m p fs (world_in r) s.left rest) first.leaves.begun
        ∙ ap (λ w. entered_with m p (begun_of sofar.0) w s.left rest) first.leaves.world
        ∙ ap (λ ds. entered_with m p (begun_of sofar.0) sofar.1.world ds rest) first.leaves.draws in
        law p (begun_in r0) (left_to r0 k lines s0.left) k m
        ∙ ap (λ xs. entered_by r0 k lines s0.left ++ xs) (sym there)

  -- what one step entered
  pub enters-on : (stop : Stop) → Leaves (whole 1) (k + 1) r0 r' s0 s' stop
      → entered_by r0 (k + 1) lines s0.left
      ≡ entered_by r0 k lines s0.left ++ entered_since (open_routines (begun_in r)) r'
  enters-on stop leaves =
      let p = program_run r0 in
      let all = entered_in p (begun_in r0) (left_to r0 k lines s0.left) in
      ap all (add-one k)
      ∙ ap (λ ds. all k ++ ds) (newly-since sofar (resumed r0 (suc k) lines s0.left) r r'
      first.leaves.begun
      (leaves.begun ∙ ap (λ n. begun_of (resumed r0 n lines s0.left).0) (add-one k))
      (leaves.world ∙ ap (λ n. (resumed r0 n lines s0.left).1.world) (add-one k)))

-- ---- a run that stopped, or failed, and further steps

module _ (stay : StoppedStays) (nothing : StoppedEntersNothing) (old new : ConsoleView)
    (r0 r : Runner) (s0 s : Supply) (lines : List (List ℕ)) (k more : ℕ) (stop : Stop)
    (first : Runs old new (Ok stop) k (resumed r0 k lines s0.left) r0 r s0 s)
    (over : stop_seen stop ≡ Lacking f.Spent → ⊥) where
  abbrev ended : Outcome × Config
  ended = resumed r0 k lines s0.left

  abbrev longer : Outcome × Config
  longer = resumed r0 (k + more) lines s0.left

  unspent : IsSpent ended → ⊥
  unspent spent = over (first.leaves.stop ∙ spent)

  stays : longer ≡ (ended.0, record ended.1 { steps = ended.1.steps + more })
  stays = stay (program_run r0) (begun_in r0) (left_to r0 k lines s0.left) k more unspent

  -- further steps change nothing
  pub runs-out : Runs old new (Ok stop) (k + more) longer r0 r s0 s
  runs-out = let a = first.leaves in
      let c : longer.1 ≡ record ended.1 { steps = ended.1.steps + more } = ap (λ t. t.1) stays in
      record {
        shows = first.shows ∙ ap (λ c. grown old.history (shown_of c.past)) (sym c);
        part = tt;
        lines = first.lines ∙ ap (λ c. Some c.lines) (sym c);
        leaves = record {
          begun = a.begun ∙ ap (λ t. begun_of t.0) (sym stays);
          world = a.world ∙ ap (λ c. c.world) (sym c);
          draws = a.draws ∙ ap (λ c. c.draws) (sym c);
          taken = a.taken ∙ ap (λ c. s0.taken + length (draws_taken (trace_of c.past))) (sym c);
          used = omega (arith, a.used, ap (λ c. c.steps) c);
          stop = a.stop ∙ ap (λ t. stop_of t.0) (sym stays);
        };
      }

  pub enters-out : entered_by r0 (k + more) lines s0.left ≡ entered_by r0 k lines s0.left
  enters-out =
      nothing (program_run r0) (begun_in r0) (left_to r0 k lines s0.left) k more unspent

-- a run that failed showed a part of what one with further steps shows
pub fails-on : PiecesJoin → (old new : ConsoleView) (fault : ConsoleFault) (r0 r : Runner)
    (s0 s : Supply) (lines : List (List ℕ)) (k more : ℕ)
    → Runs old new (Err fault) k (resumed r0 k lines s0.left) r0 r s0 s
    → Runs old new (Err fault) (k + more) (resumed r0 (k + more) lines s0.left) r0 r s0 s
fails-on join old new fault r0 r s0 s lines k more failed =
    let first = resumed r0 k lines s0.left in
    let rest = next_piece (program_run r0) first more in
    let j : Joins first rest (resumed r0 (k + more) lines s0.left) =
    join (program_run r0) (begun_in r0) (left_to r0 k lines s0.left) k more in
    record {
      shows = tt;
      part = subst (GrewByPrefix old.history new.history)
          (sym (shown_of-append first.1.past rest.1.past)
          ∙ ap (λ c. shown_of c.past) (sym j.config))
          (part_of_more old.history new.history (shown_of first.1.past) (shown_of rest.1.past)
          failed.part);
      lines = tt;
      leaves = tt;
    }
