-- A play on lines one by one is the play on all of them.
use Rattle.std.proofs.Common.{◌≡◌, ◌≢◌, ◌∙◌, ℕ, ◌+◌, false, List, [], ◌∷◌, ◌++◌, length, drop, refl, sym, ap, arith, length-append}
use Rattle.std.proofs.lemmas.List.{append-nil}
use Rattle.std.proofs.lemmas.List.Elements.{filter_map-append}
use Rattle.adv_draws.specs.Seeded.{seeded_draws}
use Rattle.adv_io.specs.History.{transcript, byte_said, draws_taken, draw_taken}
use Rattle.adv_counts.specs.Counts.{counted}
use Rattle.adv_counts.proofs.Counting.{counts_add}
use Rattle.adv_io.specs.Steps.{Step, Took, Traced, after, trace_of, event_of, noted_of, noted}
use Rattle.scott_types.specs.declared.states.State.{State}
use Rattle.scott_types.specs.declared.endings.Position.{Position}
use Rattle.scott_types.specs.declared.endings.Position.TheVariants.{Fresh, Draw, Line, Over}
use Rattle.scott_types.specs.Database.{Database}
use Rattle.scott_types.specs.State.{start}
use Rattle.scott_types.specs.Style.{Game, plain}
use Rattle.scott_rules.specs.Rounds.{RoundEnd, advance, answer, by_heard}
use Rattle.scott_rules.specs.Commands.{heard}
use Rattle.scott_rules.specs.Play.{PlayEnd, with_line, go, play}
use Rattle.scott_rules.specs.Laws.{PlaySplits}
use Rattle.scott_turn.specs.Tried.{tallied, untried}
use Rattle.adv_hall.specs.declared.halls.Seat.{Seat}
use Rattle.adv_hall.specs.Laws.{EachHearsAlone}

-- ---- lists

rest-same : {X : Type 0} (x : X) (some more : List X) → x ∷ some ≡ x ∷ more → some ≡ more
rest-same x some more same = cc

-- what is put behind a list and changes nothing is nothing
nothing_more : {X : Type 0} (xs ys : List X) → xs ≡ xs ++ ys → ys ≡ []
nothing_more [] ys e = sym e
nothing_more (x ∷ xs) ys e = nothing_more xs ys (rest-same x xs (xs ++ ys) e)

drop-first : {X : Type 0} (xs ys : List X) → drop (length xs) (xs ++ ys) ≡ ys
drop-first [] ys = refl
drop-first (x ∷ xs) ys = drop-first xs ys

is_some : {X : Type 0} (xs ys : List X) (x : X) → xs ++ ((x ∷ ys)) ≢ []
is_some [] ys x e = cc
is_some (y ∷ xs) ys x e = cc

is_some-inside : {X : Type 0} (xs ys zs : List X) (x : X) → xs ++ ((x ∷ ys) ++ zs) ≢ []
is_some-inside xs ys zs x = is_some xs (ys ++ zs) x

-- ---- plays that end alike, but for the lines that are left

record SameEnd (a b : Traced Step PlayEnd) : Type 0 where
  events : a.events ≡ b.events
  position : a.value.position ≡ b.value.position
  state : a.value.state ≡ b.value.state
  draws : a.value.draws ≡ b.value.draws

module _ (game : Game) (position : Position) (s : State) (draws : List ℕ) (line : List ℕ)
    (lines : List (List ℕ)) (x : List ℕ) where
  abbrev next : List (List ℕ) → Position → State → List ℕ → Traced Step PlayEnd
  next ls p r ds = go game p r ls ds

  -- a play that does nothing more before a line does nothing more before another
  drops-any : (p : Position) (t : Traced Step RoundEnd)
      → (with_line p game line lines t (next lines)).events ≡ []
      → SameEnd (with_line p game line (lines ++ x ∷ []) t (next (lines ++ x ∷ [])))
      (with_line p game x [] t (next []))
  drops-any Fresh t none = record { events = refl; position = refl; state = refl; draws = refl }
  drops-any (Draw head) t none = record {
    events = refl;
    position = refl;
    state = refl;
    draws = refl;
  }
  drops-any (Over ending) t none = record {
    events = refl;
    position = refl;
    state = refl;
    draws = refl;
  }
  drops-any Line t none =
      let a = answer game line t.value.state in
      let said = (by_heard (heard game.db line) game line t.value.state).events in
      let later = (go game a.value.position a.value.state lines t.value.draws).events in
      absurd (is_some-inside t.events said later (Took line) none)

  drops-next : (go game position s (line ∷ lines) draws).events ≡ []
      → SameEnd (go game position s (line ∷ (lines ++ x ∷ [])) draws)
      (go game position s (x ∷ []) draws)
  unfolding go
  drops-next none =
      let t = advance game position s draws in
      drops-any t.value.position t none

-- the same, where lines may be left or not
drops-left : (game : Game) (position : Position) (s : State) (draws : List ℕ) (left : List (List ℕ))
    (x : List ℕ) → (go game position s left draws).events ≡ []
    → SameEnd (go game position s (left ++ x ∷ []) draws) (go game position s (x ∷ []) draws)
drops-left game position s draws [] x none =
    record { events = refl; position = refl; state = refl; draws = refl }
drops-left game position s draws (line ∷ left) x none =
    drops-next game position s draws line left x none

-- ---- one more line

module _ (splits : PlaySplits) (game : Game) (position : Position) (s : State) where
  -- gone on with nothing more, a play does nothing more
  goes_nowhere : (lines : List (List ℕ)) (draws : List ℕ) → let t = go game position s lines
      draws in
      (go game t.value.position t.value.state t.value.lines t.value.draws).events ≡ []
  goes_nowhere lines draws =
      let t = go game position s lines draws in
      let whole = splits game position s lines [] draws [] in
      let again : t ≡ after t.events
      (go game t.value.position t.value.state t.value.lines t.value.draws) =
      same-lists lines draws t whole in
      nothing_more t.events
      (go game t.value.position t.value.state t.value.lines t.value.draws).events
      (ap (λ w. w.events) again)
    where
      same-lists : (lines : List (List ℕ)) (draws : List ℕ) (t : Traced Step PlayEnd)
          → go game position s (lines ++ []) (draws ++ [])
          ≡ after t.events (go game t.value.position t.value.state (t.value.lines ++ [])
          (t.value.draws ++ []))
          → go game position s lines draws
          ≡ after t.events (go game t.value.position t.value.state t.value.lines t.value.draws)
      same-lists lines draws t e =
          ap (λ ls. go game position s ls draws) (sym (append-nil lines))
          ∙ ap (go game position s (lines ++ [])) (sym (append-nil draws))
          ∙ e
          ∙ ap (λ ls. after t.events
          (go game t.value.position t.value.state ls (t.value.draws ++ [])))
          (append-nil t.value.lines)
          ∙ ap (λ ds. after t.events (go game t.value.position t.value.state t.value.lines ds))
          (append-nil t.value.draws)

  -- what one more line adds to a play, and where it ends then
  record AddsLine (lines : List (List ℕ)) (x draws : List ℕ) : Type 0 where
    events : let t = go game position s lines draws in
        (go game position s (lines ++ x ∷ []) draws).events
        ≡ t.events ++ (go game t.value.position t.value.state (x ∷ []) t.value.draws).events
    position_is : let t = go game position s lines draws in
        (go game position s (lines ++ x ∷ []) draws).value.position
        ≡ (go game t.value.position t.value.state (x ∷ []) t.value.draws).value.position
    state_is : let t = go game position s lines draws in
        (go game position s (lines ++ x ∷ []) draws).value.state
        ≡ (go game t.value.position t.value.state (x ∷ []) t.value.draws).value.state
    draws_are : let t = go game position s lines draws in
        (go game position s (lines ++ x ∷ []) draws).value.draws
        ≡ (go game t.value.position t.value.state (x ∷ []) t.value.draws).value.draws

  -- one more line adds to a play just what is played on it from where the play had stopped
  adds_line : (lines : List (List ℕ)) (x draws : List ℕ) → AddsLine lines x draws
  adds_line lines x draws =
      let t = go game position s lines draws in
      let v = t.value in
      let same = drops-left game v.position v.state v.draws v.lines x (goes_nowhere lines draws) in
      let whole : go game position s (lines ++ x ∷ []) draws
      ≡ after t.events (go game v.position v.state (v.lines ++ x ∷ []) v.draws) =
      ap (go game position s (lines ++ x ∷ [])) (sym (append-nil draws))
      ∙ splits game position s lines (x ∷ []) draws []
      ∙ ap (λ ds. after t.events (go game v.position v.state (v.lines ++ x ∷ []) ds))
      (append-nil v.draws) in
      record {
        events = ap (λ w. w.events) whole ∙ ap (λ es. t.events ++ es) same.events;
        position_is = ap (λ w. w.value.position) whole ∙ same.position;
        state_is = ap (λ w. w.value.state) whole ∙ same.state;
        draws_are = ap (λ w. w.value.draws) whole ∙ same.draws;
      }

-- ---- a session and its plays alone

text-append : (es fs : List Step) → transcript (trace_of (es ++ fs)) ≡ transcript (trace_of es)
    ++ transcript (trace_of fs)
text-append es fs = ap transcript (filter_map-append event_of es fs)
    ∙ filter_map-append byte_said (trace_of es) (trace_of fs)

drawn-append : (es fs : List Step) → length (draws_taken (trace_of (es ++ fs)))
    ≡ length (draws_taken (trace_of es)) + length (draws_taken (trace_of fs))
drawn-append es fs =
    ap (λ evs. length (draws_taken evs)) (filter_map-append event_of es fs)
    ∙ ap length (filter_map-append draw_taken (trace_of es) (trace_of fs))
    ∙ length-append (draws_taken (trace_of es)) (draws_taken (trace_of fs))

-- a seat in the plain style that isn't broken
abbrev seat_at : Database → Position → State → List ℕ → ℕ → List ℕ → Seat
seat_at db position s left taken tried = record {
  session = record {
    game = plain db;
    position = position;
    state = s;
    broken = false;
    tried = tried;
  };
  draws = record { left = left; taken = taken };
}

same-seat : (db : Database) (p q : Position) (r s : State) (ds es : List ℕ) (m n : ℕ)
    (ts us : List ℕ) → p ≡ q → r ≡ s → ds ≡ es → m ≡ n → ts ≡ us
    → seat_at db p r ds m ts ≡ seat_at db q s es n us
same-seat db p q r s ds es m n ts us e1 e2 e3 e4 e5 =
    ap (λ a. seat_at db a r ds m ts) e1 ∙ ap (λ a. seat_at db q a ds m ts) e2
    ∙ ap (λ a. seat_at db q s a m ts) e3 ∙ ap (λ a. seat_at db q s es a ts) e4
    ∙ ap (seat_at db q s es n) e5

tallied-append : (es fs : List Step) (counts : List ℕ)
    → tallied (es ++ fs) counts ≡ tallied fs (tallied es counts)
tallied-append es fs counts = ap (λ ns. counted ns counts) (filter_map-append noted_of es fs)
    ∙ counts_add (noted es) (noted fs) counts

-- a session that stands as it would alone says on a line what it would alone, and stands so again
pub each_hears_alone : PlaySplits → EachHearsAlone
each_hears_alone splits db k [] line =
    let t = play (plain db) (line ∷ []) (seeded_draws k) in
    record {
      says = refl;
      stands = ap (λ n. seat_at db t.value.position t.value.state t.value.draws n
          (tallied t.events (untried db))) (omega arith);
    }
each_hears_alone splits db k (first ∷ lines) line =
    let game = plain db in
    let draws = seeded_draws k in
    let t = play game (first ∷ lines) draws in
    let v = t.value in
    let u = go game v.position v.state (line ∷ []) v.draws in
    let whole = play game (first ∷ (lines ++ line ∷ [])) draws in
    let adds = adds_line splits game Fresh (start db) (first ∷ lines) line draws in
    let text : transcript (trace_of whole.events) ≡ transcript (trace_of t.events)
    ++ transcript (trace_of u.events) =
    ap (λ es. transcript (trace_of es)) adds.events ∙ text-append t.events u.events in
    let drawn : length (draws_taken (trace_of whole.events))
    ≡ length (draws_taken (trace_of t.events)) + length (draws_taken (trace_of u.events)) =
    ap (λ es. length (draws_taken (trace_of es))) adds.events
    ∙ drawn-append t.events u.events in
    let tried : tallied whole.events (untried db)
    ≡ tallied u.events (tallied t.events (untried db)) =
    ap (λ es. tallied es (untried db)) adds.events ∙ tallied-append t.events u.events (untried db) in
    record {
      says = sym (ap (drop (length (transcript (trace_of t.events)))) text
          ∙ drop-first (transcript (trace_of t.events)) (transcript (trace_of u.events)));
      stands = same-seat db _ _ _ _ _ _ _ _ _ _ (sym adds.position_is) (sym adds.state_is)
          (sym adds.draws_are) (sym drawn) (sym tried);
    }
