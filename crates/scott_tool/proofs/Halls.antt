-- That a hall of sessions shows what is expected.
use Rattle.std.proofs.Common.{◌≡◌, ◌∙◌, ◌<◌, ◌≤◌, ◌-◌, ℕ, List, [], ◌∷◌, ◌++◌, Option, Some, None, IfSome, Result, Ok, Err, OnOk, refl, sym, ap, subst, arith, append_assoc}
use Rattle.std.specs.Prelude.{slice_get, slice_set}
use Rattle.std.proofs.lemmas.List.{append-nil}
use Rattle.adv_hall.specs.declared.addressing.Address.{Address}
use Rattle.adv_hall.specs.declared.halls.Seat.{Seat}
use Rattle.adv_hall.specs.Address.{address_of}
use Rattle.adv_hall.specs.Alone.{lines_for, no_session, text_for, hall_text, hall_from, hall_events}
use Rattle.adv_hall.specs.Laws.{seat_alone, EachHearsAlone, all_alone, GoesOnAlone, HallGoesOnAlone}
use Rattle.adv_hall.specs.Seats.{HallView, seat_of, said_by, seat_after, text_by}
use Rattle.adv_io.specs.declared.consoles.Taken.{Taken}
use Rattle.adv_io.specs.declared.consoles.Taken.TheVariants.{Got, End}
use Rattle.adv_io.specs.declared.events.Event.{Event}
use Rattle.adv_io.specs.declared.events.Event.TheVariants.{Take}
use Rattle.adv_io.specs.declared.faults.ConsoleFault.{ConsoleFault}
use Rattle.adv_io.specs.Console.{ConsoleView, Speaks, TakesFrom}
use Rattle.adv_io.specs.Faults.{HasCause}
use Rattle.adv_io.specs.History.{says, grown, GrewByPrefix}
use Rattle.adv_io.specs.Shelf.{ShelfView}
use Rattle.adv_io.proofs.Sayings.{grown-nil, grown_on, part_on, part_of_more, part_none, cause_again, cause_fails, cause_then}
use Rattle.scott_types.specs.declared.endings.Ending.{Ending}
use Rattle.scott_types.specs.Database.{Database}
use Rattle.scott_tool.specs.Hall.{AnswersLine, HearsNext}
use Rattle.scott_tool.specs.Work.{hall_task}
use Rattle.scott_tool.specs.Obeying.{Obeys}
use Rattle.scott_tool.proofs.Obeying.{where_known, obeys-shown}

-- ---- the answer to a line

where_ok : {T E : Type 0} (result : Result T E) (P : Type 0) → P → OnOk result P
where_ok (Ok x) P h = h
where_ok (Err fault) P h = tt

module _ (old new : ConsoleView) (db : Database) (count : ℕ) (before : List (List ℕ))
    (line : List ℕ) (hall : HallView) (alone : hall.seats ≡ all_alone db count before)
    (goes : HallGoesOnAlone) where
  -- where the session stands to which the line goes
  abbrev seat : Address → Seat
  seat a = seat_alone db a.session (lines_for count a.session before)

  module _ (hears : EachHearsAlone) (a : Address) (is : address_of count line ≡ Some a) where
    kept : GoesOnAlone db count before line (Some a)
    kept = subst (GoesOnAlone db count before line) is (goes db count before line)

    -- what holds of its seat
    of_seat : (P : Seat → Type 0) → IfSome (seat_of hall a.session) P → P (seat a)
    of_seat P h = subst (λ (o : Option Seat). IfSome o P)
        (ap (λ (s : List Seat). slice_get s (a.session - 1)) alone ∙ kept.0) h

    same_text : says (text_by a.session (said_by (seat a) a.line))
        ≡ says (hall_text db count before line)
    same_text =
        ap (λ t. says (text_by a.session t))
        ((hears db a.session (lines_for count a.session before) a.line).says)
        ∙ sym (ap (λ o. says (text_for db count before o)) is)

    -- the session said all
    pub session-answered : (ending : Ending) (seats : List Seat)
        → IfSome (seat_of hall a.session) (λ s. Speaks {E = ConsoleFault} old new (Ok ending)
        (says (text_by a.session (said_by s a.line))))
        → IfSome (seat_of hall a.session)
        (λ s. seats ≡ slice_set hall.seats (a.session - 1) (seat_after s a.line))
        → AnswersLine old new db count before line (Ok tt) seats
    session-answered ending seats spoken after =
        let s = subst (λ (es : List Event). Speaks {E = ConsoleFault} old new (Ok ending) es)
        same_text (of_seat (λ s. Speaks {E = ConsoleFault} old new (Ok ending)
        (says (text_by a.session (said_by s a.line)))) spoken) in
        record {
          spoken = record {
            said = s.said;
            part = tt;
            lines_stay = s.lines_stay;
            bounded = s.bounded;
            cause = cause_again tt s.cause;
          };
          stands =
              of_seat (λ s. seats ≡ slice_set hall.seats (a.session - 1) (seat_after s a.line))
              after
              ∙ ap (λ (all : List Seat). slice_set all (a.session - 1) (seat_after (seat a) a.line))
              alone
              ∙ kept.1;
        }

    -- or the console failed
    pub session-failed : (fault : ConsoleFault) (seats : List Seat)
        → IfSome (seat_of hall a.session) (λ s. Speaks {T = Ending} old new (Err fault)
        (says (text_by a.session (said_by s a.line))))
        → AnswersLine old new db count before line (Err fault) seats
    session-failed fault seats spoken =
        let s = subst (λ (es : List Event). Speaks {T = Ending} old new (Err fault) es)
        same_text (of_seat (λ s. Speaks {T = Ending} old new (Err fault)
        (says (text_by a.session (said_by s a.line)))) spoken) in
        record {
          spoken = record {
            said = tt;
            part = s.part;
            lines_stay = s.lines_stay;
            bounded = s.bounded;
            cause = cause_fails fault s.cause;
          };
          stands = tt;
        }

  -- no session has the line
  pub nobody-answered : (result : Result Unit ConsoleFault) → address_of count line ≡ None
      → Speaks old new result (says no_session)
      → AnswersLine old new db count before line result hall.seats
  nobody-answered result is spoken = record {
    spoken = subst (λ (es : List Event). Speaks old new result es)
        (sym (ap (λ o. says (text_for db count before o)) is)) spoken;
    stands = where_ok result (hall.seats ≡ all_alone db count (before ++ line ∷ []))
        (alone ∙ sym (subst (GoesOnAlone db count before line) is (goes db count before line)));
  }

-- ---- the next line

module _ (old mid new : ConsoleView) (db : Database) (count : ℕ) (before : List (List ℕ))
    (line : List ℕ) (seats : List Seat) where
  abbrev text : List Event
  text = says (hall_text db count before line)

  abbrev Took : Type 0
  Took = mid.history ≡ grown old.history (Take line ∷ [])

  -- it was answered
  pub next-heard : TakesFrom old.left mid.left (Ok Got) line → Took → mid.bound < old.bound
      → HasCause {T = Taken} {E = ConsoleFault} old.faults mid.faults (Ok Got)
      → AnswersLine mid new db count before line (Ok tt) seats
      → HearsNext old new db count before (Ok Got) seats
  next-heard takes took less cause a = record {
    saw = (line, a.stands, by old.left takes);
    bounded = omega (arith, less, a.spoken.bounded);
    cause = cause_then cause (cause_again Got a.spoken.cause);
  }
    where
      by : (left : Option (List (List ℕ))) → TakesFrom left mid.left (Ok Got) line
          → IfSome left (λ lines. (rest : List (List ℕ)) × (lines ≡ line ∷ rest)
          × (new.left ≡ Some rest) × (new.history ≡ grown old.history (Take line ∷ text)))
      by None t = tt
      by (Some []) t = absurd t
      by (Some (next ∷ others)) t = (
        others,
        ap (λ l. l ∷ others) (sym t.0),
        a.spoken.lines_stay ∙ t.1,
        grown_on old.history mid.history new.history (Take line ∷ []) text took a.spoken.said,
      )

  -- its answer failed
  pub next-broken : (fault : ConsoleFault) → TakesFrom old.left mid.left (Ok Got) line → Took
      → mid.bound < old.bound
      → HasCause {T = Taken} {E = ConsoleFault} old.faults mid.faults (Ok Got)
      → AnswersLine mid new db count before line (Err fault) seats
      → HearsNext old new db count before (Err fault) seats
  next-broken fault takes took less cause a = record {
    saw = by old.left takes;
    bounded = omega (arith, less, a.spoken.bounded);
    cause = cause_then cause (cause_fails fault a.spoken.cause);
  }
    where
      by : (left : Option (List (List ℕ))) → TakesFrom left mid.left (Ok Got) line
          → IfSome left
          (λ lines. GrewByPrefix old.history new.history (hall_from db count before lines))
      by None t = tt
      by (Some []) t = absurd t
      by (Some (next ∷ others)) t =
          let later = hall_from db count (before ++ line ∷ []) others in
          subst (λ (l : List ℕ). GrewByPrefix old.history new.history
          (hall_from db count before (l ∷ others))) t.0
          (part_on old.history mid.history new.history (Take line ∷ []) (text ++ later) took
          (part_of_more mid.history new.history text later a.spoken.part))

  -- none was left
  pub next-ends : TakesFrom old.left mid.left (Ok End) line → mid.history ≡ old.history
      → mid.bound ≡ old.bound
      → HasCause {T = Taken} {E = ConsoleFault} old.faults mid.faults (Ok End)
      → HearsNext old mid db count before (Ok End) seats
  next-ends takes took same cause =
      record { saw = by old.left takes; bounded = same; cause = cause }
    where
      by : (left : Option (List (List ℕ))) → TakesFrom left mid.left (Ok End) line
          → IfSome left (λ lines. (lines ≡ []) × (mid.history ≡ old.history))
      by None t = tt
      by (Some []) t = (refl, took)
      by (Some (next ∷ others)) t = absurd t

  -- it couldn't be taken
  pub next-fails : (fault : ConsoleFault) → mid.history ≡ old.history → mid.bound ≤ old.bound
      → HasCause {T = Taken} old.faults mid.faults (Err fault)
      → HearsNext old mid db count before (Err fault) seats
  next-fails fault took less cause = record { saw = by old.left; bounded = less; cause = cause }
    where
      by : (left : Option (List (List ℕ))) → IfSome left
          (λ lines. GrewByPrefix old.history mid.history (hall_from db count before lines))
      by None = tt
      by (Some lines) =
          subst (λ (h : Option (List Event)). GrewByPrefix old.history h
          (hall_from db count before lines)) (sym took)
          (part_none old.history (hall_from db count before lines))

-- ---- all lines

-- with these lines all that a hall says is what was seen so far, and what it says on the rest
pub record Ahead (old now : ConsoleView) (db : Database) (count : ℕ) (before lines : List (List ℕ))
    : Type 0 where
  pub rest : List (List ℕ)
  pub done : List Event
  pub left : now.left ≡ Some rest
  pub grew : now.history ≡ grown old.history done
  pub whole : done ++ hall_from db count before rest ≡ hall_events db count lines

-- the sessions stand where they would alone after some lines
pub record Heard (old now : ConsoleView) (db : Database) (count : ℕ) (seats : List Seat) : Type 0
  where
    pub before : List (List ℕ)
    pub alone : seats ≡ all_alone db count before
    pub ahead : IfSome old.left (Ahead old now db count before)

-- before the first line each session stands where it would alone, and nothing was seen
pub none-heard : (old : ConsoleView) (db : Database) (count : ℕ) (seats : List Seat)
    → seats ≡ all_alone db count [] → Heard old old db count seats
none-heard old db count seats alone =
    record { before = []; alone = alone; ahead = by old.left refl }
  where
    by : (left : Option (List (List ℕ))) → old.left ≡ left
        → IfSome left (Ahead old old db count [])
    by None is = tt
    by (Some lines) is = record {
      rest = lines;
      done = [];
      left = is;
      grew = sym (grown-nil old.history);
      whole = refl;
    }

module _ (old now new : ConsoleView) (db : Database) (count : ℕ)
    (seats later : List Seat) (h : Heard old now db count seats) where
  -- what is known where the lines are
  abbrev Now : (List (List ℕ) → Type 0) → Type 0
  Now P = IfSome now.left P

  for_rest : (P : List (List ℕ) → Type 0) → Now P → (lines : List (List ℕ))
      → (a : Ahead old now db count h.before lines) → P a.rest
  for_rest P known lines a = subst (λ (o : Option (List (List ℕ))). IfSome o P) a.left known

  -- one more line was heard
  pub one-heard : HearsNext now new db count h.before (Ok Got) later
      → Heard old new db count later
  one-heard next =
      let line = next.saw.0 in
      let text = says (hall_text db count h.before line) in
      record {
        before = h.before ++ line ∷ [];
        alone = next.saw.1;
        ahead = where_known (Ahead old now db count h.before)
            (Ahead old new db count (h.before ++ line ∷ []))
            (λ lines a. let m = for_rest _ next.saw.2 lines a in record {
              rest = m.0;
              done = a.done ++ (Take line ∷ text);
              left = m.2;
              grew = grown_on old.history now.history new.history a.done (Take line ∷ text) a.grew
                  m.3;
              whole =
                  append_assoc a.done (Take line ∷ text)
                  (hall_from db count (h.before ++ line ∷ []) m.0)
                  ∙ ap (λ (ls : List (List ℕ)). a.done ++ hall_from db count h.before ls) (sym m.1)
                  ∙ a.whole;
            }) old.left h.ahead;
      }

  abbrev All : List (List ℕ) → Type 0
  All lines = new.history ≡ grown old.history (hall_events db count lines)

  abbrev Some_of : List (List ℕ) → Type 0
  Some_of lines = GrewByPrefix old.history new.history (hall_events db count lines)

  -- no line was left
  pub obeys-heard : (shelf : ShelfView) → now.faults ≡ old.faults
      → HearsNext now new db count h.before (Ok End) later
      → Obeys shelf shelf old new (Ok (hall_task db count)) 0
  obeys-heard shelf steady next =
      let all = where_known (Ahead old now db count h.before) All
      (λ lines a. let m = for_rest _ next.saw lines a in
      m.1 ∙ a.grew ∙ ap (grown old.history) (sym (append-nil a.done)
      ∙ ap (λ (ls : List (List ℕ)). a.done ++ hall_from db count h.before ls) (sym m.0)
      ∙ a.whole)) old.left h.ahead in
      let result : Result Taken ConsoleFault = Ok End in
      obeys-shown old new 0 shelf (hall_task db count) (λ lines. hall_events db count lines)
      (λ lines. refl) (Ok (hall_task db count)) result refl all
      (where_known All (λ lines. Unit {0}) (λ lines is. tt) old.left all)
      (subst (λ (n : ℕ). HasCause {T = Taken} {E = ConsoleFault} n new.faults (Ok End)) steady
      next.cause) refl

  -- the console failed
  pub obeys-cut : (shelf : ShelfView) (fault : ConsoleFault) → now.faults ≡ old.faults
      → HearsNext now new db count h.before (Err fault) later
      → Obeys shelf shelf old new (Ok (hall_task db count)) 3
  obeys-cut shelf fault steady next =
      let part = where_known (Ahead old now db count h.before) Some_of
      (λ lines a. subst (λ (es : List Event). GrewByPrefix old.history new.history es) a.whole
      (part_on old.history now.history new.history a.done
      (hall_from db count h.before a.rest) a.grew (for_rest _ next.saw lines a)))
      old.left h.ahead in
      let result : Result Taken ConsoleFault = Err fault in
      obeys-shown old new 3 shelf (hall_task db count) (λ lines. hall_events db count lines)
      (λ lines. refl) (Ok (hall_task db count)) result refl
      (where_known Some_of (λ lines. Unit {0}) (λ lines is. tt) old.left part) part
      (subst (λ (n : ℕ). HasCause {T = Taken} n new.faults (Err fault)) steady next.cause) refl
