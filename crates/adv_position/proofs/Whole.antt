-- A whole text is read exactly where it is one, and the first bad line is found exactly.
use Rattle.std.proofs.Common.{◌≡◌, ◌∙◌, ℕ, ◌+◌, Bool, List, [], ◌∷◌, ◌++◌, Some, None, Ok, Err, length, drop, map, ℤ, pos, negsuc, codes, refl, sym, ap, subst, inl, inr}
use Rattle.std.specs.Prelude.{◌↔◌, ◌⊎◌, Result, IfOk, MatchResult}
use Rattle.std.specs.List.{flat_map}
use Rattle.adv_text.specs.Laws.{SpelledNumberIsRead, WrittenNumberIsSpelled}
use Rattle.scott_types.specs.declared.states.State.{State}
use Rattle.scott_types.specs.declared.endings.Position.{Position}
use Rattle.scott_types.specs.declared.endings.Position.TheVariants.{Fresh, Draw, Line, Over}
use Rattle.scott_turn.specs.Positions.{CanStand}
use Rattle.scott_types.specs.Database.{Database}
use Rattle.scott_types.specs.Limits.{KeepsLimits}
use Rattle.scott_types.specs.State.{Fits, StartFits, start}
use Rattle.adv_position.specs.declared.saved.Saved.{Saved}
use Rattle.adv_position.specs.declared.saved.PositionFault.{PositionFault}
use Rattle.adv_position.specs.declared.lines.RoomLine.{RoomLine}
use Rattle.adv_position.specs.Numbers.{amount, bit, is_one}
use Rattle.adv_position.specs.Text.{Waits, IsSaved, lines, position_text, number_line, numbers_line, at_line, room_line}
use Rattle.adv_position.specs.Bad.{Begins, FirstBad, BadLine}
use Rattle.adv_position.specs.Reading.{Read, heading_in, at_in, taken_in, room_line_in, numbers_in, highest_room, state_of, onward, at_end, position_in}
use Rattle.adv_position.specs.Laws.{TextIsRead, BadLineIsFound, TextHasOneValue, TextsOrBadLines, IsText}
use Rattle.adv_position.proofs.EachLine.{ReadsLine, now_of, AreParts, parts-fit, heading-reads, at-reads, taken-reads, room-reads, rooms-reads, counters-read, flags-read, places-read}

onward-ok : {X : Type 0} (k : ℕ) (o : Read X) (next : X → List ℕ → Result Saved ℕ) (saved : Saved)
    → onward k o next ≡ Ok saved
    → (x : X) × (after : List ℕ) × (o ≡ Some (x, after)) × (next x after ≡ Ok saved)
onward-ok k None next saved e = absurd (cc)
onward-ok k (Some read) next saved e = (read.0, read.1, refl, e)

onward-on : {X : Type 0} (k : ℕ) (o : Read X) (next : X → List ℕ → Result Saved ℕ) (x : X)
    (after : List ℕ) → o ≡ Some (x, after) → onward k o next ≡ next x after
onward-on k o next x after e = ap (λ r. onward k r next) e

same-number : (k n : ℕ) → ◌≡◌ {A = Result Saved ℕ} (Err k) (Err n) → n ≡ k
same-number k n e = cc

ok-same : (a b : Saved) → ◌≡◌ {A = Result Saved ℕ} (Ok a) (Ok b) → a ≡ b
ok-same a b e = cc

never-both : (saved : Saved) (n : ℕ) → ◌≡◌ {A = Result Saved ℕ} (Ok saved) (Err n) → ⊥
never-both saved n e = cc

-- ---- one line that may be bad

module _ (db : Database) {X : Type 0} (line : Saved → List ℕ) (read : List ℕ → Read X) (part : Saved
    → X) (with_part : X → Saved) (reads : ReadsLine db line read part with_part) (k : ℕ)
    (next : X → List ℕ → Result Saved ℕ) (more : List (Saved → List ℕ)) where
  -- where it can't be read the bytes don't begin with it
  begins-not : (bytes : List ℕ) → read bytes ≡ None → ¬ (Begins db line bytes)
  begins-not bytes none begun =
      let e = ap read begun.3 ∙ reads.complete begun.0 begun.1 begun.2 in
      let clash : ◌≡◌ {A = Read X} None (Some (part begun.0, begun.1)) = sym none ∙ e in
      absurd (cc)

  bad-from : ((x : X) (rest : List ℕ) (n : ℕ) → next x rest ≡ Err n → FirstBad db (k + 1) more rest
      n)
      → (bytes : List ℕ) (n : ℕ) (o : Read X) → read bytes ≡ o → onward k o next ≡ Err n
      → FirstBad db k (line ∷ more) bytes n
  bad-from later bytes n None is e = inl (begins-not bytes is, same-number k n e)
  bad-from later bytes n (Some found) is e =
      let good = reads.sound bytes found.0 found.1 is in
      inr (with_part found.0, found.1, good.0, good.1, later found.0 found.1 n e)

  -- where this line, or one after it, is the first bad one, reading gives its number
  bad-to : ((x : X) (rest : List ℕ) (n : ℕ) → FirstBad db (k + 1) more rest n → next x rest ≡ Err n)
      → (bytes : List ℕ) (n : ℕ) (o : Read X) → read bytes ≡ o → FirstBad db k (line ∷ more) bytes n
      → onward k o next ≡ Err n
  bad-to later bytes n None is (inl first) = ap Err (sym first.1)
  bad-to later bytes n None is (inr begun) = absurd
      (begins-not bytes is (begun.0, begun.1, begun.2, begun.3))
  bad-to later bytes n (Some found) is (inl first) =
      let good = reads.sound bytes found.0 found.1 is in
      absurd (first.0 (with_part found.0, found.1, good.0, good.1))
  bad-to later bytes n (Some found) is (inr begun) =
      let there = sym is ∙ ap read begun.3 ∙ reads.complete begun.0 begun.1 begun.2 in
      onward-on k (Some found) next (part begun.0) begun.1 there ∙ later (part begun.0) begun.1 n
      begun.4

  pub bad-level : ((x : X) (rest : List ℕ) (n : ℕ) → (next x rest ≡ Err n)
      ↔ FirstBad db (k + 1) more rest n) → (bytes : List ℕ) (n : ℕ)
      → (onward k (read bytes) next ≡ Err n) ↔ FirstBad db k (line ∷ more) bytes n
  bad-level later bytes n = (
    bad-from (λ x rest m. (later x rest m).0) bytes n (read bytes) refl,
    bad-to
        (λ x rest m. (later x rest m).1) bytes n (read bytes) refl,
  )

-- ---- more bytes

end-bad : (db : Database) (saved : Saved) (rest : List ℕ) (n : ℕ) → (at_end rest saved ≡ Err n)
    ↔ FirstBad db 9 [] rest n
end-bad db saved [] n = (λ e. absurd (cc), λ bad. absurd (bad.0 refl))
end-bad db saved (b ∷ rest) n = (
  λ e. (λ same. absurd (cc), same-number 9 n e),
  λ bad. ap Err
      (sym bad.1),
)

end-ok : (rest : List ℕ) (saved made : Saved) → at_end rest made ≡ Ok saved → (rest ≡ [])
    × (made ≡ saved)
end-ok [] saved made e = (refl, cc)
end-ok (b ∷ rest) saved made e = absurd (cc)

-- ---- the eight lines

module _ (db : Database) (spelled : SpelledNumberIsRead) (written : WrittenNumberIsSpelled)
    (limits : KeepsLimits db) (fits : Fits db (start db)) where
  abbrev s : State
  s = start db

  abbrev made : Position → ℕ → RoomLine → List ℕ → List ℤ → List Bool → List ℕ → Saved
  made position taken now rooms counters flags places = record
      { state = state_of now rooms counters flags places; position = position; taken = taken }

  abbrev from_places : Position → ℕ → RoomLine → List ℕ → List ℤ → List Bool → List ℕ
      → Result Saved ℕ
  from_places position taken now rooms counters flags bytes = onward 8
      (numbers_in amount (codes "places") (pos 0) (pos 255) (length db.items) bytes)
      (λ places rest. at_end rest (made position taken now rooms counters flags places))

  abbrev from_flags : Position → ℕ → RoomLine → List ℕ → List ℤ → List ℕ → Result Saved ℕ
  from_flags position taken now rooms counters bytes = onward 7
      (numbers_in is_one (codes "flags") (pos 0) (pos 1) 32 bytes)
      (from_places position taken now rooms counters)

  abbrev from_counters : Position → ℕ → RoomLine → List ℕ → List ℕ → Result Saved ℕ
  from_counters position taken now rooms bytes = onward 6
      (numbers_in (λ z. z) (codes "counters") (negsuc 0) (pos 32767) 16 bytes)
      (from_flags position taken now rooms)

  abbrev from_rooms : Position → ℕ → RoomLine → List ℕ → Result Saved ℕ
  from_rooms position taken now bytes = onward 5
      (numbers_in amount (codes "rooms") (pos 0) (highest_room db) 16 bytes)
      (from_counters position taken now)

  abbrev from_room : Position → ℕ → List ℕ → Result Saved ℕ
  from_room position taken bytes = onward 4 (room_line_in db bytes) (from_rooms position taken)

  abbrev from_taken : Position → List ℕ → Result Saved ℕ
  from_taken position bytes = onward 3 (taken_in bytes) (from_room position)

  abbrev from_at : List ℕ → Result Saved ℕ
  from_at bytes = onward 2 (at_in db bytes) from_taken

  -- reading gives the number of a line exactly where that line is the first bad one
  pub bad_line-found : (bytes : List ℕ) (n : ℕ) → (position_in db bytes ≡ Err n)
      ↔ BadLine db bytes n
  unfolding position_in
  bad_line-found bytes n =
      bad-level db _ heading_in _ _ (heading-reads db spelled written limits s fits) 1
      (λ _ at. from_at at) (drop 1 lines) (λ _ at.
      bad-level db _ (at_in db) _ _ (at-reads db spelled written limits s fits) 2 from_taken
      (drop 2 lines) (λ position take.
      bad-level db _ taken_in _ _ (taken-reads db spelled written limits s fits) 3
      (from_room position) (drop 3 lines) (λ taken room.
      bad-level db _ (room_line_in db) _ _ (room-reads db spelled written limits s fits) 4
      (from_rooms position taken) (drop 4 lines) (λ now backup.
      bad-level db _ (numbers_in amount (codes "rooms") (pos 0) (highest_room db) 16) _ _
      (rooms-reads db spelled written limits s fits) 5 (from_counters position taken now)
      (drop 5 lines) (λ rooms count.
      bad-level db _ (numbers_in (λ z. z) (codes "counters") (negsuc 0) (pos 32767) 16) _ _
      (counters-read db spelled written limits s fits) 6 (from_flags position taken now rooms)
      (drop 6 lines) (λ counters flag.
      bad-level db _ (numbers_in is_one (codes "flags") (pos 0) (pos 1) 32) _ _
      (flags-read db spelled written limits s fits) 7
      (from_places position taken now rooms counters) (drop 7 lines) (λ flags place.
      bad-level db _ (numbers_in amount (codes "places") (pos 0) (pos 255) (length db.items)) _ _
      (places-read db spelled written limits s fits) 8
      (λ places rest. at_end rest (made position taken now rooms counters flags places)) []
      (λ places rest m.
      end-bad db (made position taken now rooms counters flags places) rest m)
      place) flag) count) backup) room) take) at) bytes n

  -- ---- a whole text

  -- the text from a line on
  abbrev position_rest : ℕ → Saved → List ℕ
  position_rest k saved = flat_map (λ line. line saved) (drop k lines)

  -- the text of a stopped play is read as that play
  pub text-complete : (saved : Saved) → IsSaved db saved → position_in db (position_text saved)
      ≡ Ok saved
  unfolding position_in
  text-complete saved good =
      let st = saved.state in
      let p = saved.position in
      let now = now_of st in
      onward-on 1 (heading_in (position_text saved)) (λ _ at. from_at at) tt (position_rest 1 saved)
      ((heading-reads db spelled written limits s fits).complete saved (position_rest 1 saved)
      good)
      ∙ onward-on 2 (at_in db (position_rest 1 saved)) from_taken p (position_rest 2 saved)
      ((at-reads db spelled written limits s fits).complete saved (position_rest 2 saved) good)
      ∙ onward-on 3 (taken_in (position_rest 2 saved)) (from_room p) saved.taken
      (position_rest 3 saved) ((taken-reads db spelled written limits s fits).complete saved
      (position_rest 3 saved) good)
      ∙ onward-on 4 (room_line_in db (position_rest 3 saved)) (from_rooms p saved.taken) now
      (position_rest 4 saved) ((room-reads db spelled written limits s fits).complete saved
      (position_rest 4 saved) good)
      ∙ onward-on 5 (numbers_in amount (codes "rooms") (pos 0) (highest_room db) 16
      (position_rest 4 saved)) (from_counters p saved.taken now) st.rooms
      (position_rest 5 saved) ((rooms-reads db spelled written limits s fits).complete saved
      (position_rest 5 saved) good)
      ∙ onward-on 6 (numbers_in (λ z. z) (codes "counters") (negsuc 0) (pos 32767) 16
      (position_rest 5 saved)) (from_flags p saved.taken now st.rooms) st.counters
      (position_rest 6 saved) ((counters-read db spelled written limits s fits).complete saved
      (position_rest 6 saved) good)
      ∙ onward-on 7 (numbers_in is_one (codes "flags") (pos 0) (pos 1) 32 (position_rest 6 saved))
      (from_places p saved.taken now st.rooms st.counters) st.flags (position_rest 7 saved)
      ((flags-read db spelled written limits s fits).complete saved (position_rest 7 saved)
      good)
      ∙ onward-on 8 (numbers_in amount (codes "places") (pos 0) (pos 255) (length db.items)
      (position_rest 7 saved))
      (λ places rest. at_end rest (made p saved.taken now st.rooms st.counters st.flags places))
      st.places.items [] ((places-read db spelled written limits s fits).complete saved [] good)

  -- bytes that are read as a stopped play are the text of it
  pub text-sound : (bytes : List ℕ) (saved : Saved) → position_in db bytes ≡ Ok saved
      → IsSaved db saved × (bytes ≡ position_text saved)
  unfolding position_in
  text-sound bytes saved e =
      let r1 = onward-ok 1 (heading_in bytes) (λ _ at. from_at at) saved e in
      let r2 = onward-ok 2 (at_in db r1.1) from_taken saved r1.3 in
      let r3 = onward-ok 3 (taken_in r2.1) (from_room r2.0) saved r2.3 in
      let r4 = onward-ok 4 (room_line_in db r3.1) (from_rooms r2.0 r3.0) saved r3.3 in
      let r5 = onward-ok 5 (numbers_in amount (codes "rooms") (pos 0) (highest_room db) 16 r4.1)
      (from_counters r2.0 r3.0 r4.0) saved r4.3 in
      let r6 = onward-ok 6 (numbers_in (λ z. z) (codes "counters") (negsuc 0) (pos 32767) 16 r5.1)
      (from_flags r2.0 r3.0 r4.0 r5.0) saved r5.3 in
      let r7 = onward-ok 7 (numbers_in is_one (codes "flags") (pos 0) (pos 1) 32 r6.1)
      (from_places r2.0 r3.0 r4.0 r5.0 r6.0) saved r6.3 in
      let r8 = onward-ok 8 (numbers_in amount (codes "places") (pos 0) (pos 255) (length db.items)
      r7.1) (λ places rest. at_end rest (made r2.0 r3.0 r4.0 r5.0 r6.0 r7.0 places)) saved
      r7.3 in
      let all = made r2.0 r3.0 r4.0 r5.0 r6.0 r7.0 r8.0 in
      let last = end-ok r8.1 saved all r8.3 in
      let s1 = (heading-reads db spelled written limits s fits).sound bytes r1.0 r1.1 r1.2 in
      let s2 = (at-reads db spelled written limits s fits).sound r1.1 r2.0 r2.1 r2.2 in
      let s3 = (taken-reads db spelled written limits s fits).sound r2.1 r3.0 r3.1 r3.2 in
      let s4 = (room-reads db spelled written limits s fits).sound r3.1 r4.0 r4.1 r4.2 in
      let s5 = (rooms-reads db spelled written limits s fits).sound r4.1 r5.0 r5.1 r5.2 in
      let s6 = (counters-read db spelled written limits s fits).sound r5.1 r6.0 r6.1 r6.2 in
      let s7 = (flags-read db spelled written limits s fits).sound r6.1 r7.0 r7.1 r7.2 in
      let s8 = (places-read db spelled written limits s fits).sound r7.1 r8.0 r8.1 r8.2 in
      let parts : AreParts db r4.0 r5.0 r6.0 r7.0 r8.0 = record {
        now_is = record {
          room = s4.0.fits.rooms.room;
          saved = s4.0.fits.rooms.saved;
          counter = s4.0.fits.counters.counter;
          light = s4.0.fits.light;
        };
        rooms_are = s5.0.fits.rooms.rooms;
        room_count = s5.0.fits.rooms.count;
        counters_are = s6.0.fits.counters.counters;
        counter_count = s6.0.fits.counters.count;
        flag_count = s7.0.fits.flags;
        places_are = s8.0.fits.places.places;
        place_count = s8.0.fits.places.count;
      } in
      let good : IsSaved db all = record {
        fits = parts-fit db r4.0 r5.0 r6.0 r7.0 r8.0 parts;
        waits = s2.0.waits;
        taken = s3.0.taken;
      } in
      let text : bytes ≡ position_text all =
      s1.1 ∙ ap (λ r. codes "position 1\n" ++ r)
      (s2.1 ∙ ap (λ r. at_line r2.0 ++ r)
      (s3.1 ∙ ap (λ r. number_line (codes "taken") (pos r3.0) ++ r)
      (s4.1 ∙ ap (λ r. room_line all.state ++ r)
      (s5.1 ∙ ap (λ r. numbers_line (codes "rooms") (map pos r5.0) ++ r)
      (s6.1 ∙ ap (λ r. numbers_line (codes "counters") r6.0 ++ r)
      (s7.1 ∙ ap (λ r. numbers_line (codes "flags") (map bit r7.0) ++ r)
      (s8.1 ∙ ap (λ r. numbers_line (codes "places") (map pos r8.0) ++ r) last.0))))))) in
      (subst (IsSaved db) last.1 good, text ∙ ap position_text last.1)

-- ---- the laws

module _ (spelled : SpelledNumberIsRead) (written : WrittenNumberIsSpelled) (start_fits : StartFits)
  where
    pub text_is_read : TextIsRead
    text_is_read db bytes saved limits =
        let fits = start_fits db limits in (
          text-sound db spelled written limits fits bytes saved,
          λ is. ap (position_in db) is.1 ∙ text-complete db spelled written limits fits saved is.0,
        )

    pub bad_line_is_found : BadLineIsFound
    bad_line_is_found db bytes n limits = bad_line-found db spelled written limits
        (start_fits db limits) bytes n

    pub text_has_one_value : TextHasOneValue
    text_has_one_value db a b limits good_a good_b same =
        let fits = start_fits db limits in
        let read = sym (text-complete db spelled written limits fits a good_a)
        ∙ ap (position_in db) same ∙ text-complete db spelled written limits fits b good_b in
        ok-same a b read

    either : (db : Database) (bytes : List ℕ) (r : Result Saved ℕ) → KeepsLimits db
        → position_in db bytes ≡ r → IsText db bytes ⊎ ((n : ℕ) × BadLine db bytes n)
    either db bytes (Ok saved) limits is =
        let read = (text_is_read db bytes saved limits).0 is in
        inl (saved, read.0, read.1)
    either db bytes (Err n) limits is = inr (n, (bad_line_is_found db bytes n limits).0 is)

    pub texts_or_bad_lines : TextsOrBadLines
    texts_or_bad_lines db bytes limits = record {
      either = either db bytes (position_in db bytes) limits refl;
      never_both = λ text n bad.
          let read = (text_is_read db bytes text.0 limits).1 (text.1, text.2) in
          never-both text.0 n (sym read ∙ (bad_line_is_found db bytes n limits).1 bad);
      one_line = λ n m first second.
          same-number m n (sym ((bad_line_is_found db bytes m limits).1 second)
          ∙ (bad_line_is_found db bytes n limits).1 first);
    }

-- ---- what a reader answers that reads so

-- a play can stand where it waits
can_stand : (db : Database) (position : Position) → Waits db position → CanStand db position
can_stand db Line waits = tt
can_stand db (Draw head) waits = waits
can_stand db Fresh waits = tt
can_stand db (Over ending) waits = absurd waits

value-same : (a b : Saved) → ◌≡◌ {A = Result Saved PositionFault} (Ok a) (Ok b) → a ≡ b
value-same a b e = cc

error-same : (f g : PositionFault) → ◌≡◌ {A = Result Saved PositionFault} (Err f) (Err g) → f ≡ g
error-same f g e = cc

number-of : (fault : PositionFault) (n : ℕ) → ◌≡◌ {A = Result Saved PositionFault} (Err fault)
    (Err (record { 0 = n })) → fault.0 ≡ n
number-of fault n e = ap (λ f. f.0) (error-same fault (record { 0 = n }) e)

fault-same : (fault : PositionFault) (n : ℕ) → fault.0 ≡ n → ◌≡◌ {A = Result Saved PositionFault}
    (Err fault) (Err (record { 0 = n }))
fault-same fault n e = ap (λ m. Err (record { 0 = m })) e

module _ (db : Database) (bytes : List ℕ) (limits : KeepsLimits db) where
  -- such a reader gives a stopped play exactly where the bytes are its text
  pub as_text : TextIsRead → (result : Result Saved PositionFault)
      → MatchResult result (λ saved. position_in db bytes ≡ Ok saved) (λ fault. position_in db bytes
      ≡ Err fault.0)
      → (saved : Saved) → (result ≡ Ok saved) ↔ (IsSaved db saved × (bytes ≡ position_text saved))
  as_text law (Ok read) is saved = (
    λ e. (law db bytes saved limits).0 (is ∙ ap Ok (value-same read saved e)),
    λ good. ap Ok (ok-same read saved (sym is ∙ (law db bytes saved limits).1 good)),
  )
  as_text law (Err fault) is saved = (
    λ e. absurd (cc),
    λ good. absurd (never-both saved fault.0 (sym ((law db bytes saved limits).1 good) ∙ is)),
  )

  -- such a reader gives the number of a line exactly where it is the first bad one
  pub as_bad : BadLineIsFound → (result : Result Saved PositionFault)
      → MatchResult result (λ saved. position_in db bytes ≡ Ok saved) (λ fault. position_in db bytes
      ≡ Err fault.0)
      → (n : ℕ) → (result ≡ Err (record { 0 = n })) ↔ BadLine db bytes n
  as_bad law (Ok read) is n = (
    λ e. absurd (cc),
    λ bad. absurd (never-both read n (sym is ∙ (law db bytes n limits).1 bad)),
  )
  as_bad law (Err fault) is n = (
    λ e. (law db bytes n limits).0 (is ∙ ap Err (number-of fault n e)),
    λ bad. fault-same fault n (same-number n fault.0 (sym ((law db bytes n limits).1 bad) ∙ is)),
  )

  pub as_saved : TextIsRead → (result : Result Saved PositionFault) → MatchResult result
      (λ saved. position_in db bytes ≡ Ok saved) (λ fault. position_in db bytes ≡ Err fault.0)
      → IfOk result (λ saved. IsSaved db saved)
  as_saved law (Ok read) is = ((law db bytes read limits).0 is).0
  as_saved law (Err fault) is = tt

  pub as_standing : TextIsRead → (result : Result Saved PositionFault) → MatchResult result
      (λ saved. position_in db bytes ≡ Ok saved) (λ fault. position_in db bytes ≡ Err fault.0)
      → IfOk result (λ saved. CanStand db saved.position)
  as_standing law (Ok read) is =
      can_stand db read.position ((law db bytes read limits).0 is).0.waits
  as_standing law (Err fault) is = tt
