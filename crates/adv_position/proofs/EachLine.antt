-- Each line is read exactly where it stands.
use Rattle.std.proofs.Common.{◌≡◌, ◌∙◌, ℕ, ◌-◌, Bool, true, false, cond, List, [], ◌∷◌, ◌++◌, Option, Some, None, length, map, ℤ, pos, negsuc, codes, refl, sym, ap, subst, append_assoc, arith}
use Rattle.std.specs.Prelude.{IsTrue, ◌≤ℤ◌, int_le, nat_lt, nat_le, if◌then◌else◌}
use Rattle.std.specs.List.{list_all}
use Rattle.std.proofs.lemmas.Bool.{and_parts, and_from, ltb-true, leb-true}
use Rattle.adv_io.specs.Text.{newline}
use Rattle.adv_text.specs.Laws.{SpelledNumberIsRead, WrittenNumberIsSpelled}
use Rattle.scott_types.specs.declared.states.State.{State}
use Rattle.scott_types.specs.declared.endings.Position.{Position}
use Rattle.scott_types.specs.declared.endings.Position.TheVariants.{Fresh, Draw, Line, Over}
use Rattle.scott_types.specs.Database.{Database}
use Rattle.scott_types.specs.Limits.{KeepsLimits}
use Rattle.scott_types.specs.State.{Fits, is_room_of, is_place, is_counter}
use Rattle.scott_turn.specs.Positions.{is_automatic}
use Rattle.adv_position.specs.declared.saved.Saved.{Saved}
use Rattle.adv_position.specs.declared.lines.RoomLine.{RoomLine}
use Rattle.adv_position.specs.Numbers.{amount, bit, is_one, is_within}
use Rattle.adv_position.specs.Text.{Waits, IsSaved, labelled, number_line, numbers_line, at_line, room_line}
use Rattle.adv_position.specs.Reading.{Read, onto, after_text, ended, field_in, numbers_in, heading_in, head_in, at_in, at_line_or, taken_in, highest_room, room_line_in, state_of}
use Rattle.adv_position.proofs.Pieces.{onto_text-some, onto_text-on, same-text, map-same, ended-some, read-same, after_text-sound, field-from, field-then, numbers-sound, numbers-complete}
use Rattle.adv_position.proofs.Values.{int_le-from, int_le-true, all-to, numbers-stand, amounts-stand, bits-stand, bit-within, bits-within, few_rooms, room-within, within-room, place-within, within-place, light-fits, least-fits, counter-fits, amount-within, within-amount}

-- what is read of a line is that of a stopped play, and the line of a stopped play is read
pub record ReadsLine (db : Database) (line : Saved → List ℕ) {X : Type 0} (read : List ℕ → Read X)
    (part : Saved → X) (with_part : X → Saved) : Type 0 where
  pub sound : (bytes : List ℕ) (x : X) (rest : List ℕ) → read bytes ≡ Some (x, rest)
      → IsSaved db (with_part x) × (bytes ≡ line (with_part x) ++ rest)
  pub complete : (saved : Saved) (rest : List ℕ) → IsSaved db saved → read (line saved ++ rest)
      ≡ Some (part saved, rest)

-- ---- plays that stopped

-- what the room line says of a state
abbrev pub now_of : State → RoomLine
now_of s = record {
  room = s.room;
  saved = s.saved;
  light = s.light;
  counter = s.counter;
  redraw = s.redraw;
}

-- it can be said of a state that fits
pub record IsNow (db : Database) (now : RoomLine) : Type 0 where
  pub room : IsTrue (is_room_of db now.room)
  pub saved : IsTrue (is_room_of db now.saved)
  pub counter : IsTrue (is_counter now.counter)
  pub light : (negsuc 0 ≤ℤ now.light) × (now.light ≤ℤ db.header.light)

pub now-fits : (db : Database) (s : State) → Fits db s → IsNow db (now_of s)
now-fits db s fits = record {
  room = fits.rooms.room;
  saved = fits.rooms.saved;
  counter = fits.counters.counter;
  light = fits.light;
}

-- the parts of a state that fits
pub record AreParts (db : Database) (now : RoomLine) (rooms : List ℕ) (counters : List ℤ)
    (flags : List Bool) (places : List ℕ) : Type 0 where
  pub now_is : IsNow db now
  pub rooms_are : IsTrue (list_all (is_room_of db) rooms)
  pub room_count : length rooms ≡ 16
  pub counters_are : IsTrue (list_all is_counter counters)
  pub counter_count : length counters ≡ 16
  pub flag_count : length flags ≡ 32
  pub places_are : IsTrue (list_all is_place places)
  pub place_count : length places ≡ length db.items

-- a state of such parts fits the database
pub parts-fit : (db : Database) (now : RoomLine) (rooms : List ℕ) (counters : List ℤ)
    (flags : List Bool) (places : List ℕ) → AreParts db now rooms counters flags places
    → Fits db (state_of now rooms counters flags places)
parts-fit db now rooms counters flags places parts = record {
  rooms = record {
    room = parts.now_is.room;
    saved = parts.now_is.saved;
    rooms = parts.rooms_are;
    count = parts.room_count;
  };
  counters = record {
    counter = parts.now_is.counter;
    counters = parts.counters_are;
    count = parts.counter_count;
  };
  flags = parts.flag_count;
  light = parts.now_is.light;
  places = record { count = parts.place_count; places = parts.places_are };
}

-- a state that fits the database has such parts
pub fits-parts : (db : Database) (s : State) → Fits db s → AreParts db (now_of s) s.rooms s.counters
    s.flags s.places.items
fits-parts db s fits = record {
  now_is = now-fits db s fits;
  rooms_are = fits.rooms.rooms;
  room_count = fits.rooms.count;
  counters_are = fits.counters.counters;
  counter_count = fits.counters.count;
  flag_count = fits.flags;
  places_are = fits.places.places;
  place_count = fits.places.count;
}

-- a play that stopped with this state, before a draw was taken
abbrev pub waiting : State → Saved
waiting s = record { state = s; position = Line; taken = 0 }

pub waiting-saved : (db : Database) (s : State) → Fits db s → IsSaved db (waiting s)
waiting-saved db s fits = record { fits = fits; waits = tt; taken = omega arith }

module _ (db : Database) (spelled : SpelledNumberIsRead) (written : WrittenNumberIsSpelled)
    (limits : KeepsLimits db) (s : State) (fits : Fits db s) where
  base : AreParts db (now_of s) s.rooms s.counters s.flags s.places.items
  base = fits-parts db s fits

  -- ---- the heading

  pub heading-reads : ReadsLine db (λ saved. codes "position 1\n") heading_in (λ saved. tt)
      (λ x. waiting s)
  heading-reads = record {
    sound = λ bytes x rest e.
        let found = onto_text-some (codes "position 1\n") bytes (λ r. Some (tt, r)) x rest e in
        let last = read-same tt x found.0 rest found.2 in
        (waiting-saved db s fits, found.1 ∙ ap (λ r. codes "position 1\n" ++ r) last.1);
    complete = λ saved rest good. onto_text-on (codes "position 1\n") rest (λ r. Some (tt, r));
  }

  -- ---- where the play stands

  abbrev by_head : ℕ → List ℕ → Read Position
  by_head head rest = if is_automatic db head then ended (Draw head) rest else None

  head-ended : (q : Bool) (head : ℕ) (bytes : List ℕ) (position : Position) (rest : List ℕ)
      → is_automatic db head ≡ q → cond q (ended (Draw head) bytes) None ≡ Some (position, rest)
      → IsTrue (is_automatic db head) × (Draw head ≡ position) × (bytes ≡ newline ∷ rest)
  head-ended true head bytes position rest there e = let last = ended-some (Draw head) position
      bytes rest e in (there, last.0, last.1)
  head-ended false head bytes position rest other e = absurd (cc)

  head-sound : (bytes : List ℕ) (position : Position) (rest : List ℕ) → head_in db bytes
      ≡ Some (position, rest) → Waits db position × (bytes ≡ at_line position ++ rest)
  head-sound bytes position rest e =
      let read = field-from spelled written amount pos (pos 0) (pos 65535)
      (amounts-stand 65535 (omega arith)) (codes "at draw") bytes by_head position rest e in
      let last = head-ended (is_automatic db read.0) read.0 read.1 position rest refl read.4 in
      let text : bytes ≡ at_line (Draw read.0) ++ rest = read.3
      ∙ ap (λ r. labelled (codes "at draw") (pos read.0) ++ r) last.2
      ∙ sym (append_assoc (labelled (codes "at draw") (pos read.0)) (newline ∷ []) rest) in
      (subst (Waits db) last.1 last.0, text ∙ ap (λ p. at_line p ++ rest) last.1)

  -- bytes that are read as where a play waits begin with the line that says so
  at-sound : (o : Option (List ℕ)) (bytes : List ℕ) (position : Position) (rest : List ℕ)
      → after_text (codes "at line\n") bytes ≡ o → at_line_or (head_in db bytes) o
      ≡ Some (position, rest)
      → Waits db position × (bytes ≡ at_line position ++ rest)
  at-sound None bytes position rest none e = head-sound bytes position rest e
  at-sound (Some after) bytes position rest found e =
      let last = read-same Line position after rest e in (
        subst (Waits db) last.0 tt,
        after_text-sound (codes "at line\n") bytes after found
            ∙ same-text at_line Line position after rest last.0 last.1,
      )

  -- the line that says where a play waits is read as that
  at-complete : (position : Position) (rest : List ℕ) → Waits db position
      → at_in db (at_line position ++ rest) ≡ Some (position, rest)
  at-complete Line rest waits = refl
  at-complete (Draw head) rest waits =
      let below = ltb-true head (length db.actions) (and_parts (nat_lt head (length db.actions)) _
      waits).0 in
      let few = leb-true (length db.actions) 5000
      (and_parts (nat_le 1 (length db.actions)) _ limits.sizes.actions).1 in
      field-then spelled written amount pos (pos 0) (pos 65535) (amounts-stand 65535 (omega arith))
      (codes "at draw") (newline ∷ []) rest by_head head
      (amount-within head 65535 (omega arith)) refl
      ∙ rw waits refl
  at-complete Fresh rest waits = absurd waits
  at-complete (Over ending) rest waits = absurd waits

  pub at-reads : ReadsLine db (λ saved. at_line saved.position) (at_in db) (λ saved. saved.position)
      (λ position. record (waiting s) { position = position })
  at-reads = record {
    sound = λ bytes position rest e.
        let read = at-sound (after_text (codes "at line\n") bytes) bytes position rest refl e in
        (record { fits = fits; waits = read.0; taken = omega arith }, read.1);
    complete = λ saved rest good. at-complete saved.position rest good.waits;
  }

  -- ---- how many draws were taken

  -- the line of how many draws were taken is read where it stands, and nowhere else
  pub taken-reads : ReadsLine db (λ saved. number_line (codes "taken") (pos saved.taken)) taken_in
      (λ saved. saved.taken) (λ n. record (waiting s) { taken = n })
  taken-reads =
      let stands = amounts-stand 1000000 (omega arith) in
      record {
        sound = λ bytes n rest e.
            let read = field-from spelled written amount pos (pos 0) (pos 1000000) stands
            (codes "taken") bytes ended n rest e in
            let last = ended-some read.0 n read.1 rest read.4 in
            let text = read.3 ∙ same-text (λ m. labelled (codes "taken") (pos m)) read.0 n read.1
            (newline ∷ rest) last.0 last.1 in (
              record {
                fits = fits;
                waits = tt;
                taken = within-amount n 1000000
                    (ap (λ m. is_within (pos 0) (pos 1000000) (pos m)) (sym last.0) ∙ read.2);
              },
              text ∙ sym (append_assoc (labelled (codes "taken") (pos n)) (newline ∷ []) rest),
            );
        complete = λ saved rest good.
            field-then spelled written amount pos (pos 0) (pos 1000000) stands (codes "taken")
            (newline ∷ []) rest ended saved.taken (amount-within saved.taken 1000000 good.taken)
            refl
            ∙ onto_text-on (newline ∷ []) rest (λ r. Some (saved.taken, r));
      }

  -- ---- the room line

  -- the same five texts, with what follows after the last or after all
  regroup : (a b c d e rest : List ℕ) → (a ++ (b ++ (c ++ (d ++ (e ++ newline ∷ []))))) ++ rest ≡ a
      ++ (b ++ (c ++ (d ++ (e ++ newline ∷ rest))))
  regroup a b c d e rest = simp append_assoc

  abbrev at_redraw : ℕ → ℕ → ℤ → ℤ → Bool → List ℕ → Read RoomLine
  at_redraw room saved light counter redraw rest = ended
      (record { room = room; saved = saved; light = light; counter = counter; redraw = redraw })
      rest

  abbrev at_counter : ℕ → ℕ → ℤ → ℤ → List ℕ → Read RoomLine
  at_counter room saved light counter bytes = onto
      (field_in is_one (codes " redraw") (pos 0) (pos 1) bytes) (at_redraw room saved light counter)

  abbrev at_light : ℕ → ℕ → ℤ → List ℕ → Read RoomLine
  at_light room saved light bytes = onto (field_in (λ z. z) (codes " counter") (negsuc 0)
      (pos 32767) bytes) (at_counter room saved light)

  abbrev at_saved : ℕ → ℕ → List ℕ → Read RoomLine
  at_saved room saved bytes = onto (field_in (λ z. z) (codes " light") (negsuc 0) db.header.light
      bytes) (at_light room saved)

  abbrev at_room : ℕ → List ℕ → Read RoomLine
  at_room room bytes = onto (field_in amount (codes " saved") (pos 0) (highest_room db) bytes)
      (at_saved room)

  -- the line of the room, the saved room, the light, the counter and the redraw is read where it
  -- stands, and nowhere else
  pub room-reads : ReadsLine db (λ saved. room_line saved.state) (room_line_in db)
      (λ saved. now_of saved.state)
      (λ now. waiting (state_of now s.rooms s.counters s.flags s.places.items))
  room-reads =
      let rooms = amounts-stand (length db.rooms - 1) (few_rooms db limits) in
      let light = numbers-stand (negsuc 0) db.header.light least-fits (light-fits db limits) in
      let counters = numbers-stand (negsuc 0) (pos 32767) least-fits counter-fits in
      record {
        sound = λ bytes now rest e.
            let r = field-from spelled written amount pos (pos 0) (highest_room db) rooms
            (codes "room") bytes at_room now rest e in
            let v = field-from spelled written amount pos (pos 0) (highest_room db) rooms
            (codes " saved") r.1 (at_saved r.0) now rest r.4 in
            let l = field-from spelled written (λ z. z) (λ z. z) (negsuc 0) db.header.light light
            (codes " light") v.1 (at_light r.0 v.0) now rest v.4 in
            let c = field-from spelled written (λ z. z) (λ z. z) (negsuc 0) (pos 32767) counters
            (codes " counter") l.1 (at_counter r.0 v.0 l.0) now rest l.4 in
            let d = field-from spelled written is_one bit (pos 0) (pos 1) bits-stand
            (codes " redraw") c.1 (at_redraw r.0 v.0 l.0 c.0) now rest c.4 in
            let read : RoomLine = record {
              room = r.0;
              saved = v.0;
              light = l.0;
              counter = c.0;
              redraw = d.0;
            } in
            let last = ended-some read now d.1 rest d.4 in
            let bounds = and_parts (int_le (negsuc 0) l.0) (int_le l.0 db.header.light) l.2 in
            let is_now : IsNow db read = record {
              room = within-room db r.0 limits r.2;
              saved = within-room db v.0 limits v.2;
              counter = c.2;
              light = (int_le-true _ _ bounds.0, int_le-true _ _ bounds.1);
            } in
            let text : bytes ≡ labelled (codes "room") (pos r.0)
            ++ (labelled (codes " saved") (pos v.0)
            ++ (labelled (codes " light") l.0
            ++ (labelled (codes " counter") c.0
            ++ (labelled (codes " redraw") (bit d.0) ++ newline ∷ rest)))) =
            r.3 ∙ ap (λ t. labelled (codes "room") (pos r.0) ++ t)
            (v.3 ∙ ap (λ t. labelled (codes " saved") (pos v.0) ++ t)
            (l.3 ∙ ap (λ t. labelled (codes " light") l.0 ++ t)
            (c.3 ∙ ap (λ t. labelled (codes " counter") c.0 ++ t)
            (d.3 ∙ ap (λ t. labelled (codes " redraw") (bit d.0) ++ t) last.1)))) in
            let as_line = text
            ∙ sym (regroup (labelled (codes "room") (pos r.0))
            (labelled (codes " saved") (pos v.0)) (labelled (codes " light") l.0)
            (labelled (codes " counter") c.0) (labelled (codes " redraw") (bit d.0)) rest) in (
              waiting-saved db _ (parts-fit db now s.rooms s.counters s.flags s.places.items
                  (record {
                    now_is = subst (IsNow db) last.0 is_now;
                    rooms_are = base.rooms_are;
                    room_count = base.room_count;
                    counters_are = base.counters_are;
                    counter_count = base.counter_count;
                    flag_count = base.flag_count;
                    places_are = base.places_are;
                    place_count = base.place_count;
                  })),
              as_line ∙ ap (λ n. room_line (state_of n s.rooms s.counters s.flags s.places.items)
                  ++ rest) last.0,
            );
        complete = λ saved rest good.
            let n = saved.state in
            let is_now = now-fits db n good.fits in
            let end = newline ∷ [] in
            let d = labelled (codes " redraw") (bit n.redraw) ++ newline ∷ [] in
            let c = labelled (codes " counter") n.counter ++ d in
            let l = labelled (codes " light") n.light ++ c in
            let v = labelled (codes " saved") (pos n.saved) ++ l in
            let bounds = and_from _ _ (int_le-from (negsuc 0) n.light is_now.light.0)
            (int_le-from n.light db.header.light is_now.light.1) in
            field-then spelled written amount pos (pos 0) (highest_room db) rooms (codes "room") v
            rest at_room n.room (room-within db n.room is_now.room) refl
            ∙ field-then spelled written amount pos (pos 0) (highest_room db) rooms (codes " saved")
            l rest (at_saved n.room) n.saved (room-within db n.saved is_now.saved) refl
            ∙ field-then spelled written (λ z. z) (λ z. z) (negsuc 0) db.header.light light
            (codes " light") c rest (at_light n.room n.saved) n.light bounds refl
            ∙ field-then spelled written (λ z. z) (λ z. z) (negsuc 0) (pos 32767) counters
            (codes " counter") d rest (at_counter n.room n.saved n.light) n.counter
            is_now.counter refl
            ∙ field-then spelled written is_one bit (pos 0) (pos 1) bits-stand (codes " redraw") end
            rest (at_redraw n.room n.saved n.light n.counter) n.redraw (bit-within n.redraw)
            refl
            ∙ onto_text-on (newline ∷ []) rest (λ r. Some (now_of n, r));
      }

  -- ---- numbers

  -- the line of the sixteen rooms is read where it stands, and nowhere else
  pub rooms-reads : ReadsLine db (λ saved. numbers_line (codes "rooms") (map pos saved.state.rooms))
      (numbers_in amount (codes "rooms") (pos 0) (highest_room db) 16) (λ saved. saved.state.rooms)
      (λ rooms. waiting (state_of (now_of s) rooms s.counters s.flags s.places.items))
  rooms-reads =
      let stands = amounts-stand (length db.rooms - 1) (few_rooms db limits) in
      record {
        sound = λ bytes rooms rest e.
            let read = numbers-sound spelled written amount pos (pos 0) (highest_room db) stands
            (codes "rooms") 16 bytes rooms rest e in
            let there = all-to (λ n. is_within (pos 0) (highest_room db) (pos n)) (is_room_of db)
            (λ n h. within-room db n limits h) rooms read.1 in (
              waiting-saved db _
                  (parts-fit db _ _ _ _ _
                  (record {
                    now_is = base.now_is;
                    rooms_are = there;
                    room_count = read.0;
                    counters_are = base.counters_are;
                    counter_count = base.counter_count;
                    flag_count = base.flag_count;
                    places_are = base.places_are;
                    place_count = base.place_count;
                  })),
              read.2,
            );
        complete = λ saved rest good.
            numbers-complete spelled written amount pos (pos 0) (highest_room db) stands
            (codes "rooms") 16 saved.state.rooms rest good.fits.rooms.count
            (all-to (is_room_of db) (λ n. is_within (pos 0) (highest_room db) (pos n))
            (room-within db) saved.state.rooms good.fits.rooms.rooms);
      }

  -- the line of the sixteen counters is read where it stands, and nowhere else
  pub counters-read : ReadsLine db (λ saved. numbers_line (codes "counters") saved.state.counters)
      (numbers_in (λ z. z) (codes "counters") (negsuc 0) (pos 32767) 16)
      (λ saved. saved.state.counters)
      (λ counters. waiting (state_of (now_of s) s.rooms counters s.flags s.places.items))
  counters-read =
      let stands = numbers-stand (negsuc 0) (pos 32767) least-fits counter-fits in
      record {
        sound = λ bytes counters rest e.
            let read = numbers-sound spelled written (λ z. z) (λ z. z) (negsuc 0) (pos 32767) stands
            (codes "counters") 16 bytes counters rest e in (
              waiting-saved db _
                  (parts-fit db _ _ _ _ _
                  (record {
                    now_is = base.now_is;
                    rooms_are = base.rooms_are;
                    room_count = base.room_count;
                    counters_are = read.1;
                    counter_count = read.0;
                    flag_count = base.flag_count;
                    places_are = base.places_are;
                    place_count = base.place_count;
                  })),
              subst
                  (λ zs. bytes ≡ numbers_line (codes "counters") zs ++ rest) (map-same counters)
                  read.2,
            );
        complete = λ saved rest good.
            subst (λ zs. numbers_in (λ z. z) (codes "counters") (negsuc 0) (pos 32767) 16
            (numbers_line (codes "counters") zs ++ rest) ≡ Some (saved.state.counters, rest))
            (map-same saved.state.counters)
            (numbers-complete spelled written (λ z. z) (λ z. z) (negsuc 0) (pos 32767) stands
            (codes "counters") 16 saved.state.counters rest good.fits.counters.count
            good.fits.counters.counters);
      }

  -- the line of the thirty-two flags is read where it stands, and nowhere else
  pub flags-read : ReadsLine db (λ saved. numbers_line (codes "flags") (map bit saved.state.flags))
      (numbers_in is_one (codes "flags") (pos 0) (pos 1) 32) (λ saved. saved.state.flags)
      (λ flags. waiting (state_of (now_of s) s.rooms s.counters flags s.places.items))
  flags-read = record {
    sound = λ bytes flags rest e.
        let read = numbers-sound spelled written is_one bit (pos 0) (pos 1) bits-stand
        (codes "flags") 32 bytes flags rest e in (
          waiting-saved db _
              (parts-fit db _ _ _ _ _
              (record {
                now_is = base.now_is;
                rooms_are = base.rooms_are;
                room_count = base.room_count;
                counters_are = base.counters_are;
                counter_count = base.counter_count;
                flag_count = read.0;
                places_are = base.places_are;
                place_count = base.place_count;
              })),
          read.2,
        );
    complete = λ saved rest good.
        numbers-complete spelled written is_one bit (pos 0) (pos 1) bits-stand (codes "flags") 32
        saved.state.flags rest good.fits.flags (bits-within saved.state.flags);
  }

  -- the line of the items' places is read where it stands, and nowhere else
  pub places-read : ReadsLine db
      (λ saved. numbers_line (codes "places") (map pos saved.state.places.items))
      (numbers_in amount (codes "places") (pos 0) (pos 255) (length db.items))
      (λ saved. saved.state.places.items)
      (λ places. waiting (state_of (now_of s) s.rooms s.counters s.flags places))
  places-read =
      let stands = amounts-stand 255 (omega arith) in
      record {
        sound = λ bytes places rest e.
            let read = numbers-sound spelled written amount pos (pos 0) (pos 255) stands
            (codes "places") (length db.items) bytes places rest e in
            let there = all-to (λ n. is_within (pos 0) (pos 255) (pos n)) is_place within-place
            places read.1 in (
              waiting-saved db _
                  (parts-fit db _ _ _ _ _
                  (record {
                    now_is = base.now_is;
                    rooms_are = base.rooms_are;
                    room_count = base.room_count;
                    counters_are = base.counters_are;
                    counter_count = base.counter_count;
                    flag_count = base.flag_count;
                    places_are = there;
                    place_count = read.0;
                  })),
              read.2,
            );
        complete = λ saved rest good.
            numbers-complete spelled written amount pos (pos 0) (pos 255) stands (codes "places")
            (length db.items) saved.state.places.items rest good.fits.places.count
            (all-to is_place (λ n. is_within (pos 0) (pos 255) (pos n)) place-within
            saved.state.places.items good.fits.places.places);
      }
