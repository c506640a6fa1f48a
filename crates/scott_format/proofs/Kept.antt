-- Each database that has a text keeps the limits.
use Rattle.std.proofs.Common.{◌≡◌, ℕ, ◌+◌, ◌≤◌, ◌≤ℤ◌, Bool, true, ◌&&◌, leb, List, length, Option, Some, None, ℤ, pos, negsuc, refl, sym, ◌∙◌, arith}
use Rattle.std.specs.Prelude.{IfSome, IsTrue, int_le, unsigned_abs, unwrap_or}
use Rattle.std.proofs.lemmas.Bool.{and_parts, and_from, leb-true, le-leb}
use Rattle.std.proofs.lemmas.Int.{ints}
use Rattle.adv_text.specs.Laws.{Fits32}
use Rattle.scott_types.specs.Limits.{is_file_text, is_number, is_natural, is_action, is_word, is_room, is_item, is_trailer, KeepsLimits}
use Rattle.scott_types.specs.Database.{Database}
use Rattle.scott_format.specs.declared.header.Sizes.{Sizes}
use Rattle.scott_format.specs.declared.header.PlayNumbers.{PlayNumbers}
use Rattle.scott_format.specs.declared.header.Closing.{Closing}
use Rattle.scott_format.specs.Plan.{Plan, ◌>>=◌, many}
use Rattle.scott_format.specs.Sections.{sizes, play_numbers, closing, action, word, room, string, item, trailer, low_byte}
use Rattle.scott_format.specs.File.{file, body, header_of}
use Rattle.scott_format.proofs.Always.{Always, Always-then, Always-many, AreAll}

-- ---- tests

at_least : (a b : ℤ) → a ≤ℤ b → int_le a b ≡ true
at_least a b h = grind (arith, ints)

is_number-fits : (z : ℤ) → Fits32 z → is_number z ≡ true
is_number-fits z fits = and_from _ _ (at_least (negsuc 2147483647) z fits.0) (at_least z (pos 2147483647) fits.1)

natural_range : (least most : ℕ) (z : ℤ) → (int_le (pos least) z && int_le z (pos most)) ≡ true → (least ≤ unsigned_abs z) × (unsigned_abs z ≤ most)
natural_range least most (pos n) e = let h = and_parts (leb least n) (leb n most) e in (leb-true _ _ h.0, leb-true _ _ h.1)
natural_range least most (negsuc n) e = absurd (cc)

action_natural : (z : ℤ) → Fits32 z → int_le (pos 0) z ≡ true → is_natural (unsigned_abs z) ≡ true
action_natural (pos n) fits e = let h : n ≤ 2147483647 = omega (arith, ints, fits.1) in le-leb n 2147483647 h
action_natural (negsuc n) fits e = absurd (cc)

-- ---- the header

record AreSizes (s : Sizes) : Type 0 where
  unused : is_number s.unused ≡ true
  items : s.items ≤ 254
  actions : s.actions ≤ 4999
  words : s.words ≤ 999
  rooms : s.rooms ≤ 254

sizes_keep : Always sizes AreSizes
unfolding sizes
sizes_keep = λ unused u items i items-in actions a actions-in words w words-in rooms r rooms-in. record {
  unused = is_number-fits unused u;
  items = (natural_range 0 254 items items-in).1;
  actions = (natural_range 0 4999 actions actions-in).1;
  words = (natural_range 0 999 words words-in).1;
  rooms = (natural_range 0 254 rooms rooms-in).1;
}

record ArePlayNumbers (rooms : ℕ) (c : PlayNumbers) : Type 0 where
  carry : is_number c.carry ≡ true
  start : c.start ≤ rooms
  treasures : is_number c.treasures ≡ true
  length_range : (1 ≤ c.length) × (c.length ≤ 20)
  light : is_number c.light ≡ true
  light_range : negsuc 0 ≤ℤ c.light

light_from : (z : ℤ) → int_le (negsuc 0) z ≡ true → negsuc 0 ≤ℤ z
light_from z e = grind (arith, ints)

play_numbers_keep : (rooms : ℕ) → Always (play_numbers rooms) (ArePlayNumbers rooms)
unfolding play_numbers
play_numbers_keep rooms = λ carry c start s start-in treasures t length n length-in light l light-in. record {
  carry = is_number-fits carry c;
  start = (natural_range 0 rooms start start-in).1;
  treasures = is_number-fits treasures t;
  length_range = natural_range 1 20 length length-in;
  light = is_number-fits light l;
  light_range = light_from light light-in;
}

record IsClosing (c : Closing) : Type 0 where
  messages : c.messages ≤ 999
  home : is_number c.home ≡ true

closing_keep : Always closing IsClosing
unfolding closing
closing_keep = λ messages m messages-in home h. record { messages = (natural_range 0 999 messages messages-in).1; home = is_number-fits home h }

-- ---- entries

action_keep : (k : ℕ) → Always (action k) (λ a. IsTrue (is_action a))
unfolding action
action_keep k = λ vocab v v-in a a-is a-in b b-is b-in c c-is c-in d d-is d-in e e-is e-in first f f-in second s s-in.
    let conds = and_from _ _ (action_natural a a-is a-in) (and_from _ _ (action_natural b b-is b-in) (and_from _ _ (action_natural c c-is c-in)
    (and_from _ _ (action_natural d d-is d-in) (and_from _ _ (action_natural e e-is e-in) refl)))) in
    let pairs = and_from _ _ (action_natural first f f-in) (and_from _ _ (action_natural second s s-in) refl) in
    and_from _ _ (action_natural vocab v v-in) (and_from _ _ refl (and_from _ _ conds (and_from _ _ refl pairs)))

word_keep : Always word (λ w. IsTrue (is_word w))
unfolding word
word_keep = λ verb v noun n. and_from _ _ v n

room_keep : Always room (λ r. IsTrue (is_room r))
unfolding room
room_keep = λ north n south s east e west w up u down d t is_file_text.
    let exits = and_from _ _ (is_number-fits north n) (and_from _ _ (is_number-fits south s) (and_from _ _ (is_number-fits east e)
    (and_from _ _ (is_number-fits west w) (and_from _ _ (is_number-fits up u) (and_from _ _ (is_number-fits down d) refl))))) in
    and_from _ _ refl (and_from _ _ exits is_file_text)

string_keep : Always string (λ t. IsTrue (is_file_text t))
string_keep = λ t h. h

low_byte-le : (z : ℤ) → low_byte z ≤ 255
low_byte-le (pos n) = omega arith
low_byte-le (negsuc n) = omega arith

item_keep : Always item (λ i. IsTrue (is_item i))
unfolding item
item_keep = λ t is_file_text place p. and_from _ _ is_file_text (le-leb _ _ (low_byte-le place))

third_fits : (o : Option ℤ) → IfSome o Fits32 → is_number (unwrap_or o (pos 0)) ≡ true
third_fits (Some z) fits = is_number-fits z fits
third_fits None fits = refl

trailer_keep : Always trailer (λ t. IsTrue (is_trailer t))
unfolding trailer
trailer_keep = λ version v adventure a third t.
    and_from _ _ (is_number-fits version v) (and_from _ _ (is_number-fits adventure a) (and_from _ _ (third_fits third t) refl))

-- ---- the whole

-- what is known of the parts of a file
record PartsKeep (counts : Sizes) (numbers : PlayNumbers) (end : Closing) (db : Database) : Type 0 where
  sizes_in : AreSizes counts
  numbers_in : ArePlayNumbers counts.rooms numbers
  closing_in : IsClosing end
  header : db.header ≡ header_of counts numbers end
  actions : AreAll is_action (counts.actions + 1) db.actions
  words : AreAll is_word (counts.words + 1) db.words
  rooms : AreAll is_room (counts.rooms + 1) db.rooms
  messages : AreAll is_file_text (end.messages + 1) db.messages
  items : AreAll is_item (counts.items + 1) db.items
  comments : AreAll is_file_text (counts.actions + 1) db.comments
  trailer : IsTrue (is_trailer db.trailer)

list_fits : {X : Type 0} (test : X → Bool) (xs : List X) (highest most : ℕ) → AreAll test (highest + 1) xs → highest + 1 ≤ most
    → (leb 1 (length xs) && leb (length xs) most) ≡ true
list_fits test xs highest most h le = and_from _ _ (le-leb 1 (length xs) (omega (arith, h.1))) (le-leb (length xs) most (omega (arith, h.1)))

-- a database whose header, lists and trailer were tested one by one keeps all limits
keeps : (counts : Sizes) (numbers : PlayNumbers) (end : Closing) (db : Database) → PartsKeep counts numbers end db → KeepsLimits db
keeps counts numbers end db h = record {
  header = rw h.header (record {
    length_range = h.numbers_in.length_range;
    light_range = h.numbers_in.light_range;
    start_there = omega (arith, h.numbers_in.start, h.rooms.1);
    numbers = and_from _ _ h.sizes_in.unused (and_from _ _ h.numbers_in.carry (and_from _ _ h.numbers_in.treasures
        (and_from _ _ h.numbers_in.light (and_from _ _ h.closing_in.home refl))));
  });
  sizes = record {
    actions = list_fits is_action db.actions counts.actions 5000 h.actions (omega (arith, h.sizes_in.actions));
    words = list_fits is_word db.words counts.words 1000 h.words (omega (arith, h.sizes_in.words));
    rooms = list_fits is_room db.rooms counts.rooms 255 h.rooms (omega (arith, h.sizes_in.rooms));
    messages = list_fits is_file_text db.messages end.messages 1000 h.messages (omega (arith, h.closing_in.messages));
    items = list_fits is_item db.items counts.items 255 h.items (omega (arith, h.sizes_in.items));
  };
  entries = record {
    actions = h.actions.0;
    words = h.words.0;
    rooms = h.rooms.0;
    items = h.items.0;
    texts = and_from _ _ h.messages.0 h.comments.0;
  };
  commented = h.comments.1 ∙ sym h.actions.1;
  trailer = h.trailer;
}

-- a section that always has Q, and then one that always keeps the limits where Q holds
then : {X : Type 0} (Q : X → Type 0) (f : X → Plan Database) (p : Plan X) → Always p Q → ((x : X) → Q x → Always (f x) KeepsLimits) → Always (p >>= f) KeepsLimits
then Q f p h next = Always-then Q KeepsLimits f p h next

-- whatever database a file reads as keeps the limits
pub file_keeps : Always file KeepsLimits
unfolding file body
file_keeps =
    then AreSizes _ sizes sizes_keep (λ counts s.
    then (ArePlayNumbers counts.rooms) _ (play_numbers counts.rooms) (play_numbers_keep counts.rooms) (λ numbers c.
    then IsClosing _ closing closing_keep (λ end e.
    then (AreAll is_action (counts.actions + 1)) _ (many action 0 (counts.actions + 1)) (Always-many is_action action action_keep 0 (counts.actions + 1)) (λ actions a.
    then (AreAll is_word (counts.words + 1)) _ (many (λ k. word) 0 (counts.words + 1)) (Always-many is_word (λ k. word) (λ k. word_keep) 0 (counts.words + 1)) (λ words w.
    then (AreAll is_room (counts.rooms + 1)) _ (many (λ k. room) 0 (counts.rooms + 1)) (Always-many is_room (λ k. room) (λ k. room_keep) 0 (counts.rooms + 1)) (λ rooms r.
    then (AreAll is_file_text (end.messages + 1)) _ (many (λ k. string) 0 (end.messages + 1)) (Always-many is_file_text (λ k. string) (λ k. string_keep) 0 (end.messages + 1)) (λ messages m.
    then (AreAll is_item (counts.items + 1)) _ (many (λ k. item) 0 (counts.items + 1)) (Always-many is_item (λ k. item) (λ k. item_keep) 0 (counts.items + 1)) (λ items i.
    then (AreAll is_file_text (counts.actions + 1)) _ (many (λ k. string) 0 (counts.actions + 1)) (Always-many is_file_text (λ k. string) (λ k. string_keep) 0 (counts.actions + 1)) (λ comments t.
    then (λ l. IsTrue (is_trailer l)) _ trailer trailer_keep (λ last l.
    keeps counts numbers end _ (record {
      sizes_in = s;
      numbers_in = c;
      closing_in = e;
      header = refl;
      actions = a;
      words = w;
      rooms = r;
      messages = m;
      items = i;
      comments = t;
      trailer = l;
    })))))))))))
