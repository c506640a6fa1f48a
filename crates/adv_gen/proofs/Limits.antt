-- A game that is made keeps the limits of a database.
use Rattle.std.proofs.Common.{◌≡◌, ◌∙◌, ℕ, zero, suc, ◌+◌, ◌*◌, ◌<◌, ◌≤◌, Bool, true, false, pos, List, [], map, length, leb, replicate, refl, sym, arith}
use Rattle.std.specs.Prelude.{◌==◌, nat_le, if◌then◌else◌}
use Rattle.std.specs.List.{list_all, range_with_len}
use Rattle.std.proofs.lemmas.Bool.{and_from, le-leb, leb-true}
use Rattle.std.proofs.lemmas.Int.{ints}
use Rattle.std.proofs.lemmas.List.{length-replicate}
use Rattle.std.proofs.lemmas.List.FromFn.{length-map-range_with_len}
use Rattle.std.proofs.lemmas.List.Sums.{AllPass-from_list_all, count_by-le-length}
use Rattle.scott_types.specs.declared.parts.Item.{Item}
use Rattle.scott_types.specs.ItemText.{is_treasure}
use Rattle.scott_types.specs.State.{carried_place, lamp}
use Rattle.scott_types.specs.Limits.{is_natural, is_number, is_file_text, is_action, is_word, is_room, is_item, is_list_of}
use Rattle.rand_pcg.specs.Lcg.{Lcg}
use Rattle.adv_gen.specs.declared.actions.Kind.{Kind}
use Rattle.adv_gen.specs.declared.actions.Kind.TheVariants.{Automatic, ForNoun, Tail, ForVerb}
use Rattle.adv_gen.specs.Picks.{after, pick, each}
use Rattle.adv_gen.specs.Vocabulary.{word, verb, noun}
use Rattle.adv_gen.specs.Rooms.{room, room_text, rooms, message}
use Rattle.adv_gen.specs.Items.{item, item_text, item_place, items}
use Rattle.adv_gen.specs.Actions.{kind_of, vocabulary, vocabulary_picks, condition, parameter, conditions, made_opcodes, opcode, last_opcode, opcode_pairs, action_of}
use Rattle.adv_gen.specs.Made.{at_items, at_rooms, treasures_in}
use Rattle.adv_gen.specs.Laws.{MadeKeepsLimits}
use Rattle.adv_gen.proofs.Picking.{pick-below}
use Rattle.adv_gen.proofs.Plain.{file_text-plain, noun-plain, verb-plain_text, room_text-plain, message-plain, item_text-plain}

-- ---- lists

all_from : {X : Type 0} (p : X → Bool) (part : ℕ → X) (a n : ℕ) →
    ((k : ℕ) → k < a + n → p (part k) ≡ true)
    → list_all p (map part (range_with_len a n)) ≡ true
all_from p part a zero h = refl
all_from p part a (suc n) h =
    and_from _ _ (h a (omega arith)) (all_from p part (a + 1) n (λ k low. h k (omega arith)))

-- what holds of each part holds of all
pub all_each : {X : Type 0} (p : X → Bool) (part : ℕ → X) (n : ℕ) →
    ((k : ℕ) → k < n → p (part k) ≡ true)
    → list_all p (each n part) ≡ true
all_each p part n h = all_from p part 0 n (λ k low. h k (omega arith))

sized : {X : Type 0} (most n : ℕ) (part : ℕ → X) → 1 ≤ n → n ≤ most
    → is_list_of most (each n part) ≡ true
sized most n part some few =
    let size = length-map-range_with_len part 0 n in
    and_from _ _ (le-leb 1 (length (each n part)) (omega (arith, size)))
    (le-leb (length (each n part)) most (omega (arith, size)))

empty_texts : (n : ℕ) → list_all is_file_text (replicate n []) ≡ true
empty_texts zero = refl
empty_texts (suc n) = empty_texts n

-- ---- numbers

number : (n : ℕ) → n ≤ 2147483647 → is_number (pos n) ≡ true
number n h = le-leb n 2147483647 h

natural : (n : ℕ) → n ≤ 2147483647 → is_natural n ≡ true
natural n h = le-leb n 2147483647 h

-- ---- one part

word_fits : (k : ℕ) → k < 260 → is_word (word k) ≡ true
word_fits k low =
    and_from _ _ (file_text-plain 5 (verb k) (omega arith) (verb-plain_text k low))
    (file_text-plain 5 (noun k) (omega arith) (noun-plain k low))

room_fits : (size k : ℕ) (g : Lcg) → size ≤ 120 → k < 260 → is_room (room size k g) ≡ true
room_fits size k g few low =
    and_from _ _ refl (and_from _ _
    (all_each is_number (λ (direction : ℕ). pos (pick g direction (size + 1))) 6 (λ direction _.
    let below = pick-below g direction (size + 1) (omega arith) in
    number (pick g direction (size + 1)) (omega arith)))
    (file_text-plain 34 (room_text k) (omega arith) (room_text-plain k (omega arith))))

message_fits : (k : ℕ) → k < 260 → is_file_text (message k) ≡ true
message_fits k low = file_text-plain 37 (message k) (omega arith) (message-plain k (omega arith))

place_fits : (size k : ℕ) (g : Lcg) → size ≤ 120 → nat_le (item_place size k g) 255 ≡ true
unfolding item_place
place_fits size k g few = chosen (k == lamp)
  where
    chosen : (test : Bool) → nat_le (if test then carried_place else pick g 0 (size + 1)) 255 ≡ true
    chosen true = refl
    chosen false = let below = pick-below g 0 (size + 1) (omega arith) in
        le-leb (pick g 0 (size + 1)) 255 (omega arith)

item_fits : (size k : ℕ) (g : Lcg) → size ≤ 120 → k < 260 → is_item (item size k g) ≡ true
item_fits size k g few low =
    and_from _ _ (file_text-plain 34 (item_text size k) (omega arith)
    (item_text-plain size k few (omega arith))) (place_fits size k g few)

-- ---- one action

vocabulary_fits : (kind : Kind) (size : ℕ) (g : Lcg) → size ≤ 120
    → is_natural (vocabulary kind size g) ≡ true
vocabulary_fits Automatic size g few = let below = pick-below g 0 100 (omega arith) in
    natural _ (omega arith)
vocabulary_fits ForNoun size g few =
    let below = pick-below g 0 (size + 36) (omega arith) in
    natural _ (omega arith)
vocabulary_fits ForVerb size g few = let below = pick-below g 0 (size + 35) (omega arith) in
    natural _ (omega arith)
vocabulary_fits Tail size g few = refl

condition_fits : (g : Lcg) (place : ℕ) → is_natural (condition g place) ≡ true
unfolding condition
condition_fits g place =
    let argument = pick-below g place 16 (omega arith) in
    let code = pick-below g (place + 1) 20 (omega arith) in
    natural _ (omega arith)

parameter_fits : (g : Lcg) (place : ℕ) → is_natural (parameter g place) ≡ true
unfolding parameter
parameter_fits g place = let argument = pick-below g place 16 (omega arith) in
    natural _ (omega arith)

conditions_fit : (g : Lcg) → list_all is_natural (conditions g) ≡ true
conditions_fit g =
    and_from _ _ (condition_fits g 0) (and_from _ _ (condition_fits g 2)
    (and_from _ _ (parameter_fits g 4)
    (and_from _ _ (parameter_fits g 5) (and_from _ _ (parameter_fits g 6) refl))))

small_opcode : ℕ → Bool
small_opcode n = leb n 86

opcode_small : (g : Lcg) (place : ℕ) → opcode g place ≤ 86
unfolding opcode small_opcode
opcode_small g place =
    let there = pick-below g place 16 (omega arith) in
    leb-true _ 86 (AllPass-from_list_all small_opcode made_opcodes refl (pick g place 16) 0 there)

last_opcode_small : (kind : Kind) → last_opcode kind ≤ 73
last_opcode_small Automatic = omega arith
last_opcode_small ForNoun = omega arith
last_opcode_small ForVerb = omega arith
last_opcode_small Tail = omega arith

pairs_fit : (kind : Kind) (g : Lcg) → list_all is_natural (opcode_pairs kind g) ≡ true
pairs_fit kind g =
    let first = opcode_small g 0 in
    let second = opcode_small g 1 in
    let third = opcode_small g 2 in
    let last = last_opcode_small kind in
    and_from _ _ (natural (150 * opcode g 0 + opcode g 1) (omega arith))
    (and_from _ _ (natural (150 * opcode g 2 + last_opcode kind) (omega arith)) refl)

action_fits : (kind : Kind) (size : ℕ) (g : Lcg) → size ≤ 120
    → is_action (action_of kind size g) ≡ true
action_fits kind size g few =
    and_from _ _ (vocabulary_fits kind size g few)
    (and_from _ _ refl (and_from _ _ (conditions_fit (after (vocabulary_picks kind) g))
    (and_from _ _ refl (pairs_fit kind (after (vocabulary_picks kind + 7) g)))))

-- ---- the whole

treasures_few : (xs : List Item) (n : ℕ) → length xs ≤ n → treasures_in xs ≤ n
treasures_few xs n h = let count = count_by-le-length (λ (i : Item). is_treasure i.text) xs in
    omega arith

sized_items : (size : ℕ) → length (items size (at_items size)) ≡ 2 * size
sized_items size = length-map-range_with_len _ 0 (2 * size)

second_room : (size : ℕ) → 8 ≤ size → 1 < length (rooms size (at_rooms size))
second_room size some =
    let rooms_there : length (rooms size (at_rooms size)) ≡ size + 1 =
    length-map-range_with_len _ 0 (size + 1) in
    omega (arith, rooms_there)

-- every number, entry and list of a game from size 8 to size 120 is within the limits
pub database_fits : MadeKeepsLimits
database_fits size some few =
    let treasures = treasures_few (items size (at_items size)) (2 * size)
    (omega (arith, sized_items size)) in
    record {
      header = record {
        length_range = (omega arith, omega arith);
        light_range = omega (arith, ints);
        start_there = second_room size some;
        numbers = and_from _ _ (le-leb _ 2147483647 (omega arith)) refl;
      };
      sizes = record {
        actions = sized 5000 (5 * size + 5) _ (omega arith) (omega arith);
        words = sized 1000 (size + 37) _ (omega arith) (omega arith);
        rooms = sized 255 (size + 1) _ (omega arith) (omega arith);
        messages = sized 1000 (2 * size + 11) _ (omega arith) (omega arith);
        items = sized 255 (2 * size) _ (omega arith) (omega arith);
      };
      entries = record {
        actions = all_each is_action _ (5 * size + 5) (λ k low. action_fits (kind_of k) size _ few);
        words = all_each is_word word (size + 37) (λ k low. word_fits k (omega arith));
        rooms = all_each is_room _ (size + 1) (λ k low. room_fits size k _ few (omega arith));
        items = all_each is_item _ (2 * size) (λ k low. item_fits size k _ few (omega arith));
        texts =
            and_from _ _ (all_each is_file_text message (2 * size + 11)
            (λ k low. message_fits k (omega arith))) (empty_texts (5 * size + 5));
      };
      commented = length-replicate (5 * size + 5) []
          ∙ sym (length-map-range_with_len _ 0 (5 * size + 5));
      trailer = and_from _ _ (le-leb size 2147483647 (omega arith)) refl;
    }
