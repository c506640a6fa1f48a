-- A file read on by its header and its lists, where bytes come in pieces.
use Rattle.std.proofs.Common.{◌≡◌, ℕ, ◌+◌, ◌-◌, List, [], ◌∷◌, length, Result, Ok, Err, refl, sym, ap, subst, ◌∙◌, arith}
use Rattle.std.specs.Prelude.{IfOk, IfErr, OnOk}
use Rattle.adv_text.specs.Reading.{Input, input, with_more}
use Rattle.scott_types.specs.declared.parts.Action.{Action}
use Rattle.scott_types.specs.declared.parts.Word.{Word}
use Rattle.scott_types.specs.declared.parts.Room.{Room}
use Rattle.scott_types.specs.declared.parts.Item.{Item}
use Rattle.scott_types.specs.declared.parts.Trailer.{Trailer}
use Rattle.scott_types.specs.Database.{Database}
use Rattle.scott_format.specs.declared.faults.FormatFault.{FormatFault}
use Rattle.scott_format.specs.declared.faults.FormatFault.TheVariants.{Memory}
use Rattle.scott_format.specs.declared.header.Sizes.{Sizes}
use Rattle.scott_format.specs.declared.header.PlayNumbers.{PlayNumbers}
use Rattle.scott_format.specs.declared.header.Closing.{Closing}
use Rattle.scott_format.specs.declared.bodies.Head.{Head}
use Rattle.scott_format.specs.declared.bodies.Body.{Body}
use Rattle.scott_format.specs.declared.stops.Due.{Due}
use Rattle.scott_format.specs.declared.stops.Stop.{Stop}
use Rattle.scott_format.specs.declared.stops.Stop.TheVariants as stop
use Rattle.scott_format.specs.Faults.{Fault}
use Rattle.scott_format.specs.Plan.{Plan, done, check, number, quoted, perhaps, ◌>>=◌, many, run}
use Rattle.scott_format.specs.Reading.{Stands}
use Rattle.scott_format.specs.Sections.{sizes, play_numbers, closing, head, action, word, room, string, item, trailer}
use Rattle.scott_format.specs.File.{file, body, header_of}
use Rattle.scott_format.specs.Pieces.{IsFaultOf, IsDue, Moves, Advances, StopsAt, Takes, list_from}
use Rattle.scott_format.specs.Bodies.{action_count, word_count, room_count, message_count, item_count, body_from, from_words, from_rooms, from_messages, from_items, from_comments, from_trailer, IsNew, ActionsRead, WordsRead, RoomsRead, MessagesRead, ItemsRead, AreRead, InOrder}
use Rattle.scott_format.proofs.Plans.{and_then, run-then, run-ok, Stands-then, Stands-after}
use Rattle.scott_format.proofs.Loop.{begins}
use Rattle.scott_format.proofs.ListSteps.{Same, same_then, list_run, list_full, list_due}

pub on_ok_with : {T E A : Type 0} (B : Type 0) (r : Result T E) → A → OnOk r B → OnOk r (A × B)
on_ok_with B (Ok x) a b = (a, b)
on_ok_with B (Err e) a b = tt

pub due_first : {X Y : Type 0} (what : Due) (p : Plan X) (f : X → Plan Y) → IsDue what p → IsDue what (p >>= f)
due_first {X = X} what p f due at =
    run-then f p (input at []) ∙ ap (λ (r : Result (X × Input) Fault). and_then r (λ x after. run (f x) after)) (due at)

-- ---- lists that are read whole

module _ (b : Body) where
  pub to_words : ActionsRead b → Same (body_from b) (from_words b b.actions.items)
  to_words h = list_full action (action_count b) (from_words b) b.actions.items h

  pub to_rooms : WordsRead b → Same (body_from b) (from_rooms b b.actions.items b.words.items)
  to_rooms h s = to_words h.0 s ∙ list_full (λ k. word) (word_count b) (from_rooms b b.actions.items) b.words.items h.1 s

  pub to_messages : RoomsRead b → Same (body_from b) (from_messages b b.actions.items b.words.items b.rooms.items)
  to_messages h s = to_rooms h.0 s ∙ list_full (λ k. room) (room_count b) (from_messages b b.actions.items b.words.items) b.rooms.items h.1 s

  pub to_items : MessagesRead b → Same (body_from b) (from_items b b.actions.items b.words.items b.rooms.items b.messages.items)
  to_items h s =
      to_messages h.0 s ∙ list_full (λ k. string) (message_count b) (from_items b b.actions.items b.words.items b.rooms.items) b.messages.items h.1 s

  pub to_comments : ItemsRead b → Same (body_from b) (from_comments b b.actions.items b.words.items b.rooms.items b.messages.items b.items.items)
  to_comments h s =
      to_items h.0 s ∙ list_full (λ k. item) (item_count b) (from_comments b b.actions.items b.words.items b.rooms.items b.messages.items) b.items.items h.1 s

  pub to_trailer : AreRead b → Same (body_from b) (from_trailer b b.actions.items b.words.items b.rooms.items b.messages.items b.items.items b.comments.items)
  to_trailer h s =
      to_comments h.0 s
      ∙ list_full (λ k. string) (action_count b) (from_trailer b b.actions.items b.words.items b.rooms.items b.messages.items b.items.items) b.comments.items h.1 s

-- ---- no list is begun

list_new : {X : Type 0} (piece : ℕ → Plan X) (n : ℕ) → Same (many piece 0 n) (list_from piece n [])
list_new piece n s =
    let count : n ≡ n - 0 = omega arith in
    ap (λ (j : ℕ). run (many piece 0 j) s) count ∙ sym (begins (run (many piece 0 (n - 0)) s)) ∙ sym (list_run piece n [] s)

-- the rest of a file after its header, where these entries of its lists are read already
abbrev lists_from : Head → List Action → List Word → List Room → List (List ℕ) → List Item → List (List ℕ) → Plan Database
lists_from h actions words rooms messages items comments =
    list_from action (h.sizes.actions + 1) actions >>= λ actions.
    list_from (λ k. word) (h.sizes.words + 1) words >>= λ words.
    list_from (λ k. room) (h.sizes.rooms + 1) rooms >>= λ rooms.
    list_from (λ k. string) (h.closing.messages + 1) messages >>= λ messages.
    list_from (λ k. item) (h.sizes.items + 1) items >>= λ items.
    list_from (λ k. string) (h.sizes.actions + 1) comments >>= λ comments.
    trailer >>= λ last. done (record {
      header = header_of h.sizes h.numbers h.closing;
      actions = actions;
      words = words;
      rooms = rooms;
      messages = messages;
      items = items;
      comments = comments;
      trailer = last;
    })

abbrev none_read : Head → Plan Database
none_read h = lists_from h [] [] [] [] [] []

is_new : (h : Head) (b : Body) → IsNew h b → none_read h ≡ body_from b
is_new h b new =
    λ i. lists_from (sym new.head i) (sym new.actions i) (sym new.words i) (sym new.rooms i) (sym new.messages i) (sym new.items i) (sym new.comments i)

abbrev pub body_of : Head → Plan Database
body_of h = body h.sizes h.numbers h.closing

-- the trailer, after which a file with these lists is read whole
abbrev to_end : Head → List Action → List Word → List Room → List (List ℕ) → List Item → List (List ℕ) → Plan Database
to_end h actions words rooms messages items comments =
    trailer >>= λ last. done (record {
      header = header_of h.sizes h.numbers h.closing;
      actions = actions;
      words = words;
      rooms = rooms;
      messages = messages;
      items = items;
      comments = comments;
      trailer = last;
    })

abbrev old_comments : Head → List Action → List Word → List Room → List (List ℕ) → List Item → Plan Database
old_comments h a w r m i = many (λ k. string) 0 (h.sizes.actions + 1) >>= to_end h a w r m i

abbrev new_comments : Head → List Action → List Word → List Room → List (List ℕ) → List Item → Plan Database
new_comments h a w r m i = list_from (λ k. string) (h.sizes.actions + 1) [] >>= to_end h a w r m i

abbrev old_items : Head → List Action → List Word → List Room → List (List ℕ) → Plan Database
old_items h a w r m = many (λ k. item) 0 (h.sizes.items + 1) >>= old_comments h a w r m

abbrev new_items : Head → List Action → List Word → List Room → List (List ℕ) → Plan Database
new_items h a w r m = list_from (λ k. item) (h.sizes.items + 1) [] >>= new_comments h a w r m

abbrev old_messages : Head → List Action → List Word → List Room → Plan Database
old_messages h a w r = many (λ k. string) 0 (h.closing.messages + 1) >>= old_items h a w r

abbrev new_messages : Head → List Action → List Word → List Room → Plan Database
new_messages h a w r = list_from (λ k. string) (h.closing.messages + 1) [] >>= new_items h a w r

abbrev old_rooms : Head → List Action → List Word → Plan Database
old_rooms h a w = many (λ k. room) 0 (h.sizes.rooms + 1) >>= old_messages h a w

abbrev new_rooms : Head → List Action → List Word → Plan Database
new_rooms h a w = list_from (λ k. room) (h.sizes.rooms + 1) [] >>= new_messages h a w

abbrev old_words : Head → List Action → Plan Database
old_words h a = many (λ k. word) 0 (h.sizes.words + 1) >>= old_rooms h a

abbrev new_words : Head → List Action → Plan Database
new_words h a = list_from (λ k. word) (h.sizes.words + 1) [] >>= new_rooms h a

same_comments : (h : Head) (a : List Action) (w : List Word) (r : List Room) (m : List (List ℕ)) (i : List Item) → Same (old_comments h a w r m i) (new_comments h a w r m i)
same_comments h a w r m i =
    same_then (many (λ k. string) 0 (h.sizes.actions + 1)) (list_from (λ k. string) (h.sizes.actions + 1) []) (to_end h a w r m i) (to_end h a w r m i)
    (list_new (λ k. string) (h.sizes.actions + 1)) (λ c s. refl)

same_items : (h : Head) (a : List Action) (w : List Word) (r : List Room) (m : List (List ℕ)) → Same (old_items h a w r m) (new_items h a w r m)
same_items h a w r m =
    same_then (many (λ k. item) 0 (h.sizes.items + 1)) (list_from (λ k. item) (h.sizes.items + 1) []) (old_comments h a w r m) (new_comments h a w r m)
    (list_new (λ k. item) (h.sizes.items + 1)) (λ i. same_comments h a w r m i)

same_messages : (h : Head) (a : List Action) (w : List Word) (r : List Room) → Same (old_messages h a w r) (new_messages h a w r)
same_messages h a w r =
    same_then (many (λ k. string) 0 (h.closing.messages + 1)) (list_from (λ k. string) (h.closing.messages + 1) []) (old_items h a w r) (new_items h a w r)
    (list_new (λ k. string) (h.closing.messages + 1)) (λ m. same_items h a w r m)

same_rooms : (h : Head) (a : List Action) (w : List Word) → Same (old_rooms h a w) (new_rooms h a w)
same_rooms h a w =
    same_then (many (λ k. room) 0 (h.sizes.rooms + 1)) (list_from (λ k. room) (h.sizes.rooms + 1) []) (old_messages h a w) (new_messages h a w)
    (list_new (λ k. room) (h.sizes.rooms + 1)) (λ r. same_messages h a w r)

same_words : (h : Head) (a : List Action) → Same (old_words h a) (new_words h a)
same_words h a =
    same_then (many (λ k. word) 0 (h.sizes.words + 1)) (list_from (λ k. word) (h.sizes.words + 1) []) (old_rooms h a) (new_rooms h a)
    (list_new (λ k. word) (h.sizes.words + 1)) (λ w. same_rooms h a w)

body_new : (h : Head) → Same (body_of h) (none_read h)
unfolding body
body_new h =
    same_then (many action 0 (h.sizes.actions + 1)) (list_from action (h.sizes.actions + 1) []) (old_words h) (new_words h)
    (list_new action (h.sizes.actions + 1)) (λ a. same_words h a)

body_due : (what : Due) → ((k : ℕ) → IsDue what (action k)) → (h : Head) → IsDue what (body_of h)
body_due what due h at = body_new h (input at []) ∙ list_due action (h.sizes.actions + 1) (new_words h) [] (omega arith) what (due 0) at

-- ---- the header

assoc : {X Y Z : Type 0} (p : Plan X) (f : X → Plan Y) (g : Y → Plan Z) → ((p >>= f) >>= g) ≡ (p >>= λ x. f x >>= g)
assoc (done x) f g = refl
assoc (check test fault p) f g = λ i. check test fault (assoc p f g i)
assoc (number next) f g = λ i. number (λ z. assoc (next z) f g i)
assoc (quoted next) f g = λ i. quoted (λ t. assoc (next t) f g i)
assoc (perhaps next) f g = λ i. perhaps (λ o. assoc (next o) f g i)

abbrev made : Sizes → PlayNumbers → Closing → Head
made counts numbers end = record { sizes = counts; numbers = numbers; closing = end }

abbrev from_closing : Sizes → PlayNumbers → Closing → Plan Head
from_closing counts numbers end = done (made counts numbers end)

abbrev from_numbers : Sizes → PlayNumbers → Plan Head
from_numbers counts numbers = closing >>= from_closing counts numbers

abbrev from_sizes : Sizes → Plan Head
from_sizes counts = play_numbers counts.rooms >>= from_numbers counts

pub sizes_stop : (s : Input) (fault : FormatFault) → Stands fault (run sizes s) → Stands fault (run head s)
unfolding head
sizes_stop s fault h = Stands-then from_sizes sizes s fault h

module _ (s mid : Input) (counts : Sizes) where
  pub head_read : (last after : Input) (numbers : PlayNumbers) (end : Closing) → run sizes s ≡ Ok (counts, mid) → run (play_numbers counts.rooms) mid ≡ Ok (numbers, last)
      → run closing last ≡ Ok (end, after) → run head s ≡ Ok (made counts numbers end, after)
  unfolding head
  head_read last after numbers end e f g =
      run-ok from_sizes sizes s mid counts e ∙ run-ok (from_numbers counts) (play_numbers counts.rooms) mid last numbers f
      ∙ run-ok (from_closing counts numbers) closing last after end g

  pub numbers_stop : (fault : FormatFault) → run sizes s ≡ Ok (counts, mid) → Stands fault (run (play_numbers counts.rooms) mid) → Stands fault (run head s)
  unfolding head
  numbers_stop fault e h = Stands-after from_sizes sizes s mid counts fault e (Stands-then (from_numbers counts) (play_numbers counts.rooms) mid fault h)

  pub closing_stop : (last : Input) (numbers : PlayNumbers) (fault : FormatFault) → run sizes s ≡ Ok (counts, mid) → run (play_numbers counts.rooms) mid ≡ Ok (numbers, last)
      → Stands fault (run closing last) → Stands fault (run head s)
  unfolding head
  closing_stop last numbers fault e f h =
      Stands-after from_sizes sizes s mid counts fault e
      (Stands-after (from_numbers counts) (play_numbers counts.rooms) mid last numbers fault f (Stands-then (from_closing counts numbers) closing last fault h))

-- a file is its header, and what follows it
pub file_head : (head >>= body_of) ≡ file
unfolding file head
file_head =
    assoc sizes (λ counts. play_numbers counts.rooms >>= λ numbers. closing >>= λ end. done (made counts numbers end)) body_of
    ∙ (λ i. sizes >>= λ counts. assoc (play_numbers counts.rooms) (λ numbers. closing >>= λ end. done (made counts numbers end)) body_of i)
    ∙ (λ i. sizes >>= λ counts. play_numbers counts.rooms >>= λ numbers. assoc closing (λ end. done (made counts numbers end)) body_of i)

-- the header is read, and no entry yet
pub head_moves : (then : Due) (h : Head) (b : Body) (s after : Input) → Takes head then s (Ok h) after → IsNew h b → Moves file s (body_from b) after
head_moves then h b s after taken new = record {
  ends = taken.0;
  reads = λ more.
      ap (λ (p : Plan Database). run p (with_more s more)) (sym file_head)
      ∙ run-ok body_of head (with_more s more) (with_more after more) h (taken.1 more)
      ∙ body_new h (with_more after more)
      ∙ ap (λ (p : Plan Database). run p (with_more after more)) (is_new h b new);
}

pub heads_move : (then : Due) (h : Head) (s after : Input) (r : Result Body Stop) → Takes head then s (Ok h) after → IfOk r (λ b. IsNew h b)
    → IfOk r (λ b. Moves file s (body_from b) after)
heads_move then h s after (Ok b) taken new = head_moves then h b s after taken new
heads_move then h s after (Err why) taken new = tt

-- the header isn't read
pub head_stops : (then : Due) (s after : Input) (why : Stop) → ((k : ℕ) → IsDue then (action k)) → Takes head then s (Err why) after → StopsAt file s why after
head_stops then s after (stop.Cut fault) due h =
    (h.0, subst (λ (p : Plan Database). IsFaultOf fault (run p s)) file_head (h.1 body_of (λ x. body_due then due x)))
head_stops then s after (stop.Fault fault) due h =
    λ more. subst (λ (p : Plan Database). Stands fault (run p (with_more s more))) file_head (Stands-then body_of head (with_more s more) fault (h more))

-- a stop at the header is one of the file
pub stops_file : (T : Type 0) (s after : Input) (why : Stop) → StopsAt file s why after → Advances {T = T} file s (Err why) file after
stops_file T s after (stop.Cut fault) h = (
  record { ends = ap (λ (t : Input). t.at + length t.rest) h.0; reads = λ more. ap (λ (t : Input). run file (with_more t more)) (sym h.0) },
  subst (λ (t : Input). IsFaultOf fault (run file t)) (sym h.0) h.1,
)
stops_file T s after (stop.Fault fault) h = h

-- a body without entries is in order
new_order : (h : Head) (b : Body) → IsNew h b → InOrder b
new_order h b new = record {
  words = λ short. ap (λ (xs : List Word). length xs) new.words;
  rooms = λ short. ap (λ (xs : List Room). length xs) new.rooms;
  messages = λ short. ap (λ (xs : List (List ℕ)). length xs) new.messages;
  items = λ short. ap (λ (xs : List Item). length xs) new.items;
  comments = λ short. ap (λ (xs : List (List ℕ)). length xs) new.comments;
}

pub news_order : (h : Head) (r : Result Body Stop) → IfOk r (λ b. IsNew h b) → IfOk r (λ b. InOrder b)
news_order h (Ok b) new = new_order h b new
news_order h (Err why) new = tt

pub memory_stops : (s after : Input) (r : Result Body Stop) → IfErr r (λ why. why ≡ stop.Fault Memory) → IfErr r (λ why. StopsAt file s why after)
memory_stops s after (Ok b) h = tt
memory_stops s after (Err why) h = subst (λ (w : Stop). StopsAt file s w after) (sym h) (λ more. tt)

-- ---- the trailer

-- the database of a file whose lists were read, with this trailer
abbrev closed : Body → Trailer → Database
closed b last = record {
  header = header_of b.head.sizes b.head.numbers b.head.closing;
  actions = b.actions.items;
  words = b.words.items;
  rooms = b.rooms.items;
  messages = b.messages.items;
  items = b.items.items;
  comments = b.comments.items;
  trailer = last;
}

pub trailer_read : (b : Body) (s after : Input) (last : Trailer) → AreRead b → run trailer s ≡ Ok (last, after) → run (body_from b) s ≡ Ok (closed b last, after)
trailer_read b s after last h e = to_trailer b h s ∙ run-ok (λ t. done (closed b t)) trailer s after last e

pub trailer_stops : (b : Body) (s : Input) (fault : FormatFault) → AreRead b → Stands fault (run trailer s) → Stands fault (run (body_from b) s)
trailer_stops b s fault h e =
    subst (λ (r : Result (Database × Input) Fault). Stands fault r) (sym (to_trailer b h s)) (Stands-then (λ t. done (closed b t)) trailer s fault e)
