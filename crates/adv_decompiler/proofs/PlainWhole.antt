-- The plain text of a database is a text of one source, which means the database.
use Rattle.std.proofs.Common.{◌≡◌, ℕ, ◌+◌, ◌≤◌, ◌<◌, ◌&&◌, Bool, true, false, leb, List, [], ◌∷◌, ◌++◌, map, length, zip, ℤ, pos, negsuc, Result, Ok, refl, sym, ap, subst, ◌∙◌, append_assoc, arith}
use Rattle.std.specs.Prelude.{codes, int_le, nat_lt}
use Rattle.std.proofs.lemmas.Bool.{and_from, cond-true, le-leb, lt-ltb}
use Rattle.std.proofs.lemmas.List.{map-id}
use Rattle.std.proofs.lemmas.Slice.Zip.{firsts-zip, seconds-zip}
use Rattle.scott_types.specs.declared.parts.Action.{Action}
use Rattle.scott_types.specs.declared.parts.Word.{Word}
use Rattle.scott_types.specs.declared.parts.Room.{Room}
use Rattle.scott_types.specs.declared.parts.Item.{Item}
use Rattle.scott_types.specs.Database.{Database}
use Rattle.scott_types.specs.Limits.{is_file_text, is_word, is_room, is_item, KeepsLimits}
use Rattle.source_reader.specs.declared.settings.Settings.{Settings}
use Rattle.source_reader.specs.declared.tokens.Token.TheVariants as token
use Rattle.source_reader.specs.declared.tree.At.{At}
use Rattle.source_reader.specs.declared.tree.Entries.{Entries}
use Rattle.source_reader.specs.declared.tree.WordPart.{WordPart}
use Rattle.source_reader.specs.declared.tree.RoomPart.{RoomPart}
use Rattle.source_reader.specs.declared.tree.MessagePart.{MessagePart}
use Rattle.source_reader.specs.declared.tree.ItemPart.{ItemPart}
use Rattle.source_reader.specs.declared.tree.LinePart.{LinePart}
use Rattle.source_reader.specs.declared.tree.Source.{Source}
use Rattle.source_reader.specs.Singles.{any_token, end_of_text}
use Rattle.source_reader.specs.Lists.{listing}
use Rattle.source_reader.specs.Entries.{word_part, room_part, message_part, item_part, line_part}
use Rattle.source_reader.specs.Text.{settings, lists, trailer, source_of, source}
use Rattle.source_reader.specs.Laws.{OneSource}
use Rattle.adv_compiler.specs.declared.headers.Numbers.{Numbers}
use Rattle.adv_compiler.specs.Faults.{Fault}
use Rattle.adv_compiler.specs.Faults.{◌>>=◌ as ◌onto◌}
use Rattle.adv_compiler.specs.Known.{Known, title_of, known_of}
use Rattle.adv_compiler.specs.Values.{value_of, in_range, entry_number}
use Rattle.adv_compiler.specs.Lists.{list_of}
use Rattle.adv_compiler.specs.Meaning.{header, header_of, trailer_of, meant}
use Rattle.adv_compiler.specs.Entries as means
use Rattle.adv_compiler.specs.Lines.{line}
use Rattle.adv_decompiler.specs.declared.sizes.Sizes.{Sizes}
use Rattle.adv_decompiler.specs.Layout.{joined, below, Chunk, chunk, section}
use Rattle.adv_decompiler.specs.References.{sizes_of, room_name}
use Rattle.adv_decompiler.specs.Lines.{action_line}
use Rattle.adv_decompiler.specs.Plain.{header_lines, word_line, room_line, message_line, item_line, trailer_line, lines_of, chunks, plain}
use Rattle.adv_decompiler.specs.Laws.{ReadsBack}
use Rattle.adv_decompiler.proofs.Apart.{laid, laid-append}
use Rattle.adv_decompiler.proofs.Feeding.{Fed, fed_then, WrittenLaws, read_fed}
use Rattle.adv_decompiler.proofs.Finding.{Finds, AreFew}
use Rattle.adv_decompiler.proofs.Listing.{Each, Listed, listing_fed, lines_laid, list_means, each-length}
use Rattle.adv_decompiler.proofs.Titles.{found_from, none_found}
use Rattle.adv_decompiler.proofs.PlainEntries.{WordMeans, word_fed, word_means, MessageMeans, message_fed, message_means, RoomMeans, room_fed, room_means, ItemMeans, item_fed, item_means}
use Rattle.adv_decompiler.proofs.PlainLines.{LineMeans, action_fed, action_means, action_laid}
use Rattle.adv_decompiler.proofs.PlainHeader.{SettingsMean, settings_fed, trailer_fed}
use Rattle.adv_decompiler.proofs.PlainApart.{section-laid, word_laid, message_laid, room_laid, item_laid, header_laid, trailer_laid}
use Rattle.adv_decompiler.proofs.PlainLimits.{Passes, IsLine, Limited, limited}

regroup : (a b c d e f g h : List Chunk) → (a ++ (b ++ (c ++ (d ++ (e ++ (f ++ g)))))) ++ h ≡ a ++ (b ++ (c ++ (d ++ (e ++ (f ++ (g ++ h))))))
regroup a b c d e f g h = simp append_assoc

module _ (db : Database) (limits : KeepsLimits db) (within_limits : Limited db) where
  abbrev sizes : Sizes
  sizes = sizes_of db

  few : AreFew sizes
  few = record { rooms = within_limits.rooms_few.1; messages = within_limits.messages_few.1; items = within_limits.items_few.1 }

  abbrev pairs : List (Action × List ℕ)
  pairs = zip db.actions db.comments

  -- ---- what is read of each list

  abbrev LineEntry : ℕ → Action × List ℕ → At LinePart → Type 0
  LineEntry k pair e = LineMeans sizes few pair.0 pair.1 e

  words_listed : Listed word_part (Passes is_word) (word_line sizes) WordMeans db.words
  words_listed = record {
    some = within_limits.words_few.0;
    few = omega (arith, within_limits.words_few.1);
    all = within_limits.words_right;
    fed = λ k w low ok. word_fed sizes k w;
    apart = λ k w low ok. word_laid sizes few k w ok;
  }

  rooms_listed : Listed room_part (Passes is_room) (room_line sizes) (RoomMeans sizes few) db.rooms
  rooms_listed = record {
    some = within_limits.rooms_few.0;
    few = omega (arith, within_limits.rooms_few.1);
    all = within_limits.rooms_right;
    fed = λ k r low ok. room_fed sizes few k r low ok;
    apart = λ k r low ok. room_laid sizes few k r low ok;
  }

  messages_listed : Listed message_part (Passes is_file_text) (message_line sizes) MessageMeans db.messages
  messages_listed = record {
    some = within_limits.messages_few.0;
    few = omega (arith, within_limits.messages_few.1);
    all = within_limits.messages_right;
    fed = λ k m low ok. message_fed sizes few k m low;
    apart = λ k m low ok. message_laid sizes few k m low ok;
  }

  items_listed : Listed item_part (Passes is_item) (item_line sizes) (ItemMeans sizes few) db.items
  items_listed = record {
    some = within_limits.items_few.0;
    few = omega (arith, within_limits.items_few.1);
    all = within_limits.items_right;
    fed = λ k i low ok. item_fed sizes few k i low ok;
    apart = λ k i low ok. item_laid sizes few k i low ok;
  }

  lines_listed : Listed line_part IsLine (action_line sizes) LineEntry pairs
  lines_listed = record {
    some = within_limits.lines_few.0;
    few = within_limits.lines_few.1;
    all = within_limits.lines_right;
    fed = λ k p low ok. action_fed sizes few k p.0 p.1 ok.0;
    apart = λ k p low ok. action_laid sizes few k p.0 p.1 ok.0 ok.1;
  }

  comments_are : (xs : List (Action × List ℕ)) (entries : List (At LinePart)) (k : ℕ) → Each LineEntry k xs entries
      → map (λ e. e.what.comment) entries ≡ map (λ (p : Action × List ℕ). p.1) xs
  comments_are [] [] k h = refl
  comments_are [] (e ∷ entries) k h = absurd h
  comments_are (p ∷ xs) [] k h = absurd h
  comments_are (p ∷ xs) (e ∷ entries) k h =
      ap (λ (text : List ℕ). text ∷ map (λ e. e.what.comment) entries) h.0.comment ∙ ap (λ (ts : List (List ℕ)). p.1 ∷ ts) (comments_are xs entries (k + 1) h.1)

  record IsRead (first : Settings) (words : Entries WordPart) (rooms : Entries RoomPart) (messages : Entries MessagePart) (items : Entries ItemPart)
      (lines : Entries LinePart) (numbers : List ℤ) : Type 0 where
    first_means : SettingsMean sizes db.header first
    words_mean : Each WordMeans 0 db.words words.entries
    rooms_mean : Each (RoomMeans sizes few) 0 db.rooms rooms.entries
    messages_mean : Each MessageMeans 0 db.messages messages.entries
    items_mean : Each (ItemMeans sizes few) 0 db.items items.entries
    lines_mean : Each LineEntry 0 pairs lines.entries
    numbers_are : numbers ≡ db.trailer.version ∷ db.trailer.adventure ∷ db.trailer.third ∷ []

  module _ (first : Settings) (words : Entries WordPart) (rooms : Entries RoomPart) (messages : Entries MessagePart) (items : Entries ItemPart)
      (lines : Entries LinePart) (numbers : List ℤ) (read : IsRead first words rooms messages items lines numbers) where
    abbrev tree : Source
    tree = source_of first words rooms messages items lines numbers

    abbrev known : Known
    known = known_of tree

    finds : Finds sizes known
    finds = record {
      rooms = λ k there. found_from (RoomMeans sizes few) (λ e. title_of e.what.name) 114 (λ j x e h. h.0.0) db.rooms rooms.entries 0 k (omega arith) (omega arith)
          (omega (arith, within_limits.rooms_few.1)) read.rooms_mean;
      messages = λ k there. found_from MessageMeans (λ e. title_of e.what.name) 109 (λ j x e h. h.0) db.messages messages.entries 0 k (omega arith) (omega arith)
          (omega (arith, within_limits.messages_few.1)) read.messages_mean;
      items = λ k there. found_from (ItemMeans sizes few) (λ e. title_of e.what.name) 105 (λ j x e h. h.0.0) db.items items.entries 0 k (omega arith) (omega arith)
          (omega (arith, within_limits.items_few.1)) read.items_mean;
      no_item = λ k. none_found (ItemMeans sizes few) (λ e. title_of e.what.name) 105 (λ j x e h. h.0.0) (room_name k) (λ j. refl) db.items items.entries 0 read.items_mean;
    }

    abbrev the_numbers : Numbers
    the_numbers = record { start = pos db.header.start; length = pos db.header.length; light = db.header.light; home = db.header.home }

    abbrev numbers_of : ℤ → ℤ → ℤ → ℤ → Result Numbers Fault
    numbers_of start size light home = Ok (record { start = start; length = size; light = light; home = home })

    abbrev finish : Numbers → List Word → List Room → List (List ℕ) → List Item → List Action → Result Database Fault
    finish n w r m i a = Ok (record {
      header = header_of tree n;
      actions = a;
      words = w;
      rooms = r;
      messages = m;
      items = i;
      comments = map (λ e. e.what.comment) lines.entries;
      trailer = trailer_of numbers;
    })

    header_means : header known tree ≡ Ok the_numbers
    header_means =
        let start : value_of known.rooms first.start.at first.start.what ≡ Ok (pos db.header.start) = read.first_means.start known finds in
        let there : db.header.start < length rooms.entries =
        omega (arith, limits.header.start_there, each-length (RoomMeans sizes few) db.rooms rooms.entries 0 read.rooms_mean) in
        let entry : entry_number first.start.at (length rooms.entries) (pos db.header.start) ≡ Ok (pos db.header.start) =
        cond-true (int_le (pos 0) (pos db.header.start) && nat_lt db.header.start (length rooms.entries)) _ _
        (and_from _ _ (le-leb 0 db.header.start (omega arith)) (lt-ltb db.header.start (length rooms.entries) there)) in
        let size : in_range first.length.at (pos 1) (pos 20) first.length.what ≡ Ok (pos db.header.length) =
        ap (in_range first.length.at (pos 1) (pos 20)) read.first_means.size
        ∙ cond-true (int_le (pos 1) (pos db.header.length) && int_le (pos db.header.length) (pos 20)) _ _
        (and_from _ _ (le-leb 1 db.header.length limits.header.length_range.0) (le-leb db.header.length 20 limits.header.length_range.1)) in
        let light : in_range first.light.at (negsuc 0) (pos 2147483647) first.light.what ≡ Ok db.header.light =
        ap (in_range first.light.at (negsuc 0) (pos 2147483647)) read.first_means.light
        ∙ cond-true (int_le (negsuc 0) db.header.light && int_le db.header.light (pos 2147483647)) _ _ within_limits.light in
        let home : value_of known.rooms first.home.at first.home.what ≡ Ok db.header.home = read.first_means.home known finds in
        ap (λ (r : Result ℤ Fault). r onto λ z. entry_number first.start.at (length rooms.entries) z onto λ s. in_range first.length.at (pos 1) (pos 20) first.length.what
        onto λ l. in_range first.light.at (negsuc 0) (pos 2147483647) first.light.what onto λ i. value_of known.rooms first.home.at first.home.what
        onto λ h. numbers_of s l i h) start
        ∙ ap (λ (r : Result ℤ Fault). r onto λ s. in_range first.length.at (pos 1) (pos 20) first.length.what
        onto λ l. in_range first.light.at (negsuc 0) (pos 2147483647) first.light.what onto λ i. value_of known.rooms first.home.at first.home.what
        onto λ h. numbers_of s l i h) entry
        ∙ ap (λ (r : Result ℤ Fault). r onto λ l. in_range first.light.at (negsuc 0) (pos 2147483647) first.light.what
        onto λ i. value_of known.rooms first.home.at first.home.what onto λ h. numbers_of (pos db.header.start) l i h) size
        ∙ ap (λ (r : Result ℤ Fault). r onto λ i. value_of known.rooms first.home.at first.home.what
        onto λ h. numbers_of (pos db.header.start) (pos db.header.length) i h) light
        ∙ ap (λ (r : Result ℤ Fault). r onto λ h. numbers_of (pos db.header.start) (pos db.header.length) db.header.light h) home

    words_are : list_of (means.word known) 999 words ≡ Ok db.words
    words_are =
        list_means words_listed (means.word known) (λ w. w) 999 within_limits.words_few.1 (λ k w e low ok h. word_means known k w e h) words read.words_mean
        ∙ ap (λ (ws : List Word). Ok ws) (map-id db.words)

    rooms_are : list_of (means.room known) 254 rooms ≡ Ok db.rooms
    rooms_are =
        list_means rooms_listed (means.room known) (λ r. r) 254 within_limits.rooms_few.1 (λ k r e low ok h. room_means sizes few known finds k r e low h) rooms read.rooms_mean
        ∙ ap (λ (rs : List Room). Ok rs) (map-id db.rooms)

    messages_are : list_of (means.message known) 999 messages ≡ Ok db.messages
    messages_are =
        list_means messages_listed (means.message known) (λ m. m) 999 within_limits.messages_few.1 (λ k m e low ok h. message_means sizes few known finds k m e low h) messages
        read.messages_mean
        ∙ ap (λ (ms : List (List ℕ)). Ok ms) (map-id db.messages)

    items_are : list_of (means.item known) 254 items ≡ Ok db.items
    items_are =
        list_means items_listed (means.item known) (λ i. i) 254 within_limits.items_few.1 (λ k i e low ok h. item_means sizes few known finds k i e low h) items read.items_mean
        ∙ ap (λ (is : List Item). Ok is) (map-id db.items)

    lines_are : list_of (line known) 4999 lines ≡ Ok db.actions
    lines_are =
        list_means lines_listed (line known) (λ p. p.0) 4999 within_limits.lines_few.1 (λ k p e low ok h. action_means sizes few known finds k p.0 p.1 e ok.0 h) lines read.lines_mean
        ∙ ap (λ (actions : List Action). Ok actions) (firsts-zip db.actions db.comments limits.commented)

    whole_means : meant tree ≡ Ok db
    whole_means =
        let comments : map (λ e. e.what.comment) lines.entries ≡ db.comments =
        comments_are pairs lines.entries 0 read.lines_mean ∙ seconds-zip db.actions db.comments limits.commented in
        ap (λ (q : Result Numbers Fault). q onto λ n. list_of (means.word known) 999 words onto λ w. list_of (means.room known) 254 rooms
        onto λ r. list_of (means.message known) 999 messages onto λ m. list_of (means.item known) 254 items onto λ i. list_of (line known) 4999 lines
        onto λ a. finish n w r m i a) header_means
        ∙ ap (λ (q : Result (List Word) Fault). q onto λ w. list_of (means.room known) 254 rooms onto λ r. list_of (means.message known) 999 messages
        onto λ m. list_of (means.item known) 254 items onto λ i. list_of (line known) 4999 lines onto λ a. finish the_numbers w r m i a) words_are
        ∙ ap (λ (q : Result (List Room) Fault). q onto λ r. list_of (means.message known) 999 messages onto λ m. list_of (means.item known) 254 items
        onto λ i. list_of (line known) 4999 lines onto λ a. finish the_numbers db.words r m i a) rooms_are
        ∙ ap (λ (q : Result (List (List ℕ)) Fault). q onto λ m. list_of (means.item known) 254 items onto λ i. list_of (line known) 4999 lines
        onto λ a. finish the_numbers db.words db.rooms m i a) messages_are
        ∙ ap (λ (q : Result (List Item) Fault). q onto λ i. list_of (line known) 4999 lines onto λ a. finish the_numbers db.words db.rooms db.messages i a) items_are
        ∙ ap (λ (q : Result (List Action) Fault). q onto λ a. finish the_numbers db.words db.rooms db.messages db.items a) lines_are
        ∙ (λ j. Ok (record {
          header = record {
            unused = read.first_means.unused j;
            carry = read.first_means.carry j;
            start = db.header.start;
            treasures = read.first_means.treasures j;
            length = db.header.length;
            light = db.header.light;
            home = db.header.home;
          };
          actions = db.actions;
          words = db.words;
          rooms = db.rooms;
          messages = db.messages;
          items = db.items;
          comments = comments j;
          trailer = trailer_of (read.numbers_are j);
        }))

  abbrev Means : Source → Type 0
  Means tree = meant tree ≡ Ok db

  abbrev section_of : List ℕ → List Chunk → List Chunk
  section_of name lines = section below name lines

  -- after the settings of the header, the lists and the trailer that are written are read as a
  -- source that means the database
  lists_fed : (first : Settings) → SettingsMean sizes db.header first
      → Fed (lists first)
      (section_of (codes "words") (lines_of (word_line sizes) db.words)
      ++ (section_of (codes "rooms") (lines_of (room_line sizes) db.rooms)
      ++ (section_of (codes "messages") (lines_of (message_line sizes) db.messages)
      ++ (section_of (codes "items") (lines_of (item_line sizes) db.items)
      ++ (section_of (codes "lines") (lines_of (action_line sizes) pairs)
      ++ (section_of (codes "trailer") (trailer_line db.trailer) ++ chunk below token.End ∷ [])))))) Means
  unfolding lists end_of_text any_token
  lists_fed first hf =
      fed_then (λ es. Each WordMeans 0 db.words es.entries) Means (listing (codes "words") word_part) _
      (section_of (codes "words") (lines_of (word_line sizes) db.words)) _
      (listing_fed words_listed (codes "words")) (λ words hw.
      fed_then (λ es. Each (RoomMeans sizes few) 0 db.rooms es.entries) Means (listing (codes "rooms") room_part) _
      (section_of (codes "rooms") (lines_of (room_line sizes) db.rooms)) _
      (listing_fed rooms_listed (codes "rooms")) (λ rooms hr.
      fed_then (λ es. Each MessageMeans 0 db.messages es.entries) Means (listing (codes "messages") message_part) _
      (section_of (codes "messages") (lines_of (message_line sizes) db.messages)) _
      (listing_fed messages_listed (codes "messages")) (λ messages hm.
      fed_then (λ es. Each (ItemMeans sizes few) 0 db.items es.entries) Means (listing (codes "items") item_part) _
      (section_of (codes "items") (lines_of (item_line sizes) db.items)) _
      (listing_fed items_listed (codes "items")) (λ items hi.
      fed_then (λ es. Each LineEntry 0 pairs es.entries) Means (listing (codes "lines") line_part) _
      (section_of (codes "lines") (lines_of (action_line sizes) pairs)) _
      (listing_fed lines_listed (codes "lines")) (λ lines hl.
      fed_then (λ numbers. numbers ≡ db.trailer.version ∷ db.trailer.adventure ∷ db.trailer.third ∷ []) Means trailer _
      (section_of (codes "trailer") (trailer_line db.trailer)) (chunk below token.End ∷ []) (trailer_fed db.trailer) (λ numbers hn at.
      whole_means first words rooms messages items lines numbers
      (record { first_means = hf; words_mean = hw; rooms_mean = hr; messages_mean = hm; items_mean = hi; lines_mean = hl; numbers_are = hn })))))))

  text_fed : Fed source (chunks sizes db ++ chunk below token.End ∷ []) Means
  unfolding source
  text_fed =
      subst (λ (cs : List Chunk). Fed source cs Means)
      (sym (regroup (section joined (codes "header") (header_lines sizes db.header)) (section_of (codes "words") (lines_of (word_line sizes) db.words))
      (section_of (codes "rooms") (lines_of (room_line sizes) db.rooms)) (section_of (codes "messages") (lines_of (message_line sizes) db.messages))
      (section_of (codes "items") (lines_of (item_line sizes) db.items)) (section_of (codes "lines") (lines_of (action_line sizes) pairs))
      (section_of (codes "trailer") (trailer_line db.trailer)) (chunk below token.End ∷ [])))
      (fed_then (SettingsMean sizes db.header) Means settings lists (section joined (codes "header") (header_lines sizes db.header)) _
      (settings_fed sizes few db.header) lists_fed)

  -- all tokens of the text can be written, and they stand apart
  text_laid : laid true (chunks sizes db) ≡ true
  text_laid =
      let start : db.header.start ≤ 255 = omega (arith, limits.header.start_there, within_limits.rooms_few.1) in
      let words = section-laid (codes "words") (lines_of (word_line sizes) db.words) refl
      (lines_laid words_listed) in
      let rooms = section-laid (codes "rooms") (lines_of (room_line sizes) db.rooms) refl
      (lines_laid rooms_listed) in
      let messages = section-laid (codes "messages") (lines_of (message_line sizes) db.messages) refl
      (lines_laid messages_listed) in
      let items = section-laid (codes "items") (lines_of (item_line sizes) db.items) refl
      (lines_laid items_listed) in
      let lines = section-laid (codes "lines") (lines_of (action_line sizes) pairs) refl
      (lines_laid lines_listed) in
      let w = section_of (codes "words") (lines_of (word_line sizes) db.words) in
      let r = section_of (codes "rooms") (lines_of (room_line sizes) db.rooms) in
      let m = section_of (codes "messages") (lines_of (message_line sizes) db.messages) in
      let i = section_of (codes "items") (lines_of (item_line sizes) db.items) in
      let l = section_of (codes "lines") (lines_of (action_line sizes) pairs) in
      let t = section_of (codes "trailer") (trailer_line db.trailer) in
      laid-append true (section joined (codes "header") (header_lines sizes db.header)) (w ++ (r ++ (m ++ (i ++ (l ++ t)))))
      (header_laid sizes few db.header start limits.header.length_range.1 limits.header.numbers)
      (laid-append false w (r ++ (m ++ (i ++ (l ++ t)))) words
      (laid-append false r (m ++ (i ++ (l ++ t))) rooms
      (laid-append false m (i ++ (l ++ t)) messages
      (laid-append false i (l ++ t) items (laid-append false l t lines (trailer_laid db.trailer limits.trailer))))))

  reads_back_by : WrittenLaws → OneSource → ReadsBack (plain db) db
  unfolding plain
  reads_back_by laws one =
      let r = read_fed laws Means source (chunks sizes db) true 0 text_fed text_laid in
      record { tree = r.0; text = (r.1, r.2); only = λ other h. one (plain db) other r.0 h (r.1, r.2); meaning = r.3 }

pub reads_back : (db : Database) → KeepsLimits db → WrittenLaws → OneSource → ReadsBack (plain db) db
reads_back db limits laws one = reads_back_by db limits (limited db limits) laws one
