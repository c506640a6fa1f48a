use Rattle.std.proofs.Common.{ℕ, List, ◌++◌, codes, zip, ap, ◌∙◌}
use Rattle.scott_types.specs.declared.parts.Word.{Word}
use Rattle.scott_types.specs.declared.parts.Room.{Room}
use Rattle.scott_types.specs.declared.parts.Item.{Item}
use Rattle.adv_decompiler.specs.Layout.{text_of, joined, below, section}
use Rattle.adv_decompiler.specs.Lines.{action_line}
use Rattle.adv_decompiler.specs.Plain.{header_lines, word_line, room_line, message_line, item_line, trailer_line, lines_of}
use Rattle.adv_decompiler.proofs.Texts.{then_text}
use Rattle.adv_decompiler.proofs.decompiling.put_all.Goals as goal

pub returns : goal.returns
returns c =
    let sizes = c.args.sizes.now in
    let parts = c.args.parts.now in
    let new = c.put_trailer.new.out.items in
    let words = section below (codes "words") (lines_of (word_line sizes) parts.words.items) in
    let rooms = section below (codes "rooms") (lines_of (room_line sizes) parts.rooms.items) in
    let messages = section below (codes "messages") (lines_of (message_line sizes) parts.messages.items) in
    let items = section below (codes "items") (lines_of (item_line sizes) parts.items.items) in
    let written_words = c.in_ok-put_list.ensures
    ∙ ap (λ (xs : List (Word)). c.put_header.new.out.items ++ text_of (section below (codes "words") (lines_of (word_line sizes) xs))) c.deref.ensures.value in
    let written_rooms = c.in_ok-put_list-2.ensures
    ∙ ap (λ (xs : List (Room)). c.put_list.new.out.items ++ text_of (section below (codes "rooms") (lines_of (room_line sizes) xs))) c.deref-2.ensures.value in
    let written_messages = c.in_ok-put_list-3.ensures
    ∙ ap (λ (xs : List (List ℕ)). c.put_list-2.new.out.items ++ text_of (section below (codes "messages") (lines_of (message_line sizes) xs))) c.deref-3.ensures.value in
    let written_items = c.in_ok-put_list-4.ensures
    ∙ ap (λ (xs : List (Item)). c.put_list-3.new.out.items ++ text_of (section below (codes "items") (lines_of (item_line sizes) xs))) c.deref-4.ensures.value in
    let lines = section below (codes "lines") (lines_of (action_line sizes) (zip parts.actions.items parts.comments.items)) in
    let trailer = section below (codes "trailer") (trailer_line parts.trailer) in
    then_text c.args.out.now.items c.put_header.new.out.items new (section joined (codes "header") (header_lines sizes parts.header))
    (words ++ (rooms ++ (messages ++ (items ++ (lines ++ trailer))))) c.in_ok-put_header.ensures
    (then_text c.put_header.new.out.items c.put_list.new.out.items new words (rooms ++ (messages ++ (items ++ (lines ++ trailer)))) written_words
    (then_text c.put_list.new.out.items c.put_list-2.new.out.items new rooms (messages ++ (items ++ (lines ++ trailer))) written_rooms
    (then_text c.put_list-2.new.out.items c.put_list-3.new.out.items new messages (items ++ (lines ++ trailer)) written_messages
    (then_text c.put_list-3.new.out.items c.put_list-4.new.out.items new items (lines ++ trailer) written_items
    (then_text c.put_list-4.new.out.items c.put_action_list.new.out.items new lines trailer c.in_ok-put_action_list.ensures c.in_ok-put_trailer.ensures)))))
