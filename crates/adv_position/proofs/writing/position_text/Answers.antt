use Rattle.std.proofs.Common.{◌++◌, ◌∷◌, [], codes, map, ap, ◌∙◌, pos}
use Rattle.std.specs.Fmt.{decimal}
use Rattle.adv_io.specs.Text.{newline}
use Rattle.adv_position.specs.Text.{at_line, room_line, number_line, numbers_line}
use Rattle.adv_position.specs.Numbers.{bit}
use Rattle.adv_position.proofs.Written.{eight-written, amounts-written, one-number}
use Rattle.adv_position.proofs.writing.position_text.Goals as goal

pub returns : goal.returns
returns c =
    let s = c.args.state.now in
    let rooms = c.in_ok-put_line-2.ensures
    ∙ ap (λ t. c.put_room_line.new.out.items ++ (codes "rooms" ++ (t ++ newline ∷ [])))
    (amounts-written s.rooms) in
    let places = (rw c.as_slice.ensures.value at c.in_ok-put_line-4.ensures)
    ∙ ap (λ t. c.put_flags.new.out.items ++ (codes "places" ++ (t ++ newline ∷ [])))
    (amounts-written s.places.items) in
    eight-written c.new-out.result.items c.extend_from_slice.new.self.items
    c.put_position.new.out.items c.put_line.new.out.items c.put_room_line.new.out.items
    c.put_line-2.new.out.items c.put_line-3.new.out.items c.put_flags.new.out.items
    c.put_line-4.new.out.items
    (codes "position 1\n") (at_line c.args.position)
    (number_line (codes "taken") (pos c.args.taken)) (room_line s)
    (numbers_line (codes "rooms") (map pos s.rooms))
    (numbers_line (codes "counters") s.counters)
    (numbers_line (codes "flags") (map bit s.flags))
    (numbers_line (codes "places") (map pos s.places.items))
    c.new-out.ensures.items c.in_ok-extend_from_slice.ensures.items c.in_ok-put_position.ensures
    (c.in_ok-put_line.ensures ∙ ap (λ t. c.put_position.new.out.items ++ t)
    (one-number (codes "taken") (decimal c.args.taken)))
    c.in_ok-put_room_line.ensures rooms c.in_ok-put_line-3.ensures c.in_ok-put_flags.ensures places
