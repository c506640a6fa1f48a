use Rattle.std.proofs.lemmas.Result.{on_ok_weaker}
use Rattle.scott_format.proofs.Texts.{room_written}
use Rattle.scott_format.proofs.lines.RoomLine.put.Goals as goal

pub returns : goal.returns
returns c =
    on_ok_weaker c.put_text_and.result
    (room_written c.args.out.now.items c.put_numbers.new.out.items c.put_text_and.new.out.items c.args.self.now.exits c.args.self.now.text c.in_ok-put_numbers.ensures)
    c.put_text_and.ensures
