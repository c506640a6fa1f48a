use Rattle.std.proofs.Common.{rules, [], ◌++◌, ◌≡◌}
use Rattle.adv_io.proofs.Buffering.{buffers-exit, buffers-kept, buffers-direct}
use Rattle.adv_io.proofs.saying.SayBuffer.buffer_text.Goals as goal
use Rattle.adv_io.proofs.saying.SayBuffer.buffer_text.Goals.{in-Ok, in-Err}

pub returns-in_err-make_room : goal.returns-in_err-make_room
returns-in_err-make_room g c =
    buffers-exit c.args.self.now c.make_room.new.self c.make_room.new.self [] c.args.text.now (search rules) c.in_err-make_room.ensures.buffers

pub returns : goal.returns
returns g c =
    elim c.match-try_extend_from_slice.branch [
      | in-Ok w ↦
          let kept : c.try_extend_from_slice.new.self.items ≡ c.make_room.new.self ++ c.args.text.now = search rules in
          rw (w.console-is, w.result-is, kept)
          (buffers-kept _ c.args.self.now c.make_room.new.self c.args.text.now c.in_ok-make_room.ensures.buffers)
      | in-Err w ↦
          let empty : c.make_room.new.self ≡ [] = search rules in
          let stays : c.try_extend_from_slice.new.self.items ≡ [] = search rules in
          rw (w.console-is, w.result-is, stays)
          (buffers-direct c.args.self.now c.make_room.new.self c.args.text.now empty c.in_ok-make_room.ensures.buffers
          w.say.ensures)
    ]
