use Rattle.std.proofs.Common.{arith}
use Rattle.scott_format.specs.Sections.{room}
use Rattle.scott_format.specs.Bodies.{room_count, from_rooms, from_messages}
use Rattle.scott_format.proofs.ListSteps.{same_advances, list_due}
use Rattle.scott_format.proofs.BodySteps.{on_ok_with, to_words}
use Rattle.scott_format.proofs.bodies.Body.read_words.Goals as goal

pub returns-clause-advances : goal.returns-clause-advances
returns-clause-advances c =
    same_advances _ _ _ _ c.args.scan.now c.read_list.new.scan c.read_list.result (to_words c.args.self.now c.requires.read) (to_words (record c.args.self.now { words = c.read_list.new.entries }) c.requires.read) (c.read_list.ensures.advances (from_rooms c.args.self.now c.args.self.now.actions.items) (λ short all. list_due (λ k. room) (room_count c.args.self.now) (from_messages c.args.self.now c.args.self.now.actions.items all) c.args.self.now.rooms.items (omega (arith, c.requires.order.rooms short)) c.first.result (c.first.ensures 0)))

pub returns-clause-order : goal.returns-clause-order
returns-clause-order c = record {
  words = λ short. absurd (omega (arith, short, c.requires.read));
  rooms = λ short. c.requires.order.rooms (omega (arith, short, c.read_list.ensures.grows));
  messages = c.requires.order.messages;
  items = c.requires.order.items;
  comments = c.requires.order.comments;
}

pub returns-clause-read : goal.returns-clause-read
returns-clause-read c = on_ok_with _ c.read_list.result c.requires.read c.read_list.ensures.full
