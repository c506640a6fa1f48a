use Rattle.std.proofs.Common.{arith}
use Rattle.scott_format.specs.Sections.{string}
use Rattle.scott_format.specs.Bodies.{message_count, from_messages, from_items}
use Rattle.scott_format.proofs.ListSteps.{same_advances, list_due}
use Rattle.scott_format.proofs.BodySteps.{on_ok_with, to_rooms}
use Rattle.scott_format.proofs.bodies.Body.read_rooms.Goals as goal

pub returns-clause-advances : goal.returns-clause-advances
returns-clause-advances c =
    same_advances _ _ _ _ c.args.scan.now c.read_list.new.scan c.read_list.result (to_rooms c.args.self.now c.requires.read) (to_rooms (record c.args.self.now { rooms = c.read_list.new.entries }) c.requires.read) (c.read_list.ensures.advances (from_messages c.args.self.now c.args.self.now.actions.items c.args.self.now.words.items) (λ short all. list_due (λ k. string) (message_count c.args.self.now) (from_items c.args.self.now c.args.self.now.actions.items c.args.self.now.words.items all) c.args.self.now.messages.items (omega (arith, c.requires.order.messages short)) c.first.result (c.first.ensures 0)))

pub returns-clause-order : goal.returns-clause-order
returns-clause-order c = record {
  words = c.requires.order.words;
  rooms = λ short. absurd (omega (arith, short, c.requires.read.1));
  messages = λ short. c.requires.order.messages (omega (arith, short, c.read_list.ensures.grows));
  items = c.requires.order.items;
  comments = c.requires.order.comments;
}

pub returns-clause-read : goal.returns-clause-read
returns-clause-read c = on_ok_with _ c.read_list.result c.requires.read c.read_list.ensures.full
