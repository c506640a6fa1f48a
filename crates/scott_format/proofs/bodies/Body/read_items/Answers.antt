use Rattle.std.proofs.Common.{arith}
use Rattle.scott_format.specs.Sections.{string}
use Rattle.scott_format.specs.Bodies.{action_count, from_comments, from_trailer}
use Rattle.scott_format.proofs.ListSteps.{same_advances, list_due}
use Rattle.scott_format.proofs.BodySteps.{on_ok_with, to_items}
use Rattle.scott_format.proofs.bodies.Body.read_items.Goals as goal

pub returns-clause-advances : goal.returns-clause-advances
returns-clause-advances c =
    same_advances _ _ _ _ c.args.scan.now c.read_list.new.scan c.read_list.result (to_items c.args.self.now c.requires.read) (to_items (record c.args.self.now { items = c.read_list.new.entries }) c.requires.read) (c.read_list.ensures.advances (from_comments c.args.self.now c.args.self.now.actions.items c.args.self.now.words.items c.args.self.now.rooms.items c.args.self.now.messages.items) (λ short all. list_due (λ k. string) (action_count c.args.self.now) (from_trailer c.args.self.now c.args.self.now.actions.items c.args.self.now.words.items c.args.self.now.rooms.items c.args.self.now.messages.items all) c.args.self.now.comments.items (omega (arith, c.requires.order.comments short)) c.first.result (c.first.ensures 0)))

pub returns-clause-order : goal.returns-clause-order
returns-clause-order c = record {
  words = c.requires.order.words;
  rooms = c.requires.order.rooms;
  messages = c.requires.order.messages;
  items = λ short. absurd (omega (arith, short, c.requires.read.1));
  comments = λ short. c.requires.order.comments (omega (arith, short, c.read_list.ensures.grows));
}

pub returns-clause-read : goal.returns-clause-read
returns-clause-read c = on_ok_with _ c.read_list.result c.requires.read c.read_list.ensures.full
