use Rattle.std.proofs.Common.{arith}
use Rattle.scott_format.specs.declared.stops.Due.TheVariants.{Number}
use Rattle.scott_format.specs.Sections.{trailer}
use Rattle.scott_format.specs.Bodies.{from_trailer}
use Rattle.scott_format.proofs.Dues.{trailer_due}
use Rattle.scott_format.proofs.ListSteps.{same_advances}
use Rattle.scott_format.proofs.BodySteps.{on_ok_with, due_first, to_comments}
use Rattle.scott_format.proofs.bodies.Body.read_comments.Goals as goal

pub returns-clause-advances : goal.returns-clause-advances
returns-clause-advances c =
    same_advances _ _ _ _ c.args.scan.now c.read_list.new.scan c.read_list.result (to_comments c.args.self.now c.requires.read) (to_comments (record c.args.self.now { comments = c.read_list.new.entries }) c.requires.read) (c.read_list.ensures.advances (from_trailer c.args.self.now c.args.self.now.actions.items c.args.self.now.words.items c.args.self.now.rooms.items c.args.self.now.messages.items c.args.self.now.items.items) (λ short all. due_first Number trailer _ trailer_due))

pub returns-clause-order : goal.returns-clause-order
returns-clause-order c = record {
  words = c.requires.order.words;
  rooms = c.requires.order.rooms;
  messages = c.requires.order.messages;
  items = c.requires.order.items;
  comments = λ short. absurd (omega (arith, short, c.requires.read.1));
}

pub returns-clause-read : goal.returns-clause-read
returns-clause-read c = on_ok_with _ c.read_list.result c.requires.read c.read_list.ensures.full
