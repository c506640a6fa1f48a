use Rattle.std.proofs.Common.{arith}
use Rattle.scott_format.specs.Sections.{word}
use Rattle.scott_format.specs.Bodies.{word_count, from_words, from_rooms}
use Rattle.scott_format.proofs.ListSteps.{list_due}
use Rattle.scott_format.proofs.bodies.Body.read_actions.Goals as goal

pub returns-clause-advances : goal.returns-clause-advances
returns-clause-advances c =
    c.read_list.ensures.advances (from_words c.args.self.now) (λ short all. list_due (λ k. word) (word_count c.args.self.now) (from_rooms c.args.self.now all) c.args.self.now.words.items (omega (arith, c.requires.order.words short)) c.first.result (c.first.ensures 0))

pub returns-clause-order : goal.returns-clause-order
returns-clause-order c = record {
  words = λ short. c.requires.order.words (omega (arith, short, c.read_list.ensures.grows));
  rooms = c.requires.order.rooms;
  messages = c.requires.order.messages;
  items = c.requires.order.items;
  comments = c.requires.order.comments;
}
