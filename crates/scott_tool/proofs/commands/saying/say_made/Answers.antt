use Rattle.std.proofs.Common.{ℕ, List, refl}
use Rattle.adv_io.specs.History.{says}
use Rattle.scott_tool.specs.Outcome.{done}
use Rattle.scott_tool.specs.Work.{saying, Does}
use Rattle.scott_tool.specs.Views.{refusal_of, number_of}
use Rattle.scott_tool.proofs.Obeying.{obeys-shown, obeys-declined, known_said, known_part}
use Rattle.scott_tool.proofs.commands.saying.say_made.Goals as goal

pub returns-in-Ok : goal.returns-in-Ok
returns-in-Ok g c = λ expected makes shelf.
    let old = g.C.Console.seen c.args.console.now in
    let new = g.C.Console.seen c.say.new.self in
    let bytes = c.in-Ok.bytes.items in
    let made = rw c.in-Ok.is at makes in
    let task = saying made.0 in
    let does : (lines : List (List ℕ)) → Does task lines (done (says bytes)) =
    λ lines. (bytes, made.2, refl) in
    let status = number_of c.concluded.result in
    obeys-shown old new status shelf task (λ lines. says bytes) does expected
    c.say.result made.1
    (known_said old new status shelf task (λ lines. says bytes) does c.say.result
    (says bytes) (λ lines. refl) (rw c.deref.ensures.value at c.say.ensures.said))
    (known_part old new status shelf task (λ lines. says bytes) does c.say.result
    (says bytes) (λ lines. refl) (rw c.deref.ensures.value at c.say.ensures.part))
    c.say.ensures.cause c.concluded.ensures

pub returns-in-Err : goal.returns-in-Err
returns-in-Err g c = λ expected makes shelf.
    obeys-declined (g.C.Console.seen c.args.console.now)
    (g.C.Console.seen c.end.new.console) (number_of c.end.result) shelf
    expected (refusal_of c.in-Err.refusal) (rw c.in-Err.is at makes) c.end.ensures
