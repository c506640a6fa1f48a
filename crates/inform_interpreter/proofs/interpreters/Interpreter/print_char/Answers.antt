use Rattle.std.proofs.Common.{◌≡◌, ◌+◌, [], ◌∷◌, map, to_z, of_z, w32, rules, refl, arith}
use Rattle.inform_meaning.specs.Words.{low_byte}
use Rattle.inform_tree.specs.Statements.{print_item_of}
use Rattle.inform_tree.specs.Depths.{items_depth}
use Rattle.inform_meaning.specs.Frames as f
use Rattle.inform_interpreter.specs.Doing.{begun, wanted}
use Rattle.inform_interpreter.proofs.Arms.{comes-nowhere, said-on, said-not, then-does}
use Rattle.inform_interpreter.proofs.interpreters.Interpreter.print_char.Goals as goal

pub returns-in-Ok : goal.returns-in-Ok
returns-in-Ok g c =
    let number : to_z w32 (of_z w32 c.args.n) ≡ c.args.n = search rules in
    let seen = g.C.Console.seen in
    let xs = map print_item_of c.args.xs.now in
    then-does (begun (f.Prints xs)) refl (omega arith)
    (said-on tt (low_byte c.args.n ∷ []) (begun (f.Prints xs)) refl
    (comes-nowhere (wanted (f.SaysChar xs) c.args.n) c.args.self.now (seen c.args.console.now) c.args.draws.now c.requires.idle)
    (rw (number) at c.in-Ok.ensures)) c.print.ensures

pub returns-in-Err : goal.returns-in-Err
returns-in-Err g c =
    let number : to_z w32 (of_z w32 c.args.n) ≡ c.args.n = search rules in
    let seen = g.C.Console.seen in
    let xs = map print_item_of c.args.xs.now in
    said-not (items_depth xs + 1) (low_byte c.args.n ∷ []) (f.Prints xs) refl
    (comes-nowhere (wanted (f.SaysChar xs) c.args.n) c.args.self.now (seen c.args.console.now) c.args.draws.now c.requires.idle)
    (rw (number) at c.in-Err.ensures)
