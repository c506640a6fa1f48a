use Rattle.std.proofs.Common.{◌∙◌, sym, ap}
use Rattle.inform_names.specs.Views.{names_of, directives_of}
use Rattle.inform_worlds.specs.Scopes.{scope_of}
use Rattle.inform_worlds.specs.Worlds.{globals_of}
use Rattle.inform_worlds.proofs.ByNumber.{heard_line, kept_line}
use Rattle.inform_worlds.proofs.worlds.World.hear.Goals as goal

pub returns-in-Some-clause-room : goal.returns-in-Some-clause-room
returns-in-Some-clause-room c = λ room.
    ap (λ arrays. record { globals = globals_of (names_of c.args.self.now.names.accepted.now) c.args.self.now.globals.items; arrays = arrays; scope = scope_of c.args.self.now.scope })
    (heard_line (λ entries. entries.items) c.meanings_are_of_directives.ensures c.args.self.now.names.accepted.now.width (directives_of c.args.self.now.names.accepted.now)
    c.args.self.now.arrays.items c.args.name.now c.in-Some.at c.in-Some.ensures.means.0 (sym c.find.ensures ∙ c.in-Some.ensures.means.1) c.in-Some.ensures.within
    c.index_mut.result.now c.fill.new.entries c.index_mut.ensures.value c.args.line.now c.fill.ensures.room room)

pub returns-in-Some-clause-no_room : goal.returns-in-Some-clause-no_room
returns-in-Some-clause-no_room c = λ no_room.
    ap (λ arrays. record { globals = globals_of (names_of c.args.self.now.names.accepted.now) c.args.self.now.globals.items; arrays = arrays; scope = scope_of c.args.self.now.scope })
    (kept_line (λ entries. entries.items) c.meanings_are_of_directives.ensures c.args.self.now.names.accepted.now.width (directives_of c.args.self.now.names.accepted.now)
    c.args.self.now.arrays.items c.args.name.now c.in-Some.at c.in-Some.ensures.means.0 (sym c.find.ensures ∙ c.in-Some.ensures.means.1) c.in-Some.ensures.within
    c.index_mut.result.now c.fill.new.entries c.index_mut.ensures.value c.fill.ensures.no_room no_room)
