use Rattle.std.proofs.Common.{◌≡◌, ◌∙◌, ◌<◌, length, get_or, Some, refl, sym, ap, arith}
use Rattle.std.specs.Prelude.{slice_get}
use Rattle.std.specs.Vec.{vec_len}
use Rattle.inform_tree.specs.declared.programs.Program.{Program}
use Rattle.inform_tree.specs.Programs.{directive_of}
use Rattle.inform_names.specs.Views.{directives_of, names_of}
use Rattle.inform_names.proofs.Named.{within, at_number, meant}
use Rattle.inform_names.proofs.names.Names.entry.Goals as goal

pub index-directive-requires : goal.index-directive-requires
index-directive-requires c =
    let known : names_of c.args.self.now.accepted.now c.args.name.now ≡ Some c.in-Some.meaning =
    sym (c.args.self.now.right c.args.name.now) ∙ sym c.find_bytes.ensures ∙ c.in-Some.is in
    let low : c.in-Some.meaning.at < length c.args.self.now.accepted.now.program.directives.items =
    within c.args.self.now.accepted.now.width c.args.self.now.accepted.now.program.directives.items
    c.args.name.now c.in-Some.meaning known in
    let same : vec_len c.program.result.now.directives
    ≡ vec_len c.args.self.now.accepted.now.program.directives =
    ap (λ (p : Program). vec_len p.directives) c.program.ensures in
    let size : vec_len c.args.self.now.accepted.now.program.directives
    ≡ length c.args.self.now.accepted.now.program.directives.items =
    c.args.self.now.accepted.now.program.directives.ok.0 in
    omega arith

pub returns-in-Some-clause-directive : goal.returns-in-Some-clause-directive
returns-in-Some-clause-directive c =
    let known : names_of c.args.self.now.accepted.now c.args.name.now ≡ Some c.in-Some.meaning =
    sym (c.args.self.now.right c.args.name.now) ∙ sym c.find_bytes.ensures ∙ c.in-Some.is in
    let low : c.in-Some.meaning.at < length c.args.self.now.accepted.now.program.directives.items =
    within c.args.self.now.accepted.now.width c.args.self.now.accepted.now.program.directives.items
    c.args.name.now c.in-Some.meaning known in
    let item : c.index-directive.result.now
    ≡ get_or c.args.self.now.accepted.now.program.directives.items c.in-Some.meaning.at
    c.index-directive.result.now =
    c.index-directive.ensures
    ∙ ap
    (λ (p : Program). get_or p.directives.items c.in-Some.meaning.at c.index-directive.result.now)
    c.program.ensures in
    let here : slice_get (directives_of c.args.self.now.accepted.now) c.in-Some.meaning.at
    ≡ Some (directive_of c.index-directive.result.now) =
    at_number c.args.self.now.accepted.now.program.directives.items
    (length c.args.self.now.accepted.now.program.directives.items) c.in-Some.meaning.at
    c.index-directive.result.now refl low item in
    meant c.args.self.now.accepted.now.width
    (directives_of c.args.self.now.accepted.now) c.args.name.now c.in-Some.meaning
    (directive_of c.index-directive.result.now) known here
