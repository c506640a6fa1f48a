use Rattle.std.proofs.Common.{◌≡◌, ◌∙◌, ℤ, Option, None, sym, ap, refl, subst}
use Rattle.std.specs.Prelude.{IsSome}
use Rattle.inform_names.specs.Meanings.{word_of_meaning}
use Rattle.inform_names.specs.Views.{directives_of, names_of}
use Rattle.inform_names.proofs.Faultless.{fine_name}
use Rattle.inform_names.proofs.names.Names.constant.Goals as goal

pub unreachable-requires : goal.unreachable-requires
unreachable-requires c =
    let some : IsSome (word_of_meaning (names_of c.args.self.now.accepted.now c.args.name.now)) =
    fine_name c.args.self.now.accepted.now.width (directives_of c.args.self.now.accepted.now)
    (names_of c.args.self.now.accepted.now) c.args.name.now c.args.self.now.accepted.now.accepted
    refl c.requires in
    let none : word_of_meaning (names_of c.args.self.now.accepted.now c.args.name.now) ≡ None =
    ap word_of_meaning (sym (c.args.self.now.right c.args.name.now) ∙ sym c.find.ensures)
    ∙ sym c.word_of.ensures ∙ c.in-None.is in
    let wrong : IsSome {T = ℤ} None = subst (λ (o : Option ℤ). IsSome o) none some in
    absurd (cc)
