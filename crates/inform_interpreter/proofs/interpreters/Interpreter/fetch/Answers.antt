use Rattle.std.proofs.Common.{◌≡◌, ◌∙◌, to_z, of_z, w32, rules, sym, ap, refl}
use Rattle.inform_meaning.specs.declared.traps.Trap.TheVariants as t
use Rattle.inform_meaning.specs.Frames as f
use Rattle.inform_meaning.specs.Parts.{fetch, entry_by}
use Rattle.inform_interpreter.specs.Leading.{config_at}
use Rattle.inform_interpreter.specs.Interpreters.{place_of}
use Rattle.inform_interpreter.specs.Doing.{wanted}
use Rattle.inform_interpreter.proofs.Doing.{traps, gives-here}
use Rattle.inform_interpreter.proofs.interpreters.Interpreter.fetch.Goals as goal

pub returns-in-None : goal.returns-in-None
returns-in-None c =
    let i = c.args.self.now in
    let same : to_z w32 (of_z w32 c.args.index) ≡ c.args.index = search rules in
    traps 0 (wanted (f.IndexOf c.args.name.now) c.args.index) t.Index c.trap.result i c.trap.new.self
    c.trap.ensures.exit c.trap.ensures.trapped c.requires.idle
    (λ lines draws n past. let k = config_at (place_of i lines draws) n past in
    ap (λ a. fetch c.args.name.now a k) (sym same) ∙ ap (λ o. entry_by o k) (sym c.in-None.ensures))

pub returns-in-Some : goal.returns-in-Some
returns-in-Some c =
    let i = c.args.self.now in
    let same : to_z w32 (of_z w32 c.args.index) ≡ c.args.index = search rules in
    let value : to_z w32 (of_z w32 c.in-Some.a) ≡ c.in-Some.a = search rules in
    gives-here 0 (wanted (f.IndexOf c.args.name.now) c.args.index) (f.Value (to_z w32 (of_z w32 c.in-Some.a))) i refl tt c.requires.idle
    (λ lines draws n past. let k = config_at (place_of i lines draws) n past in
    ap (λ a. fetch c.args.name.now a k) (sym same) ∙ ap (λ o. entry_by o k) (sym c.in-Some.ensures)
    ∙ ap (λ a. (f.Value a, k)) (sym value))
