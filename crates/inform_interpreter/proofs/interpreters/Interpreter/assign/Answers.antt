use Rattle.std.proofs.Common.{◌≡◌, ◌∙◌, to_z, of_z, w32, rules, sym, ap, refl}
use Rattle.inform_meaning.specs.Frames as f
use Rattle.inform_meaning.specs.Worlds.{assigned}
use Rattle.inform_interpreter.specs.Leading.{config_at}
use Rattle.inform_interpreter.specs.Interpreters.{place_of}
use Rattle.inform_interpreter.specs.Doing.{wanted}
use Rattle.inform_interpreter.proofs.Doing.{gives-world}
use Rattle.inform_interpreter.proofs.interpreters.Interpreter.assign.Goals as goal

pub returns : goal.returns
returns c = λ seen given.
    let i = c.args.self.now in
    let value : to_z w32 (of_z w32 c.args.a) ≡ c.args.a = search rules in
    gives-world 0 (wanted (f.Sets c.args.name.now) c.args.a) f.Normal i _ seen given refl tt
    c.requires.idle refl c.assign.ensures.names refl refl
    (λ lines draws n past. let k = config_at (place_of i lines draws) n past in
    ap (λ a. (f.Normal, record k { world = assigned c.args.name.now a k.world })) (sym value)
    ∙ ap (λ w. (f.Normal, record k { world = w })) (sym c.assign.ensures.world))
