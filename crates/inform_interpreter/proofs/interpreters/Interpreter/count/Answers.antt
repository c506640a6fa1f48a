use Rattle.std.proofs.Common.{◌≡◌, ◌∙◌, to_z, of_z, w32, rules, sym, ap, refl}
use Rattle.inform_meaning.specs.Frames as f
use Rattle.inform_meaning.specs.Words.{word_sum}
use Rattle.inform_meaning.specs.Worlds.{assigned, value_of}
use Rattle.inform_worlds.specs.Views.{world_of}
use Rattle.inform_interpreter.specs.Leading.{config_at}
use Rattle.inform_interpreter.specs.Interpreters.{place_of, program_of}
use Rattle.inform_interpreter.specs.Parts.{counted}
use Rattle.inform_interpreter.proofs.Doing.{gives-world}
use Rattle.inform_interpreter.proofs.interpreters.Interpreter.count.Goals as goal

pub returns : goal.returns
returns c = λ seen given.
    let i = c.args.self.now in
    let by : to_z w32 (of_z w32 c.args.by) ≡ c.args.by = search rules in
    let value : to_z w32 (of_z w32 c.value.result) ≡ c.value.result = search rules in
    let sum : to_z w32 (of_z w32 c.add-sum.result) ≡ c.add-sum.result = search rules in
    let is : c.add-sum.result ≡ word_sum (program_of i).width (value_of (program_of i) c.args.name.now (world_of i.world)) c.args.by =
    c.add-sum.ensures ∙ ap (λ w. word_sum w (to_z w32 (of_z w32 c.value.result)) (to_z w32 (of_z w32 c.args.by))) c.width.ensures
    ∙ ap (λ a. word_sum (program_of i).width a (to_z w32 (of_z w32 c.args.by))) (value ∙ c.value.ensures)
    ∙ ap (word_sum (program_of i).width (value_of (program_of i) c.args.name.now (world_of i.world))) by in
    gives-world 0 (counted c.args.name.now c.args.by) f.Normal i _ seen given refl tt
    c.requires.idle refl c.assign.ensures.names refl refl
    (λ lines draws n past. let k = config_at (place_of i lines draws) n past in
    ap (λ a. (f.Normal, record k { world = assigned c.args.name.now a k.world })) (sym (sum ∙ is))
    ∙ ap (λ w. (f.Normal, record k { world = w })) (sym c.assign.ensures.world))
