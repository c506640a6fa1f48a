use Rattle.std.proofs.Common.{◌≡◌, ◌∙◌, Some, None, to_z, of_z, w32, rules, sym, ap, refl, arith}
use Rattle.inform_meaning.specs.declared.traps.Trap.TheVariants as kinds
use Rattle.inform_tree.specs.Values.{terms_of, factors_of}
use Rattle.inform_meaning.specs.Words.{word_negation, summed, multiplied, compares}
use Rattle.inform_meaning.specs.Frames as f
use Rattle.inform_meaning.specs.Meaning.{on_product, eval_product}
use Rattle.inform_interpreter.specs.Leading.{config_at}
use Rattle.inform_interpreter.specs.Interpreters.{program_of, calls_of, place_of}
use Rattle.inform_interpreter.specs.Doing.{wanted, meant}
use Rattle.inform_interpreter.proofs.Doing.{gives-here, traps}
use Rattle.inform_interpreter.proofs.Arms.{more-frames, does-meant}
use Rattle.inform_interpreter.proofs.interpreters.Interpreter.use_value.Goals as goal

pub returns-in-IndexOf : goal.returns-in-IndexOf
returns-in-IndexOf g c =
    let value : to_z w32 (of_z w32 c.args.a) ≡ c.args.a = search rules in
    rw (c.in-IndexOf.is, c.value_on.ensures) (more-frames (omega arith) (rw (value) at (c.fetch-value.ensures (g.C.Console.seen c.args.console.now) c.args.draws.now)))

pub returns-in-RangeOf : goal.returns-in-RangeOf
returns-in-RangeOf g c =
    let value : to_z w32 (of_z w32 c.args.a) ≡ c.args.a = search rules in
    rw (c.in-RangeOf.is, c.value_on-in-RangeOf.ensures) (rw (value) at (c.random_to-value.ensures (g.C.Console.seen c.args.console.now)))

pub returns-in-Negates : goal.returns-in-Negates
returns-in-Negates g c =
    let i = c.args.self.now in
    let value : to_z w32 (of_z w32 c.args.a) ≡ c.args.a = search rules in
    let whole : to_z w32 (of_z w32 c.neg.result) ≡ c.neg.result = search rules in
    let is : word_negation (program_of i).width c.args.a ≡ to_z w32 (of_z w32 c.neg.result) =
    sym (whole ∙ c.neg.ensures
    ∙ ap (λ w. word_negation w (to_z w32 (of_z w32 c.args.a))) c.width.ensures
    ∙ ap (word_negation (program_of i).width) value) in
    rw (c.in-Negates.is) (gives-here _ (wanted f.Negates c.args.a) _ i refl tt c.requires.idle
    (λ lines draws n past. ap (λ a. (f.Value a, config_at (place_of i lines draws) n past)) is) _ _)

pub returns-in-None : goal.returns-in-None
returns-in-None g c =
    let i = c.args.self.now in
    let op = c.in-ProductOnto.op in
    let xs = factors_of c.in-ProductOnto.xs.now in
    let value : to_z w32 (of_z w32 c.args.a) ≡ c.args.a = search rules in
    let known : to_z w32 (of_z w32 c.in-ProductOnto.b) ≡ c.in-ProductOnto.b = search rules in
    let is : multiplied (program_of i).width op c.in-ProductOnto.b c.args.a ≡ None =
    ap (λ b. multiplied (program_of i).width op b c.args.a) (sym known)
    ∙ ap (multiplied (program_of i).width op (to_z w32 (of_z w32 c.in-ProductOnto.b))) (sym value)
    ∙ ap (λ w. multiplied w op (to_z w32 (of_z w32 c.in-ProductOnto.b)) (to_z w32 (of_z w32 c.args.a))) (sym c.width-in-ProductOnto.ensures)
    ∙ sym c.in-None.ensures in
    rw (c.in-ProductOnto.is, c.left.ensures)
    (traps _ (wanted (f.ProductOnto op c.in-ProductOnto.b xs) c.args.a) kinds.Division c.trap-exit.result i c.trap-exit.new.self
    c.trap-exit.ensures.exit c.trap-exit.ensures.trapped c.requires.idle
    (λ lines draws n past. ap (λ o. on_product o (λ v. eval_product (program_of i) (calls_of i) v xs) (config_at (place_of i lines draws) n past)) is) _ _)

pub returns-in-RightOf : goal.returns-in-RightOf
returns-in-RightOf g c =
    let i = c.args.self.now in
    let value : to_z w32 (of_z w32 c.args.a) ≡ c.args.a = search rules in
    let left : to_z w32 (of_z w32 c.in-RightOf.b) ≡ c.in-RightOf.b = search rules in
    let is : compares c.in-RightOf.relation c.in-RightOf.b c.args.a ≡ c.compares.result =
    sym (c.compares.ensures
    ∙ ap (λ b. compares c.in-RightOf.relation b (to_z w32 (of_z w32 c.args.a))) left
    ∙ ap (compares c.in-RightOf.relation c.in-RightOf.b) value) in
    rw (c.in-RightOf.is) (gives-here _ (wanted (f.RightOf c.in-RightOf.relation c.in-RightOf.b) c.args.a) _ i refl tt c.requires.idle
    (λ lines draws n past. ap (λ b. (f.Truth b, config_at (place_of i lines draws) n past)) is) _ _)

pub returns-in-IsNonzero : goal.returns-in-IsNonzero
returns-in-IsNonzero g c =
    rw (c.in-IsNonzero.is) (gives-here _ (wanted f.IsNonzero c.args.a) _ c.args.self.now refl tt c.requires.idle
    (λ lines draws n past. search rules) _ _)

pub returns-in-Sets : goal.returns-in-Sets
returns-in-Sets g c =
    let value : to_z w32 (of_z w32 c.args.a) ≡ c.args.a = search rules in
    rw (c.in-Sets.is) (more-frames (omega arith) (rw (value) at (c.assign.ensures (g.C.Console.seen c.args.console.now) c.args.draws.now)))

pub returns-in-Stores : goal.returns-in-Stores
returns-in-Stores g c =
    let value : to_z w32 (of_z w32 c.args.a) ≡ c.args.a = search rules in
    let index : to_z w32 (of_z w32 c.in-Stores.index) ≡ c.in-Stores.index = search rules in
    rw (c.in-Stores.is, c.normal_on-in-Stores.ensures) (more-frames (omega arith) (rw (value, index) at (c.store-done.ensures (g.C.Console.seen c.args.console.now) c.args.draws.now)))

pub returns-in-Forgets : goal.returns-in-Forgets
returns-in-Forgets g c =
    rw (c.in-Forgets.is) (gives-here _ (wanted f.Forgets c.args.a) f.Normal c.args.self.now refl tt c.requires.idle
    (λ lines draws n past. refl) _ _)

pub returns-in-Gives : goal.returns-in-Gives
returns-in-Gives g c =
    let i = c.args.self.now in
    let value : to_z w32 (of_z w32 c.args.a) ≡ c.args.a = search rules in
    rw (c.in-Gives.is) (gives-here _ (wanted f.Gives c.args.a) _ i refl tt c.requires.idle
    (λ lines draws n past. ap (λ a. (f.Returns a, config_at (place_of i lines draws) n past)) (sym value)) _ _)

pub returns-in-SumFrom : goal.returns-in-SumFrom
returns-in-SumFrom g c =
    let value : to_z w32 (of_z w32 c.args.a) ≡ c.args.a = search rules in
    rw (c.in-SumFrom.is, c.value_on-in-SumFrom.ensures) (rw (value) at c.sum_from-value.ensures)

pub returns-in-ProductFrom : goal.returns-in-ProductFrom
returns-in-ProductFrom g c =
    let value : to_z w32 (of_z w32 c.args.a) ≡ c.args.a = search rules in
    rw (c.in-ProductFrom.is, c.value_on-in-ProductFrom.ensures) (rw (value) at c.product_from-value.ensures)

pub returns-in-LeftOf : goal.returns-in-LeftOf
returns-in-LeftOf g c =
    let value : to_z w32 (of_z w32 c.args.a) ≡ c.args.a = search rules in
    rw (c.in-LeftOf.is, c.truth_on.ensures) (rw (value) at c.right_of-truth.ensures)

pub returns-in-PlaceOf : goal.returns-in-PlaceOf
returns-in-PlaceOf g c =
    let value : to_z w32 (of_z w32 c.args.a) ≡ c.args.a = search rules in
    rw (c.in-PlaceOf.is, c.normal_on.ensures) (rw (value) at c.store_at-done.ensures)

pub returns-in-Picks : goal.returns-in-Picks
returns-in-Picks g c =
    let value : to_z w32 (of_z w32 c.args.a) ≡ c.args.a = search rules in
    rw (c.in-Picks.is, c.normal_on-in-Picks.ensures) (rw (value) at c.pick-done.ensures)

pub returns-in-SaysNumber : goal.returns-in-SaysNumber
returns-in-SaysNumber g c =
    let value : to_z w32 (of_z w32 c.args.a) ≡ c.args.a = search rules in
    rw (c.in-SaysNumber.is, c.normal_on-in-SaysNumber.ensures) (rw (value) at c.print_number-done.ensures)

pub returns-in-SaysChar : goal.returns-in-SaysChar
returns-in-SaysChar g c =
    let value : to_z w32 (of_z w32 c.args.a) ≡ c.args.a = search rules in
    rw (c.in-SaysChar.is, c.normal_on-in-SaysChar.ensures) (rw (value) at c.print_char-done.ensures)

pub returns-in-SumOnto : goal.returns-in-SumOnto
returns-in-SumOnto g c =
    let i = c.args.self.now in
    let op = c.in-SumOnto.op in
    let xs = terms_of c.in-SumOnto.xs.now in
    let value : to_z w32 (of_z w32 c.args.a) ≡ c.args.a = search rules in
    let known : to_z w32 (of_z w32 c.in-SumOnto.b) ≡ c.in-SumOnto.b = search rules in
    let whole : to_z w32 (of_z w32 c.summed-sum.result) ≡ c.summed-sum.result = search rules in
    let is : summed (program_of i).width op c.in-SumOnto.b c.args.a ≡ to_z w32 (of_z w32 c.summed-sum.result) =
    sym (whole ∙ c.summed-sum.ensures
    ∙ ap (λ w. summed w op (to_z w32 (of_z w32 c.in-SumOnto.b)) (to_z w32 (of_z w32 c.args.a))) c.width-in-SumOnto.ensures
    ∙ ap (λ b. summed (program_of i).width op b (to_z w32 (of_z w32 c.args.a))) known
    ∙ ap (summed (program_of i).width op c.in-SumOnto.b) value) in
    rw (c.in-SumOnto.is, c.value_on-in-SumOnto.ensures)
    (does-meant (wanted (f.SumOnto op c.in-SumOnto.b xs) c.args.a) (wanted (f.SumFrom xs) (to_z w32 (of_z w32 c.summed-sum.result)))
    (ap (λ v. meant (wanted (f.SumFrom xs) v) i) is) c.sum_from-value-in-SumOnto.ensures)

pub returns-in-Some : goal.returns-in-Some
returns-in-Some g c =
    let i = c.args.self.now in
    let op = c.in-ProductOnto.op in
    let xs = factors_of c.in-ProductOnto.xs.now in
    let value : to_z w32 (of_z w32 c.args.a) ≡ c.args.a = search rules in
    let known : to_z w32 (of_z w32 c.in-ProductOnto.b) ≡ c.in-ProductOnto.b = search rules in
    let whole : to_z w32 (of_z w32 c.in-Some.product) ≡ c.in-Some.product = search rules in
    let is : multiplied (program_of i).width op c.in-ProductOnto.b c.args.a ≡ Some (to_z w32 (of_z w32 c.in-Some.product)) =
    ap (λ b. multiplied (program_of i).width op b c.args.a) (sym known)
    ∙ ap (multiplied (program_of i).width op (to_z w32 (of_z w32 c.in-ProductOnto.b))) (sym value)
    ∙ ap (λ w. multiplied w op (to_z w32 (of_z w32 c.in-ProductOnto.b)) (to_z w32 (of_z w32 c.args.a))) (sym c.width-in-ProductOnto.ensures)
    ∙ sym c.in-Some.ensures ∙ ap Some (sym whole) in
    rw (c.in-ProductOnto.is, c.value_on-in-Some.ensures)
    (does-meant (wanted (f.ProductOnto op c.in-ProductOnto.b xs) c.args.a) (wanted (f.ProductFrom xs) (to_z w32 (of_z w32 c.in-Some.product)))
    (ap (λ o. on_product o (λ v. eval_product (program_of i) (calls_of i) v xs)) is) c.product_from-value-in-Some.ensures)
