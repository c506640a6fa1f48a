use Rattle.std.proofs.Common.{ℕ, ◌≤◌, ◌<◌, List, [], length, zip, get_or, sym, ap, ◌∙◌, ◌++◌, arith}
use Rattle.std.proofs.lemmas.List.{take_all}
use Rattle.std.proofs.lemmas.Slice.Zip.{length-zip, get_or-zip}
use Rattle.scott_types.specs.declared.parts.Action.{Action}
use Rattle.adv_decompiler.specs.Layout.{text_of}
use Rattle.adv_decompiler.specs.Lines.{action_line}
use Rattle.adv_decompiler.specs.Plain.{lines_of}
use Rattle.adv_decompiler.proofs.Texts.{step_lines}
use Rattle.adv_decompiler.proofs.actions.put_actions.Goals as goal

pub loop-k-preserved : goal.loop-k-preserved
loop-k-preserved c =
    let actions = c.args.actions.now in
    let comments = c.args.comments.now in
    let comment = c.index-comments-k.result in
    let none : Action = record { vocab = 0; conds = []; pairs = [] } in
    let first : Action = get_or actions c.loop-k.k none in
    let here : c.loop-k.k < length actions = c.loop-k-test.true in
    let here_too : c.loop-k.k < length comments = omega (arith, c.requires.commented) in
    let there : c.loop-k.k < length (zip actions comments) = omega (arith, length-zip actions comments) in
    step_lines (action_line c.args.sizes.now) (zip actions comments) c.loop-k.k c.loop-k.k (none, comment) (first, comment)
    c.args.out.now.items c.loop-k.out.items c.put_action.new.out.items there (λ i. c.loop-k.k)
    (ap (λ (text : List ℕ). (first, text)) c.index-comments-k.is ∙ sym (get_or-zip actions comments c.loop-k.k (none, comment) here here_too))
    c.loop-k.invariant c.in_ok-put_action.ensures

pub returns : goal.returns
returns c =
    let pairs = zip c.args.actions.now c.args.comments.now in
    let all : length pairs ≤ c.loop-k.k = omega (arith, length-zip c.args.actions.now c.args.comments.now) in
    c.loop-k.invariant
    ∙ ap (λ (xs : List (Action × List ℕ)). c.args.out.now.items ++ text_of (lines_of (action_line c.args.sizes.now) xs)) (take_all c.loop-k.k pairs all)
