use Rattle.std.proofs.Common.{ℕ, List, ◌∷◌, [], ◌++◌, ap, ◌∙◌}
use Rattle.scott_types.specs.Database.{database_of}
use Rattle.adv_decompiler.specs.declared.sizes.Sizes.{Sizes}
use Rattle.adv_decompiler.specs.Layout.{text_of}
use Rattle.adv_decompiler.specs.Plain.{chunks, plain}
use Rattle.adv_decompiler.proofs.decompiling.text.Goals as goal

pub returns : goal.returns
unfolding plain
returns c =
    let db = database_of c.args.parts.now in
    c.in_ok-push.ensures.items
    ∙ ap (λ (bytes : List ℕ). bytes ++ 10 ∷ []) c.in_ok-put_all.ensures
    ∙ ap (λ (bytes : List ℕ). (bytes ++ text_of (chunks c.of-sizes.result db)) ++ 10 ∷ []) c.new-out.ensures.items
    ∙ ap (λ (sizes : Sizes). text_of (chunks sizes db) ++ 10 ∷ []) c.of-sizes.ensures
