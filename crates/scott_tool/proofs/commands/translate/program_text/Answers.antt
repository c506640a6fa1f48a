use Rattle.std.proofs.Common.{None, Result, sym, ap, subst}
use Rattle.scott_tool.specs.Steps.{◌>>=◌}
use Rattle.scott_tool.specs.Refusal.{Unfit}
use Rattle.scott_tool.specs.Translate.{translatable}
use Rattle.scott_tool.specs.Work.{Task}
use Rattle.scott_tool.specs.Obeying.{MakesFile}
use Rattle.scott_tool.proofs.Translating.{translation_of, made_translation}
use Rattle.scott_tool.proofs.commands.translate.program_text.Goals as goal

pub returns : goal.returns
returns c = λ bytes has.
    let game = c.args.asked.game.now in
    let program = c.args.asked.program.now in
    let style = c.args.asked.style in
    let width = c.args.asked.width in
    let db = c.in_ok-db.db.now in
    subst (λ (r : Result Task Unfit). MakesFile program c.translated.result r)
    (sym (ap (λ r. r >>= λ d. translatable game width d >>= λ _. translation_of program style width
    d None) (c.in_ok-db.ensures bytes has)))
    (made_translation program style width db None (translatable game width db) c.translated.result
    c.translated.ensures.given c.translated.ensures.faithful)
