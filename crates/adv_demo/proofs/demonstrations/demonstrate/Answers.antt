use Rattle.std.proofs.Common.{◌≡◌, ◌∙◌, List, ◌++◌, ℕ, sym, ap}
use Rattle.inform_names.specs.Views.{directives_of}
use Rattle.adv_draws.specs.Seeded.{seeded_draws}
use Rattle.adv_draws.specs.Supply.{Supply}
use Rattle.inform_reader.specs.Reading.{program_in}
use Rattle.inform_tree.specs.declared.widths.Width.TheVariants.{W16}
use Rattle.adv_demo.specs.Texts.{size_line}
use Rattle.adv_demo.proofs.Whole.{is_read, joined, whole}
use Rattle.adv_demo.proofs.demonstrations.demonstrate.Goals as goal

pub program_of-requires : goal.program_of-requires
program_of-requires c =
    is_read c.program_in.ensures c.args.db.now c.in_ok-out.out.items c.deref.result.now
    c.in_ok-out.ensures c.deref.ensures.value

pub returns : goal.returns
returns c =
    let n = c.args.n in
    let db = c.args.db.now in
    let lines = c.args.lines.now in
    let draws = seeded_draws n in
    let out = c.in_ok-out.out.items in
    let text = c.put_run_line.new.out.items in
    let program = c.in_ok-program.program in
    let first : c.seeded.result.left ≡ draws =
    ap (λ (d : Supply). d.left) c.seeded.ensures.value ∙ ap seeded_draws c.from-seed.ensures in
    let second : c.seeded-2.result.left ≡ draws =
    ap (λ (d : Supply). d.left) c.seeded-2.ensures.value ∙ ap seeded_draws c.from-seed.ensures in
    let lines_are = joined n db lines draws out text c.put_size_line.new.out.items
    c.put_play_line.new.out.items c.in_ok-played.played c.in_ok-ran.ran c.in_ok-ran.used
    (c.in_ok-put_size_line.ensures ∙ ap (λ (t : List ℕ). t ++ size_line n db) c.new-text.ensures.items)
    c.in_ok-put_play_line.ensures c.in_ok-put_run_line.ensures in
    record {
      out = out;
      faithful = c.in_ok-out.ensures;
      text_is =
          whole n db lines draws out text c.in_ok-played.played c.in_ok-ran.ran c.in_ok-ran.used
          c.enough_steps-steps.result program.width (directives_of program) c.seeded.result.left
          c.seeded-2.result.left lines_are c.in_ok-played.ensures c.in_ok-ran.ensures.ended
          c.in_ok-ran.ensures.used
          (ap (program_in W16) (sym c.deref.ensures.value) ∙ c.in_ok-program.ensures.found)
          c.in_ok-program.ensures.width c.enough_steps-steps.ensures
          first second;
    }
