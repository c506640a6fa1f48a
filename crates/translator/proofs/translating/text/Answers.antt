use Rattle.std.proofs.Common.{◌≡◌, true, sym, subst, option_map}
use Rattle.inform_tree.specs.Formed.{is_well_formed}
use Rattle.inform_tree.specs.Programs.{program_of}
use Rattle.inform_texts.specs.Texts.{ProgramText}
use Rattle.translator.proofs.Translated.{faithful_text, if_ok_then}
use Rattle.translator.proofs.translating.text.Goals as goal

-- src/translating.rt
pub print-requires : goal.print-requires
print-requires c = subst (λ ds. is_well_formed ds ≡ true) (sym c.in_ok-program.ensures)
    (c.programs_are_formed.ensures c.args.style c.args.width c.args.db.now
    (option_map (λ s. s.now) c.args.from)
    (record { limits = c.requires.limits; none_wide = c.requires.none_wide }) c.requires.fits)

-- src/translating.rt
pub returns : goal.returns
returns c = if_ok_then (λ text. ProgramText text.items (program_of c.in_ok-program.program)) _
    c.print.result
    (λ text. faithful_text c.programs_are_faithful.ensures c.args.style c.args.width c.args.db.now
    (option_map (λ s. s.now) c.args.from)
    (record { limits = c.requires.limits; none_wide = c.requires.none_wide }) c.requires.fits
    (program_of c.in_ok-program.program) c.in_ok-program.ensures text.items)
    c.print.ensures.reads_back
