-- What a program shortens to has no redex.
use Rattle.std.proofs.Common.{◌≡◌, ◌∙◌, true, List, refl, sym}
use Rattle.inform_tree.specs.declared.widths.Width.{Width}
use Rattle.inform_tree.specs.Statements as s
use Rattle.inform_tree.specs.Statements.{Statement, Statements, Cases, Default}
use Rattle.inform_tree.specs.Programs.{DirectiveTree}
use Rattle.inform_simplify.specs.Redexes.{IsReduced, AreReduced, CasesReduced, DefaultReduced, DirectiveReduced, HasNoRedex}
use Rattle.inform_simplify.specs.Simplifying.{is_leaf, Shortens, nothing, each, cut, dropped, Becomes, leaf, in_block, if_true, if_false, if_either, if_open, in_while, in_do, in_for, in_switch, CasesShorten, no_cases, each_case, DefaultShortens, no_default, some_default, DirectiveShortens, constant, global, array, routine, ProgramShortens, no_directives, each_directive}
use Rattle.inform_simplify.specs.Laws.{ShortenedHasNoRedex}
use Rattle.inform_simplify.proofs.Plain.{no}
use Rattle.inform_simplify.proofs.Leaves.{leaving-leaf}

module _ (width : Width) where
  -- a statement in which no list stands has no redex
  leaf-reduced : (x : Statement) → is_leaf x ≡ true → IsReduced width x
  leaf-reduced s.Empty is = tt
  leaf-reduced (s.Assign x) is = tt
  leaf-reduced (s.Call name xs) is = tt
  leaf-reduced s.Break is = tt
  leaf-reduced s.Continue is = tt
  leaf-reduced s.Quit is = tt
  leaf-reduced s.Rtrue is = tt
  leaf-reduced s.Rfalse is = tt
  leaf-reduced (s.Return x) is = tt
  leaf-reduced s.NewLine is = tt
  leaf-reduced (s.Print xs) is = tt
  leaf-reduced (s.Read line words) is = tt
  leaf-reduced (s.Block body) is = absurd (no is)
  leaf-reduced (s.If x body other) is = absurd (no is)
  leaf-reduced (s.While x body) is = absurd (no is)
  leaf-reduced (s.Do body x) is = absurd (no is)
  leaf-reduced (s.For first x change body) is = absurd (no is)
  leaf-reduced (s.Switch x xs rest) is = absurd (no is)

  -- what is left stands in the premises of each case
  mutual
    shortens-reduced : {xs xs' : Statements} → Shortens width xs xs' → AreReduced width xs'
    shortens-reduced nothing = tt
    shortens-reduced (each x x' xs xs' goes_on h k) =
        (becomes-reduced h, λ leaves. absurd (no (sym goes_on ∙ leaves)), shortens-reduced k)
    shortens-reduced (cut x xs is) = (leaf-reduced x (leaving-leaf x is), λ leaves. refl, tt)
    shortens-reduced (dropped x body xs xs' is k) = shortens-reduced k

    becomes-reduced : {x x' : Statement} → Becomes width x x' → IsReduced width x'
    becomes-reduced (leaf x is) = leaf-reduced x is
    becomes-reduced (in_block body body' h) = shortens-reduced h
    becomes-reduced (if_true x body other body' is h) = shortens-reduced h
    becomes-reduced (if_false x body other other' is h) = shortens-reduced h
    becomes-reduced (if_either x body other both is h k) = shortens-reduced h
    becomes-reduced (if_open x body other body' other' unknown h k) =
        (unknown, shortens-reduced h, shortens-reduced k)
    becomes-reduced (in_while x body body' entered h) = (entered, shortens-reduced h)
    becomes-reduced (in_do body body' x h) = shortens-reduced h
    becomes-reduced (in_for first x change body body' h) = shortens-reduced h
    becomes-reduced (in_switch x xs xs' rest rest' h k) = (cases-reduced h, default-reduced k)

    cases-reduced : {xs xs' : Cases} → CasesShorten width xs xs' → CasesReduced width xs'
    cases-reduced no_cases = tt
    cases-reduced (each_case choices body body' xs xs' h k) =
        (shortens-reduced h, cases-reduced k)

    default-reduced : {x x' : Default} → DefaultShortens width x x' → DefaultReduced width x'
    default-reduced no_default = tt
    default-reduced (some_default body body' h) = shortens-reduced h

  directive-reduced : {x x' : DirectiveTree} → DirectiveShortens width x x'
      → DirectiveReduced width x'
  directive-reduced (constant name value) = tt
  directive-reduced (global name value) = tt
  directive-reduced (array name words entries) = tt
  directive-reduced (routine r body h) = shortens-reduced h

  program-reduced : {xs xs' : List DirectiveTree} → ProgramShortens width xs xs'
      → HasNoRedex width xs'
  program-reduced no_directives = tt
  program-reduced (each_directive x x' xs xs' h k) = (directive-reduced h, program-reduced k)

pub shortened_has_no_redex : ShortenedHasNoRedex
shortened_has_no_redex width old new h = program-reduced width h
