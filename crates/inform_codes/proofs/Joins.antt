-- Codes one after another.
use Rattle.std.proofs.Common.{◌∙◌, [], ◌∷◌, refl, sym, ap}
use Rattle.inform_codes.specs.Parts.{none, nearest_block}
use Rattle.inform_codes.specs.Codes.{taken}
use Rattle.inform_codes.specs.Grown.{parts_of, body_of, before_of}
use Rattle.inform_codes.specs.Laws.{CodesJoin, BodiesJoin}

pub codes_join : CodesJoin
codes_join names given [] ys after = refl
codes_join names given (x ∷ xs) ys after =
    ap (taken names given x) (codes_join names given xs ys after)

pub bodies_join : BodiesJoin
unfolding body_of before_of
bodies_join names given xs ys is =
    let grown = ap (parts_of names given xs) (sym is) in
    ap nearest_block (grown ∙ sym (codes_join names given xs ys none))
