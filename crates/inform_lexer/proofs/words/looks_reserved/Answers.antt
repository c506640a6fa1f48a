use Rattle.std.specs.Prelude.{nat_eq}
use Rattle.std.specs.List.{list_any}
use Rattle.std.proofs.Common.{ap, ◌∙◌, length}
use Rattle.inform_lexer.specs.Reserved.{reserved_sizes}
use Rattle.inform_lexer.proofs.Names.{said_looks}
use Rattle.inform_lexer.proofs.words.looks_reserved.Goals as goal

pub returns-in-len1-up : goal.returns-in-len1-up
returns-in-len1-up c =
    λ e. c.is_size_from.ensures
    ∙ ap (λ first. list_any (nat_eq (length c.args.word.now)) (reserved_sizes first)) c.to_ascii_lowercase.ensures.value
    ∙ said_looks c.args.word.now e
