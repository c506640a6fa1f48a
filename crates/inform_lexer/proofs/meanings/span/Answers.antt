use Rattle.inform_lexer.proofs.SpanBounds.{within_text}
use Rattle.inform_lexer.proofs.meanings.span.Goals as goal

pub returns : goal.returns
returns c =
    within_text c.args.bytes.now c.args.token.start c.args.token.end c.min-start.result c.min-end.result c.min-end.ensures c.min-start.ensures
