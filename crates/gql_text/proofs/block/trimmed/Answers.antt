use Rattle.gql_text.proofs.Lines.{trimmed_is}
use Rattle.gql_text.proofs.block.trimmed.Goals as goal

pub returns : goal.returns
returns c = trimmed_is c.args.lines.now c.leading_blank.result c.trailing_blank.result c.leading_blank.ensures.value c.trailing_blank.ensures.value c.trailing_blank.ensures.short
