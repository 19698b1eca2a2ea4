use Rattle.std.proofs.Common.{arith}
use Rattle.gql_text.proofs.Lines.{indent_cut}
use Rattle.gql_text.proofs.block.cut.Goals as goal

pub range_from-requires : goal.range_from-requires
range_from-requires c = λ _. indent_cut c.args.line.now c.min.result c.utf8.line (omega (arith, c.indent_len.ensures.value, c.min.ensures))
