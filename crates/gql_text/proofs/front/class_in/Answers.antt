use Rattle.std.proofs.Common.{arith}
use Rattle.gql_text.specs.Tables.{name_class}
use Rattle.gql_text.proofs.Entries.{entry}
use Rattle.gql_text.proofs.front.class_in.Goals as goal

pub returns : goal.returns
returns c = rw c.from.ensures (entry name_class c.args.table.now c.args.byte c.requires.names (omega arith))
