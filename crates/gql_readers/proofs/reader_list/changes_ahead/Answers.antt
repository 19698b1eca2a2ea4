use Rattle.std.proofs.Common.{sym, arith}
use Rattle.std.proofs.lemmas.List.{drop_all}
use Rattle.gql_readers.proofs.Chunking.{ahead_first, ahead_none, none_first}
use Rattle.gql_readers.proofs.reader_list.changes_ahead.Goals as goal

pub returns-in-Some-clause-ahead : goal.returns-in-Some-clause-ahead
returns-in-Some-clause-ahead c = ahead_first c.in-Some.first.now _ _ _ c.requires (sym c.in-Some.ensures) c.changes_before.ensures.before c.changes_before.ensures.next

pub returns-in-None-clause-ahead : goal.returns-in-None-clause-ahead
returns-in-None-clause-ahead c = ahead_none _ _ _ (none_first _ (sym c.in-None.ensures)) (drop_all _ c.args.changed.now (omega arith))
