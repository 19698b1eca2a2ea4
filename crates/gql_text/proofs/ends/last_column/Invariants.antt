use Rattle.std.proofs.Common.{◌≡◌, ◌+◌, ◌≤◌, take, length}
use Rattle.std.specs.Prelude.{reverse}
use Rattle.gql_text.specs.Place.{column_behind}
use Rattle.gql_text.proofs.ends.last_column.Given as goal

abbrev pub invariant-bytes : goal.invariant-bytes
invariant-bytes l = record {
  within : l.left ≤ length l.source;
  short : l.column + l.left ≤ 1 + length l.source;
  column : l.column + column_behind (reverse (take l.left l.source)) ≡ 1 + column_behind (reverse l.source);
}

abbrev pub decreases-bytes : goal.decreases-bytes
decreases-bytes l = l.left
