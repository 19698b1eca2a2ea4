use Rattle.std.proofs.Common.{◌≡◌, take}
use Rattle.gql_node_rules.proofs.schema_change.has_same_directives.Given as goal

abbrev pub invariant-loop-i : goal.invariant-loop-i
invariant-loop-i l = take l.i l.directives ≡ take l.i l.others
