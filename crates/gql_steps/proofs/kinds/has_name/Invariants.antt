use Rattle.std.proofs.Common.{◌≡◌, drop, bytes_eq}
use Rattle.std.specs.List.{list_any}
use Rattle.gql_steps.proofs.kinds.has_name.Given as goal

abbrev pub invariant-loop-possible : goal.invariant-loop-possible
invariant-loop-possible l = list_any (bytes_eq l.name) l.names
    ≡ list_any (bytes_eq l.name) (drop l.possible-index l.names)
