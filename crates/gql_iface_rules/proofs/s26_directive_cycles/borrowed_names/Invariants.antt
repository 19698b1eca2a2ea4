use Rattle.std.proofs.Common.{◌≡◌, map, take}
use Rattle.gql_iface_rules.proofs.s26_directive_cycles.borrowed_names.Given as goal

abbrev pub invariant-loop-name : goal.invariant-loop-name
invariant-loop-name l = map (λ n. n.now) l.found.items ≡ take l.name-index l.names
