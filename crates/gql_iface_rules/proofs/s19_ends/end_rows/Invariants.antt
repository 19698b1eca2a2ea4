use Rattle.std.proofs.Common.{map, take}
use Rattle.gql_iface_rules.specs.S19Ends.{Rows}
use Rattle.gql_iface_rules.proofs.s19_ends.end_rows.Given as goal

abbrev pub invariant-loop-end : goal.invariant-loop-end
invariant-loop-end l = Rows l.count (take l.end-index l.ends) (map (λ v. v.items) l.rows.items)
