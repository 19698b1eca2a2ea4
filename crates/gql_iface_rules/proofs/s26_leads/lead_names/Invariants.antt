use Rattle.std.proofs.Common.{◌≡◌, map, flat_map, take}
use Rattle.gql_iface_rules.specs.Borrowed.{steps}
use Rattle.gql_iface_rules.proofs.s26_leads.lead_names.Given as goal

abbrev pub invariant-loop-row : goal.invariant-loop-row
invariant-loop-row l = l.found.items ≡ flat_map (λ row. row.leads) (map steps (take l.row-index l.rows))
