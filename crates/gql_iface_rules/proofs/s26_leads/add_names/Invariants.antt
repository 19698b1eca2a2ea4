use Rattle.std.proofs.Common.{◌≡◌, ◌++◌, take}
use Rattle.gql_iface_rules.proofs.s26_leads.add_names.Given as goal

abbrev pub invariant-loop-name : goal.invariant-loop-name
invariant-loop-name l = l.found.items ≡ l.initial.found.items ++ take l.name-index l.names
