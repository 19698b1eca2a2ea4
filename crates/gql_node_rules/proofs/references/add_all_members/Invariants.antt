use Rattle.std.proofs.Common.{◌≡◌, ◌++◌, map, take}
use Rattle.gql_faults.specs.Places.{named}
use Rattle.gql_types.specs.Parts.{members_of}
use Rattle.gql_node_rules.specs.Borrowed.{one}
use Rattle.gql_node_rules.specs.Nodes.{within}
use Rattle.gql_node_rules.proofs.references.add_all_members.Given as goal

abbrev pub invariant-loop-parts : goal.invariant-loop-parts
invariant-loop-parts l = map named l.found.items ≡ map named l.initial.found.items ++ within members_of (map one (take l.parts-index l.parts-items))
