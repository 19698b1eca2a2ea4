use Rattle.std.proofs.Common.{refl, append_assoc}
use Rattle.gql_node_rules.proofs.applied.add_parts.Goals as goal

pub returns : goal.returns
returns c = rw (c.in_ok-add_nodes-4.ensures, c.in_ok-add_nodes-3.ensures, c.in_ok-add_nodes-2.ensures, c.in_ok-add_nodes.ensures, c.as_slice.ensures.value, c.as_slice-2.ensures.value, c.as_slice-3.ensures.value, c.as_slice-4.ensures.value) (simp append_assoc refl)
