use Rattle.std.proofs.Common.{refl, append_assoc}
use Rattle.gql_node_rules.proofs.defined_names.add_parts.Goals as goal

pub returns : goal.returns
returns c = rw (c.in_ok-add_names-4.ensures, c.in_ok-add_names-3.ensures, c.in_ok-add_names-2.ensures, c.in_ok-add_names.ensures, c.as_slice.ensures.value, c.as_slice-2.ensures.value, c.as_slice-3.ensures.value, c.as_slice-4.ensures.value) (simp append_assoc refl)
