use Rattle.std.proofs.Common.{refl, append_assoc}
use Rattle.gql_node_rules.proofs.s35_deprecated_required_inputs.check.Goals as goal

pub returns : goal.returns
returns c = rw (c.in_ok-check_inputs-2.ensures, c.in_ok-check_inputs.ensures, c.as_slice.ensures.value, c.as_slice-2.ensures.value) (simp append_assoc refl)
