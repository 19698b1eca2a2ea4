use Rattle.std.proofs.Common.{refl, append_assoc}
use Rattle.gql_node_rules.proofs.s36_misplaced_appends.check.Goals as goal

pub returns : goal.returns
returns c = rw (c.in_ok-check_extensions.ensures, c.in_ok-check_definitions.ensures, c.mutation_root-root.ensures, c.as_slice.ensures.value, c.as_slice-2.ensures.value) (simp append_assoc refl)
