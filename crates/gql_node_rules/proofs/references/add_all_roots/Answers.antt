use Rattle.std.proofs.Common.{refl, append_assoc}
use Rattle.gql_node_rules.proofs.references.add_all_roots.Goals as goal

pub returns : goal.returns
returns c = rw (c.in_ok-add_schema_extensions.ensures, c.in_ok-add_schemas.ensures, c.as_slice.ensures.value, c.as_slice-2.ensures.value) (simp append_assoc refl)
