use Rattle.std.proofs.Common.{refl, append_assoc}
use Rattle.gql_schema_rules.proofs.s07_duplicate_values.check_type.Goals as goal

pub returns : goal.returns
returns c =
    rw (c.in_ok-add_repeated_names.ensures, c.in_ok-add_repeated_nodes.ensures, c.as_slice.ensures, c.as_slice-2.ensures)
    (simp append_assoc refl)
