use Rattle.std.proofs.Common.{refl, append_assoc}
use Rattle.gql_schema_rules.proofs.s04_built_in_names.check.Goals as goal

pub returns : goal.returns
returns c =
    rw (c.in_ok-check_directives.ensures, c.in_ok-check_types.ensures, c.as_slice-2.ensures.value, c.as_slice-4.ensures.value)
    rw (c.in_ok-types.ensures, c.in_ok-directives.ensures, c.as_slice.ensures.value, c.as_slice-3.ensures.value)
    (simp append_assoc refl)
