use Rattle.std.proofs.Common.{map, subst, ap, ◌∙◌}
use Rattle.gql_iface_rules.specs.S19Inputs.{object_value}
use Rattle.gql_iface_rules.specs.S19Ranges.{AreMissing}
use Rattle.gql_iface_rules.proofs.s19_ranges.default_ranges.Goals as goal

pub returns : goal.returns
returns c = subst (λ xs. AreMissing xs c.in_ok-ranges.ranges.items) (ap (map object_value) c.as_slice.ensures.value ∙ c.in_ok-all.ensures) c.in_ok-ranges.ensures
