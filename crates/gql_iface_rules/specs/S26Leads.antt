-- Helper definitions for private contracts: what directives lead to, and types that lead nowhere.
use Rattle.std.specs.Prelude.{◌≡◌, ℕ, List, [], false, is_some, map, flat_map, Contains}
use Rattle.gql_cycles.specs.Names.{Steps}
use Rattle.gql_faults.specs.Directives.{first_directives}
use Rattle.gql_iface_rules.specs.S26DirectiveCycles.{directive_row, from_type, without_sign}
use Rattle.gql_types.specs.Possible.{name_of}
use Rattle.gql_types.specs.declared.schema.Schema.{Schema}
use Rattle.gql_types.specs.declared.schema_type.SchemaType.{SchemaType}

-- the names to which the directives lead
abbrev pub directive_leads : Schema → List (List ℕ)
directive_leads s =
    flat_map (λ (r : Steps). r.leads) (map directive_row (first_directives s.directives))

-- the type has no name with `@`, and it leads nowhere if it has one of these names
pub record LeadsNowhere (names : List (List ℕ)) (t : SchemaType) : Type 0 where
  pub unsigned : is_some (without_sign (name_of t)) ≡ false
  pub ends : Contains names (name_of t) → from_type t ≡ []
