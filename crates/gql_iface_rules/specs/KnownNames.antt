-- The names that the rules on interfaces ask about, and whether these names have types. A rule that
-- needs the definition of a name reports nothing where no definition has the name, so that a name
-- that comes may bring a fault to a type that asks about it.
use Rattle.std.specs.Prelude.{◌≡◌, Bool, true, is_some, flat_map, Contains}
use Rattle.std.specs.List.{AllPass}
use Rattle.gql_ast.specs.declared.text.Name.{Name}
use Rattle.gql_built_in.specs.declared.sited.Sited.{Sited}
use Rattle.gql_types.specs.Covariance.{covariant}
use Rattle.gql_types.specs.Schemas.{kind_named}
use Rattle.gql_types.specs.Written.{written}
use Rattle.gql_types.specs.declared.schema.Schema.{Schema}
use Rattle.gql_types.specs.declared.schema_type.SchemaType.{SchemaType}
use Rattle.gql_iface_rules.specs.Implementing.{FieldPair, implementations_of, pairs_of}

-- whether a type has the name
abbrev pub is_known : Schema → Sited Name → Bool
is_known s n = is_some (kind_named s n.node.text)

-- whether it is known of a field if its type is covariant with that of the interface's field
abbrev pub is_answered : Schema → FieldPair → Bool
is_answered s p =
    is_some (covariant s (written p.own.node.of_type) (written p.expected.node.of_type))

-- of a type, the rules on interfaces ask about no name without a type
pub record AsksOfKnown (s : Schema) (t : SchemaType) : Type 0 where
  pub listed : AllPass (is_known s) t.interfaces
  pub pairs : (p : FieldPair) → Contains (flat_map pairs_of (implementations_of s t)) p
      → is_answered s p ≡ true
