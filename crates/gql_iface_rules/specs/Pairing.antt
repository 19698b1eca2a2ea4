-- Helper definitions for private contracts: the pairs of fields of a type and its interfaces, while
-- the names in its list are met one after the other.
use Rattle.std.specs.Prelude.{◌≡◌, ◌↔◌, ◌⊎◌, ℕ, List, Bool, flat_map, Contains}
use Rattle.gql_ast.specs.declared.fault.Fault.{Fault}
use Rattle.gql_ast.specs.declared.text.Name.{Name}
use Rattle.gql_built_in.specs.declared.sited.Sited.{Sited}
use Rattle.gql_types.specs.Covariance.{is_among}
use Rattle.gql_types.specs.declared.schema.Schema.{Schema}
use Rattle.gql_types.specs.declared.schema_type.SchemaType.{SchemaType}
use Rattle.gql_iface_rules.specs.Implementing.{FieldPair, implemented_by, implementations_of, pairs_of}
use Rattle.gql_iface_rules.specs.S13MissingArguments as s13
use Rattle.gql_iface_rules.specs.S14ExtraRequiredArguments as s14
use Rattle.gql_iface_rules.specs.S15IncompatibleFieldTypes as s15

-- the pairs of a type and the interface of a name in its list, if an interface has the name
abbrev pub pairs_by : Schema → SchemaType → Sited Name → List FieldPair
pairs_by s t n = flat_map pairs_of (implemented_by s t n)

-- these are the names that were met, and the pairs are those of the type and the interfaces of them
pub record IsPaired (s : Schema) (t : SchemaType) (names : List (Sited Name))
    (has : List ℕ → Bool) (pairs : List FieldPair) : Type 0 where
  pub met : (q : List ℕ) → has q ≡ is_among q names
  pub members : (p : FieldPair) → Contains pairs p ↔ Contains (flat_map (pairs_by s t) names) p

-- a fault by S13, S14 or S15 of these pairs
abbrev pub IsPairFault : Schema → List FieldPair → Fault → Type 0
IsPairFault s pairs f = Contains (flat_map s13.missing_arguments pairs) f
    ⊎ (Contains (flat_map s14.extra_required_arguments pairs) f
    ⊎ Contains (flat_map (s15.incompatible_field_type s) pairs) f)

-- a fault by S13, S14 or S15 of the pairs of one of these types
abbrev pub IsFaultOfTypes : Schema → List SchemaType → Fault → Type 0
IsFaultOfTypes s types f = (t : SchemaType) × Contains types t
    × IsPairFault s (flat_map pairs_of (implementations_of s t)) f
