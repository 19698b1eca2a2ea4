-- Helper definitions for private contracts: what is found on applied directives, by their
-- definitions.
use Rattle.std.specs.Prelude.{◌≡◌, ◌⊎◌, ◌++◌, ◌||◌, ℕ, List, [], Bool, true, false, bytes_eq, flat_map}
use Rattle.std.specs.HashSet.{contains}
use Rattle.std.specs.List.{list_any}
use Rattle.gql_ast.specs.declared.fault.Fault.{Fault}
use Rattle.gql_types.specs.declared.schema.Schema.{Schema}
use Rattle.gql_node_rules.specs.Applied.{Annotations}
use Rattle.gql_node_rules.specs.Resolved.{Resolution, TypeReference, Roles, undefined}
use Rattle.gql_node_rules.specs.S30BadLocations as s30
use Rattle.gql_node_rules.specs.S31RepeatedDirectives as s31
use Rattle.gql_node_rules.specs.S32BadArguments as s32
use Rattle.gql_node_rules.specs.S33BadArgumentValues as s33
use Rattle.gql_node_rules.specs.SchemaChanges.{is_among}
use Rattle.gql_node_rules.specs.ValueTypes.{is_input_object, types_by}
use Rattle.gql_node_rules.specs.declared.directive_use.DirectiveUse.{DirectiveUse}
use Rattle.gql_node_rules.specs.declared.schema_change.SchemaChange.{SchemaChange}

-- the faults of these nodes, and of the directives on them
abbrev pub faults_of_all : Schema → List Annotations → List Resolution → List Fault
faults_of_all s nodes all = flat_map undefined all
    ++ (flat_map (λ (r : Resolution). s30.fault_by r.known r.application) all
    ++ (flat_map (s31.faults_alone s) nodes
    ++ (flat_map (λ (r : Resolution). s32.faults_by r.known r.application) all
    ++ flat_map (λ (r : Resolution). s33.faults_by s r.known r.application) all)))

-- the names of the types of the values that these directives give
abbrev pub types_of_all : List Resolution → List (List ℕ)
types_of_all all = flat_map (λ (r : Resolution). types_by r.known r.application) all

-- what these directives ask of the schema
pub record IsUseOf (s : Schema) (all : List Resolution) (u : DirectiveUse) : Type 0 where
  pub none : u.has_directives ≡ false → all ≡ []
  pub values : (q : List ℕ) → contains bytes_eq u.values q
      ≡ list_any (bytes_eq q) (types_of_all all)
  pub flat : u.has_input_objects ≡ list_any (is_input_object s) (types_of_all all)

-- whether a name is among those of these references
abbrev pub is_name_of : List TypeReference → List ℕ → Bool
is_name_of references q = list_any (λ (r : TypeReference). bytes_eq q r.name.node.text) references

-- whether a name is among those of all references
abbrev pub is_referred : Roles → List ℕ → Bool
is_referred r q = is_name_of r.inputs q || (is_name_of r.outputs q || (is_name_of r.interfaces q
    || (is_name_of r.members q || is_name_of r.roots q)))

-- values fit their types after a change as before: Float is a type as before, and no input type
-- changed, or those of the values did not, and none of them is an input object
abbrev pub FitsAsBefore : SchemaChange → DirectiveUse → Type 0
FitsAsBefore c u = (c.floats ≡ false) × ((c.inputs ≡ []) ⊎ ((u.has_input_objects ≡ false)
    × ((q : List ℕ) → contains bytes_eq u.values q ≡ true → is_among c.inputs q ≡ false)))
