-- Few directives, and few arguments, have no fault.
use Rattle.std.proofs.Common.{◌≡◌, ◌<◌, ◌++◌, ◌∷◌, List, [], arith, refl, length, flat_map, filter}
use Rattle.std.specs.Prelude.{Some}
use Rattle.std.proofs.lemmas.Grind.{common_steps}
use Rattle.gql_ast.specs.declared.type_system.DirectiveDefinition.{DirectiveDefinition}
use Rattle.gql_built_in.specs.declared.sited.Sited.{Sited}
use Rattle.gql_faults.specs.TypeNames.{is_required}
use Rattle.gql_types.specs.declared.schema.Schema.{Schema}
use Rattle.gql_types.specs.declared.schema_type.SchemaType.{SchemaType}
use Rattle.gql_node_rules.specs.Applied.{Annotations, Application, applied_at, type_and_extensions}
use Rattle.gql_node_rules.specs.S31RepeatedDirectives.{faults_in_group, faults_alone, faults_of_type}
use Rattle.gql_node_rules.specs.S32BadArguments.{faults_by}

-- fewer than two directives have no fault
pub few : (s : Schema) (group : List Application) → length group < 2 → faults_in_group s group ≡ []
few s [] within = refl
few s (a ∷ []) within = grind (arith, common_steps)
few s (a ∷ b ∷ group) within = absurd (omega arith)

-- nor has a node with fewer than two
pub few_alone : (s : Schema) (n : Annotations) → length n.directives < 2 → faults_alone s n ≡ []
few_alone s n within = few s (flat_map applied_at (n ∷ [])) (grind (arith, common_steps, within))

-- nor has a type with fewer than two and no extension
pub few_on_type : (s : Schema) (t : SchemaType) → t.extensions ≡ []
    → length t.definition.node.directives < 2 → faults_of_type s t ≡ []
few_on_type s t none within =
    few s (flat_map applied_at (type_and_extensions t)) (rw none (grind (arith, common_steps, within)))

-- a directive without arguments, of which none is required, has no fault
pub none_given : (d : Sited DirectiveDefinition) (a : Application) → a.directive.arguments ≡ []
    → filter is_required d.node.arguments ≡ [] → faults_by (Some d) a ≡ []
none_given d a given required = rw (given, required) refl

-- nothing was added
pub none_added : {X : Type 0} (base fs : List X) → fs ≡ [] → base ≡ base ++ fs
none_added base fs none = rw none grind (arith, common_steps)
