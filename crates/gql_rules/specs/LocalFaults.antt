-- The faults of an operation or a fragment by the rules that check one definition (GraphQL 5).
use Rattle.std.specs.Prelude.{◌≡◌, Contains, ℕ, List, [], ◌∷◌, ◌++◌, flat_map, Option, Some, None}
use Rattle.std.specs.Option.{option_map}
use Rattle.gql_text.specs.declared.place.Place.{Place}
use Rattle.gql_ast.specs.Trees as trees
use Rattle.gql_ast.specs.declared.definition.Definition.{Definition}
use Rattle.gql_ast.specs.declared.definition.Tree.{Tree}
use Rattle.gql_ast.specs.declared.definition.Tree.TheVariants as tree
use Rattle.gql_ast.specs.declared.executable.Field.{Field}
use Rattle.gql_ast.specs.declared.executable.Fragment.{Fragment}
use Rattle.gql_ast.specs.declared.executable.InlineFragment.{InlineFragment}
use Rattle.gql_ast.specs.declared.executable.Operation.{Operation}
use Rattle.gql_ast.specs.declared.executable.Selection.{Selection}
use Rattle.gql_ast.specs.declared.executable.VariableDefinition.{VariableDefinition}
use Rattle.gql_ast.specs.declared.fault.Fault.{Fault}
use Rattle.gql_ast.specs.declared.fault.FilePlace.{FilePlace}
use Rattle.gql_ast.specs.declared.fault.FileSide.TheVariants.{Documents}
use Rattle.gql_ast.specs.declared.literal.Argument.{Argument}
use Rattle.gql_ast.specs.declared.literal.Directive.{Directive}
use Rattle.gql_ast.specs.declared.text.Name.{Name}
use Rattle.gql_ast.specs.declared.type_system.DirectiveLocation.{DirectiveLocation}
use Rattle.gql_ast.specs.declared.type_system.DirectiveLocation.TheVariants as location
use Rattle.gql_types.specs.declared.kind.TypeKind.{TypeKind}
use Rattle.gql_facts.specs.Nodes.{Node, FieldNode, field, spread, inline, field_node, inline_node, nodes, nodes_in, parent_below, parent_within}
use Rattle.gql_facts.specs.OwnReads.{operation_nodes, fragment_nodes}
use Rattle.gql_facts.specs.Worlds.{Facts}
use Rattle.gql_facts.specs.declared.fact.DirectiveFact.{DirectiveFact}
use Rattle.gql_facts.specs.declared.fact.FieldFact.{FieldFact}
use Rattle.gql_facts.specs.declared.fact.InputFact.{InputFact}
use Rattle.gql_rules.specs.Answers.{field_of, kind_of_field, directive_of}
use Rattle.gql_rules.specs.Locations.{location_of}
use Rattle.gql_rules.specs.Parts.{start_of}
use Rattle.gql_rules.specs.P03Subscriptions as p03
use Rattle.gql_rules.specs.P05MutationsWithoutARoot as p05
use Rattle.gql_rules.specs.V04FieldSelections as v04
use Rattle.gql_rules.specs.V07LeafFieldSelections as v07
use Rattle.gql_rules.specs.V08ArgumentNames as v08
use Rattle.gql_rules.specs.V09ArgumentUniqueness as v09
use Rattle.gql_rules.specs.V10RequiredArguments as v10
use Rattle.gql_rules.specs.V12FragmentSpreadTypeExistence as v12
use Rattle.gql_rules.specs.V13FragmentsOnCompositeTypes as v13
use Rattle.gql_rules.specs.V15FragmentSpreadTargetDefined as v15
use Rattle.gql_rules.specs.V16FragmentSpreadsMustNotFormCycles as v16
use Rattle.gql_rules.specs.V17FragmentSpreadIsPossible as v17
use Rattle.gql_rules.specs.V18ToV21Values as values
use Rattle.gql_rules.specs.V22DirectivesAreDefined as v22
use Rattle.gql_rules.specs.V23DirectivesInValidLocations as v23
use Rattle.gql_rules.specs.V24DirectivesUniquePerLocation as v24

-- the faults of the arguments `given` to a field or a directive at this place; it defines the
-- arguments `known`, if it is known
abbrev pub argument_faults : FilePlace → Place → Option (List InputFact) → List Argument
    → List Fault
argument_faults owner at known given =
    v08.faults owner known given ++ (v09.faults owner given ++ v10.faults owner at known given)

-- the arguments that a field defines, if it is known
abbrev pub of_field : Option FieldFact → Option (List InputFact)
of_field = option_map (λ (f : FieldFact). f.arguments)

-- the arguments that a directive defines, if it is known
abbrev pub of_directive : Option DirectiveFact → Option (List InputFact)
of_directive = option_map (λ (d : DirectiveFact). d.arguments)

-- the faults of one of the directives at this location, by its definition; without those of the
-- values of its arguments
abbrev pub directive_faults_by : FilePlace → DirectiveLocation → List Directive → Directive
    → Option DirectiveFact → List Fault
directive_faults_by owner at all d known = v22.faults owner d known
    ++ (v23.faults owner at d known
    ++ (v24.faults owner all d known
    ++ argument_faults owner d.place (of_directive known) d.arguments))

-- the faults of one of the directives at this location, by its definition
abbrev pub known_directive_faults : Facts → FilePlace → DirectiveLocation → List Directive
    → Directive → Option DirectiveFact → List Fault
known_directive_faults facts owner at all d known = directive_faults_by owner at all d known
    ++ values.faults facts owner (of_directive known) d.arguments

-- the faults of one of the directives at this location
abbrev pub directive_faults : Facts → FilePlace → DirectiveLocation → List Directive → Directive
    → List Fault
directive_faults facts owner at all d =
    known_directive_faults facts owner at all d (directive_of facts d.name.text)

-- the faults of the directives at this location
abbrev pub directives_faults : Facts → FilePlace → DirectiveLocation → List Directive → List Fault
directives_faults facts owner at all = flat_map (directive_faults facts owner at all) all

-- the faults of a type condition
abbrev pub condition_faults : Facts → FilePlace → Name → List Fault
condition_faults facts owner condition =
    v12.faults facts owner condition ++ v13.faults facts owner condition

-- the faults of the type condition of an inline fragment, if it has one
abbrev pub inline_faults : Facts → FilePlace → Option (List ℕ) → Option Name → List Fault
inline_faults facts owner parent None = []
inline_faults facts owner parent (Some condition) = condition_faults facts owner condition
    ++ v17.faults_of_inline facts owner parent condition

-- the faults of a field, by its definition and the kind of its type; without those of its
-- directives and of the values of its arguments
abbrev pub field_faults_by : FilePlace → FieldNode → Option FieldFact → Option TypeKind → List Fault
field_faults_by owner f known kind = v04.faults_by owner f f.parent known
    ++ (v07.faults_by owner f kind
    ++ argument_faults owner (start_of f) (of_field known) f.arguments)

-- the faults of a field, without those of its directives
abbrev pub field_faults : Facts → FilePlace → FieldNode → Option FieldFact → List Fault
field_faults facts owner f known = field_faults_by owner f known (kind_of_field facts known)
    ++ values.faults facts owner (of_field known) f.arguments

-- the faults of a node of a selection set
abbrev pub node_faults : Facts → FilePlace → Node → List Fault
node_faults facts owner (field f) = field_faults facts owner f (field_of facts f.parent f.name.text)
    ++ directives_faults facts owner location.Field f.directives
node_faults facts owner (spread parent x) = v15.faults facts owner x
    ++ (v17.faults_of_spread facts owner parent x
    ++ directives_faults facts owner location.FragmentSpread x.directives)
node_faults facts owner (inline i) = inline_faults facts owner i.parent i.condition
    ++ directives_faults facts owner location.InlineFragment i.directives

-- the faults of the nodes of a selection set
abbrev pub set_faults : Facts → FilePlace → List Node → List Fault
set_faults facts owner = flat_map (node_faults facts owner)

-- the faults of a variable definition
abbrev pub variable_faults : Facts → FilePlace → VariableDefinition → List Fault
variable_faults facts owner v = values.faults_of_variable facts owner v
    ++ directives_faults facts owner location.VariableDefinition v.directives

-- the faults of an operation
abbrev pub operation_faults : Facts → FilePlace → Operation → List Fault
operation_faults facts owner o = p03.faults facts owner o
    ++ (p05.faults facts owner o
    ++ (directives_faults facts owner (location_of o.kind) o.directives
    ++ (flat_map (variable_faults facts owner) o.variables
    ++ set_faults facts owner (operation_nodes facts o))))

-- the faults of a fragment, but for V16
abbrev pub fragment_faults : Facts → FilePlace → Fragment → List Fault
fragment_faults facts owner f = condition_faults facts owner f.condition
    ++ (directives_faults facts owner location.FragmentDefinition f.directives
    ++ set_faults facts owner (fragment_nodes facts f))

-- the faults of a definition, but for V16; a definition of the type system has none
abbrev pub tree_faults : Facts → FilePlace → Tree → List Fault
tree_faults facts owner (tree.Operation o) = operation_faults facts owner o
tree_faults facts owner (tree.Fragment f) = fragment_faults facts owner f
tree_faults facts owner _ = []

-- where a definition starts
abbrev pub owner_of : Definition → FilePlace
owner_of d = record { side = Documents; file = d.file; place = trees.place_of d.tree }

-- The faults of a definition by the rules that check one definition: those of its parts, and that
-- of a fragment that reaches itself.
pub data IsFault (facts : Facts) (d : Definition) : Fault → Type 0 where
  of_part : {f : Fault} → Contains (tree_faults facts (owner_of d) d.tree) f → IsFault facts d f
  of_cycle : {g : Fragment} → v16.own_fragment d.tree ≡ Some g → v16.IsCyclic facts d g
      → IsFault facts d (v16.fault (owner_of d) g)

-- the list before, and after it the fault of a fragment that reaches itself
pub data AddsCycle (facts : Facts) (d : Definition) (before : List Fault) : List Fault
    → Type 0 where
  cyclic : {g : Fragment} → v16.own_fragment d.tree ≡ Some g → v16.IsCyclic facts d g
      → AddsCycle facts d before (before ++ v16.fault (owner_of d) g ∷ [])
  other : ((g : Fragment) → v16.own_fragment d.tree ≡ Some g → v16.IsCyclic facts d g → ⊥)
      → AddsCycle facts d before before

-- ---- the parts of a visit

-- the faults within a selection set with this parent type
abbrev pub set_visit : Facts → FilePlace → Option (List ℕ) → List Selection → List Fault
set_visit facts owner parent set = set_faults facts owner (nodes facts parent set)

-- the faults of a selection and of what it selects
abbrev pub selection_visit : Facts → FilePlace → Option (List ℕ) → Selection → List Fault
selection_visit facts owner parent x = set_faults facts owner (nodes_in facts x parent)

-- the faults of a field and of what it selects
abbrev pub field_visit : Facts → FilePlace → Option (List ℕ) → Field → List Fault
field_visit facts owner parent f = node_faults facts owner (field (field_node parent f))
    ++ set_visit facts owner (parent_below facts parent f.name.text) f.selections

-- the faults of an inline fragment and of what it selects
abbrev pub inline_visit : Facts → FilePlace → Option (List ℕ) → InlineFragment → List Fault
inline_visit facts owner parent i = node_faults facts owner (inline (inline_node parent i))
    ++ set_visit facts owner (parent_within facts parent i.condition) i.selections
