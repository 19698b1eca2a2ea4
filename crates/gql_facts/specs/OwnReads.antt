-- The keys that a definition reads by itself, without the fragments that it spreads.
use Rattle.std.specs.Prelude.{flat_map, ℕ, List, [], ◌∷◌, ◌++◌, map, Option, Some, None}
use Rattle.gql_ast.specs.declared.definition.Definition.{Definition}
use Rattle.gql_ast.specs.declared.definition.Tree.{Tree}
use Rattle.gql_ast.specs.declared.definition.Tree.TheVariants as tree
use Rattle.gql_ast.specs.declared.text.Name.{Name}
use Rattle.gql_ast.specs.declared.literal.Directive.{Directive}
use Rattle.gql_ast.specs.declared.executable.Fragment.{Fragment}
use Rattle.gql_ast.specs.declared.executable.Operation.{Operation}
use Rattle.gql_ast.specs.declared.executable.OperationKind.{OperationKind}
use Rattle.gql_ast.specs.declared.executable.VariableDefinition.{VariableDefinition}
use Rattle.gql_ast.specs.declared.executable.Selection.{Selection}
use Rattle.gql_ast.specs.declared.executable.Field.{Field}
use Rattle.gql_ast.specs.declared.executable.InlineFragment.{InlineFragment}
use Rattle.gql_ast.specs.declared.executable.Spread.{Spread}
use Rattle.gql_types.specs.Written.{written}
use Rattle.gql_facts.specs.declared.fact.Fact.{Fact}
use Rattle.gql_facts.specs.declared.key.Key.{Key}
use Rattle.gql_facts.specs.declared.key.Key.TheVariants as key
use Rattle.gql_facts.specs.Floats.{float_read}
use Rattle.gql_facts.specs.Worlds.{Facts}
use Rattle.gql_types.specs.WrittenTypes.{named_type}
use Rattle.gql_facts.specs.Nodes.{Node, field, spread, inline, nodes, nodes_in, composite, root_in, field_type, parent_below, parent_within}

-- the keys that applied directives read
abbrev pub directive_reads : List Directive → List Key
directive_reads ds = map (λ (d : Directive). key.DirectiveOf d.name.text) ds

-- the keys that a type that may be composite reads
abbrev pub composite_reads : Option (List ℕ) → List Key
composite_reads None = []
composite_reads (Some t) = key.KindOf t ∷ key.PossibleOf t ∷ []

-- the keys that a field reads: that of the field of its parent type, and those of the type of what
-- it selects
abbrev pub field_reads : Facts → Option (List ℕ) → List ℕ → List Key
field_reads facts None n = []
field_reads facts (Some t) n = key.FieldOf t n ∷ composite_reads (field_type facts (Some t) n)

-- the keys that a type condition reads
abbrev pub condition_reads : Option Name → List Key
condition_reads None = []
condition_reads (Some c) = composite_reads (Some c.text)

-- the keys that a node reads
abbrev pub node_reads : Facts → Node → List Key
node_reads facts (field f) = field_reads facts f.parent f.name.text ++ directive_reads f.directives
node_reads facts (spread parent x) = key.FragmentOf x.name.text ∷ directive_reads x.directives
node_reads facts (inline i) = condition_reads i.condition ++ directive_reads i.directives

-- the keys that the nodes of a selection set read
abbrev pub set_reads : Facts → List Node → List Key
set_reads facts = flat_map (node_reads facts)

-- the keys that a variable reads: those of its type, and of the directives that are applied to it
abbrev pub variable_reads : VariableDefinition → List Key
variable_reads v = key.KindOf (named_type (written v.of_type))
    ∷ key.InputOf (named_type (written v.of_type))
    ∷ key.EnumOf (named_type (written v.of_type))
    ∷ directive_reads v.directives

-- the type that an operation of this kind selects from, by the answer for the root: the root operation
-- type, of a subscription as of a query and a mutation
abbrev pub selected_by : OperationKind → Fact → Option (List ℕ)
selected_by k f = root_in f

-- the type that an operation of this kind selects from
abbrev pub selected_root : Facts → OperationKind → Option (List ℕ)
selected_root facts k = selected_by k (facts (key.RootOf k))

-- the parent type of the fields of an operation
abbrev pub root_parent : Facts → OperationKind → Option (List ℕ)
root_parent facts k = composite facts (selected_root facts k)

-- the nodes of an operation
abbrev pub operation_nodes : Facts → Operation → List Node
operation_nodes facts o = nodes facts (root_parent facts o.kind) o.selections

-- the nodes of a fragment
abbrev pub fragment_nodes : Facts → Fragment → List Node
fragment_nodes facts f = nodes facts (composite facts (Some f.condition.text)) f.selections

-- the keys that an operation reads by itself
abbrev pub operation_reads : Facts → Operation → List Key
operation_reads facts o = key.RootOf o.kind ∷ (composite_reads (selected_root facts o.kind)
    ++ (directive_reads o.directives
    ++ (flat_map variable_reads o.variables
    ++ set_reads facts (operation_nodes facts o))))

-- the keys that a fragment reads by itself
abbrev pub fragment_reads : Facts → Fragment → List Key
fragment_reads facts f = composite_reads (Some f.condition.text)
    ++ (directive_reads f.directives ++ set_reads facts (fragment_nodes facts f))

-- the keys that the parts of a tree read; one of the type system has none
abbrev pub executable_reads : Facts → Tree → List Key
executable_reads facts (tree.Operation o) = operation_reads facts o
executable_reads facts (tree.Fragment f) = fragment_reads facts f
executable_reads facts _ = []

-- the keys that a tree reads by itself: whether `Float` is a type, and what its parts read
abbrev pub tree_reads : Facts → Tree → List Key
tree_reads facts t = float_read ∷ executable_reads facts t

-- the keys that a definition reads by itself
abbrev pub own_reads : Facts → Definition → List Key
own_reads facts d = tree_reads facts d.tree

-- ---- the parts of a definition, as the code scans them

-- the keys that a selection set with this parent type reads
abbrev pub set_scan : Facts → Option (List ℕ) → List Selection → List Key
set_scan facts parent xs = set_reads facts (nodes facts parent xs)

-- the keys that a selection in a set with this parent type reads
abbrev pub selection_scan : Facts → Option (List ℕ) → Selection → List Key
selection_scan facts parent x = set_reads facts (nodes_in facts x parent)

-- the keys that a field and what it selects read
abbrev pub field_scan : Facts → Option (List ℕ) → Field → List Key
field_scan facts parent f = field_reads facts parent f.name.text
    ++ (directive_reads f.directives
    ++ set_scan facts (parent_below facts parent f.name.text) f.selections)

-- the keys that an inline fragment and what it selects read
abbrev pub inline_scan : Facts → Option (List ℕ) → InlineFragment → List Key
inline_scan facts parent i = condition_reads i.condition
    ++ (directive_reads i.directives
    ++ set_scan facts (parent_within facts parent i.condition) i.selections)

-- the keys that a spread reads
abbrev pub spread_scan : Spread → List Key
spread_scan x = key.FragmentOf x.name.text ∷ directive_reads x.directives
