-- Helper definitions for private contracts: the faults by V29, part by part.
use Rattle.std.specs.Prelude.{ℕ, List, [], ◌∷◌, ◌++◌, ◌&&◌, not, flat_map, bytes_eq, Option, Some, None, option_map, if◌then◌else◌}
use Rattle.std.specs.HashMap as hash
use Rattle.gql_ast.specs.declared.executable.Field.{Field}
use Rattle.gql_ast.specs.declared.executable.Fragment.{Fragment}
use Rattle.gql_ast.specs.declared.executable.InlineFragment.{InlineFragment}
use Rattle.gql_ast.specs.declared.executable.Operation.{Operation}
use Rattle.gql_ast.specs.declared.executable.Selection.{Selection}
use Rattle.gql_ast.specs.declared.executable.VariableDefinition.{VariableDefinition}
use Rattle.gql_ast.specs.declared.fault.Fault.{Fault}
use Rattle.gql_ast.specs.declared.fault.FilePlace.{FilePlace}
use Rattle.gql_ast.specs.declared.literal.Argument.{Argument}
use Rattle.gql_ast.specs.declared.literal.Directive.{Directive}
use Rattle.gql_ast.specs.declared.rule.Rule.TheVariants as rule
use Rattle.gql_types.specs.Written.{Written}
use Rattle.gql_facts.specs.Nodes.{Node, field, spread, inline, field_node, inline_node, nodes, nodes_in, parent_below, parent_within}
use Rattle.gql_facts.specs.OwnReads.{operation_nodes, fragment_nodes}
use Rattle.gql_facts.specs.Worlds.{Facts}
use Rattle.gql_facts.specs.declared.fact.FragmentFact.{FragmentFact}
use Rattle.gql_facts.specs.declared.fact.InputFact.{InputFact}
use Rattle.gql_inputs.specs.ExpectedTypes.{written_of}
use Rattle.gql_inputs.specs.InputTypes.{item_of}
use Rattle.gql_inputs.specs.Lookups.{FieldForm, field_named}
use Rattle.gql_inputs.specs.Values.{Value, Values, Fields, GivenField, value_of}
use Rattle.gql_rules.specs.Answers.{field_of, directive_of}
use Rattle.gql_rules.specs.KnownInputs.{known_inputs}
use Rattle.gql_rules.specs.LocalFaults.{of_field, of_directive}
use Rattle.gql_rules.specs.V18ToV21Values.{definition_of}
use Rattle.gql_vars.specs.declared.usage_check.Location.{Location as ALocation}
use Rattle.gql_vars.specs.declared.usage_check.UsageCheck.{UsageCheck}
use Rattle.gql_vars.specs.declared.uses.VariableUse.{VariableUse}
use Rattle.gql_vars.specs.Faults.{fault_of_use}
use Rattle.gql_vars.specs.Lists.{use_of}
use Rattle.gql_vars.specs.Usages.{Location, Usage, value_usages, item_usages, field_usages, by_item, if_item, by_field, fields_at, location_of, location_of_item, operation_usages, fragment_usages}
use Rattle.gql_vars.specs.V29AllVariableUsagesAreAllowed.{is_allowed, is_judged}
use Rattle.gql_vars.specs.Variables.{variable_named}

-- a location, as specifications see it
abbrev pub location_at : ALocation → Location
location_at l = record { expected = written_of l.expected; has_default = l.has_default }

-- a use at a location, as specifications see it
abbrev pub usage_of : VariableUse → ALocation → Usage
usage_of x l = record { used = use_of x; location = location_at l }

-- the first variable of a name, as the check of usages keeps it
abbrev pub first_named : UsageCheck → List ℕ → Option VariableDefinition
first_named c name =
    option_map (λ v. v.now) (hash.get_by (λ k. bytes_eq name k.now) c.first.now)

-- the fault of a usage of this variable by V29, if the variable is defined
abbrev pub misuse_of : Facts → FilePlace → Usage → Option VariableDefinition → List Fault
misuse_of facts owner x None = []
misuse_of facts owner x (Some v) = if not (is_allowed v x.location) && is_judged facts v
    then fault_of_use owner rule.V29 x.used ∷ []
    else []

-- the fault of a usage by V29; `variable` finds a variable by its name
abbrev pub misuse_by : Facts → FilePlace → (List ℕ → Option VariableDefinition) → Usage
    → List Fault
misuse_by facts owner variable x = misuse_of facts owner x (variable x.used.name)

-- the faults of usages by V29
abbrev pub misuses : Facts → UsageCheck → List Usage → List Fault
misuses facts c = flat_map (misuse_by facts c.owner.now (first_named c))

-- ---- values

-- the faults by V29 in a value at a location
abbrev pub value_misuses : Facts → UsageCheck → Location → Value → List Fault
value_misuses facts c at x =
    misuses facts c (value_usages (known_inputs facts) c.file.now at x)

-- the faults by V29 in a list
abbrev pub list_misuses : Facts → UsageCheck → Written → Values → List Fault
list_misuses facts c t xs = misuses facts c
    (by_item (λ item. item_usages (known_inputs facts) c.file.now item xs) (item_of t))

-- the faults by V29 in one item of a list
abbrev pub item_misuses : Facts → UsageCheck → Written → Value → List Fault
item_misuses facts c item x = misuses facts c
    (if_item item x (value_usages (known_inputs facts) c.file.now (location_of_item item) x))

-- the faults by V29 in an object
abbrev pub object_misuses : Facts → UsageCheck → Written → Fields → List Fault
object_misuses facts c t fs = misuses facts c
    (field_usages (known_inputs facts) c.file.now (fields_at (known_inputs facts) t) fs)

-- the faults by V29 in one field of an object
abbrev pub field_misuses : Facts → UsageCheck → List FieldForm → GivenField → List Fault
field_misuses facts c fields g = misuses facts c
    (by_field (λ at. value_usages (known_inputs facts) c.file.now at g.value)
    (field_named fields g.name.text))

-- ---- arguments and directives

-- the faults by V29 in an argument, by its definition, if it is known
abbrev pub misuses_by : Facts → UsageCheck → Argument → Option InputFact → List Fault
misuses_by facts c a None = []
misuses_by facts c a (Some i) = value_misuses facts c (location_of i) (value_of a.value)

-- the faults by V29 in an argument of a field or a directive that defines these, if it is known
abbrev pub misuses_of_argument : Facts → UsageCheck → Option (List InputFact) → Argument
    → List Fault
misuses_of_argument facts c known a = misuses_by facts c a (definition_of known a.name.text)

-- the faults by V29 in the arguments of a field or a directive that defines these, if it is known
abbrev pub argument_misuses : Facts → UsageCheck → Option (List InputFact) → List Argument
    → List Fault
argument_misuses facts c known = flat_map (misuses_of_argument facts c known)

-- the faults by V29 in a directive that is applied
abbrev pub misuses_of_directive : Facts → UsageCheck → Directive → List Fault
misuses_of_directive facts c d =
    argument_misuses facts c (of_directive (directive_of facts d.name.text)) d.arguments

-- the faults by V29 in directives that are applied
abbrev pub directive_misuses : Facts → UsageCheck → List Directive → List Fault
directive_misuses facts c = flat_map (misuses_of_directive facts c)

-- ---- nodes

-- the faults by V29 in a node of a selection set
abbrev pub node_misuses : Facts → UsageCheck → Node → List Fault
node_misuses facts c (field f) =
    argument_misuses facts c (of_field (field_of facts f.parent f.name.text)) f.arguments
    ++ directive_misuses facts c f.directives
node_misuses facts c (spread parent x) = directive_misuses facts c x.directives
node_misuses facts c (inline i) = directive_misuses facts c i.directives

-- the faults by V29 in these nodes
abbrev pub nodes_misuses : Facts → UsageCheck → List Node → List Fault
nodes_misuses facts c = flat_map (node_misuses facts c)

-- the faults by V29 in a selection set with this parent type
abbrev pub set_misuses : Facts → UsageCheck → Option (List ℕ) → List Selection → List Fault
set_misuses facts c parent set = nodes_misuses facts c (nodes facts parent set)

-- the faults by V29 in a selection, and in what it selects
abbrev pub selection_misuses : Facts → UsageCheck → Option (List ℕ) → Selection → List Fault
selection_misuses facts c parent x = nodes_misuses facts c (nodes_in facts x parent)

-- the faults by V29 in a field, and then in what it selects
abbrev pub field_visit : Facts → UsageCheck → Option (List ℕ) → Field → List Fault
field_visit facts c parent f = node_misuses facts c (field (field_node parent f))
    ++ set_misuses facts c (parent_below facts parent f.name.text) f.selections

-- the faults by V29 in an inline fragment, and then in what it selects
abbrev pub inline_visit : Facts → UsageCheck → Option (List ℕ) → InlineFragment → List Fault
inline_visit facts c parent i = node_misuses facts c (inline (inline_node parent i))
    ++ set_misuses facts c (parent_within facts parent i.condition) i.selections

-- ---- definitions

-- the faults by V29 in an operation, without the fragments that it reaches
abbrev pub operation_misuses : Facts → UsageCheck → Operation → List Fault
operation_misuses facts c o =
    directive_misuses facts c o.directives ++ nodes_misuses facts c (operation_nodes facts o)

-- the faults by V29 in a fragment, without those that it reaches
abbrev pub fragment_misuses : Facts → UsageCheck → Fragment → List Fault
fragment_misuses facts c f =
    directive_misuses facts c f.directives ++ nodes_misuses facts c (fragment_nodes facts f)

-- the faults by V29 of a usage, where these are the variables of the operation
abbrev pub misuse : Facts → FilePlace → List VariableDefinition → Usage → List Fault
misuse facts owner variables = misuse_by facts owner (variable_named variables)

-- the faults by V29 in a fragment
abbrev pub misuses_of_member : Facts → FilePlace → List VariableDefinition → FragmentFact
    → List Fault
misuses_of_member facts owner variables g =
    flat_map (misuse facts owner variables) (fragment_usages facts g.file g.fragment)

-- the faults by V29 of an operation of this file with these variables, by the fragments that it
-- reaches
abbrev pub usage_faults : Facts → FilePlace → List ℕ → Operation → List FragmentFact
    → List VariableDefinition → List Fault
usage_faults facts owner file o members variables =
    flat_map (misuse facts owner variables) (operation_usages facts file o)
    ++ flat_map (misuses_of_member facts owner variables) members
