-- The usages of variables (GraphQL 5.8.5): the uses at a location whose type is known. Nothing is
-- a usage under a field, an argument, a directive or an input field that is not known.
use Rattle.std.specs.Prelude.{ℕ, List, [], ◌∷◌, ◌++◌, ◌&&◌, Bool, false, not, flat_map, Contains, Option, Some, None, if◌then◌else◌}
use Rattle.std.specs.Option.{option_map_or}
use Rattle.gql_ast.specs.declared.definition.Definition.{Definition}
use Rattle.gql_ast.specs.declared.executable.Fragment.{Fragment}
use Rattle.gql_ast.specs.declared.executable.Operation.{Operation}
use Rattle.gql_ast.specs.declared.literal.Argument.{Argument}
use Rattle.gql_ast.specs.declared.literal.Directive.{Directive}
use Rattle.gql_types.specs.Written.{Written}
use Rattle.gql_types.specs.WrittenTypes.{typed_of}
use Rattle.gql_facts.specs.Nodes.{Node, field, spread, inline}
use Rattle.gql_facts.specs.OwnReads.{operation_nodes, fragment_nodes}
use Rattle.gql_facts.specs.Reads.{Reaches}
use Rattle.gql_facts.specs.Worlds.{Facts}
use Rattle.gql_facts.specs.declared.fact.FragmentFact.{FragmentFact}
use Rattle.gql_facts.specs.declared.fact.InputFact.{InputFact}
use Rattle.gql_inputs.specs.InputTypes.{name_in, item_of, is_list}
use Rattle.gql_inputs.specs.Lookups.{FieldForm, InputLookup, field_named, fields_in}
use Rattle.gql_inputs.specs.Values as v
use Rattle.gql_inputs.specs.Values.{Value, Values, Fields, value_of, may_be_list}
use Rattle.gql_rules.specs.Answers.{field_of, directive_of}
use Rattle.gql_rules.specs.KnownInputs.{known_inputs}
use Rattle.gql_rules.specs.LocalFaults.{of_field, of_directive}
use Rattle.gql_rules.specs.V18ToV21Values.{definition_of}
use Rattle.gql_vars.specs.Uses.{Use}

-- a location: the type that is expected there, and whether it has a default value
pub record Location : Type 0 where
  pub expected : Written
  pub has_default : Bool

-- a use at a location
pub record Usage : Type 0 where
  pub used : Use
  pub location : Location

-- ---- values

-- the location of an item of a list that is given; it has no default value
abbrev pub location_of_item : Written → Location
location_of_item item = record { expected = item; has_default = false }

-- the location of a field of an input object
abbrev pub location_of_field : FieldForm → Location
location_of_field f = record { expected = f.of_type; has_default = f.has_default }

-- the fields of the input object that a type names, or none if it names another type
abbrev pub fields_at : InputLookup → Written → List FieldForm
fields_at look t = option_map_or fields_in (look (name_in t)) []

-- the usages in a list, by the type of its items, if a list is expected
abbrev pub by_item : (Written → List Usage) → Option Written → List Usage
by_item usages None = []
by_item usages (Some item) = usages item

-- The usages in an item of a list. There are none in an item that V18 refuses as a whole: a list is
-- expected, and the item is not one.
abbrev pub if_item : Written → Value → List Usage → List Usage
if_item item x usages = if is_list item && not (may_be_list x) then [] else usages

-- the usages in a field of an object, if its type has the field
abbrev pub by_field : (Location → List Usage) → Option FieldForm → List Usage
by_field usages None = []
by_field usages (Some f) = usages (location_of_field f)

-- the usages in a value, in its items and in its fields
abbrev mutual
  -- in a value at a location
  pub value_usages : InputLookup → List ℕ → Location → Value → List Usage
  value_usages look file at (v.variable p name) =
      record { used = record { file = file; place = p; name = name }; location = at } ∷ []
  value_usages look file at (v.null p) = []
  value_usages look file at (v.int p text) = []
  value_usages look file at (v.float p text) = []
  value_usages look file at (v.string p) = []
  value_usages look file at (v.boolean p) = []
  value_usages look file at (v.enum p name) = []
  value_usages look file at (v.list p xs) =
      by_item (λ item. item_usages look file item xs) (item_of at.expected)
  value_usages look file at (v.object p fs) =
      field_usages look file (fields_at look at.expected) fs

  -- in the items of a list, by their type
  pub item_usages : InputLookup → List ℕ → Written → Values → List Usage
  item_usages look file item v.no_values = []
  item_usages look file item (v.value x xs) =
      if_item item x (value_usages look file (location_of_item item) x)
      ++ item_usages look file item xs

  -- in the fields of an object, by those of its type
  pub field_usages : InputLookup → List ℕ → List FieldForm → Fields → List Usage
  field_usages look file fields v.no_fields = []
  field_usages look file fields (v.field n x fs) =
      by_field (λ at. value_usages look file at x) (field_named fields n.text)
      ++ field_usages look file fields fs

-- ---- arguments and directives

-- the location of an argument
abbrev pub location_of : InputFact → Location
location_of i = record { expected = typed_of i.of_type; has_default = i.has_default }

-- the usages in an argument, by its definition, if it is known
abbrev pub usages_by : InputLookup → List ℕ → Argument → Option InputFact → List Usage
usages_by look file a None = []
usages_by look file a (Some i) = value_usages look file (location_of i) (value_of a.value)

-- the usages in an argument of a field or a directive that defines these, if it is known
abbrev pub usages_of_argument : InputLookup → List ℕ → Option (List InputFact) → Argument
    → List Usage
usages_of_argument look file known a = usages_by look file a (definition_of known a.name.text)

-- the usages in the arguments of a field or a directive that defines these, if it is known
abbrev pub argument_usages : Facts → List ℕ → Option (List InputFact) → List Argument → List Usage
argument_usages facts file known =
    flat_map (usages_of_argument (known_inputs facts) file known)

-- the usages in a directive that is applied
abbrev pub usages_of_directive : Facts → List ℕ → Directive → List Usage
usages_of_directive facts file d =
    argument_usages facts file (of_directive (directive_of facts d.name.text)) d.arguments

-- the usages in directives that are applied
abbrev pub directive_usages : Facts → List ℕ → List Directive → List Usage
directive_usages facts file = flat_map (usages_of_directive facts file)

-- ---- definitions

-- the usages in a node of a selection set
abbrev pub node_usages : Facts → List ℕ → Node → List Usage
node_usages facts file (field f) =
    argument_usages facts file (of_field (field_of facts f.parent f.name.text)) f.arguments
    ++ directive_usages facts file f.directives
node_usages facts file (spread parent x) = directive_usages facts file x.directives
node_usages facts file (inline i) = directive_usages facts file i.directives

-- the usages in directives, and in the nodes of a selection set
abbrev pub part_usages : Facts → List ℕ → List Directive → List Node → List Usage
part_usages facts file ds nodes =
    directive_usages facts file ds ++ flat_map (node_usages facts file) nodes

-- the usages in an operation, without the fragments that it reaches
abbrev pub operation_usages : Facts → List ℕ → Operation → List Usage
operation_usages facts file o = part_usages facts file o.directives (operation_nodes facts o)

-- the usages in a fragment, without those that it reaches
abbrev pub fragment_usages : Facts → List ℕ → Fragment → List Usage
fragment_usages facts file f = part_usages facts file f.directives (fragment_nodes facts f)

-- The usages in an operation, which is the definition d, and in each fragment that it reaches.
pub data Usages (facts : Facts) (d : Definition) (o : Operation) : Usage → Type 0 where
  in_operation : {x : Usage} → Contains (operation_usages facts d.file o) x → Usages facts d o x
  in_fragment : {g : FragmentFact} {x : Usage} → Reaches facts d g
      → Contains (fragment_usages facts g.file g.fragment) x → Usages facts d o x
