-- The facts of a schema and of document files: the answer to each key.
use Rattle.std.specs.Prelude.{◌&&◌, flat_map, codes, ℕ, List, [], ◌∷◌, map, find, bytes_eq, is_some, Bool, false, Option, option_and_then, if◌then◌else◌}
use Rattle.std.specs.Option.{option_map_or}
use Rattle.gql_ast.specs.declared.definition.Definition.{Definition}
use Rattle.gql_ast.specs.declared.definition.Document.{Document}
use Rattle.gql_ast.specs.declared.definition.Tree.{Tree}
use Rattle.gql_ast.specs.declared.definition.Tree.TheVariants as tree
use Rattle.gql_ast.specs.declared.executable.OperationKind.TheVariants as operation
use Rattle.gql_ast.specs.declared.files.Files.{Files}
use Rattle.gql_ast.specs.declared.type_system.DirectiveDefinition.{DirectiveDefinition}
use Rattle.gql_ast.specs.declared.type_system.FieldDefinition.{FieldDefinition}
use Rattle.gql_ast.specs.declared.type_system.EnumValueDefinition.{EnumValueDefinition}
use Rattle.gql_ast.specs.declared.type_system.InputValueDefinition.{InputValueDefinition}
use Rattle.gql_built_in.specs.declared.sited.Sited.{Sited}
use Rattle.gql_types.specs.Schemas.{schema_of, type_named, kind_named, field_named, possible_named, input_named, enum_named, directive_named, root_of}
use Rattle.gql_types.specs.Kinds.{is_composite}
use Rattle.gql_types.specs.Written.{named, required, written}
use Rattle.gql_types.specs.declared.roots.Root.{Root}
use Rattle.gql_types.specs.declared.schema.Schema.{Schema}
use Rattle.gql_types.specs.declared.schema_type.SchemaType.{SchemaType}
use Rattle.gql_facts.specs.declared.fact.Fact.{Fact}
use Rattle.gql_facts.specs.declared.fact.Fact.TheVariants as fact
use Rattle.gql_facts.specs.declared.fact.InputFact.{InputFact}
use Rattle.gql_facts.specs.declared.fact.FieldFact.{FieldFact}
use Rattle.gql_facts.specs.declared.fact.DirectiveFact.{DirectiveFact}
use Rattle.gql_facts.specs.declared.fact.FragmentFact.{FragmentFact}
use Rattle.gql_facts.specs.declared.meta_fields.MetaFields.{MetaFields}
use Rattle.gql_facts.specs.declared.key.Key.TheVariants as key
use Rattle.gql_facts.specs.Worlds.{Facts}
use Rattle.gql_types.specs.WrittenTypes.{type_of}

-- ---- facts of definitions

-- the fact of an argument or an input field: its name, its type, and whether it has a default
abbrev pub input_fact : InputValueDefinition → InputFact
input_fact d = record {
  name = d.name.text;
  of_type = type_of (written d.of_type);
  has_default = is_some d.default;
}

-- the fact of a field of an object or an interface
abbrev pub field_fact : Sited FieldDefinition → FieldFact
field_fact d = record {
  of_type = type_of (written d.node.of_type);
  arguments = map input_fact d.node.arguments;
}

-- the facts of the fields of an input object
abbrev pub input_facts : List (Sited InputValueDefinition) → List InputFact
input_facts = map (λ (d : Sited InputValueDefinition). input_fact d.node)

-- the names of the values of an enum
abbrev pub value_names : List (Sited EnumValueDefinition) → List (List ℕ)
value_names = map (λ (v : Sited EnumValueDefinition). v.node.name.text)

-- the fact of a directive
abbrev pub directive_fact : Sited DirectiveDefinition → DirectiveFact
directive_fact d = record {
  locations = d.node.locations;
  is_repeatable = d.node.is_repeatable;
  arguments = map input_fact d.node.arguments;
}

-- the fact of what was found, or absent
abbrev pub answer : {A : Type 0} → (A → Fact) → Option A → Fact
answer f o = option_map_or f o fact.Absent

-- ---- the facts of a schema

-- the field `__typename: String!` (GraphQL 4.1)
abbrev pub typename_field : FieldFact
typename_field = record {
  of_type = type_of (required (named (codes "String")));
  arguments = [];
}

-- the field `__schema: __Schema!` (GraphQL 4.2)
abbrev pub schema_field : FieldFact
schema_field = record {
  of_type = type_of (required (named (codes "__Schema")));
  arguments = [];
}

-- the field `__type(name: String!): __Type` (GraphQL 4.2)
abbrev pub type_field : FieldFact
type_field = record {
  of_type = type_of (named (codes "__Type"));
  arguments = record {
    name = codes "name";
    of_type = type_of (required (named (codes "String")));
    has_default = false;
  } ∷ [];
}

-- the three fields that no type lists
abbrev pub meta_fields : MetaFields
meta_fields = record { typename = typename_field; schema = schema_field; of_type = type_field }

-- the fact if the condition holds, else absent
abbrev pub fact_if : Bool → Fact → Fact
fact_if holds f = if holds then f else fact.Absent

-- The field of this name of a type: every composite type has `__typename`, and the query root has
-- `__schema` and `__type`, whether or not fields of these names are defined. Every other field is the
-- type's own, also one that is called `__schema` or `__type` on a type that is not the query root.
abbrev pub field_by : MetaFields → List ℕ → Bool → Bool → Fact → Fact
field_by meta n composite query_root own =
    if bytes_eq n (codes "__typename") then fact_if composite (fact.Field meta.typename)
    else if bytes_eq n (codes "__schema") && query_root then fact.Field meta.schema
    else if bytes_eq n (codes "__type") && query_root then fact.Field meta.of_type
    else own

-- whether the type of this name is composite
abbrev pub is_composite_type : Schema → List ℕ → Bool
is_composite_type s t = option_map_or is_composite (kind_named s t) false

-- whether the query root has this name
abbrev pub is_query_root : Schema → List ℕ → Bool
is_query_root s t =
    option_map_or (λ (r : Root). bytes_eq t r.name.node.text) (root_of s operation.Query) false

-- the fact of the field n of the type t: one that the type lists, or one of the three fields above
abbrev pub field_answer : Schema → List ℕ → List ℕ → Fact
field_answer s t n = field_by meta_fields n (is_composite_type s t) (is_query_root s t)
    (answer (λ d. fact.Field (field_fact d)) (field_named s t n))

-- the possible types of the type of this name, if it is composite
abbrev pub possible_answer : Schema → List ℕ → Fact
possible_answer s t =
    answer fact.Possible (option_and_then (λ (x : SchemaType). possible_named s t) (type_named s t))

-- ---- the facts of document files

-- the fragment of a definition, if it is one
abbrev pub fragment_in : Definition → List FragmentFact
fragment_in d = fragment_of d d.tree where
  fragment_of : Definition → Tree → List FragmentFact
  fragment_of d (tree.Fragment f) = record { file = d.file; fragment = f } ∷ []
  fragment_of d _ = []

-- the fragments of all document files, in the order of the files' names
abbrev pub fragments : List (List ℕ × Document) → List FragmentFact
fragments documents =
    flat_map (λ (file : List ℕ × Document). flat_map fragment_in file.1.definitions) documents

-- the first fragment of this name
abbrev pub fragment_named : List (List ℕ × Document) → List ℕ → Option FragmentFact
fragment_named documents n =
    find (λ (f : FragmentFact). bytes_eq n f.fragment.name.text) (fragments documents)

-- ---- all facts

-- the answer of a schema and of document files to a key
abbrev pub fact_in : Schema → List (List ℕ × Document) → Facts
fact_in s documents (key.KindOf t) = answer fact.Kind (kind_named s t)
fact_in s documents (key.FieldOf t n) = field_answer s t n
fact_in s documents (key.PossibleOf t) = possible_answer s t
fact_in s documents (key.InputOf t) = answer (λ ds. fact.Input (input_facts ds)) (input_named s t)
fact_in s documents (key.EnumOf t) = answer (λ vs. fact.Enum (value_names vs)) (enum_named s t)
fact_in s documents (key.DirectiveOf n) =
    answer (λ d. fact.Directive (directive_fact d)) (directive_named s n)
fact_in s documents (key.RootOf k) =
    answer (λ (r : Root). fact.Root r.name.node.text) (root_of s k)
fact_in s documents (key.FragmentOf n) = answer fact.Fragment (fragment_named documents n)

-- the answer of the files that are present to a key
abbrev pub fact_of : Files → Facts
fact_of files = fact_in (schema_of files) files.documents
