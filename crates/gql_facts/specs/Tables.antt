-- Tables: the facts of a schema as the code stores them, for its types, its directives, its root
-- operation types, and the three fields that no type lists.
use Rattle.std.specs.Prelude.{ℕ, List, map, find, bytes_eq, Bool, false, Option, option_map, option_and_then}
use Rattle.std.specs.Option.{option_map_or}
use Rattle.gql_ast.specs.declared.executable.OperationKind.{OperationKind}
use Rattle.gql_ast.specs.declared.executable.OperationKind.TheVariants as operation
use Rattle.gql_ast.specs.declared.type_system.DirectiveDefinition.{DirectiveDefinition}
use Rattle.gql_ast.specs.declared.type_system.FieldDefinition.{FieldDefinition}
use Rattle.gql_built_in.specs.declared.sited.Sited.{Sited}
use Rattle.gql_types.specs.Kinds.{is_composite, same_operation}
use Rattle.gql_types.specs.Schemas.{possible_named, inputs_by, values_by}
use Rattle.gql_types.specs.declared.roots.Root.{Root}
use Rattle.gql_types.specs.declared.schema.Schema.{Schema}
use Rattle.gql_types.specs.declared.schema_type.SchemaType.{SchemaType}
use Rattle.gql_facts.specs.declared.fact.Fact.{Fact}
use Rattle.gql_facts.specs.declared.fact.Fact.TheVariants as fact
use Rattle.gql_facts.specs.declared.fact.FragmentFact.{FragmentFact}
use Rattle.gql_facts.specs.declared.key.Key.TheVariants as key
use Rattle.gql_facts.specs.declared.schema_facts.SchemaFacts.{SchemaFacts}
use Rattle.gql_facts.specs.declared.schema_facts.FieldEntry.{FieldEntry}
use Rattle.gql_facts.specs.declared.schema_facts.TypeEntry.{TypeEntry}
use Rattle.gql_facts.specs.declared.schema_facts.DirectiveEntry.{DirectiveEntry}
use Rattle.gql_facts.specs.declared.schema_facts.RootEntry.{RootEntry}
use Rattle.gql_facts.specs.Facts.{field_fact, input_facts, value_names, directive_fact, meta_fields, field_by, answer}
use Rattle.gql_facts.specs.Worlds.{Facts}

-- ---- entries

-- the entry of a field
abbrev pub field_entry : Sited FieldDefinition → FieldEntry
field_entry d = record { name = d.node.name.text; fact = field_fact d }

-- the entry of a type
abbrev pub type_entry : Schema → SchemaType → TypeEntry
type_entry s t = record {
  name = t.definition.node.name.text;
  kind = t.kind;
  fields = map field_entry t.fields;
  possible = possible_named s t.definition.node.name.text;
  inputs = option_map input_facts (inputs_by t.kind t);
  values = option_map value_names (values_by t.kind t);
}

-- the entry of a directive
abbrev pub directive_entry : Sited DirectiveDefinition → DirectiveEntry
directive_entry d = record { name = d.node.name.text; fact = directive_fact d }

-- the entry of a root operation type
abbrev pub root_entry : Root → RootEntry
root_entry r = record { kind = r.kind; name = r.name.node.text }

-- the tables of a schema
abbrev pub tables_of : Schema → SchemaFacts
tables_of s = record {
  types = map (type_entry s) s.types;
  directives = map directive_entry s.directives;
  roots = map root_entry s.roots;
  meta = meta_fields;
}

-- ---- look-ups

-- the first type of this name
abbrev pub type_in : SchemaFacts → List ℕ → Option TypeEntry
type_in f n = find (λ (t : TypeEntry). bytes_eq n t.name) f.types

-- the first field n of the type t
abbrev pub field_in : SchemaFacts → List ℕ → List ℕ → Option FieldEntry
field_in f t n = option_and_then
    (λ (e : TypeEntry). find (λ (x : FieldEntry). bytes_eq n x.name) e.fields) (type_in f t)

-- the first directive of this name
abbrev pub directive_in : SchemaFacts → List ℕ → Option DirectiveEntry
directive_in f n = find (λ (d : DirectiveEntry). bytes_eq n d.name) f.directives

-- the first root operation type of this kind
abbrev pub root_in : SchemaFacts → OperationKind → Option RootEntry
root_in f k = find (λ (r : RootEntry). same_operation k r.kind) f.roots

-- the first fragment of this name
abbrev pub fragment_in : List FragmentFact → List ℕ → Option FragmentFact
fragment_in fs n = find (λ (f : FragmentFact). bytes_eq n f.fragment.name.text) fs

-- whether the type of this name is composite
abbrev pub is_composite_in : SchemaFacts → List ℕ → Bool
is_composite_in f t = option_map_or (λ (e : TypeEntry). is_composite e.kind) (type_in f t) false

-- whether the query root has this name
abbrev pub is_query_root_in : SchemaFacts → List ℕ → Bool
is_query_root_in f t =
    option_map_or (λ (r : RootEntry). bytes_eq t r.name) (root_in f operation.Query) false

-- the fact of the field n of the type t
abbrev pub kept_field : SchemaFacts → List ℕ → List ℕ → Fact
kept_field f t n = field_by f.meta n (is_composite_in f t) (is_query_root_in f t)
    (answer (λ (e : FieldEntry). fact.Field e.fact) (field_in f t n))

-- the answer of the tables and of these fragments to a key
abbrev pub kept_fact : SchemaFacts → List FragmentFact → Facts
kept_fact f fs (key.KindOf t) = answer (λ (e : TypeEntry). fact.Kind e.kind) (type_in f t)
kept_fact f fs (key.FieldOf t n) = kept_field f t n
kept_fact f fs (key.PossibleOf t) =
    answer fact.Possible (option_and_then (λ (e : TypeEntry). e.possible) (type_in f t))
kept_fact f fs (key.InputOf t) =
    answer fact.Input (option_and_then (λ (e : TypeEntry). e.inputs) (type_in f t))
kept_fact f fs (key.EnumOf t) =
    answer fact.Enum (option_and_then (λ (e : TypeEntry). e.values) (type_in f t))
kept_fact f fs (key.DirectiveOf n) =
    answer (λ (d : DirectiveEntry). fact.Directive d.fact) (directive_in f n)
kept_fact f fs (key.RootOf k) = answer (λ (r : RootEntry). fact.Root r.name) (root_in f k)
kept_fact f fs (key.FragmentOf n) = answer fact.Fragment (fragment_in fs n)
