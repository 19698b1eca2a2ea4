-- The answers of a schema's tables are those of the schema.
use Rattle.std.specs.Prelude.{◌≡◌, ℕ, List, find, bytes_eq, refl, false, Option, Some, None, option_map, option_and_then}
use Rattle.std.specs.Option.{option_map_or}
use Rattle.std.proofs.Common.{ap, sym, ◌∙◌}
use Rattle.std.proofs.lemmas.Slice.Eq.{bytes_eq-Decides}
use Rattle.gql_ast.specs.declared.definition.Document.{Document}
use Rattle.gql_ast.specs.declared.executable.OperationKind.TheVariants as operation
use Rattle.gql_ast.specs.declared.type_system.FieldDefinition.{FieldDefinition}
use Rattle.gql_built_in.specs.declared.sited.Sited.{Sited}
use Rattle.gql_types.specs.Kinds.{is_composite, same_operation}
use Rattle.gql_types.specs.Schemas.{type_named, directive_named, root_of, possible_named, inputs_by, values_by}
use Rattle.gql_types.specs.declared.roots.Root.{Root}
use Rattle.gql_types.specs.declared.schema.Schema.{Schema}
use Rattle.gql_types.specs.declared.schema_type.SchemaType.{SchemaType}
use Rattle.gql_facts.specs.declared.fact.Fact.{Fact}
use Rattle.gql_facts.specs.declared.fact.Fact.TheVariants as fact
use Rattle.gql_facts.specs.declared.key.Key.{Key}
use Rattle.gql_facts.specs.declared.key.Key.TheVariants as key
use Rattle.gql_facts.specs.declared.schema_facts.TypeEntry.{TypeEntry}
use Rattle.gql_facts.specs.declared.schema_facts.FieldEntry.{FieldEntry}
use Rattle.gql_facts.specs.declared.schema_facts.DirectiveEntry.{DirectiveEntry}
use Rattle.gql_facts.specs.declared.schema_facts.RootEntry.{RootEntry}
use Rattle.gql_facts.specs.Tables.{kept_fact, tables_of, type_entry, field_entry, directive_entry, root_entry, type_in, field_in, is_composite_in, is_query_root_in}
use Rattle.gql_facts.specs.Facts.{answer, meta_fields, field_by, is_composite_type, is_query_root, fact_in, fragments, field_fact, input_facts, value_names}
use Rattle.gql_facts.specs.ListMembers.{found_in, find_map}

-- ---- the answers of a schema's tables

module _ (s : Schema) where
  the_type : (t : List ℕ) → type_in (tables_of s) t ≡ option_map (type_entry s) (type_named s t)
  the_type t = find_map (λ (e : TypeEntry). bytes_eq t e.name) (type_entry s) s.types

  kind_kept : (o : Option SchemaType) → answer (λ (e : TypeEntry). fact.Kind e.kind) (option_map (type_entry s) o) ≡ answer fact.Kind (option_map (λ (t : SchemaType). t.kind) o)
  kind_kept None = refl
  kind_kept (Some x) = refl

  entry_kept : (o : Option (Sited FieldDefinition)) → answer (λ (e : FieldEntry). fact.Field e.fact) (option_map field_entry o) ≡ answer (λ (d : Sited FieldDefinition). fact.Field (field_fact d)) o
  entry_kept None = refl
  entry_kept (Some x) = refl

  field_kept : (n : List ℕ) (o : Option SchemaType) →
      answer (λ (e : FieldEntry). fact.Field e.fact) (option_and_then (λ (e : TypeEntry). find (λ (x : FieldEntry). bytes_eq n x.name) e.fields) (option_map (type_entry s) o))
      ≡ answer (λ (d : Sited FieldDefinition). fact.Field (field_fact d)) (option_and_then (λ (t : SchemaType). find (λ (f : Sited FieldDefinition). bytes_eq n f.node.name.text) t.fields) o)
  field_kept n None = refl
  field_kept n (Some x) = ap (answer (λ (e : FieldEntry). fact.Field e.fact)) (find_map (λ (e : FieldEntry). bytes_eq n e.name) field_entry x.fields)
      ∙ entry_kept (find (λ (f : Sited FieldDefinition). bytes_eq n f.node.name.text) x.fields)

  possible_kept : (t : List ℕ) (o : Option SchemaType) → ((x : SchemaType) → o ≡ Some x → x.definition.node.name.text ≡ t) →
      answer fact.Possible (option_and_then (λ (e : TypeEntry). e.possible) (option_map (type_entry s) o)) ≡ answer fact.Possible (option_and_then (λ (x : SchemaType). possible_named s t) o)
  possible_kept t None named = refl
  possible_kept t (Some x) named = ap (λ n. answer fact.Possible (possible_named s n)) (named x refl)

  type_name : (t : List ℕ) (x : SchemaType) → type_named s t ≡ Some x → x.definition.node.name.text ≡ t
  type_name t x e = sym ((bytes_eq-Decides t x.definition.node.name.text).0 (found_in (λ (y : SchemaType). bytes_eq t y.definition.node.name.text) s.types x e).1)

  maps : {A B : Type 0} (f : B → Fact) (g : A → B) (o : Option A) → answer f (option_map g o) ≡ answer (λ x. f (g x)) o
  maps f g None = refl
  maps f g (Some x) = refl

  input_kept : (o : Option SchemaType) → answer fact.Input (option_and_then (λ (e : TypeEntry). e.inputs) (option_map (type_entry s) o))
      ≡ answer (λ ds. fact.Input (input_facts ds)) (option_and_then (λ (t : SchemaType). inputs_by t.kind t) o)
  input_kept None = refl
  input_kept (Some x) = maps fact.Input input_facts (inputs_by x.kind x)

  enum_kept : (o : Option SchemaType) → answer fact.Enum (option_and_then (λ (e : TypeEntry). e.values) (option_map (type_entry s) o))
      ≡ answer (λ vs. fact.Enum (value_names vs)) (option_and_then (λ (t : SchemaType). values_by t.kind t) o)
  enum_kept None = refl
  enum_kept (Some x) = maps fact.Enum value_names (values_by x.kind x)

  composite_by : (o : Option SchemaType) → option_map_or (λ (e : TypeEntry). is_composite e.kind) (option_map (type_entry s) o) false ≡ option_map_or is_composite (option_map (λ (t : SchemaType). t.kind) o) false
  composite_by None = refl
  composite_by (Some x) = refl

  composite_kept : (t : List ℕ) → is_composite_in (tables_of s) t ≡ is_composite_type s t
  composite_kept t = ap (λ o. option_map_or (λ (e : TypeEntry). is_composite e.kind) o false) (the_type t) ∙ composite_by (type_named s t)

  root_by : (t : List ℕ) (o : Option Root) → option_map_or (λ (r : RootEntry). bytes_eq t r.name) (option_map root_entry o) false ≡ option_map_or (λ (r : Root). bytes_eq t r.name.node.text) o false
  root_by t None = refl
  root_by t (Some x) = refl

  root_kept : (t : List ℕ) → is_query_root_in (tables_of s) t ≡ is_query_root s t
  root_kept t = ap (λ o. option_map_or (λ (r : RootEntry). bytes_eq t r.name) o false) (find_map (λ (e : RootEntry). same_operation operation.Query e.kind) root_entry s.roots)
      ∙ root_by t (root_of s operation.Query)

  -- the tables of a schema, with the fragments of these files, answer what the schema and the files
  -- do
  pub tables_answer : (documents : List (List ℕ × Document)) (k : Key) → kept_fact (tables_of s) (fragments documents) k ≡ fact_in s documents k
  tables_answer documents (key.KindOf t) = ap (answer (λ (e : TypeEntry). fact.Kind e.kind)) (the_type t) ∙ kind_kept (type_named s t)
  tables_answer documents (key.FieldOf t n) = ap (λ b. field_by meta_fields n b (is_query_root_in (tables_of s) t) (answer (λ (e : FieldEntry). fact.Field e.fact) (field_in (tables_of s) t n))) (composite_kept t)
      ∙ ap (λ b. field_by meta_fields n (is_composite_type s t) b (answer (λ (e : FieldEntry). fact.Field e.fact) (field_in (tables_of s) t n))) (root_kept t)
      ∙ ap (field_by meta_fields n (is_composite_type s t) (is_query_root s t))
      (ap (λ o. answer (λ (e : FieldEntry). fact.Field e.fact) (option_and_then (λ (e : TypeEntry). find (λ (x : FieldEntry). bytes_eq n x.name) e.fields) o)) (the_type t)
      ∙ field_kept n (type_named s t))
  tables_answer documents (key.PossibleOf t) = ap (λ o. answer fact.Possible (option_and_then (λ (e : TypeEntry). e.possible) o)) (the_type t) ∙ possible_kept t (type_named s t) (type_name t)
  tables_answer documents (key.InputOf t) = ap (λ o. answer fact.Input (option_and_then (λ (e : TypeEntry). e.inputs) o)) (the_type t) ∙ input_kept (type_named s t)
  tables_answer documents (key.EnumOf t) = ap (λ o. answer fact.Enum (option_and_then (λ (e : TypeEntry). e.values) o)) (the_type t) ∙ enum_kept (type_named s t)
  tables_answer documents (key.DirectiveOf n) = ap (answer (λ (d : DirectiveEntry). fact.Directive d.fact)) (find_map (λ (e : DirectiveEntry). bytes_eq n e.name) directive_entry s.directives)
      ∙ maps (λ (d : DirectiveEntry). fact.Directive d.fact) directive_entry (directive_named s n)
  tables_answer documents (key.RootOf k) = ap (answer (λ (r : RootEntry). fact.Root r.name)) (find_map (λ (e : RootEntry). same_operation k e.kind) root_entry s.roots)
      ∙ maps (λ (r : RootEntry). fact.Root r.name) root_entry (root_of s k)
  tables_answer documents (key.FragmentOf n) = refl
