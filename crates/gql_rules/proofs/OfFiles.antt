-- What the answers of files say of input types is what their schema says.
use Rattle.std.specs.Prelude.{◌≡◌, ℕ, List, [], ◌∷◌, map, refl, bytes_eq, codes, is_some, Bool, Option, Some, None}
use Rattle.std.specs.Option.{option_map, option_and_then}
use Rattle.std.proofs.Common.{ap, ◌∙◌}
use Rattle.std.proofs.lemmas.Slice.Eq.{bytes_eq-Decides}
use Rattle.gql_ast.specs.declared.files.Files.{Files}
use Rattle.gql_ast.specs.declared.type_system.InputValueDefinition.{InputValueDefinition}
use Rattle.gql_built_in.specs.declared.sited.Sited.{Sited}
use Rattle.gql_types.specs.Schemas.{schema_of, type_named, inputs_by, values_by}
use Rattle.gql_types.specs.Written.{Written, written}
use Rattle.gql_types.specs.declared.kind.TypeKind.{TypeKind}
use Rattle.gql_types.specs.declared.kind.TypeKind.TheVariants as kind
use Rattle.gql_types.specs.declared.schema_type.SchemaType.{SchemaType}
use Rattle.gql_types.proofs.Wrapping.{typed_back}
use Rattle.gql_facts.specs.Facts.{answer, fact_of, input_fact, input_facts, value_names}
use Rattle.gql_facts.specs.Floats.{is_open_in}
use Rattle.gql_facts.specs.ListMembers.{found_in}
use Rattle.gql_facts.specs.declared.fact.Fact.TheVariants as fact
use Rattle.gql_inputs.specs.InputTypes.{is_open, name_of, scalar_named}
use Rattle.gql_inputs.specs.Lookups.{FieldForm, scalar, input_object, form_of, form_at, in_schema}
use Rattle.gql_inputs.specs.Lookups as lookups
use Rattle.gql_rules.specs.Answers.{kind_in}
use Rattle.gql_rules.specs.KnownInputs.{known_inputs, form_by, field_of}

-- a field of an input object, of this type
abbrev field_with : Sited InputValueDefinition → Written → FieldForm
field_with d t = record {
  name = d.node.name.text;
  of_type = t;
  has_default = is_some d.node.default;
}

field_same : (d : Sited InputValueDefinition) → field_of (input_fact d.node) ≡ lookups.field_of d
field_same d = ap (field_with d) (typed_back (written d.node.of_type))

fields_same : (ds : List (Sited InputValueDefinition)) → map field_of (input_facts ds) ≡ map lookups.field_of ds
fields_same [] = refl
fields_same (d ∷ ds) = ap (λ f. f ∷ map field_of (input_facts ds)) (field_same d) ∙ ap (λ l. lookups.field_of d ∷ l) (fields_same ds)

-- a type of this name, by its kind
by_kind : (floats : Bool) (name : List ℕ) (t : SchemaType) (k : TypeKind) → name ≡ name_of t
    → form_by floats name (Some k) (answer (λ ds. fact.Input (input_facts ds)) (inputs_by k t)) (answer (λ vs. fact.Enum (value_names vs)) (values_by k t))
    ≡ form_at floats t k
by_kind floats name t kind.Scalar is = ap (λ n. Some (scalar (scalar_named floats n))) is
by_kind floats name t kind.Enum is = refl
by_kind floats name t kind.InputObject is = ap (λ fs. Some (input_object fs)) (fields_same t.input_fields)
by_kind floats name t kind.Object is = refl
by_kind floats name t kind.Interface is = refl
by_kind floats name t kind.Union is = refl

-- a name, by the type that has it
by_type : (floats : Bool) (name : List ℕ) (o : Option SchemaType) → ((t : SchemaType) → o ≡ Some t → name ≡ name_of t)
    → form_by floats name (kind_in (answer fact.Kind (option_map (λ (t : SchemaType). t.kind) o)))
    (answer (λ ds. fact.Input (input_facts ds)) (option_and_then (λ (t : SchemaType). inputs_by t.kind t) o))
    (answer (λ vs. fact.Enum (value_names vs)) (option_and_then (λ (t : SchemaType). values_by t.kind t) o))
    ≡ option_and_then (form_of floats) o
by_type floats name None is = refl
by_type floats name (Some t) is = by_kind floats name t t.kind (is t refl)

-- a type has a kind, if it is known
has_kind : (o : Option SchemaType) → is_some (kind_in (answer fact.Kind (option_map (λ (t : SchemaType). t.kind) o))) ≡ is_some o
has_kind None = refl
has_kind (Some t) = refl

-- whether Float is a type is the same
same_open : (files : Files) → is_open_in (fact_of files) ≡ is_open (schema_of files)
same_open files = has_kind (type_named (schema_of files) (codes "Float"))

pub same_inputs : (files : Files) (name : List ℕ) → known_inputs (fact_of files) name ≡ in_schema (schema_of files) name
same_inputs files name = by_type (is_open_in (fact_of files)) name (type_named (schema_of files) name)
    (λ t found. (bytes_eq-Decides name (name_of t)).0 (found_in (λ (x : SchemaType). bytes_eq name x.definition.node.name.text) (schema_of files).types t found).1)
    ∙ ap (λ floats. option_and_then (form_of floats) (type_named (schema_of files) name)) (same_open files)
