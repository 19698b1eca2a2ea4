-- What each field of each type of introspection resolves to is of the field's type.
use Rattle.std.specs.Prelude.{◌≡◌, ℕ, List, map, Bool, true, codes, bytes_eq, Option, Some, is_some, Contains, refl}
use Rattle.std.specs.List.{AllByRecursion, list_any}
use Rattle.std.proofs.Common.{ap, sym, subst, ◌∙◌}
use Rattle.gql_ast.specs.declared.executable.OperationKind.{OperationKind}
use Rattle.gql_ast.specs.declared.executable.OperationKind.TheVariants as operation
use Rattle.gql_ast.specs.declared.type_system.DirectiveDefinition.{DirectiveDefinition}
use Rattle.gql_ast.specs.declared.type_system.DirectiveLocation.{DirectiveLocation}
use Rattle.gql_ast.specs.declared.type_system.DirectiveLocation.TheVariants as location
use Rattle.gql_ast.specs.declared.type_system.EnumValueDefinition.{EnumValueDefinition}
use Rattle.gql_ast.specs.declared.type_system.FieldDefinition.{FieldDefinition}
use Rattle.gql_ast.specs.declared.type_system.InputValueDefinition.{InputValueDefinition}
use Rattle.gql_built_in.specs.BuiltIn.{fields_of_schema, fields_of_type, fields_of_field, fields_of_input_value, fields_of_enum_value, fields_of_directive, type_kinds, directive_locations}
use Rattle.gql_built_in.specs.BuiltInWords as b
use Rattle.gql_built_in.specs.BuiltInWords.{nowhere, type_of, enum_value, field_with, word}
use Rattle.gql_built_in.specs.declared.sited.Sited.{Sited}
use Rattle.gql_types.specs.Written as w
use Rattle.gql_types.specs.Written.{Written, written, written_list, written_named, written_non_null}
use Rattle.gql_types.specs.declared.kind.TypeKind.{TypeKind}
use Rattle.gql_types.specs.declared.kind.TypeKind.TheVariants as kind
use Rattle.gql_types.specs.declared.schema.Schema.{Schema}
use Rattle.gql_types.specs.declared.schema_type.SchemaType.{SchemaType}
use Rattle.gql_intro.specs.AnswerTypes.{HasValue}
use Rattle.gql_intro.specs.Applied.{deprecation_reason, is_deprecated, specified_by_url}
use Rattle.gql_intro.specs.Introspection.{arguments_of, default_text, directive_rows, field_rows, fields_of, input_rows, inputs_of, interfaces_of, kind_name, location_name, possible_of, root_node, schema_rows, type_rows, value_rows, values_of, wrapper_rows}
use Rattle.gql_intro.specs.Nodes as n
use Rattle.gql_intro.specs.Nodes.{Node, Answer, Row, answer_in, null, text, truth, enum_name, node, nodes_of, named_node, optional_node, optional_text, type_node}
use Rattle.gql_intro.specs.SchemaNodes.{IsInputOf, IsKnown}
use Rattle.gql_intro.specs.declared.made.IntroSchema.{IntroSchema}
use Rattle.gql_intro.proofs.Answering.{IsAnswer, all_types_answer, arguments_answer, default_answer, directives_answer, fields_answer, inputs_answer, interfaces_answer, is_type_node, known_node_answer, null_answer, null_list, optional_node_answer, optional_text_answer, possible_answer, required_text, root_object, text_answer, truth_answer, type_object, value_answer, values_answer, values_answers}
use Rattle.gql_intro.proofs.Containing.{Contains-map_from}
use Rattle.gql_intro.proofs.Defined.{alone}

-- ---- built-in types, as they are written

written_word : (x : List ℕ) → written (b.named x) ≡ w.named x
unfolding b.named word
written_word x = written_named (word x)

written_required : (x : List ℕ) → written (b.required (b.named x)) ≡ w.required (w.named x)
unfolding b.required
written_required x = written_non_null (b.named x) ∙ ap w.required (written_word x)

written_list_of : (x : List ℕ) → written (b.list_of (b.named x)) ≡ w.listed (w.required (w.named x))
unfolding b.list
written_list_of x = written_list nowhere (b.required (b.named x)) ∙ ap w.listed (written_required x)

written_required_list_of : (x : List ℕ) → written (b.required_list_of (b.named x)) ≡ w.required (w.listed (w.required (w.named x)))
unfolding b.required
written_required_list_of x = written_non_null (b.list_of (b.named x)) ∙ ap w.required (written_list_of x)

-- ---- values of enums

pub kind_listed : (k : TypeKind) → list_any (bytes_eq (kind_name k)) (map (λ (v : Sited EnumValueDefinition). v.node.name.text) (alone type_kinds).values) ≡ true
unfolding type_kinds type_of enum_value word
kind_listed kind.Scalar = refl
kind_listed kind.Object = refl
kind_listed kind.Interface = refl
kind_listed kind.Union = refl
kind_listed kind.Enum = refl
kind_listed kind.InputObject = refl

pub list_listed : list_any (bytes_eq (codes "LIST")) (map (λ (v : Sited EnumValueDefinition). v.node.name.text) (alone type_kinds).values) ≡ true
unfolding type_kinds type_of enum_value word
list_listed = refl

pub non_null_listed : list_any (bytes_eq (codes "NON_NULL")) (map (λ (v : Sited EnumValueDefinition). v.node.name.text) (alone type_kinds).values) ≡ true
unfolding type_kinds type_of enum_value word
non_null_listed = refl

pub location_listed : (l : DirectiveLocation) → list_any (bytes_eq (location_name l)) (map (λ (v : Sited EnumValueDefinition). v.node.name.text) (alone directive_locations).values) ≡ true
unfolding directive_locations type_of enum_value word
location_listed location.Query = refl
location_listed location.Mutation = refl
location_listed location.Subscription = refl
location_listed location.Field = refl
location_listed location.FragmentDefinition = refl
location_listed location.FragmentSpread = refl
location_listed location.InlineFragment = refl
location_listed location.VariableDefinition = refl
location_listed location.Schema = refl
location_listed location.Scalar = refl
location_listed location.Object = refl
location_listed location.FieldDefinition = refl
location_listed location.ArgumentDefinition = refl
location_listed location.Interface = refl
location_listed location.Union = refl
location_listed location.Enum = refl
location_listed location.EnumValue = refl
location_listed location.InputObject = refl
location_listed location.InputFieldDefinition = refl

module _ (s : Schema) where
  -- the field of this definition resolves to an answer of its type
  abbrev pub Resolves : List Row → FieldDefinition → Type 0
  Resolves its_rows f = (a : Answer) × (answer_in its_rows f.name.text ≡ Some a) × IsAnswer s (written f.of_type) a

  word_answer : (x : List ℕ) (a : Answer) → IsAnswer s (w.named x) a → IsAnswer s (written (b.named x)) a
  word_answer x a h = subst (λ t. IsAnswer s t a) (sym (written_word x)) h

  required_answer : (x : List ℕ) (a : Answer) → IsAnswer s (w.required (w.named x)) a → IsAnswer s (written (b.required (b.named x))) a
  required_answer x a h = subst (λ t. IsAnswer s t a) (sym (written_required x)) h

  list_of_answer : (x : List ℕ) (a : Answer) → IsAnswer s (w.listed (w.required (w.named x))) a → IsAnswer s (written (b.list_of (b.named x))) a
  list_of_answer x a h = subst (λ t. IsAnswer s t a) (sym (written_list_of x)) h

  required_list_answer : (x : List ℕ) (a : Answer) → IsAnswer s (w.required (w.listed (w.required (w.named x)))) a → IsAnswer s (written (b.required_list_of (b.named x))) a
  required_list_answer x a h = subst (λ t. IsAnswer s t a) (sym (written_required_list_of x)) h

  -- a text, or null
  optional : (t : Option (List ℕ)) → IsAnswer s (written (b.named (codes "String"))) (optional_text t)
  optional t = word_answer (codes "String") (optional_text t) (optional_text_answer s t)

  name_of : (t : List ℕ) → IsAnswer s (written (b.required (b.named (codes "String")))) (text t)
  name_of t = required_answer (codes "String") (text t) (required_text s t)

  flag : (c : Bool) → IsAnswer s (written (b.required (b.named (codes "Boolean")))) (truth c)
  flag c = required_answer (codes "Boolean") (truth c) (truth_answer s c)

  -- ---- __Schema

  root_is : (k : OperationKind) → IsAnswer s (w.named (codes "__Type")) (optional_node (root_node s k))
  root_is k = optional_node_answer s (codes "__Type") (root_node s k) (root_object s k)

  abbrev directives : Answer
  directives = nodes_of (map (λ (d : Sited DirectiveDefinition). Some (n.directive d.node)) s.directives)

  pub schema_answers : (i : IntroSchema) → is_some (root_node s operation.Query) ≡ true → AllByRecursion (Resolves (schema_rows s i)) fields_of_schema
  unfolding fields_of_schema field_with word
  schema_answers i query = (
    (optional_text i.description, refl, optional i.description),
    (
      (nodes_of (map (named_node s) i.types), refl, required_list_answer (codes "__Type") (nodes_of (map (named_node s) i.types)) (all_types_answer s i.types)),
      (
        (optional_node (root_node s operation.Query), refl, required_answer (codes "__Type") (optional_node (root_node s operation.Query)) (known_node_answer s (codes "__Type") (root_node s operation.Query) query (root_object s operation.Query))),
        (
          (optional_node (root_node s operation.Mutation), refl, word_answer (codes "__Type") (optional_node (root_node s operation.Mutation)) (root_is operation.Mutation)),
          (
            (optional_node (root_node s operation.Subscription), refl, word_answer (codes "__Type") (optional_node (root_node s operation.Subscription)) (root_is operation.Subscription)),
            (
              (directives, refl, required_list_answer (codes "__Directive") directives (directives_answer s)),
              tt,
            ),
          ),
        ),
      ),
    ),
  )

  -- ---- __Type

  pub type_answers : (t : SchemaType) → Contains s.types t → (deprecated : Bool) → HasValue s (codes "__TypeKind") (kind_name t.kind) → AllByRecursion (Resolves (type_rows s t deprecated)) fields_of_type
  unfolding fields_of_type field_with word
  type_answers t has deprecated of_kind = (
    (enum_name (kind_name t.kind), refl, required_answer (codes "__TypeKind") (enum_name (kind_name t.kind)) (value_answer s (codes "__TypeKind") (kind_name t.kind) of_kind)),
    (
      (text t.definition.node.name.text, refl, word_answer (codes "String") (text t.definition.node.name.text) (text_answer s t.definition.node.name.text)),
      (
        (optional_text t.definition.node.description, refl, optional t.definition.node.description),
        (
          (fields_of t.kind deprecated t, refl, list_of_answer (codes "__Field") (fields_of t.kind deprecated t) (fields_answer s t has deprecated t.kind)),
          (
            (interfaces_of t.kind s t, refl, list_of_answer (codes "__Type") (interfaces_of t.kind s t) (interfaces_answer s t t.kind)),
            (
              (possible_of t.kind s t, refl, list_of_answer (codes "__Type") (possible_of t.kind s t) (possible_answer s t t.kind)),
              (
                (values_of t.kind deprecated t, refl, list_of_answer (codes "__EnumValue") (values_of t.kind deprecated t) (values_answers s t has deprecated t.kind)),
                (
                  (inputs_of t.kind deprecated t, refl, list_of_answer (codes "__InputValue") (inputs_of t.kind deprecated t) (inputs_answer s t has deprecated t.kind)),
                  (
                    (null, refl, word_answer (codes "__Type") null (null_answer s (codes "__Type"))),
                    (
                      (optional_text (specified_by_url t), refl, optional (specified_by_url t)),
                      tt,
                    ),
                  ),
                ),
              ),
            ),
          ),
        ),
      ),
    ),
  )

  pub wrapper_answers : (its_kind : List ℕ) (of_type : Written) → IsKnown s of_type → HasValue s (codes "__TypeKind") its_kind → AllByRecursion (Resolves (wrapper_rows s its_kind of_type)) fields_of_type
  unfolding fields_of_type field_with word
  wrapper_answers its_kind of_type known of_kind = (
    (enum_name its_kind, refl, required_answer (codes "__TypeKind") (enum_name its_kind) (value_answer s (codes "__TypeKind") its_kind of_kind)),
    (
      (null, refl, word_answer (codes "String") null (null_answer s (codes "String"))),
      (
        (null, refl, word_answer (codes "String") null (null_answer s (codes "String"))),
        (
          (null, refl, list_of_answer (codes "__Field") (null) (null_list s (w.required (w.named (codes "__Field"))))),
          (
            (null, refl, list_of_answer (codes "__Type") (null) (null_list s (w.required (w.named (codes "__Type"))))),
            (
              (null, refl, list_of_answer (codes "__Type") (null) (null_list s (w.required (w.named (codes "__Type"))))),
              (
                (null, refl, list_of_answer (codes "__EnumValue") (null) (null_list s (w.required (w.named (codes "__EnumValue"))))),
                (
                  (null, refl, list_of_answer (codes "__InputValue") (null) (null_list s (w.required (w.named (codes "__InputValue"))))),
                  (
                    (optional_node (type_node s of_type), refl, word_answer (codes "__Type") (optional_node (type_node s of_type)) (optional_node_answer s (codes "__Type") (type_node s of_type) (type_object s of_type known))),
                    (
                      (null, refl, word_answer (codes "String") null (null_answer s (codes "String"))),
                      tt,
                    ),
                  ),
                ),
              ),
            ),
          ),
        ),
      ),
    ),
  )

  -- ---- __Field

  pub field_answers : (f : FieldDefinition) → IsKnown s (written f.of_type) → (deprecated : Bool) → ((d : InputValueDefinition) → Contains f.arguments d → IsInputOf s d) → AllByRecursion (Resolves (field_rows s f deprecated)) fields_of_field
  unfolding fields_of_field field_with word
  field_answers f known deprecated each = (
    (text f.name.text, refl, name_of f.name.text),
    (
      (optional_text f.description, refl, optional f.description),
      (
        (arguments_of deprecated f.arguments, refl, required_list_answer (codes "__InputValue") (arguments_of deprecated f.arguments) (arguments_answer s deprecated f.arguments each)),
        (
          (optional_node (type_node s (written f.of_type)), refl, required_answer (codes "__Type") (optional_node (type_node s (written f.of_type))) (known_node_answer s (codes "__Type") (type_node s (written f.of_type)) (is_type_node s (written f.of_type) known) (type_object s (written f.of_type) known))),
          (
            (truth (is_deprecated f.directives), refl, flag (is_deprecated f.directives)),
            (
              (optional_text (deprecation_reason f.directives), refl, optional (deprecation_reason f.directives)),
              tt,
            ),
          ),
        ),
      ),
    ),
  )

  -- ---- __InputValue

  pub input_answers : (d : InputValueDefinition) → IsKnown s (written d.of_type) → AllByRecursion (Resolves (input_rows s d)) fields_of_input_value
  unfolding fields_of_input_value field_with word
  input_answers d known = (
    (text d.name.text, refl, name_of d.name.text),
    (
      (optional_text d.description, refl, optional d.description),
      (
        (optional_node (type_node s (written d.of_type)), refl, required_answer (codes "__Type") (optional_node (type_node s (written d.of_type))) (known_node_answer s (codes "__Type") (type_node s (written d.of_type)) (is_type_node s (written d.of_type) known) (type_object s (written d.of_type) known))),
        (
          (default_text d.default, refl, word_answer (codes "String") (default_text d.default) (default_answer s d.default)),
          (
            (truth (is_deprecated d.directives), refl, flag (is_deprecated d.directives)),
            (
              (optional_text (deprecation_reason d.directives), refl, optional (deprecation_reason d.directives)),
              tt,
            ),
          ),
        ),
      ),
    ),
  )

  -- ---- __EnumValue

  pub value_answers : (v : EnumValueDefinition) → AllByRecursion (Resolves (value_rows v)) fields_of_enum_value
  unfolding fields_of_enum_value field_with word
  value_answers v = (
    (text v.name.text, refl, name_of v.name.text),
    (
      (optional_text v.description, refl, optional v.description),
      (
        (truth (is_deprecated v.directives), refl, flag (is_deprecated v.directives)),
        (
          (optional_text (deprecation_reason v.directives), refl, optional (deprecation_reason v.directives)),
          tt,
        ),
      ),
    ),
  )

  -- ---- __Directive

  locations_answer : (ls : List DirectiveLocation) → ((l : DirectiveLocation) → HasValue s (codes "__DirectiveLocation") (location_name l))
      → IsAnswer s (w.required (w.listed (w.required (w.named (codes "__DirectiveLocation"))))) (n.enum_names (map location_name ls))
  locations_answer ls each = values_answer s (codes "__DirectiveLocation") (map location_name ls)
      (λ name h. let r = Contains-map_from location_name ls name h in subst (HasValue s (codes "__DirectiveLocation")) r.2 (each r.0))

  pub directive_answers : (d : DirectiveDefinition) → ((l : DirectiveLocation) → HasValue s (codes "__DirectiveLocation") (location_name l))
      → (deprecated : Bool) → ((x : InputValueDefinition) → Contains d.arguments x → IsInputOf s x) → AllByRecursion (Resolves (directive_rows d deprecated)) fields_of_directive
  unfolding fields_of_directive field_with word
  directive_answers d located deprecated each = (
    (text d.name.text, refl, name_of d.name.text),
    (
      (optional_text d.description, refl, optional d.description),
      (
        (n.enum_names (map location_name d.locations), refl, required_list_answer (codes "__DirectiveLocation") (n.enum_names (map location_name d.locations)) (locations_answer d.locations located)),
        (
          (arguments_of deprecated d.arguments, refl, required_list_answer (codes "__InputValue") (arguments_of deprecated d.arguments) (arguments_answer s deprecated d.arguments each)),
          (
            (truth d.is_repeatable, refl, flag d.is_repeatable),
            tt,
          ),
        ),
      ),
    ),
  )
