-- Answers of a type, whose nodes are nodes of the schema.
use Rattle.std.specs.Prelude.{◌≡◌, ◌&&◌, ℕ, List, [], map, Bool, true, false, not, codes, Option, Some, None, is_some, option_and_then, option_map, bytes_eq, if◌then◌else◌, Contains, refl}
use Rattle.std.specs.Option.{option_map_or}
use Rattle.std.proofs.Common.{ap, sym, subst, ◌∙◌, inl, inr, true≢false}
use Rattle.gql_ast.specs.declared.executable.OperationKind.{OperationKind}
use Rattle.gql_ast.specs.declared.literal.Literal.{Literal}
use Rattle.gql_ast.specs.declared.text.Name.{Name}
use Rattle.gql_ast.specs.declared.type_system.DirectiveDefinition.{DirectiveDefinition}
use Rattle.gql_ast.specs.declared.type_system.EnumValueDefinition.{EnumValueDefinition}
use Rattle.gql_ast.specs.declared.type_system.FieldDefinition.{FieldDefinition}
use Rattle.gql_ast.specs.declared.type_system.InputValueDefinition.{InputValueDefinition}
use Rattle.gql_built_in.specs.declared.sited.Sited.{Sited}
use Rattle.gql_types.specs.Schemas.{possible_named, root_of, type_named}
use Rattle.gql_types.specs.Written.{Written, named, listed, required}
use Rattle.gql_types.specs.declared.kind.TypeKind.{TypeKind}
use Rattle.gql_types.specs.declared.kind.TypeKind.TheVariants as kind
use Rattle.gql_types.specs.declared.roots.Root.{Root}
use Rattle.gql_types.specs.declared.schema.Schema.{Schema}
use Rattle.gql_types.specs.declared.schema_type.SchemaType.{SchemaType}
use Rattle.gql_intro.specs.AnswerTypes.{HasType, HasValue, of_null, of_non_null, of_text, of_truth, of_enum_name, of_enum_names, of_node, of_nodes, type_name_of}
use Rattle.gql_intro.specs.Applied.{is_deprecated}
use Rattle.gql_intro.specs.Introspection.{arguments_of, default_text, fields_of, inputs_of, interfaces_of, possible_nodes, possible_of, root_node, shown_field, shown_input, shown_value, values_of}
use Rattle.gql_intro.specs.Nodes as n
use Rattle.gql_intro.specs.Nodes.{Node, Answer, null, text, truth, enum_name, enum_names, node, nodes, optional_text, optional_node, nodes_of, named_node, type_node}
use Rattle.gql_intro.specs.SchemaNodes.{AreNodesOf, HasTypeNamed, IsInputOf, of_input_object, IsKnown, IsNodeOf}
use Rattle.gql_intro.proofs.Containing.{Contains-cases, Contains-map, Contains-nil, Contains-options_from, found, none_some, some_same}

is_null : Answer → Bool
is_null null = true
is_null (text t) = false
is_null (truth b) = false
is_null (enum_name t) = false
is_null (enum_names t) = false
is_null (node x) = false
is_null (nodes xs) = false

module _ (s : Schema) where
  -- an answer of this type, whose nodes are nodes of the schema
  abbrev pub IsAnswer : Written → Answer → Type 0
  IsAnswer t a = HasType s t a × AreNodesOf s a

  -- an object of this type, and a node of the schema
  abbrev pub IsObject : List ℕ → Node → Type 0
  IsObject of_type x = (type_name_of x ≡ Some of_type) × IsNodeOf s x

  -- ---- at a Non-Null type

  non_null : {t : Written} {a : Answer} → is_null a ≡ false → HasType s t a → HasType s (required t) a
  unfolding is_null
  non_null some has = of_non_null has (λ e. true≢false (ap is_null (sym e) ∙ some))

  -- ---- null, texts and truth values

  pub null_answer : (of_type : List ℕ) → IsAnswer (named of_type) null
  null_answer of_type = (of_null refl, λ m h. absurd (Contains-nil m h))

  pub null_list : (t : Written) → IsAnswer (listed t) null
  null_list t = (of_null refl, λ m h. absurd (Contains-nil m h))

  pub text_answer : (t : List ℕ) → IsAnswer (named (codes "String")) (text t)
  text_answer t = (of_text, λ m h. absurd (Contains-nil m h))

  pub required_text : (t : List ℕ) → IsAnswer (required (named (codes "String"))) (text t)
  unfolding is_null
  required_text t = (non_null refl of_text, λ m h. absurd (Contains-nil m h))

  pub optional_text_answer : (t : Option (List ℕ)) → IsAnswer (named (codes "String")) (optional_text t)
  optional_text_answer None = null_answer (codes "String")
  optional_text_answer (Some t) = text_answer t

  pub default_answer : (d : Option Literal) → IsAnswer (named (codes "String")) (default_text d)
  default_answer None = null_answer (codes "String")
  default_answer (Some x) = (of_text, λ m h. absurd (Contains-nil m h))

  pub truth_answer : (b : Bool) → IsAnswer (required (named (codes "Boolean"))) (truth b)
  unfolding is_null
  truth_answer b = (non_null refl of_truth, λ m h. absurd (Contains-nil m h))

  -- ---- values of enums

  pub value_answer : (enum name : List ℕ) → HasValue s enum name → IsAnswer (required (named enum)) (enum_name name)
  unfolding is_null
  value_answer enum name has = (non_null refl (of_enum_name has), λ m h. absurd (Contains-nil m h))

  pub values_answer : (enum : List ℕ) (names : List (List ℕ)) → ((name : List ℕ) → Contains names name → HasValue s enum name)
      → IsAnswer (required (listed (required (named enum)))) (enum_names names)
  unfolding is_null
  values_answer enum names each = (non_null refl (of_enum_names (λ name h. non_null refl (of_enum_name (each name h)))), λ m h. absurd (Contains-nil m h))

  -- ---- nodes

  one_node : (of_type : List ℕ) (x : Node) → IsObject of_type x → AreNodesOf s (node x)
  one_node of_type x object m h = elim (Contains-cases m x [] h) [
    | inl e ↦ subst (IsNodeOf s) (sym e) object.1
    | inr none ↦ absurd (Contains-nil m none)
  ]

  pub node_answer : (of_type : List ℕ) (x : Node) → IsObject of_type x → IsAnswer (named of_type) (node x)
  node_answer of_type x object = (of_node object.0, one_node of_type x object)

  pub required_node : (of_type : List ℕ) (x : Node) → IsObject of_type x → IsAnswer (required (named of_type)) (node x)
  unfolding is_null
  required_node of_type x object = (non_null refl (of_node object.0), one_node of_type x object)

  pub optional_node_answer : (of_type : List ℕ) (o : Option Node) → ((x : Node) → o ≡ Some x → IsObject of_type x) → IsAnswer (named of_type) (optional_node o)
  optional_node_answer of_type None each = null_answer of_type
  optional_node_answer of_type (Some x) each = node_answer of_type x (each x refl)

  pub known_node_answer : (of_type : List ℕ) (o : Option Node) → is_some o ≡ true → ((x : Node) → o ≡ Some x → IsObject of_type x) → IsAnswer (required (named of_type)) (optional_node o)
  known_node_answer of_type None is each = absurd (true≢false (sym is))
  known_node_answer of_type (Some x) is each = required_node of_type x (each x refl)

  pub list_answer : {A : Type 0} (of_type : List ℕ) (f : A → Option Node) (xs : List A)
      → ((y : A) → Contains xs y → (x : Node) → f y ≡ Some x → IsObject of_type x) → IsAnswer (listed (required (named of_type))) (nodes_of (map f xs))
  unfolding is_null
  list_answer of_type f xs each = (
    of_nodes (λ x h. let r = Contains-options_from f xs x h in non_null refl (of_node (each r.0 r.1 x r.2).0)),
    λ x h. let r = Contains-options_from f xs x h in (each r.0 r.1 x r.2).1,
  )

  pub required_list : {A : Type 0} (of_type : List ℕ) (f : A → Option Node) (xs : List A)
      → ((y : A) → Contains xs y → (x : Node) → f y ≡ Some x → IsObject of_type x) → IsAnswer (required (listed (required (named of_type)))) (nodes_of (map f xs))
  unfolding is_null
  required_list of_type f xs each = let r = list_answer of_type f xs each in (non_null refl r.0, r.1)

  -- ---- types

  pub named_object : (name : List ℕ) (x : Node) → named_node s name ≡ Some x → IsObject (codes "__Type") x
  named_object name x is = by (type_named s name) refl is where
    by : (o : Option SchemaType) → type_named s name ≡ o → option_map n.named_type o ≡ Some x → IsObject (codes "__Type") x
    by None none h = absurd (none_some x h)
    by (Some t) some h = subst (IsObject (codes "__Type")) (some_same (n.named_type t) x h) (refl, (found (λ (u : SchemaType). bytes_eq name u.definition.node.name.text) s.types t some).0)

  pub is_named_node : (name : List ℕ) → HasTypeNamed s name → is_some (named_node s name) ≡ true
  is_named_node name known = by (type_named s name) known where
    by : (o : Option SchemaType) → is_some o ≡ true → is_some (option_map n.named_type o) ≡ true
    by None is = absurd (true≢false (sym is))
    by (Some t) is = refl

  pub type_object : (t : Written) → IsKnown s t → (x : Node) → type_node s t ≡ Some x → IsObject (codes "__Type") x
  type_object (named name) known x is = named_object name x is
  type_object (listed item) known x is = subst (IsObject (codes "__Type")) (some_same (n.list_type item) x is) (refl, known)
  type_object (required nullable) known x is = subst (IsObject (codes "__Type")) (some_same (n.non_null_type nullable) x is) (refl, known)

  pub is_type_node : (t : Written) → IsKnown s t → is_some (type_node s t) ≡ true
  is_type_node (named name) known = is_named_node name known
  is_type_node (listed item) known = refl
  is_type_node (required nullable) known = refl

  pub root_object : (k : OperationKind) (x : Node) → root_node s k ≡ Some x → IsObject (codes "__Type") x
  root_object k x is = by (root_of s k) is where
    by : (o : Option Root) → option_and_then (λ (r : Root). named_node s r.name.node.text) o ≡ Some x → IsObject (codes "__Type") x
    by None h = absurd (none_some x h)
    by (Some r) h = named_object r.name.node.text x h

  pub is_root_node : (k : OperationKind) (r : Root) → root_of s k ≡ Some r → HasTypeNamed s r.name.node.text → is_some (root_node s k) ≡ true
  is_root_node k r root known = ap (λ o. is_some (option_and_then (λ (r : Root). named_node s r.name.node.text) o)) root ∙ is_named_node r.name.node.text known

  -- ---- the parts of a type

  module _ (t : SchemaType) (has : Contains s.types t) (deprecated : Bool) where
    field_object : (g : Sited FieldDefinition) → Contains t.fields g → (x : Node) → shown_field deprecated g ≡ Some x → IsObject (codes "__Field") x
    field_object g there x is = by (not deprecated && is_deprecated g.node.directives) is where
      by : (b : Bool) → (if b then None else Some (n.field g.node)) ≡ Some x → IsObject (codes "__Field") x
      by true h = absurd (none_some x h)
      by false h = subst (IsObject (codes "__Field")) (some_same (n.field g.node) x h) (refl, (t, has, Contains-map (λ (d : Sited FieldDefinition). d.node) t.fields g there))

    value_object : (v : Sited EnumValueDefinition) → Contains t.values v → (x : Node) → shown_value deprecated v ≡ Some x → IsObject (codes "__EnumValue") x
    value_object v there x is = by (not deprecated && is_deprecated v.node.directives) is where
      by : (b : Bool) → (if b then None else Some (n.enum_value v.node)) ≡ Some x → IsObject (codes "__EnumValue") x
      by true h = absurd (none_some x h)
      by false h = subst (IsObject (codes "__EnumValue")) (some_same (n.enum_value v.node) x h) (refl, (t, has, Contains-map (λ (d : Sited EnumValueDefinition). d.node) t.values v there))

    abbrev ListOf : List ℕ → Written
    ListOf of_type = listed (required (named of_type))

    pub fields_answer : (k : TypeKind) → IsAnswer (ListOf (codes "__Field")) (fields_of k deprecated t)
    fields_answer kind.Object = list_answer (codes "__Field") (shown_field deprecated) t.fields field_object
    fields_answer kind.Interface = list_answer (codes "__Field") (shown_field deprecated) t.fields field_object
    fields_answer kind.Scalar = null_list (required (named (codes "__Field")))
    fields_answer kind.Union = null_list (required (named (codes "__Field")))
    fields_answer kind.Enum = null_list (required (named (codes "__Field")))
    fields_answer kind.InputObject = null_list (required (named (codes "__Field")))

    pub values_answers : (k : TypeKind) → IsAnswer (ListOf (codes "__EnumValue")) (values_of k deprecated t)
    values_answers kind.Enum = list_answer (codes "__EnumValue") (shown_value deprecated) t.values value_object
    values_answers kind.Scalar = null_list (required (named (codes "__EnumValue")))
    values_answers kind.Object = null_list (required (named (codes "__EnumValue")))
    values_answers kind.Interface = null_list (required (named (codes "__EnumValue")))
    values_answers kind.Union = null_list (required (named (codes "__EnumValue")))
    values_answers kind.InputObject = null_list (required (named (codes "__EnumValue")))

  -- ---- arguments and input fields

  input_object : (deprecated : Bool) (d : InputValueDefinition) → IsInputOf s d → (x : Node) → shown_input deprecated d ≡ Some x → IsObject (codes "__InputValue") x
  input_object deprecated d of_schema x is = by (not deprecated && is_deprecated d.directives) is where
    by : (b : Bool) → (if b then None else Some (n.input_value d)) ≡ Some x → IsObject (codes "__InputValue") x
    by true h = absurd (none_some x h)
    by false h = subst (IsObject (codes "__InputValue")) (some_same (n.input_value d) x h) (refl, of_schema)

  pub arguments_answer : (deprecated : Bool) (ds : List InputValueDefinition) → ((d : InputValueDefinition) → Contains ds d → IsInputOf s d)
      → IsAnswer (required (listed (required (named (codes "__InputValue"))))) (arguments_of deprecated ds)
  arguments_answer deprecated ds each = required_list (codes "__InputValue") (shown_input deprecated) ds (λ d there x is. input_object deprecated d (each d there) x is)

  pub inputs_answer : (t : SchemaType) → Contains s.types t → (deprecated : Bool) (k : TypeKind) → IsAnswer (listed (required (named (codes "__InputValue")))) (inputs_of k deprecated t)
  inputs_answer t has deprecated kind.InputObject = list_answer (codes "__InputValue") (λ (d : Sited InputValueDefinition). shown_input deprecated d.node) t.input_fields
      (λ d there x is. input_object deprecated d.node (of_input_object t has (Contains-map (λ (e : Sited InputValueDefinition). e.node) t.input_fields d there)) x is)
  inputs_answer t has deprecated kind.Scalar = null_list (required (named (codes "__InputValue")))
  inputs_answer t has deprecated kind.Object = null_list (required (named (codes "__InputValue")))
  inputs_answer t has deprecated kind.Interface = null_list (required (named (codes "__InputValue")))
  inputs_answer t has deprecated kind.Union = null_list (required (named (codes "__InputValue")))
  inputs_answer t has deprecated kind.Enum = null_list (required (named (codes "__InputValue")))

  pub directives_answer : IsAnswer (required (listed (required (named (codes "__Directive")))))
      (nodes_of (map (λ (d : Sited DirectiveDefinition). Some (n.directive d.node)) s.directives))
  directives_answer = required_list (codes "__Directive") (λ (d : Sited DirectiveDefinition). Some (n.directive d.node)) s.directives
      (λ d there x is. subst (IsObject (codes "__Directive")) (some_same (n.directive d.node) x is) (refl, Contains-map (λ (e : Sited DirectiveDefinition). e.node) s.directives d there))

  -- ---- interfaces and possible types

  abbrev types : Written
  types = listed (required (named (codes "__Type")))

  interface_list : (t : SchemaType) → IsAnswer types (nodes_of (map (λ (i : Sited Name). named_node s i.node.text) t.interfaces))
  interface_list t = list_answer (codes "__Type") (λ (i : Sited Name). named_node s i.node.text) t.interfaces (λ i there x is. named_object i.node.text x is)

  pub interfaces_answer : (t : SchemaType) (k : TypeKind) → IsAnswer types (interfaces_of k s t)
  interfaces_answer t kind.Object = interface_list t
  interfaces_answer t kind.Interface = interface_list t
  interfaces_answer t kind.Scalar = null_list (required (named (codes "__Type")))
  interfaces_answer t kind.Union = null_list (required (named (codes "__Type")))
  interfaces_answer t kind.Enum = null_list (required (named (codes "__Type")))
  interfaces_answer t kind.InputObject = null_list (required (named (codes "__Type")))

  pub all_types_answer : (names : List (List ℕ)) → IsAnswer (required types) (nodes_of (map (named_node s) names))
  all_types_answer names = required_list (codes "__Type") (named_node s) names (λ name there x is. named_object name x is)

  pub names_answer : (names : List (List ℕ)) → IsAnswer types (nodes_of (map (named_node s) names))
  names_answer names = list_answer (codes "__Type") (named_node s) names (λ name there x is. named_object name x is)

  possible_list : (t : SchemaType) → IsAnswer types (possible_nodes s t)
  possible_list t = by (possible_named s t.definition.node.name.text) where
    by : (o : Option (List (List ℕ))) → IsAnswer types (option_map_or (λ (names : List (List ℕ)). nodes_of (map (named_node s) names)) o null)
    by None = null_list (required (named (codes "__Type")))
    by (Some names) = names_answer names

  pub possible_answer : (t : SchemaType) (k : TypeKind) → IsAnswer types (possible_of k s t)
  possible_answer t kind.Interface = possible_list t
  possible_answer t kind.Union = possible_list t
  possible_answer t kind.Scalar = null_list (required (named (codes "__Type")))
  possible_answer t kind.Object = null_list (required (named (codes "__Type")))
  possible_answer t kind.Enum = null_list (required (named (codes "__Type")))
  possible_answer t kind.InputObject = null_list (required (named (codes "__Type")))
