-- A field of any node of a schema resolves to an answer of the field's type.
use Rattle.std.specs.Prelude.{◌≡◌, ℕ, List, Bool, true, false, codes, Option, Some, None, is_some, option_and_then, if◌then◌else◌, refl}
use Rattle.std.specs.List.{AllByRecursion}
use Rattle.std.specs.Option.{option_map_or}
use Rattle.std.proofs.Common.{ap, sym, subst, ◌∙◌}
use Rattle.gql_ast.specs.declared.executable.OperationKind.TheVariants as operation
use Rattle.gql_ast.specs.declared.files.Files.{Files}
use Rattle.gql_ast.specs.declared.type_system.FieldDefinition.{FieldDefinition}
use Rattle.gql_built_in.specs.BuiltIn.{fields_of_schema, fields_of_type, fields_of_field, fields_of_input_value, fields_of_enum_value, fields_of_directive}
use Rattle.gql_built_in.specs.declared.sited.Sited.{Sited}
use Rattle.gql_types.specs.Schemas.{field_named, schema_of}
use Rattle.gql_types.specs.Written as w
use Rattle.gql_types.specs.Written.{Written, written, written_list, written_named, written_non_null}
use Rattle.gql_types.specs.declared.kind.TypeKind.{TypeKind}
use Rattle.gql_types.specs.declared.roots.Root.{Root}
use Rattle.gql_types.specs.declared.schema.Schema.{Schema}
use Rattle.gql_intro.specs.AnswerTypes.{HasField, own_field, typename_field, schema_field, type_field, HasType, HasValue, type_name_of}
use Rattle.gql_intro.specs.InFiles.{IsIntrospectable, resolve_in}
use Rattle.gql_intro.specs.Introspection.{Given, includes_deprecated, kind_name, location_name, root_node, rows, type_called}
use Rattle.gql_intro.specs.Made.{is_shown, made_of}
use Rattle.gql_intro.specs.Laws.{AnswersHaveTheirTypes}
use Rattle.gql_intro.specs.MetaFields.{meta_fields, named as n_type, word as n_word}
use Rattle.gql_intro.specs.Nodes as n
use Rattle.gql_intro.specs.Nodes.{Node, Answer, Row, answer_in, null, text, truth, enum_name, node, nodes_of, named_node, optional_node, optional_text, type_node}
use Rattle.gql_intro.specs.SchemaNodes.{AreNodesOf, of_field, of_directive, IsNodeOf}
use Rattle.gql_intro.specs.declared.made.IntroSchema.{IntroSchema}
use Rattle.gql_intro.proofs.Answering.{IsObject, is_root_node, named_object, optional_node_answer, required_node, required_text}
use Rattle.gql_intro.proofs.Containing.{each_has, none_some, some_same}
use Rattle.gql_intro.proofs.Defined.{HasFields, directive_fields, enum_value_fields, field_fields, input_value_fields, kind_value, location_value, schema_fields, type_fields}
use Rattle.gql_intro.proofs.Typed.{Resolves, directive_answers, field_answers, input_answers, kind_listed, list_listed, location_listed, non_null_listed, schema_answers, type_answers, value_answers, wrapper_answers}

module _ (files : Files) (given : Given) (holds : IsIntrospectable files) where
  abbrev s : Schema
  s = schema_of files

  abbrev i : IntroSchema
  i = made_of files s

  -- the field of this name resolves to an answer of this type
  abbrev Answered : Node → List ℕ → Written → Type 0
  Answered x name t = (a : Answer) × (resolve_in files given x name ≡ Some a) × HasType s t a × AreNodesOf s a

  listed_there : (x : Node) (listing : List ℕ) (fs : List FieldDefinition) → HasFields files holds.extends_no_reserved listing fs → AllByRecursion (Resolves s (rows s i given x)) fs
      → (of_type : List ℕ) → Some listing ≡ Some of_type → (name : List ℕ) (d : Sited FieldDefinition) → field_named s of_type name ≡ Some d → Answered x name (written d.node.of_type)
  listed_there x listing fs its_fields each of_type is name d at =
      let f = its_fields name d (subst (λ z. field_named s z name ≡ Some d) (sym (some_same listing of_type is)) at) in
      let r = each_has (Resolves s (rows s i given x)) fs d.node each f.0 in
      (r.0, ap (answer_in (rows s i given x)) f.1 ∙ r.1, r.2.0, r.2.1)

  its_kind : (k : TypeKind) → HasValue s (codes "__TypeKind") (kind_name k)
  its_kind k = kind_value files holds.extends_no_reserved (kind_name k) (kind_listed k)

  query_type : is_some (root_node s operation.Query) ≡ true
  query_type = let q = holds.has_query_root in is_root_node s operation.Query q.0 q.1 q.2

  own : (x : Node) → IsNodeOf s x → (of_type : List ℕ) → type_name_of x ≡ Some of_type → (name : List ℕ) (d : Sited FieldDefinition) → field_named s of_type name ≡ Some d → Answered x name (written d.node.of_type)
  own n.query_root there of_type is name d at = absurd (none_some of_type is)
  own n.schema there of_type is name d at =
      listed_there n.schema (codes "__Schema") fields_of_schema (schema_fields files holds.extends_no_reserved) (schema_answers s i query_type) of_type is name d at
  own (n.named_type t) there of_type is name d at =
      listed_there (n.named_type t) (codes "__Type") fields_of_type (type_fields files holds.extends_no_reserved) (type_answers s t there (includes_deprecated given) (its_kind t.kind)) of_type is name d at
  own (n.list_type item) there of_type is name d at =
      listed_there (n.list_type item) (codes "__Type") fields_of_type (type_fields files holds.extends_no_reserved)
      (wrapper_answers s (codes "LIST") item there (kind_value files holds.extends_no_reserved (codes "LIST") list_listed)) of_type is name d at
  own (n.non_null_type nullable) there of_type is name d at =
      listed_there (n.non_null_type nullable) (codes "__Type") fields_of_type (type_fields files holds.extends_no_reserved)
      (wrapper_answers s (codes "NON_NULL") nullable there (kind_value files holds.extends_no_reserved (codes "NON_NULL") non_null_listed)) of_type is name d at
  own (n.field f) there of_type is name d at =
      listed_there (n.field f) (codes "__Field") fields_of_field (field_fields files holds.extends_no_reserved) (field_answers s f (holds.has_field_types f there) (includes_deprecated given) (λ x h. of_field f there h)) of_type is name d at
  own (n.input_value v) there of_type is name d at =
      listed_there (n.input_value v) (codes "__InputValue") fields_of_input_value (input_value_fields files holds.extends_no_reserved) (input_answers s v (holds.has_input_types v there)) of_type is name d at
  own (n.enum_value v) there of_type is name d at =
      listed_there (n.enum_value v) (codes "__EnumValue") fields_of_enum_value (enum_value_fields files holds.extends_no_reserved) (value_answers s v) of_type is name d at
  own (n.directive x) there of_type is name d at =
      listed_there (n.directive x) (codes "__Directive") fields_of_directive (directive_fields files holds.extends_no_reserved)
      (directive_answers s x (λ l. location_value files holds.extends_no_reserved (location_name l) (location_listed l)) (includes_deprecated given) (λ y h. of_directive x there h)) of_type is name d at

  -- ---- the fields that no type lists

  abbrev string : Written
  string = w.required (w.named (codes "String"))

  string_is : written meta_fields.typename.of_type ≡ string
  string_is = written_non_null (n_type (codes "String")) ∙ ap w.required (written_named (n_word (codes "String")))

  name_answer : (x : Node) → Answered x (codes "__typename") string
  name_answer n.query_root = let q = holds.has_query_root in let r = required_text s q.0.name.node.text in
      (text q.0.name.node.text, ap (λ o. Some (optional_text (option_map_or (λ (root : Root). Some root.name.node.text) o None))) q.1, r.0, r.1)
  name_answer n.schema = let r = required_text s (codes "__Schema") in (text (codes "__Schema"), refl, r.0, r.1)
  name_answer (n.named_type t) = let r = required_text s (codes "__Type") in (text (codes "__Type"), refl, r.0, r.1)
  name_answer (n.list_type item) = let r = required_text s (codes "__Type") in (text (codes "__Type"), refl, r.0, r.1)
  name_answer (n.non_null_type nullable) = let r = required_text s (codes "__Type") in (text (codes "__Type"), refl, r.0, r.1)
  name_answer (n.field f) = let r = required_text s (codes "__Field") in (text (codes "__Field"), refl, r.0, r.1)
  name_answer (n.input_value v) = let r = required_text s (codes "__InputValue") in (text (codes "__InputValue"), refl, r.0, r.1)
  name_answer (n.enum_value v) = let r = required_text s (codes "__EnumValue") in (text (codes "__EnumValue"), refl, r.0, r.1)
  name_answer (n.directive x) = let r = required_text s (codes "__Directive") in (text (codes "__Directive"), refl, r.0, r.1)

  typename_answer : (x : Node) → Answered x (codes "__typename") (written meta_fields.typename.of_type)
  typename_answer x = subst (Answered x (codes "__typename")) (sym string_is) (name_answer x)

  schema_answer : Answered n.query_root (codes "__schema") (written meta_fields.schema.of_type)
  schema_answer =
      let r = required_node s (codes "__Schema") n.schema (refl, tt) in
      subst (Answered n.query_root (codes "__schema")) (sym (written_non_null (n_type (codes "__Schema")) ∙ ap w.required (written_named (n_word (codes "__Schema"))))) (node n.schema, refl, r.0, r.1)

  called_object : (o : Option (List ℕ)) (x : Node) → option_and_then (type_called s i) o ≡ Some x → IsObject s (codes "__Type") x
  called_object None x is = absurd (none_some x is)
  called_object (Some name) x is = by (is_shown i.has_int i.has_id i.has_float name) is where
    by : (c : Bool) → (if c then named_node s name else None) ≡ Some x → IsObject s (codes "__Type") x
    by true h = named_object s name x h
    by false h = absurd (none_some x h)

  type_answer : Answered n.query_root (codes "__type") (written meta_fields.of_type.of_type)
  type_answer =
      let found = option_and_then (type_called s i) given.name in
      let r = optional_node_answer s (codes "__Type") found (called_object given.name) in
      subst (Answered n.query_root (codes "__type")) (sym (written_named (n_word (codes "__Type")))) (optional_node found, refl, r.0, r.1)

  by_field : (x : Node) (name : List ℕ) (t : Written) → HasField s x name t → IsNodeOf s x → Answered x name t
  by_field x name t (own_field {of_type = listing} {d = definition} is at) there = own x there listing is name definition at
  by_field x name t typename_field there = typename_answer x
  by_field x name t schema_field there = schema_answer
  by_field x name t type_field there = type_answer

pub answers_have_their_types : AnswersHaveTheirTypes
answers_have_their_types files given x name t holds there has = by_field files given holds x name t has there
