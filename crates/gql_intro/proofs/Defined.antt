-- The types of introspection in a schema: those that are built in, where no file extends them.
use Rattle.std.specs.Prelude.{◌≡◌, ◌&&◌, ◌++◌, ℕ, List, [], ◌∷◌, map, find, Bool, true, false, cond, eqb, codes, bytes_eq, Some, None, option_and_then, Contains, refl}
use Rattle.std.specs.List.{list_any, starts_with}
use Rattle.std.proofs.Common.{ap, sym, subst, ◌∙◌, true≢false}
use Rattle.std.proofs.lemmas.Slice.Eq.{bytes_eq-Decides}
use Rattle.gql_ast.specs.declared.definition.Tree.{Tree}
use Rattle.gql_ast.specs.declared.files.Files.{Files}
use Rattle.gql_ast.specs.declared.type_system.EnumValueDefinition.{EnumValueDefinition}
use Rattle.gql_ast.specs.declared.type_system.FieldDefinition.{FieldDefinition}
use Rattle.gql_ast.specs.declared.type_system.TypeDefinition.{TypeDefinition}
use Rattle.gql_ast.specs.declared.type_system.TypeExtension.{TypeExtension}
use Rattle.gql_built_in.specs.BuiltIn.{built_in, scalars, introspection, fields_of_schema, fields_of_type, fields_of_field, fields_of_input_value, fields_of_enum_value, fields_of_directive, type_kinds, directive_locations}
use Rattle.gql_built_in.specs.BuiltInWords.{object_type, type_of, of_no_file, word}
use Rattle.gql_built_in.specs.declared.sited.Sited.{Sited}
use Rattle.gql_types.specs.Definitions.{definitions, of_files, type_extensions}
use Rattle.gql_types.specs.Kinds.{same_kind}
use Rattle.gql_types.specs.Parts.{kind_of, sited}
use Rattle.gql_types.specs.Possible.{name_of}
use Rattle.gql_types.specs.Schemas.{field_named, schema_of, type_named, types_in, values_by}
use Rattle.gql_types.specs.Types.{assembled, extends, extensions_of}
use Rattle.gql_types.specs.declared.schema_type.SchemaType.{SchemaType}
use Rattle.gql_intro.specs.AnswerTypes.{HasValue}
use Rattle.gql_intro.proofs.Containing.{Contains-there, Contains-here, none_pass, none_some, some_same, text_among}

-- no extension has a reserved name
abbrev pub ExtendsNoReserved : Files → Type 0
ExtendsNoReserved files = (e : Sited TypeExtension) → Contains (type_extensions (definitions files)) e → starts_with eqb e.node.name.text (codes "__") ≡ false

-- a definition that is in no file
abbrev pub unsited : TypeDefinition → Sited TypeDefinition
unsited d = record { file = None; node = d }

-- the type of a definition that no file extends
abbrev pub alone : TypeDefinition → SchemaType
alone d = assembled (unsited d) []

-- ---- the types among the built-in ones, with Float or without it

-- the type of a built-in definition is the first of its name, whatever files define
abbrev IsFirst : Bool → TypeDefinition → List ℕ → Type 0
IsFirst floats d name = (rest : List (Sited Tree)) → find (λ (t : SchemaType). bytes_eq name (name_of t)) (types_in (built_in floats ++ rest))
    ≡ Some (assembled (unsited d) (extensions_of (type_extensions (built_in floats ++ rest)) (unsited d)))

schema_first : (floats : Bool) → IsFirst floats (object_type (codes "__Schema") fields_of_schema) (codes "__Schema")
unfolding built_in scalars introspection type_kinds directive_locations type_of of_no_file word
schema_first true rest = refl
schema_first false rest = refl

type_first : (floats : Bool) → IsFirst floats (object_type (codes "__Type") fields_of_type) (codes "__Type")
unfolding built_in scalars introspection type_kinds directive_locations type_of of_no_file word
type_first true rest = refl
type_first false rest = refl

field_first : (floats : Bool) → IsFirst floats (object_type (codes "__Field") fields_of_field) (codes "__Field")
unfolding built_in scalars introspection type_kinds directive_locations type_of of_no_file word
field_first true rest = refl
field_first false rest = refl

input_value_first : (floats : Bool) → IsFirst floats (object_type (codes "__InputValue") fields_of_input_value) (codes "__InputValue")
unfolding built_in scalars introspection type_kinds directive_locations type_of of_no_file word
input_value_first true rest = refl
input_value_first false rest = refl

enum_value_first : (floats : Bool) → IsFirst floats (object_type (codes "__EnumValue") fields_of_enum_value) (codes "__EnumValue")
unfolding built_in scalars introspection type_kinds directive_locations type_of of_no_file word
enum_value_first true rest = refl
enum_value_first false rest = refl

directive_first : (floats : Bool) → IsFirst floats (object_type (codes "__Directive") fields_of_directive) (codes "__Directive")
unfolding built_in scalars introspection type_kinds directive_locations type_of of_no_file word
directive_first true rest = refl
directive_first false rest = refl

kinds_first : (floats : Bool) → IsFirst floats type_kinds (codes "__TypeKind")
unfolding built_in scalars introspection type_kinds directive_locations type_of of_no_file word
kinds_first true rest = refl
kinds_first false rest = refl

locations_first : (floats : Bool) → IsFirst floats directive_locations (codes "__DirectiveLocation")
unfolding built_in scalars introspection type_kinds directive_locations type_of of_no_file word
locations_first true rest = refl
locations_first false rest = refl

-- the fields of such a type
unsited_field : (fs : List FieldDefinition) (name : List ℕ) (d : Sited FieldDefinition)
    → find (λ (f : Sited FieldDefinition). bytes_eq name f.node.name.text) (sited None fs ++ []) ≡ Some d → Contains fs d.node × (name ≡ d.node.name.text)
unsited_field [] name d is = absurd (none_some d is)
unsited_field (f ∷ fs) name d is = by (λ h. unsited_field fs name d h) (bytes_eq name f.name.text) refl is where
  by : (find (λ (g : Sited FieldDefinition). bytes_eq name g.node.name.text) (sited None fs ++ []) ≡ Some d → Contains fs d.node × (name ≡ d.node.name.text))
      → (c : Bool) → bytes_eq name f.name.text ≡ c → cond c (Some (record { file = None; node = f })) (find (λ (g : Sited FieldDefinition). bytes_eq name g.node.name.text) (sited None fs ++ [])) ≡ Some d
      → Contains (f ∷ fs) d.node × (name ≡ d.node.name.text)
  by rest true same h =
      let e : f ≡ d.node = ap (λ (g : Sited FieldDefinition). g.node) (some_same (record { file = None; node = f }) d h) in
      (subst (Contains (f ∷ fs)) e (Contains-here f fs), (bytes_eq-Decides name f.name.text).0 same ∙ ap (λ (g : FieldDefinition). g.name.text) e)
  by rest false differs h = let r = rest h in (Contains-there d.node f fs r.0, r.1)

module _ (files : Files) (kept : ExtendsNoReserved files) where
  no_extension : (d : TypeDefinition) → starts_with eqb d.name.text (codes "__") ≡ true → extensions_of (type_extensions (definitions files)) (unsited d) ≡ []
  no_extension d reserved = none_pass (extends (unsited d)) (type_extensions (definitions files)) (λ e has. by e (kept e has) (bytes_eq d.name.text e.node.name.text) refl) where
    by : (e : Sited TypeExtension) → starts_with eqb e.node.name.text (codes "__") ≡ false → (c : Bool) → bytes_eq d.name.text e.node.name.text ≡ c
        → (c && same_kind (kind_of d.parts) (kind_of e.node.parts)) ≡ false
    by e plain true same = absurd (true≢false (sym reserved ∙ ap (λ t. starts_with eqb t (codes "__")) ((bytes_eq-Decides d.name.text e.node.name.text).0 same) ∙ plain))
    by e plain false differs = refl

  -- a type is that of its built-in definition
  abbrev Extended : TypeDefinition → SchemaType
  Extended d = assembled (unsited d) (extensions_of (type_extensions (definitions files)) (unsited d))

  the_type : (d : TypeDefinition) (name : List ℕ) → starts_with eqb d.name.text (codes "__") ≡ true → type_named (schema_of files) name ≡ Some (Extended d) → type_named (schema_of files) name ≡ Some (alone d)
  the_type d name reserved is = is ∙ ap (λ es. Some (assembled (unsited d) es)) (no_extension d reserved)

  -- its fields are those that it lists there
  abbrev pub HasFields : List ℕ → List FieldDefinition → Type 0
  HasFields of_type fs = (name : List ℕ) (d : Sited FieldDefinition) → field_named (schema_of files) of_type name ≡ Some d → Contains fs d.node × (name ≡ d.node.name.text)

  of_fields : (of_type : List ℕ) (fs : List FieldDefinition) → type_named (schema_of files) of_type ≡ Some (alone (object_type of_type fs)) → HasFields of_type fs
  unfolding type_of
  of_fields of_type fs is name d at = unsited_field fs name d
      (sym (ap (λ o. option_and_then (λ (t : SchemaType). find (λ (f : Sited FieldDefinition). bytes_eq name f.node.name.text) t.fields) o) is) ∙ at)

  pub schema_fields : HasFields (codes "__Schema") fields_of_schema
  unfolding built_in scalars introspection type_kinds directive_locations type_of of_no_file word
  schema_fields = of_fields (codes "__Schema") fields_of_schema (the_type (object_type (codes "__Schema") fields_of_schema) (codes "__Schema") refl (schema_first files.profile.floats (of_files files.schema)))

  pub type_fields : HasFields (codes "__Type") fields_of_type
  unfolding built_in scalars introspection type_kinds directive_locations type_of of_no_file word
  type_fields = of_fields (codes "__Type") fields_of_type (the_type (object_type (codes "__Type") fields_of_type) (codes "__Type") refl (type_first files.profile.floats (of_files files.schema)))

  pub field_fields : HasFields (codes "__Field") fields_of_field
  unfolding built_in scalars introspection type_kinds directive_locations type_of of_no_file word
  field_fields = of_fields (codes "__Field") fields_of_field (the_type (object_type (codes "__Field") fields_of_field) (codes "__Field") refl (field_first files.profile.floats (of_files files.schema)))

  pub input_value_fields : HasFields (codes "__InputValue") fields_of_input_value
  unfolding built_in scalars introspection type_kinds directive_locations type_of of_no_file word
  input_value_fields = of_fields (codes "__InputValue") fields_of_input_value (the_type (object_type (codes "__InputValue") fields_of_input_value) (codes "__InputValue") refl (input_value_first files.profile.floats (of_files files.schema)))

  pub enum_value_fields : HasFields (codes "__EnumValue") fields_of_enum_value
  unfolding built_in scalars introspection type_kinds directive_locations type_of of_no_file word
  enum_value_fields = of_fields (codes "__EnumValue") fields_of_enum_value (the_type (object_type (codes "__EnumValue") fields_of_enum_value) (codes "__EnumValue") refl (enum_value_first files.profile.floats (of_files files.schema)))

  pub directive_fields : HasFields (codes "__Directive") fields_of_directive
  unfolding built_in scalars introspection type_kinds directive_locations type_of of_no_file word
  directive_fields = of_fields (codes "__Directive") fields_of_directive (the_type (object_type (codes "__Directive") fields_of_directive) (codes "__Directive") refl (directive_first files.profile.floats (of_files files.schema)))

  -- ---- the values of an enum

  has_value : (of_type : List ℕ) (d : TypeDefinition) (vs : List (Sited EnumValueDefinition)) → type_named (schema_of files) of_type ≡ Some (alone d)
      → option_and_then (λ (t : SchemaType). values_by t.kind t) (Some (alone d)) ≡ Some vs
      → (name : List ℕ) → list_any (bytes_eq name) (map (λ (v : Sited EnumValueDefinition). v.node.name.text) vs) ≡ true → HasValue (schema_of files) of_type name
  has_value of_type d vs is values name among = (
    vs,
    ap (λ o. option_and_then (λ (t : SchemaType). values_by t.kind t) o) is ∙ values,
    text_among name (map (λ (v : Sited EnumValueDefinition). v.node.name.text) vs) among,
  )

  pub kind_value : (name : List ℕ) → list_any (bytes_eq name) (map (λ (v : Sited EnumValueDefinition). v.node.name.text) (alone type_kinds).values) ≡ true → HasValue (schema_of files) (codes "__TypeKind") name
  unfolding built_in scalars introspection type_kinds directive_locations type_of of_no_file word
  kind_value name among = has_value (codes "__TypeKind") type_kinds (alone type_kinds).values (the_type type_kinds (codes "__TypeKind") refl (kinds_first files.profile.floats (of_files files.schema))) refl name among

  pub location_value : (name : List ℕ) → list_any (bytes_eq name) (map (λ (v : Sited EnumValueDefinition). v.node.name.text) (alone directive_locations).values) ≡ true → HasValue (schema_of files) (codes "__DirectiveLocation") name
  unfolding built_in scalars introspection type_kinds directive_locations type_of of_no_file word
  location_value name among = has_value (codes "__DirectiveLocation") directive_locations (alone directive_locations).values (the_type directive_locations (codes "__DirectiveLocation") refl (locations_first files.profile.floats (of_files files.schema))) refl name among
