-- The types that built-in definitions are written with are built in, with Float or without it.
use Rattle.std.specs.Prelude.{◌≡◌, ◌++◌, ℕ, List, Bool, true, false, map, codes, refl, ⊤}
use Rattle.std.specs.List.{AllByRecursion}
use Rattle.std.proofs.Common.{ap, sym, subst, ◌∙◌}
use Rattle.gql_ast.specs.declared.definition.Tree.{Tree}
use Rattle.gql_ast.specs.declared.definition.Tree.TheVariants as tree
use Rattle.gql_ast.specs.declared.files.Files.{Files}
use Rattle.gql_ast.specs.declared.type_ref.TypeRef.{TypeRef}
use Rattle.gql_ast.specs.declared.type_system.FieldDefinition.{FieldDefinition}
use Rattle.gql_ast.specs.declared.type_system.InputValueDefinition.{InputValueDefinition}
use Rattle.gql_built_in.specs.BuiltIn.{built_in, scalars, introspection, fields_of_schema, include_deprecated, fields_of_type, fields_of_field, fields_of_input_value, fields_of_enum_value, fields_of_directive, type_kinds, directive_locations, directives, skip, include, deprecated, specified_by, append, condition, reason, url, to}
use Rattle.gql_built_in.specs.BuiltInWords as b
use Rattle.gql_built_in.specs.BuiltInWords.{nowhere, word, a_type, a_directive, argument, field_with, type_of, directive, of_no_file}
use Rattle.gql_built_in.specs.declared.sited.Sited.{Sited}
use Rattle.gql_intro.specs.References.{name_in}
use Rattle.gql_intro.specs.SchemaNodes.{HasTypeNamed, IsKnown}
use Rattle.gql_types.specs.Parts.{fields_of, input_fields_of}
use Rattle.gql_types.specs.Definitions.{of_files}
use Rattle.gql_types.specs.Schemas.{schema_in, schema_of}
use Rattle.gql_types.specs.Written.{written, written_list, written_named, written_non_null}
use Rattle.gql_types.specs.declared.schema.Schema.{Schema}

-- the name within a built-in type
in_word : (x : List ℕ) → name_in (written (b.named x)) ≡ x
unfolding b.named word
in_word x = ap name_in (written_named (word x))

in_required : (t : TypeRef) → name_in (written (b.required t)) ≡ name_in (written t)
unfolding b.required
in_required t = ap name_in (written_non_null t)

in_list : (t : TypeRef) → name_in (written (b.list t)) ≡ name_in (written t)
unfolding b.list
in_list t = ap name_in (written_list nowhere t)

-- the types that built-in definitions are written with
record BuiltInTypes (s : Schema) : Type 0 where
  has_string : HasTypeNamed s (codes "String")
  has_boolean : HasTypeNamed s (codes "Boolean")
  has_type : HasTypeNamed s (codes "__Type")
  has_field : HasTypeNamed s (codes "__Field")
  has_input_value : HasTypeNamed s (codes "__InputValue")
  has_enum_value : HasTypeNamed s (codes "__EnumValue")
  has_directive : HasTypeNamed s (codes "__Directive")
  has_type_kind : HasTypeNamed s (codes "__TypeKind")
  has_location : HasTypeNamed s (codes "__DirectiveLocation")

-- a schema has them, with Float or without it
built_in_types : (floats : Bool) (rest : List (Sited Tree)) → BuiltInTypes (schema_in (built_in floats ++ rest))
unfolding built_in scalars introspection type_kinds directive_locations type_of of_no_file word
built_in_types true rest = record {
  has_string = refl;
  has_boolean = refl;
  has_type = refl;
  has_field = refl;
  has_input_value = refl;
  has_enum_value = refl;
  has_directive = refl;
  has_type_kind = refl;
  has_location = refl;
}
built_in_types false rest = record {
  has_string = refl;
  has_boolean = refl;
  has_type = refl;
  has_field = refl;
  has_input_value = refl;
  has_enum_value = refl;
  has_directive = refl;
  has_type_kind = refl;
  has_location = refl;
}

module _ (files : Files) where
  abbrev s : Schema
  s = schema_of files

  abbrev pub KnownInput : InputValueDefinition → Type 0
  KnownInput d = IsKnown s (written d.of_type)

  abbrev pub KnownField : FieldDefinition → Type 0
  KnownField f = IsKnown s (written f.of_type) × AllByRecursion KnownInput f.arguments

  abbrev pub KnownTree : Tree → Type 0
  KnownTree (tree.Type definition) = AllByRecursion KnownField (fields_of definition.parts) × AllByRecursion KnownInput (input_fields_of definition.parts)
  KnownTree (tree.Directive definition) = AllByRecursion KnownInput definition.arguments
  KnownTree (tree.TypeExtension extension) = ⊥
  KnownTree (tree.SchemaExtension extension) = ⊥
  KnownTree (tree.Schema definition) = ⊥
  KnownTree (tree.Operation operation) = ⊤
  KnownTree (tree.Fragment fragment) = ⊤

  -- a type that is written with this name
  plain : (x : List ℕ) → HasTypeNamed s x → IsKnown s (written (b.named x))
  plain x has = subst (HasTypeNamed s) (sym (in_word x)) has

  marked : (x : List ℕ) → HasTypeNamed s x → IsKnown s (written (b.required (b.named x)))
  marked x has = subst (HasTypeNamed s) (sym (in_required (b.named x) ∙ in_word x)) has

  listed : (x : List ℕ) → HasTypeNamed s x → IsKnown s (written (b.list_of (b.named x)))
  listed x has = subst (HasTypeNamed s) (sym (in_list (b.required (b.named x)) ∙ in_required (b.named x) ∙ in_word x)) has

  listed_marked : (x : List ℕ) → HasTypeNamed s x → IsKnown s (written (b.required_list_of (b.named x)))
  listed_marked x has = subst (HasTypeNamed s) (sym (in_required (b.list_of (b.named x)) ∙ in_list (b.required (b.named x)) ∙ in_required (b.named x) ∙ in_word x)) has

  types : BuiltInTypes s
  types = built_in_types files.profile.floats (of_files files.schema)

  inc : AllByRecursion KnownInput include_deprecated
  unfolding include_deprecated argument
  inc = (plain (codes "Boolean") types.has_boolean, tt)

  schema_known : AllByRecursion KnownField fields_of_schema
  unfolding fields_of_schema field_with
  schema_known = ((plain (codes "String") types.has_string, tt), ((listed_marked (codes "__Type") types.has_type, tt), ((marked (codes "__Type") types.has_type, tt), ((plain (codes "__Type") types.has_type, tt), ((plain (codes "__Type") types.has_type, tt), ((listed_marked (codes "__Directive") types.has_directive, tt), tt))))))

  type_known : AllByRecursion KnownField fields_of_type
  unfolding fields_of_type field_with
  type_known = ((marked (codes "__TypeKind") types.has_type_kind, tt), ((plain (codes "String") types.has_string, tt), ((plain (codes "String") types.has_string, tt), ((listed (codes "__Field") types.has_field, inc), ((listed (codes "__Type") types.has_type, tt), ((listed (codes "__Type") types.has_type, tt), ((listed (codes "__EnumValue") types.has_enum_value, inc), ((listed (codes "__InputValue") types.has_input_value, inc), ((plain (codes "__Type") types.has_type, tt), ((plain (codes "String") types.has_string, tt), tt))))))))))

  field_known : AllByRecursion KnownField fields_of_field
  unfolding fields_of_field field_with
  field_known = ((marked (codes "String") types.has_string, tt), ((plain (codes "String") types.has_string, tt), ((listed_marked (codes "__InputValue") types.has_input_value, inc), ((marked (codes "__Type") types.has_type, tt), ((marked (codes "Boolean") types.has_boolean, tt), ((plain (codes "String") types.has_string, tt), tt))))))

  input_value_known : AllByRecursion KnownField fields_of_input_value
  unfolding fields_of_input_value field_with
  input_value_known = ((marked (codes "String") types.has_string, tt), ((plain (codes "String") types.has_string, tt), ((marked (codes "__Type") types.has_type, tt), ((plain (codes "String") types.has_string, tt), ((marked (codes "Boolean") types.has_boolean, tt), ((plain (codes "String") types.has_string, tt), tt))))))

  enum_value_known : AllByRecursion KnownField fields_of_enum_value
  unfolding fields_of_enum_value field_with
  enum_value_known = ((marked (codes "String") types.has_string, tt), ((plain (codes "String") types.has_string, tt), ((marked (codes "Boolean") types.has_boolean, tt), ((plain (codes "String") types.has_string, tt), tt))))

  directive_known : AllByRecursion KnownField fields_of_directive
  unfolding fields_of_directive field_with
  directive_known = ((marked (codes "String") types.has_string, tt), ((plain (codes "String") types.has_string, tt), ((listed_marked (codes "__DirectiveLocation") types.has_location, tt), ((listed_marked (codes "__InputValue") types.has_input_value, inc), ((marked (codes "Boolean") types.has_boolean, tt), tt)))))

  condition_known : AllByRecursion KnownInput condition
  unfolding condition argument
  condition_known = (marked (codes "Boolean") types.has_boolean, tt)

  reason_known : AllByRecursion KnownInput reason
  unfolding reason argument
  reason_known = (plain (codes "String") types.has_string, tt)

  url_known : AllByRecursion KnownInput url
  unfolding url argument
  url_known = (marked (codes "String") types.has_string, tt)

  to_known : AllByRecursion KnownInput to
  unfolding to argument
  to_known = (marked (codes "String") types.has_string, tt)

  -- what is built in: the types of introspection and the directives, after the scalars
  others_known : AllByRecursion (λ (x : Sited Tree). KnownTree x.node) (map a_type introspection ++ map a_directive directives)
  unfolding introspection type_kinds directive_locations directives skip include deprecated specified_by append type_of directive of_no_file
  others_known = ((schema_known, tt), ((type_known, tt), ((field_known, tt), ((input_value_known, tt), ((enum_value_known, tt), ((directive_known, tt), ((tt, tt), ((tt, tt), (condition_known, (condition_known, (reason_known, (url_known, (to_known, tt)))))))))))))

  pub built_in_known : (floats : Bool) → AllByRecursion (λ (x : Sited Tree). KnownTree x.node) (built_in floats)
  unfolding built_in scalars introspection type_kinds directive_locations directives skip include deprecated specified_by append type_of directive of_no_file
  built_in_known true = ((tt, tt), ((tt, tt), ((tt, tt), ((tt, tt), ((tt, tt), others_known)))))
  built_in_known false = ((tt, tt), ((tt, tt), ((tt, tt), ((tt, tt), others_known))))
