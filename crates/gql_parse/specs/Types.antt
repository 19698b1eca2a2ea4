-- Type references (2.11).
use Rattle.gql_text.specs.declared.token.Kind.{Kind}
use Rattle.gql_text.specs.declared.token.Kind.TheVariants as k
use Rattle.gql_ast.specs.declared.type_ref.TypeRef.{TypeRef}
use Rattle.gql_ast.specs.declared.type_ref.TypeRef.TheVariants as r
use Rattle.gql_grammar.specs.Symbol.{Phrase, Part, ◌>>=◌, ◌>>◌, pure, refuse, token, by_kind, optional, sees}
use Rattle.gql_grammar.specs.Recursion.{recursive}
use Rattle.gql_parse.specs.Names.{name}

-- NamedType: Name
unfoldable pub named_type : Phrase TypeRef
named_type = do
  found ← name
  pure (r.Named found)

-- ListType: [ Type ], given what a type is
unfoldable pub list_type_of : Phrase TypeRef → Phrase TypeRef
list_type_of type = do
  mark ← token k.LeftBracket
  item ← type
  token k.RightBracket
  pure (r.List mark.place item)

-- NamedType or ListType, by the kind of its first token
abbrev pub nullable_by : Phrase TypeRef → Kind → Phrase TypeRef
nullable_by type k.Name = named_type
nullable_by type k.LeftBracket = list_type_of type
nullable_by type _ = refuse

-- the ! of a NonNullType, after the type that it marks
unfoldable pub non_null : TypeRef → Phrase TypeRef
non_null of = do
  token k.Bang
  pure (r.NonNull of)

-- the type, as Non-Null if a ! follows it
abbrev pub marked : TypeRef → Part TypeRef
marked of = optional (sees k.Bang) of (non_null of)

-- Type: NamedType, ListType or NonNullType, given what an inner type is
abbrev pub type_ref_of : Phrase TypeRef → Phrase TypeRef
type_ref_of type = do
  of ← by_kind (nullable_by type)
  marked of

-- Type
unfoldable pub type_ref : Phrase TypeRef
type_ref = recursive type_ref_of
