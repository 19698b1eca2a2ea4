-- The literal `null` (GraphQL 2.9.5).
use Rattle.std.specs.Prelude.{Bool, true, false}
use Rattle.gql_ast.specs.declared.literal.Literal.{Literal, fold-Literal}
use Rattle.gql_ast.specs.declared.literal.Literal.TheOpen.{Literal-F, ObjectField-F}

-- whether a literal of this form is `null`; its parts do not count
abbrev pub is_null_at : Literal-F Bool Bool → Bool
is_null_at (Literal-F.Null place) = true
is_null_at _ = false

-- whether the value of a field of an object literal is `null`
abbrev pub value_of : ObjectField-F Bool Bool → Bool
value_of f = f.value

-- whether a literal is `null`
unfoldable pub is_null : Literal → Bool
is_null = fold-Literal Bool Bool is_null_at value_of
