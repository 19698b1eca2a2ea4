-- The members of unions (3.8).
use Rattle.std.specs.Prelude.{List, []}
use Rattle.gql_text.specs.declared.token.Kind.TheVariants as k
use Rattle.gql_ast.specs.declared.text.Name.{Name}
use Rattle.gql_grammar.specs.Symbol.{Phrase, Part, ◌>>=◌, ◌>>◌, pure, token, sees, optional}
use Rattle.gql_grammar.specs.Repetition.{first_then}
use Rattle.gql_parse.specs.Names.{name}

-- the | before the first of several names
unfoldable pub pipe : Phrase (Unit {0})
pipe = do
  token k.Pipe
  pure tt

-- |?
abbrev pub optional_pipe : Part (Unit {0})
optional_pipe = optional (sees k.Pipe) tt pipe

-- | NamedType
unfoldable pub further_member : Phrase Name
further_member = do
  token k.Pipe
  found ← name
  pure found

-- NamedType (| NamedType)*
abbrev pub member_names : Phrase (List Name)
member_names = first_then (sees k.Pipe) name further_member

-- UnionMemberTypes: = |? NamedType (| NamedType)* (3.8)
unfoldable pub members : Phrase (List Name)
members = do
  token k.Equals
  optional_pipe
  found ← member_names
  pure found

-- UnionMemberTypes? (3.8)
abbrev pub optional_members : Part (List Name)
optional_members = optional (sees k.Equals) [] members
