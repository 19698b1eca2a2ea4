-- Names (2.1.9).
use Rattle.std.specs.Prelude.{Option, Some, None}
use Rattle.gql_text.specs.Lexeme.{Lexeme}
use Rattle.gql_text.specs.declared.token.Kind.TheVariants as k
use Rattle.gql_ast.specs.declared.text.Name.{Name}
use Rattle.gql_grammar.specs.Symbol.{Phrase, Part, ◌>>=◌, pure, token, sees, optional}

-- the name of a token, with its place
abbrev pub name_of : Lexeme → Name
name_of t = record { place = t.place; text = t.text }

-- Name
unfoldable pub name : Phrase Name
name = do
  t ← token k.Name
  pure (name_of t)

-- Name, as a name that an operation may have (2.3)
unfoldable pub some_name : Phrase (Option Name)
some_name = do
  found ← name
  pure (Some found)

-- Name? (2.3)
abbrev pub optional_name : Part (Option Name)
optional_name = optional (sees k.Name) None some_name
