-- Arguments (2.6) and directives (2.12). The values of constant ones have no variables.
use Rattle.std.specs.Prelude.{List, [], Bool}
use Rattle.gql_text.specs.declared.token.Kind.TheVariants as k
use Rattle.gql_ast.specs.declared.literal.Argument.{Argument}
use Rattle.gql_ast.specs.declared.literal.Directive.{Directive}
use Rattle.gql_grammar.specs.Symbol.{Phrase, Part, ◌>>=◌, ◌>>◌, pure, token, before, sees, optional}
use Rattle.gql_grammar.specs.Repetition.{any_while, some_while}
use Rattle.gql_parse.specs.Names.{name}
use Rattle.gql_parse.specs.Values.{value}

-- Argument: Name : Value
unfoldable pub argument : Bool → Phrase Argument
argument constant = do
  found ← name
  token k.Colon
  given ← value constant
  pure (record { name = found; value = given })

-- Arguments: ( Argument+ )
unfoldable pub arguments : Bool → Phrase (List Argument)
arguments constant = do
  token k.LeftParenthesis
  found ← some_while (before k.RightParenthesis) (argument constant)
  token k.RightParenthesis
  pure found

-- Arguments?
abbrev pub optional_arguments : Bool → Part (List Argument)
optional_arguments constant = optional (sees k.LeftParenthesis) [] (arguments constant)

-- Directive: @ Name Arguments?
unfoldable pub directive : Bool → Phrase Directive
directive constant = do
  mark ← token k.At
  found ← name
  given ← optional_arguments constant
  pure (record { place = mark.place; name = found; arguments = given })

-- Directives?
unfoldable pub directives : Bool → Part (List Directive)
directives constant = any_while (sees k.At) (directive constant)
