-- Operations (2.3), their variables (2.10), and fragments (2.8).
use Rattle.std.specs.Prelude.{ℕ, List, [], Option, Some, None, Bool, true, false, ◌||◌, bytes_eq, codes, if◌then◌else◌}
use Rattle.gql_text.specs.Lexeme.{Lexeme}
use Rattle.gql_text.specs.declared.token.Kind.TheVariants as k
use Rattle.gql_ast.specs.declared.literal.Literal.{Literal}
use Rattle.gql_ast.specs.declared.executable.OperationKind.{OperationKind}
use Rattle.gql_ast.specs.declared.executable.OperationKind.TheVariants as o
use Rattle.gql_ast.specs.declared.executable.Operation.{Operation}
use Rattle.gql_ast.specs.declared.executable.Fragment.{Fragment}
use Rattle.gql_ast.specs.declared.executable.VariableDefinition.{VariableDefinition}
use Rattle.gql_grammar.specs.Symbol.{Phrase, Part, ◌>>=◌, ◌>>◌, pure, token, name_where, word, by_test, sees, before, optional}
use Rattle.gql_grammar.specs.Repetition.{some_while}
use Rattle.gql_parse.specs.Names.{name, optional_name}
use Rattle.gql_parse.specs.Values.{value}
use Rattle.gql_parse.specs.Types.{type_ref}
use Rattle.gql_parse.specs.Directives.{directives}
use Rattle.gql_parse.specs.Selections.{fragment_name, type_condition, set, selections_of}

-- DefaultValue: = Value, which is constant (2.10)
unfoldable pub default : Phrase (Option Literal)
default = do
  token k.Equals
  found ← value true
  pure (Some found)

-- DefaultValue? (2.10)
abbrev pub optional_default : Part (Option Literal)
optional_default = optional (sees k.Equals) None default

-- VariableDefinition: Variable : Type DefaultValue? Directives?, with constant directives (2.10)
unfoldable pub variable_definition : Phrase VariableDefinition
variable_definition = do
  mark ← token k.Dollar
  found ← name
  token k.Colon
  of ← type_ref
  given ← optional_default
  applied ← directives true
  pure (record
      { place = mark.place; name = found; of_type = of; default = given; directives = applied })

-- VariableDefinitions: ( VariableDefinition+ ) (2.10)
unfoldable pub variable_definitions : Phrase (List VariableDefinition)
variable_definitions = do
  token k.LeftParenthesis
  found ← some_while (before k.RightParenthesis) variable_definition
  token k.RightParenthesis
  pure found

-- VariableDefinitions? (2.10)
abbrev pub optional_variables : Part (List VariableDefinition)
optional_variables = optional (sees k.LeftParenthesis) [] variable_definitions

-- whether the text is an OperationType: query, mutation or subscription (2.3)
abbrev pub is_operation_type : List ℕ → Bool
is_operation_type text = bytes_eq text (codes "query")
    || (bytes_eq text (codes "mutation") || bytes_eq text (codes "subscription"))

-- the kind of operation that an OperationType means (2.3)
abbrev pub operation_kind : List ℕ → OperationKind
operation_kind text =
    if bytes_eq text (codes "query") then o.Query
    else if bytes_eq text (codes "mutation") then o.Mutation
    else o.Subscription

-- OperationType (2.3)
unfoldable pub operation_word : Phrase Lexeme
operation_word = name_where is_operation_type

-- OperationDefinition: OperationType Name? VariableDefinitions? Directives? SelectionSet (2.3)
unfoldable pub named_operation : Phrase Operation
named_operation = do
  kind ← operation_word
  named ← optional_name
  variables ← optional_variables
  applied ← directives false
  found ← set
  pure (record {
    place = kind.place;
    kind = operation_kind kind.text;
    name = named;
    variables = variables;
    directives = applied;
    selections = found;
  })

-- OperationDefinition: SelectionSet, the short form of a query (2.3)
unfoldable pub shorthand : Phrase Operation
shorthand = do
  mark ← token k.LeftBrace
  found ← selections_of set
  token k.RightBrace
  pure (record {
    place = mark.place;
    kind = o.Query;
    name = None;
    variables = [];
    directives = [];
    selections = found;
  })

-- OperationDefinition, in either form (2.3)
abbrev pub operation : Phrase Operation
operation = by_test (sees k.LeftBrace) shorthand named_operation

-- FragmentDefinition: fragment FragmentName TypeCondition Directives? SelectionSet (2.8)
unfoldable pub fragment : Phrase Fragment
fragment = do
  mark ← word (codes "fragment")
  named ← fragment_name
  on ← type_condition
  applied ← directives false
  found ← set
  pure (record {
    place = mark.place;
    name = named;
    condition = on;
    directives = applied;
    selections = found;
  })
