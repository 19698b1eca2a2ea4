-- Values (2.9). A constant value has no variables.
use Rattle.std.specs.Prelude.{Bool, true, false, bytes_eq, codes, if◌then◌else◌}
use Rattle.gql_text.specs.Lexeme.{Lexeme}
use Rattle.gql_text.specs.Values.{text_value}
use Rattle.gql_text.specs.declared.token.Kind.{Kind}
use Rattle.gql_text.specs.declared.token.Kind.TheVariants as k
use Rattle.gql_ast.specs.declared.literal.Literal.{Literal}
use Rattle.gql_ast.specs.declared.literal.Literal.TheVariants as e
use Rattle.gql_ast.specs.declared.literal.ObjectField.{ObjectField, roll-ObjectField}
use Rattle.gql_grammar.specs.Symbol.{Phrase, ◌>>=◌, ◌>>◌, pure, refuse, token, by_kind, choose, before}
use Rattle.gql_grammar.specs.Repetition.{any_while}
use Rattle.gql_grammar.specs.Recursion.{recursive}
use Rattle.gql_parse.specs.Names.{name}
use Rattle.gql_parse.specs.declared.literal.ValueForm.{ValueForm}
use Rattle.gql_parse.specs.declared.literal.ValueForm.TheVariants.{Constant, WithVariables}

-- whether values of this form are constant (2.9)
abbrev pub is_constant : ValueForm → Bool
is_constant Constant = true
is_constant WithVariables = false

-- Variable: $ Name (2.10)
unfoldable pub variable : Phrase Literal
variable = do
  mark ← token k.Dollar
  found ← name
  pure (e.Variable mark.place found.text)

-- IntValue (2.9.1)
unfoldable pub int : Phrase Literal
int = do
  t ← token k.IntValue
  pure (e.Int t.place t.text)

-- FloatValue (2.9.2)
unfoldable pub float : Phrase Literal
float = do
  t ← token k.FloatValue
  pure (e.Float t.place t.text)

-- StringValue (2.9.4)
unfoldable pub string : Phrase Literal
string = do
  t ← token k.StringValue
  pure (e.String t.place (text_value t.text))

-- StringValue, as a block string (2.9.4)
unfoldable pub block_string : Phrase Literal
block_string = do
  t ← token k.BlockString
  pure (e.String t.place (text_value t.text))

-- the value of a name: true or false (2.9.3), null (2.9.5), or else an EnumValue (2.9.6)
abbrev pub word_value : Lexeme → Literal
word_value t =
    if bytes_eq t.text (codes "true") then e.Boolean t.place true
    else if bytes_eq t.text (codes "false") then e.Boolean t.place false
    else if bytes_eq t.text (codes "null") then e.Null t.place
    else e.Enum t.place t.text

-- BooleanValue, NullValue or EnumValue
unfoldable pub word_literal : Phrase Literal
word_literal = do
  t ← token k.Name
  pure (word_value t)

-- ListValue: [ Value* ], given what a value is (2.9.7)
unfoldable pub list_of : Phrase Literal → Phrase Literal
list_of value = do
  mark ← token k.LeftBracket
  items ← any_while (before k.RightBracket) value
  token k.RightBracket
  pure (e.List mark.place items)

-- ObjectField: Name : Value, given what a value is (2.9.8)
unfoldable pub object_field_of : Phrase Literal → Phrase ObjectField
object_field_of value = do
  found ← name
  token k.Colon
  given ← value
  pure (roll-ObjectField (record { name = found; value = given }))

-- ObjectValue: { ObjectField* }, given what a value is (2.9.8)
unfoldable pub object_of : Phrase Literal → Phrase Literal
object_of value = do
  mark ← token k.LeftBrace
  fields ← any_while (before k.RightBrace) (object_field_of value)
  token k.RightBrace
  pure (e.Object mark.place fields)

-- Variable, which a constant value may not be (2.9)
abbrev pub variable_unless : Bool → Phrase Literal
variable_unless constant = choose constant refuse variable

-- Value, by the kind of its first token, given what an inner value is (2.9)
abbrev pub value_by : Bool → Phrase Literal → Kind → Phrase Literal
value_by constant value k.Dollar = variable_unless constant
value_by constant value k.IntValue = int
value_by constant value k.FloatValue = float
value_by constant value k.StringValue = string
value_by constant value k.BlockString = block_string
value_by constant value k.Name = word_literal
value_by constant value k.LeftBracket = list_of value
value_by constant value k.LeftBrace = object_of value
value_by constant value _ = refuse

-- Value, given what an inner value is (2.9)
abbrev pub value_of : Bool → Phrase Literal → Phrase Literal
value_of constant value = by_kind (value_by constant value)

-- Value (2.9), constant or not
unfoldable pub value : Bool → Phrase Literal
value constant = recursive (value_of constant)
