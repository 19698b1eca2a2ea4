-- Literals as plain data, so that definitions can recurse on them (GraphQL specification, 2.9).
use Rattle.std.specs.Prelude.{ℕ, List, [], ◌∷◌, Bool, true, false}
use Rattle.gql_text.specs.declared.place.Place.{Place}
use Rattle.gql_ast.specs.declared.literal.Literal.{Literal, fold-Literal}
use Rattle.gql_ast.specs.declared.literal.ObjectField.{ObjectField}
use Rattle.gql_ast.specs.declared.literal.Literal.TheOpen.{Literal-F, ObjectField-F}
use Rattle.gql_ast.specs.declared.text.Name.{Name}

-- a value with its place, the items of a list, and the fields of an object
mutual
  pub data Value : Type 0 where
    -- a variable, by its name
    variable : Place → List ℕ → Value
    null : Place → Value
    -- an integer, and another number, as they are written
    int : Place → List ℕ → Value
    float : Place → List ℕ → Value
    string : Place → Value
    boolean : Place → Value
    -- a name other than true, false and null
    enum : Place → List ℕ → Value
    list : Place → Values → Value
    object : Place → Fields → Value

  pub data Values : Type 0 where
    no_values : Values
    value : Value → Values → Values

  pub data Fields : Type 0 where
    no_fields : Fields
    field : Name → Value → Fields → Fields

-- a field that an object gives
pub record GivenField : Type 0 where
  pub name : Name
  pub value : Value

-- a list, as items
abbrev pub values_of : List Value → Values
values_of [] = no_values
values_of (x ∷ xs) = value x (values_of xs)

-- a list, as fields
abbrev pub fields_of : List GivenField → Fields
fields_of [] = no_fields
fields_of (f ∷ fs) = field f.name f.value (fields_of fs)

-- the fields, as a list
abbrev pub all_fields : Fields → List GivenField
all_fields no_fields = []
all_fields (field n x fs) = record { name = n; value = x } ∷ all_fields fs

-- a literal, by its form and its parts as values
abbrev pub value_at : Literal-F Value GivenField → Value
value_at (Literal-F.Variable place name) = variable place name
value_at (Literal-F.Null place) = null place
value_at (Literal-F.Int place text) = int place text
value_at (Literal-F.Float place text) = float place text
value_at (Literal-F.String place text) = string place
value_at (Literal-F.Boolean place truth) = boolean place
value_at (Literal-F.Enum place name) = enum place name
value_at (Literal-F.List place items) = list place (values_of items)
value_at (Literal-F.Object place fields) = object place (fields_of fields)

-- a field, by its value
abbrev pub field_at : ObjectField-F Value GivenField → GivenField
field_at f = record { name = f.name; value = f.value }

-- a literal as a value
unfoldable pub value_of : Literal → Value
value_of = fold-Literal Value GivenField value_at field_at

-- a field of an object literal
abbrev pub given_field : ObjectField → GivenField
given_field f = record { name = f.name; value = value_of f.value }

-- where a value starts
abbrev pub place_of : Value → Place
place_of (variable p name) = p
place_of (null p) = p
place_of (int p text) = p
place_of (float p text) = p
place_of (string p) = p
place_of (boolean p) = p
place_of (enum p name) = p
place_of (list p xs) = p
place_of (object p fs) = p

-- whether a value is null
abbrev pub is_null : Value → Bool
is_null (null p) = true
is_null _ = false

-- whether a value may be an item where lists are expected: a list, null or a variable (3.11)
abbrev pub may_be_list : Value → Bool
may_be_list (list p xs) = true
may_be_list (null p) = true
may_be_list (variable p name) = true
may_be_list _ = false
