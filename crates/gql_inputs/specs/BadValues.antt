-- What of a value does not fit its type (GraphQL specification, 5.6): values of correct type (V18),
-- input object field names (V19), their uniqueness (V20), and required fields (V21). Types come
-- from a look-up, so that the same definitions serve a schema and anything else that knows input
-- types.
use Rattle.std.specs.Prelude.{ℕ, List, [], ◌∷◌, ◌++◌, ◌&&◌, ◌||◌, Bool, true, false, not, map, flat_map, bytes_eq, is_some, Option, Some, None, nat_eq, length, if◌then◌else◌}
use Rattle.std.specs.List.{list_any}
use Rattle.gql_text.specs.declared.place.Place.{Place}
use Rattle.gql_ast.specs.declared.literal.Literal.{Literal}
use Rattle.gql_ast.specs.declared.rule.Rule.{Rule}
use Rattle.gql_ast.specs.declared.rule.Rule.TheVariants as rule
use Rattle.gql_ast.specs.declared.text.Name.{Name}
use Rattle.gql_built_in.specs.declared.sited.Sited.{Sited}
use Rattle.gql_faults.specs.Names.{repeated}
use Rattle.gql_types.specs.Parts.{sited}
use Rattle.gql_types.specs.Written.{Written}
use Rattle.gql_types.specs.declared.schema.Schema.{Schema}
use Rattle.gql_inputs.specs.InputTypes.{name_in, item_of, is_custom, is_list, is_non_null, one_of, text_of}
use Rattle.gql_inputs.specs.Lookups.{InputForm, scalar, enumeration, input_object, FieldForm, InputLookup, field_named, is_required, in_schema}
use Rattle.gql_inputs.specs.Numbers.{is_number, is_whole, real_of}
use Rattle.gql_inputs.specs.Values.{Value, variable, null, int, float, string, boolean, enum, list, object, Values, no_values, value, Fields, no_fields, field, GivenField, all_fields, value_of, place_of, is_null, may_be_list}
use Rattle.gql_inputs.specs.declared.bad_value.BadValue.{BadValue}
use Rattle.gql_inputs.specs.declared.scalar.Scalar.{Scalar}
use Rattle.gql_inputs.specs.declared.scalar.Scalar.TheVariants as scalars

-- one fault: its rule, its place, and what it is about
abbrev pub bad : Rule → Place → List ℕ → List BadValue
bad r place about = record { rule = r; place = place; about = about } ∷ []

-- ---- which values without parts an input type takes (3.5, 3.9)

-- Int takes integers of 32 bits, ID and custom scalars those of 64. Float and open scalars take
-- these, and others whose nearest double is finite.
abbrev pub scalar_takes_int : List ℕ → Scalar → Bool
scalar_takes_int text scalars.Int = is_whole 31 text
scalar_takes_int text scalars.Id = is_whole 63 text
scalar_takes_int text scalars.Custom = is_whole 63 text
scalar_takes_int text scalars.Float = is_number text
scalar_takes_int text scalars.Open = is_number text
scalar_takes_int text scalars.String = false
scalar_takes_int text scalars.Boolean = false

-- Float and open scalars take a number with a fraction or an exponent, if its nearest double is
-- finite
abbrev pub scalar_takes_float : List ℕ → Scalar → Bool
scalar_takes_float text scalars.Float = is_some (real_of text)
scalar_takes_float text scalars.Open = is_some (real_of text)
scalar_takes_float text scalars.Int = false
scalar_takes_float text scalars.Id = false
scalar_takes_float text scalars.Custom = false
scalar_takes_float text scalars.String = false
scalar_takes_float text scalars.Boolean = false

-- String, ID and scalars of schema files take strings
abbrev pub scalar_takes_string : Scalar → Bool
scalar_takes_string scalars.String = true
scalar_takes_string scalars.Id = true
scalar_takes_string scalars.Custom = true
scalar_takes_string scalars.Open = true
scalar_takes_string scalars.Int = false
scalar_takes_string scalars.Float = false
scalar_takes_string scalars.Boolean = false

-- Boolean and scalars of schema files take true and false
abbrev pub scalar_takes_boolean : Scalar → Bool
scalar_takes_boolean scalars.Boolean = true
scalar_takes_boolean scalars.Custom = true
scalar_takes_boolean scalars.Open = true
scalar_takes_boolean scalars.Int = false
scalar_takes_boolean scalars.Float = false
scalar_takes_boolean scalars.String = false
scalar_takes_boolean scalars.Id = false

-- whether a scalar takes a value, by this; an enum or an input object does not
abbrev pub takes_as_scalar : (Scalar → Bool) → InputForm → Bool
takes_as_scalar takes (scalar s) = takes s
takes_as_scalar takes (enumeration values) = false
takes_as_scalar takes (input_object fields) = false

-- a custom scalar takes any name, and an enum its values
abbrev pub takes_name : List ℕ → InputForm → Bool
takes_name name (scalar s) = is_custom s
takes_name name (enumeration values) = list_any (bytes_eq name) values
takes_name name (input_object fields) = false

-- whether an input type takes a value without parts
abbrev pub takes : Value → InputForm → Bool
takes (int p text) i = takes_as_scalar (scalar_takes_int text) i
takes (float p text) i = takes_as_scalar (scalar_takes_float text) i
takes (string p) i = takes_as_scalar scalar_takes_string i
takes (boolean p) i = takes_as_scalar scalar_takes_boolean i
takes (enum p name) i = takes_name name i
takes _ i = true

-- a scalar of a schema file
abbrev pub is_custom_form : InputForm → Bool
is_custom_form i = takes_as_scalar is_custom i

-- ---- V18: values of correct type

-- what is found by an input type, or nothing if it is not known
abbrev pub of_known : (InputForm → List BadValue) → Option InputForm → List BadValue
of_known f None = []
of_known f (Some i) = f i

-- what is found by the input type that a type names, or nothing if it is not known
abbrev pub where_known : InputLookup → Written → (InputForm → List BadValue) → List BadValue
where_known look t f = of_known f (look (name_in t))

-- a value that does not fit, where the type is known
abbrev pub never_fits : InputLookup → Place → Written → List BadValue
never_fits look p t = where_known look t (λ i. bad rule.V18 p (text_of t))

-- the type that a fault is about: a custom scalar by its name, another type as it is written for
-- one value
abbrev pub expected : Written → InputForm → List ℕ
expected t i = if is_custom_form i then name_in t else text_of (one_of t)

-- V18 of a value without parts, unless this type takes it
abbrev pub single_at : Written → Value → InputForm → List BadValue
single_at t x i = if takes x i then [] else bad rule.V18 (place_of x) (expected t i)

-- V18 of a value without parts, if the type is known
abbrev pub single_misfits : InputLookup → Written → Value → List BadValue
single_misfits look t x = where_known look t (single_at t x)

-- null at a Non-Null type
abbrev pub null_misfits : InputLookup → Place → Written → List BadValue
null_misfits look p t = if is_non_null t then never_fits look p t else []

-- ---- V18 within a scalar of a schema file: it takes the same numbers wherever they are (this
-- registry's own rule)

-- V18 within a value that this scalar takes, about this name
abbrev mutual
  -- in a value
  pub within : Scalar → List ℕ → Value → List BadValue
  within s name (variable p n) = []
  within s name (null p) = []
  within s name (int p text) = if scalar_takes_int text s then [] else bad rule.V18 p name
  within s name (float p text) = if scalar_takes_float text s then [] else bad rule.V18 p name
  within s name (string p) = []
  within s name (boolean p) = []
  within s name (enum p n) = []
  within s name (list p xs) = within_values s name xs
  within s name (object p fs) = within_fields s name fs

  -- in the items of a list
  pub within_values : Scalar → List ℕ → Values → List BadValue
  within_values s name no_values = []
  within_values s name (value x xs) = within s name x ++ within_values s name xs

  -- in the fields of an object
  pub within_fields : Scalar → List ℕ → Fields → List BadValue
  within_fields s name no_fields = []
  within_fields s name (field n x fs) = within s name x ++ within_fields s name fs

-- a list or an object where another value is expected, about the type of that value
abbrev pub at_one : Place → Written → List BadValue
at_one p t = bad rule.V18 p (text_of (one_of t))

-- what is found within a value, by the scalar of a schema file that takes it and by its name
abbrev pub Inside : Type 0
Inside = Scalar → List ℕ → List BadValue

-- V18 of a list or an object where a scalar is expected: one of a schema file takes it, if it takes
-- what is in it
abbrev pub at_scalar : Place → Written → Inside → Scalar → List BadValue
at_scalar p t inside s = if is_custom s then inside s (name_in t) else at_one p t

-- ---- lists (3.11)

-- V18 of a list where none is expected
abbrev pub list_at_one : Place → Written → Inside → InputForm → List BadValue
list_at_one p t inside (scalar s) = at_scalar p t inside s
list_at_one p t inside (enumeration values) = at_one p t
list_at_one p t inside (input_object fields) = at_one p t

-- V18 of a list, by the item type of its type, if that is a list type
abbrev pub list_by : InputLookup → Place → Written → Inside
    → (Written → List BadValue) → Option Written → List BadValue
list_by look p t inside items None = where_known look t (list_at_one p t inside)
list_by look p t inside items (Some item) = items item

-- What of an item of a list does not fit. An item is not made a list of one (3.11).
abbrev pub item_by : InputLookup → Written → Value → List BadValue → List BadValue
item_by look item x misfits =
    if is_list item && not (may_be_list x) then never_fits look (place_of x) item else misfits

-- ---- input objects (3.10)

-- V19 of a field that the type does not have; of another field, what of its value does not fit its
-- type. Null at a required field is reported by V21 alone.
abbrev pub field_by : Name → Value → (Written → List BadValue) → Option FieldForm → List BadValue
field_by n x misfits None = bad rule.V19 n.place n.text
field_by n x misfits (Some f) = if is_null x && is_required f then [] else misfits f.of_type

-- a field of this name is given
abbrev pub is_given : List GivenField → List ℕ → Bool
is_given given name = list_any (λ (g : GivenField). bytes_eq name g.name.text) given

-- a field of this name is given as null
abbrev pub is_null_given : List GivenField → List ℕ → Bool
is_null_given given name =
    list_any (λ (g : GivenField). bytes_eq name g.name.text && is_null g.value) given

-- a field is not given, or is given as null
abbrev pub lacks : Bool → Bool → Bool
lacks is_there is_null = not is_there || is_null

-- V21 of a field, if it is required and missing
abbrev pub missing_if : Bool → Place → FieldForm → List BadValue
missing_if is_missing p f = if is_required f && is_missing then bad rule.V21 p f.name else []

-- V21 of one field of the type, by what an object gives
abbrev pub missing : Place → List GivenField → FieldForm → List BadValue
missing p given f = missing_if (lacks (is_given given f.name) (is_null_given given f.name)) p f

-- what of an object does not fit, by its input type
abbrev pub object_by : Place → Written → List GivenField → Inside
    → (List FieldForm → List BadValue) → InputForm → List BadValue
object_by p t given inside misfits (scalar s) = at_scalar p t inside s
object_by p t given inside misfits (enumeration values) = at_one p t
object_by p t given inside misfits (input_object fields) =
    misfits fields ++ flat_map (missing p given) fields

-- ---- V18, V19 and V21 of a value, by the type that is expected

-- what does not fit of a value, of its items and of its fields
abbrev mutual
  -- of a value; V29 checks variables, by their own types
  pub misfits : InputLookup → Written → Value → List BadValue
  misfits look t (variable p name) = []
  misfits look t (null p) = null_misfits look p t
  misfits look t (int p text) = single_misfits look t (int p text)
  misfits look t (float p text) = single_misfits look t (float p text)
  misfits look t (string p) = single_misfits look t (string p)
  misfits look t (boolean p) = single_misfits look t (boolean p)
  misfits look t (enum p name) = single_misfits look t (enum p name)
  misfits look t (list p xs) = list_by look p t (λ s name. within_values s name xs)
      (λ item. items_misfits look item xs) (item_of t)
  misfits look t (object p fs) = where_known look t
      (object_by p t (all_fields fs) (λ s name. within_fields s name fs)
      (λ fields. fields_misfits look fields fs))

  -- of the items of a list, by their type
  pub items_misfits : InputLookup → Written → Values → List BadValue
  items_misfits look item no_values = []
  items_misfits look item (value x xs) =
      item_by look item x (misfits look item x) ++ items_misfits look item xs

  -- of the fields of an object, by the fields of its type
  pub fields_misfits : InputLookup → List FieldForm → Fields → List BadValue
  fields_misfits look fields no_fields = []
  fields_misfits look fields (field n x fs) =
      field_by n x (λ t. misfits look t x) (field_named fields n.text)
      ++ fields_misfits look fields fs

-- what of a list does not fit
abbrev pub list_misfits : InputLookup → Place → Written → Values → List BadValue
list_misfits look p t xs = list_by look p t (λ s name. within_values s name xs)
    (λ item. items_misfits look item xs) (item_of t)

-- what of an object does not fit
abbrev pub object_misfits : InputLookup → Place → Written → Fields → List BadValue
object_misfits look p t fs = where_known look t
    (object_by p t (all_fields fs) (λ s name. within_fields s name fs)
    (λ fields. fields_misfits look fields fs))

-- what of one item of a list does not fit
abbrev pub item_misfits : InputLookup → Written → Value → List BadValue
item_misfits look item x = item_by look item x (misfits look item x)

-- what of one field of an object does not fit
abbrev pub field_misfits : InputLookup → List FieldForm → GivenField → List BadValue
field_misfits look fields g =
    field_by g.name g.value (λ t. misfits look t g.value) (field_named fields g.name.text)

-- ---- V20, in every object, whatever is expected

-- V20 of a field whose name another one has
abbrev pub repeat : Sited Name → List BadValue
repeat n = bad rule.V20 n.node.place n.node.text

-- V20 of an object's own fields: of each whose name another one has
abbrev pub field_repeats : List GivenField → List BadValue
field_repeats given =
    flat_map repeat (repeated (sited None (map (λ (g : GivenField). g.name) given)))

-- V20 in a value, in its items and in its fields
abbrev mutual
  -- in a value: an object's own fields come before those within its fields
  pub repeats : Value → List BadValue
  repeats (variable p name) = []
  repeats (null p) = []
  repeats (int p text) = []
  repeats (float p text) = []
  repeats (string p) = []
  repeats (boolean p) = []
  repeats (enum p name) = []
  repeats (list p xs) = repeats_in_values xs
  repeats (object p fs) = field_repeats (all_fields fs) ++ repeats_in_fields fs

  -- in the items of a list
  pub repeats_in_values : Values → List BadValue
  repeats_in_values no_values = []
  repeats_in_values (value x xs) = repeats x ++ repeats_in_values xs

  -- in the fields of an object
  pub repeats_in_fields : Fields → List BadValue
  repeats_in_fields no_fields = []
  repeats_in_fields (field n x fs) = repeats x ++ repeats_in_fields fs

-- ---- what does not fit

-- what of a value does not fit a type, by a look-up of input types
abbrev pub bad_values_by : InputLookup → Value → Written → List BadValue
bad_values_by look x t = misfits look t x ++ repeats x

-- what of a literal does not fit a type of a schema
abbrev pub bad_values : Schema → Literal → Written → List BadValue
bad_values s x t = bad_values_by (in_schema s) (value_of x) t

-- a literal fits a type of a schema if nothing of it is bad
abbrev pub fits : Schema → Literal → Written → Bool
fits s x t = nat_eq (length (bad_values s x t)) 0
