-- Inputs, as coercion sees them: the literals of a document (GraphQL specification, 2.9) and the
-- values of JSON, in one form.
use Rattle.std.specs.Prelude.{ℕ, ℤ, List, [], ◌∷◌, Bool, true, false, not, filter, bytes_eq, Float, Option, Some, None}
use Rattle.gql_ast.specs.declared.literal.Literal.{Literal, fold-Literal}
use Rattle.gql_ast.specs.declared.literal.ObjectField.{ObjectField}
use Rattle.gql_ast.specs.declared.literal.Literal.TheOpen.{Literal-F, ObjectField-F}
use Rattle.gql_inputs.specs.Numbers.{real_of, whole_number}
use Rattle.serde_json.specs.Data as json
use Rattle.serde_json.specs.Data.{Num, Data, Items, Members}
use Rattle.serde_json.specs.Find.{as_i64, get, to_float}

-- a value without parts
pub data Single : Type 0 where
  -- an integer of 64 signed bits
  whole : ℤ → Single
  -- a literal integer past them, by its nearest double if that is finite
  out_of_range : Option Float → Single
  -- another number, by the same
  fraction : Option Float → Single
  -- a string of a document, and one of JSON
  text : List ℕ → Single
  json_text : List ℕ → Single
  truth : Bool → Single
  -- an enum literal
  name : List ℕ → Single

-- an input, the items of a list, and the fields of an object
mutual
  pub data Input : Type 0 where
    -- a variable without a value, and one with it
    absent : Input
    given : Data → Input
    null : Input
    single : Single → Input
    list : Inputs → Input
    object : Fields → Input

  pub data Inputs : Type 0 where
    no_inputs : Inputs
    input : Input → Inputs → Inputs

  pub data Fields : Type 0 where
    no_fields : Fields
    field : List ℕ → Input → Fields → Fields

-- a field that an object gives
pub record Field : Type 0 where
  pub name : List ℕ
  pub value : Input

-- the items, as a list
abbrev pub all_inputs : Inputs → List Input
all_inputs no_inputs = []
all_inputs (input x xs) = x ∷ all_inputs xs

-- the fields, as a list
abbrev pub all_fields : Fields → List Field
all_fields no_fields = []
all_fields (field n x fs) = record { name = n; value = x } ∷ all_fields fs

-- a list as items
abbrev pub inputs_of : List Input → Inputs
inputs_of [] = no_inputs
inputs_of (x ∷ xs) = input x (inputs_of xs)

-- a list as fields
abbrev pub fields_of : List Field → Fields
fields_of [] = no_fields
fields_of (f ∷ fs) = field f.name f.value (fields_of fs)

-- ---- the literals of a document

-- the first of each name
abbrev pub firsts_by : {A : Type 0} → (A → List ℕ) → List A → List A
firsts_by called [] = []
firsts_by called (x ∷ xs) =
    x ∷ filter (λ y. not (bytes_eq (called x) (called y))) (firsts_by called xs)

-- the first field of each name; others of the name do not count
abbrev pub firsts : List Field → List Field
firsts fs = firsts_by (λ (f : Field). f.name) fs

-- a variable, by its value
abbrev pub of_variable : Option Data → Input
of_variable None = absent
of_variable (Some d) = given d

-- a literal integer, if it has 64 bits, and its nearest double if that is finite
abbrev pub of_whole : Option ℤ → Option Float → Single
of_whole None x = out_of_range x
of_whole (Some z) x = whole z

-- a literal integer
abbrev pub of_int : List ℕ → Single
of_int t = of_whole (whole_number t) (real_of t)

-- a literal of this form, from its parts as inputs; `vs` has the values of the variables
abbrev pub literal_at : Data → Literal-F Input Field → Input
literal_at vs (Literal-F.Variable place n) = of_variable (get n vs)
literal_at vs (Literal-F.Null place) = null
literal_at vs (Literal-F.Int place t) = single (of_int t)
literal_at vs (Literal-F.Float place t) = single (fraction (real_of t))
literal_at vs (Literal-F.String place t) = single (text t)
literal_at vs (Literal-F.Boolean place b) = single (truth b)
literal_at vs (Literal-F.Enum place n) = single (name n)
literal_at vs (Literal-F.List place xs) = list (inputs_of xs)
literal_at vs (Literal-F.Object place fs) = object (fields_of (firsts fs))

-- a field, by its value as an input
abbrev pub field_in : ObjectField-F Input Field → Field
field_in f = record { name = f.name.text; value = f.value }

-- a literal as an input; the object `vs` has the values of the variables
unfoldable pub literal : Data → Literal → Input
literal vs = fold-Literal Input Field (literal_at vs) field_in

-- a field of an object literal
abbrev pub literal_field : Data → ObjectField → Field
literal_field vs f = record { name = f.name.text; value = literal vs f.value }

-- ---- the values of JSON

-- a number of JSON, if it is an integer of 64 bits, and its double
abbrev pub of_num_by : Option ℤ → Float → Single
of_num_by None x = fraction (Some x)
of_num_by (Some z) x = whole z

-- a number of JSON
abbrev pub of_number : Num → Single
of_number n = of_num_by (as_i64 n) (to_float n)

-- a value of JSON, its items, and its members
abbrev mutual
  pub json_input : Data → Input
  json_input json.null = null
  json_input (json.boolean b) = single (truth b)
  json_input (json.number n) = single (of_number n)
  json_input (json.string t) = single (json_text t)
  json_input (json.array ds) = list (json_inputs ds)
  json_input (json.object ms) = object (json_fields ms)

  pub json_inputs : Items → Inputs
  json_inputs json.no_items = no_inputs
  json_inputs (json.item d ds) = input (json_input d) (json_inputs ds)

  pub json_fields : Members → Fields
  json_fields json.no_members = no_fields
  json_fields (json.member k d ms) = field k (json_input d) (json_fields ms)

-- whether an input may be an item where lists are expected: a list, null or a variable
abbrev pub may_be_list : Input → Bool
may_be_list absent = true
may_be_list (given d) = true
may_be_list null = true
may_be_list (single x) = false
may_be_list (list xs) = true
may_be_list (object fs) = false
