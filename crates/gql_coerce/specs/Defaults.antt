-- Which default values the coercion of an input takes (GraphQL specification, 3.10), and cycles of
-- them.
use Rattle.std.specs.Prelude.{◌≡◌, ◌&&◌, List, Bool, true, false, not, Option, Some, None, option_map, Contains}
use Rattle.gql_ast.specs.declared.literal.Literal.{Literal}
use Rattle.gql_ast.specs.declared.type_system.InputValueDefinition.{InputValueDefinition}
use Rattle.gql_types.specs.Written.{Written, written}
use Rattle.gql_types.specs.declared.schema.Schema.{Schema}
use Rattle.serde_json.specs.Data as json
use Rattle.serde_json.specs.Data.{Data}
use Rattle.gql_coerce.specs.Coercion.{Entry, are, entries_for, Expected, anything, this, items_expected, is_list_expected}
use Rattle.gql_coerce.specs.Inputs.{Input, Inputs, Fields, absent, given, null, single, list, object, all_inputs, all_fields, literal, may_be_list}

-- whether an input is a variable without a value
abbrev pub is_absent : Input → Bool
is_absent absent = true
is_absent (given d) = false
is_absent null = false
is_absent (single x) = false
is_absent (list xs) = false
is_absent (object fs) = false

-- whether a field is not given, or given as a variable without a value
abbrev pub is_left_out : Option Input → Bool
is_left_out None = true
is_left_out (Some x) = is_absent x

-- what is expected of an item: this type, or anything
pub data IsExpected : Expected → Option Written → Type 0 where
  of_type : (t : Written) → IsExpected (this t) (Some t)
  of_any : IsExpected anything None

-- The coercion of an input, at a type or within a custom scalar, takes the default value of this
-- field: an object within the input leaves the field out. An item takes none if it is refused
-- because it is not a list where one is expected.
pub data Takes (s : Schema) : Input → Option Written → InputValueDefinition → Type 0 where
  here : {fs : Fields} {e : Option Written} {d : InputValueDefinition} (es : List Entry) (m : Entry)
      → entries_for s (all_fields fs) e ≡ are es → Contains es m → m.definition ≡ Some d
      → is_left_out m.given ≡ true → Takes s (object fs) e d
  in_field : {fs : Fields} {e : Option Written} {d : InputValueDefinition}
      (es : List Entry) (m : Entry) (x : Input)
      → entries_for s (all_fields fs) e ≡ are es → Contains es m → m.given ≡ Some x
      → Takes s x (option_map (λ (v : InputValueDefinition). written v.of_type) m.definition) d
      → Takes s (object fs) e d
  in_item : {xs : Inputs} {e : Option Written} {d : InputValueDefinition}
      (item : Option Written) (x : Input)
      → IsExpected (items_expected s e) item → Contains (all_inputs xs) x
      → (is_list_expected item && not (may_be_list x)) ≡ false → Takes s x item d
      → Takes s (list xs) e d

-- the default value of a field takes the default value of another
abbrev pub DefaultTakes : Schema → InputValueDefinition → InputValueDefinition → Type 0
DefaultTakes s d e = (x : Literal) × (d.default ≡ Some x)
    × Takes s (literal json.null x) (Some (written d.of_type)) e

-- the default value of a field takes that of another, through any number of fields
pub data LeadsTo (s : Schema) : InputValueDefinition → InputValueDefinition → Type 0 where
  one : {d e : InputValueDefinition} → DefaultTakes s d e → LeadsTo s d e
  more : {d e f : InputValueDefinition} → DefaultTakes s d e → LeadsTo s e f → LeadsTo s d f

-- no default value leads back to itself
abbrev pub HasNoCycle : Schema → Type 0
HasNoCycle s = (d : InputValueDefinition) → LeadsTo s d d → ⊥
