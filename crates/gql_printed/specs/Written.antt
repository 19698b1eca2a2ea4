-- The literals that a document can write (2.9).
use Rattle.std.specs.Prelude.{◌≡◌, ◌≢◌, ℕ, List, [], ◌∷◌, Bool, false, codes}
use Rattle.gql_text.specs.Grammar.{IsName, IsInteger, IsFloat}
use Rattle.gql_text.specs.declared.place.Place.{Place}
use Rattle.gql_ast.specs.declared.literal.Literal.{Literal}
use Rattle.gql_ast.specs.declared.literal.Literal.TheVariants as l
use Rattle.gql_ast.specs.declared.literal.ObjectField.{ObjectField}

-- EnumValue: a Name other than true, false and null (2.9.6)
pub record IsEnumName (name : List ℕ) : Type 0 where
  pub is_name : IsName name
  pub not_true : name ≢ codes "true"
  pub not_false : name ≢ codes "false"
  pub not_null : name ≢ codes "null"

-- A literal that a document can write: each name is a Name (2.1.9), each number an IntValue or a
-- FloatValue (2.9.1, 2.9.2), a string has any bytes, and a constant value has no variables.
mutual
  pub data IsWritten (constant : Bool) : Literal → Type 0 where
    variable : {x : Literal} (p : Place) (name : List ℕ) → x ≡ l.Variable p name → constant ≡ false
        → IsName name
        → IsWritten constant x
    int : {x : Literal} (p : Place) (text : List ℕ) → x ≡ l.Int p text → IsInteger text
        → IsWritten constant x
    float : {x : Literal} (p : Place) (text : List ℕ) → x ≡ l.Float p text → IsFloat text
        → IsWritten constant x
    string : {x : Literal} (p : Place) (text : List ℕ) → x ≡ l.String p text → IsWritten constant x
    boolean : {x : Literal} (p : Place) (truth : Bool) → x ≡ l.Boolean p truth
        → IsWritten constant x
    null : {x : Literal} (p : Place) → x ≡ l.Null p → IsWritten constant x
    enum : {x : Literal} (p : Place) (name : List ℕ) → x ≡ l.Enum p name → IsEnumName name
        → IsWritten constant x
    list : {x : Literal} (p : Place) (items : List Literal) → x ≡ l.List p items
        → AreWritten constant items
        → IsWritten constant x
    object : {x : Literal} (p : Place) (fields : List ObjectField) → x ≡ l.Object p fields
        → AreWrittenFields constant fields → IsWritten constant x

  -- the same for the items of a list
  pub data AreWritten (constant : Bool) : List Literal → Type 0 where
    no_items : AreWritten constant []
    item : {x : Literal} {xs : List Literal} → IsWritten constant x → AreWritten constant xs
        → AreWritten constant (x ∷ xs)

  -- the same for the fields of an object
  pub data AreWrittenFields (constant : Bool) : List ObjectField → Type 0 where
    no_fields : AreWrittenFields constant []
    field : {f : ObjectField} {fs : List ObjectField} → IsName f.name.text
        → IsWritten constant f.value
        → AreWrittenFields constant fs → AreWrittenFields constant (f ∷ fs)
