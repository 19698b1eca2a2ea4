-- When two fields of one response name are the same call (GraphQL specification, 5.3.2): they have
-- the same field name and identical sets of arguments. The law `calls` says that two fields are the
-- same call exactly if they have one text; the contracts of gql_merge compare fields by it.
use Rattle.std.specs.Prelude.{◌≡◌, ◌↔◌, ◌<◌, ◌^◌, ℕ, List, [], ◌∷◌, Bool, true, false, length, All, Contains}
use Rattle.std.specs.List.Sorted.{IsPermutation}
use Rattle.gql_text.specs.Grammar.{IsName}
use Rattle.gql_text.specs.declared.place.Place.{Place}
use Rattle.gql_ast.specs.declared.literal.Argument.{Argument}
use Rattle.gql_ast.specs.declared.literal.Literal.{Literal}
use Rattle.gql_ast.specs.declared.literal.Literal.TheVariants as l
use Rattle.gql_ast.specs.declared.literal.ObjectField.{ObjectField}
use Rattle.gql_facts.specs.Worlds.{Facts}
use Rattle.gql_facts.specs.declared.fact.FieldFact.{FieldFact}
use Rattle.gql_merge.specs.Calls.{call_text}
use Rattle.gql_merge.specs.FieldNodes.{FieldNode}
use Rattle.gql_merge.specs.FieldSets.{WrittenField, info_of}
use Rattle.gql_merge.specs.MergedNodes.{nodes}
use Rattle.gql_printed.specs.Written.{IsWritten}

-- a number, by how it is written
pub data IsNumber : Literal → List ℕ → Type 0 where
  whole : {x : Literal} (p : Place) (text : List ℕ) → x ≡ l.Int p text → IsNumber x text
  with_fraction : {x : Literal} (p : Place) (text : List ℕ) → x ≡ l.Float p text → IsNumber x text

-- ---- values

mutual
  -- the same value, whatever the places
  pub data SameValue : Literal → Literal → Type 0 where
    -- variables of one name
    variables : {x y : Literal} (p q : Place) (name : List ℕ) → x ≡ l.Variable p name
        → y ≡ l.Variable q name → SameValue x y
    -- numbers that are written alike: `1` and `1.0` differ
    numbers : {x y : Literal} (text : List ℕ) → IsNumber x text → IsNumber y text → SameValue x y
    -- strings of one value, however they are quoted
    strings : {x y : Literal} (p q : Place) (value : List ℕ) → x ≡ l.String p value
        → y ≡ l.String q value → SameValue x y
    booleans : {x y : Literal} (p q : Place) (value : Bool) → x ≡ l.Boolean p value
        → y ≡ l.Boolean q value → SameValue x y
    nulls : {x y : Literal} (p q : Place) → x ≡ l.Null p → y ≡ l.Null q → SameValue x y
    -- enum values of one name
    enums : {x y : Literal} (p q : Place) (name : List ℕ) → x ≡ l.Enum p name
        → y ≡ l.Enum q name → SameValue x y
    -- lists of the same items in the same order
    lists : {x y : Literal} (p q : Place) (xs ys : List Literal) → x ≡ l.List p xs
        → y ≡ l.List q ys → SameItems xs ys → SameValue x y
    -- objects of the same fields in some order: a field that is written twice counts twice
    objects : {x y : Literal} (p q : Place) (fs gs hs : List ObjectField) → x ≡ l.Object p fs
        → y ≡ l.Object q gs → IsPermutation gs hs → SameFields fs hs → SameValue x y

  -- the same items, one by one
  pub data SameItems : List Literal → List Literal → Type 0 where
    no_items : SameItems [] []
    item : {x y : Literal} {xs ys : List Literal} → SameValue x y → SameItems xs ys
        → SameItems (x ∷ xs) (y ∷ ys)

  -- the same names with the same values, one by one
  pub data SameFields : List ObjectField → List ObjectField → Type 0 where
    no_fields : SameFields [] []
    field : {f g : ObjectField} {fs gs : List ObjectField} → f.name.text ≡ g.name.text
        → SameValue f.value g.value → SameFields fs gs → SameFields (f ∷ fs) (g ∷ gs)

-- ---- calls

-- an argument of the same name with the same value
pub record SameArgument (x y : Argument) : Type 0 where
  pub same_name : x.name.text ≡ y.name.text
  pub same_value : SameValue x.value y.value

-- each of these arguments is one of the others, by its name and its value
abbrev pub AreAmong : List Argument → List Argument → Type 0
AreAmong arguments others = (x : Argument) → Contains arguments x
    → (y : Argument) × Contains others y × SameArgument x y

-- The same field name and the same arguments. Arguments are a set: neither their order counts nor
-- how often one is written.
pub record SameCall (name : List ℕ) (arguments : List Argument) (other : List ℕ)
    (others : List Argument) : Type 0 where
  pub same_name : name ≡ other
  pub in_others : AreAmong arguments others
  pub in_these : AreAmong others arguments

-- a field that a document can write: its name, and the names and values of its arguments
pub record IsWrittenCall (name : List ℕ) (arguments : List Argument) : Type 0 where
  pub is_name : IsName name
  pub names : All (λ (a : Argument). IsName a.name.text) arguments
  pub values : All (λ (a : Argument). IsWritten false a.value) arguments

-- Two fields that a document can write have one text exactly if they are the same call. The bound
-- on the text holds of each text in memory.
abbrev pub SameTextForSameCall : Type 0
SameTextForSameCall = (n m : List ℕ) (a b : List Argument) → IsWrittenCall n a → IsWrittenCall m b
    → length (call_text n a) < 2 ^ 64 → call_text n a ≡ call_text m b ↔ SameCall n a m b

-- the same call has one text, whatever the names and values are
abbrev pub SameCallHasSameText : Type 0
SameCallHasSameText = (n m : List ℕ) (a b : List Argument) → SameCall n a m b
    → call_text n a ≡ call_text m b

-- ---- rule V05

-- this node is what field merging compares of a field whose definition is known
pub record IsNodeOf (facts : Facts) (f : WrittenField) (x : FieldNode) : Type 0 where
  pub file : List ℕ
  pub parent : List ℕ
  pub definition : FieldFact
  pub is : x.its ≡ info_of facts file parent f definition

-- V05 asks whether two fields share their call: they do exactly if they are the same call
abbrev pub SharedCallIsSameCall : Type 0
SharedCallIsSameCall = (facts : Facts) (f g : WrittenField) (x y : FieldNode)
    → IsNodeOf facts f x → IsNodeOf facts g y
    → IsWrittenCall f.name.text f.arguments → IsWrittenCall g.name.text g.arguments
    → length (call_text f.name.text f.arguments) < 2 ^ 64
    → (nodes facts).share_call x y ≡ true
    ↔ SameCall f.name.text f.arguments g.name.text g.arguments
