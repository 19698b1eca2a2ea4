-- What the execution of a part gives (GraphQL 6.4.3 and 6.4.4): a value, or a null that bubbles;
-- errors in their order; and the number of values that were completed.
use Rattle.std.specs.Prelude.{ℕ, ◌+◌, List, [], ◌∷◌, ◌++◌, map, Bool, true, false, Option, Some, None}
use Rattle.gql_text.specs.declared.place.Place.{Place}
use Rattle.serde_json.specs.Data as json
use Rattle.serde_json.specs.Data.{Data}

-- a step of the path to a value of the answer
pub data Segment : Type 0 where
  key : List ℕ → Segment
  index : ℕ → Segment

-- a path to a value of the answer
abbrev pub Path : Type 0
Path = List Segment

-- a field error: its place is the start of the field
pub record Error : Type 0 where
  pub message : List ℕ
  pub place : Place
  pub path : Path

-- an error in completing the value of the present field, its list items included, or an error of a
-- field that it selects
pub data Note : Type 0 where
  own : Error → Note
  below : Error → Note

-- a value, or none: then a null bubbles; with its errors and the number of values that were
-- completed
pub record Reply (A : Type 0) : Type 0 where
  pub value : Option A
  pub notes : List Note
  pub weight : ℕ

-- ---- one part, and another after it: each is executed, also after an error

-- a value, without errors
abbrev pub returns : {A : Type 0} → A → Reply A
returns x = record { value = Some x; notes = []; weight = 0 }

-- an error, for which a null bubbles
abbrev pub raise : {A : Type 0} → Error → Reply A
raise e = record { value = None; notes = own e ∷ []; weight = 0 }

-- a value before others, if none of them is a null that bubbles
abbrev pub joined : {A : Type 0} → Option A → Option (List A) → Option (List A)
joined (Some x) (Some xs) = Some (x ∷ xs)
joined (Some x) None = None
joined None o = None

-- the values of all of these; a null of any of them bubbles
abbrev pub all : {A : Type 0} → List (Reply A) → Reply (List A)
all [] = returns []
all (r ∷ rs) = record {
  value = joined r.value (all rs).value;
  notes = r.notes ++ (all rs).notes;
  weight = r.weight + (all rs).weight;
}

-- a function of a value, if there is one
abbrev pub in_option : {A B : Type 0} → (A → B) → Option A → Option B
in_option f (Some x) = Some (f x)
in_option f None = None

-- a reply with a value that is made from its own
abbrev pub mapped : {A B : Type 0} → (A → B) → Reply A → Reply B
mapped f r = record { value = in_option f r.value; notes = r.notes; weight = r.weight }

-- a reply with one more completed value
abbrev pub counted : {A : Type 0} → Reply A → Reply A
counted r = record { value = r.value; notes = r.notes; weight = r.weight + 1 }

-- ---- nulls and errors

-- a value, or null
abbrev pub or_null : Option Data → Data
or_null (Some d) = d
or_null None = json.null

-- a null that bubbles to a nullable place stays there
abbrev pub caught : Reply Data → Reply Data
caught r = record { value = Some (or_null r.value); notes = r.notes; weight = r.weight }

-- the errors that are kept: all of the fields below, and of the field's own errors the first alone,
-- or none if there was one before (`raised`)
abbrev pub kept : Bool → List Note → List Error
kept raised [] = []
kept true (own e ∷ ns) = kept true ns
kept false (own e ∷ ns) = e ∷ kept true ns
kept raised (below e ∷ ns) = e ∷ kept raised ns

-- a field with its errors as those of the fields above it
abbrev pub settled : {A : Type 0} → Reply A → Reply A
settled r = record { value = r.value; notes = map below (kept false r.notes); weight = r.weight }
