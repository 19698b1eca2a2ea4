-- Examples: mutations field by field.
use Rattle.std.specs.Prelude.{◌≡◌, ◌-◌, ℕ, List, [], ◌∷◌, codes, refl, Some, None, bytes_eq, if◌then◌else◌}
use Rattle.gql_text.specs.declared.place.Place.{Place}
use Rattle.gql_types.specs.Written.{Written, named, listed, required}
use Rattle.gql_types.specs.declared.kind.TypeKind.TheVariants as kind
use Rattle.serde_json.specs.Data as json
use Rattle.serde_json.specs.Data.{Data, item, no_items, member, no_members}
use Rattle.gql_steps.specs.Execution.{Appending, Arguments, given, Fields, PlannedField, Plan, plan, no_fields, field, Types}
use Rattle.gql_steps.specs.Replies.{key}
use Rattle.gql_steps.specs.declared.planning.Source.TheVariants as source
use Rattle.gql_cases.specs.Mutations.{answer_in_turn, left_in_turn, left_of}

-- ---- terms for the examples: `type Mutation { add(id: Int): Note @append(to: "notes") last: Int
-- notes: [Note] lose(id: Int): Note @append(to: "lost") strict(id: Int): Int! @append(to: "notes") }`

-- a place in the first line
abbrev at : ℕ → Place
at column = record { line = 1; column = column; offset = column - 1 }

-- two types: the scalar `Int`, and objects
abbrev types : Types
types = record {
  kind = λ n. if bytes_eq n (codes "Int") then Some kind.Scalar else Some kind.Object;
  possible = λ n. [];
  values = λ n. [];
  introspect = λ n name arguments. None;
}

-- the lists to which the fields append
abbrev appending : Appending
appending name = if bytes_eq name (codes "add") then Some (codes "notes")
    else if bytes_eq name (codes "strict") then Some (codes "notes")
    else if bytes_eq name (codes "lose") then Some (codes "lost") else None

-- an object with one member
abbrev one_member : List ℕ → Data → Data
one_member name d = json.object (member name d no_members)

-- a number of JSON
abbrev number : ℕ → Data
number n = json.number (json.unsigned n)

-- an object with a number `id`
abbrev numbered : ℕ → Data
numbered n = one_member (codes "id") (number n)

-- the data `{"query": {"notes": ..}, "mutation": {"last": 7}}`, with this list
abbrev with_notes : Data → Data
with_notes notes = json.object (member (codes "query") (one_member (codes "notes") notes)
    (member (codes "mutation") (one_member (codes "last") (number 7)) no_members))

-- a field of this response name, column, name and type, called with these arguments
abbrev called : List ℕ → ℕ → List ℕ → Data → Written → PlannedField
called response column name arguments t = record {
  response_name = response;
  place = at column;
  name = name;
  source = source.Stored;
  arguments = given arguments;
  of_type = t;
}

-- no arguments
abbrev none : Data
none = json.object no_members

-- a field that selects nothing
abbrev nothing : Plan
nothing = plan (λ t. no_fields)

-- the selections `{ id }`
abbrev the_id : Plan
the_id = plan (λ t. field (called (codes "id") 1 (codes "id") none (named (codes "Int"))) nothing no_fields)

-- the field `a: add(id: 1)`
abbrev a : PlannedField
a = called (codes "a") 3 (codes "add") (numbered 1) (named (codes "Note"))

-- the field `b: add(id: 2)`
abbrev b : PlannedField
b = called (codes "b") 30 (codes "add") (numbered 2) (named (codes "Note"))

-- the field `last`
abbrev last : PlannedField
last = called (codes "last") 20 (codes "last") none (named (codes "Int"))

-- the field `notes`
abbrev notes : PlannedField
notes = called (codes "notes") 20 (codes "notes") none (listed (named (codes "Note")))

-- the field `lose(id: 3)`
abbrev lose : PlannedField
lose = called (codes "lose") 20 (codes "lose") (numbered 3) (named (codes "Note"))

-- the field `strict(id: 4)`
abbrev strict : PlannedField
strict = called (codes "strict") 20 (codes "strict") (numbered 4) (required (named (codes "Int")))

-- `{ a: add(id: 1) { id } .. b: add(id: 2) { id } }`, with this field between the two
abbrev with_between : PlannedField → Plan → Plan
with_between f below = plan (λ t. field a the_id (field f below (field b the_id no_fields)))

-- ---- one field after the other

-- the second field is executed on the data that the first left
first_leaves : left_of appending (with_notes (json.array no_items)) a the_id
    ≡ with_notes (json.array (item (numbered 1) no_items))
first_leaves = refl

-- two fields that add, and one that reads between them
two_and_a_read : answer_in_turn types appending (with_between last nothing) (codes "Mutation")
    (with_notes (json.array no_items))
    ≡ record {
      value = json.object (member (codes "a") (numbered 1) (member (codes "last") (number 7)
          (member (codes "b") (numbered 2) no_members)));
      errors = [];
      weight = 5;
      effects = record { to = codes "notes"; value = numbered 1 }
          ∷ record { to = codes "notes"; value = numbered 2 } ∷ [];
    }
two_and_a_read = refl

-- the data that these leave
two_leave : left_in_turn appending (with_between last nothing) (codes "Mutation")
    (with_notes (json.array no_items))
    ≡ with_notes (json.array (item (numbered 1) (item (numbered 2) no_items)))
two_leave = refl

-- A field reads the data's member `mutation`, and fields add to lists in the member `query`. So a
-- field with the name of the list does not see what the field before it added.
the_list_is_elsewhere : answer_in_turn types appending (with_between notes the_id)
    (codes "Mutation") (with_notes (json.array no_items))
    ≡ record {
      value = json.object (member (codes "a") (numbered 1) (member (codes "notes") json.null
          (member (codes "b") (numbered 2) no_members)));
      errors = [];
      weight = 5;
      effects = record { to = codes "notes"; value = numbered 1 }
          ∷ record { to = codes "notes"; value = numbered 2 } ∷ [];
    }
the_list_is_elsewhere = refl

-- a field whose list the data do not have adds nothing; those before and after it do
one_has_no_list : answer_in_turn types appending (with_between lose the_id) (codes "Mutation")
    (with_notes (json.array no_items))
    ≡ record {
      value = json.object (member (codes "a") (numbered 1) (member (codes "lose") json.null
          (member (codes "b") (numbered 2) no_members)));
      errors = record {
        message = codes "no list named lost";
        place = at 20;
        path = key (codes "lose") ∷ [];
      } ∷ [];
      weight = 5;
      effects = record { to = codes "notes"; value = numbered 1 }
          ∷ record { to = codes "notes"; value = numbered 2 } ∷ [];
    }
one_has_no_list = refl

-- a null that reaches the data takes back nothing, and the fields after it are executed all the same
a_null_reaches_the_data : answer_in_turn types appending (with_between strict nothing)
    (codes "Mutation") (with_notes (json.array no_items))
    ≡ record {
      value = json.null;
      errors = record {
        message = codes "value is not of type Int";
        place = at 20;
        path = key (codes "strict") ∷ [];
      } ∷ [];
      weight = 5;
      effects = record { to = codes "notes"; value = numbered 1 }
          ∷ record { to = codes "notes"; value = numbered 4 }
          ∷ record { to = codes "notes"; value = numbered 2 } ∷ [];
    }
a_null_reaches_the_data = refl

-- what these leave
all_three_are_added : left_in_turn appending (with_between strict nothing) (codes "Mutation")
    (with_notes (json.array no_items))
    ≡ with_notes (json.array
    (item (numbered 1) (item (numbered 4) (item (numbered 2) no_items))))
all_three_are_added = refl
