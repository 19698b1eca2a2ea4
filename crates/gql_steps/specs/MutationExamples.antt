-- Worked examples of mutations.
use Rattle.std.specs.Prelude.{◌≡◌, ℕ, ◌-◌, List, [], ◌∷◌, codes, refl, Some, None, bytes_eq, if◌then◌else◌}
use Rattle.gql_intro.specs.Nodes.{null}
use Rattle.gql_text.specs.declared.place.Place.{Place}
use Rattle.gql_types.specs.Written.{Written, named, required}
use Rattle.gql_types.specs.declared.kind.TypeKind.TheVariants as kind
use Rattle.gql_stored.specs.Effects.{after}
use Rattle.serde_json.specs.Data as json
use Rattle.serde_json.specs.Data.{Data, item, no_items, member, no_members}
use Rattle.gql_steps.specs.Execution.{Appending, Arguments, given, refused, PlannedField, Plan, plan, no_fields, field, Types, mutation_answer}
use Rattle.gql_steps.specs.Replies.{key}
use Rattle.gql_steps.specs.declared.planning.Source.TheVariants as source

-- ---- terms for the examples: `type Mutation { add(id: Int): Note! @append(to: "notes") }`

-- a place in the first line
abbrev at : ℕ → Place
at column = record { line = 1; column = column; offset = column - 1 }

-- two types: the scalar `Int`, and objects
abbrev types : Types
types = record {
  kind = λ n. if bytes_eq n (codes "Int") then Some kind.Scalar else Some kind.Object;
  possible = λ n. [];
  values = λ n. [];
  introspect = λ n name arguments. Some null;
}

-- the field `add` appends to the list `notes`
abbrev appending : Appending
appending name = if bytes_eq name (codes "add") then Some (codes "notes") else None

-- an object with one member
abbrev one_member : List ℕ → Data → Data
one_member name d = json.object (member name d no_members)

-- an object with a number `id`
abbrev numbered : ℕ → Data
numbered n = one_member (codes "id") (json.number (json.unsigned n))

-- data with this list of notes
abbrev with_notes : Data → Data
with_notes notes = one_member (codes "query") (one_member (codes "notes") notes)

-- a field without arguments, of an object of the data
abbrev called : List ℕ → List ℕ → ℕ → Arguments → Written → PlannedField
called response name column arguments t = record {
  response_name = response;
  place = at column;
  name = name;
  source = source.Stored;
  arguments = arguments;
  of_type = t;
}

-- the plan of one field that selects nothing
abbrev leaf : PlannedField → Plan
leaf f = plan (λ t. field f (plan (λ s. no_fields)) no_fields)

-- `{ a: add(id: 1) { id } b: add(id: 2) { id } }`, where these are what `a` is called with
abbrev two : Arguments → Plan
two arguments = plan (λ t. field
    (called (codes "a") (codes "add") 3 arguments (named (codes "Note")))
    (leaf (called (codes "id") (codes "id") 20 (given (json.object no_members)) (named (codes "Int"))))
    (field (called (codes "b") (codes "add") 25 (given (numbered 2)) (named (codes "Note")))
    (leaf (called (codes "id") (codes "id") 42 (given (json.object no_members)) (named (codes "Int"))))
    no_fields))

-- ---- answers

-- the arguments are the values, and they are added in their order
added : mutation_answer types appending (two (given (numbered 1))) (codes "Mutation")
    (with_notes (json.array no_items)) (json.object no_members)
    ≡ record {
      value = json.object (member (codes "a") (numbered 1) (member (codes "b") (numbered 2) no_members));
      errors = [];
      weight = 4;
      effects = record { to = codes "notes"; value = numbered 1 }
          ∷ record { to = codes "notes"; value = numbered 2 } ∷ [];
    }
added = refl

-- the data afterwards
afterwards : after (mutation_answer types appending (two (given (numbered 1))) (codes "Mutation")
    (with_notes (json.array no_items)) (json.object no_members)).effects
    (with_notes (json.array no_items))
    ≡ with_notes (json.array (item (numbered 1) (item (numbered 2) no_items)))
afterwards = refl

-- refused arguments add nothing; the other field does
one_refused : mutation_answer types appending (two (refused (codes "argument id: no"))) (codes "Mutation")
    (with_notes (json.array no_items)) (json.object no_members)
    ≡ record {
      value = json.object (member (codes "a") json.null (member (codes "b") (numbered 2) no_members));
      errors = record {
        message = codes "argument id: no";
        place = at 3;
        path = key (codes "a") ∷ [];
      } ∷ [];
      weight = 3;
      effects = record { to = codes "notes"; value = numbered 2 } ∷ [];
    }
one_refused = refl

-- without the list there is an error, and nothing is added
no_list : mutation_answer types appending
    (leaf (called (codes "add") (codes "add") 3 (given (numbered 1)) (named (codes "Note")))) (codes "Mutation")
    (one_member (codes "query") (json.object no_members)) (json.object no_members)
    ≡ record {
      value = one_member (codes "add") json.null;
      errors = record {
        message = codes "no list named notes";
        place = at 3;
        path = key (codes "add") ∷ [];
      } ∷ [];
      weight = 1;
      effects = [];
    }
no_list = refl

-- a value that cannot be completed is added all the same, also where its null reaches the data
not_completed : mutation_answer types appending
    (leaf (called (codes "add") (codes "add") 3 (given (numbered 1)) (required (named (codes "Int")))))
    (codes "Mutation") (with_notes (json.array no_items)) (json.object no_members)
    ≡ record {
      value = json.null;
      errors = record {
        message = codes "value is not of type Int";
        place = at 3;
        path = key (codes "add") ∷ [];
      } ∷ [];
      weight = 1;
      effects = record { to = codes "notes"; value = numbered 1 } ∷ [];
    }
not_completed = refl
