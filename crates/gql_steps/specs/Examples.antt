-- Worked examples of execution.
use Rattle.std.specs.Fmt.{signed_decimal}
use Rattle.std.specs.Prelude.{◌≡◌, ℕ, ◌-◌, pos, List, [], ◌∷◌, codes, refl, Option, Some, None, bytes_eq, false, true, if◌then◌else◌}
use Rattle.gql_ast.specs.declared.executable.OperationKind.TheVariants as operation
use Rattle.gql_ast.specs.declared.text.Name.{Name}
use Rattle.gql_ast.specs.declared.type_ref.TypeRef.TheVariants as type_ref
use Rattle.gql_ast.specs.declared.type_system.FieldDefinition.{FieldDefinition}
use Rattle.gql_ast.specs.declared.type_system.TypeParts.TheVariants as parts
use Rattle.gql_collect.specs.Collection.{groups_from}
use Rattle.gql_collect.specs.Nodes.{FieldNode}
use Rattle.gql_text.specs.declared.place.Place.{Place}
use Rattle.gql_intro.specs.MetaFields.{meta_fields}
use Rattle.gql_intro.specs.Nodes.{null}
use Rattle.gql_types.specs.Kinds.{same_operation}
use Rattle.gql_types.specs.Written.{Written, named, listed, required}
use Rattle.gql_types.specs.declared.kind.TypeKind.{TypeKind}
use Rattle.gql_types.specs.declared.kind.TypeKind.TheVariants as kind
use Rattle.gql_types.specs.declared.schema.Schema.{Schema}
use Rattle.serde_json.specs.Data as json
use Rattle.serde_json.specs.Data.{Data, item, no_items, member, no_members}
use Rattle.gql_steps.specs.Execution.{Arguments, given, refused, PlannedField, Plan, plan, Fields, no_fields, field, Types, answer}
use Rattle.gql_steps.specs.Plans.{Basis, defined, types_of}
use Rattle.gql_steps.specs.declared.planning.Source.{Source}
use Rattle.gql_steps.specs.declared.planning.Source.TheVariants as source
use Rattle.gql_steps.specs.Replies.{Error, Path, key, index}

-- ---- terms for the examples

-- a place in the first line
abbrev at : ℕ → Place
at column = record { line = 1; column = column; offset = column - 1 }

-- a field without an alias
abbrev called : List ℕ → ℕ → Arguments → Written → PlannedField
called name column arguments t = record {
  response_name = name;
  place = at column;
  name = name;
  source = source.Stored;
  arguments = arguments;
  of_type = t;
}

-- a field without an alias and without arguments
abbrev simple : List ℕ → ℕ → Written → PlannedField
simple name column t = called name column (given (json.object no_members)) t

-- a number of the data
abbrev number : ℕ → Data
number n = json.number (json.unsigned n)

-- the kind of the type of a name: three scalars and a union; every other type is an object
abbrev kind_of : List ℕ → Option TypeKind
kind_of n = if bytes_eq n (codes "Int") then Some kind.Scalar
    else if bytes_eq n (codes "ID") then Some kind.Scalar
    else if bytes_eq n (codes "String") then Some kind.Scalar
    else if bytes_eq n (codes "Pet") then Some kind.Union
    else Some kind.Object

-- the types of the examples: `Pet` has two possible types, and no type has enum values
abbrev types : Types
types = record {
  kind = kind_of;
  possible = λ n. codes "Dog" ∷ codes "Cat" ∷ [];
  values = λ n. [];
  introspect = λ n name arguments. Some null;
}

-- the plan of fields on an object of any type
abbrev on_any : Fields → Plan
on_any fields = plan (λ t. fields)

-- a plan of one field that selects nothing
abbrev leaf : PlannedField → Plan
leaf f = on_any (field f (on_any no_fields) no_fields)

-- an error of a field at this column of the first line
abbrev error_at : List ℕ → ℕ → Path → Error
error_at message column path = record { message = message; place = at column; path = path }

-- an object with one member
abbrev one_member : List ℕ → Data → Data
one_member name d = json.object (member name d no_members)

-- ---- nulls

-- `type Query { box: Box } type Box { n: [Item!] m: [Item!]! } type Item { id: Int }`
abbrev box : List ℕ → Written → Plan
box name t = on_any (field (simple (codes "box") 11 (named (codes "Box")))
    (on_any (field (simple name 17 t)
    (leaf (simple (codes "id") 21 (named (codes "Int")))) no_fields))
    no_fields)

-- the data of `{ box { .. } }`, with one member in the box
abbrev in_box : List ℕ → Data → Data
in_box name d = one_member (codes "box") (one_member name d)

-- three items, of which the second is null
abbrev items : Data
items = json.array (item (one_member (codes "id") (number 1)) (item json.null
    (item (one_member (codes "id") (number 3)) no_items)))

-- `{ box { n { id } } }`: an item that is null makes its list null, which may be null
null_list : answer types (box (codes "n") (listed (required (named (codes "Item")))))
    (codes "Query")
    (in_box (codes "n") items)
    ≡ record {
      value = in_box (codes "n") json.null;
      errors = error_at (codes "null for a Non-Null type") 17
          (key (codes "box") ∷ key (codes "n") ∷ index 1 ∷ []) ∷ [];
      weight = 7;
      effects = [];
    }
null_list = refl

-- `{ box { m { id } } }`: where the list may not be null, the object around it is
null_object : answer types (box (codes "m") (required (listed (required (named (codes "Item"))))))
    (codes "Query") (in_box (codes "m") items)
    ≡ record {
      value = one_member (codes "box") json.null;
      errors = error_at (codes "null for a Non-Null type") 17
          (key (codes "box") ∷ key (codes "m") ∷ index 1 ∷ []) ∷ [];
      weight = 7;
      effects = [];
    }
null_object = refl

-- only the first error of a list with two bad items is kept
first_error : answer types (leaf (simple (codes "a") 3 (listed (named (codes "Int")))))
    (codes "Query") (one_member (codes "a")
    (json.array (item (json.string (codes "x")) (item (json.string (codes "y")) no_items))))
    ≡ record {
      value = one_member (codes "a") (json.array (item json.null (item json.null no_items)));
      errors = error_at (codes "value is not of type Int") 3 (key (codes "a") ∷ index 0 ∷ []) ∷ [];
      weight = 3;
      effects = [];
    }
first_error = refl

-- ---- leaves

-- the plan of `{ put }`, where `put` is an `Int`
abbrev put : Plan
put = leaf (simple (codes "put") 11 (named (codes "Int")))

greatest_int : answer types put (codes "Query") (one_member (codes "put") (number 2147483647))
    ≡ record { value = one_member (codes "put") (number 2147483647); errors = []; weight = 1; effects = [] }
greatest_int = refl

one_past_it : answer types put (codes "Query") (one_member (codes "put") (number 2147483648))
    ≡ record {
      value = one_member (codes "put") json.null;
      errors = error_at (codes "value is not of type Int") 11 (key (codes "put") ∷ []) ∷ [];
      weight = 1;
      effects = [];
    }
one_past_it = refl

-- an ID of the data may be an integer
integer_id : answer types (leaf (simple (codes "a") 3 (named (codes "ID")))) (codes "Query")
    (one_member (codes "a") (number 7))
    ≡ record {
      value = one_member (codes "a") (json.string (signed_decimal (pos 7)));
      errors = [];
      weight = 1;
      effects = [];
    }
integer_id = refl

-- ---- arguments

-- arguments that are refused leave nothing to complete
refused_arguments : answer types
    (leaf (called (codes "twice") 20 (refused (codes "argument n: null for a Non-Null type"))
    (required (named (codes "Int")))))
    (codes "Query") (one_member (codes "twice") (number 8))
    ≡ record {
      value = json.null;
      errors = error_at (codes "argument n: null for a Non-Null type") 20
          (key (codes "twice") ∷ []) ∷ [];
      weight = 1;
      effects = [];
    }
refused_arguments = refl

-- a user with an id and a name
abbrev user : List ℕ → List ℕ → Data
user i n = json.object (member (codes "id") (json.string i)
    (member (codes "name") (json.string n) no_members))

-- the field `user(id: 2)`
abbrev user_2 : PlannedField
user_2 = called (codes "user") 3 (given (one_member (codes "id") (json.string (codes "2"))))
    (named (codes "User"))

-- `{ user(id: 2) { name } }`: of the list, the object that has this member
filtered_object : answer types
    (on_any (field user_2 (leaf (simple (codes "name") 17 (named (codes "String")))) no_fields))
    (codes "Query") (one_member (codes "user")
    (json.array (item (user (codes "1") (codes "Ann"))
    (item (user (codes "2") (codes "Bob")) no_items))))
    ≡ record {
      value = one_member (codes "user") (one_member (codes "name") (json.string (codes "Bob")));
      errors = [];
      weight = 2;
      effects = [];
    }
filtered_object = refl

-- ---- types of objects

-- the fields of each type of object in `{ pet { ... on Dog { name } ... on Cat { age } } }`
abbrev of_pet : List ℕ → Fields
of_pet t = if bytes_eq t (codes "Dog")
    then field (simple (codes "name") 22 (named (codes "String"))) (on_any no_fields) no_fields
    else field (simple (codes "age") 43 (named (codes "Int"))) (on_any no_fields) no_fields

-- the plan of that operation
abbrev pet : Plan
pet = on_any (field (simple (codes "pet") 3 (named (codes "Pet"))) (plan of_pet) no_fields)

a_cat : answer types pet (codes "Query") (one_member (codes "pet")
    (json.object (member (codes "__typename") (json.string (codes "Cat"))
    (member (codes "age") (number 3) no_members))))
    ≡ record {
      value = one_member (codes "pet") (one_member (codes "age") (number 3));
      errors = [];
      weight = 2;
      effects = [];
    }
a_cat = refl

no_pet : answer types pet (codes "Query")
    (one_member (codes "pet") (one_member (codes "__typename") (json.string (codes "Box"))))
    ≡ record {
      value = one_member (codes "pet") json.null;
      errors = error_at (codes "value names no possible type of Pet") 3
          (key (codes "pet") ∷ []) ∷ [];
      weight = 1;
      effects = [];
    }
no_pet = refl

-- ---- fields that a type does not have

-- a name at this column of the first line
abbrev word : ℕ → List ℕ → Name
word column text = record { place = at column; text = text }

-- a field of a query, with nothing but its name
abbrev node : ℕ → List ℕ → FieldNode
node column name = record {
  file = codes "find";
  field = record {
    alias = None;
    name = word column name;
    arguments = [];
    directives = [];
    selections = [];
  };
}

-- the definition `id: ID`
abbrev id_field : FieldDefinition
id_field = record {
  description = None;
  name = word 14 (codes "id");
  arguments = [];
  of_type = type_ref.Named (word 18 (codes "ID"));
  directives = [];
}

-- `type Query { id: ID }`
abbrev schema : Schema
schema = record {
  types = record {
    definition = record {
      file = None;
      node = record {
        place = at 1;
        description = None;
        name = word 6 (codes "Query");
        directives = [];
        parts = parts.Object [] (id_field ∷ []);
      };
    };
    extensions = [];
    kind = kind.Object;
    interfaces = [];
    fields = record { file = None; node = id_field } ∷ [];
    members = [];
    values = [];
    input_fields = [];
  } ∷ [];
  directives = [];
  roots = record {
    kind = operation.Query;
    entry = None;
    name = record { file = None; node = word 6 (codes "Query") };
  } ∷ [];
  possible = [];
}

-- the schema `type Query { id: ID }`, with no fragments and no variables
abbrev basis : Basis
basis = record {
  given = record { schema = schema; fragments = []; values = json.object no_members };
  made = record {
    types = codes "Query" ∷ [];
    has_int = false;
    has_id = true;
    has_float = false;
    description = None;
    meta = meta_fields;
  };
}

-- `{ age id age id }`: the type has no field `age`, so that group is left out; the group of `id`
-- has both of its fields
left_out : defined basis (codes "Query") (groups_from (node 3 (codes "age")
    ∷ node 7 (codes "id") ∷ node 10 (codes "age") ∷ node 14 (codes "id") ∷ []))
    ≡ record {
      key = codes "id";
      nodes = node 7 (codes "id") ∷ node 14 (codes "id") ∷ [];
    } ∷ []
unfolding same_operation
left_out = refl

-- a type that is not in the schema has no fields
no_type : defined basis (codes "Pet") (groups_from (node 3 (codes "id") ∷ [])) ≡ []
unfolding same_operation
no_type = refl

-- `{ __schema __typename }`; a type that is not the query root has only the second
abbrev meta_nodes : List FieldNode
meta_nodes = node 3 (codes "__schema") ∷ node 12 (codes "__typename") ∷ []

of_query : defined basis (codes "Query") (groups_from meta_nodes) ≡ groups_from meta_nodes
unfolding same_operation
of_query = refl

of_another : defined basis (codes "Pet") (groups_from meta_nodes)
    ≡ groups_from (node 12 (codes "__typename") ∷ [])
unfolding same_operation
of_another = refl

-- ---- introspection

-- a field whose value is not in the data
abbrev meta : Source → List ℕ → ℕ → Written → PlannedField
meta place name column t = record {
  response_name = name;
  place = at column;
  name = name;
  source = place;
  arguments = given (json.object no_members);
  of_type = t;
}

-- `{ __typename }`
type_name : answer types
    (leaf (meta (source.TypeName (codes "Query")) (codes "__typename") 3
    (required (named (codes "String")))))
    (codes "Query") (one_member (codes "__typename") (json.string (codes "Other")))
    ≡ record {
      value = one_member (codes "__typename") (json.string (codes "Query"));
      errors = [];
      weight = 1;
      effects = [];
    }
type_name = refl

-- `{ __schema { queryType { name } } }`
abbrev query_type : Plan
query_type =
    on_any (field (meta source.Root (codes "__schema") 3 (required (named (codes "__Schema"))))
    (on_any (field (simple (codes "queryType") 14 (required (named (codes "__Type"))))
    (leaf (simple (codes "name") 26 (named (codes "String")))) no_fields))
    no_fields)

name_of_query : answer (types_of basis) query_type (codes "Query") (json.object no_members)
    ≡ record {
      value = one_member (codes "__schema") (one_member (codes "queryType")
          (one_member (codes "name") (json.string (codes "Query"))));
      errors = [];
      weight = 3;
      effects = [];
    }
unfolding same_operation
name_of_query = refl

-- `{ mine { name } }`, where the type of `mine` is `__Type`: the data is read
mine : answer types (on_any (field (simple (codes "mine") 3 (named (codes "__Type")))
    (leaf (simple (codes "name") 10 (named (codes "String")))) no_fields))
    (codes "Query") (one_member (codes "mine")
    (one_member (codes "name") (json.string (codes "x"))))
    ≡ record {
      value = one_member (codes "mine") (one_member (codes "name") (json.string (codes "x")));
      errors = [];
      weight = 2;
      effects = [];
    }
mine = refl

-- `{ __schema { queryType { __schema { queryType { name } } } } }`, where the query root is `__Type`:
-- `__schema` of a node of that type is the schema
schema_of_a_node : answer (types_of basis)
    (on_any (field (meta source.Root (codes "__schema") 3 (required (named (codes "__Schema"))))
    (on_any (field (simple (codes "queryType") 14 (required (named (codes "__Type"))))
    query_type no_fields))
    no_fields))
    (codes "__Type") (json.object no_members)
    ≡ record {
      value = one_member (codes "__schema") (one_member (codes "queryType")
          (one_member (codes "__schema") (one_member (codes "queryType")
          (one_member (codes "name") (json.string (codes "Query"))))));
      errors = [];
      weight = 5;
      effects = [];
    }
unfolding same_operation
schema_of_a_node = refl

-- `{ __schema { x } }`, where the node has no field `x`: null is an error at a Non-Null type
no_answer : answer (types_of basis)
    (on_any (field (meta source.Root (codes "__schema") 3 (named (codes "__Schema")))
    (leaf (simple (codes "x") 14 (required (named (codes "String"))))) no_fields))
    (codes "Query") (json.object no_members)
    ≡ record {
      value = one_member (codes "__schema") json.null;
      errors = error_at (codes "null for a Non-Null type") 14
          (key (codes "__schema") ∷ key (codes "x") ∷ []) ∷ [];
      weight = 2;
      effects = [];
    }
unfolding same_operation
no_answer = refl
