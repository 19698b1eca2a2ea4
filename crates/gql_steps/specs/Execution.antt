-- The execution of a plan on the data and on the nodes of introspection (GraphQL 4, 6.2, 6.3, 6.4.3
-- and 6.4.4). A plan is what the documents ask of an object, for each type that the object may have.
use Rattle.std.specs.Prelude.{ℕ, ◌+◌, List, [], ◌∷◌, ◌++◌, Bool, true, false, bytes_eq, codes, Option, Some, None, is_some, if◌then◌else◌}
use Rattle.std.specs.List.{list_any}
use Rattle.gql_inputs.specs.InputTypes.{is_non_null, name_in}
use Rattle.gql_intro.specs.Nodes as intro
use Rattle.gql_intro.specs.Nodes.{Node, query_root}
use Rattle.gql_text.specs.declared.place.Place.{Place}
use Rattle.gql_types.specs.Written.{Written, named, listed, required}
use Rattle.gql_types.specs.declared.kind.TypeKind.{TypeKind}
use Rattle.gql_types.specs.declared.kind.TypeKind.TheVariants as kind
use Rattle.serde_json.specs.Data as json
use Rattle.serde_json.specs.Data.{Data, Members, no_members, member}
use Rattle.serde_json.specs.Find.{get}
use Rattle.serde_json.specs.View.{items_of}
use Rattle.gql_steps.specs.declared.planning.Source.{Source}
use Rattle.gql_steps.specs.declared.planning.Source.TheVariants as source
use Rattle.gql_stored.specs.Effects.{Effect, list_named}
use Rattle.gql_steps.specs.Leaves.{as_enum, scalar_value}
use Rattle.gql_steps.specs.Replies.{Path, key, index, Error, Reply, returns, raise, all, mapped, counted, caught, settled, kept, or_null}
use Rattle.gql_steps.specs.Resolution.{list_of, resolved}

-- ---- plans

-- what a field is called with: an object, or the message of the refusal of its arguments
pub data Arguments : Type 0 where
  given : Data → Arguments
  refused : List ℕ → Arguments

-- a field of an answer: its response name, the place of its first node, its name, where objects
-- have its value, its arguments and its type
pub record PlannedField : Type 0 where
  pub response_name : List ℕ
  pub place : Place
  pub name : List ℕ
  pub source : Source
  pub arguments : Arguments
  pub of_type : Written

-- a plan, and the fields that it has for a type
mutual
  -- the fields of the answer, for each type that an object may have
  pub data Plan : Type 0 where
    plan : (List ℕ → Fields) → Plan

  -- fields, each with the plan of what it selects
  pub data Fields : Type 0 where
    no_fields : Fields
    field : PlannedField → Plan → Fields → Fields

-- ---- types

-- What execution needs to know of a schema: the kind of a type, the possible types of a composite
-- type, the values of an enum, and what a field of a node of introspection resolves to, if the node
-- has such a field.
pub record Types : Type 0 where
  pub kind : List ℕ → Option TypeKind
  pub possible : List ℕ → List (List ℕ)
  pub values : List ℕ → List (List ℕ)
  pub introspect : Node → List ℕ → Data → Option intro.Answer

-- ---- values (CompleteValue)

-- an object: one of the data, or a node of introspection
pub data Object : Type 0 where
  stored : Data → Object
  described : Node → Object

-- what a field selects, executed on an object of this type, at this path
abbrev pub Below : Type 0
Below = List ℕ → Path → Object → Reply Data

-- where a value is completed
pub record Site : Type 0 where
  pub types : Types
  pub place : Place
  pub below : Below

-- whether a value is null
abbrev pub is_null : Data → Bool
is_null json.null = true
is_null _ = false

-- an error at this path
abbrev pub fault : Site → Path → List ℕ → Reply Data
fault s p message = raise (record { message = message; place = s.place; path = p })

-- the error that a value is not of the type of this name
abbrev pub not_of_type : Site → List ℕ → Path → Reply Data
not_of_type s name p = fault s p (codes "value is not of type " ++ name)

-- the value of a leaf, or the error that there is none of its type
abbrev pub leaf : Site → List ℕ → Path → Option Data → Reply Data
leaf s name p (Some d) = returns d
leaf s name p None = not_of_type s name p

-- a value where an object of the type of this name is expected
abbrev pub on_object : Site → List ℕ → Path → Data → Reply Data
on_object s name p (json.object ms) = s.below name p (stored (json.object ms))
on_object s name p d = fault s p (codes "value is not an object")

-- the type that an object names, if it is one of these
abbrev pub among : List (List ℕ) → Option Data → Option (List ℕ)
among names (Some (json.string n)) = if list_any (bytes_eq n) names then Some n else None
among names _ = None

-- a value where an abstract type is expected, as an object of the type that its `__typename` names
-- (ResolveAbstractType)
abbrev pub on_abstract : Site → List ℕ → Path → Data → Option (List ℕ) → Reply Data
on_abstract s name p d (Some n) = s.below n p (stored d)
on_abstract s name p d None = fault s p (codes "value names no possible type of " ++ name)

-- a value where the type of this name and kind is expected
abbrev pub of_kind : Site → List ℕ → Path → Data → Option TypeKind → Reply Data
of_kind s name p d (Some kind.Scalar) = leaf s name p (scalar_value name d)
of_kind s name p d (Some kind.Enum) = leaf s name p (as_enum (s.types.values name) d)
of_kind s name p d (Some kind.Object) = on_object s name p d
of_kind s name p d (Some kind.Interface) =
    on_abstract s name p d (among (s.types.possible name) (get (codes "__typename") d))
of_kind s name p d (Some kind.Union) =
    on_abstract s name p d (among (s.types.possible name) (get (codes "__typename") d))
of_kind s name p d _ = not_of_type s name p

-- a value in a place of this type: a null bubbles on if the type is Non-Null, and else stays there
abbrev pub placed : Written → Reply Data → Reply Data
placed t r = if is_non_null t then r else caught r

-- the items of a list, from index i on
abbrev pub items_from : {A : Type 0}
    → (Path → A → Reply Data) → ℕ → Path → List A → List (Reply Data)
items_from each i p [] = []
items_from each i p (x ∷ xs) = counted (each (p ++ index i ∷ []) x) ∷ items_from each (i + 1) p xs

-- a list of these items
abbrev pub list_reply : {A : Type 0} → (Path → A → Reply Data) → Path → List A → Reply Data
list_reply each p xs =
    mapped (λ ds. json.array (items_of ds)) (all (items_from each 0 p xs))

-- a value where a list is expected
abbrev pub on_list : Site → (Path → Data → Reply Data) → Path → Data → Reply Data
on_list s each p (json.array ds) = list_reply each p (list_of ds)
on_list s each p d = fault s p (codes "value is not a list")

-- a value where this type is expected (CompleteValue)
abbrev pub complete : Site → Written → Path → Data → Reply Data
complete s (named n) p d =
    if is_null d then returns json.null else of_kind s n p d (s.types.kind n)
complete s (listed t) p d = if is_null d then returns json.null
    else on_list s (λ q x. placed t (complete s t q x)) p d
complete s (required t) p d =
    if is_null d then fault s p (codes "null for a Non-Null type") else complete s t p d

-- ---- introspection

-- a name, as an item of a list
abbrev pub name_item : Path → List ℕ → Reply Data
name_item p n = returns (json.string n)

-- a node, as an object of this type
abbrev pub on_node : Site → List ℕ → Path → Node → Reply Data
on_node s name p n = s.below name p (described n)

-- What introspection answers for a field of this type. A null, or no answer, is completed as a null
-- of the data: at a Non-Null type it is an error (CompleteValue). Every other answer is written as
-- it is. Its type is not checked: in schema files that have what introspection needs of them, it is
-- the field's type. That is the law `gql_intro::laws::answers_have_their_types`.
abbrev pub on_answer : Site → Written → Path → Option intro.Answer → Reply Data
on_answer s t p None = complete s t p json.null
on_answer s t p (Some intro.null) = complete s t p json.null
on_answer s t p (Some (intro.text x)) = returns (json.string x)
on_answer s t p (Some (intro.truth b)) = returns (json.boolean b)
on_answer s t p (Some (intro.enum_name n)) = returns (json.string n)
on_answer s t p (Some (intro.enum_names ns)) = list_reply name_item p ns
on_answer s t p (Some (intro.node n)) = on_node s (name_in t) p n
on_answer s t p (Some (intro.nodes ns)) = list_reply (on_node s (name_in t)) p ns

-- The node that answers a field of an object that is the node n: the query root, where the field is
-- one of the query root that no type lists (`__schema`, `__type`); else n itself.
abbrev pub answering : Source → Node → Node
answering source.Stored n = n
answering (source.TypeName t) n = n
answering source.Root n = query_root

-- ---- fields (ExecuteField)

-- the value of a field of an object of the data, by where the value is
abbrev pub by_source : Site → PlannedField → Source → Data → Path → Data → Reply Data
by_source s f source.Stored arguments p d =
    complete s f.of_type p (resolved f.name f.of_type arguments d)
by_source s f (source.TypeName t) arguments p d = returns (json.string t)
by_source s f source.Root arguments p d =
    on_answer s f.of_type p (s.types.introspect query_root f.name arguments)

-- the value of a field of an object, at this path
abbrev pub value_of : Site → PlannedField → Arguments → Path → Object → Reply Data
value_of s f (given arguments) p (stored d) = by_source s f f.source arguments p d
value_of s f (given arguments) p (described n) =
    on_answer s f.of_type p (s.types.introspect (answering f.source n) f.name arguments)
value_of s f (refused message) p o = fault s p message

-- the value of a field at its place, under its response name
abbrev pub under_name : PlannedField → Reply Data → Reply (List ℕ × Data)
under_name f r = mapped (λ v. (f.response_name, v)) (counted (settled (placed f.of_type r)))

-- a field under its response name
abbrev pub executed : Types → PlannedField → Below → Path → Object → Reply (List ℕ × Data)
executed types f below p o =
    let s : Site = record { types = types; place = f.place; below = below } in
    under_name f (value_of s f f.arguments (p ++ key f.response_name ∷ []) o)

-- these members of an object, in their order
abbrev pub members_of : List (List ℕ × Data) → Members
members_of [] = no_members
members_of (m ∷ ms) = member m.0 m.1 (members_of ms)

-- the execution of a plan on an object, and of each of its fields
abbrev mutual
  -- an object of this type, with the fields that the plan has for it (ExecuteSelectionSet)
  pub execute : Types → Plan → Below
  execute types (plan fields) t p o =
      mapped (λ ms. json.object (members_of ms)) (all (each types (fields t) p o))

  -- each of these fields, under its response name
  pub each : Types → Fields → Path → Object → List (Reply (List ℕ × Data))
  each types no_fields p o = []
  each types (field f below rest) p o =
      executed types f (execute types below) p o ∷ each types rest p o

-- ---- the root fields of a mutation

-- the list to which a field of the root type appends, by the field's name
abbrev pub Appending : Type 0
Appending = List ℕ → Option (List ℕ)

-- The value of a root field that appends to this list and is called with these arguments: they are
-- the value, as an object, if the data d have the list.
abbrev pub added : Site → Data → PlannedField → List ℕ → Data → Path → Reply Data
added s d f to arguments p = if is_some (list_named to d) then complete s f.of_type p arguments
    else fault s p (codes "no list named " ++ to)

-- the value of a root field of a mutation, on the data d, by the list to which it appends
abbrev pub root_value : Site → Data → PlannedField → Option (List ℕ) → Arguments → Path → Object
    → Reply Data
root_value s d f (Some to) (given arguments) p o = added s d f to arguments p
root_value s d f (Some to) (refused message) p o = value_of s f (refused message) p o
root_value s d f None arguments p o = value_of s f arguments p o

-- what a root field of a mutation adds to the data d: nothing, if they do not have the list, or if
-- its arguments are refused
abbrev pub effect_of : Data → Option (List ℕ) → Arguments → List Effect
effect_of d (Some to) (given arguments) =
    if is_some (list_named to d) then record { to = to; value = arguments } ∷ [] else []
effect_of d (Some to) (refused message) = []
effect_of d None arguments = []

-- each root field of a mutation, under its response name
abbrev pub each_root : Types → Appending → Data → Fields → Path → Object
    → List (Reply (List ℕ × Data))
each_root types appending d no_fields p o = []
each_root types appending d (field f below rest) p o =
    let s : Site = record { types = types; place = f.place; below = execute types below } in
    under_name f (root_value s d f (appending f.name) f.arguments
    (p ++ key f.response_name ∷ []) o) ∷ each_root types appending d rest p o

-- what the root fields of a mutation add to the data d, in their order
abbrev pub effects_of : Appending → Data → Fields → List Effect
effects_of appending d no_fields = []
effects_of appending d (field f below rest) =
    effect_of d (appending f.name) f.arguments ++ effects_of appending d rest

-- the plan of a mutation for the root type, executed on the data d and on the initial value
abbrev pub execute_root : Types → Appending → Plan → List ℕ → Data → Path → Object → Reply Data
execute_root types appending (plan fields) t d p o = mapped (λ ms. json.object (members_of ms))
    (all (each_root types appending d (fields t) p o))

-- what a mutation of this plan adds to the data d, in order
abbrev pub added_by : Appending → Plan → List ℕ → Data → List Effect
added_by appending (plan fields) t d = effects_of appending d (fields t)

-- ---- answers (ExecuteQuery, ExecuteMutation)

-- the data of an answer, its errors in their order, how many values were completed, and what is
-- added to the stored data
pub record Answer : Type 0 where
  pub value : Data
  pub errors : List Error
  pub weight : ℕ
  pub effects : List Effect

-- the answer of a reply, with these effects; a null that bubbles to the top stays there
abbrev pub answered : List Effect → Reply Data → Answer
answered effects r = record {
  value = or_null r.value;
  errors = kept false r.notes;
  weight = r.weight;
  effects = effects;
}

-- the answer of a plan for an object of the root type, executed on the initial value
abbrev pub answer : Types → Plan → List ℕ → Data → Answer
answer types x root initial = answered [] (execute types x root [] (stored initial))

-- The answer of a plan of a mutation, executed on the data d and the initial value. What the fields
-- add does not change their values: no root field reads a list, and `@append` leaves every list a
-- list. So all of them are executed on the data before the mutation.
abbrev pub mutation_answer : Types → Appending → Plan → List ℕ → Data → Data → Answer
mutation_answer types appending x root d initial = answered (added_by appending x root d)
    (execute_root types appending x root d [] (stored initial))
