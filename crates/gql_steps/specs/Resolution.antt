-- The value that a field has in an object of the data (GraphQL 6.4.2, ResolveFieldValue): this
-- registry's own rule.
use Rattle.std.specs.Prelude.{ℕ, ℤ, ◌&&◌, List, [], ◌∷◌, Bool, true, false, bytes_eq, filter, Option, Some, unwrap_or, if◌then◌else◌}
use Rattle.std.specs.Bool.{beq}
use Rattle.std.specs.Float.Ieee.{eq}
use Rattle.std.specs.Ordering.{int_eq}
use Rattle.gql_inputs.specs.InputTypes.{is_list}
use Rattle.gql_types.specs.Written.{Written}
use Rattle.serde_json.specs.Data as json
use Rattle.serde_json.specs.Data.{Data, Num, Items, no_items, item, Members, no_members, member}
use Rattle.serde_json.specs.Find.{get, as_i64, to_float}
use Rattle.serde_json.specs.View.{items_of}

-- ---- values that are the same

-- whether two numbers, which are these integers if they are integers of 64 bits, are the same
abbrev pub same_by : Num → Num → Option ℤ → Option ℤ → Bool
same_by a b (Some x) (Some y) = int_eq x y
same_by a b _ _ = eq (to_float a) (to_float b)

-- whether two numbers are the same: two integers of 64 bits as integers, others by the doubles
-- nearest to them, so that 1 and 1.0 are the same
abbrev pub same_number : Num → Num → Bool
same_number a b = same_by a b (as_i64 a) (as_i64 b)

-- whether two values are the same; the members of an object are in the order of their keys
abbrev mutual
  pub same_data : Data → Data → Bool
  same_data json.null json.null = true
  same_data (json.boolean a) (json.boolean b) = beq a b
  same_data (json.number a) (json.number b) = same_number a b
  same_data (json.string a) (json.string b) = bytes_eq a b
  same_data (json.array a) (json.array b) = same_items a b
  same_data (json.object a) (json.object b) = same_members a b
  same_data _ _ = false

  pub same_items : Items → Items → Bool
  same_items no_items no_items = true
  same_items (item a as') (item b bs) = same_data a b && same_items as' bs
  same_items _ _ = false

  pub same_members : Members → Members → Bool
  same_members no_members no_members = true
  same_members (member k a as') (member l b bs) =
      bytes_eq k l && (same_data a b && same_members as' bs)
  same_members _ _ = false

-- ---- filters

-- a member of an object, or null if it is missing
abbrev pub member_or_null : List ℕ → Data → Data
member_or_null name d = unwrap_or (get name d) json.null

-- whether a value has each of these members; a missing one equals null
abbrev pub has_members : Members → Data → Bool
has_members no_members d = true
has_members (member k v rest) d = same_data v (member_or_null k d) && has_members rest d

-- whether an item of a list is an object that has each argument as a member
abbrev pub meets : Members → Data → Bool
meets arguments (json.object ms) = has_members arguments (json.object ms)
meets arguments _ = false

-- these items as a list
abbrev pub list_of : Items → List Data
list_of no_items = []
list_of (item d ds) = d ∷ list_of ds

-- the first of these values, or null
abbrev pub first_or_null : List Data → Data
first_or_null [] = json.null
first_or_null (d ∷ ds) = d

-- the value of a field of this type, from these items: all of them, if it is a list, and else the
-- first
abbrev pub taken : Written → List Data → Data
taken t ds = if is_list t then json.array (items_of ds) else first_or_null ds

-- a list is filtered by the arguments, if there are any; another value stays as it is
abbrev pub filtered : Written → Members → Data → Data
filtered t (member k v rest) (json.array ds) =
    taken t (filter (meets (member k v rest)) (list_of ds))
filtered t arguments d = d

-- the members of a value that is an object
abbrev pub members_in : Data → Members
members_in (json.object ms) = ms
members_in _ = no_members

-- the value of the field of this name and type, called with these arguments, in an object
abbrev pub resolved : List ℕ → Written → Data → Data → Data
resolved name t arguments d = filtered t (members_in arguments) (member_or_null name d)
