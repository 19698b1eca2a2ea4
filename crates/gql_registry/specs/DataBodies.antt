-- Which texts are data that operations are executed on. GraphQL leaves it to a service where its
-- values come from (6.4.2); this is this registry's own rule.
use Rattle.std.specs.Prelude.{◌≡◌, ◌&&◌, ◌||◌, ℕ, List, Bool, true, false, codes, is_some, Option, Some, None}
use Rattle.gql_ast.specs.declared.profile.Profile.{Profile}
use Rattle.serde_json.specs.Data.{Data, Items, Members, null, boolean, number, string, array, object, no_items, item, no_members, member}
use Rattle.serde_json.specs.Find.{as_i64, get}
use Rattle.serde_json.specs.Read.{read}

-- every number within a value is an integer of 64 bits with a sign
abbrev mutual
  -- every number is an integer of 64 bits with a sign
  pub has_integers : Data → Bool
  has_integers null = true
  has_integers (boolean b) = true
  has_integers (number n) = is_some (as_i64 n)
  has_integers (string s) = true
  has_integers (array ds) = items_have_integers ds
  has_integers (object ms) = members_have_integers ms

  pub items_have_integers : Items → Bool
  items_have_integers no_items = true
  items_have_integers (item d ds) = has_integers d && items_have_integers ds

  pub members_have_integers : Members → Bool
  members_have_integers no_members = true
  members_have_integers (member k d ms) = has_integers d && members_have_integers ms

-- whether a value is an object
abbrev pub is_object : Data → Bool
is_object (object ms) = true
is_object _ = false

-- whether a value is an object, if there is one
abbrev pub is_object_if_some : Option Data → Bool
is_object_if_some None = true
is_object_if_some (Some d) = is_object d

-- whether operations can be executed on a value: an object whose members for queries and for
-- mutations are objects, if there are any, and whose numbers are integers, unless Float is served
abbrev pub is_data : Profile → Data → Bool
is_data profile d = is_object d && (is_object_if_some (get (codes "query") d)
    && (is_object_if_some (get (codes "mutation") d) && (profile.floats || has_integers d)))

-- the text is read as this data, on which operations can be executed under this profile
abbrev pub IsDataText : Profile → List ℕ → Data → Type 0
IsDataText profile text d = (read text ≡ Some d) × (is_data profile d ≡ true)
