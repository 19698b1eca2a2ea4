-- The coercion of an input to a type (GraphQL specification, 3.5 to 3.12): a value, or the first
-- refusal and its path. The items of a list are coerced in their order. Of an object, unknown
-- fields are refused first; then come the fields that the type defines, in their order. No type is
-- expected within a custom scalar.
use Rattle.std.specs.Prelude.{◌&&◌, ℕ, zero, suc, List, [], ◌∷◌, Bool, false, not, map, find, bytes_eq, is_some, Option, Some, None, option_map, if◌then◌else◌}
use Rattle.gql_ast.specs.declared.literal.Literal.{Literal}
use Rattle.gql_ast.specs.declared.type_system.InputValueDefinition.{InputValueDefinition}
use Rattle.gql_built_in.specs.declared.sited.Sited.{Sited}
use Rattle.gql_inputs.specs.InputTypes.{item_of, is_custom_scalar, is_list, is_non_null, is_open, input_type}
use Rattle.gql_types.specs.Written.{Written, named, listed, required, written}
use Rattle.gql_types.specs.declared.kind.TypeKind.{TypeKind}
use Rattle.gql_types.specs.declared.kind.TypeKind.TheVariants as kind
use Rattle.gql_types.specs.declared.schema.Schema.{Schema}
use Rattle.gql_types.specs.declared.schema_type.SchemaType.{SchemaType}
use Rattle.serde_json.specs.Data as json
use Rattle.serde_json.specs.Data.{Data, Members, put}
use Rattle.serde_json.specs.Find.{as_null}
use Rattle.serde_json.specs.View.{items_of}
use Rattle.gql_coerce.specs.declared.refusal.Reason.TheVariants as reason
use Rattle.gql_coerce.specs.declared.refusal.Segment.TheVariants as segment
use Rattle.gql_coerce.specs.Inputs.{Single, Input, Field, absent, given, null, single, list, object, all_inputs, all_fields, literal, may_be_list}
use Rattle.gql_coerce.specs.Outcomes.{Reached, value, refused, too_deep, after, within, all, some}
use Rattle.gql_coerce.specs.Scalars.{as_any, as_kind, wrong_kind}

-- ---- null, and the values of variables

-- null, at a type or within a custom scalar
abbrev pub null_at : Option Written → Reached Data
null_at None = value json.null
null_at (Some t) = if is_non_null t then refused reason.NullForNonNull [] else value json.null

-- the value of a variable, which has been coerced already
abbrev pub given_at : Option Written → Data → Reached Data
given_at e d = if is_some (as_null d) then null_at e else value d

-- ---- lists of one (3.11)

-- a value as a list of one, if the type is a list; for a list of lists, as a list of one list of
-- one
abbrev pub one_in : Written → Data → Data
one_in (named n) d = d
one_in (listed t) d = json.array (json.item (one_in t d) json.no_items)
one_in (required t) d = one_in t d

-- what is reached, as a list of one, if the type is a list
abbrev pub once : Option Written → Reached (Option Data) → Reached (Option Data)
once None o = o
once (Some t) o = after o (λ v. value (option_map (one_in t) v))

-- ---- values without parts (3.5, 3.9)

-- a value without parts, at a type, if it is known; `floats` says whether Float is a type
abbrev pub as_type : Bool → Option SchemaType → Single → Reached Data
as_type floats None x = wrong_kind
as_type floats (Some t) x = as_kind floats t t.kind x

-- a value without parts, at a type or within a scalar of a schema file
abbrev pub single_at : Schema → Option Written → Single → Reached Data
single_at s None x = as_any (is_open s) x
single_at s (Some t) x = as_type (is_open s) (input_type s t) x

-- ---- lists (3.11)

-- whether a type takes lists and objects of any kind: custom scalars do
abbrev pub takes_all : Option SchemaType → Bool
takes_all None = false
takes_all (Some t) = is_custom_scalar t

-- what is expected of the items of a list: a list is not taken here, or anything is taken, or
-- values of this type
pub data Expected : Type 0 where
  nothing : Expected
  anything : Expected
  this : Written → Expected

-- the item type, for a list type; anything, for a custom scalar; else a list is not taken
abbrev pub item_expected : Option SchemaType → Option Written → Expected
item_expected u (Some t) = this t
item_expected u None = if takes_all u then anything else nothing

-- what is expected of the items of a list that is given for a type
abbrev pub items_expected : Schema → Option Written → Expected
items_expected s None = anything
items_expected s (Some t) = item_expected (input_type s t) (item_of t)

-- an item for which there is no value, as null
abbrev pub or_null : Option Written → Option Data → Reached Data
or_null e None = null_at e
or_null e (Some d) = value d

-- whether a list is expected
abbrev pub is_list_expected : Option Written → Bool
is_list_expected None = false
is_list_expected (Some t) = is_list t

-- what an item of a list comes to; it is not made a list of one
abbrev pub item_at : (Input → Option Written → Reached (Option Data))
    → Option Written → Input → Reached Data
item_at inner e x = if is_list_expected e && not (may_be_list x)
    then wrong_kind else after (inner x e) (or_null e)

-- what the items of a list come to, each at its index, from n on
abbrev pub items_from : (Input → Reached Data) → ℕ → List Input → List (Reached Data)
items_from f n [] = []
items_from f n (x ∷ xs) = within (segment.Index n) (f x) ∷ items_from f (suc n) xs

-- what a list comes to, from what its items come to
abbrev pub array_of : (Input → Reached Data) → List Input → Reached Data
array_of f xs = after (all (items_from f 0 xs)) (λ ds. value (json.array (items_of ds)))

-- what a list comes to, by what is expected of its items
abbrev pub list_by : (Input → Option Written → Reached (Option Data))
    → List Input → Expected → Reached Data
list_by inner xs nothing = wrong_kind
list_by inner xs anything = array_of (item_at inner None) xs
list_by inner xs (this t) = array_of (item_at inner (Some t)) xs

-- ---- objects (3.10)

-- a member that an object is to have: its name, the definition of the field unless it is within a
-- custom scalar, and the input if one is given
pub record Entry : Type 0 where
  pub name : List ℕ
  pub definition : Option InputValueDefinition
  pub given : Option Input

-- what an object is made of, or its first unknown field, or no object is expected
pub data Entries : Type 0 where
  are : List Entry → Entries
  unknown : List ℕ → Entries
  no_object : Entries

-- a member of an object within a custom scalar
abbrev pub any_entry : Field → Entry
any_entry f = record { name = f.name; definition = None; given = Some f.value }

-- what an object within a custom scalar is made of
abbrev pub any_entries : List Field → Entries
any_entries fs = are (map any_entry fs)

-- the input that is given for a name
abbrev pub given_as : List ℕ → List Field → Option Input
given_as n fs = option_map (λ (f : Field). f.value) (find (λ (f : Field). bytes_eq n f.name) fs)

-- a member of an object at an input object type
abbrev pub defined_entry : List Field → Sited InputValueDefinition → Entry
defined_entry fs d =
    record {
      name = d.node.name.text;
      definition = Some d.node;
      given = given_as d.node.name.text fs;
    }

-- whether the type defines a field of this name
abbrev pub is_defined : List (Sited InputValueDefinition) → Field → Bool
is_defined ds f =
    is_some (find (λ (d : Sited InputValueDefinition). bytes_eq f.name d.node.name.text) ds)

-- the unknown field, if there is one; else these entries
abbrev pub unless_unknown : Option Field → Entries → Entries
unless_unknown (Some f) es = unknown f.name
unless_unknown None es = es

-- what an object at an input object type is made of
abbrev pub defined_entries : List Field → List (Sited InputValueDefinition) → Entries
defined_entries fs ds = unless_unknown (find (λ (f : Field). not (is_defined ds f)) fs)
    (are (map (defined_entry fs) ds))

-- what an object is made of, by the kind of its type
abbrev pub entries_at_kind : List Field → SchemaType → TypeKind → Entries
entries_at_kind fs t kind.InputObject = defined_entries fs t.input_fields
entries_at_kind fs t kind.Scalar = if is_custom_scalar t then any_entries fs else no_object
entries_at_kind fs t kind.Enum = no_object
entries_at_kind fs t kind.Object = no_object
entries_at_kind fs t kind.Interface = no_object
entries_at_kind fs t kind.Union = no_object

-- what an object is made of, at a type, if it is known
abbrev pub entries_by : List Field → Option SchemaType → Entries
entries_by fs None = no_object
entries_by fs (Some t) = entries_at_kind fs t t.kind

-- what an object is made of, at a type or within a custom scalar
abbrev pub entries_for : Schema → List Field → Option Written → Entries
entries_for s fs None = any_entries fs
entries_for s fs (Some t) = entries_by fs (input_type s t)

-- The default value of a field that is not given; it contains no variable. A field without one has
-- no value, if its type is not Non-Null.
abbrev pub default_of : (Input → Option Written → Reached (Option Data))
    → List ℕ → Written → Option Literal → Reached (Option Data)
default_of inner n t None = if is_non_null t
    then refused reason.MissingField (segment.Key n ∷ []) else value None
default_of inner n t (Some x) = within (segment.Key n) (inner (literal json.null x) (Some t))

-- what is given for a field, or else its default value
abbrev pub or_default : (Input → Option Written → Reached (Option Data))
    → List ℕ → Option InputValueDefinition → Option Data → Reached (Option Data)
or_default inner n None v = value v
or_default inner n (Some d) (Some v) = value (Some v)
or_default inner n (Some d) None = default_of inner n (written d.of_type) d.default

-- what the input for a field comes to, at the field's type, if one is given
abbrev pub if_given : (Input → Option Written → Reached (Option Data))
    → List ℕ → Option InputValueDefinition → Option Input → Reached (Option Data)
if_given inner n d None = value None
if_given inner n d (Some x) = within (segment.Key n)
    (inner x (option_map (λ (v : InputValueDefinition). written v.of_type) d))

-- the value of a member, which may have none
abbrev pub entry_at : (Input → Option Written → Reached (Option Data))
    → Entry → Reached (Option Data)
entry_at inner e = after (if_given inner e.name e.definition e.given)
    (or_default inner e.name e.definition)

-- a value under its name
abbrev pub under : List ℕ → Option Data → Option (List ℕ × Data)
under n v = option_map (λ d. (n, d)) v

-- the member of an object, by its name, if it has a value
abbrev pub member_at : (Input → Option Written → Reached (Option Data))
    → Entry → Reached (Option (List ℕ × Data))
member_at inner e = after (entry_at inner e) (λ v. value (under e.name v))

-- the members with one more, if it has a value
abbrev pub put_if : Option (List ℕ × Data) → Members → Members
put_if None ms = ms
put_if (Some m) ms = put m.0 m.1 ms

-- the members with these, one after the other
abbrev pub put_all : List (Option (List ℕ × Data)) → Members → Members
put_all [] ms = ms
put_all (m ∷ more) ms = put_all more (put_if m ms)

-- what an object comes to, from what its members come to
abbrev pub object_of : List (Reached (Option (List ℕ × Data))) → Members → Reached Data
object_of os ms = after (all os) (λ more. value (json.object (put_all more ms)))

-- what an object comes to, by what it is made of
abbrev pub object_at : (Input → Option Written → Reached (Option Data)) → Entries → Reached Data
object_at inner (are es) = object_of (map (member_at inner) es) json.no_members
object_at inner (unknown n) = refused reason.UnknownField (segment.Key n ∷ [])
object_at inner no_object = wrong_kind

-- ---- all inputs

-- the value of a variable, if it has one
abbrev pub variable_at : Option Written → Option Data → Reached (Option Data)
variable_at e None = value None
variable_at e (Some d) = some (given_at e d)

-- what an input comes to; `inner` gives what its parts come to
abbrev pub at_level : (Input → Option Written → Reached (Option Data))
    → Schema → Input → Option Written → Reached (Option Data)
at_level inner s absent e = variable_at e None
at_level inner s (given d) e = variable_at e (Some d)
at_level inner s null e = some (null_at e)
at_level inner s (single x) e = once e (some (single_at s e x))
at_level inner s (list xs) e = some (list_by inner (all_inputs xs) (items_expected s e))
at_level inner s (object fs) e = once e (some (object_at inner (entries_for s (all_fields fs) e)))

-- What an input comes to with at most n levels of lists, objects and defaults, one of them for the
-- input itself. `Comes` (specs/Comes.antt) is the coercion with as many as it needs.
unfoldable pub coerced : ℕ → Schema → Input → Option Written → Reached (Option Data)
coerced zero s x e = too_deep
coerced (suc n) s x e = at_level (coerced n s) s x e
