-- What the facts of a schema are once a part of it is removed (GraphQL 3): this registry's own rule. What
-- cannot stay without the part goes with it, so that what is left is a schema again, as far as it can be.
use Rattle.std.specs.Prelude.{ℕ, List, [], ◌∷◌, Bool, false, ◌&&◌, bytes_eq, flat_map, if◌then◌else◌}
use Rattle.std.specs.List.{list_any}
use Rattle.gql_facts.specs.declared.fact.DirectiveFact.{DirectiveFact}
use Rattle.gql_facts.specs.declared.fact.Fact.{Fact}
use Rattle.gql_facts.specs.declared.fact.Fact.TheVariants as fact
use Rattle.gql_facts.specs.declared.fact.FieldFact.{FieldFact}
use Rattle.gql_facts.specs.declared.fact.InputFact.{InputFact}
use Rattle.gql_facts.specs.declared.key.Key.{Key}
use Rattle.gql_facts.specs.declared.key.Key.TheVariants as key
use Rattle.gql_facts.specs.Worlds.{Facts}
use Rattle.gql_removal.specs.declared.removal.Removal.{Removal}
use Rattle.gql_removal.specs.declared.removal.Removal.TheVariants as removal

-- ---- lists without a name

-- a name, unless it is n
abbrev pub other_name : List ℕ → List ℕ → List (List ℕ)
other_name n m = if bytes_eq n m then [] else m ∷ []

-- the names but n
abbrev pub names_but : List ℕ → List (List ℕ) → List (List ℕ)
names_but n = flat_map (other_name n)

-- an argument or an input field, unless its name is n
abbrev pub other_input : List ℕ → InputFact → List InputFact
other_input n i = if bytes_eq n i.name then [] else i ∷ []

-- the arguments or input fields but that of the name n
abbrev pub inputs_but : List ℕ → List InputFact → List InputFact
inputs_but n = flat_map (other_input n)

-- an argument or an input field, unless its named type is t
abbrev pub input_of_other : List ℕ → InputFact → List InputFact
input_of_other t i = if bytes_eq t i.of_type.name then [] else i ∷ []

-- the arguments or input fields whose named type is not t
abbrev pub inputs_of_others : List ℕ → List InputFact → List InputFact
inputs_of_others t = flat_map (input_of_other t)

-- ---- what is left of a fact

-- a field with other arguments
abbrev pub field_with : FieldFact → List InputFact → FieldFact
field_with f arguments = record { of_type = f.of_type; arguments = arguments }

-- a directive with other arguments
abbrev pub directive_with : DirectiveFact → List InputFact → DirectiveFact
directive_with d arguments = record {
  locations = d.locations;
  is_repeatable = d.is_repeatable;
  arguments = arguments;
}

-- a field goes with its type, and an argument of the field with its own
abbrev pub field_left : List ℕ → FieldFact → Fact
field_left t f = if bytes_eq t f.of_type.name then fact.Absent
    else fact.Field (field_with f (inputs_of_others t f.arguments))

-- a root operation type that is removed is a root no more
abbrev pub root_left : List ℕ → List ℕ → Fact
root_left t n = if bytes_eq t n then fact.Absent else fact.Root n

-- What is left of a fact that is not about the type t, once t is removed: fields, arguments and input
-- fields of the type t are gone, and t is possible nowhere.
abbrev pub without_type : List ℕ → Fact → Fact
without_type t (fact.Field f) = field_left t f
without_type t (fact.Possible names) = fact.Possible (names_but t names)
without_type t (fact.Input fields) = fact.Input (inputs_of_others t fields)
without_type t (fact.Directive d) =
    fact.Directive (directive_with d (inputs_of_others t d.arguments))
without_type t (fact.Root n) = root_left t n
without_type t fact.Absent = fact.Absent
without_type t (fact.Kind k) = fact.Kind k
without_type t (fact.Enum values) = fact.Enum values
without_type t (fact.Fragment f) = fact.Fragment f

-- what is left once the argument or the input field n of the fact is removed
abbrev pub without_input : List ℕ → Fact → Fact
without_input n (fact.Field f) = fact.Field (field_with f (inputs_but n f.arguments))
without_input n (fact.Input fields) = fact.Input (inputs_but n fields)
without_input n (fact.Directive d) = fact.Directive (directive_with d (inputs_but n d.arguments))
without_input n fact.Absent = fact.Absent
without_input n (fact.Kind k) = fact.Kind k
without_input n (fact.Possible names) = fact.Possible names
without_input n (fact.Enum values) = fact.Enum values
without_input n (fact.Root name) = fact.Root name
without_input n (fact.Fragment f) = fact.Fragment f

-- what is left once the enum value n of the fact is removed
abbrev pub without_value : List ℕ → Fact → Fact
without_value n (fact.Enum values) = fact.Enum (names_but n values)
without_value n fact.Absent = fact.Absent
without_value n (fact.Kind k) = fact.Kind k
without_value n (fact.Field f) = fact.Field f
without_value n (fact.Possible names) = fact.Possible names
without_value n (fact.Input fields) = fact.Input fields
without_value n (fact.Directive d) = fact.Directive d
without_value n (fact.Root name) = fact.Root name
without_value n (fact.Fragment f) = fact.Fragment f

-- ---- which keys a part is asked by

-- whether a key is about the type t, or about a field that it has
abbrev pub is_about : List ℕ → Key → Bool
is_about t (key.KindOf n) = bytes_eq t n
is_about t (key.FieldOf n f) = bytes_eq t n
is_about t (key.PossibleOf n) = bytes_eq t n
is_about t (key.InputOf n) = bytes_eq t n
is_about t (key.EnumOf n) = bytes_eq t n
is_about t (key.DirectiveOf n) = false
is_about t (key.RootOf k) = false
is_about t (key.FragmentOf n) = false

-- whether a key is about the field of this name of one of these types
abbrev pub is_field_of : List (List ℕ) → List ℕ → Key → Bool
is_field_of types name (key.FieldOf n f) = bytes_eq name f && list_any (bytes_eq n) types
is_field_of types name _ = false

-- whether a key is about the fields of this input object
abbrev pub is_input_of : List ℕ → Key → Bool
is_input_of t (key.InputOf n) = bytes_eq t n
is_input_of t _ = false

-- whether a key is about the values of this enum
abbrev pub is_enum_of : List ℕ → Key → Bool
is_enum_of t (key.EnumOf n) = bytes_eq t n
is_enum_of t _ = false

-- whether a key is about this directive
abbrev pub is_directive : List ℕ → Key → Bool
is_directive d (key.DirectiveOf n) = bytes_eq d n
is_directive d _ = false

-- ---- removals

-- What is left of the answer to a key once a part is removed:
-- * of a type, nothing that is about it, and nothing that is of it;
-- * of a field and of a directive, nothing;
-- * of what has an argument, an input field or an enum value, all else.
abbrev pub left : Removal → Key → Fact → Fact
left (removal.«Type» t) k f = if is_about t k then fact.Absent else without_type t f
left (removal.Field types name) k f = if is_field_of types name k then fact.Absent else f
left (removal.Argument types field name) k f =
    if is_field_of types field k then without_input name f else f
left (removal.InputField t name) k f = if is_input_of t k then without_input name f else f
left (removal.EnumValue t name) k f = if is_enum_of t k then without_value name f else f
left (removal.Directive d) k f = if is_directive d k then fact.Absent else f
left (removal.DirectiveArgument d name) k f = if is_directive d k then without_input name f else f

-- the facts once a part is removed
abbrev pub without : Removal → Facts → Facts
without r facts k = left r k (facts k)
