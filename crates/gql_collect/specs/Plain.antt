-- Helper definitions for contracts: selection sets that need no search, as each of their selections
-- is a field that is a group of its own.
use Rattle.std.specs.Prelude.{List, [], ◌∷◌, Bool, true, false, not, ◌&&◌, length, nat_lt, nat_le, nat_eq, bytes_eq}
use Rattle.gql_ast.specs.declared.executable.Field.{Field}
use Rattle.gql_ast.specs.declared.executable.InlineFragment.{InlineFragment}
use Rattle.gql_ast.specs.declared.executable.Selection.{Selection, out-Selection}
use Rattle.gql_ast.specs.declared.executable.Selection.TheOpen.{Selection-F}
use Rattle.gql_ast.specs.declared.text.Name.{Name}
use Rattle.gql_collect.specs.Groups.{response_name}

-- a name stands before another one, and has another text
abbrev pub is_before : Name → Name → Bool
is_before name other = nat_lt name.place.offset other.place.offset
    && not (bytes_eq name.text other.text)

-- the selection is a field whose response name stands later, and is another one
abbrev pub is_later : Name → Selection-F Selection Field InlineFragment → Bool
is_later name (Selection-F.Field f) = is_before name (response_name f)
is_later name (Selection-F.Spread x) = false
is_later name (Selection-F.InlineFragment i) = false

-- all of these selections are such fields
abbrev pub are_later : Name → List Selection → Bool
are_later name [] = true
are_later name (x ∷ xs) = is_later name (out-Selection x) && are_later name xs

-- the field has no directives, and the selections after it are fields of other response names
abbrev pub is_plain_field : Field → List Selection → Bool
is_plain_field f rest = nat_eq (length f.directives) 0 && are_later (response_name f) rest

-- the selection is such a field
abbrev pub is_plain_at : Selection-F Selection Field InlineFragment → List Selection → Bool
is_plain_at (Selection-F.Field f) rest = is_plain_field f rest
is_plain_at (Selection-F.Spread x) rest = false
is_plain_at (Selection-F.InlineFragment i) rest = false

-- these are fields without directives, each of a response name of its own, in the order of places
abbrev pub are_plain : List Selection → Bool
are_plain [] = true
are_plain (x ∷ xs) = is_plain_at (out-Selection x) xs && are_plain xs

-- these are at most eight such fields
abbrev pub is_plain : List Selection → Bool
is_plain xs = nat_le (length xs) 8 && are_plain xs
