-- Literals of the same value: they differ in their places at most.
use Rattle.std.specs.Prelude.{◌≡◌}
use Rattle.gql_text.specs.declared.place.Place.{Place}
use Rattle.gql_ast.specs.declared.literal.Literal.{Literal, fold-Literal}
use Rattle.gql_ast.specs.declared.literal.Literal.TheOpen.{Literal-F, ObjectField-F}
use Rattle.gql_ast.specs.declared.literal.Literal.TheVariants as l
use Rattle.gql_ast.specs.declared.literal.ObjectField.{ObjectField}

-- the place that replaces each place
abbrev pub no_place : Place
no_place = record { line = 0; column = 0; offset = 0 }

-- a literal of this form without places, from its parts without places
abbrev pub unplaced : Literal-F Literal ObjectField → Literal
unplaced (Literal-F.Variable place name) = l.Variable no_place name
unplaced (Literal-F.Int place text) = l.Int no_place text
unplaced (Literal-F.Float place text) = l.Float no_place text
unplaced (Literal-F.String place text) = l.String no_place text
unplaced (Literal-F.Boolean place truth) = l.Boolean no_place truth
unplaced (Literal-F.Null place) = l.Null no_place
unplaced (Literal-F.Enum place name) = l.Enum no_place name
unplaced (Literal-F.List place items) = l.List no_place items
unplaced (Literal-F.Object place fields) = l.Object no_place fields

-- a field of an object without places, from its value without places
abbrev pub unplaced_field : ObjectField-F Literal ObjectField → ObjectField
unplaced_field f =
    record { name = record { place = no_place; text = f.name.text }; value = f.value }

-- the literal, with that place in each of its parts
unfoldable pub without_places : Literal → Literal
without_places = fold-Literal Literal ObjectField unplaced unplaced_field

-- the same names, numbers, strings and words, in the same lists and objects, in the same order
abbrev pub HaveSameValue : Literal → Literal → Type 0
HaveSameValue a b = without_places a ≡ without_places b
