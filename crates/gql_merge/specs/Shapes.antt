-- The shape of a type, by which results are compared (GraphQL 5.3.2, SameResponseShape): its lists
-- and Non-Nulls, and its name if it is a scalar or an enum. The name is left out if it is that of a
-- composite type or of no type.
use Rattle.std.specs.Prelude.{◌≡◌, ℕ, List, [], ◌∷◌, ◌++◌, flat_map, codes, refl, Option, Some}
use Rattle.gql_types.specs.declared.kind.TypeKind.{TypeKind}
use Rattle.gql_types.specs.declared.kind.TypeKind.TheVariants as kind
use Rattle.gql_types.specs.declared.written_type.Wrapper.{Wrapper}
use Rattle.gql_types.specs.declared.written_type.Wrapper.TheVariants as wrapper
use Rattle.gql_types.specs.declared.written_type.WrittenType.{WrittenType}

-- a wrapper, as a text
abbrev pub step_text : Wrapper → List ℕ
step_text wrapper.List = codes "["
step_text wrapper.NonNull = codes "!"

-- the name of a type of this kind, if it is a scalar or an enum
abbrev pub leaf_text : Option TypeKind → List ℕ → List ℕ
leaf_text (Some kind.Scalar) name = name
leaf_text (Some kind.Enum) name = name
leaf_text _ name = []

-- The shape of a type, as a text; k is the kind of the named type within it. The text has the
-- wrappers from the outside in, then the name. No name contains a character of a wrapper, so two
-- shapes are the same exactly if their texts are equal.
abbrev pub shape_text : WrittenType → Option TypeKind → List ℕ
shape_text t k = flat_map step_text t.wrappers ++ leaf_text k t.name

-- `[Int!]`
abbrev ints : WrittenType
ints = record { wrappers = wrapper.List ∷ wrapper.NonNull ∷ []; name = codes "Int" }

-- the shape of `[Int!]`, if Int is a scalar
shape_of_scalars : shape_text ints (Some kind.Scalar) ≡ codes "[!Int"
shape_of_scalars = refl

-- the shape of `[Int!]`, if Int were an object
shape_of_objects : shape_text ints (Some kind.Object) ≡ codes "[!"
shape_of_objects = refl
