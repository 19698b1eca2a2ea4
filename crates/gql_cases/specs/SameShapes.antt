-- When the results of two fields have the same shape (GraphQL specification, 5.3.2,
-- SameResponseShape), a case for each form of their types. The law `shapes` says that this is
-- exactly what rule V06 asks of two fields.
use Rattle.std.specs.Prelude.{◌≡◌, ◌↔◌, ℕ, List, Bool, true, false, Option, Some}
use Rattle.gql_text.specs.Grammar.{IsName}
use Rattle.gql_types.specs.Written.{Written, named, listed, required}
use Rattle.gql_types.specs.WrittenTypes.{typed_of}
use Rattle.gql_types.specs.declared.kind.TypeKind.{TypeKind}
use Rattle.gql_types.specs.declared.kind.TypeKind.TheVariants as kind
use Rattle.gql_facts.specs.Worlds.{Facts}
use Rattle.gql_rules.specs.Answers.{kind_of}
use Rattle.gql_merge.specs.FieldNodes.{FieldNode}
use Rattle.gql_merge.specs.FieldSets.{WrittenField}
use Rattle.gql_merge.specs.MergedNodes.{nodes}
use Rattle.gql_cases.specs.SameCalls.{IsNodeOf}

-- whether a type of this kind is a scalar or an enum; a name of no type is neither
abbrev pub is_leaf : Option TypeKind → Bool
is_leaf (Some kind.Scalar) = true
is_leaf (Some kind.Enum) = true
is_leaf _ = false

-- the types have the same shape, where each name is of the kind that is given
pub data SameShape (kind_at : List ℕ → Option TypeKind) : Written → Written → Type 0 where
  -- both are Non-Null
  non_nulls : {t u : Written} → SameShape kind_at t u → SameShape kind_at (required t) (required u)
  -- both are lists
  lists : {t u : Written} → SameShape kind_at t u → SameShape kind_at (listed t) (listed u)
  -- both are one scalar or one enum
  one_leaf : {n : List ℕ} → is_leaf (kind_at n) ≡ true → SameShape kind_at (named n) (named n)
  -- both are composite
  composites : {n m : List ℕ} → is_leaf (kind_at n) ≡ false → is_leaf (kind_at m) ≡ false
      → SameShape kind_at (named n) (named m)

-- V06 asks whether two fields share their shape: they do exactly if their types have the same shape
abbrev pub SharedShapeIsSameShape : Type 0
SharedShapeIsSameShape = (facts : Facts) (f g : WrittenField) (x y : FieldNode)
    (a : IsNodeOf facts f x) (b : IsNodeOf facts g y)
    → IsName a.definition.of_type.name → IsName b.definition.of_type.name
    → (nodes facts).share_shape x y ≡ true
    ↔ SameShape (kind_of facts) (typed_of a.definition.of_type) (typed_of b.definition.of_type)
