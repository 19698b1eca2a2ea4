-- Types of one name that are alike before and after an edit, as far as the rules on interfaces ask.
use Rattle.std.specs.Prelude.{◌≡◌, ◌⊎◌, ℕ, List, Bool, IsTrue, false, Option, Some, None, map}
use Rattle.gql_ast.specs.declared.text.Name.{Name}
use Rattle.gql_built_in.specs.declared.sited.Sited.{Sited}
use Rattle.gql_types.specs.Covariance.{stands_for}
use Rattle.gql_types.specs.Kinds.{same_kind}
use Rattle.gql_types.specs.Possible.{name_of}
use Rattle.gql_types.specs.Schemas.{kind_named}
use Rattle.gql_types.specs.declared.kind.TypeKind.TheVariants as kind
use Rattle.gql_types.specs.declared.schema.Schema.{Schema}
use Rattle.gql_types.specs.declared.schema_type.SchemaType.{SchemaType}
use Rattle.gql_iface_rules.specs.Implementing.{interface_named}

-- the texts of these names
abbrev pub texts : List (Sited Name) → List (List ℕ)
texts names = map (λ (n : Sited Name). n.node.text) names

-- two types of one name and kind, which are no interfaces, and list the same interfaces and members
pub record AreAlike (t u : SchemaType) : Type 0 where
  pub name : name_of t ≡ name_of u
  pub kinds : t.kind ≡ u.kind
  pub other : same_kind t.kind kind.Interface ≡ false
  pub interfaces : texts t.interfaces ≡ texts u.interfaces
  pub members : texts t.members ≡ texts u.members

-- a name has the same type in both, or none in both, or two types that are alike; if names may
-- come, it may also have no type before, whatever it has after
abbrev pub IsAlike : Bool → Option SchemaType → Option SchemaType → Type 0
IsAlike may_come o p = (IsTrue may_come × (o ≡ None)) ⊎ ((o ≡ p)
    ⊎ ((t : SchemaType) × (u : SchemaType) × (o ≡ Some t) × (p ≡ Some u) × AreAlike t u))

-- what is known before is the same after; if names may come, what is not known before may be known
-- after
abbrev pub IsKept : {A : Type 0} → Bool → Option A → Option A → Type 0
IsKept may_come o p = (IsTrue may_come × (o ≡ None)) ⊎ (o ≡ p)

-- after an edit, what the rules on interfaces ask of names is the same; if names may come, this is
-- so of what was known before
pub record KeepsInterfaces (may_come : Bool) (before after : Schema) : Type 0 where
  pub kinds : (n : List ℕ) → IsKept may_come (kind_named before n) (kind_named after n)
  pub interfaces : (n : List ℕ) → (IsTrue may_come × (kind_named before n ≡ None))
      ⊎ (interface_named before n ≡ interface_named after n)
  pub stand : (n base : List ℕ)
      → IsKept may_come (stands_for before n base) (stands_for after n base)
