-- Whether `Float` is a type of the schema. Every definition asks this, since it decides which numbers
-- a custom scalar takes.
use Rattle.std.specs.Prelude.{◌≡◌, Bool, true, false, Option, Some, None, codes, is_some, refl}
use Rattle.gql_types.specs.declared.kind.TypeKind.{TypeKind}
use Rattle.gql_types.specs.declared.kind.TypeKind.TheVariants as kind
use Rattle.gql_facts.specs.declared.fact.Fact.{Fact}
use Rattle.gql_facts.specs.declared.fact.Fact.TheVariants as fact
use Rattle.gql_facts.specs.declared.key.Key.{Key}
use Rattle.gql_facts.specs.declared.key.Key.TheVariants as key
use Rattle.gql_facts.specs.Worlds.{Facts}

-- the key that asks whether `Float` is a type
abbrev pub float_read : Key
float_read = key.KindOf (codes "Float")

-- the kind of a type, as an answer gives it
abbrev pub kind_in : Fact → Option TypeKind
kind_in (fact.Kind k) = Some k
kind_in _ = None

-- whether custom scalars take every number that a Float takes: where `Float` is a type. This is the
-- registry's own rule.
abbrev pub is_open_in : Facts → Bool
is_open_in facts = is_some (kind_in (facts float_read))

-- by whether the type is known
open_by_scalar : is_open_in (λ k. fact.Kind kind.Scalar) ≡ true
open_by_scalar = refl

closed_without_it : is_open_in (λ k. fact.Absent) ≡ false
closed_without_it = refl
