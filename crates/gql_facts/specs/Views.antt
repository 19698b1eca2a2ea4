-- Facts with which a definition reads and reaches the same.
use Rattle.std.specs.Prelude.{◌≡◌, ◌↔◌}
use Rattle.gql_ast.specs.declared.definition.Definition.{Definition}
use Rattle.gql_facts.specs.declared.fact.FragmentFact.{FragmentFact}
use Rattle.gql_facts.specs.declared.key.Key.{Key}
use Rattle.gql_facts.specs.Worlds.{Facts}
use Rattle.gql_facts.specs.Reads.{Reads, Reaches}

-- with u and with v, d reads the same keys and reaches the same fragments, and each key that it
-- reads has the same answer
pub record SameView (v u : Facts) (d : Definition) : Type 0 where
  pub reads : (k : Key) → Reads v d k ↔ Reads u d k
  pub reaches : (g : FragmentFact) → Reaches v d g ↔ Reaches u d g
  pub answers : (k : Key) → Reads u d k → u k ≡ v k
