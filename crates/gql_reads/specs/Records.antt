-- What was observed of one definition or fragment alone.
use Rattle.std.specs.Prelude.{◌≡◌, List, Contains}
use Rattle.gql_ast.specs.declared.definition.Tree.{Tree}
use Rattle.gql_facts.specs.declared.fact.Fact.TheVariants as fact
use Rattle.gql_facts.specs.declared.fact.FragmentFact.{FragmentFact}
use Rattle.gql_facts.specs.Members.{Lists}
use Rattle.gql_facts.specs.Worlds.{Facts}
use Rattle.gql_reads.specs.Leading.{AreLed}
use Rattle.gql_reads.specs.Observations.{Hold, keys_of, observed_in}
use Rattle.gql_reads.specs.Own.{Own, tree_of}
use Rattle.gql_reads.specs.declared.observation.Answer.{Answer}

-- an answer is this fragment
abbrev pub IsTold : List Answer → FragmentFact → Type 0
IsTold answers g =
    (a : Answer) × Contains answers a × (a.observation.fact ≡ fact.Fragment g)

-- what the answers observed is exactly the own reads of a tree, each with its answer
pub record IsRecord (facts : Facts) (t : Tree) (answers : List Answer) : Type 0 where
  pub hold : Hold facts (observed_in answers)
  pub keys : Lists (keys_of (observed_in answers)) (Own facts t)
  pub led : AreLed answers

-- a fragment, and what was observed of it alone
pub record Kept : Type 0 where
  pub fragment : FragmentFact
  pub seen : List Answer

-- wherever what the answers observed holds, its keys are exactly the own reads of the fragment
pub record IsCertified (g : FragmentFact) (seen : List Answer) : Type 0 where
  pub reads : (facts : Facts) → Hold facts (observed_in seen)
      → Lists (keys_of (observed_in seen)) (Own facts (tree_of g))
  pub led : AreLed seen
