-- Helper definitions for private contracts: the faults that an operation answers for, if the
-- fragments that it reaches are known.
use Rattle.std.specs.Prelude.{◌≡◌, List, ◌∷◌, Contains, Some, map}
use Rattle.gql_ast.specs.declared.definition.Definition.{Definition}
use Rattle.gql_ast.specs.declared.fault.Fault.{Fault}
use Rattle.gql_ast.specs.declared.fault.FilePlace.{FilePlace}
use Rattle.gql_facts.specs.declared.fact.FragmentFact.{FragmentFact}
use Rattle.gql_rules.specs.LocalFaults.{owner_of}
use Rattle.gql_serving.specs.Owned.{fragment_owner}

-- where an operation starts, and where each of these fragments does
abbrev pub owner_places : Definition → List FragmentFact → List FilePlace
owner_places d members = owner_of d ∷ map fragment_owner members

-- what starts at one of these places owns the fault
pub record IsOwnedAmong (places : List FilePlace) (f : Fault) : Type 0 where
  pub owner : FilePlace
  pub is : f.owner ≡ Some owner
  pub there : Contains places owner
