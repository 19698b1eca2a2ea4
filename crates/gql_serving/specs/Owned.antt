-- Which faults an operation answers for (this registry's own rule): its own, and those of the
-- fragments that it reaches.
use Rattle.std.specs.Prelude.{◌≡◌, List, [], ◌∷◌, Some}
use Rattle.gql_ast.specs.declared.definition.Definition.{Definition}
use Rattle.gql_ast.specs.declared.definition.Tree.TheVariants as tree
use Rattle.gql_ast.specs.declared.fault.Fault.{Fault}
use Rattle.gql_ast.specs.declared.fault.FilePlace.{FilePlace}
use Rattle.gql_facts.specs.Reads.{Reaches}
use Rattle.gql_facts.specs.Worlds.{Facts}
use Rattle.gql_facts.specs.declared.fact.FragmentFact.{FragmentFact}
use Rattle.gql_rules.specs.LocalFaults.{owner_of}

-- the definition of a fragment
abbrev pub definition_of : FragmentFact → Definition
definition_of g = record { file = g.file; tree = tree.Fragment g.fragment }

-- the place of a fragment, as the owner of faults
abbrev pub fragment_owner : FragmentFact → FilePlace
fragment_owner g = owner_of (definition_of g)

-- the operation d, or a fragment that d reaches, owns the fault
pub data IsOwned (facts : Facts) (d : Definition) (f : Fault) : Type 0 where
  by_operation : f.owner ≡ Some (owner_of d) → IsOwned facts d f
  by_fragment : {g : FragmentFact} → Reaches facts d g → f.owner ≡ Some (fragment_owner g)
      → IsOwned facts d f

-- the second list has the faults of the first that meet P, in their order
pub data Picks (P : Fault → Type 0) : List Fault → List Fault → Type 0 where
  none : Picks P [] []
  picked : {f : Fault} {fs gs : List Fault} → P f → Picks P fs gs → Picks P (f ∷ fs) (f ∷ gs)
  left_out : {f : Fault} {fs gs : List Fault} → (P f → ⊥) → Picks P fs gs → Picks P (f ∷ fs) gs
