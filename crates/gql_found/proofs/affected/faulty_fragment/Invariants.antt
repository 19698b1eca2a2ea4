use Rattle.std.proofs.Common.{◌≡◌, Contains, false, take}
use Rattle.gql_found.specs.Affected.{definition_of}
use Rattle.gql_found.specs.Steps.{owns}
use Rattle.gql_facts.specs.declared.fact.FragmentFact.{FragmentFact}
use Rattle.gql_found.proofs.affected.faulty_fragment.Given as goal

abbrev pub invariant-loop-member : goal.invariant-loop-member
invariant-loop-member l = (g : FragmentFact) → Contains (take l.member-index l.members) g → owns l.owners (definition_of g) ≡ false
