use Rattle.std.proofs.Common.{Contains, take}
use Rattle.gql_facts.specs.declared.fact.FragmentFact.{FragmentFact}
use Rattle.gql_merge.specs.Between.{name_of}
use Rattle.gql_pairs.specs.Groups.{HasMember}
use Rattle.gql_pairs.proofs.group.Group.has_all.Given as goal

abbrev pub invariant-loop-fragment : goal.invariant-loop-fragment
invariant-loop-fragment l = (g : FragmentFact) → Contains (take l.fragment-index l.fragments) g → HasMember l.self.members (name_of g)
