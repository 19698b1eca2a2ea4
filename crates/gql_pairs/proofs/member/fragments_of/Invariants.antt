use Rattle.std.proofs.Common.{◌≡◌, map, take}
use Rattle.gql_pairs.specs.Fragments.{KeptFragment}
use Rattle.gql_pairs.proofs.member.fragments_of.Given as goal

abbrev pub invariant-loop-member : goal.invariant-loop-member
invariant-loop-member l = l.found.items ≡ map (λ (m : KeptFragment). m.fragment) (take l.member-index l.members)
