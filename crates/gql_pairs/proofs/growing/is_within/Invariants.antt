use Rattle.std.proofs.Common.{Contains, take}
use Rattle.gql_merge.specs.Between.{name_of}
use Rattle.gql_pairs.specs.Fragments.{KeptFragment}
use Rattle.gql_pairs.proofs.growing.is_within.Given as goal

abbrev pub invariant-loop-member : goal.invariant-loop-member
invariant-loop-member l = (x : KeptFragment) → Contains (take l.member-index l.member-items) x → Contains l.names.keys (name_of x.fragment)
