use Rattle.std.proofs.Common.{[], Contains, flat_map, take}
use Rattle.gql_pairs.specs.Fragments.{with_reached}
use Rattle.gql_pairs.specs.Gathering.{AreNames, Gathers}
use Rattle.gql_pairs.proofs.gather.reached_of.Given as goal

abbrev pub invariant-loop-member : goal.invariant-loop-member
invariant-loop-member l = record {
  names : AreNames l.found.names.keys l.found.fragments.items;
  gathered : Gathers (Contains (flat_map with_reached (take l.member-index l.members))) [] l.found.fragments.items;
}
