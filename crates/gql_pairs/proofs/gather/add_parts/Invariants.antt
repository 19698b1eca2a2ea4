use Rattle.std.proofs.Common.{[], ◌∷◌, Contains, flat_map, take}
use Rattle.gql_reads.specs.Records.{Kept}
use Rattle.gql_pairs.specs.Gathering.{AreNames, Gathers}
use Rattle.gql_pairs.proofs.gather.add_parts.Given as goal

abbrev pub invariant-loop-part : goal.invariant-loop-part
invariant-loop-part l = record {
  names : AreNames l.found.names.keys l.found.fragments.items;
  gathered : Gathers (Contains (flat_map (λ (p : Kept). p.fragment ∷ []) (take l.part-index l.parts))) l.initial.found.fragments.items l.found.fragments.items;
}
