use Rattle.std.proofs.Common.{◌≡◌, ◌++◌}
use Rattle.gql_manifest.specs.Fragments.{bytes_of, fragments_of}
use Rattle.gql_manifest.specs.Packing.{pieces_of}
use Rattle.gql_manifest.proofs.fragments.KeptFragments.texts.Given as goal

abbrev pub invariant-loop-name : goal.invariant-loop-name
invariant-loop-name l = pieces_of l.pieces.items ++ bytes_of (fragments_of l._name-iterator) ≡ bytes_of l.self
