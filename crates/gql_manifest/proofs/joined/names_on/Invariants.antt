use Rattle.gql_manifest.specs.Joining.{AreNames}
use Rattle.gql_manifest.proofs.joined.names_on.Given as goal

abbrev pub invariant-loop-at : goal.invariant-loop-at
invariant-loop-at l = AreNames l.most l.side l.files l.at l.names
