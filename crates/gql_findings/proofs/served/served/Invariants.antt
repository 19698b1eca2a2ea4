use Rattle.std.proofs.Common.{◌≡◌, take}
use Rattle.gql_findings.specs.Comparing.{places_from}
use Rattle.gql_findings.proofs.Counting.{is_there}
use Rattle.gql_findings.proofs.served.served.Given as goal

abbrev pub invariant-loop-place : goal.invariant-loop-place
invariant-loop-place l = l.places.items ≡ places_from 0 (is_there l.operations l.affected) (take l.place l.keys)
