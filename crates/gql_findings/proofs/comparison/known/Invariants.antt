use Rattle.std.proofs.Common.{◌≡◌, take}
use Rattle.std.specs.Prelude.{filter}
use Rattle.gql_findings.specs.Comparing.{is_known}
use Rattle.gql_findings.proofs.comparison.known.Given as goal

abbrev pub invariant-loop-place : goal.invariant-loop-place
invariant-loop-place l = l.known.items ≡ filter (is_known l.now l.base) (take l.place-index l.places)
