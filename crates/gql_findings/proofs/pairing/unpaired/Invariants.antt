use Rattle.std.proofs.Common.{◌≡◌, ◌-◌, take}
use Rattle.std.specs.Prelude.{count_by, unwrap_or}
use Rattle.std.specs.HashMap.{get}
use Rattle.gql_findings.specs.Comparing.{places_from}
use Rattle.gql_findings.specs.Keys.{same_key}
use Rattle.gql_findings.specs.declared.marks.Key.{Key}
use Rattle.gql_findings.proofs.Counting.{is_alone}
use Rattle.gql_findings.proofs.pairing.unpaired.Given as goal

abbrev pub invariant-loop-place : goal.invariant-loop-place
invariant-loop-place l = record {
  left : (q : Key) → unwrap_or (get same_key l.left q) 0 ≡ count_by (same_key q) l.others - count_by (same_key q) (take l.place l.keys);
  places : l.places.items ≡ places_from 0 (is_alone l.keys l.others) (take l.place l.keys);
}
