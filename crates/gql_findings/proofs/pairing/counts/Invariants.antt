use Rattle.std.proofs.Common.{◌≡◌, take}
use Rattle.std.specs.Prelude.{count_by, unwrap_or}
use Rattle.std.specs.HashMap.{get}
use Rattle.gql_findings.specs.Keys.{same_key}
use Rattle.gql_findings.specs.declared.marks.Key.{Key}
use Rattle.gql_findings.proofs.pairing.counts.Given as goal

abbrev pub invariant-loop-key : goal.invariant-loop-key
invariant-loop-key l = (q : Key) → unwrap_or (get same_key l.counts q) 0 ≡ count_by (same_key q) (take l.key-index l.keys)
