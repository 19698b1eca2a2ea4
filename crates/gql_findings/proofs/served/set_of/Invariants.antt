use Rattle.std.proofs.Common.{◌≡◌, take}
use Rattle.std.specs.HashSet.{contains}
use Rattle.std.specs.List.{list_any}
use Rattle.gql_findings.specs.Keys.{same_key}
use Rattle.gql_findings.specs.declared.marks.Key.{Key}
use Rattle.gql_findings.proofs.served.set_of.Given as goal

abbrev pub invariant-loop-key : goal.invariant-loop-key
invariant-loop-key l = (q : Key) → contains same_key l.set q ≡ list_any (same_key q) (take l.key-index l.keys)
