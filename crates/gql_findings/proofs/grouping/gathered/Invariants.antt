use Rattle.std.proofs.Common.{◌≡◌, take}
use Rattle.std.specs.Prelude.{All, filter}
use Rattle.std.specs.List.{IsDistinct}
use Rattle.gql_findings.specs.Causes.{has_cause}
use Rattle.gql_findings.specs.Gathering.{Agree, HasMembers, members_at}
use Rattle.gql_findings.specs.Keys.{same_key}
use Rattle.gql_findings.specs.Marks.{Mark}
use Rattle.gql_findings.proofs.grouping.gathered.Given as goal

abbrev pub invariant-loop-member : goal.invariant-loop-member
invariant-loop-member l = record {
  agree : Agree l.keys.keys l.causes.items;
  distinct : IsDistinct same_key l.keys.keys;
  members : (m : Mark) → filter (has_cause l.findings m) (take l.member-index l.which) ≡ members_at m l.causes.items;
  some : All HasMembers l.causes.items;
}
