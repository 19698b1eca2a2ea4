use Rattle.std.proofs.Common.{◌≡◌, ℕ, length, rules}
use Rattle.std.specs.Prelude.{slice_index}
use Rattle.std.specs.declared.cmp.Reverse.{Reverse}
use Rattle.std.proofs.lemmas.Fn.{always_returns_same}
use Rattle.gql_findings.specs.declared.grouping.Cause.{Cause}
use Rattle.gql_findings.proofs.Gatherings.{reordered}
use Rattle.gql_findings.proofs.grouping.causes.Goals as goal

-- the key by which causes are sorted
abbrev sort_key : Cause → Reverse ℕ × ℕ
sort_key c = (record { 0 = length c.members.items }, slice_index c.members.items 0)

pub returns : goal.returns
returns c = record {
  groups = reordered c.args.findings.now c.args.which.now c.in_ok-causes.causes.items c.sort_by_key.new.self.items c.in_ok-sort_by_key.ensures.permutation c.in_ok-causes.ensures;
  ordered = c.in_ok-sort_by_key.ensures.sorted sort_key (always_returns_same _ (λ a r. r ≡ sort_key a.0.now) _ (λ a r f' k. search rules));
}
