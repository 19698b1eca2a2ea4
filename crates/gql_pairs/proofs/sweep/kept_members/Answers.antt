use Rattle.std.proofs.Common.{◌∙◌, subst, sym}
use Rattle.gql_facts.specs.Worlds.{Facts}
use Rattle.gql_pairs.specs.Doubts.{HoldUndoubted}
use Rattle.gql_pairs.specs.Sweeps.{KeepsMember}
use Rattle.gql_pairs.proofs.Entries.{members_more}
use Rattle.gql_pairs.proofs.sweep.kept_members.Goals as goal

pub keep_member-requires : goal.keep_member-requires
keep_member-requires g c = subst (λ (G : Facts). HoldUndoubted G c.args.doubt.now c.member-item.result.observations) (sym c.loop-member.invariant.same_facts)
    (c.requires c.member-item.result (c.loop-member.member-index, c.loop-member-test.true, sym c.member-item.is))

pub loop-member-preserved : goal.loop-member-preserved
loop-member-preserved g c =
    let F = g.W.World.facts c.args.world.now in
    let same = c.loop-member.invariant.same_facts in
    record {
      same_facts = c.keep_member.ensures.facts ∙ same;
      same_names = c.keep_member.ensures.names ∙ c.loop-member.invariant.same_names;
      same_lent = c.keep_member.ensures.lent ∙ c.loop-member.invariant.same_lent;
      kept = members_more F c.args.members.now c.loop-member.member-index c.member-item.result c.loop-member-test.true c.member-item.is c.loop-member.kept.items c.keep_member.new.kept.items
          c.loop-member.invariant.kept (subst (λ (G : Facts). KeepsMember G c.member-item.result c.loop-member.kept.items c.keep_member.new.kept.items) same c.in_ok-keep_member.ensures.kept);
    }
