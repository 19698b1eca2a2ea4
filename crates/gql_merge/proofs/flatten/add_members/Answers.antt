use Rattle.std.proofs.Common.{◌∙◌, arith, bytes_eq, sym}
use Rattle.std.specs.HashMap as hash
use Rattle.gql_merge.proofs.Indexing.{members_more}
use Rattle.gql_merge.proofs.flatten.add_members.Goals as goal

pub loop-member-preserved : goal.loop-member-preserved
loop-member-preserved g c =
    let before = c.loop-member.invariant in
    record {
      same_facts = c.in_ok-add_member.ensures.facts ∙ before.same_facts;
      same_names = c.in_ok-add_member.ensures.names ∙ before.same_names;
      same_lent = c.in_ok-add_member.ensures.lent ∙ before.same_lent;
      added = members_more (g.W.World.facts c.args.world.now) _ c.args.members.now c.loop-member.member-index c.member-item.result
          c.args.sets.now.items _ _
          (λ q. hash.get_by (λ k. bytes_eq q k.now) c.loop-member.numbers) (λ q. hash.get_by (λ k. bytes_eq q k.now) c.add_member.new.numbers)
          (omega arith) (sym c.member-item.is) before.same_facts before.added c.in_ok-add_member.ensures.added;
    }
