use Rattle.gql_merge.proofs.CleanNames.{added_more}
use Rattle.gql_merge.proofs.searching.add_reached.Goals as goal

pub returns-in_err-add_at : goal.returns-in_err-add_at
returns-in_err-add_at c = added_more _ c.args.clean.now c.loop-member.clean c.add_at.new.clean c.loop-member.invariant c.add_at.ensures

pub loop-member-preserved : goal.loop-member-preserved
loop-member-preserved c = added_more _ c.args.clean.now c.loop-member.clean c.add_at.new.clean c.loop-member.invariant c.add_at.ensures
