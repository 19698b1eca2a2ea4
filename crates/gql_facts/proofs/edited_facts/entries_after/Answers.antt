use Rattle.std.proofs.Common.{rules}
use Rattle.gql_facts.proofs.EditedFacts.{entries_step}
use Rattle.gql_facts.proofs.edited_facts.entries_after.Goals as goal

pub loop-place-preserved : goal.loop-place-preserved
loop-place-preserved c = entries_step c.args.schema.now c.loop-place.place c.loop-place.entries c.add_entry_here.new.entries
    (search rules) c.loop-place.invariant c.in_ok-add_entry_here.ensures
