use Rattle.gql_steps.proofs.table.Table.find.Given as goal

abbrev pub decreases-loop-next : goal.decreases-loop-next
decreases-loop-next l = l.next
