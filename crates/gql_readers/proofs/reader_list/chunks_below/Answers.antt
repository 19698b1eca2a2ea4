use Rattle.gql_facts.specs.ListMembers.{Contains-nil}
use Rattle.gql_readers.proofs.Chunking.{prefix_order}
use Rattle.gql_readers.proofs.reader_list.chunks_below.Goals as goal

pub are_before-requires : goal.are_before-requires
are_before-requires c = prefix_order c.args.chunks.now _ c.requires.order

pub returns-then-are_before-clause-before : goal.returns-then-are_before-clause-before
returns-then-are_before-clause-before c = c.are_before.ensures c.if-are_before.true

pub returns-else-are_before-clause-before : goal.returns-else-are_before-clause-before
returns-else-are_before-clause-before c = λ x m. absurd (Contains-nil x m)
