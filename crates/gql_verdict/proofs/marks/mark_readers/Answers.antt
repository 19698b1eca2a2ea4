use Rattle.std.proofs.Common.{subst, List}
use Rattle.gql_ast.specs.declared.definition.DefinitionId.{DefinitionId}
use Rattle.gql_verdict.specs.Marks.{AreMarked, OnlyMarks}
use Rattle.gql_verdict.proofs.marks.mark_readers.Goals as goal

pub returns-clause-marked : goal.returns-clause-marked
returns-clause-marked c = subst (λ (ids : List DefinitionId). AreMarked c.args.slots.now c.mark_chunks.new.marks ids) c.chunks.ensures c.mark_chunks.ensures.marked

pub returns-clause-only : goal.returns-clause-only
returns-clause-only c = subst (λ (ids : List DefinitionId). OnlyMarks c.args.slots.now c.args.marks.now c.mark_chunks.new.marks ids) c.chunks.ensures c.mark_chunks.ensures.only
