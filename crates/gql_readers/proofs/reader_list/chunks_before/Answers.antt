use Rattle.std.proofs.Common.{List, subst, sym, take}
use Rattle.gql_ast.specs.declared.definition.DefinitionId.{DefinitionId}
use Rattle.gql_readers.specs.Chunks.{AreBefore, IsNextAbove, joined}
use Rattle.gql_readers.specs.Merged.{itself}
use Rattle.gql_readers.specs.Orders.{id_order}
use Rattle.gql_readers.proofs.Chunking.{first_is, next_none, none_first}
use Rattle.gql_readers.proofs.reader_list.chunks_before.Goals as goal

pub returns-in-Some-clause-next : goal.returns-in-Some-clause-next
returns-in-Some-clause-next c =
    let cs = c.args.chunks.now in
    let n = c.chunks_below.result in
    subst (λ (zs : List DefinitionId). IsNextAbove id_order itself itself (joined (take n cs)) zs) (sym (first_is c.args.changed.now c.in-Some.id.now (sym c.in-Some.ensures.value)))
    (subst (λ (i : DefinitionId). AreBefore i (joined (take n cs))) c.get.ensures c.chunks_below.ensures.before)

pub returns-in-None-clause-next : goal.returns-in-None-clause-next
returns-in-None-clause-next c = next_none _ c.args.changed.now (none_first c.args.changed.now (sym c.in-None.ensures.value))
