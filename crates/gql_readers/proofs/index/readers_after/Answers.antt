use Rattle.std.proofs.Common.{◌∙◌, ap, sym, subst, false, List}
use Rattle.gql_ast.specs.declared.definition.DefinitionId.{DefinitionId}
use Rattle.gql_readers.specs.Changes.{Noted}
use Rattle.gql_readers.specs.Orders.{AreInOrder}
use Rattle.gql_readers.proofs.Reading.{edited_in_order}
use Rattle.gql_readers.proofs.index.readers_after.Goals as goal

pub edited-requires-3 : goal.edited-requires-3
edited-requires-3 c = subst (λ (ids : List DefinitionId). AreInOrder ids) (sym c.in_ok-left.ensures)
    (edited_in_order c.args.readers.now c.as_slice-2.result.now (subst (λ (ids : List DefinitionId). AreInOrder ids) (sym (c.as_slice-2.ensures.value ∙ ap (λ (n : Noted). n.goes) c.noted.view_is)) c.requires.goes) false c.requires.readers)
