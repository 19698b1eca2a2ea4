use Rattle.std.proofs.Common.{◌∙◌, List, Contains, subst, sym}
use Rattle.gql_ast.specs.declared.definition.DefinitionId.{DefinitionId}
use Rattle.gql_facts.specs.ListMembers.{Contains-nil}
use Rattle.gql_readers.specs.Chunks.{joined}
use Rattle.gql_readers.specs.Orders.{id_order}
use Rattle.gql_readers.proofs.Chunking.{chunks_before_last, none_last}
use Rattle.gql_readers.proofs.Merging.{is_less}
use Rattle.gql_readers.proofs.reader_list.are_before.Goals as goal

pub returns-in_default : goal.returns-in_default
returns-in_default c = λ t x m. absurd (Contains-nil x (subst (λ (cs : List (List DefinitionId)). Contains (joined cs) x) (none_last c.args.chunks.now (sym c.in_default.ensures.value)) m))

pub returns : goal.returns
returns c = λ t. chunks_before_last c.args.id.now c.in-Some-last_in.last.now c.args.chunks.now c.in-Some.chunk.now (sym c.in-Some.ensures.value) (sym c.in-Some-last_in.ensures) c.requires
    (is_less (id_order c.in-Some-last_in.last.now c.args.id.now) (sym c.is_before.ensures ∙ t))
