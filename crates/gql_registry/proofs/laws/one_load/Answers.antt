use Rattle.gql_registry.proofs.InTurn.{as_one_by_one}
use Rattle.gql_registry.proofs.OneEdit.{one_made, one_reading}
use Rattle.gql_registry.proofs.laws.one_load.Goals as goal

pub returns-clause-one : goal.returns-clause-one
returns-clause-one c =
    one_made
    (one_reading c.one_answer.ensures.document c.one_answer.ensures.fault c.one_document_answer.ensures.document c.one_document_answer.ensures.fault)

pub returns-clause-each : goal.returns-clause-each
returns-clause-each c =
    as_one_by_one
    (one_reading c.one_answer.ensures.document c.one_answer.ensures.fault c.one_document_answer.ensures.document c.one_document_answer.ensures.fault)
