use Rattle.gql_registry.proofs.OneCall.{one_answer}
use Rattle.gql_registry.proofs.OneEdit.{one_edit, one_reading}
use Rattle.gql_registry.proofs.OneReport.{one_report}
use Rattle.gql_registry.proofs.laws.one_outcome.Goals as goal

pub returns-clause-edit : goal.returns-clause-edit
returns-clause-edit c =
    one_edit
    (one_reading c.one_answer.ensures.document c.one_answer.ensures.fault c.one_document_answer.ensures.document c.one_document_answer.ensures.fault)
    (one_report c.one_order.ensures)

pub returns-clause-report : goal.returns-clause-report
returns-clause-report c = one_report c.one_order.ensures

pub returns-clause-call : goal.returns-clause-call
returns-clause-call c = one_answer c.one_response.ensures c.one_order.ensures
