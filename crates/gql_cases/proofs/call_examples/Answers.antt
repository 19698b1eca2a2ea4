use Rattle.gql_cases.proofs.OfExamples.{order_does_not_count, values_count, twice_is_not_once, enum_is_not_string}
use Rattle.gql_cases.proofs.call_examples.Goals as goal

pub returns-clause-order : goal.returns-clause-order
returns-clause-order c = order_does_not_count

pub returns-clause-values : goal.returns-clause-values
returns-clause-values c = values_count

pub returns-clause-fields : goal.returns-clause-fields
returns-clause-fields c = twice_is_not_once

pub returns-clause-kinds : goal.returns-clause-kinds
returns-clause-kinds c = enum_is_not_string
