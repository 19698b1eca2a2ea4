use Rattle.gql_schema_rules.proofs.Regrouped.{five_added}
use Rattle.gql_schema_rules.proofs.rules.add_definition_faults.Goals as goal

pub returns : goal.returns
returns c = five_added _ _ _ _ _ _ _ _ _ _ _ c.in_ok-check.ensures c.in_ok-check-2.ensures c.in_ok-check-3.ensures c.in_ok-check-4.ensures c.in_ok-check-5.ensures
