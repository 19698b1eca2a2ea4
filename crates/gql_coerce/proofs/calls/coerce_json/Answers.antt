use Rattle.std.proofs.Common.{◌+◌, ◌∙◌, ap, sym, true≢false, Some, option_map}
use Rattle.gql_types.specs.Written.{written}
use Rattle.serde_json.specs.View.{view}
use Rattle.gql_coerce.specs.Outcomes.{value}
use Rattle.gql_coerce.proofs.JsonForms.{is_nothing, is_there}
use Rattle.gql_coerce.proofs.calls.coerce_json.Goals as goal

pub returns-in-None-clause-ok : goal.returns-in-None-clause-ok
returns-in-None-clause-ok c = absurd (true≢false (ap (λ o. is_nothing (value (option_map view o))) (sym c.in-None.is) ∙ ap is_nothing (sym (c.in_ok-coerced.ensures.1 0 ∙ c.in_ok-value.ensures.ok))
    ∙ is_there c.args.schema.now (Some (written c.args.of_type.now)) (c.in_ok-coerced.ensures.0 + 0) (view c.args.value.now)))
