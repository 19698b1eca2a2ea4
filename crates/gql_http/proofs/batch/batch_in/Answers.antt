use Rattle.std.proofs.Common.{subst}
use Rattle.std.proofs.lemmas.Result.{IfErr-weaker}
use Rattle.gql_http.specs.Batches as spec
use Rattle.gql_http.proofs.BatchLists.{no_value_said}
use Rattle.gql_http.proofs.batch.batch_in.Goals as goal

pub returns-in-Ok-clause-err : goal.returns-in-Ok-clause-err
returns-in-Ok-clause-err c =
    IfErr-weaker c.value_in.result _ _ (λ fault none bad most. no_value_said most c.args.body.now c.in-Ok.ensures.cases.1 (subst spec.IsNoValue c.in-Ok.ensures.cases.0 (none bad)))
    c.value_in.ensures.err

pub returns-in-Err-clause-err : goal.returns-in-Err-clause-err
returns-in-Err-clause-err c = λ _ most. spec.not_text c.in-Err.ensures.cases.0
