use Rattle.std.proofs.Common.{◌≡◌, subst, Some, None, true, false}
use Rattle.serde_json.specs.Read.{read}
use Rattle.serde_json.specs.View.{view}
use Rattle.gql_http.specs.RunBodies as spec
use Rattle.gql_http.proofs.Asking.{call_read, fault_read}
use Rattle.gql_http.proofs.run_body.run_body_in.Goals as goal

pub returns-in_default-clause-err : goal.returns-in_default-clause-err
returns-in_default-clause-err c = spec.not_text c.in_default.ensures.cases.0

pub returns-in-Ok-from_str-clause-ok : goal.returns-in-Ok-from_str-clause-ok
returns-in-Ok-from_str-clause-ok c = call_read c.args.body.now (view c.in-Ok-from_str.value) c.run_body_by.result c.in-Ok.ensures.cases.1
    (subst (λ t. read t ≡ Some (view c.in-Ok-from_str.value)) c.in-Ok.ensures.cases.0 c.in-Ok-from_str.ensures.ok) c.run_body_by.ensures.ok

pub returns-in-Ok-from_str-clause-err : goal.returns-in-Ok-from_str-clause-err
returns-in-Ok-from_str-clause-err c = fault_read c.args.body.now (view c.in-Ok-from_str.value) c.run_body_by.result c.in-Ok.ensures.cases.1
    (subst (λ t. read t ≡ Some (view c.in-Ok-from_str.value)) c.in-Ok.ensures.cases.0 c.in-Ok-from_str.ensures.ok) c.run_body_by.ensures.err

no_truth : false ≡ true → ⊥
no_truth e = cc

pub returns-else-is_memory-clause-err : goal.returns-else-is_memory-clause-err
returns-else-is_memory-clause-err c = spec.not_json c.in-Ok.ensures.cases.1
    (subst (λ t. read t ≡ None) c.in-Ok.ensures.cases.0 (c.in-Err.ensures.err (λ m. no_truth (c.if-is_memory.ensures.1 m))))
