use Rattle.std.proofs.Common.{List, Contains, subst, sym}
use Rattle.gql_ast.specs.declared.fault.Fault.{Fault}
use Rattle.gql_schema_rules.proofs.kept_faults.schema_faults.Goals as goal

pub returns-clause-sound : goal.returns-clause-sound
returns-clause-sound c = λ f h. (c.in_ok-found.ensures.all f).0 (subst (λ (xs : List Fault). Contains xs f) c.into_all.ensures h)

pub returns-clause-complete : goal.returns-clause-complete
returns-clause-complete c = λ f h. subst (λ (xs : List Fault). Contains xs f) (sym c.into_all.ensures) ((c.in_ok-found.ensures.all f).1 h)
