use Rattle.std.proofs.Common.{◌≡◌, false, inl, inr, refl, sym, subst}
use Rattle.gql_ast.specs.declared.profile.Profile.{Profile}
use Rattle.gql_registry.specs.Checks.{IsBadValue}
use Rattle.gql_registry.specs.DataBodies.{is_data}
use Rattle.gql_registry.proofs.FirstRefusals.{first_bad_value}
use Rattle.gql_registry.proofs.Working.{err_of}
use Rattle.serde_json.specs.View.{view}
use Rattle.gql_registry.proofs.reading.copy_data.Goals as goal

pub returns-then-not-is_data-clause-err : goal.returns-then-not-is_data-clause-err
returns-then-not-is_data-clause-err c = λ s p.
    inl (first_bad_value s (view c.args.value.now)
    (subst (λ (q : Profile). is_data q (view c.args.value.now) ≡ false) (sym p) (sym c.if-not-is_data.ensures)))

pub returns-in_err-data-clause-err : goal.returns-in_err-data-clause-err
returns-in_err-data-clause-err c = err_of (IsBadValue c.args.profile (view c.args.value.now)) _ _ c.from_residual.ensures.1 (λ s p. inr refl)
