use Rattle.std.proofs.Common.{inl, rules, sym, subst}
use Rattle.gql_ast.specs.declared.profile.Profile.{Profile}
use Rattle.gql_registry.specs.DataBodies.{IsDataText}
use Rattle.serde_json.specs.Data.{Data}
use Rattle.gql_registry.proofs.FirstRefusals.{first_data_not_text, first_bad_data}
use Rattle.gql_registry.proofs.reading.read_data.Goals as goal

pub returns-in_default-clause-err : goal.returns-in_default-clause-err
returns-in_default-clause-err c = λ s p. inl (first_data_not_text s c.args.bytes.now c.in_default.ensures.cases.0)

pub returns-in-Err-Refused-clause-err : goal.returns-in-Err-Refused-clause-err
returns-in-Err-Refused-clause-err c = λ s p.
    inl (first_bad_data s c.args.bytes.now (search rules)
    (subst (λ (q : Profile). (d : Data) → IsDataText q c.args.bytes.now d → ⊥) (sym p)
    (rw c.in-Ok.ensures.cases.0 at (c.in-Err-Refused.ensures.err c.in-Err-Refused.field-0-is))))
