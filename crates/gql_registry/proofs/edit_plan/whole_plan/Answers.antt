use Rattle.std.proofs.Common.{sym, subst}
use Rattle.gql_registry.specs.Keeping.{IsSideOf}
use Rattle.gql_registry.proofs.SchemaTouched.{whole_touched}
use Rattle.gql_registry.proofs.edit_plan.whole_plan.Goals as goal

pub returns-clause-plan : goal.returns-clause-plan
returns-clause-plan c = λ before. record {
  placed = c.requires;
  touched = whole_touched before c.args.files;
  schema = subst (IsSideOf c.args.files) (sym c.in_ok-schema-2.ensures) c.in_ok-schema.ensures;
  index = c.in_ok-index.ensures;
  names = λ keeps. absurd (cc keeps);
}
