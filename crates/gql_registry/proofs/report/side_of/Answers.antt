use Rattle.std.proofs.Common.{◌∙◌, rules, ap, sym, subst}
use Rattle.gql_intro.specs.Made.{made_of}
use Rattle.gql_registry.specs.Keeping.{AreSchemaFaults}
use Rattle.gql_registry.proofs.report.side_of.Goals as goal

pub returns-in_err-faults : goal.returns-in_err-faults
returns-in_err-faults c = search rules

pub returns : goal.returns
returns c = λ files schema outline facts made kept. record {
  schema = schema;
  outline = outline;
  facts = facts;
  made = made ∙ ap (made_of files) schema;
  kept = kept;
  faults = subst (AreSchemaFaults files) (sym (c.in_ok-faults.ensures ∙ c.all.ensures))
      (record { sound = λ f. (kept.all f).0; complete = λ f. (kept.all f).1 });
}
