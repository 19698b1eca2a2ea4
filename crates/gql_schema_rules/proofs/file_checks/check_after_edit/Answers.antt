use Rattle.std.proofs.Common.{IfSome, ap, subst, sym}
use Rattle.std.proofs.lemmas.Result.{MatchResult-weaker}
use Rattle.std.specs.Option.{option_copied}
use Rattle.gql_schema_rules.specs.KeptChecks.{IsCheckAfter, IsKept}
use Rattle.gql_schema_rules.proofs.file_checks.check_after_edit.Goals as goal

pub returns-in-Some : goal.returns-in-Some
returns-in-Some c =
    let kept = subst (λ o. IfSome o (IsKept c.args.before.now c.args.edited.now c.args.change.now c.args.name.now)) (ap option_copied c.in-Some.is) c.kept_check.ensures in
    let after = IsCheckAfter c.args.before.now c.args.edited.now c.args.change.now c.args.schema.now c.args.name.now c.args.document.now in
    MatchResult-weaker c.clone.result c.clone.ensures.cases (λ copy e. subst after (sym e) (kept c.args.schema.now c.args.document.now)) (λ error _. tt)
