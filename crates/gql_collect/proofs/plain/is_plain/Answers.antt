use Rattle.std.proofs.Common.{◌∙◌, arith, sym}
use Rattle.std.proofs.lemmas.Grind.{common_steps}
use Rattle.gql_collect.proofs.PlainFields.{plain_from}
use Rattle.gql_collect.proofs.PlainGroups.{plain_groups}
use Rattle.gql_collect.proofs.plain.is_plain.Goals as goal

pub returns-then-set-le-FEW : goal.returns-then-set-le-FEW
returns-then-set-le-FEW c = record {
  plain = grind (arith, common_steps, c.are_plain.ensures, c.if-set-le-FEW.true);
  groups = λ h g t. plain_groups c.args.set.now.file.now g t c.args.set.now.selections.now
      (plain_from c.args.set.now.selections.now (sym c.are_plain.ensures ∙ h));
}
