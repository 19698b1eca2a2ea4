use Rattle.std.proofs.Common.{arith}
use Rattle.std.proofs.lemmas.Grind.{common_steps}
use Rattle.gql_faults.proofs.Counting.{few_repeated_names}
use Rattle.gql_faults.proofs.names.add_repeated_names.Goals as goal

pub returns-then-names-lt2 : goal.returns-then-names-lt2
returns-then-names-lt2 c =
    grind (arith, common_steps, few_repeated_names c.args.rule c.args.names.now c.if-names-lt2.true)
