use Rattle.std.proofs.Common.{arith}
use Rattle.std.proofs.lemmas.Grind.{common_steps}
use Rattle.gql_ast.specs.declared.rule.Rule.TheVariants as rule
use Rattle.gql_ast.specs.declared.type_system.InputValueDefinition.{InputValueDefinition}
use Rattle.gql_faults.proofs.Counting.{few_repeated}
use Rattle.gql_schema_rules.proofs.s08_duplicate_arguments.check_arguments.Goals as goal

pub returns-then-arguments-lt2 : goal.returns-then-arguments-lt2
returns-then-arguments-lt2 c = grind (
  arith,
  common_steps,
  few_repeated rule.S08
      (λ (a : InputValueDefinition). record { file = c.args.file.now; node = a.name }) c.args.arguments.now c.if-arguments-lt2.true,
)
