use Rattle.std.proofs.Common.{arith}
use Rattle.gql_numbers.proofs.Values.{others_fit}
use Rattle.gql_numbers.proofs.digits.+number_of.Goals as goal

pub overflow_mul-result : goal.overflow_mul-result
overflow_mul-result c d = record { fits = omega (arith, others_fit d.args.digits.now d.requires.below d.requires.few, d.number_of.ensures) }

pub overflow_add-result : goal.overflow_add-result
overflow_add-result c d = record { fits = omega (arith, others_fit d.args.digits.now d.requires.below d.requires.few, d.number_of.ensures) }
