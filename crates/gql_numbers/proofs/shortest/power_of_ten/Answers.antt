use Rattle.std.proofs.Common.{arith}
use Rattle.gql_numbers.proofs.OfRounding.{ten_fits}
use Rattle.gql_numbers.proofs.shortest.power_of_ten.Goals as goal

pub overflow_mul-power : goal.overflow_mul-power
overflow_mul-power c = record { fits = omega (arith, c.loop.invariant, ten_fits c.loop.counter (omega (arith, c.loop-test.true, c.requires))) }
