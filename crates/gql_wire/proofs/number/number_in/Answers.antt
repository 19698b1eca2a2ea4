use Rattle.std.proofs.Common.{arith, ◌≤◌, ◌^◌}
use Rattle.std.proofs.Math.Nat.{pow-le-pow_right}
use Rattle.gql_wire.proofs.number.number_in.Goals as goal

pub overflow_mul-number : goal.overflow_mul-number
overflow_mul-number c =
    let short : c.loop-byte.byte-index ≤ 17 = omega arith in
    let less : 10 ^ c.loop-byte.byte-index ≤ 10 ^ 17 = pow-le-pow_right (omega arith) short in
    omega arith

pub overflow_add-number : goal.overflow_add-number
overflow_add-number c =
    let short : c.loop-byte.byte-index ≤ 17 = omega arith in
    let less : 10 ^ c.loop-byte.byte-index ≤ 10 ^ 17 = pow-le-pow_right (omega arith) short in
    omega (arith, c.from.ensures)
