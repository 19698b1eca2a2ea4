use Rattle.std.proofs.Common.{◌≤◌, ◌<◌, ◌^◌, arith, length, rules}
use Rattle.gql_page.specs.Cut.{left_text}
use Rattle.gql_page.proofs.Short.{short_left}
use Rattle.gql_page.proofs.cut.write_left.Goals as goal

pub returns-clause-short : goal.returns-clause-short
returns-clause-short c =
    let f : c.fault_count.result < 2 ^ 64 = search (rules, c.fault_count.type_inv) in
    let o : c.operation_count.result < 2 ^ 64 = search (rules, c.operation_count.type_inv) in
    let short : length (left_text c.args.parts.now) ≤ 100 =
    short_left c.args.parts.now (omega (arith, f, c.fault_count.ensures)) (omega (arith, o, c.operation_count.ensures)) in
    search (rules, short)
