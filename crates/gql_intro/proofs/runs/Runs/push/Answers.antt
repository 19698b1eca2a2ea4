use Rattle.std.proofs.Common.{◌≡◌, ◌+◌, length, ap, arith, rules}
use Rattle.std.proofs.Math.ListN.{length-append}
use Rattle.gql_intro.specs.Runs.{names_of}
use Rattle.gql_intro.specs.declared.runs.Run.{Run}
use Rattle.gql_intro.proofs.Counting.{counted_more, names_more}
use Rattle.gql_intro.proofs.runs.Runs.push.Goals as goal

pub invariant_of-self-2 : goal.invariant_of-self-2
invariant_of-self-2 c =
    let runs = c.self.inside.runs.items in
    let count : c.self.inside.count ≡ length (names_of runs) = c.self.invariant.0 in
    let end : c.in-Some.end ≡ c.self.inside.count + length c.args.names = search rules in
    let new : Run = record { names = c.args.names; end = c.in-Some.end } in
    let sum : c.in-Some.end ≡ 0 + length (names_of runs) + length c.args.names = omega (arith, count, end) in
    rw c.in_ok-push.ensures.items (omega (arith, sum, ap length (names_more runs new), length-append (names_of runs) c.args.names), counted_more 0 runs new c.self.invariant.1 sum)
