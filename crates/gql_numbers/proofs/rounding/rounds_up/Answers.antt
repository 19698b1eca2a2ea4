use Rattle.std.proofs.Common.{◌≡◌, arith, ap, ◌∙◌, ◌+◌, sym, not, false, true, if◌then◌else◌, rules}
use Rattle.gql_numbers.proofs.OfRounding.{above_half, by_highest, half}
use Rattle.gql_numbers.proofs.rounding.rounds_up.Goals as goal

pub returns-then-not-is_zero : goal.returns-then-not-is_zero
returns-then-not-is_zero c =
    let some : c.is_zero.result ≡ false = search rules in
    ap (λ t. c.args.number + (if not t then 1 else 0)) some
    ∙ above_half c.args.cut.now c.args.number c.requires.below (omega (arith, c.in-len1-up.len_at_least)) (search rules) (c.is_zero.ensures.some some)

pub returns-else-not-is_zero : goal.returns-else-not-is_zero
returns-else-not-is_zero c =
    let none : c.is_zero.result ≡ true = search rules in
    half c.args.cut.now c.args.number c.requires.below (omega (arith, c.in-len1-up.len_at_least)) (search rules) (c.is_zero.ensures.none none)

pub returns-else-highest-eq5 : goal.returns-else-highest-eq5
returns-else-highest-eq5 c = by_highest c.args.cut.now c.args.number c.requires.below (omega (arith, c.in-len1-up.len_at_least)) c.if-highest-eq5.false
