use Rattle.std.proofs.Common.{subst}
use Rattle.std.proofs.lemmas.List.{take_all}
use Rattle.gql_iface_rules.proofs.S19Gaps.{Gaps, gaps_more, gaps_all, gaps_none}
use Rattle.gql_iface_rules.proofs.s19_ranges.add_gaps.Goals as goal

pub loop-number-init : goal.loop-number-init
loop-number-init c = gaps_none c.args.numbers.now c.args.gaps.now.items

pub loop-number-preserved : goal.loop-number-preserved
loop-number-preserved c = gaps_more c.args.numbers.now c.args.gaps.now.items c.args.given.now c.requires c.loop-number.number-index c.loop-number-test.true c.loop-number.gaps.items c.loop-number.start c.loop-number.invariant
    c.add_gap.new.gaps.items _ c.in_ok-start.ensures.gaps c.in_ok-start.ensures.start

pub returns : goal.returns
returns c = gaps_all c.args.numbers.now c.args.gaps.now.items c.args.given.now c.loop-number.gaps.items c.push.new.self.items c.loop-number.start
    (subst (λ xs. Gaps c.args.numbers.now c.args.gaps.now.items xs c.loop-number.gaps.items c.loop-number.start) (take_all c.loop-number.number-index c.args.given.now c.loop-number-test.false) c.loop-number.invariant)
    c.in_ok-push.ensures.items
