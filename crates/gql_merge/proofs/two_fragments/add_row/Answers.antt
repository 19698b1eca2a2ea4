use Rattle.std.proofs.Common.{bytes_eq, sym}
use Rattle.std.specs.HashMap as hash
use Rattle.gql_merge.specs.BadPairs.{IsClashAt}
use Rattle.gql_merge.specs.declared.two_fragments.FragmentClash.{FragmentClash}
use Rattle.gql_merge.proofs.AmongFragments.{adds_all, adds_more}
use Rattle.gql_merge.proofs.two_fragments.add_row.Goals as goal

pub loop-second-preserved : goal.loop-second-preserved
loop-second-preserved c = adds_more (λ h (x : FragmentClash). IsClashAt c.args.numbered.now c.args.all.now (λ q. hash.get_by (λ k. bytes_eq q k.now) c.args.numbers.now) c.args.first.now h x)
    c.args.others.now c.loop-second.second-index c.second-item.result c.args.found.now.items c.loop-second.found.items c.add_two.new.found.items
    c.loop-second-test.true (sym c.second-item.is) c.loop-second.invariant c.in_ok-add_two.ensures

pub returns : goal.returns
returns c = adds_all (λ h (x : FragmentClash). IsClashAt c.args.numbered.now c.args.all.now (λ q. hash.get_by (λ k. bytes_eq q k.now) c.args.numbers.now) c.args.first.now h x)
    c.args.others.now c.loop-second.second-index c.args.found.now.items c.loop-second.found.items c.loop-second-test.false c.loop-second.invariant
