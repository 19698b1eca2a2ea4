use Rattle.std.proofs.Common.{bytes_eq, sym}
use Rattle.std.specs.HashMap as hash
use Rattle.gql_merge.specs.BadPairs.{IsClashInRow}
use Rattle.gql_merge.specs.declared.two_fragments.FragmentClash.{FragmentClash}
use Rattle.gql_merge.proofs.AmongFragments.{adds_all, adds_more}
use Rattle.gql_merge.proofs.two_fragments.add_rows.Goals as goal

pub loop-first-preserved : goal.loop-first-preserved
loop-first-preserved c = adds_more (λ g (x : FragmentClash). IsClashInRow c.args.numbered.now c.args.all.now (λ q. hash.get_by (λ k. bytes_eq q k.now) c.args.numbers.now) g c.args.others.now x)
    c.args.fragments.now c.loop-first.first-index c.first-item.result c.args.found.now.items c.loop-first.found.items c.add_row.new.found.items
    c.loop-first-test.true (sym c.first-item.is) c.loop-first.invariant c.in_ok-add_row.ensures

pub returns : goal.returns
returns c = adds_all (λ g (x : FragmentClash). IsClashInRow c.args.numbered.now c.args.all.now (λ q. hash.get_by (λ k. bytes_eq q k.now) c.args.numbers.now) g c.args.others.now x)
    c.args.fragments.now c.loop-first.first-index c.args.found.now.items c.loop-first.found.items c.loop-first-test.false c.loop-first.invariant
