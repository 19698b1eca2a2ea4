use Rattle.std.proofs.Common.{[], arith, bytes_eq, refl, sym}
use Rattle.std.specs.HashMap as hash
use Rattle.gql_single_root.proofs.Taking.{takes_all, takes_first, takes_more}
use Rattle.gql_single_root.proofs.walk.add_all.Goals as goal

pub loop-selection-init : goal.loop-selection-init
loop-selection-init c = takes_first (λ q. hash.get_by (λ k. bytes_eq q k.now) c.args.places.now) c.args.file.now [] c.args.walk.now refl

pub loop-selection-preserved : goal.loop-selection-preserved
loop-selection-preserved c =
    takes_more (λ q. hash.get_by (λ k. bytes_eq q k.now) c.args.places.now) c.args.file.now c.args.found.now c.loop-selection.selection-index c.selection-item.result
    _ _ _ (omega (arith, c.loop-selection-test.true)) (sym c.selection-item.is) c.loop-selection.invariant c.in_ok-add_one.ensures

pub returns : goal.returns
returns c =
    takes_all (λ q. hash.get_by (λ k. bytes_eq q k.now) c.args.places.now) c.args.file.now c.args.found.now c.loop-selection.selection-index _ _
    (omega (arith, c.loop-selection-test.false)) c.loop-selection.invariant
