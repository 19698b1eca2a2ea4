use Rattle.std.proofs.Common.{map, subst, sym}
use Rattle.std.proofs.lemmas.List.{take_all}
use Rattle.gql_iface_rules.specs.S19Inputs.{object_value}
use Rattle.gql_iface_rules.specs.S19Ranges.{AreMissing}
use Rattle.gql_iface_rules.proofs.S19Gaps.{lack_more}
use Rattle.gql_iface_rules.proofs.s19_ranges.missing.Goals as goal

pub loop-at-preserved : goal.loop-at-preserved
loop-at-preserved c = lack_more object_value c.args.all.now c.loop-at.at-index c.at-item.result c.loop-at.ranges.items c.add_missing.new.ranges.items c.loop-at-test.true (sym c.at-item.is) c.loop-at.invariant c.in_ok-add_missing.ensures

pub returns : goal.returns
returns c = subst (λ xs. AreMissing (map object_value xs) c.loop-at.ranges.items) (take_all c.loop-at.at-index c.args.all.now c.loop-at-test.false) c.loop-at.invariant
