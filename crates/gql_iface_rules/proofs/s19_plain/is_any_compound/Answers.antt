use Rattle.std.proofs.Common.{sym, subst, arith}
use Rattle.std.specs.List.{All}
use Rattle.std.proofs.lemmas.List.{take_all}
use Rattle.gql_iface_rules.proofs.S19Plain.{all_more}
use Rattle.gql_iface_rules.specs.S19Plain.{HoldsNone}
use Rattle.gql_iface_rules.proofs.s19_plain.is_any_compound.Goals as goal

pub loop-value-preserved : goal.loop-value-preserved
loop-value-preserved c = all_more HoldsNone c.args.values.now c.loop-value.value-index c.value-item.result c.loop-value-test.true (sym c.value-item.is)
    c.loop-value.invariant (c.is_compound.ensures c.if-is_compound.false)

pub returns : goal.returns
returns c = λ e. subst (λ xs. All HoldsNone xs)
    (take_all c.loop-value.value-index c.args.values.now (omega (arith, c.loop-value-test.false))) c.loop-value.invariant
