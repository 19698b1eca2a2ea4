use Rattle.std.proofs.Common.{sym, subst, arith}
use Rattle.std.specs.List.{All}
use Rattle.std.proofs.lemmas.List.{take_all}
use Rattle.gql_iface_rules.proofs.S19Plain.{all_more}
use Rattle.gql_iface_rules.specs.S19Plain.{NeedsNone, TypeNeedsNone}
use Rattle.gql_iface_rules.proofs.s19_plain.may_types_need.Goals as goal

pub loop-of_type-preserved : goal.loop-of_type-preserved
loop-of_type-preserved c = all_more TypeNeedsNone c.args.types.now c.loop-of_type.of_type-index c.of_type-item.result c.loop-of_type-test.true (sym c.of_type-item.is)
    c.loop-of_type.invariant (subst TypeNeedsNone c.get.ensures (subst (λ xs. All NeedsNone xs) c.as_slice.ensures (c.may_any_need.ensures c.if-may_any_need.false)))

pub returns : goal.returns
returns c = λ e. subst (λ xs. All TypeNeedsNone xs)
    (take_all c.loop-of_type.of_type-index c.args.types.now (omega (arith, c.loop-of_type-test.false))) c.loop-of_type.invariant
