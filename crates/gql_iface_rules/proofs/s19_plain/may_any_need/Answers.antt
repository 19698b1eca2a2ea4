use Rattle.std.proofs.Common.{sym, subst, arith}
use Rattle.std.specs.List.{All}
use Rattle.std.proofs.lemmas.List.{take_all}
use Rattle.gql_iface_rules.proofs.S19Plain.{all_more}
use Rattle.gql_iface_rules.specs.S19Plain.{NeedsNone}
use Rattle.gql_iface_rules.proofs.s19_plain.may_any_need.Goals as goal

pub loop-field-preserved : goal.loop-field-preserved
loop-field-preserved c = all_more NeedsNone c.args.fields.now c.loop-field.field-index c.field-item.result c.loop-field-test.true (sym c.field-item.is)
    c.loop-field.invariant (c.may_need.ensures c.if-may_need.false)

pub returns : goal.returns
returns c = λ e. subst (λ xs. All NeedsNone xs)
    (take_all c.loop-field.field-index c.args.fields.now (omega (arith, c.loop-field-test.false))) c.loop-field.invariant
