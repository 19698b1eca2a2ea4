use Rattle.std.proofs.Common.{sym, subst, arith}
use Rattle.std.specs.List.{All}
use Rattle.std.proofs.lemmas.List.{take_all}
use Rattle.gql_iface_rules.proofs.S19Plain.{all_more}
use Rattle.gql_iface_rules.specs.S26Leads.{LeadsNowhere}
use Rattle.gql_iface_rules.proofs.s26_leads.is_any_led_on.Goals as goal

pub loop-of_type-preserved : goal.loop-of_type-preserved
loop-of_type-preserved c = all_more (LeadsNowhere c.args.names.now) c.args.types.now c.loop-of_type.of_type-index c.of_type-item.result c.loop-of_type-test.true (sym c.of_type-item.is)
    c.loop-of_type.invariant (subst (LeadsNowhere c.args.names.now) c.get.ensures (c.in_ok-is_led_on.ensures c.if-branch.false))

pub returns : goal.returns
returns c = λ e. subst (λ ts. All (LeadsNowhere c.args.names.now) ts)
    (take_all c.loop-of_type.of_type-index c.args.types.now (omega (arith, c.loop-of_type-test.false))) c.loop-of_type.invariant
