use Rattle.std.proofs.Common.{◌≡◌, ◌∙◌, ap, false, is_some, subst, sym}
use Rattle.std.specs.List.{All, list_any}
use Rattle.gql_iface_rules.specs.S26DirectiveCycles.{without_sign}
use Rattle.gql_iface_rules.specs.S26Leads.{LeadsNowhere}
use Rattle.gql_iface_rules.proofs.s26_leads.may_cycle.Goals as goal

pub returns-clause-unsigned : goal.returns-clause-unsigned
returns-clause-unsigned c = λ e. ap (λ ns. list_any (λ n. is_some (without_sign n)) ns) (sym (c.as_slice.ensures ∙ c.in_ok-names.ensures))
    ∙ sym c.any_has_sign.ensures ∙ c.if-any_has_sign.false

pub returns-clause-nowhere : goal.returns-clause-nowhere
returns-clause-nowhere c = λ e. subst (λ ns. All (LeadsNowhere ns) c.args.types.now) c.in_ok-names.ensures (c.in_ok-on.ensures e)
