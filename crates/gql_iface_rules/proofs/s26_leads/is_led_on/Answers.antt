use Rattle.std.proofs.Common.{ap, sym, ◌∙◌, find, bytes_eq, is_some}
use Rattle.gql_iface_rules.specs.S26DirectiveCycles.{without_sign}
use Rattle.gql_iface_rules.proofs.S26Leads.{not_found}
use Rattle.gql_iface_rules.proofs.s26_leads.is_led_on.Goals as goal

pub returns-then-not-is_listed : goal.returns-then-not-is_listed
returns-then-not-is_listed c = λ e. record {
  unsigned = sym (c.has_sign.ensures ∙ ap (λ n. is_some (without_sign n)) c.name.ensures) ∙ c.if-has_sign.false;
  ends = λ h. absurd (not_found c.args.of_type.now.definition.node.name.text c.args.names.now
      (sym (c.is_listed.ensures ∙ ap (λ n. is_some (find (λ m. bytes_eq n m) c.args.names.now)) c.name-2.ensures) ∙ c.if-not-is_listed.true) h);
}
