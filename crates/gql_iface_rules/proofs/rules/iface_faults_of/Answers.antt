use Rattle.std.proofs.Common.{subst, sym}
use Rattle.std.specs.List.{All}
use Rattle.gql_iface_rules.specs.KnownNames.{AsksOfKnown}
use Rattle.gql_iface_rules.specs.Quiet.{IsFaultOn}
use Rattle.gql_iface_rules.specs.S19Plain.{TypeNeedsNone}
use Rattle.gql_iface_rules.specs.S26Leads.{LeadsNowhere, directive_leads}
use Rattle.gql_iface_rules.proofs.rules.iface_faults_of.Goals as goal

pub returns : goal.returns
returns c =
    let s = c.args.schema.now in
    let all = c.types-all.ensures in
    c.in_ok-found.ensures (record {
      interfaces = λ f h. subst (λ ts. IsFaultOn s ts f) (sym all) h;
      only = λ f h. subst (λ ts. IsFaultOn s ts f) all h;
      names = λ known h. subst (λ ts. All (AsksOfKnown s) ts) all h;
      inputs = λ is. absurd (cc is);
      defaults = λ h. subst (λ ts. All TypeNeedsNone ts) all h;
      directives = λ h. subst (λ ts. All (LeadsNowhere (directive_leads s)) ts) all h;
    })
