use Rattle.std.proofs.Common.{◌≡◌, ◌∙◌, [], rules, subst, sym}
use Rattle.std.specs.Prelude.{Contains}
use Rattle.gql_iface_rules.proofs.Members.{nothing_in}
use Rattle.gql_iface_rules.proofs.KnownNames.{both}
use Rattle.gql_iface_rules.proofs.OnTypes.{on_types}
use Rattle.gql_iface_rules.proofs.Together.{sound, complete}
use Rattle.gql_iface_rules.proofs.rules.faults_by.Goals as goal

pub returns : goal.returns
returns c = λ enough.
    let s = c.args.schema.now in
    let one = on_types s c.args.checked.now.interfaces.now _ _ c.in_ok-faults.ensures c.in_ok-are_all_known.ensures.faults in
    let by17 = c.in_ok-inputs.ensures.faults enough.inputs in
    let by19 = c.in_ok-defaults.ensures.faults enough.defaults in
    let by26 = c.in_ok-directives.ensures.faults enough.directives in record {
      sound = λ f. sound s f _ _ _ _ (λ h. enough.only f ((one f).0 h), λ h. (one f).1 (enough.interfaces f h)) (by17 f) (by19 f) (by26 f);
      complete = λ f. complete s f _ _ _ _ (λ h. enough.only f ((one f).0 h), λ h. (one f).1 (enough.interfaces f h)) (by17 f) (by19 f) (by26 f);
      quiet = record {
        interfaces = λ is f h.
            let none : c.check_pairs.new.faults.items ≡ [] = search rules in
            nothing_in f (subst (λ fs. Contains fs f) none ((one f).1 (enough.interfaces f h)));
        names = λ is.
            let k = both c.args.checked.now.others_known c.in_ok-are_all_known.are_all_known (sym c.both-names.ensures ∙ is) in
            enough.names k.0 (c.in_ok-are_all_known.ensures.known.0 k.1);
        inputs = λ is. c.in_ok-inputs.ensures.none is enough.inputs;
        defaults = λ is. enough.defaults (c.in_ok-defaults.ensures.none is);
        directives = λ is. c.in_ok-directives.ensures.none is enough.directives;
      };
    }
