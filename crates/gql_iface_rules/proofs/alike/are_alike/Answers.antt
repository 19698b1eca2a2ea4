use Rattle.std.proofs.Common.{◌≡◌, ◌∙◌, rules, sym, subst, true, false}
use Rattle.gql_types.specs.Possible.{name_of}
use Rattle.gql_iface_rules.specs.Alike.{texts}
use Rattle.gql_iface_rules.proofs.AlikeTypes.{same_is}
use Rattle.gql_iface_rules.proofs.alike.are_alike.Goals as goal

pub returns : goal.returns
returns c = λ e.
    let t = c.args.of_type.now in
    let u = c.args.other.now in
    let name : name_of t ≡ name_of u = search rules in
    let interfaces : texts t.interfaces ≡ texts u.interfaces = search rules in
    let members : texts t.members ≡ texts u.members = search rules in record {
      name = name;
      kinds = same_is t.kind u.kind (sym c.is.ensures ∙ c.if-not-is.false);
      other = sym c.is-2.ensures ∙ c.if-is.false;
      interfaces = interfaces;
      members = members;
    }
