use Rattle.std.proofs.Common.{◌≡◌, None, Some, ap, bytes_eq, find, rules, sym}
use Rattle.std.specs.Prelude.{is_some}
use Rattle.gql_pairs.proofs.doubt.is_one.Goals as goal

pub returns-in_default : goal.returns-in_default
returns-in_default c =
    let none : find (bytes_eq c.args.name.now) c.args.names.now ≡ None = search rules in
    sym (ap is_some none)

pub returns : goal.returns
returns c =
    let some : find (bytes_eq c.args.name.now) c.args.names.now ≡ Some c.in-Some._found.now = search rules in
    sym (ap is_some some)
