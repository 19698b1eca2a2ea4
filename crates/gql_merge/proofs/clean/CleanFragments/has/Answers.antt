use Rattle.std.proofs.Common.{◌≡◌, ◌∙◌, bytes_eq, rules, sym}
use Rattle.std.specs.List.{list_any}
use Rattle.gql_merge.proofs.CleanNames.{name_found, name_there}
use Rattle.gql_merge.proofs.clean.CleanFragments.has.Goals as goal

pub returns-clause-yes : goal.returns-clause-yes
returns-clause-yes c = λ t. let e : c.contains.result ≡ list_any (bytes_eq c.args.name.now) c.args.self.now = search rules in name_there c.args.self.now c.args.name.now (sym e ∙ t)

pub returns-clause-no : goal.returns-clause-no
returns-clause-no c = λ h. let e : c.contains.result ≡ list_any (bytes_eq c.args.name.now) c.args.self.now = search rules in e ∙ name_found c.args.self.now c.args.name.now h
