use Rattle.std.proofs.Common.{◌≡◌, ◌∙◌, ap, bytes_eq, rules}
use Rattle.indexmap.specs.IndexSet.{insert_key}
use Rattle.gql_usage.proofs.Answering.{more_one}
use Rattle.gql_usage.proofs.answered.Answered.add.Goals as goal

pub returns : goal.returns
returns c =
    let put : c.insert.new.self.keys ≡ insert_key bytes_eq c.args.self.now c.args.name.now =
    c.in_ok-insert.ensures.keys ∙ ap (insert_key bytes_eq c.self.inside.names.keys) c.in_ok-copy.ensures ∙ ap (λ l. insert_key bytes_eq l c.args.name.now) (search rules) in
    more_one c.args.self.now c.insert.new.self.keys c.args.name.now put
