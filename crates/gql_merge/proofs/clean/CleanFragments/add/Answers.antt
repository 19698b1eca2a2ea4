use Rattle.std.proofs.Common.{◌≡◌, ◌∙◌, ap, bytes_eq, rules}
use Rattle.indexmap.specs.IndexSet.{insert_key}
use Rattle.gql_merge.proofs.CleanNames.{name_added, name_here}
use Rattle.gql_merge.proofs.clean.CleanFragments.add.Goals as goal

pub returns-in_ok-insert-clause-added : goal.returns-in_ok-insert-clause-added
returns-in_ok-insert-clause-added c =
    let put : c.insert.new.self.keys ≡ insert_key bytes_eq c.args.self.now c.args.name.now =
    c.in_ok-insert.ensures.keys ∙ ap (insert_key bytes_eq c.self.inside.names.keys) c.in_ok-copy.ensures ∙ ap (λ l. insert_key bytes_eq l c.args.name.now) (search rules) in
    name_added c.args.self.now c.insert.new.self.keys c.args.name.now put

pub returns-in_ok-insert-clause-here : goal.returns-in_ok-insert-clause-here
returns-in_ok-insert-clause-here c =
    let put : c.insert.new.self.keys ≡ insert_key bytes_eq c.args.self.now c.args.name.now =
    c.in_ok-insert.ensures.keys ∙ ap (insert_key bytes_eq c.self.inside.names.keys) c.in_ok-copy.ensures ∙ ap (λ l. insert_key bytes_eq l c.args.name.now) (search rules) in
    name_here c.args.self.now c.insert.new.self.keys c.args.name.now put
