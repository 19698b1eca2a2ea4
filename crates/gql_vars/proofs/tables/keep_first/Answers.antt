use Rattle.std.proofs.Common.{Some, bytes_eq, rules}
use Rattle.std.specs.HashMap as hash
use Rattle.std.proofs.lemmas.Map.Text.{hash_map_updates_str}
use Rattle.gql_vars.proofs.Lookups.{kept}
use Rattle.gql_vars.proofs.tables.keep_first.Goals as goal

pub returns-in_ok-insert : goal.returns-in_ok-insert
returns-in_ok-insert c =
    kept (λ ds. hash.get_by (λ k. bytes_eq ds k.now) c.args.first.now) (λ ds. hash.get_by (λ k. bytes_eq ds k.now) c.insert.new.self)
    c.as_str-name.result.now c.args.variable
    (hash_map_updates_str c.as_str-name.result.now c.args.first.now c.insert.new.self (Some c.args.variable) c.in_ok-insert.ensures.updates)
    (search rules) c.as_str-name.ensures
