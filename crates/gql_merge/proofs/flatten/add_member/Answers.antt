use Rattle.std.proofs.Common.{Some, bytes_eq}
use Rattle.std.specs.HashMap as hash
use Rattle.std.proofs.lemmas.Map.Text.{hash_map_updates_str}
use Rattle.gql_merge.proofs.Indexing.{member_from}
use Rattle.gql_merge.proofs.flatten.add_member.Goals as goal

pub returns-clause-added : goal.returns-clause-added
returns-clause-added g c =
    member_from (g.W.World.facts c.args.world.now) c.args.member.now c.get-fragment.result.now c.args.sets.now.items c.add_fragment.new.sets.items
    (λ ds. hash.get_by (λ k. bytes_eq ds k.now) c.args.numbers.now) (λ ds. hash.get_by (λ k. bytes_eq ds k.now) c.insert.new.self)
    c.as_str.result.now c.in_ok-number.number
    c.get-fragment.ensures c.in_ok-number.ensures.added c.as_str.ensures
    (hash_map_updates_str c.as_str.result.now c.args.numbers.now c.insert.new.self (Some c.in_ok-number.number) c.in_ok-insert.ensures.updates)
