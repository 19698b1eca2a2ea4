use Rattle.std.proofs.Common.{Some, bytes_eq, ◌∙◌, sym}
use Rattle.std.specs.HashMap as hash
use Rattle.std.proofs.lemmas.Map.Text.{hash_map_updates_str}
use Rattle.gql_merge.proofs.Places.{known_added, new_added}
use Rattle.gql_merge.proofs.columns.number_of.Goals as goal

pub returns-in-Some : goal.returns-in-Some
returns-in-Some c =
    known_added (λ q. hash.get_by (λ k. bytes_eq q k.now) c.args.places.now) c.args.text.now c.args.place c.in-Some.number
    (sym c.in-Some.is ∙ c.known_number.ensures)

pub returns-in_ok-insert-in-None : goal.returns-in_ok-insert-in-None
returns-in_ok-insert-in-None c =
    new_added (λ q. hash.get_by (λ k. bytes_eq q k.now) c.args.places.now) (λ q. hash.get_by (λ k. bytes_eq q k.now) c.insert.new.self)
    c.args.text.now c.args.place (sym c.known_number.ensures ∙ c.in-None.is)
    (hash_map_updates_str c.args.text.now c.args.places.now c.insert.new.self (Some c.args.place) c.in_ok-insert-in-None.ensures.updates)
