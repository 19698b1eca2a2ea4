use Rattle.std.proofs.Common.{◌∙◌, ap, bytes_eq, option_and_then, slice_get}
use Rattle.gql_types.proofs.Places.{found_there}
use Rattle.gql_types.proofs.named_list.thing_placed.Goals as goal

pub returns-in-Some : goal.returns-in-Some
returns-in-Some g c =
    c.thing_at.ensures ∙ ap (λ o. option_and_then (λ i. slice_get c.args.things.now i) o) c.in-Some.ensures
    ∙ found_there (λ x. bytes_eq c.args.name.now (g.T.HasName.name x)) c.args.things.now

pub returns-in-None : goal.returns-in-None
returns-in-None g c =
    ap (λ o. option_and_then (λ i. slice_get c.args.things.now i) o) c.in-None.ensures
    ∙ found_there (λ x. bytes_eq c.args.name.now (g.T.HasName.name x)) c.args.things.now
