use Rattle.std.proofs.Common.{◌∙◌, ap, bytes_eq, map}
use Rattle.std.specs.HashMap as hash
use Rattle.gql_merge.proofs.SpreadWalks.{are_spread_sets, whole}
use Rattle.gql_merge.specs.SpreadNames.{names_of}
use Rattle.gql_merge.proofs.spreading.spread_sets.Goals as goal

pub spread_by_each-requires-clause-whole : goal.spread_by_each-requires-clause-whole
spread_by_each-requires-clause-whole c =
    whole c.args.members.now (λ q. hash.get_by (λ k. bytes_eq q k.now) c.in_ok-places.places) c.in_ok-places.ensures _ c.new.ensures.items c.in_ok-own.ensures.fields c.in_ok-own.ensures.spreads

pub returns : goal.returns
returns c = λ facts names world lists.
    are_spread_sets c.args.members.now (λ q. hash.get_by (λ k. bytes_eq q k.now) c.in_ok-places.places) c.in_ok-places.ensures
    (record { fields = c.new.result; bodies = c.in_ok-own.own }) c.new.ensures.items c.in_ok-own.ensures.fields c.in_ok-own.ensures.spreads
    facts names world c.args.definition.now lists (map names_of c.as_slice.result.now) (ap (map names_of) c.as_slice.ensures.value ∙ c.in_ok-sets.ensures facts)
    c.in_ok-found.found.items c.in_ok-found.ensures
