use Rattle.std.proofs.Common.{List, Contains, subst}
use Rattle.gql_clashes.specs.declared.search.Item.{Item}
use Rattle.gql_clashes.specs.Numbered.{IsClashPair, Lists, nodes_of}
use Rattle.gql_clashes.specs.PairsOf.{SeedsAmong}
use Rattle.gql_clashes.proofs.NeededPairs.{needed_inside, needed_lists}
use Rattle.gql_clashes.proofs.needed.clashes_over_clean.Goals as goal

pub clashes_among-requires-clause-inside : goal.clashes_among-requires-clause-inside
clashes_among-requires-clause-inside c = λ x h. needed_inside c.args.sets.now c.requires.whole c.args.bodies.now c.in_ok-pairs.pairs.items c.requires.bodies c.in_ok-pairs.ensures x (subst (λ (l : List Item). Contains l x) c.deref.ensures.value h)

pub returns : goal.returns
returns c = needed_lists c.args.sets.now c.args.bodies.now c.in_ok-pairs.pairs.items c.in_ok-pairs.ensures c.requires.clean c.in_ok-found.found.items
    (subst (λ (l : List Item). Lists c.in_ok-found.found.items (IsClashPair c.args.sets.now (SeedsAmong (nodes_of c.args.sets.now) l))) c.deref.ensures.value c.in_ok-found.ensures)
