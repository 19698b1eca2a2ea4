use Rattle.std.proofs.Common.{List, subst, sym}
use Rattle.gql_pairs.specs.Groups.{KeptGroup}
use Rattle.gql_pairs.specs.Tables.{AllHold, KeepsHolding}
use Rattle.gql_verdict.specs.Definitions.{all_definitions}
use Rattle.gql_verdict.specs.Shelves.{HasDuePairs}
use Rattle.gql_verdict.proofs.shelf.Shelf.refresh.Goals as goal

pub returns-clause-current : goal.returns-clause-current
returns-clause-current g c = c.commit.ensures.current _ _ c.in_ok-prepared.ensures.planned

pub returns-clause-pairs : goal.returns-clause-pairs
returns-clause-pairs g c = subst (λ (l : List KeptGroup). AllHold (g.W.World.facts c.args.world.now) l) (sym c.commit.ensures.pairs) c.in_ok-prepared.ensures.planned.pairs

pub returns-clause-kept : goal.returns-clause-kept
returns-clause-kept g c = subst (λ (l : List KeptGroup). KeepsHolding (g.W.World.facts c.args.world.now) c.args.self.now.pairs l) (sym c.commit.ensures.pairs) c.in_ok-prepared.ensures.pairs

pub returns-clause-walked : goal.returns-clause-walked
returns-clause-walked g c = subst (λ (l : List KeptGroup). HasDuePairs (g.W.World.facts c.args.world.now) c.args.self.now.verdicts (all_definitions c.args.files.now.documents) l) (sym c.commit.ensures.pairs) c.in_ok-prepared.ensures.walked
