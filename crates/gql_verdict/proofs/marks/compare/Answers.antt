use Rattle.std.specs.Prelude.{MatchBool}
use Rattle.std.proofs.Common.{◌∙◌, inr, subst, Bool, List}
use Rattle.gql_ast.specs.declared.definition.DefinitionId.{DefinitionId}
use Rattle.gql_reads.specs.Observations.{Hold, IsBroken, observed}
use Rattle.gql_reads.specs.declared.observation.Answer.{Answer}
use Rattle.gql_verdict.specs.Marks.{AreMarked, OnlyMarks}
use Rattle.gql_verdict.proofs.Marking.{broken_more}
use Rattle.gql_verdict.proofs.marks.compare.Goals as goal

pub returns-then-not-holds-clause-broken : goal.returns-then-not-holds-clause-broken
returns-then-not-holds-clause-broken g c =
    broken_more (g.W.World.facts c.args.world.now) c.args.slots.now c.args.index.now c.requires.shelved c.args.marks.now c.mark_readers.new.marks c.args.entry.now c.requires.entry
    (subst (λ (a : Answer). IsBroken (g.W.World.facts c.args.world.now) (observed a)) (c.get.ensures ∙ c.answer.ensures)
    (subst (λ (b : Bool). MatchBool b (Hold (g.W.World.facts c.args.world.now) (observed c.get.result.now)) (IsBroken (g.W.World.facts c.args.world.now) (observed c.get.result.now))) c.if-not-holds.true c.in_ok-holds.ensures.answer))
    c.requires.broken c.mark_readers.ensures.long
    (subst (λ (ids : List DefinitionId). OnlyMarks c.args.slots.now c.args.marks.now c.mark_readers.new.marks ids) c.readers.ensures c.mark_readers.ensures.only)

pub returns-then-not-holds-clause-compared : goal.returns-then-not-holds-clause-compared
returns-then-not-holds-clause-compared g c = inr (subst (λ (ids : List DefinitionId). AreMarked c.args.slots.now c.mark_readers.new.marks ids) c.readers.ensures c.mark_readers.ensures.marked)
