use Rattle.std.proofs.Common.{◌∙◌, sym}
use Rattle.gql_reads.proofs.Answered.{found_keys, found_right}
use Rattle.gql_reads.proofs.asking.ask.Goals as goal

pub returns-in-Some-clause-answer : goal.returns-in-Some-clause-answer
returns-in-Some-clause-answer g c = found_right (g.W.World.facts c.args.world.now) c.args.key c.in-Some.fact c.args.answers.now.entries
    (sym c.in_ok-fact.ensures ∙ c.in-Some.is) c.requires.right

pub returns-in-Some-clause-asked : goal.returns-in-Some-clause-asked
returns-in-Some-clause-asked g c = found_keys (g.W.World.facts c.args.world.now) c.args.key c.in-Some.fact c.args.answers.now.entries
    (sym c.in_ok-fact.ensures ∙ c.in-Some.is)
