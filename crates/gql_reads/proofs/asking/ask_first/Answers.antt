use Rattle.std.proofs.Common.{◌∙◌}
use Rattle.gql_reads.proofs.Answered.{added_keys, added_right}
use Rattle.gql_reads.proofs.asking.ask_first.Goals as goal

pub returns-clause-right : goal.returns-clause-right
returns-clause-right g c = added_right (g.W.World.facts c.args.world.now) c.args.answers.now c.args.key c.in_ok-kept.kept c.insert.new.self.entries
    c.requires.absent c.in_ok-insert.ensures.entries (c.in_ok-kept.ensures ∙ c.in_ok-fact.ensures.answer) c.requires.right

pub returns-clause-asked : goal.returns-clause-asked
returns-clause-asked g c = added_keys (g.W.World.facts c.args.world.now) c.args.answers.now c.args.key c.in_ok-kept.kept c.insert.new.self.entries
    c.requires.absent c.in_ok-insert.ensures.entries
