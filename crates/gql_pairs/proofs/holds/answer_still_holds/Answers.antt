use Rattle.std.proofs.Common.{◌≡◌, false, rules}
use Rattle.gql_reads.specs.Observations.{observed}
use Rattle.gql_pairs.proofs.Doubting.{undoubted_holds}
use Rattle.gql_pairs.proofs.holds.answer_still_holds.Goals as goal

pub returns-then-not-is_of_answer-clause-answer : goal.returns-then-not-is_of_answer-clause-answer
returns-then-not-is_of_answer-clause-answer g c =
    let no : c.is_of_answer.result ≡ false = search rules in
    undoubted_holds (g.W.World.facts c.args.world.now) c.args.doubt.now (observed c.args.answer.now) c.requires (c.is_of_answer.ensures no)
