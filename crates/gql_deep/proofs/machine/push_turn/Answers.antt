use Rattle.std.proofs.Common.{rules}
use Rattle.gql_deep.proofs.Holes.{push_ended, push_within}
use Rattle.gql_deep.proofs.machine.push_turn.Goals as goal

pub returns-in-Ended-clause-does : goal.returns-in-Ended-clause-does
returns-in-Ended-clause-does c = λ g t whole start inner began now inside turns.
    push_ended g t c.args.stack.now.items c.in-Ended.ended c.args.turn inner began now whole start c.in-Ended.is inside turns

pub returns-in_ok-push-in-Within-clause-does : goal.returns-in_ok-push-in-Within-clause-does
returns-in_ok-push-in-Within-clause-does c = λ g t whole start inner began now inside turns.
    push_within g t c.args.stack.now.items c.push.new.self.items c.in-Within.frame c.in-Within.group c.args.turn inner began now whole start c.in-Within.is (search rules) inside turns
