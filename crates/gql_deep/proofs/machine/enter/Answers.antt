use Rattle.std.proofs.Common.{subst, arith}
use Rattle.gql_steps.specs.Objects.{basis}
use Rattle.gql_steps.specs.Parts.{plain}
use Rattle.gql_steps.specs.States.{Follows}
use Rattle.gql_deep.proofs.Entering.{turn_later}
use Rattle.gql_deep.proofs.machine.enter.Goals as goal

pub returns-clause-does : goal.returns-clause-does
returns-clause-does c = λ whole enters. c.run_group.ensures.does whole c.args.run.now
    (enters c.write_byte.new.run (subst (λ l. Follows (plain l) c.args.run.now c.write_byte.new.run) c.opening.ensures c.in_ok-write_byte.ensures.follows))

pub returns-clause-keeps : goal.returns-clause-keeps
returns-clause-keeps c = turn_later (basis c.args.setting.now) c.args.table.now c.run_group.new.table c.run_group.result c.args.run.now c.write_byte.new.run c.run_group.new.run
    (omega (arith, c.in_ok-write_byte.ensures.follows.left)) c.run_group.ensures.keeps
