use Rattle.std.proofs.Common.{sym, subst, arith}
use Rattle.gql_deep.specs.Frames.{At}
use Rattle.gql_steps.specs.Objects.{basis}
use Rattle.gql_deep.proofs.Entering.{turn_later}
use Rattle.gql_deep.proofs.Running.{turns_stopped}
use Rattle.gql_deep.proofs.machine.resume.Goals as goal

pub returns-clause-does : goal.returns-clause-does
returns-clause-does c = λ inner began whole start s done. c.run_group.ensures.does whole start
    (subst (λ i. At (basis c.args.setting.now) c.args.table.now i whole start c.close.new.run) (sym c.and.ensures)
    (s.goes_on c.in_ok-ended.ended c.close.new.run (c.in_ok-ended.ensures.does inner began s.part s.before s.hole done)))

pub returns-in_err-ended-clause-does : goal.returns-in_err-ended-clause-does
returns-in_err-ended-clause-does c = λ inner began whole start s done.
    turns_stopped (basis c.args.setting.now) c.args.table.now whole start c.from_residual.result c.in_err-ended.field-0.0 c.close.new.run c.from_residual.ensures.1
    (λ heavy. s.stops (c.in_err-ended.ensures.does inner began s.part s.before s.hole done heavy))

pub returns-clause-keeps : goal.returns-clause-keeps
returns-clause-keeps c = turn_later (basis c.args.setting.now) c.args.table.now c.run_group.new.table c.run_group.result c.args.run.now c.close.new.run c.run_group.new.run
    (omega (arith, c.in_ok-ended.ensures.left)) c.run_group.ensures.keeps
