use Rattle.std.proofs.Common.{◌≡◌, ◌++◌, ◌∷◌, [], Vec, Global, reverse, sym, ap, subst, rules, arith}
use Rattle.std.specs.List.{All}
use Rattle.gql_deep.specs.Frames.{FitsFrame, FitsReached}
use Rattle.gql_steps.specs.Objects.{basis}
use Rattle.gql_deep.specs.declared.frames.Frame.{Frame}
use Rattle.gql_steps.proofs.Doing.{stopped}
use Rattle.gql_steps.proofs.Entries.{grows_same, grows_twice}
use Rattle.gql_deep.proofs.Holes.{Turned, all_init, enter_inside, holds_end, holds_first, resume_inside, turned_at, turned_entered, turned_resumed, waits_stop}
use Rattle.gql_deep.proofs.machine.finish.Goals as goal
use Rattle.gql_deep.proofs.machine.finish.Goals.{in-Inner+in_ok-turn-in-Inner, in-Ended+in-Some+in_ok-turn-in-Some}

pub steps-init : goal.steps-init
steps-init c =
    let g = basis c.args.setting.now in
    record {
      right = c.requires.right;
      grows = grows_same c.args.table.now;
      left = omega arith;
      fits = subst (All (FitsFrame c.args.table.now)) (sym c.new-stack.ensures.items) (λ n d w. absurd (omega (arith, w)));
      reached = c.requires.fits;
      holds = λ whole start h. holds_first g c.args.table.now c.new-stack.result.items c.args.reached c.args.run.now whole start c.new-stack.ensures.items h;
    }

pub enter-requires-clause-right : goal.enter-requires-clause-right
enter-requires-clause-right c = c.steps.invariant.right

pub enter-requires-clause-fits : goal.enter-requires-clause-fits
enter-requires-clause-fits c = subst (FitsReached c.steps.table) c.in-Inner.is c.steps.invariant.reached

pub returns-in_err-turn-in-Inner-clause-does : goal.returns-in_err-turn-in-Inner-clause-does
returns-in_err-turn-in-Inner-clause-does c = λ p start h.
    let g = basis c.args.setting.now in
    let w = enter_inside g c.steps.table c.steps.table (grows_same c.steps.table) c.steps.stack.items c.steps.reached c.in-Inner.group c.steps.run p start c.in-Inner.is (c.steps.invariant.holds p start h) in
    stopped p c.from_residual.result c.in_err-turn-in-Inner.field-0.0 start c.enter.new.run c.from_residual.ensures.1
    (λ heavy. waits_stop g c.steps.table (reverse c.steps.stack.items) w.0 c.steps.run p start w.2 (c.in_err-turn-in-Inner.ensures.does w.0 w.1 heavy))

pub resume-requires-clause-right : goal.resume-requires-clause-right
resume-requires-clause-right c = c.steps.invariant.right

pub resume-requires-clause-fits : goal.resume-requires-clause-fits
resume-requires-clause-fits c =
    let popped : c.steps.stack.items ≡ c.pop.new.self.items ++ c.in-Some.frame ∷ [] = search rules in
    let a = all_init c.steps.table c.pop.new.self.items c.in-Some.frame (subst (All (FitsFrame c.steps.table)) popped c.steps.invariant.fits) in
    a.1

pub returns-in_err-turn-in-Some-clause-does : goal.returns-in_err-turn-in-Some-clause-does
returns-in_err-turn-in-Some-clause-does c = λ p start h.
    let g = basis c.args.setting.now in
    let popped : c.steps.stack.items ≡ c.pop.new.self.items ++ c.in-Some.frame ∷ [] = search rules in
    let w = resume_inside g c.steps.table c.steps.table (grows_same c.steps.table) c.pop.new.self.items c.steps.stack.items c.in-Some.frame c.steps.reached c.in-Ended.ended c.steps.run p start c.in-Ended.is popped (c.steps.invariant.holds p start h) in
    stopped p c.from_residual-in_err-turn-in-Some.result c.in_err-turn-in-Some.field-0.0 start c.resume.new.run c.from_residual-in_err-turn-in-Some.ensures.1
    (λ heavy. waits_stop g c.steps.table (reverse c.pop.new.self.items) w.2 w.3 p start w.6 (c.in_err-turn-in-Some.ensures.does w.0 w.1 w.2 w.3 w.4 w.5 heavy))

pub returns-in-None-clause-keeps : goal.returns-in-None-clause-keeps
returns-in-None-clause-keeps c = let inv = c.steps.invariant in record { right = inv.right; grows = inv.grows; left = inv.left }

pub returns-in-None-clause-does : goal.returns-in-None-clause-does
returns-in-None-clause-does c = λ p start h. holds_end (basis c.args.setting.now) c.steps.table c.steps.stack.items c.steps.reached c.in-Ended.ended c.steps.run
    p start (search rules) c.in-Ended.is (c.steps.invariant.holds p start h)

turned : (c : goal.In_ok-reached) → Turned (basis c.args.setting.now) c.steps.table c.steps.stack.items c.steps.reached c.steps.run c.match-reached.table c.match-reached.stack.items c.match-reached.turn c.match-reached.run
turned c =
    let g = basis c.args.setting.now in
    let inv = c.steps.invariant in
    elim c.match-reached.branch [
      | in-Inner+in_ok-turn-in-Inner w ↦ turned_at g c.steps.table c.steps.stack.items c.steps.reached c.steps.run w.enter.new.table c.match-reached.table c.steps.stack.items c.match-reached.stack.items
          w.in_ok-turn-in-Inner.turn c.match-reached.turn w.enter.new.run c.match-reached.run w.table-is (ap (λ (v : Vec Frame Global). v.items) w.stack-is) w.turn-is w.run-is
          (turned_entered g c.steps.table w.enter.new.table c.steps.stack.items c.steps.reached c.steps.run w.enter.new.run w.in_ok-turn-in-Inner.turn w.in_ok-turn-in-Inner.ensures.keeps
          w.in-Inner.group w.in-Inner.is inv.fits w.in_ok-turn-in-Inner.ensures.does)
      | in-Ended+in-Some+in_ok-turn-in-Some w ↦
          let popped : c.steps.stack.items ≡ w.pop.new.self.items ++ w.in-Some.frame ∷ [] = search rules in
          turned_at g c.steps.table c.steps.stack.items c.steps.reached c.steps.run w.resume.new.table c.match-reached.table w.pop.new.self.items c.match-reached.stack.items
          w.in_ok-turn-in-Some.turn c.match-reached.turn w.resume.new.run c.match-reached.run w.table-is (ap (λ (v : Vec Frame Global). v.items) w.stack-is) w.turn-is w.run-is
          (turned_resumed g c.steps.table w.resume.new.table w.pop.new.self.items c.steps.reached c.steps.run w.resume.new.run w.in_ok-turn-in-Some.turn w.in_ok-turn-in-Some.ensures.keeps
          c.steps.stack.items w.in-Some.frame w.in-Ended.ended w.in-Ended.is popped inv.fits w.in_ok-turn-in-Some.ensures.does)
    ]

pub steps-preserved : goal.steps-preserved
steps-preserved c =
    let g = basis c.args.setting.now in
    let inv = c.steps.invariant in
    let h = turned c in
    let pushed = c.in_ok-reached.ensures in
    let fit = pushed.fits c.match-reached.table h.frames h.fits in
    record {
      right = h.right;
      grows = grows_twice c.args.table.now c.steps.table c.match-reached.table inv.grows h.grows;
      left = omega (arith, inv.left, h.left);
      fits = fit.0;
      reached = fit.1;
      holds = λ whole start reaches.
          let w = h.holds whole start (inv.holds whole start reaches) in
          pushed.does g c.match-reached.table whole start w.0 w.1 c.match-reached.run w.2 w.3;
    }

pub steps-smaller : goal.steps-smaller
steps-smaller c = let h = turned c in omega (arith, h.left, h.steps, c.in_ok-reached.ensures.steps)
