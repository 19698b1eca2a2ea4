use Rattle.std.proofs.Common.{sym, ap, subst, ◌∙◌}
use Rattle.gql_coerce.specs.Frames.{Holds, Inside, frame_of, frames_of, focus_at, step_at}
use Rattle.gql_coerce.specs.Outcomes.{said}
use Rattle.gql_coerce.proofs.Walking.{frames_more, goes_within, answers}
use Rattle.gql_coerce.proofs.walk.take_step.Goals as goal

pub returns-in_ok-give_up-in-Within : goal.returns-in_ok-give_up-in-Within
returns-in_ok-give_up-in-Within c = λ s whole before. subst (λ fs. Holds s whole fs (λ n. focus_at n s c.in-Within.focus))
    (sym (ap frames_of c.in_ok-push-in-Within.ensures.items ∙ frames_more c.args.stack.now.items c.in-Within.frame))
    (goes_within s whole (frames_of c.args.stack.now.items) (frame_of c.in-Within.frame) (λ n. focus_at n s c.in-Within.focus)
    (subst (λ step. Inside s whole (frames_of c.args.stack.now.items) (λ n. step_at n s step)) c.in-Within.is before))

pub returns-in-Answer : goal.returns-in-Answer
returns-in-Answer c = λ s whole before. answers s whole (frames_of c.args.stack.now.items) (said c.in-Answer.coerced)
    (subst (λ step. Inside s whole (frames_of c.args.stack.now.items) (λ n. step_at n s step)) c.in-Answer.is before)
