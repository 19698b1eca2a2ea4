use Rattle.std.proofs.Common.{reverse, sym, ap, ◌∙◌, rules}
use Rattle.serde_json.specs.View.{view}
use Rattle.gql_coerce.specs.Copies.{copied_by, within_frames}
use Rattle.gql_coerce.proofs.Copying.{part_entered, part_copied}
use Rattle.gql_coerce.proofs.copies.copy_of.Goals.{in-Within+in_ok-push-in-Within+in_ok-step-in-Within, in-Copied+in-Some+in_ok-step-in-Some}
use Rattle.gql_coerce.proofs.copies.copy_of.Goals as goal

pub steps-preserved : goal.steps-preserved
steps-preserved c = elim c.match-step.branch [
  | in-Within+in_ok-push-in-Within+in_ok-step-in-Within w ↦
      part_entered (view c.args.value.now) c.steps.stack.items c.match-step.stack.items w.in-Within.frame (view w.in-Within.part.now) (copied_by c.match-step.step)
      (c.steps.invariant ∙ ap (λ s. within_frames (reverse c.steps.stack.items) (copied_by s)) w.in-Within.is) (search rules)
      (w.in_ok-step-in-Within.ensures ∙ ap copied_by (sym w.step-is))
  | in-Copied+in-Some+in_ok-step-in-Some w ↦
      part_copied (view c.args.value.now) c.steps.stack.items c.match-step.stack.items w.in-Some.frame (view w.in-Copied.copy) (copied_by c.match-step.step)
      (c.steps.invariant ∙ ap (λ s. within_frames (reverse c.steps.stack.items) (copied_by s)) w.in-Copied.is) (search rules)
      (w.in_ok-step-in-Some.ensures ∙ ap copied_by (sym w.step-is))
]
