use Rattle.std.proofs.Common.{ℕ, suc, option_map, ap, ◌∙◌, rules}
use Rattle.std.specs.Option.{option_copied}
use Rattle.gql_types.specs.Written.{written}
use Rattle.gql_coerce.specs.Coercion.{coerced}
use Rattle.gql_coerce.specs.Frames.{focus_at}
use Rattle.gql_coerce.specs.Parts.{input_of}
use Rattle.gql_coerce.proofs.Walking.{starts, by_parts, by_answer}
use Rattle.gql_coerce.proofs.walk.coerce.Goals.{in-List+in_ok-step-in-List, in-Object+in_ok-step-in-Object, in-Answer+in-Some+in_ok-step-in-Some}
use Rattle.gql_coerce.proofs.walk.coerce.Goals as goal

pub steps-init : goal.steps-init
steps-init c = starts c.args.schema.now (λ n. coerced n c.args.schema.now (input_of c.args.part) (option_map written (option_copied c.args.expected)))
    c.new-stack.result.items (λ n. focus_at n c.args.schema.now c.in_ok-focus.focus) (search rules) c.in_ok-focus.ensures

pub steps-preserved : goal.steps-preserved
steps-preserved c =
    let whole = λ (n : ℕ). coerced n c.args.schema.now (input_of c.args.part) (option_map written (option_copied c.args.expected)) in
    c.in_ok-focus-2.ensures c.args.schema.now whole (elim c.match-focus.branch [
      | in-List+in_ok-step-in-List w ↦ by_parts c.args.schema.now whole c.steps.stack.items c.match-focus.stack.items c.steps.focus w.in_ok-step-in-List.step c.match-focus.step c.steps.invariant (search rules)
          (λ n. ap (focus_at (suc (suc n)) c.args.schema.now) w.in-List.is ∙ w.in_ok-step-in-List.ensures n) (search rules)
      | in-Object+in_ok-step-in-Object w ↦ by_parts c.args.schema.now whole c.steps.stack.items c.match-focus.stack.items c.steps.focus w.in_ok-step-in-Object.step c.match-focus.step c.steps.invariant (search rules)
          (λ n. ap (focus_at (suc (suc n)) c.args.schema.now) w.in-Object.is ∙ w.in_ok-step-in-Object.ensures n) (search rules)
      | in-Answer+in-Some+in_ok-step-in-Some w ↦ by_answer c.args.schema.now whole c.steps.stack.items c.match-focus.stack.items c.steps.focus w.in_ok-step-in-Some.step c.match-focus.step c.steps.invariant (search rules)
          w.in-Answer.coerced w.in-Some.frame w.in-Answer.is w.in_ok-step-in-Some.ensures (search rules)
    ])
