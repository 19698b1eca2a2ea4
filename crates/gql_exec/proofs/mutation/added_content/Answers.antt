use Rattle.std.proofs.Common.{◌≡◌, ◌++◌, ◌∷◌, [], false, sym, ap, subst, refl, rules}
use Rattle.serde_json.specs.View.{view}
use Rattle.gql_steps.specs.Execution.{PlannedField, added}
use Rattle.gql_steps.specs.Objects.{basis}
use Rattle.gql_steps.specs.Parts.{Part, settled}
use Rattle.gql_steps.specs.Plans.{types_of}
use Rattle.gql_steps.specs.Replies.{Path, key}
use Rattle.gql_steps.specs.States.{Done, path_of}
use Rattle.gql_steps.specs.Texts.{value_part}
use Rattle.gql_steps.specs.ValueParts.{placed_part, site_of}
use Rattle.gql_steps.specs.declared.outcome.Step.TheVariants as step
use Rattle.gql_steps.specs.declared.run.Run.{Run}
use Rattle.gql_steps.proofs.Doing.{at-field, stepped}
use Rattle.gql_exec.proofs.mutation.added_content.Goals as goal

pub returns-clause-does : goal.returns-clause-does
returns-clause-does c = λ q h.
    let types = types_of (basis c.args.setting.now) in
    let r : Path → Part = λ p. placed_part q.0.of_type (value_part (added (site_of types q.0.place q.1) (view c.args.stored.now) q.0 c.args.addition.to.now (view c.args.addition.arguments.now) p)) in
    let s = c.args.run.now in
    let t : Run = record { out = s.out; errors = s.errors; path = c.push.new.self; left = s.left; raised = false } in
    let u = c.place_added.new.run in
    let v : Run = record { out = u.out; errors = u.errors; path = c.truncate.new.self; left = u.left; raised = s.raised } in
    let x = step.Key c.args.field.now.response_name in
    let pushed : c.push.new.self.items ≡ s.path.items ++ x ∷ [] = search rules in
    let name : q.0.response_name ≡ c.args.field.now.response_name.now = ap (λ (e : PlannedField). e.response_name) h.planned in
    subst (λ n. Done (settled (r (path_of s ++ key n ∷ []))) c.in_ok-ended.ended s v) (sym name)
    (at-field (r (path_of s ++ key c.args.field.now.response_name.now ∷ [])) c.in_ok-ended.ended x s t u v refl refl refl refl
    pushed (subst (λ p. Done (r p) c.in_ok-ended.ended t u) (stepped s.path.items x c.push.new.self.items pushed) (c.in_ok-ended.ensures.does q h)) refl refl refl refl (search rules))
