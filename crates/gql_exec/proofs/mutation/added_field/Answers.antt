use Rattle.std.proofs.Common.{◌++◌, codes, subst, ◌∙◌}
use Rattle.json.specs.Print.{quoted}
use Rattle.serde_json.specs.View.{view}
use Rattle.gql_steps.specs.Objects.{basis}
use Rattle.gql_steps.specs.Parts.{plain}
use Rattle.gql_steps.specs.Plans.{types_of}
use Rattle.gql_exec.specs.RootParts.{added_content, added_member}
use Rattle.gql_steps.specs.States.{Follows}
use Rattle.gql_steps.proofs.Doing.{counted-executes, executes-after, wrote}
use Rattle.gql_exec.proofs.mutation.added_field.Goals as goal

pub returns-clause-does : goal.returns-clause-does
returns-clause-does c = λ q h.
    let types = types_of (basis c.args.setting.now) in
    let d = view c.args.stored.now in
    let to = c.args.addition.to.now in
    let a = view c.args.addition.arguments.now in
    let label = quoted q.0.response_name ++ codes ":" in
    counted-executes c.args.slot.field (λ p. added_member types d to a q p) c.added_content.result c.args.run.now c.write_comma.new.run c.count.new.run c.added_content.new.run
    c.in_ok-write_comma.ensures.follows c.in_ok-count.ensures.follows
    (executes-after (plain label) (λ p. added_content types d to a q p) c.added_content.result c.count.new.run c.write.new.run c.added_content.new.run
    (wrote label c.count.new.run c.write.new.run (subst (λ l. Follows (plain l) c.count.new.run c.write.new.run) (c.as_slice.ensures.value ∙ h.label) c.in_ok-write.ensures.follows))
    (c.added_content.ensures.does q h))
