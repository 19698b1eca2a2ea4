use Rattle.std.proofs.Common.{◌++◌, codes, subst, ◌∙◌, arith}
use Rattle.json.specs.Print.{quoted}
use Rattle.gql_steps.specs.JsonText.{json_text}
use Rattle.gql_steps.specs.Direct.{data_of}
use Rattle.gql_deep.specs.Frames.{object_in}
use Rattle.gql_steps.specs.Objects.{basis}
use Rattle.gql_steps.specs.Parts.{plain}
use Rattle.gql_steps.specs.Plans.{types_of}
use Rattle.gql_steps.specs.States.{Follows, path_of}
use Rattle.gql_steps.specs.ValueParts.{content_part, field_part, member_part}
use Rattle.gql_steps.proofs.Doing.{counted-executes, executes-after, wrote}
use Rattle.gql_deep.proofs.Entering.{begun_later, comma_weight}
use Rattle.gql_steps.proofs.Executing.{as_part}
use Rattle.gql_deep.proofs.Holes.{begins_lift}
use Rattle.gql_deep.proofs.fields.begin_field.Goals as goal

pub returns-clause-does : goal.returns-clause-does
returns-clause-does c = λ q h.
    let g = basis c.args.setting.now in
    let types = types_of g in
    let d = object_in c.args.object in
    let label = quoted q.0.response_name ++ codes ":" in
    begins_lift g c.begin_content.new.table (content_part types d q (path_of c.write.new.run)) (field_part types d (path_of c.args.run.now) c.args.slot.field q) c.begin_content.result c.write.new.run c.args.run.now c.begin_content.new.run
    (λ result u x. counted-executes c.args.slot.field (λ p. member_part types d q p) result c.args.run.now c.write_comma.new.run c.count.new.run u
    c.in_ok-write_comma.ensures.follows c.in_ok-count.ensures.follows
    (executes-after (plain label) (λ p. content_part types d q p) result c.count.new.run c.write.new.run u
    (wrote label c.count.new.run c.write.new.run (subst (λ l. Follows (plain l) c.count.new.run c.write.new.run) (c.as_slice.ensures.value ∙ h.label) c.in_ok-write.ensures.follows)) x))
    (c.begin_content.ensures.does q h)

pub returns-clause-keeps : goal.returns-clause-keeps
returns-clause-keeps c = begun_later (basis c.args.setting.now) c.args.table.now c.begin_content.new.table c.begin_content.result c.args.run.now c.write.new.run c.begin_content.new.run
    (omega (arith, c.in_ok-write_comma.ensures.follows.left, c.in_ok-count.ensures.follows.left, c.in_ok-write.ensures.follows.left, comma_weight c.args.slot.field)) c.begin_content.ensures.keeps

pub returns-in-Some-clause-does : goal.returns-in-Some-clause-does
returns-in-Some-clause-does c = λ q h.
    let g = basis c.args.setting.now in
    let types = types_of g in
    let d = object_in c.args.object in
    let label = quoted q.0.response_name ++ codes ":" in
    c.begun.ensures.does g c.args.table.now (field_part types d (path_of c.args.run.now) c.args.slot.field q) c.args.run.now c.write_direct.new.run
    (counted-executes c.args.slot.field (λ p. member_part types d q p) c.write_direct.result c.args.run.now c.write_comma.new.run c.count.new.run c.write_direct.new.run
    c.in_ok-write_comma.ensures.follows c.in_ok-count.ensures.follows
    (executes-after (plain label) (λ p. content_part types d q p) c.write_direct.result c.count.new.run c.write.new.run c.write_direct.new.run
    (wrote label c.count.new.run c.write.new.run (subst (λ l. Follows (plain l) c.count.new.run c.write.new.run) (c.as_slice.ensures.value ∙ h.label) c.in_ok-write.ensures.follows))
    (as_part (content_part types d q (path_of c.write.new.run)) (plain (json_text (data_of c.in-Some.found))) c.write_direct.result c.write.new.run c.write_direct.new.run
    (c.in-Some.ensures g q (path_of c.write.new.run) h) c.write_direct.ensures)))

pub returns-in-Some-clause-keeps : goal.returns-in-Some-clause-keeps
returns-in-Some-clause-keeps c = c.begun.ensures.keeps (basis c.args.setting.now) c.args.table.now (plain (json_text (data_of c.in-Some.found))) 1
    c.args.run.now c.write.new.run c.write_direct.new.run c.requires.right
    (omega (arith, c.in_ok-write_comma.ensures.follows.left, c.in_ok-count.ensures.follows.left, c.in_ok-write.ensures.follows.left, comma_weight c.args.slot.field)) c.write_direct.ensures
