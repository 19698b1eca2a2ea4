use Rattle.std.proofs.Common.{sym, ◌∙◌, arith}
use Rattle.serde_json.specs.View.{view}
use Rattle.gql_steps.specs.JsonText.{json_text}
use Rattle.gql_types.specs.Written.{written}
use Rattle.gql_steps.specs.Direct.{data_of}
use Rattle.gql_steps.specs.Objects.{basis}
use Rattle.gql_steps.specs.Parts.{plain}
use Rattle.gql_steps.specs.Plans.{types_of}
use Rattle.gql_steps.specs.States.{path_of}
use Rattle.gql_steps.specs.ValueParts.{content_of_item, item_part, site_of}
use Rattle.gql_steps.proofs.Completing.{direct_item}
use Rattle.gql_steps.proofs.Doing.{counted-executes}
use Rattle.gql_deep.proofs.Entering.{begun_later, comma_weight}
use Rattle.gql_steps.proofs.Executing.{as_part}
use Rattle.gql_deep.proofs.Holes.{begins_lift}
use Rattle.gql_deep.proofs.data_lists.begin_item.Goals as goal

pub returns-clause-does : goal.returns-clause-does
returns-clause-does c = λ x i.
    let g = basis c.args.setting.now in
    let item = written c.args.item.now in
    let d = view c.args.value.now in
    let site = site_of (types_of g) c.args.site.place x in
    begins_lift g c.begin_content.new.table (content_of_item item site c.args.i d (path_of c.count.new.run)) (item_part item site (path_of c.args.run.now) c.args.i d) c.begin_content.result c.count.new.run c.args.run.now c.begin_content.new.run
    (λ result u y. counted-executes c.args.i (λ p. content_of_item item site c.args.i d p) result c.args.run.now c.write_comma.new.run c.count.new.run u
    c.in_ok-write_comma.ensures.follows c.in_ok-count.ensures.follows y)
    (c.begin_content.ensures.does x i)

pub returns-in-Some-clause-does : goal.returns-in-Some-clause-does
returns-in-Some-clause-does c = λ x a.
    let g = basis c.args.setting.now in
    let item = written c.args.item.now in
    let d = view c.args.value.now in
    let site = site_of (types_of g) c.args.site.place x in
    let is = c.in-Some.ensures in
    c.begun.ensures.does g c.args.table.now (item_part item site (path_of c.args.run.now) c.args.i d) c.args.run.now c.write_direct.new.run
    (counted-executes c.args.i (λ p. content_of_item item site c.args.i d p)
    c.write_direct.result c.args.run.now c.write_comma.new.run c.count.new.run c.write_direct.new.run c.in_ok-write_comma.ensures.follows c.in_ok-count.ensures.follows
    (as_part (content_of_item item site c.args.i d (path_of c.count.new.run)) (plain (json_text (data_of c.in-Some.found))) c.write_direct.result c.count.new.run c.write_direct.new.run
    (direct_item item site c.args.i is.scalar d (data_of c.in-Some.found) (path_of c.count.new.run) is.not_list (sym a.kind ∙ is.kind_is) is.value is.present)
    c.write_direct.ensures))

pub returns-in-Some-clause-keeps : goal.returns-in-Some-clause-keeps
returns-in-Some-clause-keeps c = c.begun.ensures.keeps (basis c.args.setting.now) c.args.table.now (plain (json_text (data_of c.in-Some.found))) 1
    c.args.run.now c.count.new.run c.write_direct.new.run c.requires.right
    (omega (arith, c.in_ok-write_comma.ensures.follows.left, c.in_ok-count.ensures.follows.left, comma_weight c.args.i)) c.write_direct.ensures

pub returns-clause-keeps : goal.returns-clause-keeps
returns-clause-keeps c = begun_later (basis c.args.setting.now) c.args.table.now c.begin_content.new.table c.begin_content.result c.args.run.now c.count.new.run c.begin_content.new.run
    (omega (arith, c.in_ok-write_comma.ensures.follows.left, c.in_ok-count.ensures.follows.left, comma_weight c.args.i)) c.begin_content.ensures.keeps
