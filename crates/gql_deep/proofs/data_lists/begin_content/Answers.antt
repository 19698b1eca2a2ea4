use Rattle.std.proofs.Common.{false, refl, subst, rules, arith}
use Rattle.serde_json.specs.View.{view}
use Rattle.gql_types.specs.Written.{written}
use Rattle.gql_steps.specs.Execution.{complete}
use Rattle.gql_deep.specs.Frames.{FitsReached}
use Rattle.gql_steps.specs.Objects.{basis}
use Rattle.gql_steps.specs.Plans.{types_of}
use Rattle.gql_steps.specs.States.{path_of}
use Rattle.gql_steps.specs.Texts.{value_part}
use Rattle.gql_steps.specs.ValueParts.{content_of_item, site_of}
use Rattle.gql_deep.specs.declared.frames.Around.{Around}
use Rattle.gql_steps.specs.declared.run.Run.{Run}
use Rattle.gql_deep.proofs.Running.{begins_stopped, content_ended, content_inner, item_hole}
use Rattle.gql_deep.proofs.data_lists.begin_content.Goals as goal

pub returns-in-Inner-clause-does : goal.returns-in-Inner-clause-does
returns-in-Inner-clause-does c = λ x i.
    let g = basis c.args.setting.now in
    let site = site_of (types_of g) c.args.site.place x in
    let d = view c.args.value.now in
    let s = c.args.run.now in
    let t : Run = record { out = s.out; errors = s.errors; path = c.push.new.self; left = s.left; raised = s.raised } in
    let a : Around = record { mark = c.len-mark.result; depth = c.len-depth.result; is_required = c.is_non_null.result; is_field = false; outer = false } in
    let hole = item_hole s t c.len-mark.result c.len-depth.result c.is_non_null.result false (omega (arith, c.len-mark.ensures, s.out.ok.0)) (omega (arith, c.len-depth.ensures, s.path.ok.0)) refl refl refl
    (written c.args.item.now) site c.args.i d c.is_non_null.ensures refl (search rules) in
    content_inner g c.reach.new.table a (value_part (complete site (written c.args.item.now) (path_of t) d)) t (content_of_item (written c.args.item.now) site c.args.i d (path_of s)) s hole c.reach.new.run
    _ c.in-Inner.group c.in-Inner.is (c.in_ok-ended.ensures.does x i)

pub returns-in_ok-close-in-Ended-clause-does : goal.returns-in_ok-close-in-Ended-clause-does
returns-in_ok-close-in-Ended-clause-does c = λ x i.
    let g = basis c.args.setting.now in
    let site = site_of (types_of g) c.args.site.place x in
    let d = view c.args.value.now in
    let s = c.args.run.now in
    let t : Run = record { out = s.out; errors = s.errors; path = c.push.new.self; left = s.left; raised = s.raised } in
    let hole = item_hole s t c.len-mark.result c.len-depth.result c.is_non_null.result false (omega (arith, c.len-mark.ensures, s.out.ok.0)) (omega (arith, c.len-depth.ensures, s.path.ok.0)) refl refl refl
    (written c.args.item.now) site c.args.i d c.is_non_null.ensures refl (search rules) in
    c.in_ok-close-in-Ended.ensures.does (value_part (complete site (written c.args.item.now) (path_of t) d)) t (content_of_item (written c.args.item.now) site c.args.i d (path_of s)) s hole
    (content_ended g c.reach.new.table (value_part (complete site (written c.args.item.now) (path_of t) d)) t c.reach.new.run _ c.in-Ended.ended c.in-Ended.is (c.in_ok-ended.ensures.does x i))

pub returns-in_err-close-in-Ended-clause-does : goal.returns-in_err-close-in-Ended-clause-does
returns-in_err-close-in-Ended-clause-does c = λ x i.
    let g = basis c.args.setting.now in
    let site = site_of (types_of g) c.args.site.place x in
    let d = view c.args.value.now in
    let s = c.args.run.now in
    let t : Run = record { out = s.out; errors = s.errors; path = c.push.new.self; left = s.left; raised = s.raised } in
    let hole = item_hole s t c.len-mark.result c.len-depth.result c.is_non_null.result false (omega (arith, c.len-mark.ensures, s.out.ok.0)) (omega (arith, c.len-depth.ensures, s.path.ok.0)) refl refl refl
    (written c.args.item.now) site c.args.i d c.is_non_null.ensures refl (search rules) in
    begins_stopped g c.reach.new.table (content_of_item (written c.args.item.now) site c.args.i d (path_of s)) c.from_residual-in_err-close-in-Ended.result c.in_err-close-in-Ended.field-0.0 s c.close.new.run c.from_residual-in_err-close-in-Ended.ensures.1
    (c.in_err-close-in-Ended.ensures.does (value_part (complete site (written c.args.item.now) (path_of t) d)) t (content_of_item (written c.args.item.now) site c.args.i d (path_of s)) s hole
    (content_ended g c.reach.new.table (value_part (complete site (written c.args.item.now) (path_of t) d)) t c.reach.new.run _ c.in-Ended.ended c.in-Ended.is (c.in_ok-ended.ensures.does x i)))

pub returns-in-Inner-clause-keeps : goal.returns-in-Inner-clause-keeps
returns-in-Inner-clause-keeps c =
    let k = c.in_ok-ended.ensures.keeps in
    record { right = k.right; grows = k.grows; left = k.left; fits = subst (FitsReached c.reach.new.table) c.in-Inner.is k.fits }

pub returns-in_ok-close-in-Ended-clause-keeps : goal.returns-in_ok-close-in-Ended-clause-keeps
returns-in_ok-close-in-Ended-clause-keeps c =
    let k = c.in_ok-ended.ensures.keeps in
    record { right = k.right; grows = k.grows; left = omega (arith, k.left, c.in_ok-close-in-Ended.ensures.left); fits = tt }
