use Rattle.std.proofs.Common.{true, false, refl, subst, rules, arith}
use Rattle.gql_deep.specs.Frames.{FitsReached, object_in}
use Rattle.gql_steps.specs.Objects.{basis}
use Rattle.gql_steps.specs.Plans.{types_of}
use Rattle.gql_steps.specs.States.{path_of}
use Rattle.gql_steps.specs.ValueParts.{called_part, content_part}
use Rattle.gql_deep.specs.declared.frames.Around.{Around}
use Rattle.gql_steps.specs.declared.run.Run.{Run}
use Rattle.gql_deep.proofs.Running.{begins_stopped, content_ended, content_inner, field_hole}
use Rattle.gql_deep.proofs.fields.begin_content.Goals as goal

pub returns-in-Inner-clause-does : goal.returns-in-Inner-clause-does
returns-in-Inner-clause-does c = λ q h.
    let g = basis c.args.setting.now in
    let o = object_in c.args.object in
    let s = c.args.run.now in
    let t : Run = record { out = s.out; errors = s.errors; path = c.push.new.self; left = s.left; raised = false } in
    let a : Around = record { mark = c.len-mark.result; depth = c.len-depth.result; is_required = c.is_non_null.result; is_field = true; outer = s.raised } in
    let hole = field_hole s t c.len-mark.result c.len-depth.result c.is_non_null.result s.raised (omega (arith, c.len-mark.ensures, s.out.ok.0)) (omega (arith, c.len-depth.ensures, s.path.ok.0)) refl refl refl
    (types_of g) o q c.args.field.now h.planned c.is_non_null.ensures refl refl (search rules) in
    content_inner g c.reach_field.new.table a (called_part (types_of g) o q (path_of t)) t (content_part (types_of g) o q (path_of s)) s hole c.reach_field.new.run
    _ c.in-Inner.group c.in-Inner.is (c.in_ok-ended.ensures.does q h)

pub returns-in_ok-close-in-Ended-clause-does : goal.returns-in_ok-close-in-Ended-clause-does
returns-in_ok-close-in-Ended-clause-does c = λ q h.
    let g = basis c.args.setting.now in
    let o = object_in c.args.object in
    let s = c.args.run.now in
    let t : Run = record { out = s.out; errors = s.errors; path = c.push.new.self; left = s.left; raised = false } in
    let hole = field_hole s t c.len-mark.result c.len-depth.result c.is_non_null.result s.raised (omega (arith, c.len-mark.ensures, s.out.ok.0)) (omega (arith, c.len-depth.ensures, s.path.ok.0)) refl refl refl
    (types_of g) o q c.args.field.now h.planned c.is_non_null.ensures refl refl (search rules) in
    c.in_ok-close-in-Ended.ensures.does (called_part (types_of g) o q (path_of t)) t (content_part (types_of g) o q (path_of s)) s hole
    (content_ended g c.reach_field.new.table (called_part (types_of g) o q (path_of t)) t c.reach_field.new.run _ c.in-Ended.ended c.in-Ended.is (c.in_ok-ended.ensures.does q h))

pub returns-in_err-close-in-Ended-clause-does : goal.returns-in_err-close-in-Ended-clause-does
returns-in_err-close-in-Ended-clause-does c = λ q h.
    let g = basis c.args.setting.now in
    let o = object_in c.args.object in
    let s = c.args.run.now in
    let t : Run = record { out = s.out; errors = s.errors; path = c.push.new.self; left = s.left; raised = false } in
    let hole = field_hole s t c.len-mark.result c.len-depth.result c.is_non_null.result s.raised (omega (arith, c.len-mark.ensures, s.out.ok.0)) (omega (arith, c.len-depth.ensures, s.path.ok.0)) refl refl refl
    (types_of g) o q c.args.field.now h.planned c.is_non_null.ensures refl refl (search rules) in
    begins_stopped g c.reach_field.new.table (content_part (types_of g) o q (path_of s)) c.from_residual-in_err-close-in-Ended.result c.in_err-close-in-Ended.field-0.0 s c.close.new.run c.from_residual-in_err-close-in-Ended.ensures.1
    (c.in_err-close-in-Ended.ensures.does (called_part (types_of g) o q (path_of t)) t (content_part (types_of g) o q (path_of s)) s hole
    (content_ended g c.reach_field.new.table (called_part (types_of g) o q (path_of t)) t c.reach_field.new.run _ c.in-Ended.ended c.in-Ended.is (c.in_ok-ended.ensures.does q h)))

pub returns-in-Inner-clause-keeps : goal.returns-in-Inner-clause-keeps
returns-in-Inner-clause-keeps c =
    let k = c.in_ok-ended.ensures.keeps in
    record { right = k.right; grows = k.grows; left = k.left; fits = subst (FitsReached c.reach_field.new.table) c.in-Inner.is k.fits }

pub returns-in_ok-close-in-Ended-clause-keeps : goal.returns-in_ok-close-in-Ended-clause-keeps
returns-in_ok-close-in-Ended-clause-keeps c =
    let k = c.in_ok-ended.ensures.keeps in
    record { right = k.right; grows = k.grows; left = omega (arith, k.left, c.in_ok-close-in-Ended.ensures.left); fits = tt }
