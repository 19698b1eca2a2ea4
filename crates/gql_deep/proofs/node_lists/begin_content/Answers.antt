use Rattle.std.proofs.Common.{true, false, refl, rules, arith}
use Rattle.gql_intro.specs.Borrowed.{node_of}
use Rattle.gql_steps.specs.Execution.{on_node}
use Rattle.gql_steps.specs.Objects.{basis}
use Rattle.gql_steps.specs.Plans.{types_of}
use Rattle.gql_steps.specs.States.{path_of}
use Rattle.gql_steps.specs.Texts.{value_part}
use Rattle.gql_steps.specs.ValueParts.{site_of}
use Rattle.gql_steps.specs.declared.run.Run.{Run}
use Rattle.gql_steps.proofs.Executing.{met_itself}
use Rattle.gql_deep.proofs.Running.{node_hole}
use Rattle.gql_deep.proofs.node_lists.begin_content.Goals as goal

pub returns-clause-does : goal.returns-clause-does
returns-clause-does c = λ x place i.
    let g = basis c.args.setting.now in
    let site = site_of (types_of g) place x in
    let n = node_of c.args.node in
    let s = c.args.run.now in
    let t : Run = record { out = s.out; errors = s.errors; path = c.push.new.self; left = s.left; raised = s.raised } in
    record {
      inner = value_part (on_node site c.args.name.now (path_of t) n);
      hole = node_hole s t c.len-mark.result c.len-depth.result true false (omega (arith, c.len-mark.ensures, s.out.ok.0)) (omega (arith, c.len-depth.ensures, s.path.ok.0)) refl refl refl
          c.args.name.now site c.args.i n refl refl (search rules);
      enters = c.in_ok-group.ensures.enters t c.args.name.now (met_itself g c.args.name.now) x i;
    }

pub returns-clause-keeps : goal.returns-clause-keeps
returns-clause-keeps c =
    let k = c.in_ok-group.ensures.keeps c.args.run.now in
    record { right = k.right; grows = k.grows; left = k.left; fits = k.fits }
