use Rattle.std.proofs.Common.{codes}
use Rattle.gql_render.specs.Texts.{state_text, all_faults_text, all_operations_text}
use Rattle.gql_render.proofs.Appended.{four_parts}
use Rattle.gql_render.proofs.json_report.write_state.Goals as goal

pub returns : goal.returns
unfolding state_text
returns c = four_parts c.args.out.now.items (codes ",\"faults\":") (all_faults_text c.args.now.now) (codes ",\"affected\":") (all_operations_text c.args.now.now) _ _ _ _
    c.in_ok-write_bytes.ensures c.in_ok-write_all_faults.ensures c.in_ok-write_bytes-2.ensures c.in_ok-write_all_operations.ensures
