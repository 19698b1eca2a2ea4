use Rattle.std.proofs.Common.{codes}
use Rattle.gql_steps.specs.Objects.{basis}
use Rattle.gql_steps.specs.Plans.{types_of}
use Rattle.gql_exec.specs.RootParts.{root_fields, root_of}
use Rattle.gql_steps.proofs.Doing.{within-done}
use Rattle.gql_exec.proofs.mutation.execute_root.Goals as goal

pub returns-clause-does : goal.returns-clause-does
returns-clause-does c = λ qs h.
    let g = basis c.args.setting.now in
    within-done (codes "{") (codes "}") (λ p. root_fields (types_of g) (root_of g c.args.root) qs p)
    c.args.run.now c.write_byte.new.run c.root_fields.new.run c.in_ok-write_byte.ensures.follows c.in_ok-ended.ended c.write_byte-2.new.run (c.in_ok-ended.ensures.does qs h) c.in_ok-write_byte-2.ensures.follows
