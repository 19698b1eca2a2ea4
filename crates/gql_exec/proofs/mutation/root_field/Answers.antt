use Rattle.serde_json.specs.View.{view}
use Rattle.gql_steps.specs.Objects.{basis, object_of}
use Rattle.gql_steps.specs.Plans.{types_of}
use Rattle.gql_exec.specs.RootParts.{root_field, root_of}
use Rattle.gql_steps.specs.States.{path_of}
use Rattle.gql_steps.specs.ValueParts.{field_part}
use Rattle.gql_steps.proofs.Executing.{as_part}
use Rattle.gql_exec.proofs.Mutating.{root_reads}
use Rattle.gql_exec.proofs.mutation.root_field.Goals as goal

pub returns-in-None-clause-does : goal.returns-in-None-clause-does
returns-in-None-clause-does c = λ q h.
    let g = basis c.args.setting.now in
    let o = object_of c.args.root.initial in
    as_part (root_field (types_of g) (root_of g c.args.root) (path_of c.args.run.now) c.args.slot.field q)
    (field_part (types_of g) o (path_of c.args.run.now) c.args.slot.field q) c.execute_field.result c.args.run.now c.execute_field.new.run
    (root_reads (types_of g) g c.args.root.of_type.now (view c.args.root.stored.now) o c.args.field.now q h.planned c.in-None.ensures (path_of c.args.run.now) c.args.slot.field)
    (c.execute_field.ensures.does q h)
