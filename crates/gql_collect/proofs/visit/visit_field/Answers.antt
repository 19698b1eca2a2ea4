use Rattle.std.proofs.Common.{rules, refl, ◌∙◌, ap}
use Rattle.gql_collect.specs.Borrowed.{names_of, nodes_of, selections_of}
use Rattle.gql_collect.specs.Contexts.{given}
use Rattle.gql_collect.proofs.Visiting.{field_left, field_kept, node_inserted}
use Rattle.gql_collect.proofs.visit.visit_field.Goals as goal

pub returns-then-is_left_out : goal.returns-then-is_left_out
returns-then-is_left_out c = λ t. field_left (given c.args.context.now) t
    (names_of c.args.met.now.fragments.keys) (nodes_of c.args.met.now.fields.keys)
    c.args.file.now c.args.field.now (selections_of c.nothing.result) (search rules) c.nothing.ensures

pub returns : goal.returns
returns c = λ t. field_kept (given c.args.context.now) t
    (names_of c.args.met.now.fragments.keys) (nodes_of c.args.met.now.fields.keys)
    c.args.file.now c.args.field.now
    (names_of c.args.met.now.fragments.keys) (nodes_of c.insert.new.self.keys) (selections_of c.nothing-2.result)
    (search rules) c.nothing-2.ensures refl
    (ap nodes_of c.in_ok-insert.ensures.keys
    ∙ node_inserted c.args.met.now.fields.keys (record { file = c.args.file; field = c.args.field }))
