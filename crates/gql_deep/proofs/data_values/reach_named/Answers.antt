use Rattle.std.proofs.Common.{◌++◌, codes, sym, ◌∙◌}
use Rattle.serde_json.specs.Find.{get}
use Rattle.serde_json.specs.View.{view}
use Rattle.gql_types.specs.Schemas.{kind_named}
use Rattle.gql_steps.specs.Execution.{among, of_kind, on_abstract, on_object}
use Rattle.gql_steps.specs.LeafParts.{leaf_at}
use Rattle.gql_steps.specs.Leaves.{as_enum, as_scalar}
use Rattle.gql_steps.specs.Objects.{basis}
use Rattle.gql_steps.specs.Parts.{raise}
use Rattle.gql_steps.specs.Plans.{possible_in, types_of, values_in}
use Rattle.gql_steps.specs.States.{path_of}
use Rattle.gql_steps.specs.Texts.{value_part}
use Rattle.gql_steps.specs.ValueParts.{site_of}
use Rattle.gql_steps.proofs.Completing.{kind_abstract, kind_enum, kind_object, kind_other, kind_scalar}
use Rattle.gql_deep.proofs.Entering.{as_reached}
use Rattle.gql_deep.proofs.data_values.reach_named.Goals as goal

pub returns-in-Scalar-clause-does : goal.returns-in-Scalar-clause-does
returns-in-Scalar-clause-does c = λ x a.
    let g = basis c.args.setting.now in
    let n = c.args.name.now in
    let p = path_of c.args.run.now in
    let d = view c.args.value.now in
    let site = site_of (types_of g) c.args.site.place x in
    as_reached g c.args.table.now (value_part (of_kind site n p d (kind_named g.given.schema n))) (leaf_at n c.args.site.place p (as_scalar c.in-Scalar.scalar d)) c.done.result c.args.run.now c.complete_scalar.new.run
    (kind_scalar site n p d (kind_named g.given.schema n) c.in-Scalar.scalar (sym a.kind ∙ c.in-Scalar.is)) (c.done.ensures.does g c.args.table.now (leaf_at n c.args.site.place p (as_scalar c.in-Scalar.scalar d)) c.args.run.now c.complete_scalar.new.run c.complete_scalar.ensures)

pub returns-in-Enum-clause-does : goal.returns-in-Enum-clause-does
returns-in-Enum-clause-does c = λ x a.
    let g = basis c.args.setting.now in
    let n = c.args.name.now in
    let p = path_of c.args.run.now in
    let d = view c.args.value.now in
    let site = site_of (types_of g) c.args.site.place x in
    as_reached g c.args.table.now (value_part (of_kind site n p d (kind_named g.given.schema n))) (leaf_at n c.args.site.place p (as_enum (values_in g.given.schema n) d)) c.done-in-Enum.result c.args.run.now c.complete_enum.new.run
    (kind_enum site n p d (kind_named g.given.schema n) (sym a.kind ∙ c.in-Enum.is)) (c.done-in-Enum.ensures.does g c.args.table.now (leaf_at n c.args.site.place p (as_enum (values_in g.given.schema n) d)) c.args.run.now c.complete_enum.new.run c.complete_enum.ensures)

pub returns-in-NoOutput-clause-does : goal.returns-in-NoOutput-clause-does
returns-in-NoOutput-clause-does c = λ x a.
    let g = basis c.args.setting.now in
    let n = c.args.name.now in
    let p = path_of c.args.run.now in
    let d = view c.args.value.now in
    let site = site_of (types_of g) c.args.site.place x in
    as_reached g c.args.table.now (value_part (of_kind site n p d (kind_named g.given.schema n))) (raise (record { message = codes "value is not of type " ++ n; place = c.args.site.place; path = p })) c.done-in-NoOutput.result c.args.run.now c.raise.new.run
    (kind_other site n p d (kind_named g.given.schema n) (sym a.kind ∙ c.in-NoOutput.is)) (c.done-in-NoOutput.ensures.does g c.args.table.now (raise (record { message = codes "value is not of type " ++ n; place = c.args.site.place; path = p })) c.args.run.now c.raise.new.run c.raise.ensures)

pub returns-in-Object-clause-does : goal.returns-in-Object-clause-does
returns-in-Object-clause-does c = λ x a.
    let g = basis c.args.setting.now in
    let n = c.args.name.now in
    let p = path_of c.args.run.now in
    let d = view c.args.value.now in
    let site = site_of (types_of g) c.args.site.place x in
    as_reached g c.reach_object.new.table (value_part (of_kind site n p d (kind_named g.given.schema n))) (value_part (on_object site n p d)) c.reach_object.result c.args.run.now c.reach_object.new.run
    (kind_object site n p d (kind_named g.given.schema n) (sym a.kind ∙ c.in-Object.is)) (c.reach_object.ensures.does x a)

pub returns-in-Abstract-clause-does : goal.returns-in-Abstract-clause-does
returns-in-Abstract-clause-does c = λ x a.
    let g = basis c.args.setting.now in
    let n = c.args.name.now in
    let p = path_of c.args.run.now in
    let d = view c.args.value.now in
    let site = site_of (types_of g) c.args.site.place x in
    as_reached g c.reach_abstract.new.table (value_part (of_kind site n p d (kind_named g.given.schema n))) (value_part (on_abstract site n p d (among (possible_in g.given.schema n) (get (codes "__typename") d)))) c.reach_abstract.result c.args.run.now c.reach_abstract.new.run
    (kind_abstract site n p d (kind_named g.given.schema n) (sym a.kind ∙ c.in-Abstract.is)) (c.reach_abstract.ensures.does x a)

pub returns-in-Scalar-clause-keeps : goal.returns-in-Scalar-clause-keeps
returns-in-Scalar-clause-keeps c = c.done.ensures.keeps (basis c.args.setting.now) c.args.table.now _ c.args.run.now c.complete_scalar.new.run c.requires.right c.complete_scalar.ensures

pub returns-in-Enum-clause-keeps : goal.returns-in-Enum-clause-keeps
returns-in-Enum-clause-keeps c = c.done-in-Enum.ensures.keeps (basis c.args.setting.now) c.args.table.now _ c.args.run.now c.complete_enum.new.run c.requires.right c.complete_enum.ensures

pub returns-in-NoOutput-clause-keeps : goal.returns-in-NoOutput-clause-keeps
returns-in-NoOutput-clause-keeps c = c.done-in-NoOutput.ensures.keeps (basis c.args.setting.now) c.args.table.now _ c.args.run.now c.raise.new.run c.requires.right c.raise.ensures
