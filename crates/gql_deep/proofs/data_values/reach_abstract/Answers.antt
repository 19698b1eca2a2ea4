use Rattle.std.proofs.Common.{◌≡◌, ℕ, List, Some, codes, Bor, option_map, sym, ap, ◌∙◌}
use Rattle.serde_json.specs.Find.{get}
use Rattle.serde_json.specs.View.{view}
use Rattle.gql_types.specs.Schemas.{kind_named}
use Rattle.gql_steps.specs.Execution.{among, execute, on_abstract, stored}
use Rattle.gql_steps.specs.Objects.{basis}
use Rattle.gql_steps.specs.Plans.{possible_in, types_of}
use Rattle.gql_steps.specs.States.{path_of}
use Rattle.gql_steps.specs.Texts.{value_part}
use Rattle.gql_steps.specs.ValueParts.{site_of}
use Rattle.gql_steps.proofs.Completing.{abstract_kind}
use Rattle.gql_deep.proofs.Entering.{as_reached}
use Rattle.gql_steps.proofs.Executing.{among_is, met_abstract}
use Rattle.gql_deep.proofs.data_values.reach_abstract.Goals as goal

pub returns-clause-does : goal.returns-clause-does
returns-clause-does c = λ x a.
    let g = basis c.args.setting.now in
    let n = c.args.name.now in
    let d = view c.args.value.now in
    let names = possible_in g.given.schema n in
    let found = get (codes "__typename") d in
    let chosen : among names found ≡ Some c.in-Some.of_type.now = sym c.type_name.ensures ∙ ap (option_map (λ (m : Bor (List ℕ)). m.now)) c.in-Some.is in
    as_reached g c.reach_below.new.table (value_part (on_abstract (site_of (types_of g) c.args.site.place x) n (path_of c.args.run.now) d (among names found)))
    (value_part (execute (types_of g) x c.in-Some.of_type.now (path_of c.args.run.now) (stored d))) c.reach_below.result c.args.run.now c.reach_below.new.run
    (ap (λ o. value_part (on_abstract (site_of (types_of g) c.args.site.place x) n (path_of c.args.run.now) d o)) chosen)
    (c.reach_below.ensures.does n (met_abstract g c.in-Some.of_type.now n
    (abstract_kind n (kind_named g.given.schema n) (sym a.kind ∙ c.requires.composite)) (among_is names found c.in-Some.of_type.now chosen)) x a.plan)

pub returns-in_default-clause-keeps : goal.returns-in_default-clause-keeps
returns-in_default-clause-keeps c = c.done.ensures.keeps (basis c.args.setting.now) c.args.table.now _ c.args.run.now c.raise.new.run c.requires.right c.raise.ensures
