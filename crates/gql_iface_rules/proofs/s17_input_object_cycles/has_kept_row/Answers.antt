use Rattle.std.proofs.Common.{◌≡◌, ◌∙◌, Some, rules, sym, true}
use Rattle.gql_types.specs.Possible.{name_of}
use Rattle.gql_types.specs.Schemas.{type_named}
use Rattle.gql_iface_rules.specs.S17InputObjectCycles.{needs}
use Rattle.gql_iface_rules.proofs.KeptRows.{rows_of_none, rows_of_same}
use Rattle.gql_iface_rules.proofs.s17_input_object_cycles.has_kept_row.Goals as goal

pub returns-then-not-is : goal.returns-then-not-is
returns-then-not-is c = λ e. rows_of_none c.args.before.now c.args.of_type.now (sym c.is.ensures ∙ c.if-not-is.true)

pub returns-then-is_same : goal.returns-then-is_same
returns-then-is_same c = λ e.
    let found : type_named c.args.before.now c.name.result.now ≡ Some c.in-Some.its.now = search rules in
    let name : name_of c.args.of_type.now ≡ name_of c.in-Some.its.now = search rules in
    let same : needs c.args.of_type.now.input_fields ≡ needs c.in-Some.its.now.input_fields = search rules in
    rows_of_same c.args.before.now c.args.of_type.now c.in-Some.its.now c.name.result.now
    (sym c.is.ensures ∙ c.if-not-is.false) (sym c.is-in-Some.ensures ∙ c.if-not-is-2.false) found name same
