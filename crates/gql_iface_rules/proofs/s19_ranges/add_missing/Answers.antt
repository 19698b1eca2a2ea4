use Rattle.gql_iface_rules.specs.S19Inputs.{object_value}
use Rattle.gql_iface_rules.specs.S19Ranges.{given_numbers}
use Rattle.gql_iface_rules.proofs.S19Gaps.{left_by}
use Rattle.gql_iface_rules.proofs.s19_ranges.add_missing.Goals as goal

pub returns : goal.returns
returns c = left_by (object_value c.args.at.now).input_object.numbers (given_numbers (object_value c.args.at.now)) c.in_ok-given.given.items c.as_slice.result.now c.args.ranges.now.items c.add_gaps.new.gaps.items
    c.in_ok-given.ensures.moved c.as_slice.ensures.value c.in_ok-add_gaps.ensures
