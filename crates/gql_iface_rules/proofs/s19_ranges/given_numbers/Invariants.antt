use Rattle.std.proofs.Common.{◌≡◌, flat_map, take}
use Rattle.gql_iface_rules.specs.S19DefaultValueCycles.{name_of_given}
use Rattle.gql_iface_rules.specs.S19Inputs.{object}
use Rattle.gql_iface_rules.specs.S19Ranges.{first_number}
use Rattle.gql_iface_rules.proofs.s19_ranges.given_numbers.Given as goal

abbrev pub invariant-loop-field : goal.invariant-loop-field
invariant-loop-field l = l.numbers.items ≡ flat_map (first_number (object l.at.input_object.now).inputs) (flat_map name_of_given (take l.field-index l.at.fields.now))
