use Rattle.std.proofs.Common.{◌≡◌, flat_map, map, take}
use Rattle.indexmap.specs.IndexSet.{insert_all}
use Rattle.gql_single_root.specs.RootFaults.{is_fault}
use Rattle.gql_single_root.specs.Walks.{field_faults, found_of}
use Rattle.gql_single_root.proofs.faults.check_fields.Given as goal

abbrev pub invariant-loop-field : goal.invariant-loop-field
invariant-loop-field l = l.faults.keys ≡ insert_all is_fault l.initial.faults.keys
    (flat_map (field_faults l.are_several) (map found_of (take l.field-index l.fields)))
