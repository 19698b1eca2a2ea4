use Rattle.std.proofs.Common.{◌≡◌, take}
use Rattle.gql_cut.proofs.copies.+literal_copy.Given as goal

abbrev pub invariant-literal_copies-loop-item : goal.invariant-literal_copies-loop-item
invariant-literal_copies-loop-item l = l.copies.items ≡ take l.item-index l.items

abbrev pub invariant-field_copies-loop-field : goal.invariant-field_copies-loop-field
invariant-field_copies-loop-field l = l.copies.items ≡ take l.field-index l.fields
