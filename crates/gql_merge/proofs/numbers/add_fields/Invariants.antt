use Rattle.std.proofs.Common.{◌≡◌, ◌++◌, drop, length, take}
use Rattle.gql_merge.specs.Numbers.{numbers_from}
use Rattle.gql_merge.proofs.numbers.add_fields.Given as goal

abbrev pub invariant-loop-field : goal.invariant-loop-field
invariant-loop-field l = record {
  all : l.all.items ≡ l.initial.all.items ++ take l.field-index l.fields;
  numbers : l.numbers.items ++ numbers_from (length l.all.items) (drop l.field-index l.fields) ≡ numbers_from (length l.initial.all.items) l.fields;
}
