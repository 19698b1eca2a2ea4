use Rattle.std.proofs.Common.{◌≡◌, ◌+◌, ◌++◌, map, take, length}
use Rattle.gql_iface_rules.specs.S19DefaultValueCycles.{numbered_from}
use Rattle.gql_iface_rules.specs.S19Inputs.{numbered}
use Rattle.gql_iface_rules.proofs.s19_inputs.numbered_inputs.Given as goal

abbrev pub invariant-loop-field : goal.invariant-loop-field
invariant-loop-field l = record {
  all : map (λ f. f.now) l.all.items ≡ map (λ f. f.now) l.initial.all.items ++ take l.field-index l.field-items;
  count : length l.all.items ≡ length l.initial.all.items + l.field-index;
  numbers : map numbered l.inputs.items ≡ numbered_from (length l.initial.all.items) (take l.field-index l.field-items);
}
