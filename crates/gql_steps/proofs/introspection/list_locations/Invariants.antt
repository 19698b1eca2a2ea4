use Rattle.std.proofs.Common.{◌≡◌, length, map, take}
use Rattle.gql_intro.specs.Introspection.{location_name}
use Rattle.gql_steps.specs.Parts.{all, numbered}
use Rattle.gql_steps.specs.States.{Done}
use Rattle.gql_steps.specs.ValueParts.{name_part}
use Rattle.gql_steps.proofs.introspection.list_locations.Given as goal

abbrev pub invariant-loop-i : goal.invariant-loop-i
invariant-loop-i l = record {
  count : l.i-end ≡ length l.locations;
  done : Done (all (numbered name_part 0 (take l.i (map location_name l.locations)))) l.ended l.initial.run l.run;
}
