use Rattle.std.proofs.Common.{◌≡◌, ◌<◌, ℕ, [], map, length, get_or}
use Rattle.gql_ast.specs.declared.type_system.InputValueDefinition.{InputValueDefinition}
use Rattle.gql_built_in.specs.declared.sited.Sited.{Sited}
use Rattle.gql_iface_rules.specs.S19DefaultValueCycles.{default_values}
use Rattle.gql_iface_rules.specs.S19Inputs.{object}
use Rattle.gql_iface_rules.specs.S19Ranges.{AreMissing}
use Rattle.gql_iface_rules.proofs.s19_ranges.all_ranges.Given as goal

abbrev pub invariant-loop-field : goal.invariant-loop-field
invariant-loop-field l = record {
  count : length l.ranges.items ≡ l.field-index;
  ranges : (i : ℕ) (d : Sited InputValueDefinition) → i < l.field-index → AreMissing (default_values (map object l.objects) (get_or (map (λ f. f.now) l.fields) i d)) (get_or (map (λ v. v.items) l.ranges.items) i []);
}
