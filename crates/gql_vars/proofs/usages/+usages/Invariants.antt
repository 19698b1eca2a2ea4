use Rattle.std.proofs.Common.{◌≡◌, ◌++◌, flat_map, map, take}
use Rattle.gql_ast.specs.declared.literal.Literal.{Literal}
use Rattle.gql_inputs.specs.ExpectedTypes.{written_of}
use Rattle.gql_inputs.specs.Lookups.{fields_in}
use Rattle.gql_inputs.specs.Values.{given_field, value_of}
use Rattle.gql_rules.specs.KnownInputs.{form_of}
use Rattle.gql_vars.specs.Misuses.{item_misuses, field_misuses}
use Rattle.gql_vars.proofs.usages.+usages.Given as goal

abbrev pub invariant-check_items-loop-item : goal.invariant-check_items-loop-item
invariant-check_items-loop-item g l =
    let F = g.W.World.facts l.initial.world in
    record {
      same_facts : g.W.World.facts l.world ≡ F;
      same_names : g.W.World.names l.world ≡ g.W.World.names l.initial.world;
      same_lent : g.W.World.lent l.world ≡ g.W.World.lent l.initial.world;
      found : l.faults.items ≡ l.initial.faults.items
          ++ flat_map (λ (x : Literal). item_misuses F l.check (written_of l.expected) (value_of x)) (take l.item-index l.items);
    }

abbrev pub invariant-check_fields-loop-field : goal.invariant-check_fields-loop-field
invariant-check_fields-loop-field g l =
    let F = g.W.World.facts l.initial.world in
    record {
      same_facts : g.W.World.facts l.world ≡ F;
      same_names : g.W.World.names l.world ≡ g.W.World.names l.initial.world;
      same_lent : g.W.World.lent l.world ≡ g.W.World.lent l.initial.world;
      found : l.faults.items ≡ l.initial.faults.items
          ++ flat_map (field_misuses F l.check (fields_in (form_of l.of_type))) (map given_field (take l.field-index l.fields));
    }
