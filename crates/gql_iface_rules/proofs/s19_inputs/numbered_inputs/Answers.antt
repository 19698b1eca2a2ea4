use Rattle.std.proofs.Common.{map, length, rules, arith}
use Rattle.std.proofs.lemmas.Grind.{common_steps}
use Rattle.gql_iface_rules.specs.S19Inputs.{numbered}
use Rattle.gql_iface_rules.proofs.S19Steps.{numbered_step}
use Rattle.gql_iface_rules.proofs.s19_inputs.numbered_inputs.Goals as goal

pub loop-field-preserved : goal.loop-field-preserved
loop-field-preserved c = record {
  all = grind (arith, common_steps, c);
  count = grind (arith, common_steps, c);
  numbers = numbered_step (length c.args.all.now.items) c.as_slice-field-items.result.now c.loop-field.field-index c.len-number.result c.field-item.result
      (map numbered c.loop-field.inputs.items) (map numbered c.push-in-loop-field.new.self.items) (search rules) (search rules)
      c.loop-field.invariant.numbers (grind (arith, common_steps, c)) (grind (arith, common_steps, c));
}
