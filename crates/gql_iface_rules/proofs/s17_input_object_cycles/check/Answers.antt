use Rattle.std.proofs.Common.{◌++◌, ap, ◌∙◌, map, flat_map}
use Rattle.gql_iface_rules.specs.S17InputObjectCycles.{IsFault, fault_at_type}
use Rattle.gql_iface_rules.proofs.Members.{added}
use Rattle.gql_iface_rules.proofs.s17_input_object_cycles.check.Goals as goal

pub returns-clause-faults : goal.returns-clause-faults
returns-clause-faults c =
    let s = c.args.schema.now in
    let old = c.args.faults.now.items in
    added (fault_at_type s) (map (λ n. n.now) c.in_ok-names.names.items) old c.add_at_types.new.faults.items (IsFault s)
    (c.in_ok-add_at_types.ensures ∙ ap (λ xs. old ++ flat_map (fault_at_type s) (map (λ n. n.now) xs)) c.as_slice.ensures.value)
    (λ x a h g. (x, c.in_ok-names.ensures.sound x h, g))
    (λ a p. (p.0, c.in_ok-names.ensures.complete p.0 p.1, p.2))
