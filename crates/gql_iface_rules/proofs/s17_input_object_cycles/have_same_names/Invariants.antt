use Rattle.std.proofs.Common.{◌≡◌, map, take}
use Rattle.gql_iface_rules.proofs.s17_input_object_cycles.have_same_names.Given as goal

abbrev pub invariant-loop-i : goal.invariant-loop-i
invariant-loop-i l = map (λ n. n.now) (take l.i l.names) ≡ map (λ n. n.now) (take l.i l.others)
