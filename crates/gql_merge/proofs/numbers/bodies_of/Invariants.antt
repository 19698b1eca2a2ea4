use Rattle.std.proofs.Common.{◌≡◌, ◌++◌, bytes_eq, drop, flat_map, length, map, take}
use Rattle.std.specs.HashMap as hash
use Rattle.gql_merge.specs.Numbers.{direct_from, spreads_of}
use Rattle.gql_merge.specs.declared.flat.FlatSet.{FlatSet}
use Rattle.gql_merge.proofs.numbers.bodies_of.Given as goal

abbrev pub invariant-loop-set : goal.invariant-loop-set
invariant-loop-set l = record {
  all : l.all.items ≡ l.initial.all.items ++ flat_map (λ (s : FlatSet). s.fields.items) (take l.set-index l.sets);
  direct : map (λ b. b.fields.items) l.bodies.items ++ direct_from (length l.all.items) (drop l.set-index l.sets) ≡ direct_from (length l.initial.all.items) l.sets;
  spreads : map (λ b. b.spreads.items) l.bodies.items ≡ map (spreads_of (λ q. hash.get_by (λ k. bytes_eq q k.now) l.fragments)) (take l.set-index l.sets);
}
