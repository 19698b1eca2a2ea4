use Rattle.std.proofs.Common.{◌≡◌, map, take}
use Rattle.gql_types.proofs.possible.objects_in.Given as goal

abbrev pub invariant-loop-declaration : goal.invariant-loop-declaration
invariant-loop-declaration l = map (λ n. n.now) l.names.items ≡ map (λ d. d.object.now) (map (λ x. x.now) (take l.declaration-index l.group))
