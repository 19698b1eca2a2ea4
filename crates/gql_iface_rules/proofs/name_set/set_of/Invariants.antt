use Rattle.std.proofs.Common.{◌≡◌, ℕ, List, is_some, bytes_eq, take}
use Rattle.std.specs.HashMap as hash
use Rattle.gql_types.specs.Covariance.{is_among}
use Rattle.gql_iface_rules.proofs.name_set.set_of.Given as goal

abbrev pub invariant-loop-name : goal.invariant-loop-name
invariant-loop-name l = (q : List ℕ) → is_some (hash.get_by (λ k. bytes_eq q k.now) l.set) ≡ is_among q (take l.name-index l.names)
