use Rattle.std.proofs.Common.{◌≡◌, ℕ, List, map, take, is_some, bytes_eq}
use Rattle.std.specs.HashMap as hash
use Rattle.std.specs.List.{list_any}
use Rattle.gql_faults.specs.Places.{named}
use Rattle.gql_node_rules.proofs.s32_bad_arguments.texts.Given as goal

abbrev pub invariant-loop-name : goal.invariant-loop-name
invariant-loop-name l = (q : List ℕ) → is_some (hash.get_by (λ k. bytes_eq q k.now) l.texts) ≡ list_any (λ n. bytes_eq q n.node.text) (map named (take l.name-index l.names))
