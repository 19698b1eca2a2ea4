use Rattle.std.proofs.Common.{◌≡◌, ℕ, List, bytes_eq, find, is_some, take, true}
use Rattle.gql_iface_rules.specs.Alike.{IsAlike}
use Rattle.gql_types.specs.Schemas.{type_named}
use Rattle.gql_iface_rules.proofs.alike.are_all_alike.Given as goal

abbrev pub invariant-loop-name : goal.invariant-loop-name
invariant-loop-name l = (q : List ℕ) → is_some (find (bytes_eq q) (take l.name-index l.names)) ≡ true
    → IsAlike l.may_come (type_named l.before q) (type_named l.after q)
