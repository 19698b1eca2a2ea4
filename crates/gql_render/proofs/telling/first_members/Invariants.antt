use Rattle.std.proofs.Common.{◌≡◌, ℕ, take}
use Rattle.std.specs.HashSet.{contains}
use Rattle.std.specs.List.{list_any}
use Rattle.std.specs.Prelude.{nat_eq}
use Rattle.gql_render.specs.Telling.{first_member}
use Rattle.gql_render.proofs.telling.first_members.Given as goal

abbrev pub invariant-loop-cause : goal.invariant-loop-cause
invariant-loop-cause l = (q : ℕ) → contains nat_eq l.set q ≡ list_any (λ c. nat_eq (first_member c) q) (take l.cause-index l.causes)
