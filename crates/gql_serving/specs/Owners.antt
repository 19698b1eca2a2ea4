-- Helper definitions for contracts: sets of owners.
use Rattle.std.specs.Prelude.{◌≡◌, List, Bool, Option, Some, None, false}
use Rattle.std.specs.HashSet.{contains}
use Rattle.std.specs.List.{list_any}
use Rattle.std.specs.Ordering.{eq_by_cmp}
use Rattle.gql_ast.specs.declared.fault.Fault.{Fault}
use Rattle.gql_ast.specs.declared.fault.FilePlace.{FilePlace}
use Rattle.gql_report.specs.Order.{place_order}
use Rattle.gql_serving.specs.declared.owner.Owners.{Owners}

-- whether two places are one
abbrev pub same_place : FilePlace → FilePlace → Bool
same_place = eq_by_cmp place_order

-- whether an owner is there, and at this place
abbrev pub owned_at : FilePlace → Option FilePlace → Bool
owned_at p None = false
owned_at p (Some q) = same_place p q

-- whether the owner of a fault is at this place
abbrev pub is_owner : FilePlace → Fault → Bool
is_owner p f = owned_at p f.owner

-- these are the owners of the faults
abbrev pub AreOwnersOf : List Fault → Owners → Type 0
AreOwnersOf faults owners = (p : FilePlace)
    → contains same_place owners.places p ≡ list_any (is_owner p) faults

-- these are the owners at the places
abbrev pub AreAt : List FilePlace → Owners → Type 0
AreAt places owners = (p : FilePlace)
    → contains same_place owners.places p ≡ list_any (same_place p) places
