-- Helper definitions: bodies that a body spreads, and the pairs of them that have to be compared.
use Rattle.std.specs.Prelude.{◌≡◌, ◌⊎◌, ℕ, List, [], ◌∷◌, Bool, true, map, flat_map, Contains}
use Rattle.gql_clashes.specs.declared.sets.Mode.{Mode}
use Rattle.gql_clashes.specs.declared.sets.Mode.TheVariants.{Merge}
use Rattle.gql_clashes.specs.declared.sets.Sets.{Sets}
use Rattle.gql_clashes.specs.declared.search.Item.{Item}
use Rattle.gql_clashes.specs.Clashes.{IsClash, SeedsOf}
use Rattle.gql_clashes.specs.Compared.{item_of}
use Rattle.gql_clashes.specs.Numbered.{nodes_of}
use Rattle.gql_clashes.specs.Parts.{SpreadsTo}
use Rattle.gql_clashes.specs.PairsOf.{IsSpreadPair}
use Rattle.gql_clashes.specs.Search.{start_at}
use Rattle.gql_clashes.specs.Seen.{is_seen}

-- nothing clashes if the selections of this body are merged
abbrev pub IsCleanBody : Sets → ℕ → Type 0
IsCleanBody z c = (f g : ℕ) → (m : Mode)
    → IsClash (nodes_of z) (SeedsOf (nodes_of z) (c ∷ [])) f g m → ⊥

-- the body was seen
abbrev pub WasMet : List (List Bool) → ℕ → Type 0
WasMet rows t = is_seen rows (start_at t) ≡ true

-- what the bodies that were seen spread was seen
abbrev pub IsClosed : Sets → List (List Bool) → Type 0
IsClosed z rows = (t u : ℕ) → WasMet rows t → Contains ((nodes_of z).spreads t) u → WasMet rows u

-- the bodies that c spreads, itself among them, are now seen, and the new ones were found
pub record IsReach (z : Sets) (c : ℕ) (old new : List (List Bool)) (found : List ℕ) : Type 0 where
  pub here : WasMet new c
  pub kept : (t : ℕ) → WasMet old t → WasMet new t
  pub closed : IsClosed z new
  pub fresh : (t : ℕ) → WasMet new t → WasMet old t ⊎ Contains found t
  pub from : (t : ℕ) → Contains found t → SpreadsTo (nodes_of z) c t

-- a walk that goes on
pub record Reaching (z : Sets) (c : ℕ) (old new : List (List Bool)) (todo : List Item)
    (found : List ℕ) : Type 0 where
  pub here : WasMet new c
  pub kept : (x : Item) → is_seen old x ≡ true → is_seen new x ≡ true
  pub waits : (x : Item) → Contains todo x
      → (t : ℕ) × SpreadsTo (nodes_of z) c t × (x ≡ start_at t)
  pub from : (t : ℕ) → Contains found t → SpreadsTo (nodes_of z) c t
  pub done : (x : Item) → is_seen new x ≡ true → (is_seen old x ≡ true) ⊎ (Contains todo x
      ⊎ (Contains found x.left
      × ((u : ℕ) → Contains ((nodes_of z).spreads x.left) u → WasMet new u)))

-- the pairs of each of some bodies with each of others
abbrev pub across : List ℕ → List ℕ → List Item
across lefts rights = flat_map (λ t. map (λ u. item_of t u Merge) rights) lefts

-- a body that s spreads itself spreads both, in any number of steps
abbrev pub IsWithin : Sets → ℕ → ℕ → ℕ → Type 0
IsWithin z s t u = (c : ℕ) × Contains ((nodes_of z).spreads s) c
    × SpreadsTo (nodes_of z) c t × SpreadsTo (nodes_of z) c u

-- the pairs that s needs were added
pub record NeedsFor (z : Sets) (s : ℕ) (old new : List Item) : Type 0 where
  pub kept : (x : Item) → Contains old x → Contains new x
  pub from : (x : Item) → Contains new x → Contains old x
      ⊎ (SpreadsTo (nodes_of z) s x.left × SpreadsTo (nodes_of z) s x.right)
  pub has : (t u : ℕ) → SpreadsTo (nodes_of z) s t → SpreadsTo (nodes_of z) s u
      → Contains new (item_of t u Merge) ⊎ IsWithin z s t u

-- the pairs that s needs, as far as they were added: those for the bodies that are done
pub record Needing (z : Sets) (s : ℕ) (begun : List ℕ) (rows : List (List Bool)) (done : List ℕ)
    (old new : List Item) : Type 0 where
  pub here : Contains done s
  pub kept : (x : Item) → Contains old x → Contains new x
  pub from : (x : Item) → Contains new x → Contains old x
      ⊎ (SpreadsTo (nodes_of z) s x.left × SpreadsTo (nodes_of z) s x.right)
  pub closed : IsClosed z rows
  pub first : (c : ℕ) → Contains begun c → WasMet rows c
  pub met : (t : ℕ) → WasMet rows t → Contains done t
  pub reached : (t : ℕ) → Contains done t → SpreadsTo (nodes_of z) s t
  pub has : (t u : ℕ) → Contains done t → Contains done u
      → Contains new (item_of t u Merge) ⊎ IsWithin z s t u

-- the pairs that these bodies need
pub record AreNeeded (z : Sets) (bodies : List ℕ) (pairs : List Item) : Type 0 where
  pub from : (x : Item) → Contains pairs x → IsSpreadPair z bodies x.left x.right
  pub has : (s t u : ℕ) → Contains bodies s → SpreadsTo (nodes_of z) s t
      → SpreadsTo (nodes_of z) s u → Contains pairs (item_of t u Merge) ⊎ IsWithin z s t u

-- one of these bodies spreads t, in any number of steps, or is t
abbrev pub IsSpreadBy : Sets → List ℕ → ℕ → Type 0
IsSpreadBy z bodies t = (s : ℕ) × Contains bodies s × SpreadsTo (nodes_of z) s t

-- the bodies that these spread were found
pub record AreSpread (z : Sets) (bodies : List ℕ) (rows : List (List Bool)) (found : List ℕ)
    : Type 0 where
  pub closed : IsClosed z rows
  pub begun : (s : ℕ) → Contains bodies s → WasMet rows s
  pub met : (t : ℕ) → WasMet rows t → Contains found t
  pub from : (t : ℕ) → Contains found t → IsSpreadBy z bodies t
