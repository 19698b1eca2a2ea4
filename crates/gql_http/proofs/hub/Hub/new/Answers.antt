use Rattle.std.proofs.Common.{◌≡◌, ℕ, zero, suc, List, [], ◌∷◌, Option, None, get_or, refl}
use Rattle.gql_wire.specs.Framing.{Framing}
use Rattle.gql_http.specs.Limits.{bytes_of}
use Rattle.gql_http.proofs.hub.Hub.new.Goals as goal

-- so many closed connections
abbrev closed : ℕ → List (Option Framing)
closed zero = []
closed (suc k) = None ∷ closed k

-- each of them is closed, and there are no others
each_is_closed : (k n : ℕ) → bytes_of (get_or (closed k) n None) ≡ None
each_is_closed zero zero = refl
each_is_closed zero (suc n) = refl
each_is_closed (suc k) zero = refl
each_is_closed (suc k) (suc n) = each_is_closed k n

pub returns-clause-closed : goal.returns-clause-closed
returns-clause-closed c = λ i n. each_is_closed 16 n i
