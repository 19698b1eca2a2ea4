-- Names that lead to names.
use Rattle.std.specs.Prelude.{◌≡◌, ℕ, List, map, Contains}
use Rattle.gql_cycles.specs.declared.names.Row.{Row}

-- a name, and the names to which it leads
pub record Steps : Type 0 where
  pub name : List ℕ
  pub leads : List (List ℕ)

-- there is a step from a to b: a row of a leads to b
abbrev pub IsStep : List Steps → List ℕ → List ℕ → Type 0
IsStep rows a b = (r : Steps) × Contains rows r × (r.name ≡ a) × Contains r.leads b

-- a name leads to another by one or more steps
pub data Leads (rows : List Steps) : List ℕ → List ℕ → Type 0 where
  one : {a b : List ℕ} → IsStep rows a b → Leads rows a b
  more : {a b c : List ℕ} → IsStep rows a b → Leads rows b c → Leads rows a c

-- a row of the code, as contracts see it
abbrev pub row_of : Row → Steps
row_of r = record { name = r.name.now; leads = map (λ b. b.now) r.leads.items }
