-- Helper definitions for private contracts: observations that a removal leaves as they are.
use Rattle.std.specs.Prelude.{◌≡◌, List, Contains}
use Rattle.gql_reads.specs.declared.observation.Observation.{Observation}
use Rattle.gql_removal.specs.Removals.{left}
use Rattle.gql_removal.specs.declared.removal.Removal.{Removal}

-- of each observed fact, all is left
abbrev pub AreLeft : Removal → List Observation → Type 0
AreLeft r observations = (o : Observation) → Contains observations o → left r o.key o.fact ≡ o.fact
