-- What a verdict guarantees: the faults of a definition, and which keys it reads, wherever the
-- verdict's observations hold.
use Rattle.std.specs.Prelude.{◌≡◌, List}
use Rattle.gql_ast.specs.declared.definition.Definition.{Definition}
use Rattle.gql_ast.specs.declared.fault.Fault.{Fault}
use Rattle.gql_facts.specs.Members.{Lists}
use Rattle.gql_facts.specs.Reads.{Reads}
use Rattle.gql_facts.specs.Worlds.{Facts}
use Rattle.gql_verdict.specs.Faults.{IsFaultIn}
use Rattle.gql_reads.specs.Leading.{AreLed}
use Rattle.gql_reads.specs.Observations.{Hold, keys_of, observed_in}
use Rattle.gql_reads.specs.declared.observation.Answer.{Answer}
use Rattle.gql_reads.specs.declared.observation.Observation.{Observation}

-- these are the faults of d wherever the observations hold
abbrev pub IsCertificate : Definition → List Fault → List Observation → Type 0
IsCertificate d faults observations = (facts : Facts) → Hold facts observations
    → Lists faults (IsFaultIn facts d)

-- wherever the observations hold, their keys are exactly those that d reads
abbrev pub AreReadsOf : Definition → List Observation → Type 0
AreReadsOf d observations = (facts : Facts) → Hold facts observations
    → Lists (keys_of observations) (Reads facts d)

-- what is true of every verdict: wherever its observations hold, its faults are those of the
-- definition, and the keys that it observed are exactly those that the definition reads
pub record IsFounded (d : Definition) (faults : List Fault) (observations : List Observation)
    : Type 0 where
  pub certificate : IsCertificate d faults observations
  pub keys : AreReadsOf d observations

-- a verdict, as specifications see it: what it observed are the observations of its answers
pub record Judgement : Type 0 where
  pub def : Definition
  pub faults : List Fault
  pub observations : List Observation
  pub answers : List Answer

-- The observations are those of the answers, each of which has exactly the types that it leads to.
-- Wherever they hold, their keys are exactly those that the definition reads.
pub record IsRead (v : Judgement) : Type 0 where
  pub flat : v.observations ≡ observed_in v.answers
  pub led : AreLed v.answers
  pub keys : AreReadsOf v.def v.observations

-- The verdict on d that is made with these facts: it has a certificate, its observations hold, and
-- their keys are those that d reads.
pub record Judges (facts : Facts) (d : Definition) (v : Judgement) : Type 0 where
  pub def : v.def ≡ d
  pub certificate : IsCertificate v.def v.faults v.observations
  pub holds : Hold facts v.observations
  pub keys : Lists (keys_of v.observations) (Reads facts d)
  pub read : IsRead v
