-- What was observed of a world: keys, each with the answer that it had.
use Rattle.std.specs.Prelude.{◌≡◌, List, [], ◌∷◌, map, flat_map, Contains}
use Rattle.gql_facts.specs.Worlds.{Facts}
use Rattle.gql_facts.specs.declared.key.Key.{Key}
use Rattle.gql_facts.specs.declared.key.Key.TheVariants as key
use Rattle.gql_reads.specs.declared.observation.Answer.{Answer}
use Rattle.gql_reads.specs.declared.observation.Observation.{Observation}
use Rattle.gql_reads.specs.declared.observation.TypeAnswers.{TypeAnswers}

-- each observed key has the answer that it had
abbrev pub Hold : Facts → List Observation → Type 0
Hold facts observations = (o : Observation) → Contains observations o → facts o.key ≡ o.fact

-- some observation does not hold
abbrev pub IsBroken : Facts → List Observation → Type 0
IsBroken facts observations =
    (o : Observation) × Contains observations o × (facts o.key ≡ o.fact → ⊥)

-- the observed keys
abbrev pub keys_of : List Observation → List Key
keys_of observations = map (λ (o : Observation). o.key) observations

-- what was observed of a type
abbrev pub about : TypeAnswers → List Observation
about t = record { key = key.KindOf t.name; fact = t.kind }
    ∷ record { key = key.PossibleOf t.name; fact = t.possible }
    ∷ record { key = key.InputOf t.name; fact = t.input }
    ∷ record { key = key.EnumOf t.name; fact = t.values } ∷ []

-- what was observed of these types
abbrev pub about_all : List TypeAnswers → List Observation
about_all = flat_map about

-- what was observed of a key and of the types that its answer leads to
abbrev pub observed : Answer → List Observation
observed a = a.observation ∷ about_all a.types

-- all that these answers observed
abbrev pub observed_in : List Answer → List Observation
observed_in = flat_map observed
