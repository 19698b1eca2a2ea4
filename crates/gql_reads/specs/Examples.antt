-- Worked examples of what an answer observed.
use Rattle.std.specs.Prelude.{◌≡◌, [], ◌∷◌, codes, refl}
use Rattle.gql_facts.specs.declared.fact.Fact.TheVariants as fact
use Rattle.gql_facts.specs.declared.key.Key.TheVariants as key
use Rattle.gql_types.specs.declared.kind.TypeKind.TheVariants as kind
use Rattle.gql_reads.specs.Observations.{keys_of, observed, observed_in}
use Rattle.gql_reads.specs.declared.observation.Answer.{Answer}
use Rattle.gql_reads.specs.declared.observation.TypeAnswers.{TypeAnswers}

-- a scalar type
abbrev scalar : TypeAnswers
scalar = record {
  name = codes "Date";
  kind = fact.Kind kind.Scalar;
  possible = fact.Absent;
  input = fact.Absent;
  values = fact.Absent;
}

-- An answer for a field that leads to it, and one for a field that is not there. Which fact the first is
-- makes no difference to the keys.
abbrev found : Answer
found = record { observation = record { key = key.FieldOf (codes "Query") (codes "day"); fact = fact.Absent }; types = scalar ∷ [] }

abbrev missing : Answer
missing = record { observation = record { key = key.FieldOf (codes "Query") (codes "x"); fact = fact.Absent }; types = [] }

-- of a key, the key itself is observed, and then four keys about each type that its answer leads to
example_type : keys_of (observed found)
    ≡ key.FieldOf (codes "Query") (codes "day") ∷ key.KindOf (codes "Date") ∷ key.PossibleOf (codes "Date")
    ∷ key.InputOf (codes "Date") ∷ key.EnumOf (codes "Date") ∷ []
example_type = refl

-- an absence is observed, too
example_absence : keys_of (observed_in (missing ∷ [])) ≡ key.FieldOf (codes "Query") (codes "x") ∷ []
example_absence = refl
