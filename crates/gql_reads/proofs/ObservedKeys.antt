-- Which keys answers observed.
use Rattle.std.proofs.Common.{◌≡◌, inl, inr, ℕ, List, [], ◌∷◌, refl, sym, subst, Contains}
use Rattle.gql_facts.specs.declared.key.Key.{Key}
use Rattle.gql_facts.specs.declared.key.Key.TheVariants as key
use Rattle.gql_facts.specs.ListMembers.{Contains-nil, Contains-here, Contains-there, Contains-cases, Contains-map, Contains-flat_map, Contains-flat_map_from}
use Rattle.gql_facts.specs.Reads.{type_reads}
use Rattle.gql_reads.specs.Observations.{about, about_all, keys_of, observed, observed_in}
use Rattle.gql_reads.specs.declared.observation.Answer.{Answer}
use Rattle.gql_reads.specs.declared.observation.Observation.{Observation}
use Rattle.gql_reads.specs.declared.observation.TypeAnswers.{TypeAnswers}
use Rattle.gql_reads.proofs.Members.{Contains-map_from}
use Rattle.gql_reads.proofs.Recorded.{about_key, key_about}

-- ---- the keys about a type

pub kind_read : (n : List ℕ) → Contains (type_reads n) (key.KindOf n)
kind_read n = Contains-here (key.KindOf n) (key.PossibleOf n ∷ key.InputOf n ∷ key.EnumOf n ∷ [])

pub possible_read : (n : List ℕ) → Contains (type_reads n) (key.PossibleOf n)
possible_read n = Contains-there (key.PossibleOf n) (key.KindOf n) (key.PossibleOf n ∷ key.InputOf n ∷ key.EnumOf n ∷ []) (Contains-here (key.PossibleOf n) (key.InputOf n ∷ key.EnumOf n ∷ []))

pub input_read : (n : List ℕ) → Contains (type_reads n) (key.InputOf n)
input_read n = Contains-there (key.InputOf n) (key.KindOf n) (key.PossibleOf n ∷ key.InputOf n ∷ key.EnumOf n ∷ [])
    (Contains-there (key.InputOf n) (key.PossibleOf n) (key.InputOf n ∷ key.EnumOf n ∷ []) (Contains-here (key.InputOf n) (key.EnumOf n ∷ [])))

pub values_read : (n : List ℕ) → Contains (type_reads n) (key.EnumOf n)
values_read n = Contains-there (key.EnumOf n) (key.KindOf n) (key.PossibleOf n ∷ key.InputOf n ∷ key.EnumOf n ∷ [])
    (Contains-there (key.EnumOf n) (key.PossibleOf n) (key.InputOf n ∷ key.EnumOf n ∷ []) (Contains-there (key.EnumOf n) (key.InputOf n) (key.EnumOf n ∷ []) (Contains-here (key.EnumOf n) [])))

-- what holds of the four keys holds of each key about the type
pub about_each : (n : List ℕ) (P : Key → Type 0) → P (key.KindOf n) → P (key.PossibleOf n) → P (key.InputOf n) → P (key.EnumOf n) → (k : Key) → Contains (type_reads n) k → P k
about_each n P a b c d k h = elim (Contains-cases k (key.KindOf n) (key.PossibleOf n ∷ key.InputOf n ∷ key.EnumOf n ∷ []) h) [
  | inl e ↦ subst P (sym e) a
  | inr r ↦ elim (Contains-cases k (key.PossibleOf n) (key.InputOf n ∷ key.EnumOf n ∷ []) r) [
    | inl e ↦ subst P (sym e) b
    | inr s ↦ elim (Contains-cases k (key.InputOf n) (key.EnumOf n ∷ []) s) [
      | inl e ↦ subst P (sym e) c
      | inr t ↦ elim (Contains-cases k (key.EnumOf n) [] t) [ inl e ↦ subst P (sym e) d | inr u ↦ absurd (Contains-nil k u) ]
    ]
  ]
]

-- such a key has the name
pub kind_named : (n m : List ℕ) → Contains (type_reads n) (key.KindOf m) → m ≡ n
kind_named n m h = about_each n (λ k. k ≡ key.KindOf m → m ≡ n) (λ e. cc e) (λ e. cc e) (λ e. cc e) (λ e. cc e) (key.KindOf m) h refl

pub possible_named : (n m : List ℕ) → Contains (type_reads n) (key.PossibleOf m) → m ≡ n
possible_named n m h = about_each n (λ k. k ≡ key.PossibleOf m → m ≡ n) (λ e. cc e) (λ e. cc e) (λ e. cc e) (λ e. cc e) (key.PossibleOf m) h refl

pub input_named : (n m : List ℕ) → Contains (type_reads n) (key.InputOf m) → m ≡ n
input_named n m h = about_each n (λ k. k ≡ key.InputOf m → m ≡ n) (λ e. cc e) (λ e. cc e) (λ e. cc e) (λ e. cc e) (key.InputOf m) h refl

pub values_named : (n m : List ℕ) → Contains (type_reads n) (key.EnumOf m) → m ≡ n
values_named n m h = about_each n (λ k. k ≡ key.EnumOf m → m ≡ n) (λ e. cc e) (λ e. cc e) (λ e. cc e) (λ e. cc e) (key.EnumOf m) h refl

-- ---- lists of types and of answers

pub type_observed : (types : List TypeAnswers) (t : TypeAnswers) (k : Key) → Contains types t → Contains (type_reads t.name) k → Contains (keys_of (about_all types)) k
type_observed types t k c h =
    let o = key_about t k h in
    subst (Contains (keys_of (about_all types))) o.2 (Contains-map (λ (x : Observation). x.key) (about_all types) o.0 (Contains-flat_map about types t o.0 c o.1))

pub observed_type : (types : List TypeAnswers) (k : Key) → Contains (keys_of (about_all types)) k → (t : TypeAnswers) × Contains types t × Contains (type_reads t.name) k
observed_type types k c =
    let m = Contains-map_from (λ (x : Observation). x.key) (about_all types) k c in
    let r = Contains-flat_map_from about types m.0 m.1 in
    (r.0, r.1, subst (Contains (type_reads r.0.name)) m.2 (about_key r.0 m.0 r.2))

pub answer_observed : (xs : List Answer) (a : Answer) (k : Key) → Contains xs a → Contains (keys_of (observed a)) k → Contains (keys_of (observed_in xs)) k
answer_observed xs a k c h =
    let m = Contains-map_from (λ (x : Observation). x.key) (observed a) k h in
    subst (Contains (keys_of (observed_in xs))) m.2 (Contains-map (λ (x : Observation). x.key) (observed_in xs) m.0 (Contains-flat_map observed xs a m.0 c m.1))

pub observed_answer : (xs : List Answer) (k : Key) → Contains (keys_of (observed_in xs)) k → (a : Answer) × Contains xs a × Contains (keys_of (observed a)) k
observed_answer xs k c =
    let m = Contains-map_from (λ (x : Observation). x.key) (observed_in xs) k c in
    let r = Contains-flat_map_from observed xs m.0 m.1 in
    (r.0, r.1, subst (Contains (keys_of (observed r.0))) m.2 (Contains-map (λ (x : Observation). x.key) (observed r.0) m.0 r.2))

pub answer_itself : (a : Answer) → Contains (keys_of (observed a)) a.observation.key
answer_itself a = Contains-here a.observation.key (keys_of (about_all a.types))

pub answer_type : (a : Answer) (k : Key) → Contains (keys_of (about_all a.types)) k → Contains (keys_of (observed a)) k
answer_type a k c = Contains-there k a.observation.key (keys_of (about_all a.types)) c
