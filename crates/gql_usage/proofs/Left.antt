-- Observations that a removal leaves as they are.
use Rattle.std.proofs.Common.{◌≡◌, ◌∙◌, ℕ, ◌+◌, ◌<◌, List, [], ◌∷◌, ◌++◌, flat_map, get_or, length, take, Contains, ap, inl, inr, subst, sym}
use Rattle.std.proofs.lemmas.List.Elements.{Contains-append_cases}
use Rattle.gql_facts.specs.ListMembers.{Contains-nil, Contains-cases, Contains-flat_map, Contains-flat_map_from}
use Rattle.gql_facts.specs.Worlds.{Facts}
use Rattle.gql_facts.specs.declared.key.Key.TheVariants as key
use Rattle.gql_reads.specs.Observations.{Hold, about}
use Rattle.gql_reads.specs.declared.observation.Observation.{Observation}
use Rattle.gql_reads.specs.declared.observation.TypeAnswers.{TypeAnswers}
use Rattle.gql_reads.proofs.Led.{input_of, kind_of, possible_of, values_of}
use Rattle.gql_reads.proofs.Takes.{seen_more}
use Rattle.gql_removal.specs.Removals.{left, without}
use Rattle.gql_removal.specs.declared.removal.Removal.{Removal}
use Rattle.gql_usage.specs.Untouched.{AreLeft}

abbrev IsLeft : Removal → Observation → Type 0
IsLeft r o = left r o.key o.fact ≡ o.fact

pub none_left : (r : Removal) → AreLeft r []
none_left r o h = absurd (Contains-nil o h)

-- what was observed of a type
pub type_left : (r : Removal) (t : TypeAnswers) → left r (key.KindOf t.name) t.kind ≡ t.kind → left r (key.PossibleOf t.name) t.possible ≡ t.possible
    → left r (key.InputOf t.name) t.input ≡ t.input → left r (key.EnumOf t.name) t.values ≡ t.values → AreLeft r (about t)
type_left r t kind possible input values o c = elim (Contains-cases o (kind_of t) (possible_of t ∷ input_of t ∷ values_of t ∷ []) c) [
  | inl e ↦ subst (IsLeft r) (sym e) kind
  | inr d ↦ elim (Contains-cases o (possible_of t) (input_of t ∷ values_of t ∷ []) d) [
    | inl e ↦ subst (IsLeft r) (sym e) possible
    | inr s ↦ elim (Contains-cases o (input_of t) (values_of t ∷ []) s) [
      | inl e ↦ subst (IsLeft r) (sym e) input
      | inr u ↦ elim (Contains-cases o (values_of t) [] u) [ inl e ↦ subst (IsLeft r) (sym e) values | inr v ↦ absurd (Contains-nil o v) ]
    ]
  ]
]

-- one more of a list
module _ {A : Type 0} (f : A → List Observation) (r : Removal) (xs : List A) (i : ℕ) (x : A) (lt : i < length xs) (is : x ≡ get_or xs i x) where
  pub left_more : AreLeft r (flat_map f (take i xs)) → AreLeft r (f x) → AreLeft r (flat_map f (take (i + 1) xs))
  left_more before here o c =
      let d = Contains-flat_map_from f (take (i + 1) xs) o c in
      elim (seen_more xs i x lt is d.0 d.1) [
        | inl s ↦ before o (Contains-flat_map f (take i xs) d.0 o s d.2)
        | inr e ↦ here o (subst (λ y. Contains (f y) o) (sym e) d.2)
      ]

-- two lists
pub left_both : (r : Removal) (os ps : List Observation) → AreLeft r os → AreLeft r ps → AreLeft r (os ++ ps)
left_both r os ps p q o c = elim (Contains-append_cases os ps o c) [ inl a ↦ p o a | inr b ↦ q o b ]

pub left_first : (r : Removal) (o : Observation) (os : List Observation) → IsLeft r o → AreLeft r os → AreLeft r (o ∷ os)
left_first r o os p q x c = elim (Contains-cases x o os c) [ inl e ↦ subst (IsLeft r) (sym e) p | inr t ↦ q x t ]

-- what holds and is left as it is holds without the part
pub still_hold : (r : Removal) (facts : Facts) (os : List Observation) → AreLeft r os → Hold facts os → Hold (without r facts) os
still_hold r facts os kept hold o c = ap (left r o.key) (hold o c) ∙ kept o c
