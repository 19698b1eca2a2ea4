-- What was observed of types and of answers: that it holds, or that some of it does not.
use Rattle.std.specs.Prelude.{MatchBool}
use Rattle.std.proofs.Common.{◌≡◌, inl, inr, ℕ, ◌+◌, ◌<◌, List, [], ◌∷◌, Bool, true, false, flat_map, get_or, length, refl, sym, subst, take, Contains}
use Rattle.gql_facts.specs.ListMembers.{Contains-nil, Contains-there, Contains-cases, Contains-flat_map, Contains-flat_map_from}
use Rattle.gql_facts.specs.Worlds.{Facts}
use Rattle.gql_facts.specs.declared.key.Key.TheVariants as key
use Rattle.gql_reads.specs.Observations.{Hold, IsBroken, about, about_all, observed}
use Rattle.gql_reads.specs.declared.observation.Answer.{Answer}
use Rattle.gql_reads.specs.declared.observation.Observation.{Observation}
use Rattle.gql_reads.specs.declared.observation.TypeAnswers.{TypeAnswers}
use Rattle.gql_reads.proofs.Led.{input_of, kind_of, possible_of, values_about, values_of}
use Rattle.gql_reads.proofs.Recorded.{answer_here}
use Rattle.gql_reads.proofs.Takes.{seen_more}

abbrev IsSo : Facts → Observation → Type 0
IsSo F o = F o.key ≡ o.fact

-- a type
module _ (F : Facts) (t : TypeAnswers) (kind : F (key.KindOf t.name) ≡ t.kind) (possible : F (key.PossibleOf t.name) ≡ t.possible) (input : F (key.InputOf t.name) ≡ t.input) where
  pub type_held : F (key.EnumOf t.name) ≡ t.values → Hold F (about t)
  type_held values o c = elim (Contains-cases o (kind_of t) (possible_of t ∷ input_of t ∷ values_of t ∷ []) c) [
    | inl e ↦ subst (IsSo F) (sym e) kind
    | inr r ↦ elim (Contains-cases o (possible_of t) (input_of t ∷ values_of t ∷ []) r) [
      | inl e ↦ subst (IsSo F) (sym e) possible
      | inr s ↦ elim (Contains-cases o (input_of t) (values_of t ∷ []) s) [
        | inl e ↦ subst (IsSo F) (sym e) input
        | inr u ↦ elim (Contains-cases o (values_of t) [] u) [ inl e ↦ subst (IsSo F) (sym e) values | inr v ↦ absurd (Contains-nil o v) ]
      ]
    ]
  ]

  pub type_either : (b : Bool) → (b ≡ true → F (key.EnumOf t.name) ≡ t.values) → (F (key.EnumOf t.name) ≡ t.values → b ≡ true) → MatchBool b (Hold F (about t)) (IsBroken F (about t))
  type_either true to from = type_held (to refl)
  type_either false to from = (values_of t, values_about t, λ h. let z : false ≡ true = from h in cc z)

-- lists, of types and of answers
module _ {A : Type 0} (f : A → List Observation) (F : Facts) (xs : List A) (i : ℕ) (x : A) (lt : i < length xs) (is : x ≡ get_or xs i x) where
  pub held_more : Hold F (flat_map f (take i xs)) → Hold F (f x) → Hold F (flat_map f (take (i + 1) xs))
  held_more before here o c =
      let r = Contains-flat_map_from f (take (i + 1) xs) o c in
      elim (seen_more xs i x lt is r.0 r.1) [
        | inl s ↦ before o (Contains-flat_map f (take i xs) r.0 o s r.2)
        | inr e ↦ here o (subst (λ y. Contains (f y) o) (sym e) r.2)
      ]

  pub broken_one : IsBroken F (f x) → IsBroken F (flat_map f xs)
  broken_one b = (b.0, Contains-flat_map f xs x b.0 (i, lt, sym is) b.1, b.2)

-- an answer, and the types that it leads to
module _ (F : Facts) (a : Answer) where
  pub answer_held : IsSo F a.observation → Hold F (about_all a.types) → Hold F (observed a)
  answer_held here types o c = elim (Contains-cases o a.observation (about_all a.types) c) [ inl e ↦ subst (IsSo F) (sym e) here | inr r ↦ types o r ]

  pub answer_either : (b : Bool) → IsSo F a.observation → MatchBool b (Hold F (about_all a.types)) (IsBroken F (about_all a.types)) → MatchBool b (Hold F (observed a)) (IsBroken F (observed a))
  answer_either true here types = answer_held here types
  answer_either false here b = (b.0, Contains-there b.0 a.observation (about_all a.types) b.1, b.2)

  pub answer_broken : (IsSo F a.observation → ⊥) → IsBroken F (observed a)
  answer_broken never = (a.observation, answer_here a, never)
