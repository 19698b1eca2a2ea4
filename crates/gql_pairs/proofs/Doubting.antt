-- What answers in doubt may have broken.
use Rattle.std.specs.Prelude.{◌≡◌, ◌<◌, ◌+◌, ℕ, List, [], ◌∷◌, ◌++◌, length, false, refl, Contains}
use Rattle.std.proofs.Common.{sym, ◌∙◌, subst, inl, inr, get_or, take}
use Rattle.std.proofs.lemmas.List.Elements.{Contains-append_left, Contains-append_right}
use Rattle.gql_facts.specs.ListMembers.{Contains-cases, Contains-flat_map, Contains-flat_map_from, Contains-here, Contains-nil, Contains-there}
use Rattle.gql_facts.specs.Worlds.{Facts}
use Rattle.gql_facts.specs.declared.fact.FragmentFact.{FragmentFact}
use Rattle.gql_facts.specs.declared.key.Key.{Key}
use Rattle.gql_facts.specs.declared.key.Key.TheVariants as key
use Rattle.gql_merge.specs.Between.{name_of}
use Rattle.gql_reads.proofs.ObservedKeys.{about_each}
use Rattle.gql_reads.proofs.Recorded.{about_key}
use Rattle.gql_reads.proofs.Takes.{seen_more}
use Rattle.gql_reads.specs.Observations.{Hold, about, about_all, observed, observed_in}
use Rattle.gql_reads.specs.Readings.{own_name, seen_in}
use Rattle.gql_reads.specs.Records.{Kept}
use Rattle.gql_reads.specs.declared.observation.Answer.{Answer}
use Rattle.gql_reads.specs.declared.observation.Observation.{Observation}
use Rattle.gql_reads.specs.declared.observation.TypeAnswers.{TypeAnswers}
use Rattle.gql_pairs.specs.Doubts.{AllHoldUndoubted, HoldUndoubted, in_doubt, is_one}
use Rattle.gql_pairs.specs.Groups.{KeptGroup, pair_of}
use Rattle.gql_pairs.specs.Tables.{AllHold}
use Rattle.gql_pairs.specs.declared.doubt.Doubt.{Doubt}
use Rattle.gql_pairs.specs.declared.doubt.Doubt.TheVariants as doubt
use Rattle.gql_pairs.proofs.Entries.{pair_here, pair_holds}

-- no name, no doubt
pub nothing_doubted : (k : Key) → in_doubt (doubt.Fragments []) k ≡ false
nothing_doubted (key.KindOf n) = refl
nothing_doubted (key.FieldOf t n) = refl
nothing_doubted (key.PossibleOf n) = refl
nothing_doubted (key.InputOf n) = refl
nothing_doubted (key.EnumOf n) = refl
nothing_doubted (key.DirectiveOf n) = refl
nothing_doubted (key.RootOf n) = refl
nothing_doubted (key.FragmentOf n) = refl

-- no observation of these is in doubt
abbrev pub Undoubted : Doubt → List Observation → Type 0
Undoubted d os = (o : Observation) → Contains os o → in_doubt d o.key ≡ false

-- an answer, and those about the types that it leads to
pub answer_undoubted : (d : Doubt) (a : Answer) → in_doubt d a.observation.key ≡ false → Undoubted d (about_all a.types) → Undoubted d (observed a)
answer_undoubted d a here types o c = elim (Contains-cases o a.observation (about_all a.types) c) [
  | inl e ↦ subst (λ (p : Observation). in_doubt d p.key ≡ false) (sym e) here
  | inr t ↦ types o t
]

-- what was observed of types is of no fragment
pub no_fragments : (names : List (List ℕ)) (types : List TypeAnswers) → Undoubted (doubt.Fragments names) (about_all types)
no_fragments names types o c =
    let m = Contains-flat_map_from about types o c in
    about_each m.0.name (λ k. in_doubt (doubt.Fragments names) k ≡ false) refl refl refl refl o.key (about_key m.0 o m.2)

module _ (names : List (List ℕ)) (xs : List Answer) (i : ℕ) (x : Answer) (lt : i < length xs) (is : x ≡ get_or xs i x) where
  -- one answer more that is of no such fragment
  pub undoubted_more : Undoubted (doubt.Fragments names) (observed_in (take i xs)) → in_doubt (doubt.Fragments names) x.observation.key ≡ false
      → Undoubted (doubt.Fragments names) (observed_in (take (i + 1) xs))
  undoubted_more before here o c =
      let r = Contains-flat_map_from observed (take (i + 1) xs) o c in
      elim (seen_more xs i x lt is r.0 r.1) [
        | inl s ↦ before o (Contains-flat_map observed (take i xs) r.0 o s r.2)
        | inr e ↦ answer_undoubted (doubt.Fragments names) x here (no_fragments names x.types) o (subst (λ (a : Answer). Contains (observed a) o) (sym e) r.2)
      ]

-- what was observed of a type of another name
type_undoubted : (names : List (List ℕ)) (t : TypeAnswers) → is_one names t.name ≡ false → Undoubted (doubt.Types names) (about t)
type_undoubted names t other o c = about_each t.name (λ k. in_doubt (doubt.Types names) k ≡ false) other other other other o.key (about_key t o c)

module _ (names : List (List ℕ)) (xs : List TypeAnswers) (i : ℕ) (x : TypeAnswers) (lt : i < length xs) (is : x ≡ get_or xs i x) where
  pub types_more : Undoubted (doubt.Types names) (about_all (take i xs)) → is_one names x.name ≡ false → Undoubted (doubt.Types names) (about_all (take (i + 1) xs))
  types_more before other o c =
      let r = Contains-flat_map_from about (take (i + 1) xs) o c in
      elim (seen_more xs i x lt is r.0 r.1) [
        | inl s ↦ before o (Contains-flat_map about (take i xs) r.0 o s r.2)
        | inr e ↦ type_undoubted names x other o (subst (λ (t : TypeAnswers). Contains (about t) o) (sym e) r.2)
      ]

-- ---- a part of what was observed

module _ (F : Facts) (d : Doubt) where
  -- an answer among others
  pub held_answer : (xs : List Answer) (x : Answer) → Contains xs x → HoldUndoubted F d (observed_in xs) → HoldUndoubted F d (observed x)
  held_answer xs x at held o c = held o (Contains-flat_map observed xs x o at c)

  -- a part among others
  pub held_part : (parts : List Kept) (p : Kept) → Contains parts p → HoldUndoubted F d (seen_in parts) → HoldUndoubted F d (observed_in p.seen)
  held_part parts p at held o c = held o (Contains-flat_map (λ (q : Kept). observed_in q.seen) parts p o at c)

  -- the name, the own reads and the parts of a member
  module _ (g : FragmentFact) (own parts : List Observation) (held : HoldUndoubted F d (own_name g ∷ (own ++ parts))) where
    pub held_name : HoldUndoubted F d (own_name g ∷ [])
    held_name o c = elim (Contains-cases o (own_name g) [] c) [
      | inl e ↦ held o (subst (λ (p : Observation). Contains (own_name g ∷ (own ++ parts)) p) (sym e) (Contains-here (own_name g) (own ++ parts)))
      | inr t ↦ absurd (Contains-nil o t)
    ]

    pub held_own : HoldUndoubted F d own
    held_own o c = held o (Contains-there o (own_name g) (own ++ parts) (Contains-append_left own parts o c))

    pub held_parts : HoldUndoubted F d parts
    held_parts o c = held o (Contains-there o (own_name g) (own ++ parts) (Contains-append_right own parts o c))

pub undoubted_holds : (F : Facts) (d : Doubt) (os : List Observation) → HoldUndoubted F d os → Undoubted d os → Hold F os
undoubted_holds F d os held none o c = held o c (none o c)

-- where nothing is in doubt, all entries hold
pub all_undoubted : (F : Facts) (d : Doubt) (table : List KeptGroup) → AllHoldUndoubted F d table → ((k : Key) → in_doubt d k ≡ false) → AllHold F table
all_undoubted F d table held none n m k e = pair_holds F e.0 (λ x c o i. held e.0 e.1 x c o i (none o.key)) n m k e.2

-- entries that held before, and answers that have not changed
pub held_before : (F before : Facts) (d : Doubt) (table : List KeptGroup) → AllHold before table → ((k : Key) → in_doubt d k ≡ false → F k ≡ before k) → AllHoldUndoubted F d table
held_before F before d table hold same g cg x cx o co untouched =
    same o.key untouched ∙ hold (name_of x.fragment) (name_of x.fragment) (pair_of g x x) (g, cg, pair_here g x x cx cx) o (Contains-append_left x.observations x.observations o co)

-- where all answers are in doubt, nothing is known
pub all_doubted : (F : Facts) (table : List KeptGroup) → AllHoldUndoubted F doubt.All table
all_doubted F table g cg x cx o co untouched = absurd (cc untouched)
