-- One more definition, kept or examined.
use Rattle.std.proofs.Common.{◌≡◌, ℕ, ◌+◌, ◌<◌, ◌⊎◌, inl, inr, List, [], ◌∷◌, ◌++◌, length, map, take, drop, get_or, sym, ◌∙◌, ap, subst, refl, Contains, append_assoc, append-nil, Bool, true, false, None}
use Rattle.std.specs.List.{AllZip}
use Rattle.std.proofs.lemmas.List.{take-append-drop, map-append}
use Rattle.std.proofs.lemmas.List.Elements.{Contains-append_left, Contains-push, Contains-push_cases}
use Rattle.gql_ast.specs.Trees.{id_of}
use Rattle.gql_ast.specs.declared.definition.Definition.{Definition}
use Rattle.gql_ast.specs.declared.definition.DefinitionId.{DefinitionId}
use Rattle.gql_facts.specs.Worlds.{Facts}
use Rattle.gql_facts.specs.ListMembers.{Contains-nil, Contains-here, Contains-cases, either}
use Rattle.gql_facts.specs.Members.{Lists}
use Rattle.gql_facts.specs.Reads.{Reads}
use Rattle.gql_merge.specs.Between.{name_of}
use Rattle.gql_pairs.specs.Groups.{KeptGroup}
use Rattle.gql_pairs.specs.Tables.{Keeps}
use Rattle.gql_reads.specs.Observations.{Hold, IsBroken, keys_of}
use Rattle.gql_verdict.specs.Verdicts.{Judgement}
use Rattle.gql_verdict.specs.Shelves.{HasDuePairs, HasPairsOf, IsDue, Picks, pick_none, skip, pick, IsDueWork, IsStepWork, IsWholeDueWork}
use Rattle.gql_verdict.specs.TouchedFacts.{touches, touches_definition, HoldWhere, IsKnown, IsOtherKept}
use Rattle.gql_verdict.specs.declared.touched.Touched.{Touched}
use Rattle.gql_verdict.specs.declared.touched.Touched.TheVariants.{All, File, Schema}
use Rattle.gql_verdict.specs.Plans.{IsStep}
use Rattle.gql_verdict.specs.Slots.{IsAt, ids_of, verdicts, IsInOrder, IsFound}
use Rattle.gql_verdict.specs.declared.slot.Slot.{Slot}
use Rattle.gql_verdict.specs.declared.slot.Slot.TheVariants.{Here, At}
use Rattle.gql_reads.proofs.Members.{Contains-map_from}
use Rattle.gql_verdict.proofs.Seen.{seen_more, take_next}
use Rattle.gql_verdict.proofs.LedTo.{verdicts_append}
use Rattle.gql_verdict.proofs.Ordered.{same_verdict, kept_at}

pub picks_rest : (xs ys zs : List Definition) → Picks xs ys → Picks xs (ys ++ zs)
picks_rest xs ys [] p = subst (λ ws. Picks xs ws) (sym (append-nil ys)) p
picks_rest xs ys (z ∷ zs) p = subst (λ ws. Picks xs ws) (append_assoc ys (z ∷ []) zs) (picks_rest xs (ys ++ z ∷ []) zs (skip z p))

module _ (F : Facts) (kept : List Judgement) (ds : List Definition) where
  pub work_none : (m : List DefinitionId) → IsDueWork F kept [] m m
  work_none m = record { work = []; picks = pick_none; entries = sym (append-nil m); due = λ d c. absurd (Contains-nil d c) }

  pub whole_none : (m : List DefinitionId) → IsWholeDueWork F kept [] m m
  whole_none m = (work_none m, λ d c due. absurd (Contains-nil d c))

  -- what was written down so far is for all as well
  pub work_all : (i : ℕ) (old new : List DefinitionId) → IsDueWork F kept (take i ds) old new → IsDueWork F kept ds old new
  work_all i old new w = record { work = w.work; picks = subst (λ ws. Picks w.work ws) (take-append-drop i ds) (picks_rest w.work (take i ds) (drop i ds) w.picks); entries = w.entries; due = w.due }

  -- one more definition, which was due or not
  pub whole_more : (i : ℕ) (d : Definition) → i < length ds → d ≡ get_or ds i d → (old mid new : List DefinitionId) → IsWholeDueWork F kept (take i ds) old mid → IsStepWork F kept d mid new → IsWholeDueWork F kept (take (i + 1) ds) old new
  whole_more i d lt is old mid new (w, all) (inl (other, e)) = (
    record { work = w.work; picks = subst (λ ws. Picks w.work ws) (sym (take_next ds i d lt is)) (skip d w.picks); entries = e ∙ w.entries; due = w.due },
    λ c h due. elim (seen_more ds i d lt is c h) [ inl o ↦ all c o due | inr q ↦ absurd (other (subst (λ z. IsDue F kept z) (sym q) due)) ],
  )
  whole_more i d lt is old mid new (w, all) (inr s) = (
    record {
      work = w.work ++ d ∷ [];
      picks = subst (λ ws. Picks (w.work ++ d ∷ []) ws) (sym (take_next ds i d lt is)) (pick d w.picks);
      entries = s.1 ∙ (ap (λ xs. xs ++ id_of d ∷ []) w.entries ∙ (append_assoc old (map id_of w.work) (id_of d ∷ []) ∙ ap (λ xs. old ++ xs) (sym (map-append id_of w.work (d ∷ [])))));
      due = λ c h. elim (Contains-push_cases w.work d c h) [ inl o ↦ w.due c o | inr q ↦ subst (λ z. IsDue F kept z) q s.0 ];
    },
    λ c h due. elim (seen_more ds i d lt is c h) [ inl o ↦ Contains-append_left w.work (d ∷ []) c (all c o due) | inr q ↦ subst (λ z. Contains (w.work ++ d ∷ []) z) q (Contains-push w.work d) ],
  )

-- both lists grow by a pair that is related
pub zip_push : {A B : Type 0} (R : A → B → Type 0) (xs : List A) (ys : List B) (x : A) (y : B) → AllZip R xs ys → R x y → AllZip R (xs ++ x ∷ []) (ys ++ y ∷ [])
zip_push R [] [] x y h r = (r, tt)
zip_push R [] (b ∷ bs) x y h r = absurd h
zip_push R (a ∷ us) [] x y h r = absurd h
zip_push R (a ∷ us) (b ∷ bs) x y h r = (h.0, zip_push R us bs x y h.1 r)

pub zip_more : {A B : Type 0} (R : A → B → Type 0) (xs : List A) (ys zs : List B) (i : ℕ) (x : A) (y : B) → i < length xs → x ≡ get_or xs i x → AllZip R (take i xs) ys → R x y → zs ≡ ys ++ y ∷ [] → AllZip R (take (i + 1) xs) zs
zip_more R xs ys zs i x y lt is h r e = subst (λ ws. AllZip R ws zs) (sym (take_next xs i x lt is)) (subst (λ ws. AllZip R (take i xs ++ x ∷ []) ws) (sym e) (zip_push R (take i xs) ys x y h r))

pub differs : (b : Bool) → b ≡ true → b ≡ false → ⊥
differs b t f = cc

-- all that was observed holds, where it holds in what the edit may have changed
pub holds_all : (F : Facts) (ds : List Definition) (kept : List Judgement) (t : Touched) → IsKnown F ds kept t → (v : Judgement) → Contains kept v → HoldWhere F t v.observations → Hold F v.observations
holds_all F ds kept All known v c h = λ o m. h o m refl
holds_all F ds kept (File edit) known v c h = λ o m. elim (either (touches (File edit) o.key)) [
  | inl y ↦ h o m y
  | inr n ↦ known.2.unchanged o.key n ∙ known.2.held v c o m
]
holds_all F ds kept (Schema edit) known v c h = λ o m. elim (either (touches (Schema edit) o.key)) [
  | inl y ↦ h o m y
  | inr n ↦ known.2.unchanged o.key n ∙ known.2.held v c o m
]

-- what is known of an edit is known of each definition
pub known_of_one : (F : Facts) (ds : List Definition) (d : Definition) (kept : List Judgement) (t : Touched) → Contains ds d → IsKnown F ds kept t → IsKnown F (d ∷ []) kept t
known_of_one F ds d kept All c known = tt
known_of_one F ds d kept (File edit) c known = (
  λ e h. known.0 e (elim (Contains-cases e d [] h) [ inl q ↦ subst (λ x. Contains ds x) (sym q) c | inr t ↦ absurd (Contains-nil e t) ]),
  known.1,
  known.2,
)
known_of_one F ds d kept (Schema edit) c known = (
  λ e h. known.0 e (elim (Contains-cases e d [] h) [ inl q ↦ subst (λ x. Contains ds x) (sym q) c | inr t ↦ absurd (Contains-nil e t) ]),
  known.1,
  known.2,
)

-- the verdict on a definition of its name is on a definition that is not touched
pub same_if_untouched : (slots : List Slot) → IsInOrder slots → (t : Touched) (d : Definition) → IsOtherKept d (verdicts slots) t
    → (j : ℕ) (v w : Judgement) → IsAt slots j v → v ≡ w → id_of v.def ≡ id_of d → touches_definition t d ≡ false → w.def ≡ d
same_if_untouched slots o t d others j v w at e p u =
    let m = Contains-map_from (λ (x : Judgement). x.def) (verdicts slots) d (others u) in
    let q : m.0 ≡ v = same_verdict (verdicts slots) o.order m.0 v m.1 (kept_at slots o j v at) (ap id_of m.2 ∙ sym p) in
    ap (λ (x : Judgement). x.def) (sym (q ∙ e)) ∙ m.2

-- what is known of an edit that touches this definition alone
pub other_kept : (F : Facts) (d : Definition) (kept : List Judgement) (t : Touched) → IsKnown F (d ∷ []) kept t → IsOtherKept d kept t
other_kept F d kept All known u = absurd (differs true refl u)
other_kept F d kept (File edit) known u = known.0 d (Contains-here d []) u
other_kept F d kept (Schema edit) known u = known.0 d (Contains-here d []) u

-- nothing was found for d
pub none_kept : (F : Facts) (slots : List Slot) (d : Definition) → IsFound slots (id_of d) None → IsDue F (verdicts slots) d
none_kept F slots d lacks = inl (λ v c e. lacks v c (ap id_of e))

-- the verdict found there is not of d, or has an observation that does not hold
pub found_bad : (F : Facts) (slots : List Slot) → IsInOrder slots → (d : Definition) (j : ℕ) (v : Judgement) → IsAt slots j v → id_of v.def ≡ id_of d → (v.def ≡ d → ⊥) ⊎ ((v.def ≡ d) × IsBroken F v.observations) → IsDue F (verdicts slots) d
found_bad F slots o d j v at p (inl other) = inl (λ w c e.
    let s : w ≡ v = same_verdict (verdicts slots) o.order w v c (kept_at slots o j v at) (ap id_of e ∙ sym p) in
    other (ap (λ (z : Judgement). z.def) (sym s) ∙ e))
found_bad F slots o d j v at p (inr broken) = inr (v, kept_at slots o j v at, broken.0, broken.1)

-- the verdict found there is of d and holds
pub found_good : (F : Facts) (slots : List Slot) → IsInOrder slots → (t : Touched) (d : Definition) → IsKnown F (d ∷ []) (verdicts slots) t → (j : ℕ) (v w : Judgement) → IsAt slots j v → v ≡ w → (w.def ≡ d) × HoldWhere F t w.observations → IsStep F slots d (At j)
found_good F slots o t d known j v w at e good =
    let g : (v.def ≡ d) × HoldWhere F t v.observations = subst (λ (z : Judgement). (z.def ≡ d) × HoldWhere F t z.observations) (sym e) good in
    let there = kept_at slots o j v at in
    let holds = holds_all F (d ∷ []) (verdicts slots) t known v there g.1 in
    let read = o.reads v there in
    (v, at, record { serves = record { def = g.0; holds = holds; keys = subst (λ e. Lists (keys_of v.observations) (Reads F e)) g.0 (read.keys F holds) }; read = read })

-- a definition whose verdict is kept is not due
pub not_due : (F : Facts) (slots : List Slot) → IsInOrder slots → (d : Definition) (j : ℕ) → IsStep F slots d (At j) → IsDue F (verdicts slots) d → ⊥
not_due F slots o d j (v, at, usable) (inl none) = none v (kept_at slots o j v at) usable.serves.def
not_due F slots o d j (v, at, usable) (inr (w, c, is, broken)) =
    let s : w ≡ v = same_verdict (verdicts slots) o.order w v c (kept_at slots o j v at) (ap id_of (is ∙ sym usable.serves.def)) in
    broken.2 (usable.serves.holds broken.0 (subst (λ (z : Judgement). Contains z.observations broken.0) s broken.1))

-- the meter has an entry for each new verdict
pub entries_more : (old mid new : List DefinitionId) (steps rest : List Slot) (s : Slot) → rest ≡ steps ++ s ∷ [] → mid ≡ old ++ ids_of (verdicts steps) → new ≡ mid ++ ids_of (verdicts (s ∷ []))
    → new ≡ old ++ ids_of (verdicts rest)
entries_more old mid new steps rest s is so_far more =
    more
    ∙ (ap (λ ids. ids ++ ids_of (verdicts (s ∷ []))) so_far
    ∙ (append_assoc old (ids_of (verdicts steps)) (ids_of (verdicts (s ∷ [])))
    ∙ ap (λ ids. old ++ ids) (sym (map-append (λ (v : Judgement). id_of v.def) (verdicts steps) (verdicts (s ∷ [])))
    ∙ ap ids_of (sym (verdicts_append steps (s ∷ [])) ∙ ap verdicts (sym is)))))

-- a step that is new, and one that is not
pub entry_here : (old new : List DefinitionId) (d : Definition) (v : Judgement) → v.def ≡ d → new ≡ old ++ id_of d ∷ [] → new ≡ old ++ ids_of (verdicts (Here v ∷ []))
entry_here old new d v is e = e ∙ ap (λ (x : Definition). old ++ id_of x ∷ []) (sym is)

pub entry_at : (old : List DefinitionId) (j : ℕ) → old ≡ old ++ ids_of (verdicts (At j ∷ []))
entry_at old j = sym (append-nil old)

-- ---- pairs of fragments

-- pairs that are kept are still there
pub pairs_stay : (F : Facts) (old new : List KeptGroup) (d : Definition) → Keeps old new → HasPairsOf F old d → HasPairsOf F new d
pairs_stay F old new d keeps has g h pair = let p = has g h pair in (p.0, keeps (name_of g) (name_of h) p.0 p.1)

-- those of one more definition, if it was due
pub pairs_more : (F : Facts) (kept : List Judgement) (ds : List Definition) (i : ℕ) (d : Definition) → i < length ds → d ≡ get_or ds i d → (old new : List KeptGroup) → Keeps old new
    → HasDuePairs F kept (take i ds) old → (IsDue F kept d → HasPairsOf F new d) → HasDuePairs F kept (take (i + 1) ds) new
pairs_more F kept ds i d lt is old new keeps before here e c due = elim (seen_more ds i d lt is e c) [
  | inl t ↦ pairs_stay F old new e keeps (before e t due)
  | inr q ↦ subst (λ x. HasPairsOf F new x) q (here (subst (λ x. IsDue F kept x) (sym q) due))
]

-- what was read at an index is the verdict there
pub read_at : (slots : List Slot) (j : ℕ) (v w : Judgement) (s : Slot) → IsAt slots j v → s ≡ get_or slots j s → s ≡ Here w → v ≡ w
read_at slots j v w s at is e = let q : Here v ≡ Here w = sym (at.is s) ∙ (sym is ∙ e) in cc

pub read_other : (slots : List Slot) (j k : ℕ) (v : Judgement) (s : Slot) → IsAt slots j v → s ≡ get_or slots j s → s ≡ At k → ⊥
read_other slots j k v s at is e = let q : Here v ≡ At k = sym (at.is s) ∙ (sym is ∙ e) in cc
