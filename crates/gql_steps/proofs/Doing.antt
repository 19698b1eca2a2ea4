-- How steps of an execution come together.
use Rattle.std.proofs.Common.{◌≡◌, ℕ, zero, suc, ◌+◌, ◌<◌, ◌≤◌, List, [], ◌∷◌, ◌++◌, map, length, take, get_or, false, Result, Ok, Err, codes, refl, sym, ap, subst, ◌∙◌, arith, append_assoc, add-one}
use Rattle.std.proofs.Math.Seq.{take-append_seam}
use Rattle.std.proofs.lemmas.List.{map-append}
use Rattle.std.specs.Result.{IsErrAnd}
use Rattle.gql_steps.specs.declared.ended.Ended.{Ended}
use Rattle.gql_steps.specs.declared.ended.Ended.TheVariants.{Written, Bubbled}
use Rattle.gql_steps.specs.declared.run.Run.{Run}
use Rattle.gql_steps.specs.declared.outcome.Step.{Step}
use Rattle.gql_steps.specs.declared.refusal.ExecRefusal.{ExecRefusal}
use Rattle.gql_steps.specs.declared.refusal.ExecRefusal.TheVariants.{TooHeavy}
use Rattle.gql_steps.specs.Ended.{both}
use Rattle.gql_steps.specs.Outcomes.{segment_of}
use Rattle.gql_steps.specs.Parts.{Outcome, text, bubble, joined, Part, followed_by, plain, one, counted, comma, after_comma, within, all, numbered, has_own, settled, caught, or_null}
use Rattle.gql_steps.specs.Replies.{Segment, kept}
use Rattle.gql_steps.specs.States.{Leaves, Follows, Done, Executes, ended_of, path_of, error_of, errors_of}
use Rattle.gql_steps.proofs.Leaving.{leaves-joined, leaves-cut}
use Rattle.gql_steps.proofs.Parts.{kept-append, has_own-append, kept-below, has_own-below, all-more, weight-part}

ended-joined : (a b : Outcome) → both (ended_of a) (ended_of b) ≡ ended_of (joined a b)
ended-joined (text a) (text b) = refl
ended-joined (text a) bubble = refl
ended-joined bubble b = refl

pub follows-both : (a b : Part) (s t u : Run) → Follows a s t → Follows b t u → Follows (followed_by a b) s u
follows-both a b s t u f g = record {
  out = leaves-joined a.outcome b.outcome _ _ _ f.out g.out;
  errors = g.errors ∙ ap (λ es. es ++ kept t.raised b.notes) f.errors ∙ append_assoc (errors_of s) _ _
      ∙ ap (λ es. errors_of s ++ es) (ap (λ r. kept s.raised a.notes ++ kept r b.notes) f.raised ∙ sym (kept-append s.raised a.notes b.notes));
  raised = g.raised ∙ ap (λ r. has_own r b.notes) f.raised ∙ sym (has_own-append s.raised a.notes b.notes);
  path = g.path ∙ f.path;
  left = omega (arith, f.left, g.left);
}

pub done-both : (a b : Part) (d e : Ended) (s t u : Run) → Done a d s t → Done b e t u → Done (followed_by a b) (both d e) s u
done-both a b d e s t u f g = record {
  follows = follows-both a b s t u f.follows g.follows;
  ends = ap (λ x. both x e) f.ends ∙ ap (both (ended_of a.outcome)) g.ends ∙ ended-joined a.outcome b.outcome;
}

-- a part whose reply goes by the path
pub done-after : (a : Part) (b : List Segment → Part) (d e : Ended) (s t u : Run) → Done a d s t → Done (b (path_of t)) e t u → Done (followed_by a (b (path_of s))) (both d e) s u
done-after a b d e s t u f g = done-both a (b (path_of s)) d e s t u f (subst (λ p. Done (b (map segment_of p)) e t u) f.follows.path g)

-- too many values in a later part are too many in the whole
heavier : (a : Part) (w : ℕ) (s t : Run) → Follows a s t → t.left < w → s.left < a.weight + w
heavier a w s t f h = omega (arith, f.left, h)

pub executes-after : (a : Part) (b : List Segment → Part) (result : Result Ended ExecRefusal) (s t u : Run) → Done a Written s t → Executes (b (path_of t)) result t u → Executes (followed_by a (b (path_of s))) result s u
executes-after a b (Ok e) s t u f g = done-after a b Written e s t u f g
executes-after a b (Err stop) s t u f g = λ heavy. heavier a _ s t f.follows (subst (λ p. t.left < (b (map segment_of p)).weight) f.follows.path (g heavy))

-- ---- loops

module _ {A : Type 0} (f : List Segment → ℕ → A → Part) (xs : List A) (k : ℕ) (x : A) (s t u : Run) (within : k < length xs) (here : x ≡ get_or xs k x) where
  pub loop-more : (d e : Ended) → Done (all (numbered (f (path_of s)) 0 (take k xs))) d s t → Done (f (path_of t) k x) e t u
      → Done (all (numbered (f (path_of s)) 0 (take (k + 1) xs))) (both d e) s u
  loop-more d e done next = rw (add-one, all-more (f (path_of s)) xs k x within here)
      (done-after (all (numbered (f (path_of s)) 0 (take k xs))) (λ p. f p k x) d e s t u done next)

  pub loop-stops : (d : Ended) (stop : ExecRefusal) → Done (all (numbered (f (path_of s)) 0 (take k xs))) d s t → (stop ≡ TooHeavy → t.left < (f (path_of t) k x).weight)
      → stop ≡ TooHeavy → s.left < (all (numbered (f (path_of s)) 0 xs)).weight
  loop-stops d stop done heavy is =
      let more : (all (numbered (f (path_of s)) 0 (take (suc k) xs))).weight ≡ (all (numbered (f (path_of s)) 0 (take k xs))).weight + (f (path_of s) k x).weight
      = ap (λ (r : Part). r.weight) (all-more (f (path_of s)) xs k x within here) in
      let part : (all (numbered (f (path_of s)) 0 (take (suc k) xs))).weight ≤ (all (numbered (f (path_of s)) 0 xs)).weight = weight-part (f (path_of s)) xs (suc k) in
      let over : t.left < (f (path_of s) k x).weight = subst (λ p. t.left < (f (map segment_of p) k x).weight) done.follows.path (heavy is) in
      omega (arith, more, part, over, done.follows.left)

-- ---- a null that stays

caught_text : (o : Outcome) → Written ≡ ended_of o → or_null o ≡ o
caught_text (text a) e = refl
caught_text bubble e = cc

pub caught-written : (r : Part) (s t : Run) → Done r Written s t → Done (caught r) Written s t
caught-written r s t f = let e : or_null r.outcome ≡ r.outcome = caught_text r.outcome f.ends in record {
  follows = record { out = subst (λ o. Leaves o s.out.items t.out.items) (sym e) f.follows.out; errors = f.follows.errors; raised = f.follows.raised; path = f.follows.path; left = f.follows.left };
  ends = f.ends ∙ ap ended_of (sym e);
}

caught_null : (o : Outcome) → Bubbled ≡ ended_of o → or_null o ≡ text (codes "null")
caught_null (text a) e = cc
caught_null bubble e = refl

-- what stands at a mark before is cut out of the text
pub caught-cut : (r : Part) (s t u : Run) → Done r Bubbled s t → u.out.items ≡ take (length s.out.items) t.out.items ++ codes "null" → u ≡ record t { out = u.out } → Done (caught r) Written s u
caught-cut r s t u f cut rest = let e : or_null r.outcome ≡ text (codes "null") = caught_null r.outcome f.ends in record {
  follows = record {
    out = subst (λ o. Leaves o s.out.items u.out.items) (sym e) (cut ∙ ap (λ l. l ++ codes "null") (leaves-cut r.outcome s.out.items t.out.items f.follows.out));
    errors = ap errors_of rest ∙ f.follows.errors;
    raised = ap (λ (x : Run). x.raised) rest ∙ f.follows.raised;
    path = ap (λ (x : Run). x.path.items) rest ∙ f.follows.path;
    left = ap (λ (x : Run). x.left + r.weight) rest ∙ f.follows.left;
  };
  ends = ap ended_of (sym e);
}

pub stepped : (xs : List Step) (x : Step) (ys : List Step) → ys ≡ xs ++ x ∷ [] → map segment_of ys ≡ map segment_of xs ++ segment_of x ∷ []
stepped xs x ys e = ap (map segment_of) e ∙ map-append segment_of xs (x ∷ [])

-- ---- a step of the path, and the errors of a field

-- the value at a step of the path
pub at-step : (r : Part) (e : Ended) (x : Step) (s t u v : Run) → t.out ≡ s.out → t.errors ≡ s.errors → t.left ≡ s.left → t.raised ≡ s.raised → t.path.items ≡ s.path.items ++ x ∷ []
    → Done r e t u → v.out ≡ u.out → v.errors ≡ u.errors → v.left ≡ u.left → v.raised ≡ u.raised → v.path.items ≡ take (length s.path.items) u.path.items → Done r e s v
at-step r e x s t u v o es l ra p f vo ves vl vra vp = record {
  follows = record {
    out = subst (λ z. Leaves r.outcome z.items v.out.items) o (subst (λ z. Leaves r.outcome t.out.items z.items) (sym vo) f.follows.out);
    errors = ap (λ z. map error_of z.items) ves ∙ f.follows.errors ∙ ap (λ z. map error_of z.items ++ kept t.raised r.notes) es ∙ ap (λ b. errors_of s ++ kept b r.notes) ra;
    raised = vra ∙ f.follows.raised ∙ ap (λ b. has_own b r.notes) ra;
    path = vp ∙ ap (take (length s.path.items)) (f.follows.path ∙ p) ∙ take-append_seam s.path.items (x ∷ []);
    left = ap (λ n. n + r.weight) vl ∙ f.follows.left ∙ l;
  };
  ends = f.ends;
}

-- the same of a field, whose own errors begin anew
pub at-field : (r : Part) (e : Ended) (x : Step) (s t u v : Run) → t.out ≡ s.out → t.errors ≡ s.errors → t.left ≡ s.left → t.raised ≡ false → t.path.items ≡ s.path.items ++ x ∷ []
    → Done r e t u → v.out ≡ u.out → v.errors ≡ u.errors → v.left ≡ u.left → v.raised ≡ s.raised → v.path.items ≡ take (length s.path.items) u.path.items → Done (settled r) e s v
at-field r e x s t u v o es l ra p f vo ves vl vra vp = record {
  follows = record {
    out = subst (λ z. Leaves r.outcome z.items v.out.items) o (subst (λ z. Leaves r.outcome t.out.items z.items) (sym vo) f.follows.out);
    errors = ap (λ z. map error_of z.items) ves ∙ f.follows.errors ∙ ap (λ z. map error_of z.items ++ kept t.raised r.notes) es ∙ ap (λ b. errors_of s ++ kept b r.notes) ra
        ∙ ap (λ ns. errors_of s ++ ns) (sym (kept-below s.raised (kept false r.notes)));
    raised = vra ∙ sym (has_own-below s.raised (kept false r.notes));
    path = vp ∙ ap (take (length s.path.items)) (f.follows.path ∙ p) ∙ take-append_seam s.path.items (x ∷ []);
    left = ap (λ n. n + r.weight) vl ∙ f.follows.left ∙ l;
  };
  ends = f.ends;
}

-- ---- a part between marks

pub both_written : (e : Ended) → both e Written ≡ e
both_written Written = refl
both_written Bubbled = refl

pub wrote : (bytes : List ℕ) (s t : Run) → Follows (plain bytes) s t → Done (plain bytes) Written s t
wrote bytes s t f = record { follows = f; ends = refl }

module _ (before after : List ℕ) (f : List Segment → Part) (s t u : Run) (opens : Follows (plain before) s t) where
  pub within-done : (e : Ended) (v : Run) → Done (f (path_of t)) e t u → Follows (plain after) u v → Done (within before (f (path_of s)) after) e s v
  within-done e v done closes = subst (λ x. Done (within before (f (path_of s)) after) x s v) (both_written e)
      (done-both (followed_by (plain before) (f (path_of s))) (plain after) e Written s u v
      (done-after (plain before) f Written e s t u (wrote before s t opens) done) (wrote after u v closes))

  pub within-heavy : t.left < (f (path_of t)).weight → s.left < (within before (f (path_of s)) after).weight
  within-heavy h = omega (arith, heavier (plain before) (f (path_of s)).weight s t opens (subst (λ p. t.left < (f (map segment_of p)).weight) opens.path h))

-- a call that stops
pub stopped : (r : Part) (result : Result Ended ExecRefusal) (stop : ExecRefusal) (s t : Run) → IsErrAnd result (λ e. e ≡ stop) → (stop ≡ TooHeavy → s.left < r.weight) → Executes r result s t
stopped r (Ok x) stop s t e h = absurd e
stopped r (Err x) stop s t e h = λ is. h (sym e ∙ is)

-- a field or an item: the comma, the count, and what is counted
pub counted-executes : (i : ℕ) (f : List Segment → Part) (result : Result Ended ExecRefusal) (s t u v : Run)
    → Follows (comma i) s t → Follows one t u → Executes (f (path_of u)) result u v → Executes (after_comma i (counted (f (path_of s)))) result s v
counted-executes i f result s t u v first count rest =
    executes-after (comma i) (λ p. counted (f p)) result s t v (commas i s t first)
    (executes-after one f result t u v (record { follows = count; ends = refl }) rest)
  where
    commas : (i : ℕ) (s t : Run) → Follows (comma i) s t → Done (comma i) Written s t
    commas zero s t f = record { follows = f; ends = refl }
    commas (suc i) s t f = record { follows = f; ends = refl }

-- as many values as may be are completed already
pub counted-heavy : (i : ℕ) (r : Part) (s t : Run) → Follows (comma i) s t → t.left ≡ 0 → s.left < (after_comma i (counted r)).weight
counted-heavy i r s t f none = omega (arith, f.left, none)
