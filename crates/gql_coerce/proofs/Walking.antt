-- Frames around an input: the whole comes to what the input comes to, within them.
use Rattle.std.proofs.Common.{◌≡◌, ◌+◌, ◌++◌, ℕ, zero, suc, List, [], ◌∷◌, map, reverse, ap, sym, subst, ◌∙◌, Option, arith}
use Rattle.std.proofs.lemmas.List.{reverse-append, map-append}
use Rattle.std.proofs.Math.Nat.{add-suc, suc-add}
use Rattle.gql_types.specs.declared.schema.Schema.{Schema}
use Rattle.serde_json.specs.Data.{Data}
use Rattle.gql_coerce.specs.Coercion.{coerced}
use Rattle.gql_coerce.specs.Comes.{Eventually}
use Rattle.gql_coerce.specs.Frames.{Frame, Holds, Inside, plug, frame_by, frame_of, frames_of, focus_at, step_at}
use Rattle.gql_coerce.specs.Outcomes.{Reached, said}
use Rattle.gql_coerce.specs.declared.coerced.Coerced.{Coerced}
use Rattle.gql_coerce.specs.declared.frame.Focus.{Focus}
use Rattle.gql_coerce.specs.declared.frame.Focus.TheVariants as focus
use Rattle.gql_coerce.specs.declared.frame.Frame.{Frame as AFrame}
use Rattle.gql_coerce.specs.declared.frame.Step.{Step}

-- one frame more on the stack
pub frames_more : (fs : List AFrame) (f : AFrame) → frames_of (fs ++ f ∷ []) ≡ frame_of f ∷ frames_of fs
frames_more fs f = ap reverse (map-append frame_of fs (f ∷ [])) ∙ reverse-append (map frame_of fs) (frame_of f ∷ [])

one_and : (n : ℕ) → suc zero + n ≡ suc n
one_and n = omega arith

two_more : (k n : ℕ) → suc (suc k) + n ≡ k + suc (suc n)
two_more k n = omega arith

two_in : (k n : ℕ) → k + suc (suc n) ≡ suc (suc (k + n))
two_in k n = omega arith

module _ (s : Schema) (whole : ℕ → Reached (Option Data)) where
  -- nothing is around the whole
  alone : (at : ℕ → Reached (Option Data)) → ((n : ℕ) → whole (suc n) ≡ at (suc n)) → Holds s whole [] at
  alone at is = (suc zero, suc zero, λ n. ap whole (one_and n) ∙ is n ∙ ap at (sym (one_and n)))

  pub starts : (stack : List AFrame) (at : ℕ → Reached (Option Data)) → stack ≡ [] → ((n : ℕ) → whole (suc n) ≡ at (suc n)) → Holds s whole (frames_of stack) at
  starts stack at none is = subst (λ xs. Holds s whole (frames_of xs) at) (sym none) (alone at is)

  -- the focus is a list or an object, which is entered
  pub enters : (fs : List Frame) (focus at : ℕ → Reached (Option Data)) → Holds s whole fs focus
      → ((n : ℕ) → focus (suc (suc n)) ≡ at (suc n)) → Inside s whole fs at
  enters fs focus at before is = (
    suc (suc before.0),
    suc before.1,
    λ n. ap whole (two_more before.0 n) ∙ before.2 (suc (suc n))
        ∙ ap (λ m. plug m s fs (focus m)) (two_in before.1 n)
        ∙ ap (plug (suc (suc (before.1 + n))) s fs) (is (before.1 + n))
        ∙ ap (λ m. plug (suc m) s fs (at m)) (sym (suc-add before.1 n)),
  )

  -- a part has come to this
  pub resumes : (fs : List Frame) (f : Frame) (o : Reached (Option Data)) (at : ℕ → Reached (Option Data)) → Holds s whole (f ∷ fs) (λ n. o)
      → ((n : ℕ) → frame_by (coerced (suc n) s) f o ≡ at (suc n)) → Inside s whole fs at
  resumes fs f o at before is = (
    suc before.0,
    suc before.1,
    λ n. ap whole (suc-add before.0 n ∙ sym (add-suc before.0 n)) ∙ before.2 (suc n)
        ∙ ap (λ m. plug (suc m) s fs (frame_by (coerced m s) f o)) (add-suc before.1 n)
        ∙ ap (plug (suc (suc (before.1 + n))) s fs) (is (before.1 + n))
        ∙ ap (λ m. plug (suc m) s fs (at m)) (sym (suc-add before.1 n)),
  )

  -- the answer is known
  pub answers : (fs : List Frame) (o : Reached (Option Data)) → Inside s whole fs (λ n. o) → Holds s whole fs (λ n. o)
  answers fs o before = (before.0, suc before.1, λ n. before.2 n ∙ ap (λ m. plug m s fs o) (sym (suc-add before.1 n)))

  -- a part is to be coerced
  pub goes_within : (fs : List Frame) (f : Frame) (at : ℕ → Reached (Option Data)) → Inside s whole fs (λ n. frame_by (coerced n s) f (at n)) → Holds s whole (f ∷ fs) at
  goes_within fs f at before = (before.0, before.1, before.2)

  -- nothing is around the answer
  pub ends : (o : Reached (Option Data)) → Holds s whole [] (λ n. o) → Eventually (λ n. whole n ≡ o)
  ends o before = (before.0, before.2)

module _ (s : Schema) (whole : ℕ → Reached (Option Data)) (old new : List AFrame) (f : Focus) (st next : Step) (before : Holds s whole (frames_of old) (λ n. focus_at n s f)) (step_is : next ≡ st) where
  -- the focus is a list or an object, which is entered
  pub by_parts : ((n : ℕ) → focus_at (suc (suc n)) s f ≡ step_at (suc n) s st)
      → new ≡ old → Inside s whole (frames_of new) (λ n. step_at n s next)
  by_parts entered stack_is = subst (λ y. Inside s whole (frames_of new) (λ n. step_at n s y)) (sym step_is)
      (subst (λ fs. Inside s whole (frames_of fs) (λ n. step_at n s st)) (sym stack_is)
      (enters s whole (frames_of old) (λ n. focus_at n s f) (λ n. step_at n s st) before entered))

  -- the focus is an answer, with which the inmost frame goes on
  pub by_answer : (c : Coerced) (fr : AFrame) → f ≡ focus.Answer c
      → ((n : ℕ) → frame_by (coerced (suc n) s) (frame_of fr) (said c) ≡ step_at (suc n) s st)
      → old ≡ new ++ fr ∷ [] → Inside s whole (frames_of new) (λ n. step_at n s next)
  by_answer c fr is resumed stack_is = subst (λ y. Inside s whole (frames_of new) (λ n. step_at n s y)) (sym step_is)
      (resumes s whole (frames_of new) (frame_of fr) (said c) (λ n. step_at n s st)
      (subst (λ fs. Holds s whole fs (λ n. said c)) (ap frames_of stack_is ∙ frames_more new fr)
      (subst (λ g. Holds s whole (frames_of old) (λ n. focus_at n s g)) is before)) resumed)
