-- An edit that is refused is not accepted.
use Rattle.std.proofs.Common.{◌≡◌, ◌≢◌, ℕ, zero, suc, [], ◌∷◌, take, Some, Ok, Err, Option, None, Result, Bool, refl, sym, subst}
use Rattle.std.specs.Prelude.{slice_get}
use Rattle.gql_registry.specs.Edits.{Change, Edit, IsAccepted, MakesAll, done, step, Accepts, IsRefusedAt, IsRefused, stopped, at_change, memory}
use Rattle.gql_registry.specs.Laws.{OneLoad, WasMade}
use Rattle.gql_registry.specs.State.{State}
use Rattle.gql_registry.specs.declared.change.EditRefusal.{EditRefusal}
use Rattle.gql_registry.specs.declared.refusal.Refusal.{Refusal}
use Rattle.gql_registry.specs.declared.refusal.Refusal.TheVariants.{Memory}
use Rattle.gql_registry.specs.declared.registry.Edited.{Edited}
use Rattle.gql_registry.proofs.OneEdit.{no_change, not_stopped}
use Rattle.gql_http.specs.Answers.{Said, refusal_said}
use Rattle.gql_http.specs.Editing.{edit_said, named_at}

-- an edit that is answered did not fail for memory
pub said_made : (named : Bool) (e : Edit) (r : Result Edited EditRefusal) (a : Said) → edit_said named e r ≡ Some a → WasMade r
said_made named e (Ok edited) a is = tt
said_made named e (Err q) a is =
    λ of_memory. let none : ◌≡◌ {A = Option Said} None (Some a) = subst (λ x. refusal_said (named_at named e q.at) x ≡ Some a) of_memory is in cc none

some_change : (c d : Change) → Some c ≡ Some d → c ≡ d
some_change c d same = cc same

-- the changes before one are accepted, and so is that one
split_at : (s t : State) (e : Edit) (at : ℕ) (c : Change) → MakesAll s e t → slice_get e at ≡ Some c → (u : State) × MakesAll s (take at e) u × IsAccepted u c
split_at s t [] at c made is = absurd (no_change c at is)
split_at s t (x ∷ e) zero c (step accepted leaves rest) is = (s, done, subst (IsAccepted s) (some_change x c is) accepted)
split_at s t (x ∷ e) (suc at) c (step {t = u} accepted leaves rest) is =
    let later = split_at u t e at c rest is in
    (later.0, step accepted leaves later.1, later.2)

not_both : OneLoad → (s t : State) (e : Edit) (at : ℕ) (r : Refusal) → MakesAll s e t → IsRefusedAt s e at r → ⊥
not_both one s t e at r made h =
    let front = split_at s t e at h.change made h.there in
    let same : h.left ≡ front.0 = one s h.left front.0 (take at e) h.before front.1 in
    subst (λ u. IsAccepted u h.change) (sym same) front.2 r h.first.fails

pub not_accepted : OneLoad → (s t : State) (expected : Option ℕ) (e : Edit) (r : EditRefusal) → r.refusal ≢ Memory → Accepts s expected e t → IsRefused s expected e r → ⊥
not_accepted one s t expected e _ made accepts (stopped stop) = not_stopped s expected _ accepts.in_time stop.stops
not_accepted one s t expected e _ made accepts (at_change {at = at} {r = r} time h) = not_both one s accepts.made e at r accepts.makes h
not_accepted one s t expected e _ made accepts memory = made refl
