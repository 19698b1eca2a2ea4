-- What an edit answers, by what its parts come to.
use Rattle.std.proofs.Common.{◌≡◌, ◌∷◌, inl, inr, ℕ, zero, suc, List, [], Option, Result, Ok, Err, refl, sym, subst}
use Rattle.std.specs.Result.{IsErrAnd}
use Rattle.gql_ast.specs.declared.definition.DefinitionId.{DefinitionId}
use Rattle.gql_registry.specs.Checks.{IsListRefusal}
use Rattle.gql_registry.specs.Edits.{Change, Edit, IsFirstStop, IsInTime, Accepts, IsRefused, stopped, at_change, memory, Makes, Reports}
use Rattle.gql_registry.specs.Keeping.{IsWorkOn}
use Rattle.gql_registry.specs.State.{State}
use Rattle.gql_registry.specs.Works.{Works, WorksInVain}
use Rattle.gql_registry.specs.declared.change.EditRefusal.{EditRefusal}
use Rattle.gql_registry.specs.declared.refusal.Refusal.{Refusal}
use Rattle.gql_registry.specs.declared.registry.Edited.{Edited}
use Rattle.gql_registry.specs.declared.refusal.Refusal.TheVariants as refusal
use Rattle.gql_registry.proofs.InTurn.{refused_at}
use Rattle.gql_registry.proofs.OneEdit.{no_change}
use Rattle.gql_verdict.specs.Verdicts.{Judgement}

-- an edit that is stopped
pub stopped_edit : (s : State) (expected : Option ℕ) (e : Edit) (r : Refusal) (q : EditRefusal) → q ≡ refused_at 0 r → IsFirstStop s expected r → IsRefused s expected e q
stopped_edit s expected e r q is stop = subst (IsRefused s expected e) (sym is) (stopped stop)

-- an edit that failed for memory
pub memory_edit : (s : State) (expected : Option ℕ) (e : Edit) (q : EditRefusal) → q.refusal ≡ refusal.Memory → IsRefused s expected e q
memory_edit s expected e q is = subst (λ r. IsRefused s expected e (refused_at q.at r)) (sym is) memory

-- an edit that comes in time, and of which a change is refused
pub refused_edit : (s : State) (expected : Option ℕ) (e : Edit) (q : EditRefusal) → IsInTime s expected → IsListRefusal s e q → IsRefused s expected e q
refused_edit s expected e q time (inl h) = at_change time h
refused_edit s expected e q time (inr failed) = memory_edit s expected e q failed

-- an edit that is refused before anything is examined
pub idle : (s : State) (expected : Option ℕ) (shelf : List Judgement) (e : Edit) (r : Refusal) (m : List DefinitionId) → WorksInVain s expected shelf e r m m
idle s expected shelf e refusal.Memory m = inl refl
idle s expected shelf e (refusal.Syntax number place) m = refl
idle s expected shelf e refusal.NotText m = refl
idle s expected shelf e refusal.TooLong m = refl
idle s expected shelf e refusal.NoFile m = refl
idle s expected shelf e refusal.FilesFull m = refl
idle s expected shelf e (refusal.Stale revision) m = refl
idle s expected shelf e refusal.BadData m = refl
idle s expected shelf e refusal.NoOperation m = refl
idle s expected shelf e (refusal.Faulty faults) m = refl
idle s expected shelf e refusal.TooLarge m = refl
idle s expected shelf e refusal.NotRun m = refl
idle s expected shelf e refusal.Spent m = refl

-- an edit that is accepted, and then fails for memory
pub failed_work : (s t : State) (expected : Option ℕ) (shelf : List Judgement) (e : Edit) (r : Refusal) (old new : List DefinitionId) → r ≡ refusal.Memory → Accepts s expected e t → IsWorkOn t.files shelf old new
    → WorksInVain s expected shelf e r old new
failed_work s t expected shelf e r old new is accepts work = subst (λ q. WorksInVain s expected shelf e q old new) (sym is) (inr (t, accepts, work))

-- the refusal of an edit of one change, at its index or before it
pub alone : (s : State) (expected : Option ℕ) (c : Change) (q : EditRefusal) → IsRefused s expected (c ∷ []) q → IsRefused s expected (c ∷ []) (refused_at 0 q.refusal)
alone s expected c _ (stopped stop) = stopped stop
alone s expected c _ (at_change {at = zero} time h) = at_change time h
alone s expected c _ (at_change {at = suc n} time h) = absurd (no_change h.change n h.there)
alone s expected c _ memory = memory

-- ---- prepared and committed at once

-- the edit is refused before anything is committed
pub refused_answer : (s : State) (expected : Option ℕ) (e : Edit) (r : Result Edited EditRefusal) (q : EditRefusal) → IsErrAnd r (λ x. x ≡ q) → IsRefused s expected e q → Makes s expected e r s
refused_answer s expected e (Ok edited) q is h = absurd is
refused_answer s expected e (Err x) q is h = (subst (IsRefused s expected e) (sym is) h, refl)

pub refused_work : (s t : State) (expected : Option ℕ) (shelf : List Judgement) (e : Edit) (r : Result Edited EditRefusal) (q : EditRefusal) (old new : List DefinitionId) → IsErrAnd r (λ x. x ≡ q)
    → WorksInVain s expected shelf e q.refusal old new → Works s expected shelf e r t old new
refused_work s t expected shelf e (Ok edited) q old new is h = absurd is
refused_work s t expected shelf e (Err x) q old new is h = subst (λ (y : EditRefusal). WorksInVain s expected shelf e y.refusal old new) (sym is) h

-- what was prepared is committed
pub made_answer : (s t u : State) (expected : Option ℕ) (e : Edit) (edited prepared : Edited) → t ≡ u → edited ≡ prepared → Accepts s expected e u → Reports u prepared → Makes s expected e (Ok edited) t
made_answer s t u expected e edited prepared same is accepts reports = (
  subst (Accepts s expected e) (sym same) accepts,
  subst (λ x. Reports t x) (sym is) (subst (λ v. Reports v prepared) (sym same) reports),
)
