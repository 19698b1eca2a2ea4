-- The revision counts accepted edits.
use Rattle.std.proofs.Common.{◌≡◌, ℕ, suc, ◌+◌, ◌∷◌, Option, ap, arith}
use Rattle.gql_registry.specs.Edits.{Accepts, Edit}
use Rattle.gql_registry.specs.Laws.{OneLoad}
use Rattle.gql_registry.specs.State.{State}
use Rattle.gql_http.specs.History.{AcceptedEdits, no_edits, one_edit, no_edit}
use Rattle.gql_http.specs.Laws.{RevisionCounts}
use Rattle.gql_http.specs.Service.{done, more}
use Rattle.gql_http.proofs.RequestDeeds.{Deed, deed, edits, keeps, runs}

pub revision_counts_lem : OneLoad → RevisionCounts
revision_counts_lem one s _ _ _ done = (0, no_edits, omega arith)
revision_counts_lem one s t _ _ (more {t = u} {r = r} {rs = rs} {bytes = bytes} {answers = answers} step run) =
    let rest = revision_counts_lem one u t rs answers run in
    by (deed one s u r bytes step) rest.0 rest.1 rest.2
  where
    accepted_next : (e : Edit) (expected : Option ℕ) → Accepts s expected e u → u.revision ≡ s.revision + 1
    accepted_next e expected h = ap (λ (x : State). x.revision) h.left

    by : Deed s u r → (n : ℕ) → AcceptedEdits u rs n → t.revision ≡ u.revision + n → (m : ℕ) × AcceptedEdits s (r ∷ rs) m × (t.revision ≡ s.revision + m)
    by (edits {expected = expected} {e = e} asks accepts) n counts is =
        let next : u.revision ≡ s.revision + 1 = accepted_next e expected accepts in
        (suc n, one_edit bytes (record { expected = expected; asks = asks; after = u; accepts = accepts }) step counts, omega (arith, next, is))
    by (runs none ran same) n counts is =
        let kept : u.revision ≡ s.revision = ap (λ (x : State). x.revision) same in
        (n, no_edit bytes none step counts, omega (arith, kept, is))
    by (keeps none other same) n counts is =
        let kept : u.revision ≡ s.revision = ap (λ (x : State). x.revision) same in
        (n, no_edit bytes none step counts, omega (arith, kept, is))
