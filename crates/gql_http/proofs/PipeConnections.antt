-- The connections of a pipe's hub, before and after.
use Rattle.std.proofs.Common.{◌≡◌, ◌≢◌, ℕ, List, [], Bool, true, false, Option, Some, None, refl, sym, ap, ◌∙◌, eqb-true, arith, subst, Result}
use Rattle.std.specs.Prelude.{◌==◌}
use Rattle.std.proofs.lemmas.Bool.Decides.{nat_tests}
use Rattle.gql_registry.specs.State.{State}
use Rattle.gql_wire.specs.Peer.{Passage, Adds}
use Rattle.gql_http.specs.Pipes.{IsExchange}
use Rattle.gql_http.specs.declared.piping.PipeEnd.{PipeEnd}
use Rattle.gql_http.specs.declared.piping.PipeFault.{PipeFault}
use Rattle.gql_http.specs.Events.{opens, closes, Connections, IsAllowed, Does, does_open, does_close, ignores}
use Rattle.gql_http.proofs.Framers.{changed, no_some}

-- a connection that was opened holds no bytes, and the service is as it was
pub opened_empty : (s t : State) (rests : Connections) (c : ℕ) (out : List ℕ) (next : Connections) → Does s rests (opens c) out t next → IsAllowed rests (opens c) → (next c ≡ Some []) × (t ≡ s)
opened_empty s _ rests c _ _ (does_open allowed) _ = (changed rests c (Some []), refl)
opened_empty s _ rests c _ _ (ignores barred) allowed = absurd (barred allowed)

-- a connection that was closed holds nothing, and the service is as it was
pub closed_after : (s t : State) (rests : Connections) (c : ℕ) (out : List ℕ) (next : Connections) → Does s rests (closes c) out t next → (next c ≡ None) × (t ≡ s)
closed_after s _ rests c _ _ (does_close allowed) = (changed rests c None, refl)
closed_after s _ rests c _ _ (ignores barred) = (no_some (rests c) barred, refl)

same_by : (a b : Connections) (n : ℕ) (t : Bool) → (n == 0) ≡ t → a 0 ≡ b 0 → ((c : ℕ) → c ≢ 0 → a c ≡ b c) → a n ≡ b n
same_by a b n true is here others = let e : n ≡ 0 = eqb-true n 0 is in ap a e ∙ here ∙ sym (ap b e)
same_by a b n false is here others = others n (let apart : n ≢ 0 = grind (arith, nat_tests) in apart)

-- connections that are the same at 0 and elsewhere are the same
pub same_connections : (a b : Connections) → a 0 ≡ b 0 → ((c : ℕ) → c ≢ 0 → a c ≡ b c) → a ≡ b
same_connections a b here others = λ i. λ n. same_by a b n (n == 0) refl here others i

-- an exchange between equal states
pub between : (s t u v : State) (old new : Option (List Passage)) (ended : Bool) (result : Result PipeEnd PipeFault) → s ≡ t → u ≡ v
    → (passed : List Passage) × Adds old new passed × IsExchange (record { before = s; after = u; passed = passed; ended = ended; result = result })
    → (passed : List Passage) × Adds old new passed × IsExchange (record { before = t; after = v; passed = passed; ended = ended; result = result })
between s t u v old new ended result first last (passed, adds, h) = (
  passed,
  adds,
  subst (λ b. IsExchange (record { before = b; after = v; passed = passed; ended = ended; result = result })) first
      (subst (λ a. IsExchange (record { before = s; after = a; passed = passed; ended = ended; result = result })) last h),
)
