-- Data then present: what requests leave as the data, and what a request to run is answered.
use Rattle.std.proofs.Common.{◌≡◌, ℕ, List, ◌∷◌, ◌++◌, sym, ap, ◌∙◌, subst}
use Rattle.gql_ast.specs.declared.profile.Profile.{Profile}
use Rattle.gql_registry.specs.Laws.{DataLeft, OneLoad}
use Rattle.gql_registry.specs.State.{State, profile_of, with_effects}
use Rattle.gql_stored.specs.Effects.{Effect}
use Rattle.gql_http.specs.Connections.{joined}
use Rattle.gql_wire.specs.Stream.{Req, request}
use Rattle.gql_http.specs.Answers.{Said}
use Rattle.gql_http.specs.History.{MayChangeData, is_edit, is_run, DataAfter, no_more_requests, by_data, by_run, by_none}
use Rattle.gql_http.specs.Laws.{CallThen, DataInOrder, DataPresent, InOrder}
use Rattle.gql_http.specs.Routes.{Call, call_of}
use Rattle.gql_http.specs.Routes as routes
use Rattle.gql_http.specs.Service.{Calls, Run, Runs, done, more}
use Rattle.gql_http.proofs.KeptLimit.{run_keeps}
use Rattle.gql_http.proofs.Presence.{split_run}
use Rattle.gql_http.proofs.RequestDeeds.{Deed, IsNoEdit, IsNoRun, deed, edits, keeps, runs}

-- a request that is neither an edit nor a run changes no data
no_change : (s : State) (r : Req) → IsNoEdit s r → IsNoRun s r → MayChangeData s r → ⊥
no_change s r none other (is_edit {e = e} accepted) = none e accepted
no_change s r none other (is_run {effects = effects} ran) = other effects ran

pub data_present_lem : OneLoad → DataLeft → DataPresent
data_present_lem one left s _ _ _ done = no_more_requests
data_present_lem one left s t _ _ (more {t = u} {r = r} {rs = rs} {bytes = bytes} {answers = answers} step run) =
    by (deed one s u r bytes step) (data_present_lem one left u t rs answers run)
  where
    by : Deed s u r → DataAfter u u.stored rs t.stored → DataAfter s s.stored (r ∷ rs) t.stored
    by (edits {expected = expected} {e = e} asks accepts) rest =
        by_data bytes (record { expected = expected; asks = asks; after = u; accepts = accepts }) (left s u expected e accepts) step rest
    by (runs none ran same) rest = by_run bytes ran step (subst (λ d. DataAfter u d rs t.stored) (ap (λ (x : State). x.stored) same) rest)
    by (keeps none other same) rest = by_none bytes (no_change s r none other) step (subst (λ d. DataAfter u d rs t.stored) (ap (λ (x : State). x.stored) same) rest)

-- in the order of events
pub data_in_order_lem : InOrder → DataPresent → DataInOrder
data_in_order_lem order present s t events outs rests h =
    let o = order s t events outs rests h in
    (o.0, o.1, o.2, present s t (joined o.0) (joined o.3.answers) o.3.run)

-- ---- runs on the files and the data then present

run_by : (s t : State) (call : Call) (body : List ℕ) (a : Said) → call ≡ routes.run → Calls s call body a t → (effects : List Effect) × Runs s body a effects × (t ≡ with_effects s effects)
run_by s t call body a is h = subst (λ k. Calls s k body a t) is h

pub call_then_lem : CallThen
call_then_lem s u front rest method target body closing answers is run =
    let p = split_run s u front rest (request method target body closing) answers run in
    let there : call_of (profile_of p.t) method target ≡ routes.run = subst (λ (q : Profile). call_of q method target ≡ routes.run) (sym (run_keeps s p.t front p.before p.first)) is in
    let h = run_by p.t p.v (call_of (profile_of p.t) method target) body p.step.0 there p.step.1 in (
      p.before,
      p.after,
      p.t,
      p.step.0,
      h.0,
      p.first,
      h.1,
      p.is ∙ ap (λ bytes. p.before ++ (bytes ∷ p.after)) p.step.2,
      subst (λ v. Run v rest p.after u) h.2 p.then,
    )
