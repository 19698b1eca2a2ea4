-- Requests keep the profile, and with it the limit of bodies.
use Rattle.std.proofs.Common.{◌≡◌, ◌∙◌, ℕ, List, Option, refl, ap}
use Rattle.gql_registry.specs.State.{State, profile_of}
use Rattle.gql_registry.proofs.KeptProfile.{edit_keeps}
use Rattle.gql_wire.specs.Stream.{Req, request, refused as refused_head}
use Rattle.gql_http.specs.Answers.{Said}
use Rattle.gql_http.specs.Connections.{Serves, Breaks}
use Rattle.gql_http.specs.Events.{Event, Connections, Does, does_open, does_feed, does_break, does_close, ignores}
use Rattle.gql_http.specs.Editing.{Edits, makes, no_batch}
use Rattle.gql_http.specs.Laws.{RunKeepsProfile}
use Rattle.gql_http.specs.Limits.{body_limit_of, limit_in}
use Rattle.gql_http.specs.Routes.{Call, EditKind, report, edit, run, refused, call_of}
use Rattle.gql_http.specs.Service.{Step, Calls, Run, done, more}

edits_keep : (s t : State) (expected : Option ℕ) (kind : EditKind) (body : List ℕ) (a : Said) → Edits s expected kind body a t → profile_of t ≡ profile_of s
edits_keep s _ expected kind body _ (makes e r {t = t} asks said h) = edit_keeps s t expected e r h
edits_keep s _ expected kind body _ (no_batch asks) = refl

call_keeps : (s t : State) (call : Call) (body : List ℕ) (a : Said) → Calls s call body a t → profile_of t ≡ profile_of s
call_keeps s t report body a h = ap profile_of h.1
call_keeps s t (edit kind expected) body a h = edits_keep s t expected kind body a h
call_keeps s t run body a h = ap profile_of h.2
call_keeps s t (refused said) body a h = ap profile_of h.1

pub step_keeps : (s t : State) (r : Req) (bytes : List ℕ) → Step s r bytes t → profile_of t ≡ profile_of s
step_keeps s t (request method target body closing) bytes h = call_keeps s t (call_of (profile_of s) method target) body h.0 h.1
step_keeps s t (refused_head refusal bodiless) bytes h = ap profile_of h.1

pub run_keeps : RunKeepsProfile
run_keeps s _ _ _ done = refl
run_keeps s t _ _ (more {t = u} {r = r} {rs = rs} {bytes = bytes} {answers = answers} step later) =
    run_keeps u t rs answers later ∙ step_keeps s u r bytes step

pub run_limit : {s u : State} {rs : List Req} {ls : List (List ℕ)} → Run s rs ls u → limit_in u ≡ limit_in s
run_limit {s} {u} {rs} {ls} whole = ap body_limit_of (run_keeps s u rs ls whole)

pub serves_limit : {s u : State} {bytes out : List ℕ} {rest : Option (List ℕ)} → Serves s bytes out u rest → limit_in u ≡ limit_in s
serves_limit h = run_limit h.run

pub breaks_limit : {s u : State} {bytes out : List ℕ} {made : ℕ} → Breaks s bytes out u made → limit_in u ≡ limit_in s
breaks_limit h = run_limit h.run

pub does_limit : {s u : State} {rests next : Connections} {e : Event} {out : List ℕ} → Does s rests e out u next → limit_in u ≡ limit_in s
does_limit (does_open allowed) = refl
does_limit (does_feed here h) = serves_limit h
does_limit (does_break here h) = breaks_limit h
does_limit (does_close allowed) = refl
does_limit (ignores barred) = refl
