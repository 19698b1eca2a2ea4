-- The service: what each request answers, and the state that it leaves.
use Rattle.std.specs.Prelude.{ℕ, ◌≡◌, List, [], ◌∷◌, true, Option, Some, Result}
use Rattle.gql_ast.specs.declared.fault.Fault.{Fault}
use Rattle.gql_http.specs.RunBodies.{Asks, call, stored_only, bad_call}
use Rattle.gql_registry.specs.Calls.{Answers, CallOutcome, effects_in, text_of}
use Rattle.gql_registry.specs.Report.{IsReport}
use Rattle.gql_registry.specs.State.{State, profile_of, with_effects}
use Rattle.gql_registry.specs.declared.refusal.Refusal.{Refusal}
use Rattle.gql_stored.specs.Effects.{Effect}
use Rattle.serde_json.specs.Data.{Data}
use Rattle.gql_wire.specs.Head.{is_head}
use Rattle.gql_wire.specs.Stream.{Req, request, refused as refused_head}
use Rattle.gql_http.specs.Answers.{Said, answer_bytes, bad_run_body, head_said, report_said, run_said, stored_operations_only}
use Rattle.gql_http.specs.Editing.{Edits}
use Rattle.gql_http.specs.Routes.{Call, report, edit, run, refused, call_of}

-- The answer to a run with this body in the state s, and what it adds to the data, unless an
-- allocation fails: as the registry answers the call that the body asks for. A run that is refused
-- adds nothing.
pub data Runs (s : State) (body : List ℕ) : Said → List Effect → Type 0 where
  calls : {name : Option (List ℕ)} {variables : Data} {r : Result CallOutcome Refusal} {a : Said}
      → Asks body (call name variables) → Answers s.files s.stored name variables r
      → run_said (text_of r) ≡ Some a → Runs s body a (effects_in r)
  gives_text : Asks body stored_only → Runs s body stored_operations_only []
  bad_body : Asks body bad_call → Runs s body bad_run_body []

-- the answer to a call with this body in the state s, and the state t that it leaves
abbrev pub Calls : State → Call → List ℕ → Said → State → Type 0
Calls s report body a t = ((faults : List Fault) × IsReport s.files faults
    × (a ≡ report_said s.revision faults)) × (t ≡ s)
Calls s (edit kind expected) body a t = Edits s expected kind body a t
Calls s run body a t = (effects : List Effect) × Runs s body a effects × (t ≡ with_effects s effects)
Calls s (refused said) body a t = (a ≡ said) × (t ≡ s)

-- a request in the state s is answered with these bytes, and leaves the state t
abbrev pub Step : State → Req → List ℕ → State → Type 0
Step s (request method target body closing) bytes t =
    (a : Said) × Calls s (call_of (profile_of s) method target) body a t
    × (bytes ≡ answer_bytes closing (is_head method) a)
Step s (refused_head refusal bodiless) bytes t =
    (bytes ≡ answer_bytes true bodiless (head_said refusal)) × (t ≡ s)

-- requests one after the other, with the answer to each
pub data Run : State → List Req → List (List ℕ) → State → Type 0 where
  done : {s : State} → Run s [] [] s
  more : {s t u : State} {r : Req} {rs : List Req} {bytes : List ℕ} {answers : List (List ℕ)}
      → Step s r bytes t → Run t rs answers u
      → Run s (r ∷ rs) (bytes ∷ answers) u
