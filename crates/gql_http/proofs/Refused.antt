-- The answers to runs whose bodies are refused.
use Rattle.std.proofs.Common.{◌≡◌, ℕ, List, [], Option, Some, None, subst}
use Rattle.gql_http.specs.ReadBodies.{IsRefused}
use Rattle.gql_http.specs.declared.run_body.RunBodyFault.{RunBodyFault}
use Rattle.gql_http.specs.declared.run_body.RunBodyFault.TheVariants as fault
use Rattle.gql_registry.specs.State.{State}
use Rattle.gql_http.specs.Answers.{Said, bad_run_body, stored_operations_only}
use Rattle.gql_http.specs.Called.{body_said}
use Rattle.gql_http.specs.Service.{Runs, gives_text, bad_body}

said_same : (a b : Said) → ◌≡◌ {A = Option Said} (Some a) (Some b) → a ≡ b
said_same a b e = cc e

none_said : (a : Said) → ◌≡◌ {A = Option Said} None (Some a) → ⊥
none_said a e = cc e

pub refused_body : (s : State) (body : List ℕ) (why : RunBodyFault) (a : Said) → IsRefused body why → body_said why ≡ Some a → Runs s body a []
refused_body s body fault.BadCall a asks said = subst (λ x. Runs s body x []) (said_same bad_run_body a said) (bad_body asks)
refused_body s body fault.StoredOnly a asks said = subst (λ x. Runs s body x []) (said_same stored_operations_only a said) (gives_text asks)
refused_body s body fault.Memory a asks said = absurd (none_said a said)
