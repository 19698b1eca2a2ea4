-- What a body asks for, by the value that is read.
use Rattle.std.proofs.Common.{◌≡◌, ℕ, List, Some, Result, Ok, Err, IfOk, IfErr, IsUtf8, subst}
use Rattle.serde_json.specs.Data.{Data}
use Rattle.serde_json.specs.Read.{read}
use Rattle.gql_http.specs.RunBodies.{Asked, Asks, asked_by, call, reads}
use Rattle.gql_http.specs.ReadBodies.{IsFault, IsRefused, name_of, variables_of}
use Rattle.gql_http.specs.declared.run_body.RunBody.{RunBody}
use Rattle.gql_http.specs.declared.run_body.RunBodyFault.{RunBodyFault}
use Rattle.gql_http.specs.declared.run_body.RunBodyFault.TheVariants.{BadCall, StoredOnly, Memory}

asks : (body : List ℕ) (d : Data) (a : Asked) → IsUtf8 body → read body ≡ Some d → asked_by d ≡ a → Asks body a
asks body d a text is by = subst (Asks body) by (reads text is)

pub call_read : (body : List ℕ) (d : Data) (r : Result RunBody RunBodyFault) → IsUtf8 body → read body ≡ Some d
    → IfOk r (λ c. asked_by d ≡ call (name_of c) (variables_of c)) → IfOk r (λ c. Asks body (call (name_of c) (variables_of c)))
call_read body d (Ok c) text is h = asks body d _ text is h
call_read body d (Err e) text is h = h

pub fault_read : (body : List ℕ) (d : Data) (r : Result RunBody RunBodyFault) → IsUtf8 body → read body ≡ Some d
    → IfErr r (IsFault (asked_by d)) → IfErr r (IsRefused body)
fault_read body d (Ok c) text is h = h
fault_read body d (Err BadCall) text is h = asks body d _ text is h
fault_read body d (Err StoredOnly) text is h = asks body d _ text is h
fault_read body d (Err Memory) text is h = tt
