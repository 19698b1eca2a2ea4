-- What an answer to an edit says, by its status and its body (docs/API.md).
use Rattle.std.specs.Prelude.{ℕ, ◌==◌, List, codes, string_bytes, Option, None, option_and_then, option_map, if◌then◌else◌}
use Rattle.std.specs.Option.{option_map_or}
use Rattle.std.specs.Str.{is_utf8}
use Rattle.serde_json.specs.Data.{Data}
use Rattle.serde_json.specs.Find.{as_number, as_str, as_u64, at, get}
use Rattle.serde_json.specs.Read.{read}
use Rattle.gql_push.specs.declared.body.Reply.{Reply}
use Rattle.gql_push.specs.declared.body.Reply.TheVariants as reply

-- What an answer says: the edit is accepted, with the revision and the number of faults; it expects
-- another revision than this one; it is refused, with a number, a message and maybe the file that is
-- refused; or it is not the answer of a registry.
pub data Said : Type 0 where
  accepted : ℕ → ℕ → Said
  stale : ℕ → Said
  refused : ℕ → List ℕ → Option (List ℕ) → Said
  strange : Said

-- what a reply says
abbrev pub said_by : Reply → Said
said_by (reply.Done revision faults) = accepted revision faults
said_by (reply.Stale revision) = stale revision
said_by (reply.Refused number message file) =
    refused number (string_bytes message) (option_map (λ f. string_bytes f) file)
said_by reply.Strange = strange

-- the bytes of a body as JSON, if they are JSON in UTF-8
abbrev pub value_in : List ℕ → Option Data
value_in body = if is_utf8 body then read body else None

-- the number of a member of an object, if it has one that is a number below 2^64
abbrev pub number_at : List ℕ → Data → Option ℕ
number_at name d = option_and_then as_u64 (option_and_then as_number (get name d))

-- the text of a member of an object, if it has one that is a text
abbrev pub text_at : List ℕ → Data → Option (List ℕ)
text_at name d = option_and_then as_str (get name d)

-- an accepted edit has its revision and the number of faults: `{"revision":N,"faults":K}`
abbrev pub accepted_in : Data → Said
accepted_in d = option_map_or
    (λ revision. option_map_or (accepted revision) (number_at (codes "faults") d) strange)
    (number_at (codes "revision") d) strange

-- the first of the errors: `{"errors":[E]}`
abbrev pub first_error : Data → Option Data
first_error d = option_and_then (at 0) (get (codes "errors") d)

-- an edit that expects another revision has the present one in its extensions
abbrev pub stale_in : Data → Said
stale_in extensions = option_map_or stale (number_at (codes "revision") extensions) strange

-- any other refusal has a message, and where it is of a file, the file in its extensions
abbrev pub refused_in : Data → Data → ℕ → Said
refused_in error extensions number = option_map_or
    (λ message. refused number message (text_at (codes "file") extensions))
    (text_at (codes "message") error) strange

-- what an error of this number says: 206 is that of an edit that expects another revision
abbrev pub said_by_number : Data → Data → ℕ → Said
said_by_number error extensions number =
    if number == 206 then stale_in extensions else refused_in error extensions number

-- what an error says: `{"message":M,"extensions":{"code":N}}`, with `"file":F` in the extensions
-- where a file is refused
abbrev pub said_in_error : Data → Said
said_in_error error = option_map_or
    (λ extensions. option_map_or (said_by_number error extensions)
    (number_at (codes "code") extensions) strange)
    (get (codes "extensions") error) strange

-- what JSON says under a status: 200 is that of an edit that is accepted
abbrev pub said_in_value : ℕ → Data → Said
said_in_value status d = if status == 200 then accepted_in d
    else option_map_or said_in_error (first_error d) strange

-- what an answer says; one whose body is not JSON is not of a registry
abbrev pub said_in : ℕ → Option Data → Said
said_in status body = option_map_or (said_in_value status) body strange
