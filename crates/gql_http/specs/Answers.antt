-- The answers: their statuses and bodies, and their bytes.
use Rattle.std.specs.Prelude.{ℕ, List, [], ◌++◌, length, codes, decimal, Option, Some, None, Bool, if◌then◌else◌, Result, Ok, Err}
use Rattle.json.specs.Print.{quoted}
use Rattle.gql_text.specs.declared.place.Place.{Place}
use Rattle.gql_grammar.specs.Files.{number_of}
use Rattle.gql_grammar.specs.declared.fault.SyntaxRefusal.{SyntaxRefusal}
use Rattle.gql_ast.specs.declared.fault.Fault.{Fault}
use Rattle.gql_registry.specs.Refusals.{syntax_message}
use Rattle.gql_registry.specs.declared.refusal.Refusal.{Refusal}
use Rattle.gql_registry.specs.declared.refusal.Refusal.TheVariants as refusal
use Rattle.gql_wire.specs.Answer.{answer_head_of}
use Rattle.gql_wire.specs.Head.{number_of as head_number}
use Rattle.gql_wire.specs.declared.answer.Allow.{Allow}
use Rattle.gql_wire.specs.declared.head.HeadRefusal.{HeadRefusal}
use Rattle.gql_wire.specs.declared.head.HeadRefusal.TheVariants as head
use Rattle.gql_http.specs.Json.{faults_text, report_text}

-- an answer: its status, the methods of the route where the status is 405, and its body
pub record Said : Type 0 where
  pub status : ℕ
  pub allow : Option Allow
  pub body : List ℕ

-- an answer with this status and body
abbrev pub said : ℕ → List ℕ → Said
said status body = record { status = status; allow = None; body = body }

-- the bytes of an answer: its head, and its body unless it is left out
unfoldable pub answer_bytes : Bool → Bool → Said → List ℕ
answer_bytes closing bodiless a = answer_head_of a.status a.allow (length a.body) closing
    ++ (if bodiless then [] else a.body)

-- ---- the bodies of refusals

-- the file that a refusal names, if it names one
unfoldable pub file_member : Option (List ℕ) → List ℕ
file_member None = []
file_member (Some file) = codes ",\"file\":" ++ quoted file

-- the body of a refusal, with its message, its number and the file that it names, if there is one
unfoldable pub refused_text : Option (List ℕ) → List ℕ → ℕ → List ℕ
refused_text file message number = codes "{\"errors\":[{\"message\":" ++ quoted message
    ++ codes ",\"extensions\":{\"code\":" ++ decimal number ++ file_member file ++ codes "}}]}"

-- the body of a refusal that names no file
abbrev pub error_text : List ℕ → ℕ → List ℕ
error_text = refused_text None

-- the beginning of a refusal's body: its message and its place
unfoldable pub located_text : List ℕ → Place → List ℕ
located_text message place = codes "{\"errors\":[{\"message\":" ++ quoted message
    ++ codes ",\"locations\":[{\"line\":" ++ decimal place.line
    ++ codes ",\"column\":" ++ decimal place.column ++ codes "}]"

-- the body of a syntax refusal, with its place, its own number and the file that it names, if there
-- is one
unfoldable pub syntax_text : Option (List ℕ) → SyntaxRefusal → Place → List ℕ
syntax_text file number place = located_text (syntax_message number) place
    ++ codes ",\"extensions\":{\"code\":201,\"syntax\":" ++ decimal (number_of number)
    ++ file_member file ++ codes "}}]}"

-- the body of the refusal of a stale edit, with the present revision
unfoldable pub stale_text : ℕ → List ℕ
stale_text revision =
    codes "{\"errors\":[{\"message\":\"stale revision\",\"extensions\":{\"code\":206,\"revision\":"
    ++ decimal revision ++ codes "}}]}"

-- the body of the refusal of a faulty operation, with its faults
unfoldable pub faulty_text : List Fault → List ℕ
faulty_text faults = codes
    "{\"errors\":[{\"message\":\"operation is faulty\",\"extensions\":{\"code\":209,\"faults\":["
    ++ faults_text faults ++ codes "]}}]}"

-- ---- which answer

-- The answer to a refusal of the registry, which names this file if it is one of a change; none if an
-- allocation failed.
abbrev pub refusal_said : Option (List ℕ) → Refusal → Option Said
refusal_said file (refusal.Syntax number place) = Some (said 400 (syntax_text file number place))
refusal_said file refusal.NotText =
    Some (said 400 (refused_text file (codes "body is not UTF-8") 202))
refusal_said file refusal.TooLong =
    Some (said 413 (refused_text file (codes "file is too long") 203))
refusal_said file refusal.NoFile = Some (said 404 (refused_text file (codes "no such file") 204))
refusal_said file refusal.FilesFull =
    Some (said 409 (refused_text file (codes "too many files") 205))
refusal_said file (refusal.Stale revision) = Some (said 409 (stale_text revision))
refusal_said file refusal.BadData =
    Some (said 400 (refused_text file (codes "data is not accepted") 207))
refusal_said file refusal.NoOperation =
    Some (said 404 (error_text (codes "no such operation") 208))
refusal_said file (refusal.Faulty faults) = Some (said 422 (faulty_text faults))
refusal_said file refusal.TooLarge =
    Some (said 422 (error_text (codes "answer is too large") 210))
refusal_said file refusal.NotRun =
    Some (said 422 (error_text (codes "subscriptions are not run") 213))
refusal_said file refusal.Memory = None
refusal_said file refusal.Spent = Some (said 409 (error_text (codes "revisions are spent") 212))

-- the status of the answer to a refused head
abbrev pub head_status : HeadRefusal → ℕ
head_status head.BadHead = 400
head_status head.LongHead = 431
head_status head.LongBody = 413
head_status head.TransferCoding = 501
head_status head.BadLength = 400

-- the message of the answer to a refused head
abbrev pub head_message : HeadRefusal → List ℕ
head_message head.BadHead = codes "bad head"
head_message head.LongHead = codes "head is too long"
head_message head.LongBody = codes "body is too long"
head_message head.TransferCoding = codes "transfer coding is not served"
head_message head.BadLength = codes "bad content length"

-- the answer to a refused head, with the refusal's number
abbrev pub head_said : HeadRefusal → Said
head_said refusal = said (head_status refusal)
    (error_text (head_message refusal) (head_number refusal))

-- the answer if no resource has the target
abbrev pub no_route : Said
no_route = said 404 (error_text (codes "no such route") 305)

-- the answer if the resource doesn't serve the method
abbrev pub not_allowed : Allow → Said
not_allowed methods =
    record {
      status = 405;
      allow = Some methods;
      body = error_text (codes "method is not allowed") 306;
    }

-- the answer if the query isn't served
abbrev pub bad_query : Said
bad_query = said 400 (error_text (codes "bad query") 308)

-- the answer if the body of a run is not of the right form
abbrev pub bad_run_body : Said
bad_run_body = said 400 (error_text (codes "bad run body") 310)

-- the answer if the body of a run gives an operation as a text
abbrev pub stored_operations_only : Said
stored_operations_only = said 400 (error_text (codes "stored operations only") 311)

-- the answer if the body of a batch is no batch
abbrev pub bad_batch : Said
bad_batch = said 400 (error_text (codes "bad batch") 312)

-- the answer to a run that calls an operation; none if an allocation failed
abbrev pub run_said : Result (List ℕ) Refusal → Option Said
run_said (Ok reply) = Some (said 200 reply)
run_said (Err r) = refusal_said None r

-- the answer to a call for the report, with these faults
abbrev pub report_said : ℕ → List Fault → Said
report_said revision faults = said 200 (report_text revision faults)
