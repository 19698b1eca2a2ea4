-- The requests of a push (docs/API.md).
use Rattle.std.specs.Prelude.{ℕ, ◌++◌, List, [], codes, decimal, length, option_and_then, option_map, slice_get, unwrap_or}
use Rattle.gql_folder.specs.declared.folder.GivenFile.{GivenFile}
use Rattle.gql_push.specs.Plans.{Change, put, remove, empty_data, target_of}
use Rattle.gql_push.specs.Resources.{Entry}
use Rattle.gql_push.specs.Sending.{Sending}

-- the request for the report, to this host
abbrev pub report_request : List ℕ → List ℕ
report_request host = codes "GET /report HTTP/1.1\r\nHost: " ++ host
    ++ codes "\r\nContent-Length: 0\r\n\r\n"

-- the bytes of the file that a change puts; none for a put of no file, or another change
abbrev pub bytes_put : List Entry → List GivenFile → Change → List ℕ
bytes_put resources files (put at) = unwrap_or
    (option_map (λ (f : GivenFile). f.bytes.items)
    (option_and_then (λ (e : Entry). slice_get files e.file) (slice_get resources at))) []
bytes_put resources files (remove target) = []
bytes_put resources files empty_data = []

-- the method by which a change is made
abbrev pub method_of : Change → List ℕ
method_of (put at) = codes "PUT"
method_of (remove target) = codes "DELETE"
method_of empty_data = codes "PUT"

-- the body of the request for a change: the file, nothing, or an empty object
abbrev pub body_of : List Entry → List GivenFile → Change → List ℕ
body_of resources files (put at) = bytes_put resources files (put at)
body_of resources files (remove target) = []
body_of resources files empty_data = codes "{}"

-- the first line of a request with this method and target, which expects a revision
abbrev pub line_text : List ℕ → List ℕ → ℕ → List ℕ
line_text method target revision = method ++ (codes " /" ++ (target
    ++ (codes "?revision=" ++ (decimal revision ++ codes " HTTP/1.1\r\n"))))

-- the fields of a request to this host, for a body of this length
abbrev pub fields_text : List ℕ → ℕ → List ℕ
fields_text host len = codes "Host: " ++ (host
    ++ (codes "\r\nContent-Length: " ++ (decimal len ++ codes "\r\n\r\n")))

-- the request for a change that is sent, which expects a revision: its first line, its fields and
-- its body
abbrev pub edit_request : List ℕ → List Entry → List GivenFile → Sending → List ℕ
edit_request host resources files s =
    line_text (method_of s.change) (target_of resources s.change) s.revision
    ++ (fields_text host (length (body_of resources files s.change))
    ++ body_of resources files s.change)

-- the request for a batch of this body, which expects a revision
abbrev pub batch_request : List ℕ → ℕ → List ℕ → List ℕ
batch_request host revision body = line_text (codes "POST") (codes "edits") revision
    ++ (fields_text host (length body) ++ body)
