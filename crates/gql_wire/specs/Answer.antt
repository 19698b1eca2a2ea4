-- The head of an answer (RFC 9112, sections 4 and 5).
use Rattle.std.specs.Prelude.{ℕ, List, [], ◌∷◌, ◌++◌, Bool, ◌==◌, if◌then◌else◌, codes, decimal, Option, Some, None, unwrap_or}
use Rattle.std.specs.List.{list_any}
use Rattle.http.specs.StatusCode.{code_digits, reason_phrase}
use Rattle.gql_wire.specs.declared.answer.Allow.{Allow}
use Rattle.gql_wire.specs.declared.answer.Allow.TheVariants.{PutDelete, Put, Get, Post}

-- the statuses of answers
abbrev pub is_answered : ℕ → Bool
is_answered status = list_any (λ n. n == status)
    (200 ∷ 400 ∷ 404 ∷ 405 ∷ 409 ∷ 413 ∷ 422 ∷ 431 ∷ 501 ∷ [])

-- the value of the field Allow
abbrev pub methods_text : Allow → List ℕ
methods_text PutDelete = codes "PUT, DELETE"
methods_text Put = codes "PUT"
methods_text Get = codes "GET"
methods_text Post = codes "POST"

-- the line of the field Allow, if methods are given
abbrev pub allow_line : Option Allow → List ℕ
allow_line None = []
allow_line (Some methods) = codes "Allow: " ++ methods_text methods ++ codes "\r\n"

-- the reason phrase of a status
unfoldable pub phrase_of : ℕ → List ℕ
phrase_of status = unwrap_or (reason_phrase status) []

-- the status line
abbrev pub status_line : ℕ → List ℕ
status_line status =
    codes "HTTP/1.1 " ++ code_digits status ++ codes " " ++ phrase_of status ++ codes "\r\n"

-- the lines of the fields Content-Type and Content-Length
abbrev pub body_lines : ℕ → List ℕ
body_lines length =
    codes "Content-Type: application/json\r\nContent-Length: " ++ decimal length ++ codes "\r\n"

-- the line `Connection: close`, if the connection closes
abbrev pub closing_line : Bool → List ℕ
closing_line closing = if closing then codes "Connection: close\r\n" else []

-- the bytes of the head, with the empty line that ends it
abbrev pub answer_head_of : ℕ → Option Allow → ℕ → Bool → List ℕ
answer_head_of status allow length closing =
    status_line status ++ allow_line allow ++ body_lines length
    ++ closing_line closing ++ codes "\r\n"
