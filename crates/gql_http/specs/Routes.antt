-- Which call a request is.
use Rattle.std.specs.Prelude.{ℕ, ◌+◌, ◌&&◌, List, length, not, take, drop, codes, bytes_eq, nat_eq, ◌==◌, Bool, Option, Some, None, if◌then◌else◌}
use Rattle.std.specs.List.{prefix_len, list_any, starts_with}
use Rattle.gql_ast.specs.FileNames.{is_file_name}
use Rattle.gql_ast.specs.declared.fault.FileSide.{FileSide}
use Rattle.gql_ast.specs.declared.fault.FileSide.TheVariants.{Schema, Documents}
use Rattle.gql_ast.specs.declared.profile.Profile.{Profile}
use Rattle.gql_wire.specs.Number.{number_in}
use Rattle.gql_wire.specs.declared.answer.Allow.TheVariants.{PutDelete, Put, Get, Post}
use Rattle.gql_http.specs.Answers.{Said, no_route, not_allowed, bad_query}
use Rattle.gql_http.specs.declared.query.Query.{Query}
use Rattle.gql_http.specs.declared.query.Query.TheVariants.{Absent, Revision, Other}

-- What an edit is of: a file that is put or removed, the data, or a batch. The body has the rest.
pub data EditKind : Type 0 where
  put : FileSide → List ℕ → EditKind
  remove : FileSide → List ℕ → EditKind
  put_data : EditKind
  batch : EditKind

-- A call; an edit may expect a revision, and the body says which operation a run calls. Or a
-- request that is refused with this answer.
pub data Call : Type 0 where
  report : Call
  edit : EditKind → Option ℕ → Call
  run : Call
  refused : Said → Call

-- what a path names
pub data Resource : Type 0 where
  nothing : Resource
  the_report : Resource
  the_data : Resource
  the_run : Resource
  the_edits : Resource
  file : FileSide → List ℕ → Resource

-- whether a byte is `?`
abbrev pub is_question_mark : ℕ → Bool
is_question_mark b = b == 63

-- the target before its first `?`
abbrev pub path_of : List ℕ → List ℕ
path_of target = take (prefix_len (λ b. not (is_question_mark b)) target) target

-- whether the target has a query
abbrev pub has_query : List ℕ → Bool
has_query target = list_any is_question_mark target

-- the query for a number: the present revision that an edit expects
abbrev pub numbered : Option ℕ → Query
numbered None = Other
numbered (Some n) = Revision n

-- what the bytes of a query ask for: `revision=N`, where N is 1 to 18 digits, or something else
abbrev pub query_in : List ℕ → Query
query_in bytes = if starts_with nat_eq bytes (codes "revision=")
    then numbered (number_in (drop 9 bytes)) else Other

-- the query after the first `?` of a target, if there is one
abbrev pub query_of : List ℕ → Query
query_of target = if has_query target then query_in (drop (length (path_of target) + 1) target)
    else Absent

-- how the path of a schema file begins
abbrev pub schema_prefix : List ℕ
schema_prefix = codes "/schema/"

-- how the path of a document file begins
abbrev pub documents_prefix : List ℕ
documents_prefix = codes "/documents/"

-- the file of a name on a side, if a file may have the name: it has at most so many bytes
abbrev pub file_resource : ℕ → FileSide → List ℕ → Resource
file_resource most side name = if is_file_name most name then file side name else nothing

-- the file that a path names, if it names one
abbrev pub file_of : ℕ → List ℕ → Resource
file_of most path =
    if starts_with nat_eq path schema_prefix then file_resource most Schema (drop 8 path)
    else if starts_with nat_eq path documents_prefix
    then file_resource most Documents (drop 11 path)
    else nothing

-- what a path names, where an edit is of one file or of the data: a name has at most so many bytes
abbrev pub single_resource_of : ℕ → List ℕ → Resource
single_resource_of most path =
    if bytes_eq path (codes "/report") then the_report
    else if bytes_eq path (codes "/data") then the_data
    else if bytes_eq path (codes "/run") then the_run
    else file_of most path

-- whether batches are served under a profile: where the whole type system is, which has Float
abbrev pub serves_batches : Profile → Bool
serves_batches profile = profile.floats

-- what a path names under a profile
abbrev pub resource_of : Profile → List ℕ → Resource
resource_of profile path =
    if serves_batches profile && bytes_eq path (codes "/edits") then the_edits
    else single_resource_of profile.limits.name path

-- a call that takes no query
abbrev pub without_query : Query → Call → Call
without_query Absent call = call
without_query (Revision n) call = refused bad_query
without_query Other call = refused bad_query

-- a call that edits; it may expect a revision
abbrev pub editing : Query → EditKind → Call
editing Absent kind = edit kind None
editing (Revision n) kind = edit kind (Some n)
editing Other kind = refused bad_query

-- the call on a resource by a method
abbrev pub call_on : Resource → List ℕ → Query → Call
call_on nothing method query = refused no_route
call_on the_report method query = if bytes_eq method (codes "GET") then without_query query report
    else refused (not_allowed Get)
call_on the_data method query = if bytes_eq method (codes "PUT") then editing query put_data
    else refused (not_allowed Put)
call_on the_run method query = if bytes_eq method (codes "POST") then without_query query run
    else refused (not_allowed Post)
call_on the_edits method query = if bytes_eq method (codes "POST") then editing query batch
    else refused (not_allowed Post)
call_on (file side name) method query =
    if bytes_eq method (codes "PUT") then editing query (put side name)
    else if bytes_eq method (codes "DELETE") then editing query (remove side name)
    else refused (not_allowed PutDelete)

-- The call that a method and a target make under a profile. The checks are made in this order: the
-- path (305), the method (306), the query (308).
abbrev pub call_of : Profile → List ℕ → List ℕ → Call
call_of profile method target =
    call_on (resource_of profile (path_of target)) method (query_of target)

-- The call that they make where an edit is of one file or of the data, and the name of a file has at
-- most so many bytes.
abbrev pub single_call_of : ℕ → List ℕ → List ℕ → Call
single_call_of most method target =
    call_on (single_resource_of most (path_of target)) method (query_of target)
