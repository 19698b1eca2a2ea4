-- Where batches are not served, an edit is of one file or of the data.
use Rattle.std.proofs.Common.{◌≡◌, ◌&&◌, ℕ, List, [], ◌∷◌, Bool, true, false, bytes_eq, codes, Option, Some, refl, sym, ap, ◌∙◌, if◌then◌else◌}
use Rattle.gql_ast.specs.FileNames.{is_file_name}
use Rattle.gql_ast.specs.declared.fault.FileSide.{FileSide}
use Rattle.gql_ast.specs.declared.fault.FileSide.TheVariants.{Schema, Documents}
use Rattle.gql_ast.specs.declared.profile.Profile.{Profile}
use Rattle.gql_registry.specs.Edits.{Change, Edit}
use Rattle.gql_registry.specs.Edits as edits
use Rattle.gql_wire.specs.Stream.{Req}
use Rattle.gql_wire.specs.declared.answer.Allow.TheVariants.{PutDelete, Put, Get, Post}
use Rattle.std.specs.List.{starts_with}
use Rattle.std.specs.Prelude.{drop, nat_eq}
use Rattle.gql_http.specs.Answers.{not_allowed}
use Rattle.gql_http.specs.Editing.{Asks}
use Rattle.gql_http.specs.History.{AsksFor, asks_for}
use Rattle.gql_http.specs.Laws.{WithoutBatches}
use Rattle.gql_http.specs.Routes.{Call, EditKind, Resource, batch, call_of, call_on, documents_prefix, edit, editing, file, file_of, file_resource, nothing, path_of, put, put_data, query_of, refused, remove, report, run, schema_prefix, serves_batches, single_call_of, single_resource_of, the_data, the_edits, the_report, the_run, without_query}
use Rattle.gql_http.specs.declared.query.Query.{Query}
use Rattle.gql_http.specs.declared.query.Query.TheVariants.{Absent, Revision, Other}

-- whether a call is a batch
abbrev is_batch : Call → Bool
is_batch report = false
is_batch run = false
is_batch (refused said) = false
is_batch (edit (put side name) expected) = false
is_batch (edit (remove side name) expected) = false
is_batch (edit put_data expected) = false
is_batch (edit batch expected) = true

-- whether a resource is that of batches
abbrev is_of_edits : Resource → Bool
is_of_edits nothing = false
is_of_edits the_report = false
is_of_edits the_data = false
is_of_edits the_run = false
is_of_edits the_edits = true
is_of_edits (file side name) = false

either : {A : Type 0} (f : A → Bool) (b : Bool) (x y : A) → f x ≡ false → f y ≡ false → f (if b then x else y) ≡ false
either f true x y h k = h
either f false x y h k = k

of_file : (most : ℕ) (side : FileSide) (name : List ℕ) → is_of_edits (file_resource most side name) ≡ false
of_file most side name = either is_of_edits (is_file_name most name) (file side name) nothing refl refl

of_path : (most : ℕ) (path : List ℕ) → is_of_edits (file_of most path) ≡ false
of_path most path =
    either is_of_edits (starts_with nat_eq path schema_prefix) (file_resource most Schema (drop 8 path))
    (if starts_with nat_eq path documents_prefix then file_resource most Documents (drop 11 path) else nothing)
    (of_file most Schema (drop 8 path))
    (either is_of_edits (starts_with nat_eq path documents_prefix) (file_resource most Documents (drop 11 path)) nothing (of_file most Documents (drop 11 path)) refl)

of_single : (most : ℕ) (path : List ℕ) → is_of_edits (single_resource_of most path) ≡ false
of_single most path =
    either is_of_edits (bytes_eq path (codes "/report")) the_report
    (if bytes_eq path (codes "/data") then the_data else if bytes_eq path (codes "/run") then the_run else file_of most path) refl
    (either is_of_edits (bytes_eq path (codes "/data")) the_data (if bytes_eq path (codes "/run") then the_run else file_of most path) refl
    (either is_of_edits (bytes_eq path (codes "/run")) the_run (file_of most path) refl (of_path most path)))

plain : (query : Query) (call : Call) → is_batch call ≡ false → is_batch (without_query query call) ≡ false
plain Absent call h = h
plain (Revision n) call h = refl
plain Other call h = refl

of_data : (query : Query) → is_batch (editing query put_data) ≡ false
of_data Absent = refl
of_data (Revision n) = refl
of_data Other = refl

of_put : (query : Query) (side : FileSide) (name : List ℕ) → is_batch (editing query (put side name)) ≡ false
of_put Absent side name = refl
of_put (Revision n) side name = refl
of_put Other side name = refl

of_removal : (query : Query) (side : FileSide) (name : List ℕ) → is_batch (editing query (remove side name)) ≡ false
of_removal Absent side name = refl
of_removal (Revision n) side name = refl
of_removal Other side name = refl

clash : true ≡ false → (b : Bool) → b ≡ false
clash e b = cc e

on_other : (r : Resource) (method : List ℕ) (query : Query) → is_of_edits r ≡ false → is_batch (call_on r method query) ≡ false
on_other nothing method query h = refl
on_other the_report method query h = either is_batch (bytes_eq method (codes "GET")) (without_query query report) (refused (not_allowed Get)) (plain query report refl) refl
on_other the_data method query h = either is_batch (bytes_eq method (codes "PUT")) (editing query put_data) (refused (not_allowed Put)) (of_data query) refl
on_other the_run method query h = either is_batch (bytes_eq method (codes "POST")) (without_query query run) (refused (not_allowed Post)) (plain query run refl) refl
on_other the_edits method query h = clash h (is_batch (call_on the_edits method query))
on_other (file side name) method query h =
    either is_batch (bytes_eq method (codes "PUT")) (editing query (put side name))
    (if bytes_eq method (codes "DELETE") then editing query (remove side name) else refused (not_allowed PutDelete)) (of_put query side name)
    (either is_batch (bytes_eq method (codes "DELETE")) (editing query (remove side name)) (refused (not_allowed PutDelete)) (of_removal query side name) refl)

same_call : (profile : Profile) (method target : List ℕ) → serves_batches profile ≡ false → call_of profile method target ≡ single_call_of profile.limits.name method target
same_call profile method target none =
    ap (λ (b : Bool). call_on (if b && bytes_eq (path_of target) (codes "/edits") then the_edits else single_resource_of profile.limits.name (path_of target)) method (query_of target)) none

no_batch : (profile : Profile) (method target : List ℕ) (expected : Option ℕ) → serves_batches profile ≡ false → call_of profile method target ≡ edit batch expected → ⊥
no_batch profile method target expected none is =
    let single = on_other (single_resource_of profile.limits.name (path_of target)) method (query_of target) (of_single profile.limits.name (path_of target)) in
    let e : true ≡ false = sym (ap is_batch is) ∙ ap is_batch (same_call profile method target none) ∙ single in
    cc e

some_edit : (e g : Edit) → Some e ≡ Some g → e ≡ g
some_edit e g same = cc same

by_kind : (profile : Profile) (kind : EditKind) (method target body : List ℕ) (expected : Option ℕ) (e : Edit) → serves_batches profile ≡ false → call_of profile method target ≡ edit kind expected
    → Asks profile kind body (Some e) → (c : Change) × (e ≡ c ∷ [])
by_kind profile (put side name) method target body expected e none is asks = (edits.put side name body, some_edit e _ asks)
by_kind profile (remove side name) method target body expected e none is asks = (edits.remove side name, some_edit e _ asks)
by_kind profile put_data method target body expected e none is asks = (edits.put_data body, some_edit e _ asks)
by_kind profile batch method target body expected e none is asks = absurd (no_batch profile method target expected none is)

one_change : (profile : Profile) (r : Req) (expected : Option ℕ) (e : Edit) → serves_batches profile ≡ false → AsksFor profile r expected e → (c : Change) × (e ≡ c ∷ [])
one_change profile _ _ _ none (asks_for {kind = kind} {method = method} {target = target} {body = body} {expected = expected} {e = e} is asks) =
    by_kind profile kind method target body expected e none is asks

pub without_batches_lem : WithoutBatches
without_batches_lem = record { of_whole_numbers = refl; calls = same_call; edits = one_change }
