-- A batch: one request for all edits of a push (docs/API.md). Its body is one JSON object, of schema
-- files, of document files and of data.
use Rattle.std.specs.Prelude.{ℕ, ◌+◌, ◌≡◌, ◌≤◌, ◌<◌, ◌&&◌, List, [], ◌∷◌, Option, Some, None, bytes_eq, codes, drop, is_some, length, nat_eq, not, option_and_then, option_map, if◌then◌else◌, refl}
use Rattle.std.specs.List.{starts_with}
use Rattle.std.specs.Option.{option_map_or}
use Rattle.std.specs.Str.{is_utf8}
use Rattle.gql_folder.specs.declared.folder.GivenFile.{GivenFile}
use Rattle.serde_json.specs.Data.{Data, Members, null, string, object, no_members, member, depth, put as with_member}
use Rattle.serde_json.specs.Find.{as_null}
use Rattle.serde_json.specs.Read.{max_depth, read}
use Rattle.gql_push.specs.Plans.{Change, put, remove, empty_data, target_of}
use Rattle.gql_push.specs.Replies.{value_in}
use Rattle.gql_push.specs.Requests.{bytes_put}
use Rattle.gql_push.specs.Resources.{Entry}

-- the text of a file, if its bytes are UTF-8
abbrev pub text_in : List ℕ → Option Data
text_in bytes = if is_utf8 bytes then Some (string bytes) else None

-- the value of a file that is put: data are JSON, and any other file is a text
abbrev pub file_value : List ℕ → List ℕ → Option Data
file_value target bytes = if bytes_eq target (codes "data") then value_in bytes else text_in bytes

-- the value of a change: that of the file that is put, null for a removal, and an empty object for
-- data in their first state
abbrev pub value_of : List Entry → List GivenFile → Change → Option Data
value_of resources files (put at) =
    file_value (target_of resources (put at)) (bytes_put resources files (put at))
value_of resources files (remove target) = Some null
value_of resources files empty_data = Some (object no_members)

-- what a batch has: the members of each side, by the names of the files, and the data, if they are
-- put
pub record Batch : Type 0 where
  pub schema : Members
  pub documents : Members
  pub new_data : Option Data

-- a batch without changes
abbrev pub no_changes : Batch
no_changes = record { schema = no_members; documents = no_members; new_data = None }

-- the name of the file that a target has, if the target begins as those of a side do
abbrev pub name_after : List ℕ → List ℕ → Option (List ℕ)
name_after prefix target =
    if starts_with nat_eq target prefix then Some (drop (length prefix) target) else None

-- a batch with this value for a schema file, a document file, and the data; null is no data
abbrev pub with_schema : Batch → Data → List ℕ → Option Batch
with_schema b d name = Some (record b { schema = with_member name d b.schema })

abbrev pub with_document : Batch → Data → List ℕ → Option Batch
with_document b d name = Some (record b { documents = with_member name d b.documents })

abbrev pub with_data : Batch → Data → List ℕ → Option Batch
with_data b d target = if bytes_eq target (codes "data") && not (is_some (as_null d))
    then Some (record b { new_data = Some d }) else None

-- a batch with this value for a target, if it has a place for the target
abbrev pub with_value : List ℕ → Data → Batch → Option Batch
with_value target d b = option_map_or (with_schema b d) (name_after (codes "schema/") target)
    (option_map_or (with_document b d) (name_after (codes "documents/") target)
    (with_data b d target))

-- a batch with one change more
abbrev pub with_change : List Entry → List GivenFile → Batch → Change → Option Batch
with_change resources files b c =
    option_and_then (λ d. with_value (target_of resources c) d b) (value_of resources files c)

-- a batch with these changes, made one after the other
abbrev pub with_changes : List Entry → List GivenFile → Batch → List Change → Option Batch
with_changes resources files b [] = Some b
with_changes resources files b (c ∷ changes) = option_and_then
    (λ more. with_changes resources files more changes) (with_change resources files b c)

-- the members of both sides
abbrev pub sides_of : Batch → Members
sides_of b = with_member (codes "documents") (object b.documents)
    (with_member (codes "schema") (object b.schema) no_members)

-- the object that a batch is
abbrev pub object_of : Batch → Data
object_of b = object (option_map_or (λ d. with_member (codes "data") d (sides_of b))
    b.new_data (sides_of b))

-- what these changes say as a batch, where the resources and the files of the push are these. None
-- if a file is no text, the data are no JSON or null, or a target is neither a file's nor the data's.
abbrev pub batch_of : List Entry → List GivenFile → List Change → Option Data
batch_of resources files changes =
    option_map object_of (with_changes resources files no_changes changes)

-- these bytes are the body of a batch of these changes: JSON that reads as what they say, in at most
-- so many bytes
abbrev pub IsBody : List Entry → List GivenFile → List Change → ℕ → List ℕ → Type 0
IsBody resources files changes most body = (d : Data)
    × (batch_of resources files changes ≡ Some d) × (read body ≡ Some d) × (length body ≤ most)

-- how many bytes the files have that these changes put
abbrev pub count_put : List Entry → List GivenFile → List Change → ℕ
count_put resources files [] = 0
count_put resources files (c ∷ changes) =
    length (bytes_put resources files c) + count_put resources files changes

-- Why changes have no batch: they say none; what they say nests deeper than JSON that is read; or it
-- is too long, or the files already are.
pub data HasNoBatch (resources : List Entry) (files : List GivenFile) (changes : List Change)
    (most : ℕ) : Type 0 where
  says_none : batch_of resources files changes ≡ None
      → HasNoBatch resources files changes most
  too_deep : (d : Data) → batch_of resources files changes ≡ Some d → max_depth < depth d
      → HasNoBatch resources files changes most
  too_long : (d : Data) (body : List ℕ) → batch_of resources files changes ≡ Some d
      → read body ≡ Some d → most < length body → HasNoBatch resources files changes most
  files_too_long : most < count_put resources files changes
      → HasNoBatch resources files changes most

-- ---- worked examples

-- two files are removed, and the data are emptied
of_all : batch_of [] [] (remove (codes "documents/a") ∷ remove (codes "schema/s") ∷ empty_data ∷ [])
    ≡ Some (object (member (codes "data") (object no_members)
    (member (codes "documents") (object (member (codes "a") null no_members))
    (member (codes "schema") (object (member (codes "s") null no_members)) no_members))))
of_all = refl

-- a target that is none of a registry
of_none : batch_of [] [] (remove (codes "schemas/a") ∷ []) ≡ None
of_none = refl
