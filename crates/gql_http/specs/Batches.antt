-- Which edit the body of a batch says: a JSON object of schema files, of document files and of data.
-- This is this registry's own rule.
use Rattle.std.specs.Prelude.{◌≡◌, ◌&&◌, ◌||◌, ◌++◌, ◌⊎◌, ℕ, List, [], ◌∷◌, Bool, true, false, not, Option, Some, None, IsUtf8, bytes_eq, codes, if◌then◌else◌, option_map, refl}
use Rattle.std.specs.List.{list_any}
use Rattle.gql_ast.specs.FileNames.{is_file_name}
use Rattle.gql_ast.specs.declared.fault.FileSide.{FileSide}
use Rattle.gql_ast.specs.declared.fault.FileSide.TheVariants.{Schema, Documents}
use Rattle.gql_registry.specs.Edits.{Change, Edit, put, remove, set_data}
use Rattle.json.specs.Json as json
use Rattle.json.specs.Json.{document}
use Rattle.json.specs.Strict.{keys}
use Rattle.serde_json.specs.Data.{Data, Members, null, boolean, string, array, object, no_items, no_members, member}
use Rattle.serde_json.specs.Find.{get}
use Rattle.serde_json.specs.Read.{read}

-- ---- names that occur twice

-- whether one of these names occurs twice
abbrev pub repeats : List (List ℕ) → Bool
repeats [] = false
repeats (name ∷ names) = list_any (bytes_eq name) names || repeats names

-- whether a value is an object in which a name occurs twice
abbrev pub value_repeats : json.Json → Bool
value_repeats (json.object ms) = repeats (keys ms)
value_repeats _ = false

-- whether a member of a batch has files
abbrev pub is_of_files : List ℕ → Bool
is_of_files name = bytes_eq name (codes "schema") || bytes_eq name (codes "documents")

-- whether the name of a file occurs twice in a member that has files
abbrev pub files_repeat : json.Members → Bool
files_repeat json.no_members = false
files_repeat (json.member name j ms) = (is_of_files name && value_repeats j) || files_repeat ms

-- whether a name occurs twice in a batch: that of a member, or that of a file. Names within the data
-- don't count.
abbrev pub has_twice : json.Json → Bool
has_twice (json.object ms) = repeats (keys ms) || files_repeat ms
has_twice _ = false

-- whether there is a value, and no name occurs twice in it
abbrev pub is_once : Option json.Json → Bool
is_once None = false
is_once (Some j) = not (has_twice j)

-- ---- the edit

-- the change that a file's member says: a text is put as the file, null removes it
abbrev pub file_change : FileSide → List ℕ → Data → Option Change
file_change side name (string text) = Some (put side name text)
file_change side name null = Some (remove side name)
file_change side name _ = None

-- the same, if a file may have the name: it has at most so many bytes
abbrev pub named_change : ℕ → FileSide → List ℕ → Data → Option Change
named_change most side name d = if is_file_name most name then file_change side name d else None

-- a change and others after it, if all are there
abbrev pub before : Option Change → Option Edit → Option Edit
before None others = None
before (Some c) others = option_map (λ (cs : Edit). c ∷ cs) others

-- the changes of the files of a side: members are in the order of their names
abbrev pub file_changes : ℕ → FileSide → Members → Option Edit
file_changes most side no_members = Some []
file_changes most side (member name d ms) =
    before (named_change most side name d) (file_changes most side ms)

-- the changes of a side that a batch says: none if it has no member for that
abbrev pub side_changes : ℕ → FileSide → Option Data → Option Edit
side_changes most side None = Some []
side_changes most side (Some (object ms)) = file_changes most side ms
side_changes most side (Some _) = None

-- the change of the data that a batch says: none if it has no member for that. Null is no data.
abbrev pub data_change : Option Data → Option Edit
data_change None = Some []
data_change (Some null) = None
data_change (Some d) = Some (set_data d ∷ [])

-- changes and others after them, if all are there
abbrev pub followed : Option Edit → Option Edit → Option Edit
followed None others = None
followed (Some e) others = option_map (λ (more : Edit). e ++ more) others

-- whether a batch may have a member of this name
abbrev pub is_batch_member : List ℕ → Bool
is_batch_member name = is_of_files name || bytes_eq name (codes "data")

-- whether there is another member
abbrev pub has_unknown : Members → Bool
has_unknown no_members = false
has_unknown (member name d ms) = not (is_batch_member name) || has_unknown ms

-- The edit that a value says, where the name of a file has at most so many bytes: the schema files,
-- the document files, each in the order of their names, and then the data. None if it says no edit.
abbrev pub edit_in : ℕ → Data → Option Edit
edit_in most (object ms) = if has_unknown ms then None
    else followed (side_changes most Schema (get (codes "schema") (object ms)))
    (followed (side_changes most Documents (get (codes "documents") (object ms)))
    (data_change (get (codes "data") (object ms))))
edit_in most _ = None

-- the text is no JSON, or a name occurs twice in it
abbrev pub IsNoValue : List ℕ → Type 0
IsNoValue text = (is_once (document text) ≡ false) ⊎ (read text ≡ None)

-- What a body says, where the name of a file has at most so many bytes: an edit, or none if it is no
-- batch.
pub data Says (most : ℕ) (body : List ℕ) : Option Edit → Type 0 where
  reads : {d : Data} → IsUtf8 body → read body ≡ Some d → is_once (document body) ≡ true
      → Says most body (edit_in most d)
  twice : IsUtf8 body → is_once (document body) ≡ false → Says most body None
  not_json : IsUtf8 body → read body ≡ None → Says most body None
  not_text : (IsUtf8 body → ⊥) → Says most body None

-- ---- worked examples

-- files of both sides and data: the order of the body does not count
of_all : edit_in 64 (object (member (codes "data") (object no_members)
    (member (codes "documents") (object (member (codes "a") (string (codes "query A { x }"))
    (member (codes "b") null no_members)))
    (member (codes "schema") (object (member (codes "s") null no_members)) no_members))))
    ≡ Some (remove Schema (codes "s") ∷ put Documents (codes "a") (codes "query A { x }")
    ∷ remove Documents (codes "b") ∷ set_data (object no_members) ∷ [])
of_all = refl

-- a batch without members is an edit without changes
of_nothing : edit_in 64 (object no_members) ≡ Some []
of_nothing = refl

-- an unknown member, files that are no object, a file that is no text, a name that is none, no data
unknown_member : edit_in 64 (object (member (codes "scheme") (object no_members) no_members)) ≡ None
unknown_member = refl

no_object : edit_in 64 (object (member (codes "schema") (array no_items) no_members)) ≡ None
no_object = refl

no_text : edit_in 64 (object (member (codes "schema")
    (object (member (codes "s") (boolean true) no_members)) no_members)) ≡ None
no_text = refl

no_name : edit_in 64 (object (member (codes "schema")
    (object (member (codes "a/b") (string (codes "x")) no_members)) no_members)) ≡ None
no_name = refl

no_data : edit_in 64 (object (member (codes "data") null no_members)) ≡ None
no_data = refl

-- a file of a name that occurs twice
twice_named : has_twice (json.object (json.member (codes "schema")
    (json.object (json.member (codes "s") (json.string (codes "x"))
    (json.member (codes "s") json.null json.no_members))) json.no_members)) ≡ true
twice_named = refl

-- within the data a name may
twice_in_data : has_twice (json.object (json.member (codes "data")
    (json.object (json.member (codes "s") json.null
    (json.member (codes "s") json.null json.no_members))) json.no_members)) ≡ false
twice_in_data = refl
