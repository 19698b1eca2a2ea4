-- The JSON of answers: compact, with members in this order (RFC 8259).
use Rattle.std.specs.Prelude.{ℕ, List, [], ◌∷◌, ◌++◌, codes, decimal, Option, Some, None}
use Rattle.std.specs.List.{flat_map}
use Rattle.json.specs.Print.{quoted}
use Rattle.gql_ast.specs.declared.fault.Fault.{Fault}
use Rattle.gql_ast.specs.declared.fault.FilePlace.{FilePlace}
use Rattle.gql_ast.specs.declared.fault.FileSide.{FileSide}
use Rattle.gql_ast.specs.declared.fault.FileSide.TheVariants.{Schema, Documents}
use Rattle.gql_ast.specs.Rules.{name_of}

-- texts with commas between them
abbrev pub comma_list : {A : Type 0} → (A → List ℕ) → List A → List ℕ
comma_list text [] = []
comma_list text (x ∷ xs) = text x ++ flat_map (λ y. codes "," ++ text y) xs

-- the side of a file
abbrev pub side_text : FileSide → List ℕ
side_text Schema = codes "schema/"
side_text Documents = codes "documents/"

-- a place in a file
unfoldable pub place_text : FilePlace → List ℕ
place_text p = codes "{\"file\":" ++ quoted (side_text p.side ++ p.file) ++ codes ",\"line\":"
    ++ decimal p.place.line
    ++ codes ",\"column\":" ++ decimal p.place.column ++ codes "}"

-- the definition that owns a fault, or null
unfoldable pub owner_text : Option FilePlace → List ℕ
owner_text None = codes "null"
owner_text (Some p) = place_text p

-- places in files
unfoldable pub places_text : List FilePlace → List ℕ
places_text = comma_list place_text

-- the first half of a fault: its rule and what it is about
unfoldable pub what_text : Fault → List ℕ
what_text f = codes "{\"rule\":" ++ quoted (name_of f.rule) ++ codes ",\"about\":" ++ quoted f.about

-- the second half of a fault: its places and its owner
unfoldable pub where_text : Fault → List ℕ
where_text f = codes ",\"places\":[" ++ places_text f.places ++ codes "],\"owner\":"
    ++ owner_text f.owner ++ codes "}"

-- a fault
unfoldable pub fault_text : Fault → List ℕ
fault_text f = what_text f ++ where_text f

-- faults
unfoldable pub faults_text : List Fault → List ℕ
faults_text = comma_list fault_text

-- the body of a report
unfoldable pub report_text : ℕ → List Fault → List ℕ
report_text revision faults = codes "{\"revision\":" ++ decimal revision ++ codes ",\"faults\":["
    ++ faults_text faults ++ codes "]}"

-- the body of the answer to an edit
unfoldable pub edited_text : ℕ → ℕ → List ℕ
edited_text revision faults = codes "{\"revision\":" ++ decimal revision ++ codes ",\"faults\":"
    ++ decimal faults ++ codes "}"
