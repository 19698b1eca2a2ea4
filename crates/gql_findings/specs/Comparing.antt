-- What a comparison of two checks has: the faults that are brought and mended, the operations that
-- are broken and healed, and whether the documents are hidden.
use Rattle.std.specs.Prelude.{ℕ, suc, List, [], ◌∷◌, Bool, false, ◌&&◌, ◌||◌, not, nat_le, nat_eq, bytes_eq, codes, count_by, filter, take, map, option_map, unwrap_or, slice_get, if◌then◌else◌}
use Rattle.std.specs.List.{list_any, starts_with}
use lib.Pointwise.{pointwise}
use Rattle.gql_ast.specs.Rules.{name_of}
use Rattle.gql_ast.specs.declared.rule.Rule.{Rule}
use Rattle.gql_findings.specs.Marks.{Mark, same_mark, fault_marks, operation_marks, affected_marks}
use Rattle.gql_findings.specs.Sources.{TextFile}
use Rattle.gql_findings.specs.declared.finding.Findings.{Findings}

-- the places at which the test holds, counted from i
abbrev pub places_from : {A : Type 0} → ℕ → (ℕ → A → Bool) → List A → List ℕ
places_from i test [] = []
places_from i test (x ∷ xs) =
    if test i x then i ∷ places_from (suc i) test xs else places_from (suc i) test xs

-- how many of the marks are this one
abbrev pub count_of : Mark → List Mark → ℕ
count_of mark marks = count_by (same_mark mark) marks

-- The places of the marks that have no partner among the others. Equal marks are paired in their
-- order, so that of n equal marks and m equal others the last n - m have none: as many come before
-- them here as there are there.
abbrev pub unpaired : List Mark → List Mark → List ℕ
unpaired marks others =
    places_from 0 (λ i mark. nat_le (count_of mark others) (count_of mark (take i marks))) marks

-- whether the rule is one on the schema
abbrev pub is_of_schema : Rule → Bool
is_of_schema r = starts_with nat_eq (name_of r) (codes "S") || bytes_eq (name_of r) (codes "P01")
    || bytes_eq (name_of r) (codes "P02")

-- whether it is known of a fault if it is there still: while the schema has faults, documents are
-- not checked
abbrev pub is_known : Findings → Findings → ℕ → Bool
is_known now base i = not now.schema_is_faulty
    || unwrap_or (option_map (λ f. is_of_schema f.rule) (slice_get base.findings.items i)) false

-- The faults that are brought, by their places in the list of now: those that the base is not known
-- to have. Where the schema of the base has faults, its documents were not checked, and each fault
-- of a document is brought.
abbrev pub brought : Findings → Findings → List ℕ
brought now base = unpaired (fault_marks now) (fault_marks base)

-- The faults that are mended, by their places in the list of the base: those that are known to be
-- gone. While the schema of now has faults, no fault of a document is known to be gone.
abbrev pub mended : Findings → Findings → List ℕ
mended now base = filter (is_known now base) (unpaired (fault_marks base) (fault_marks now))

-- whether an operation is there, and is served
abbrev pub is_served : Findings → Mark → Bool
is_served f mark =
    list_any (same_mark mark) (operation_marks f)
    && not (list_any (same_mark mark) (affected_marks f))

-- The operations that are affected here, and that are served there, by their places in the list
-- here. There are none where one of the two schemas has faults, since then nothing is known of
-- operations.
abbrev pub newly_affected : Findings → Findings → List ℕ
newly_affected here there =
    if here.schema_is_faulty || there.schema_is_faulty then []
    else places_from 0 (λ i mark. is_served there mark) (affected_marks here)

-- the operations that are broken, by their places in the list of now: the base serves them
abbrev pub broken : Findings → Findings → List ℕ
broken now base = newly_affected now base

-- the operations that are healed, by their places in the list of the base: now they are served
abbrev pub healed : Findings → Findings → List ℕ
healed now base = newly_affected base now

-- whether a file is one of the schema, or one of the documents, by its path
abbrev pub is_schema_file : TextFile → Bool
is_schema_file s = starts_with nat_eq s.path (codes "schema/")

abbrev pub is_document_file : TextFile → Bool
is_document_file s = starts_with nat_eq s.path (codes "documents/")

-- whether there is a document file
abbrev pub has_documents : Findings → Bool
has_documents f = list_any is_document_file f.sources.items

-- a file by its path below its folder and its text
abbrev pub path_and_text : TextFile → List ℕ × List ℕ
path_and_text s = (s.path, s.text)

-- the schema files
abbrev pub schema_files : Findings → List (List ℕ × List ℕ)
schema_files f = map path_and_text (filter is_schema_file f.sources.items)

-- whether two paths and two texts are equal
abbrev pub are_same_file : List ℕ × List ℕ → List ℕ × List ℕ → Bool
are_same_file a b = bytes_eq a.0 b.0 && bytes_eq a.1 b.1

-- whether two checks have the same schema files, byte for byte
abbrev pub have_same_schema : Findings → Findings → Bool
have_same_schema f g = pointwise are_same_file (schema_files f) (schema_files g)

-- Whether the documents of now are hidden: they are not checked, since the schema has faults, and
-- it is not the schema of the base, so that what the change does to them is not known.
abbrev pub hidden : Findings → Findings → Bool
hidden now base =
    now.schema_is_faulty && has_documents now && not (have_same_schema now base)
