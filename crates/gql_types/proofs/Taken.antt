-- What an edit of a file takes over: the types of the other files stand around those of the file.
use Rattle.std.proofs.Common.{◌≡◌, ◌+◌, ◌-◌, ◌++◌, ◌≤◌, ◌∙◌, ℕ, List, [], ◌∷◌, Option, Some, None, ap, ap₂, arith, drop, length, map, refl, subst, sym, take}
use Rattle.std.specs.Prelude.{option_map, IsTrue}
use Rattle.std.proofs.Math.Seq.{drop-append_seam, take-append_seam}
use Rattle.std.proofs.lemmas.List.{append-nil, append_assoc, length-append, length-map}
use Rattle.gql_ast.specs.FileMaps.{with_file}
use Rattle.gql_ast.specs.declared.definition.Document.{Document}
use Rattle.gql_ast.specs.declared.definition.Tree.{Tree}
use Rattle.gql_ast.specs.declared.files.Files.{Files}
use Rattle.gql_ast.specs.declared.profile.Profile.{Profile}
use Rattle.gql_ast.specs.declared.type_system.TypeDefinition.{TypeDefinition}
use Rattle.gql_ast.specs.declared.type_system.TypeExtension.{TypeExtension}
use Rattle.gql_built_in.specs.BuiltIn.{built_in}
use Rattle.gql_built_in.specs.declared.sited.Sited.{Sited}
use Rattle.gql_types.specs.Definitions.{definitions, in_order_of, of_files, type_definitions, type_extensions}
use Rattle.gql_types.specs.EditedTypes.{AreExtensions, AreTypesAfter, defined_name, definition_of}
use Rattle.gql_types.specs.Edits.{KeepsOthers, KeepsTypes}
use Rattle.gql_types.specs.Names.{AreOnce}
use Rattle.gql_types.specs.Outlines.{IsOutline, all_others, count_types, edited_files, files_past, files_until, outline_at, outline_of}
use Rattle.gql_types.specs.Possible.{name_of}
use Rattle.gql_types.specs.Schemas.{schema_of, types_in as all_types_in}
use Rattle.gql_types.specs.Sites.{others_in}
use Rattle.gql_types.specs.Types.{assembled, extensions_of, first_definitions, types_of}
use Rattle.gql_types.specs.TypesAround.{AreAround, ArePlaced, sites_around, sites_in_place}
use Rattle.gql_types.specs.declared.edited_types.EditedTypes.{EditedTypes}
use Rattle.gql_types.specs.declared.edited_types.TypeEdit.{TypeEdit}
use Rattle.gql_types.specs.declared.outline.FileOutline.{FileOutline}
use Rattle.gql_types.specs.declared.outline.Outline.{Outline}
use Rattle.gql_types.specs.declared.schema.Schema.{Schema}
use Rattle.gql_types.proofs.EachPossible.{types_once}
use Rattle.gql_types.proofs.Others.{all_first, same_types}
use Rattle.gql_types.proofs.Outlines.{counted_types, file_types_append, outlined_others, outlined_past, outlined_put, outlined_until, others_of_files, split_put, split_removed, types_append, types_of_files}

-- the types of files
abbrev types_of_files_in : List (List ℕ × Document) → List (Sited TypeDefinition)
types_of_files_in files = type_definitions (of_files files)

-- what stands around a middle part
around : {X : Type 0} (a m b these all : List X) → all ≡ a ++ m ++ b → sites_around (length a) (length b) all these ≡ a ++ these ++ b
around a m b these all is =
    let first : take (length a) all ≡ a = ap (take (length a)) (is ∙ append_assoc a m b) ∙ take-append_seam a (m ++ b) in
    let size : length all ≡ length (a ++ m) + length b = ap length is ∙ length-append (a ++ m) b in
    let skipped : length all - length b ≡ length (a ++ m) = omega (arith, size) in
    let last : drop (length all - length b) all ≡ b = ap₂ drop skipped is ∙ drop-append_seam (a ++ m) b in
    ap₂ (λ xs ys. xs ++ these ++ ys) first last

fits_around : {X : Type 0} (a m b all : List X) → all ≡ a ++ m ++ b → length a + length b ≤ length all
fits_around a m b all is =
    let size : length all ≡ length (a ++ m) + length b = ap length is ∙ length-append (a ++ m) b in
    let more : length (a ++ m) ≡ length a + length m = length-append a m in
    omega (arith, size, more)

-- the types of definitions of different names have these definitions
same_definitions : (ds : List (Sited TypeDefinition)) (es : List (Sited TypeExtension)) → AreOnce (map defined_name ds) → map definition_of (types_of ds es) ≡ ds
same_definitions ds es once = each (first_definitions ds) ∙ all_first ds once
  where
    each : (xs : List (Sited TypeDefinition)) → map definition_of (map (λ (d : Sited TypeDefinition). assembled d (extensions_of es d)) xs) ≡ xs
    each [] = refl
    each (x ∷ xs) = ap (λ ys. x ∷ ys) (each xs)

-- files that an edit leaves, around the one that it puts or removes
module _ (name : List ℕ) (files old : Files) (schema : Schema) (outlines : List (List ℕ × FileOutline)) (until middle past : List (List ℕ × Document)) (these : List (Sited TypeDefinition))
    (is : schema ≡ schema_of old) (same : old.profile ≡ files.profile) (once : AreOnce (map defined_name (type_definitions (definitions old))))
    (before : old.schema ≡ until ++ middle ++ past)
    (after : type_definitions (definitions files) ≡ type_definitions (built_in files.profile.floats) ++ (types_of_files_in until ++ these ++ types_of_files_in past))
    (first : files_until name outlines ≡ map outline_at until) (last : files_past name outlines ≡ map outline_at past) where
  abbrev start : List (Sited TypeDefinition)
  start = type_definitions (built_in files.profile.floats) ++ types_of_files_in until

  count_start : length (type_definitions (built_in files.profile.floats)) + count_types (files_until name outlines) ≡ length start
  count_start = ap (λ n. length (type_definitions (built_in files.profile.floats)) + n) (ap count_types first ∙ counted_types until) ∙ sym (length-append (type_definitions (built_in files.profile.floats)) (types_of_files_in until))

  count_rest : count_types (files_past name outlines) ≡ length (types_of_files_in past)
  count_rest = ap count_types last ∙ counted_types past

  all_definitions : map definition_of schema.types ≡ start ++ types_of_files_in middle ++ types_of_files_in past
  all_definitions =
      ap (λ s. map definition_of s.types) is ∙ same_definitions (type_definitions (definitions old)) (type_extensions (definitions old)) once
      ∙ types_of_files old
      ∙ ap (λ (p : Profile). type_definitions (built_in p.floats) ++ type_definitions (of_files old.schema)) same
      ∙ ap (λ xs. type_definitions (built_in files.profile.floats) ++ xs) (ap types_of_files_in before ∙ file_types_append (until ++ middle) past
      ∙ ap (λ xs. xs ++ types_of_files_in past) (file_types_append until middle))
      ∙ sym (append_assoc (type_definitions (built_in files.profile.floats)) (types_of_files_in until ++ types_of_files_in middle) (types_of_files_in past))
      ∙ ap (λ xs. xs ++ types_of_files_in past) (sym (append_assoc (type_definitions (built_in files.profile.floats)) (types_of_files_in until) (types_of_files_in middle)))

  pub placed_around : AreAround (length (type_definitions (built_in files.profile.floats))) name outlines schema.types
  placed_around =
      let size : length (map definition_of schema.types) ≡ length schema.types = length-map schema.types definition_of in
      let fits = fits_around start (types_of_files_in middle) (types_of_files_in past) (map definition_of schema.types) all_definitions in record {
        once = subst (λ (s : Schema). AreOnce (map name_of s.types)) (sym is) (types_once (type_definitions (definitions old)) (type_extensions (definitions old)));
        within = omega (arith, fits, size, count_start, count_rest);
      }

  pub placed_sites : type_definitions (definitions files) ≡ sites_in_place (length (type_definitions (built_in files.profile.floats))) name outlines (map definition_of schema.types) these
  placed_sites =
      after
      ∙ sym (append_assoc (type_definitions (built_in files.profile.floats)) (types_of_files_in until ++ these) (types_of_files_in past))
      ∙ ap (λ xs. xs ++ types_of_files_in past) (sym (append_assoc (type_definitions (built_in files.profile.floats)) (types_of_files_in until) these))
      ∙ sym (around start (types_of_files_in middle) (types_of_files_in past) these (map definition_of schema.types) all_definitions)
      ∙ ap₂ (λ u p. sites_around u p (map definition_of schema.types) these) (sym count_start) (sym count_rest)

-- the outlines after an edit are those of the files after it
pub outlines_after : (old files : Files) (name : List ℕ) (document : Option Document) (before : Outline) (outlines : List (List ℕ × FileOutline)) → IsOutline old before
    → files.schema ≡ edited_files old.schema name document → outlines ≡ edited_files before.files name (option_map outline_of document)
    → outlines ≡ map outline_at files.schema
outlines_after old files name document before outlines was is are =
    are ∙ ap (λ fs. edited_files fs name (option_map outline_of document)) was.files ∙ sym (outlined_put old.schema name document) ∙ ap (map outline_at) (sym is)

-- and they have the definitions of these that are not of types
pub others_after : (files : Files) (outlines : List (List ℕ × FileOutline)) → outlines ≡ map outline_at files.schema
    → others_in (built_in files.profile.floats) ++ all_others outlines ≡ others_in (definitions files)
others_after files outlines are = ap (λ xs. others_in (built_in files.profile.floats) ++ xs) (ap all_others are ∙ outlined_others files.schema) ∙ sym (others_of_files files)

-- the types of the files that an edit leaves stand around those of the file
pub placed : (old files : Files) (name : List ℕ) (document : Option Document) (schema : Schema) (before after : Outline) → schema ≡ schema_of old → IsOutline old before
    → files.schema ≡ edited_files old.schema name document → old.profile ≡ files.profile → after.files ≡ map outline_at files.schema
    → IsTrue before.are_once → ArePlaced name document files before after schema
placed old files name (Some document) schema before after is was edit same are once =
    let now = with_file old.schema name document in
    let split = split_put name old.schema document in
    let found : after.files ≡ map outline_at now = are ∙ ap (map outline_at) edit in
    let first : files_until name after.files ≡ map outline_at (files_until name now) = ap (files_until name) found ∙ sym (outlined_until name now) in
    let last : files_past name after.files ≡ map outline_at (files_past name now) = ap (files_past name) found ∙ sym (outlined_past name now) in
    let types : type_definitions (definitions files)
    ≡ type_definitions (built_in files.profile.floats) ++ (types_of_files_in (files_until name now) ++ type_definitions (in_order_of document.definitions) ++ types_of_files_in (files_past name now))
    = types_of_files files ∙ ap (λ xs. type_definitions (built_in files.profile.floats) ++ xs)
    (ap types_of_files_in (edit ∙ split.2.1) ∙ file_types_append (files_until name now) ((split.2.0, document) ∷ files_past name now)
    ∙ ap (λ xs. types_of_files_in (files_until name now) ++ xs) (types_append (in_order_of document.definitions) (of_files (files_past name now)))
    ∙ sym (append_assoc (types_of_files_in (files_until name now)) (type_definitions (in_order_of document.definitions)) (types_of_files_in (files_past name now)))) in record {
      around = placed_around name files old schema after.files (files_until name now) split.0 (files_past name now) (type_definitions (in_order_of document.definitions)) is same (was.once once) split.1 types first last;
      sites = placed_sites name files old schema after.files (files_until name now) split.0 (files_past name now) (type_definitions (in_order_of document.definitions)) is same (was.once once) split.1 types first last;
    }
placed old files name None schema before after is was edit same are once =
    let split = split_removed name old.schema in
    let first : files_until name before.files ≡ map outline_at (files_until name old.schema) = ap (files_until name) was.files ∙ sym (outlined_until name old.schema) in
    let last : files_past name before.files ≡ map outline_at (files_past name old.schema) = ap (files_past name) was.files ∙ sym (outlined_past name old.schema) in
    let types : type_definitions (definitions files)
    ≡ type_definitions (built_in files.profile.floats) ++ (types_of_files_in (files_until name old.schema) ++ [] ++ types_of_files_in (files_past name old.schema))
    = types_of_files files ∙ ap (λ xs. type_definitions (built_in files.profile.floats) ++ xs)
    (ap types_of_files_in (edit ∙ split.2) ∙ file_types_append (files_until name old.schema) (files_past name old.schema)
    ∙ ap (λ xs. xs ++ types_of_files_in (files_past name old.schema)) (sym (append-nil (types_of_files_in (files_until name old.schema))))) in record {
      around = placed_around name files old schema before.files (files_until name old.schema) split.0 (files_past name old.schema) [] is same (was.once once) split.1 types first last;
      sites = placed_sites name files old schema before.files (files_until name old.schema) split.0 (files_past name old.schema) [] is same (was.once once) split.1 types first last;
    }

-- the types after an edit are those of the schema of the files
pub schema_types : (files : Files) (edit : TypeEdit) (edited : List (List ℕ)) (before : Schema) (others : List (Sited Tree)) (extensions : List (Sited TypeExtension)) (found : EditedTypes)
    → edit.edited.now ≡ edited → edit.schema.now ≡ before → AreExtensions edit extensions → extensions ≡ type_extensions others → others ≡ others_in (definitions files)
    → KeepsOthers edited before (schema_of files) → AreTypesAfter edit (type_definitions (definitions files)) found
    → (found.types ≡ all_types_in (definitions files)) × AreOnce (map name_of found.types)
schema_types files edit edited before others extensions found names schema are is all keeps after =
    let sites = type_definitions (definitions files) in
    let same : types_of sites (type_extensions others) ≡ all_types_in (definitions files) = same_types (definitions files) sites others refl all in
    let kept : KeepsTypes edit.edited.now edit.schema.now (types_of sites (type_extensions others)) =
    subst (λ ns. KeepsTypes ns edit.schema.now (types_of sites (type_extensions others))) (sym names)
    (subst (λ s. KeepsTypes edited s (types_of sites (type_extensions others))) (sym schema) (subst (KeepsTypes edited before) (sym same) keeps)) in
    let types = after.types (type_extensions others) (subst (AreExtensions edit) is are) kept in (
      types ∙ same,
      subst (λ ts. AreOnce (map name_of ts)) (sym types) (types_once sites (type_extensions others)),
    )
