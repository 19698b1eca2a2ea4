-- What an edit of a file leaves of what schema files give to the schema.
use Rattle.std.proofs.Common.{◌≡◌, ◌+◌, ◌++◌, ℕ, List, [], ◌∷◌, Bool, true, false, Option, Some, None, map, length, refl, sym, ap, ◌∙◌, arith}
use Rattle.std.specs.Prelude.{option_map}
use Rattle.std.specs.BTreeMap.{is_at}
use Rattle.std.specs.Cmp.Lexicographic.{texts_ties}
use Rattle.std.specs.declared.cmp.Ordering.{Ordering}
use Rattle.std.specs.declared.cmp.Ordering.TheVariants.{Less, Equal, Greater}
use Rattle.std.proofs.lemmas.Grind.{flat_map-append}
use Rattle.std.proofs.lemmas.List.{length-append}
use Rattle.std.proofs.lemmas.List.Elements.{filter-append}
use Rattle.std.proofs.lemmas.Slice.Eq.{bytes_eq-Decides}
use Rattle.gql_ast.specs.FileMaps.{name_order, with_file, without_file}
use Rattle.gql_ast.specs.declared.definition.Document.{Document}
use Rattle.gql_ast.specs.declared.definition.Tree.{Tree}
use Rattle.gql_ast.specs.declared.files.Files.{Files}
use Rattle.gql_built_in.specs.BuiltIn.{built_in}
use Rattle.gql_built_in.specs.declared.sited.Sited.{Sited}
use Rattle.gql_types.specs.Definitions.{definitions, in_order_of, of_files, type_definitions, type_in}
use Rattle.gql_types.specs.Outlines.{all_others, count_types, edited_files, files_past, files_until, outline_at, outline_of}
use Rattle.gql_types.specs.Sites.{is_other, others_in}
use Rattle.gql_types.specs.declared.outline.FileOutline.{FileOutline}

-- a name is its own
itself : (name : List ℕ) → is_at (name_order name) name ≡ true
itself name = sym (texts_ties name name) ∙ (bytes_eq-Decides name name).1 refl

-- ---- the files before the one of a name, that file, and the files after it

module _ {A : Type 0} (name : List ℕ) where
  -- where a file is put, the others stay around it
  abbrev pub PutSplits : List (List ℕ × A) → A → Type 0
  PutSplits files document = (middle : List (List ℕ × A))
      × (files ≡ files_until name (with_file files name document) ++ middle ++ files_past name (with_file files name document))
      × ((k : List ℕ) × (with_file files name document
      ≡ files_until name (with_file files name document) ++ (k, document) ∷ files_past name (with_file files name document)))

  pub split_put : (files : List (List ℕ × A)) (document : A) → PutSplits files document
  split_put [] document = rw (itself name) ([], refl, (name, refl))
  split_put (e ∷ es) document = by (name_order name e.0) refl (split_put es document)
    where
      by : (o : Ordering) → name_order name e.0 ≡ o → PutSplits es document → PutSplits (e ∷ es) document
      by Less is rest = rw (is, itself name) ([], refl, (name, refl))
      by Equal is rest = rw (is, is) (e ∷ [], refl, (e.0, refl))
      by Greater is rest = rw (is, is) (
        rest.0,
        ap (λ fs. e ∷ fs) rest.1,
        (rest.2.0, ap (λ fs. e ∷ fs) rest.2.1),
      )

  -- where a file is removed, the others stay
  abbrev pub RemovalSplits : List (List ℕ × A) → Type 0
  RemovalSplits files = (middle : List (List ℕ × A))
      × (files ≡ files_until name files ++ middle ++ files_past name files)
      × (without_file files name ≡ files_until name files ++ files_past name files)

  pub split_removed : (files : List (List ℕ × A)) → RemovalSplits files
  split_removed [] = ([], refl, refl)
  split_removed (e ∷ es) = by (is_at (name_order name) e.0) refl (split_removed es)
    where
      by : (b : Bool) → is_at (name_order name) e.0 ≡ b → RemovalSplits es → RemovalSplits (e ∷ es)
      by true is rest = rw is (e ∷ [], refl, refl)
      by false is rest = rw is (rest.0, ap (λ fs. e ∷ fs) rest.1, ap (λ fs. e ∷ fs) rest.2)

-- ---- what is told of each file under its name

module _ {A B : Type 0} (f : A → B) where
  -- a file as what is told of it
  abbrev told : List ℕ × A → List ℕ × B
  told file = (file.0, f file.1)

  told_put : (files : List (List ℕ × A)) (name : List ℕ) (document : A) → map told (with_file files name document) ≡ with_file (map told files) name (f document)
  told_put [] name document = refl
  told_put (e ∷ es) name document = by (name_order name e.0) refl (told_put es name document)
    where
      by : (o : Ordering) → name_order name e.0 ≡ o → map told (with_file es name document) ≡ with_file (map told es) name (f document)
          → map told (with_file (e ∷ es) name document) ≡ with_file (map told (e ∷ es)) name (f document)
      by Less is rest = rw is refl
      by Equal is rest = rw is refl
      by Greater is rest = rw is (ap (λ fs. told e ∷ fs) rest)

  told_removed : (files : List (List ℕ × A)) (name : List ℕ) → map told (without_file files name) ≡ without_file (map told files) name
  told_removed [] name = refl
  told_removed (e ∷ es) name = by (is_at (name_order name) e.0) refl (told_removed es name)
    where
      by : (b : Bool) → is_at (name_order name) e.0 ≡ b → map told (without_file es name) ≡ without_file (map told es) name
          → map told (without_file (e ∷ es) name) ≡ without_file (map told (e ∷ es)) name
      by true is rest = rw is refl
      by false is rest = rw is (ap (λ fs. told e ∷ fs) rest)

  told_until : (name : List ℕ) (files : List (List ℕ × A)) → map told (files_until name files) ≡ files_until name (map told files)
  told_until name [] = refl
  told_until name (e ∷ es) = by (is_at (name_order name) e.0) refl (told_until name es)
    where
      by : (b : Bool) → is_at (name_order name) e.0 ≡ b → map told (files_until name es) ≡ files_until name (map told es)
          → map told (files_until name (e ∷ es)) ≡ files_until name (map told (e ∷ es))
      by true is rest = rw is refl
      by false is rest = rw is (ap (λ fs. told e ∷ fs) rest)

  told_past : (name : List ℕ) (files : List (List ℕ × A)) → map told (files_past name files) ≡ files_past name (map told files)
  told_past name [] = refl
  told_past name (e ∷ es) = by (is_at (name_order name) e.0) refl (told_past name es)
    where
      by : (b : Bool) → is_at (name_order name) e.0 ≡ b → map told (files_past name es) ≡ files_past name (map told es)
          → map told (files_past name (e ∷ es)) ≡ files_past name (map told (e ∷ es))
      by true is rest = rw is refl
      by false is rest = rw is rest

-- the outlines after an edit are those of the files after it
pub outlined_put : (files : List (List ℕ × Document)) (name : List ℕ) (document : Option Document)
    → map outline_at (edited_files files name document) ≡ edited_files (map outline_at files) name (option_map outline_of document)
outlined_put files name (Some document) = told_put outline_of files name document
outlined_put files name None = told_removed outline_of files name

-- the outlines of the files before one are those before its outline
pub outlined_until : (name : List ℕ) (files : List (List ℕ × Document)) → map outline_at (files_until name files) ≡ files_until name (map outline_at files)
outlined_until = told_until outline_of

-- and after it
pub outlined_past : (name : List ℕ) (files : List (List ℕ × Document)) → map outline_at (files_past name files) ≡ files_past name (map outline_at files)
outlined_past = told_past outline_of

-- ---- definitions of lists that are joined

pub types_append : (ds es : List (Sited Tree)) → type_definitions (ds ++ es) ≡ type_definitions ds ++ type_definitions es
types_append ds es = flat_map-append (λ (d : Sited Tree). type_in d.file d.node) ds es

pub others_append : (ds es : List (Sited Tree)) → others_in (ds ++ es) ≡ others_in ds ++ others_in es
others_append ds es = filter-append (λ (d : Sited Tree). is_other d.node) ds es

pub files_append : (fs gs : List (List ℕ × Document)) → of_files (fs ++ gs) ≡ of_files fs ++ of_files gs
files_append fs gs = flat_map-append (λ (f : List ℕ × Document). in_order_of f.1.definitions) fs gs

pub file_types_append : (fs gs : List (List ℕ × Document))
    → type_definitions (of_files (fs ++ gs)) ≡ type_definitions (of_files fs) ++ type_definitions (of_files gs)
file_types_append fs gs = ap type_definitions (files_append fs gs) ∙ types_append (of_files fs) (of_files gs)

pub file_others_append : (fs gs : List (List ℕ × Document)) → others_in (of_files (fs ++ gs)) ≡ others_in (of_files fs) ++ others_in (of_files gs)
file_others_append fs gs = ap others_in (files_append fs gs) ∙ others_append (of_files fs) (of_files gs)

-- the types of a schema are the built-in ones, then those of its files
pub types_of_files : (files : Files) → type_definitions (definitions files) ≡ type_definitions (built_in files.profile.floats) ++ type_definitions (of_files files.schema)
types_of_files files = types_append (built_in files.profile.floats) (of_files files.schema)

-- and so are the others
pub others_of_files : (files : Files) → others_in (definitions files) ≡ others_in (built_in files.profile.floats) ++ others_in (of_files files.schema)
others_of_files files = others_append (built_in files.profile.floats) (of_files files.schema)

-- ---- what outlines count and give

pub count_append : (xs ys : List (List ℕ × FileOutline)) → count_types (xs ++ ys) ≡ count_types xs + count_types ys
count_append [] ys = omega arith
count_append (x ∷ xs) ys = let rest = count_append xs ys in omega arith

-- outlines count the types of their files
pub counted_types : (files : List (List ℕ × Document)) → count_types (map outline_at files) ≡ length (type_definitions (of_files files))
counted_types [] = refl
counted_types (f ∷ files) =
    ap (λ n. length (type_definitions (in_order_of f.1.definitions)) + n) (counted_types files)
    ∙ sym (length-append (type_definitions (in_order_of f.1.definitions)) (type_definitions (of_files files)))
    ∙ ap length (sym (types_append (in_order_of f.1.definitions) (of_files files)))

-- and give their others
pub outlined_others : (files : List (List ℕ × Document)) → all_others (map outline_at files) ≡ others_in (of_files files)
outlined_others [] = refl
outlined_others (f ∷ files) =
    ap (λ ds. others_in (in_order_of f.1.definitions) ++ ds) (outlined_others files)
    ∙ sym (others_append (in_order_of f.1.definitions) (of_files files))
