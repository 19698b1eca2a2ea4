-- An edit of a schema file changes no type but those that the file defines or extends, before the
-- edit or after it.
use Rattle.std.proofs.Common.{◌≡◌, ◌⊎◌, inl, inr, ℕ, List, [], ◌∷◌, ◌++◌, Bool, true, false, Option, Some, None, not, map, filter, find, flat_map, bytes_eq, Contains, refl, sym, ap, ◌∙◌, subst}
use Rattle.std.specs.Prelude.{is_some, option_map}
use Rattle.std.specs.Option.{option_or}
use Rattle.std.specs.BTreeMap.{is_at}
use Rattle.std.specs.declared.cmp.Ordering.{Ordering}
use Rattle.std.specs.declared.cmp.Ordering.TheVariants.{Less, Equal, Greater}
use Rattle.std.proofs.lemmas.Grind.{flat_map-append}
use Rattle.std.proofs.lemmas.List.Elements.{filter-append}
use Rattle.std.proofs.lemmas.List.Folds.{find-append}
use Rattle.std.proofs.lemmas.Slice.Eq.{bytes_eq-Decides}
use Rattle.gql_ast.specs.FileMaps.{file_named, name_order, with_file, without_file}
use Rattle.gql_ast.specs.declared.definition.Definition.{Definition}
use Rattle.gql_ast.specs.declared.definition.Document.{Document}
use Rattle.gql_ast.specs.declared.definition.Tree.{Tree}
use Rattle.gql_ast.specs.declared.definition.Tree.TheVariants as tree
use Rattle.gql_ast.specs.declared.files.Files.{Files}
use Rattle.gql_ast.specs.declared.type_system.TypeDefinition.{TypeDefinition}
use Rattle.gql_ast.specs.declared.type_system.TypeExtension.{TypeExtension}
use Rattle.gql_built_in.specs.BuiltIn.{built_in}
use Rattle.gql_built_in.specs.declared.sited.Sited.{Sited}
use Rattle.gql_types.specs.Definitions.{of_file, of_files, in_order_of, definitions, names_a_type, type_in, extension_in, type_definitions, type_extensions}
use Rattle.gql_types.specs.Edits.{KeepsOthers, edited_names, names_in, type_name_in, type_names, with_schema, without_schema}
use Rattle.gql_types.specs.Possible.{name_of}
use Rattle.gql_types.specs.Schemas.{schema_of}
use Rattle.gql_types.specs.Types.{assembled, extends, extensions_of, first_definitions, types_of}
use Rattle.gql_types.specs.declared.schema_type.SchemaType.{SchemaType}
use Rattle.gql_types.proofs.Members.{none, cases, Contains-from_filter, Contains-from_map}

-- ---- names

either : (b : Bool) → (b ≡ true) ⊎ (b ≡ false)
either true = inl refl
either false = inr refl

same : (a b : List ℕ) → bytes_eq a b ≡ true → a ≡ b
same a b e = (bytes_eq-Decides a b).0 e

itself : (a : List ℕ) → bytes_eq a a ≡ true
itself a = (bytes_eq-Decides a a).1 refl

-- two names that differ differ the other way round
apart : (a b : List ℕ) → bytes_eq a b ≡ false → bytes_eq b a ≡ false
apart a b e = elim (either (bytes_eq b a)) [
  | inl h ↦ absurd (cc (sym (subst (λ x. bytes_eq a x ≡ true) (sym (same b a h)) (itself a)) ∙ e))
  | inr h ↦ h
]

-- ---- what is found in a list, by those that pass

module _ {A : Type 0} (p : A → Bool) where
  found_in_these : (xs : List A) → find p xs ≡ find p (filter p xs)
  found_in_these [] = refl
  found_in_these (x ∷ xs) = elim (either (p x)) [
    | inl h ↦ rw (h, h) refl
    | inr h ↦ rw h (found_in_these xs)
  ]

  found_same : (xs ys : List A) → filter p xs ≡ filter p ys → find p xs ≡ find p ys
  found_same xs ys e = found_in_these xs ∙ ap (find p) e ∙ sym (found_in_these ys)

found_mapped : {A B : Type 0} (p : B → Bool) (f : A → B) (xs : List A) → find p (map f xs) ≡ option_map f (find (λ x. p (f x)) xs)
found_mapped p f [] = refl
found_mapped p f (x ∷ xs) = elim (either (p (f x))) [
  | inl h ↦ rw h refl
  | inr h ↦ rw h (found_mapped p f xs)
]

-- ---- first definitions

abbrev named : List ℕ → Sited TypeDefinition → Bool
named q d = bytes_eq q d.node.name.text

-- those of other names do not count
others_left : (n q : List ℕ) → bytes_eq q n ≡ false → (ds : List (Sited TypeDefinition))
    → find (named q) (filter (λ (e : Sited TypeDefinition). not (bytes_eq n e.node.name.text)) ds) ≡ find (named q) ds
others_left n q other [] = refl
others_left n q other (d ∷ ds) = elim (either (bytes_eq n d.node.name.text)) [
  | inl h ↦ let no : bytes_eq q d.node.name.text ≡ false = subst (λ y. bytes_eq q y ≡ false) (same n d.node.name.text h) other in
      rw (h, no) (others_left n q other ds)
  | inr h ↦ rw h (elim (either (bytes_eq q d.node.name.text)) [
    | inl k ↦ rw k refl
    | inr k ↦ rw k (others_left n q other ds)
  ])
]

-- what is found among the first definitions is found among all
found_first : (q : List ℕ) (ds : List (Sited TypeDefinition)) → find (named q) (first_definitions ds) ≡ find (named q) ds
found_first q [] = refl
found_first q (d ∷ ds) = elim (either (bytes_eq q d.node.name.text)) [
  | inl h ↦ rw h refl
  | inr h ↦ rw h (others_left d.node.name.text q h (first_definitions ds) ∙ found_first q ds)
]

-- a first definition is the one that is found by its name
is_found : (ds : List (Sited TypeDefinition)) (d : Sited TypeDefinition) → Contains (first_definitions ds) d → find (named d.node.name.text) ds ≡ Some d
is_found [] d h = absurd (none d h)
is_found (e ∷ es) d h = elim (cases d e (filter (λ (x : Sited TypeDefinition). not (bytes_eq e.node.name.text x.node.name.text)) (first_definitions es)) h) [
  | inl it ↦ subst (λ x. find (named x.node.name.text) (e ∷ es) ≡ Some x) (sym it) (rw (itself e.node.name.text) refl)
  | inr t ↦
      let r = Contains-from_filter (λ (x : Sited TypeDefinition). not (bytes_eq e.node.name.text x.node.name.text)) (first_definitions es) d t in
      let no : bytes_eq d.node.name.text e.node.name.text ≡ false = apart e.node.name.text d.node.name.text (turned (bytes_eq e.node.name.text d.node.name.text) r.1) in
      rw no (is_found es d r.0)
]
  where
    turned : (b : Bool) → not b ≡ true → b ≡ false
    turned true e = cc e
    turned false e = refl

-- the type of a name is made of the first definition of the name
type_found : (q : List ℕ) (ds : List (Sited TypeDefinition)) (es : List (Sited TypeExtension))
    → find (λ (t : SchemaType). bytes_eq q (name_of t)) (types_of ds es) ≡ option_map (λ (d : Sited TypeDefinition). assembled d (extensions_of es d)) (find (named q) ds)
type_found q ds es =
    found_mapped (λ (t : SchemaType). bytes_eq q (name_of t)) (λ (d : Sited TypeDefinition). assembled d (extensions_of es d)) (first_definitions ds)
    ∙ ap (option_map (λ (d : Sited TypeDefinition). assembled d (extensions_of es d))) (found_first q ds)

-- a type stays if the definitions and the extensions of its name stay
type_stays : (ds es_now : _) (fs fs_now : _) (t : SchemaType) → Contains (types_of es_now fs_now) t
    → find (named (name_of t)) ds ≡ find (named (name_of t)) es_now
    → ((d : Sited TypeDefinition) → d.node.name.text ≡ name_of t → extensions_of fs d ≡ extensions_of fs_now d)
    → find (λ (u : SchemaType). bytes_eq (name_of t) (name_of u)) (types_of ds fs) ≡ Some t
type_stays ds es_now fs fs_now t h same_definitions same_extensions =
    let r = Contains-from_map (λ (d : Sited TypeDefinition). assembled d (extensions_of fs_now d)) (first_definitions es_now) t h in
    let name : r.0.node.name.text ≡ name_of t = sym (ap name_of r.2) in
    let there_now : find (named (name_of t)) es_now ≡ Some r.0 = subst (λ q. find (named q) es_now ≡ Some r.0) name (is_found es_now r.0 r.1) in
    type_found (name_of t) ds fs
    ∙ ap (option_map (λ (d : Sited TypeDefinition). assembled d (extensions_of fs d))) (same_definitions ∙ there_now)
    ∙ ap Some (ap (assembled r.0) (same_extensions r.0 name) ∙ sym r.2)

-- ---- what files have that passes a test

module _ {A : Type 0} (own : Sited Tree → List A) (p : A → Bool) where
  -- those of a file
  abbrev of_document : Document → List A
  of_document document = filter p (flat_map own (in_order_of document.definitions))

  -- those of a file, if there is one
  abbrev of_option : Option Document → List A
  of_option None = []
  of_option (Some document) = of_document document

  -- those of files
  abbrev of_all : List (List ℕ × Document) → List A
  of_all files = filter p (flat_map own (of_files files))

  of_first : (e : List ℕ × Document) (es : List (List ℕ × Document)) → of_all (e ∷ es) ≡ of_document e.1 ++ of_all es
  of_first e es = ap (filter p) (flat_map-append own (in_order_of e.1.definitions) (of_files es))
      ∙ filter-append p (flat_map own (in_order_of e.1.definitions)) (flat_map own (of_files es))

  nothing_first : (e : List ℕ × Document) (es : List (List ℕ × Document)) → of_document e.1 ≡ [] → of_all (e ∷ es) ≡ of_all es
  nothing_first e es gone = of_first e es ∙ ap (λ xs. xs ++ of_all es) gone

  after_same : (e : List ℕ × Document) (es fs : List (List ℕ × Document)) → of_all es ≡ of_all fs → of_all (e ∷ es) ≡ of_all (e ∷ fs)
  after_same e es fs eq = of_first e es ∙ ap (λ xs. of_document e.1 ++ xs) eq ∙ sym (of_first e fs)

  module _ (name : List ℕ) where
    put_same : (document : Document) (es : List (List ℕ × Document)) → of_document document ≡ [] → of_option (file_named es name) ≡ []
        → of_all (with_file es name document) ≡ of_all es
    put_same document [] new old = nothing_first (name, document) [] new
    put_same document (e ∷ es) new old = by (name_order name e.0) refl old (put_same document es new)
      where
        by : (o : Ordering) → name_order name e.0 ≡ o → of_option (file_named (e ∷ es) name) ≡ []
            → (of_option (file_named es name) ≡ [] → of_all (with_file es name document) ≡ of_all es)
            → of_all (with_file (e ∷ es) name document) ≡ of_all (e ∷ es)
        by Less is old rest = rw is (nothing_first (name, document) (e ∷ es) new)
        by Equal is old rest =
            let gone : of_document e.1 ≡ [] = rw is at old in
            rw is (nothing_first (e.0, document) es new ∙ sym (nothing_first e es gone))
        by Greater is old rest =
            let left : of_option (file_named es name) ≡ [] = rw is at old in
            rw is (after_same e (with_file es name document) es (rest left))

    removed_same : (es : List (List ℕ × Document)) → of_option (file_named es name) ≡ []
        → of_all (without_file es name) ≡ of_all es
    removed_same [] old = refl
    removed_same (e ∷ es) old = by (is_at (name_order name) e.0) refl old (removed_same es)
      where
        by : (b : Bool) → is_at (name_order name) e.0 ≡ b → of_option (file_named (e ∷ es) name) ≡ []
            → (of_option (file_named es name) ≡ [] → of_all (without_file es name) ≡ of_all es)
            → of_all (without_file (e ∷ es) name) ≡ of_all (e ∷ es)
        by true is old rest =
            let gone : of_document e.1 ≡ [] = rw is at old in
            rw is (sym (nothing_first e es gone))
        by false is old rest =
            let left : of_option (file_named es name) ≡ [] = rw is at old in
            rw is (after_same e (without_file es name) es (rest left))

  -- with the built-in definitions
  with_built_in : (floats : Bool) (files : List (List ℕ × Document)) → filter p (flat_map own (built_in floats ++ of_files files)) ≡ filter p (flat_map own (built_in floats)) ++ of_all files
  with_built_in floats files = ap (filter p) (flat_map-append own (built_in floats) (of_files files)) ∙ filter-append p (flat_map own (built_in floats)) (flat_map own (of_files files))

  all_same : (floats : Bool) (fs gs : List (List ℕ × Document)) → of_all fs ≡ of_all gs
      → filter p (flat_map own (built_in floats ++ of_files fs)) ≡ filter p (flat_map own (built_in floats ++ of_files gs))
  all_same floats fs gs e = with_built_in floats fs ∙ ap (λ xs. filter p (flat_map own (built_in floats)) ++ xs) e ∙ sym (with_built_in floats gs)

-- ---- a file that has not the name

none_first : {A : Type 0} (a b : Option A) → is_some (option_or a b) ≡ false → is_some a ≡ false
none_first None b e = refl
none_first (Some x) b e = absurd (cc e)

none_second : {A : Type 0} (a b : Option A) → is_some (option_or a b) ≡ false → is_some b ≡ false
none_second None b e = e
none_second (Some x) b e = absurd (cc e)

-- a name that neither list has
module _ (q : List ℕ) where
  abbrev Lacks : List (List ℕ) → Type 0
  Lacks names = is_some (find (bytes_eq q) names) ≡ false

  lacks_first : (xs ys : List (List ℕ)) → Lacks (xs ++ ys) → Lacks xs
  lacks_first xs ys e = none_first (find (bytes_eq q) xs) (find (bytes_eq q) ys) (sym (ap is_some (find-append (bytes_eq q) xs ys)) ∙ e)

  lacks_second : (xs ys : List (List ℕ)) → Lacks (xs ++ ys) → Lacks ys
  lacks_second xs ys e = none_second (find (bytes_eq q) xs) (find (bytes_eq q) ys) (sym (ap is_some (find-append (bytes_eq q) xs ys)) ∙ e)

  lacks_one : (n : List ℕ) → Lacks (n ∷ []) → bytes_eq q n ≡ false
  lacks_one n e = elim (either (bytes_eq q n)) [
    | inl h ↦ absurd (cc (sym (rw h at e)))
    | inr h ↦ h
  ]

  -- what each definition has that passes
  module _ {A : Type 0} (own : Sited Tree → List A) (p : A → Bool)
      (none_own : (d : Definition) → Lacks (type_name_in d.tree) → filter p (own (of_file d)) ≡ []) where
    no_own : (ds : List Definition) → Lacks (names_in ds) → filter p (flat_map own (in_order_of ds)) ≡ []
    no_own [] e = refl
    no_own (d ∷ ds) e =
        filter-append p (own (of_file d)) (flat_map own (in_order_of ds))
        ∙ ap (λ xs. xs ++ filter p (flat_map own (in_order_of ds))) (none_own d (lacks_first (type_name_in d.tree) (names_in ds) e))
        ∙ no_own ds (lacks_second (type_name_in d.tree) (names_in ds) e)

    no_own_in : (o : Option Document) → Lacks (type_names o) → of_option own p o ≡ []
    no_own_in None e = refl
    no_own_in (Some document) e = no_own document.definitions e

    after_put : (files : Files) (name : List ℕ) (document : Document) → Lacks (edited_names (file_named files.schema name) (Some document))
        → filter p (flat_map own (definitions files)) ≡ filter p (flat_map own (definitions (with_schema files name document)))
    after_put files name document e = all_same own p files.profile.floats files.schema (with_file files.schema name document)
        (sym (put_same own p name document files.schema
        (no_own document.definitions (lacks_second (type_names (file_named files.schema name)) (names_in document.definitions) e))
        (no_own_in (file_named files.schema name) (lacks_first (type_names (file_named files.schema name)) (names_in document.definitions) e))))

    after_removal : (files : Files) (name : List ℕ) → Lacks (edited_names (file_named files.schema name) None)
        → filter p (flat_map own (definitions files)) ≡ filter p (flat_map own (definitions (without_schema files name)))
    after_removal files name e = all_same own p files.profile.floats files.schema (without_file files.schema name)
        (sym (removed_same own p name files.schema
        (no_own_in (file_named files.schema name) (lacks_first (type_names (file_named files.schema name)) [] e))))

-- ---- definitions and extensions of the name

abbrev its_type : Sited Tree → List (Sited TypeDefinition)
its_type d = type_in d.file d.node

abbrev its_extension : Sited Tree → List (Sited TypeExtension)
its_extension d = extension_in d.file d.node

no_type : (q : List ℕ) (file : Option (List ℕ)) (t : Tree) → Lacks q (type_name_in t) → filter (named q) (type_in file t) ≡ []
no_type q file (tree.Type d) e = elim (either (names_a_type file d.name.text)) [
  | inl h ↦ rw (h, lacks_one q d.name.text e) refl
  | inr h ↦ rw h refl
]
no_type q file (tree.TypeExtension x) e = refl
no_type q file (tree.Operation x) e = refl
no_type q file (tree.Fragment x) e = refl
no_type q file (tree.Schema x) e = refl
no_type q file (tree.Directive x) e = refl
no_type q file (tree.SchemaExtension x) e = refl

no_extension : (q : List ℕ) (d : Sited TypeDefinition) → d.node.name.text ≡ q → (file : Option (List ℕ)) (t : Tree) → Lacks q (type_name_in t)
    → filter (extends d) (extension_in file t) ≡ []
no_extension q d is file (tree.TypeExtension x) e =
    let no : bytes_eq d.node.name.text x.name.text ≡ false = subst (λ n. bytes_eq n x.name.text ≡ false) (sym is) (lacks_one q x.name.text e) in
    rw no refl
no_extension q d is file (tree.Type x) e = refl
no_extension q d is file (tree.Operation x) e = refl
no_extension q d is file (tree.Fragment x) e = refl
no_extension q d is file (tree.Schema x) e = refl
no_extension q d is file (tree.Directive x) e = refl
no_extension q d is file (tree.SchemaExtension x) e = refl

-- ---- the types of other names stay

pub put_keeps : (files : Files) (name : List ℕ) (document : Document)
    → KeepsOthers (edited_names (file_named files.schema name) (Some document)) (schema_of files) (schema_of (with_schema files name document))
put_keeps files name document t h other =
    type_stays (type_definitions (definitions files)) (type_definitions (definitions (with_schema files name document)))
    (type_extensions (definitions files)) (type_extensions (definitions (with_schema files name document))) t h
    (found_same (named (name_of t)) (type_definitions (definitions files)) (type_definitions (definitions (with_schema files name document)))
    (after_put (name_of t) its_type (named (name_of t)) (λ d. no_type (name_of t) (Some d.file) d.tree) files name document other))
    (λ d is. after_put (name_of t) its_extension (extends d) (λ e. no_extension (name_of t) d is (Some e.file) e.tree) files name document other)

pub removal_keeps : (files : Files) (name : List ℕ)
    → KeepsOthers (edited_names (file_named files.schema name) None) (schema_of files) (schema_of (without_schema files name))
removal_keeps files name t h other =
    type_stays (type_definitions (definitions files)) (type_definitions (definitions (without_schema files name)))
    (type_extensions (definitions files)) (type_extensions (definitions (without_schema files name))) t h
    (found_same (named (name_of t)) (type_definitions (definitions files)) (type_definitions (definitions (without_schema files name)))
    (after_removal (name_of t) its_type (named (name_of t)) (λ d. no_type (name_of t) (Some d.file) d.tree) files name other))
    (λ d is. after_removal (name_of t) its_extension (extends d) (λ e. no_extension (name_of t) d is (Some e.file) e.tree) files name other)
