-- A new document file stands among the others. If it brings only new names, and uses the fragments that
-- it brings, no rule on names finds a fault after it is put if none does before.
use Rattle.std.specs.Prelude.{◌≡◌, ◌<◌, ◌↔◌, ℕ, List, [], ◌∷◌, ◌++◌, refl, Contains, bytes_eq, find, flat_map, is_some, length, map, not, IsTrue, Bool, true, false, Option, Some, None}
use Rattle.std.specs.declared.cmp.Ordering.{Ordering}
use Rattle.std.specs.declared.cmp.Ordering.TheVariants.{Less, Equal, Greater}
use Rattle.std.specs.Option.{option_copied}
use Rattle.std.proofs.Common.{ap, arith, get_or, sym, ◌∙◌, subst, inl, inr, Bor}
use Rattle.std.proofs.lemmas.Grind.{flat_map-append}
use Rattle.std.proofs.lemmas.List.{map-append}
use Rattle.std.proofs.lemmas.Slice.Eq.{bytes_eq-Decides}
use Rattle.gql_ast.specs.FileMaps.{file_named, name_order, with_file}
use Rattle.gql_ast.specs.declared.definition.Definition.{Definition}
use Rattle.gql_ast.specs.declared.definition.Document.{Document}
use Rattle.gql_ast.specs.declared.definition.Tree.{Tree}
use Rattle.gql_ast.specs.declared.definition.Tree.TheVariants as tree
use Rattle.gql_ast.specs.declared.files.Files.{Files}
use Rattle.gql_facts.specs.Facts.{fragment_in, fragments}
use Rattle.gql_facts.specs.declared.fact.FragmentFact.{FragmentFact}
use Rattle.gql_facts.specs.ListMembers.{Contains-cases, Contains-here, Contains-map, Contains-nil, either, found_in}
use Rattle.gql_verdict.specs.Definitions.{all_definitions, fragment_name}
use Rattle.gql_verdict.specs.DocumentEdits.{name_of, with_document}
use Rattle.gql_verdict.specs.NameFaults.{faults_of}
use Rattle.gql_verdict.specs.NameViews.{KeepsNamesSound, Titled, operation, fragment, of_types, titled}
use Rattle.gql_verdict.specs.Naming.{named_by, text_of, with_name}
use Rattle.gql_verdict.specs.NewNames.{BringsNewNames, HasNewName, HaveNewNames, HaveSameNames, IsNoneOf, names_of_fragments, names_of_operations}
use Rattle.gql_verdict.specs.Spreads.{Names}
use Rattle.gql_verdict.proofs.Inserted.{inserted_sound}

-- ---- where the file stands

-- a file is put where none is: the others stay around it
abbrev pub StandsAmong : List ℕ → Document → List (List ℕ × Document) → Type 0
StandsAmong name document files = (before : List (List ℕ × Document)) × (after : List (List ℕ × Document))
    × (files ≡ before ++ after) × (with_file files name document ≡ before ++ (name, document) ∷ after)

put_among : (name : List ℕ) (document : Document) (files : List (List ℕ × Document)) → file_named files name ≡ None → StandsAmong name document files
put_among name document [] absent = ([], [], refl, refl)
put_among name document (e ∷ es) absent = by (name_order name e.0) refl (put_among name document es)
  where
    by : (o : Ordering) → name_order name e.0 ≡ o → (file_named es name ≡ None → StandsAmong name document es) → StandsAmong name document (e ∷ es)
    by Less is rest = rw is ([], e ∷ es, refl, refl)
    by Equal is rest =
        let found : Some e.1 ≡ None = rw is at absent in
        absurd (cc found)
    by Greater is rest =
        let later : file_named es name ≡ None = rw is at absent in
        let r = rest later in
        rw is (e ∷ r.0, r.1, ap (λ fs. e ∷ fs) r.2, ap (λ fs. e ∷ fs) r.3)

-- no rule on names finds a fault after a file is put that brings only new names, if none does before
pub new_file_keeps : (files : Files) (name : List ℕ) (document : Document) → BringsNewNames files.documents name document
    → KeepsNamesSound files (with_document files name document)
new_file_keeps files name document brings sound =
    let there = put_among name document files.documents brings.absent in
    let in_file = λ (file : List ℕ × Document). file.1.definitions in
    let xs = all_definitions there.0 in
    let ys = all_definitions there.1 in
    let before : all_definitions files.documents ≡ xs ++ ys = ap all_definitions there.2 ∙ flat_map-append in_file there.0 there.1 in
    let after : all_definitions (with_file files.documents name document) ≡ xs ++ (document.definitions ++ ys) =
    ap all_definitions there.3 ∙ flat_map-append in_file there.0 ((name, document) ∷ there.1) in
    ap faults_of after ∙ inserted_sound xs document.definitions ys
    (subst (λ ds. HaveNewNames (names_of_operations ds) (names_of_fragments ds) document.definitions) before brings.new)
    (subst (λ ds. 0 < length (names_of_operations ds)) before brings.named)
    (ap faults_of (sym before) ∙ sound)
    brings.alone

-- ---- names that are looked up

-- a look-up that finds a file does not find none
pub none_there : {A : Type 0} (found : Option (Bor A)) → is_some found ≡ true → option_copied found ≡ None → ⊥
none_there None some none =
    let z : false ≡ true = some in
    cc z
none_there (Some x) some none =
    let z : Some x.now ≡ None = none in
    cc z

module _ {A : Type 0} (name : A → List ℕ) (q : List ℕ) where
  -- where a look-up finds nothing, no thing has the name
  none_named : (xs : List A) → find (λ x. bytes_eq q (name x)) xs ≡ None → IsNoneOf (map name xs) q
  none_named [] none c = Contains-nil q c
  none_named (x ∷ xs) none c = elim (either (bytes_eq q (name x))) [
    | inl here ↦
        let found : Some x ≡ None = rw here at none in
        cc found
    | inr other ↦ elim (Contains-cases q (name x) (map name xs) c) [
      | inl is ↦
          let here : false ≡ true = sym other ∙ (bytes_eq-Decides q (name x)).1 is in
          cc here
      | inr later ↦
          let rest : find (λ x. bytes_eq q (name x)) xs ≡ None = rw other at none in
          none_named xs rest later
    ]
  ]

  -- where a look-up finds a thing, it has the name
  one_named : (xs : List A) (x : A) → find (λ x. bytes_eq q (name x)) xs ≡ Some x → Contains (map name xs) q
  one_named xs x found =
      let there = found_in (λ x. bytes_eq q (name x)) xs x found in
      subst (Contains (map name xs)) (sym ((bytes_eq-Decides q (name x)).0 there.1)) (Contains-map name xs x there.0)

  -- whether a look-up finds nothing
  pub is_free_if : (xs : List A) (found : Option (Bor A)) (free : Bool) → is_some found ≡ not free → option_copied found ≡ find (λ x. bytes_eq q (name x)) xs
      → IsTrue free ↔ IsNoneOf (map name xs) q
  is_free_if xs None true told is = (λ t. none_named xs (sym is), λ apart. refl)
  is_free_if xs None false told is = absurd (cc told)
  is_free_if xs (Some x) true told is = absurd (cc told)
  is_free_if xs (Some x) false told is = (λ t. absurd (cc t), λ apart. absurd (apart (one_named xs x.now (sym is))))

-- ---- the names of the fragments of files

fragment_text : (d : Definition) (t : Tree) → d.tree ≡ t → map name_of (fragment_in d) ≡ map text_of (with_name d (fragment_name t))
fragment_text d (tree.Fragment f) is = rw is refl
fragment_text d (tree.Operation o) is = rw is refl
fragment_text d (tree.Schema s) is = rw is refl
fragment_text d (tree.Type s) is = rw is refl
fragment_text d (tree.Directive s) is = rw is refl
fragment_text d (tree.SchemaExtension s) is = rw is refl
fragment_text d (tree.TypeExtension s) is = rw is refl

fragment_texts : (ds : List Definition) → map name_of (flat_map fragment_in ds) ≡ names_of_fragments ds
fragment_texts [] = refl
fragment_texts (d ∷ ds) = map-append name_of (fragment_in d) (flat_map fragment_in ds)
    ∙ ap (λ l. l ++ map name_of (flat_map fragment_in ds)) (fragment_text d d.tree refl)
    ∙ ap (λ l. map text_of (with_name d (fragment_name d.tree)) ++ l) (fragment_texts ds)
    ∙ sym (map-append text_of (with_name d (fragment_name d.tree)) (named_by fragment_name ds))

-- the fragments of files have the names that the definitions have
pub names_of_all_fragments : (documents : List (List ℕ × Document)) → map name_of (fragments documents) ≡ names_of_fragments (all_definitions documents)
names_of_all_fragments [] = refl
names_of_all_fragments (file ∷ files) =
    let of_tree = λ (d : Definition). with_name d (fragment_name d.tree) in
    map-append name_of (flat_map fragment_in file.1.definitions) (fragments files)
    ∙ ap (λ l. l ++ map name_of (fragments files)) (fragment_texts file.1.definitions)
    ∙ ap (λ l. names_of_fragments file.1.definitions ++ l) (names_of_all_fragments files)
    ∙ sym (ap (map text_of) (flat_map-append of_tree file.1.definitions (all_definitions files))
    ∙ map-append text_of (named_by fragment_name file.1.definitions) (named_by fragment_name (all_definitions files)))

-- a name that none of some has is one that none of others has, if they have the same names
same_title : (operations others fragments : Names) → HaveSameNames operations others → (t : Titled) → HasNewName operations fragments t → HasNewName others fragments t
same_title operations others fragments same (operation None) new = new
same_title operations others fragments same (operation (Some name)) new = λ c. new ((same name).1 c)
same_title operations others fragments same (fragment name) new = new
same_title operations others fragments same of_types new = new

same_titles : (operations others fragments : Names) → HaveSameNames operations others → (ds : List Definition) → HaveNewNames operations fragments ds → HaveNewNames others fragments ds
same_titles operations others fragments same ds new k d l = same_title operations others fragments same (titled (get_or ds k d).tree) (new k d l)

turned : (operations others : Names) → HaveSameNames operations others → HaveSameNames others operations
turned operations others same name = ((same name).1, (same name).0)

-- some name is there, if some is among the same names
pub some_names : (operations others : Names) → HaveSameNames operations others → (operations ≡ [] → ⊥) → 0 < length others
some_names [] others same some = absurd (some refl)
some_names (name ∷ operations) others same some = not_empty others ((same name).0 (Contains-here name operations))
  where
    not_empty : (others : Names) → Contains others name → 0 < length others
    not_empty [] c = absurd (Contains-nil name c)
    not_empty (other ∷ others) c = omega arith

-- there are none, if there are none of the same names
pub no_names : (operations others : Names) → HaveSameNames operations others → operations ≡ [] → 0 < length others → ⊥
no_names operations [] same none some = omega (arith, some)
no_names operations (other ∷ others) same none some = Contains-nil other (subst (λ names. Contains names other) none ((same other).1 (Contains-here other others)))

-- definitions that have new names, by names that are those of files
pub have_same_names : (documents : List (List ℕ × Document)) (operations : Names) (all : List FragmentFact) (ds es : List Definition)
    → HaveSameNames operations (names_of_operations (all_definitions documents)) → all ≡ fragments documents → ds ≡ es
    → HaveNewNames operations (map name_of all) ds
    ↔ HaveNewNames (names_of_operations (all_definitions documents)) (names_of_fragments (all_definitions documents)) es
have_same_names documents operations all ds es same listed is =
    let names = names_of_operations (all_definitions documents) in
    let others = names_of_fragments (all_definitions documents) in
    let texts : map name_of all ≡ others = ap (map name_of) listed ∙ names_of_all_fragments documents in (
      λ new. same_titles operations names others same es
          (subst (λ texts. HaveNewNames operations texts es) texts (subst (HaveNewNames operations (map name_of all)) is new)),
      λ new. subst (HaveNewNames operations (map name_of all)) (sym is)
          (subst (λ texts. HaveNewNames operations texts es) (sym texts) (same_titles names operations others (turned operations names same) es new)),
    )
