-- An edit of a document file changes no fragment but those that the file has or had, and no
-- definitions of other files.
use Rattle.std.specs.Prelude.{◌≡◌, ◌⊎◌, ℕ, List, [], ◌∷◌, ◌++◌, flat_map, find, refl, bytes_eq, is_some, Bool, true, false, Option, Some, None, option_map, Contains}
use Rattle.std.specs.Cmp.Lexicographic.{texts_ties, same_text, other_text}
use Rattle.std.specs.Ordering.{is_eq}
use Rattle.std.specs.BTreeMap.{is_at}
use Rattle.std.specs.Option.{option_or}
use Rattle.std.specs.declared.cmp.Ordering.{Ordering}
use Rattle.std.specs.declared.cmp.Ordering.TheVariants.{Less, Equal, Greater}
use Rattle.std.proofs.Common.{ap, sym, ◌∙◌, subst, inl, inr}
use Rattle.std.proofs.lemmas.List.Folds.{find-append}
use Rattle.gql_ast.specs.FileMaps.{file_named, name_order, with_file, without_file}
use Rattle.gql_ast.specs.declared.definition.Definition.{Definition}
use Rattle.gql_ast.specs.declared.definition.Document.{Document}
use Rattle.gql_ast.specs.declared.files.Files.{Files}
use Rattle.gql_facts.specs.Facts.{answer, fact_of, fragment_in, fragments}
use Rattle.gql_facts.specs.ListMembers.{find_map, Contains-cases, Contains-here, Contains-there, Contains-flat_map, Contains-flat_map_from}
use Rattle.gql_facts.specs.declared.fact.Fact.TheVariants as fact
use Rattle.gql_facts.specs.declared.fact.FragmentFact.{FragmentFact}
use Rattle.gql_facts.specs.declared.key.Key.{Key}
use Rattle.gql_facts.specs.declared.key.Key.TheVariants as key
use Rattle.gql_verdict.specs.Definitions.{all_definitions}
use Rattle.gql_verdict.specs.FileOrder.{AreFilesPlaced}
use Rattle.gql_verdict.specs.TouchedFacts.{touches}
use Rattle.gql_verdict.specs.DocumentEdits.{name_of, fragment_name_in, fragment_names, touched_by, with_document, without_document, ChangesOnly}

-- what is found in neither of two parts
no_more : {A : Type 0} (o : Option A) → option_or None o ≡ o
no_more None = refl
no_more (Some x) = refl

none_first : {A : Type 0} (a b : Option A) → is_some (option_or a b) ≡ false → a ≡ None
none_first None b e = refl
none_first (Some x) b e = absurd (cc e)

none_second : {A : Type 0} (a b : Option A) → is_some (option_or a b) ≡ false → b ≡ None
none_second None None e = refl
none_second None (Some x) e = absurd (cc e)
none_second (Some x) b e = absurd (cc e)

none_made : {A B : Type 0} (f : A → B) (o : Option A) → option_map f o ≡ None → o ≡ None
none_made f None e = refl
none_made f (Some x) e = absurd (cc e)

both_none : {A : Type 0} (a b : Option A) → a ≡ None → b ≡ None → option_or a b ≡ None
both_none a b e f = rw (e, f) refl

-- ---- names and fragments

module _ (n : List ℕ) where
  -- a fragment of the name n
  abbrev is_n : FragmentFact → Bool
  is_n f = bytes_eq n f.fragment.name.text

  -- the fragments of a file
  abbrev in_definitions : List Definition → List FragmentFact
  in_definitions = flat_map fragment_in

  -- the first fragment of the name in a file, if there is a file
  abbrev found_in : Option Document → Option FragmentFact
  found_in None = None
  found_in (Some document) = find is_n (in_definitions document.definitions)

  -- where no name is n, no fragment has it
  no_fragment : (ds : List Definition) → is_some (find (bytes_eq n) (flat_map fragment_name_in ds)) ≡ false
      → find is_n (in_definitions ds) ≡ None
  no_fragment [] e = refl
  no_fragment (d ∷ ds) e =
      let rest = flat_map fragment_name_in ds in
      let f : is_some (option_or (find (bytes_eq n) (fragment_name_in d)) (find (bytes_eq n) rest)) ≡ false = sym (ap is_some (find-append (bytes_eq n) (fragment_name_in d) rest)) ∙ e in
      let here : find is_n (fragment_in d) ≡ None = none_made name_of (find is_n (fragment_in d)) (sym (find_map (bytes_eq n) name_of (fragment_in d)) ∙ none_first (find (bytes_eq n) (fragment_name_in d)) (find (bytes_eq n) rest) f) in
      let later = no_fragment ds (ap is_some (none_second (find (bytes_eq n) (fragment_name_in d)) (find (bytes_eq n) rest) f)) in
      find-append is_n (fragment_in d) (in_definitions ds) ∙ both_none (find is_n (fragment_in d)) (find is_n (in_definitions ds)) here later

  no_fragment_in : (o : Option Document) → is_some (find (bytes_eq n) (fragment_names o)) ≡ false → found_in o ≡ None
  no_fragment_in None e = refl
  no_fragment_in (Some document) e = no_fragment document.definitions e

  -- ---- files

  -- a file that has no such fragment adds nothing
  skipped : (ds : List Definition) (xs : List FragmentFact) → find is_n (in_definitions ds) ≡ None → find is_n (in_definitions ds ++ xs) ≡ find is_n xs
  skipped ds xs e = find-append is_n (in_definitions ds) xs ∙ ap (λ o. option_or o (find is_n xs)) e ∙ no_more (find is_n xs)

  -- the same file first
  after_same : (ds : List Definition) (xs ys : List FragmentFact) → find is_n xs ≡ find is_n ys → find is_n (in_definitions ds ++ xs) ≡ find is_n (in_definitions ds ++ ys)
  after_same ds xs ys e = find-append is_n (in_definitions ds) xs ∙ ap (λ o. option_or (find is_n (in_definitions ds)) o) e ∙ sym (find-append is_n (in_definitions ds) ys)

  module _ (name : List ℕ) where
    put_by : (document : Document) (e : List ℕ × Document) (es : List (List ℕ × Document)) (o : Ordering) → name_order name e.0 ≡ o
        → find is_n (in_definitions document.definitions) ≡ None → found_in (file_named (e ∷ es) name) ≡ None
        → (found_in (file_named es name) ≡ None → find is_n (fragments (with_file es name document)) ≡ find is_n (fragments es))
        → find is_n (fragments (with_file (e ∷ es) name document)) ≡ find is_n (fragments (e ∷ es))
    put_by document e es Less is new old later = rw is (skipped document.definitions (fragments (e ∷ es)) new)
    put_by document e es Equal is new old later =
        let gone : find is_n (in_definitions e.1.definitions) ≡ None = rw is at old in
        rw is (skipped document.definitions (fragments es) new ∙ sym (skipped e.1.definitions (fragments es) gone))
    put_by document e es Greater is new old later =
        let left : found_in (file_named es name) ≡ None = rw is at old in
        rw is (after_same e.1.definitions (fragments (with_file es name document)) (fragments es) (later left))

    put : (document : Document) (es : List (List ℕ × Document)) → find is_n (in_definitions document.definitions) ≡ None → found_in (file_named es name) ≡ None
        → find is_n (fragments (with_file es name document)) ≡ find is_n (fragments es)
    put document [] new old = skipped document.definitions [] new
    put document (e ∷ es) new old = put_by document e es (name_order name e.0) refl new old (put document es new)

    removed_by : (e : List ℕ × Document) (es : List (List ℕ × Document)) (b : Bool) → is_at (name_order name) e.0 ≡ b
        → found_in (file_named (e ∷ es) name) ≡ None
        → (found_in (file_named es name) ≡ None → find is_n (fragments (without_file es name)) ≡ find is_n (fragments es))
        → find is_n (fragments (without_file (e ∷ es) name)) ≡ find is_n (fragments (e ∷ es))
    removed_by e es true is old later =
        let gone : find is_n (in_definitions e.1.definitions) ≡ None = rw is at old in
        rw is (sym (skipped e.1.definitions (fragments es) gone))
    removed_by e es false is old later =
        let left : found_in (file_named es name) ≡ None = rw is at old in
        rw is (after_same e.1.definitions (fragments (without_file es name)) (fragments es) (later left))

    removed : (es : List (List ℕ × Document)) → found_in (file_named es name) ≡ None
        → find is_n (fragments (without_file es name)) ≡ find is_n (fragments es)
    removed [] old = refl
    removed (e ∷ es) old = removed_by e es (is_at (name_order name) e.0) refl old (removed es)

-- ---- all answers

-- a name that neither list has
apart : (n : List ℕ) (xs ys : List (List ℕ)) → is_some (find (bytes_eq n) (xs ++ ys)) ≡ false
    → (is_some (find (bytes_eq n) xs) ≡ false) × (is_some (find (bytes_eq n) ys) ≡ false)
apart n xs ys e =
    let f : is_some (option_or (find (bytes_eq n) xs) (find (bytes_eq n) ys)) ≡ false = sym (ap is_some (find-append (bytes_eq n) xs ys)) ∙ e in
    (ap is_some (none_first (find (bytes_eq n) xs) (find (bytes_eq n) ys) f), ap is_some (none_second (find (bytes_eq n) xs) (find (bytes_eq n) ys) f))

put_answers : (files : Files) (name : List ℕ) (document : Document) (k : Key)
    → touches (touched_by name (file_named files.documents name) (Some document)) k ≡ false
    → fact_of (with_document files name document) k ≡ fact_of files k
put_answers files name document (key.FragmentOf n) untouched =
    let names = apart n (fragment_names (file_named files.documents name)) (fragment_names (Some document)) untouched in
    ap (answer fact.Fragment) (put n name document files.documents (no_fragment n document.definitions names.1) (no_fragment_in n (file_named files.documents name) names.0))
put_answers files name document (key.KindOf t) untouched = refl
put_answers files name document (key.FieldOf t f) untouched = refl
put_answers files name document (key.PossibleOf t) untouched = refl
put_answers files name document (key.InputOf t) untouched = refl
put_answers files name document (key.EnumOf t) untouched = refl
put_answers files name document (key.DirectiveOf t) untouched = refl
put_answers files name document (key.RootOf k) untouched = refl

remove_answers : (files : Files) (name : List ℕ) (k : Key)
    → touches (touched_by name (file_named files.documents name) None) k ≡ false
    → fact_of (without_document files name) k ≡ fact_of files k
remove_answers files name (key.FragmentOf n) untouched =
    let names = apart n (fragment_names (file_named files.documents name)) [] untouched in
    ap (answer fact.Fragment) (removed n name files.documents (no_fragment_in n (file_named files.documents name) names.0))
remove_answers files name (key.KindOf t) untouched = refl
remove_answers files name (key.FieldOf t f) untouched = refl
remove_answers files name (key.PossibleOf t) untouched = refl
remove_answers files name (key.InputOf t) untouched = refl
remove_answers files name (key.EnumOf t) untouched = refl
remove_answers files name (key.DirectiveOf t) untouched = refl
remove_answers files name (key.RootOf k) untouched = refl

-- ---- definitions of other files

abbrev File : Type 0
File = List ℕ × Document

abbrev name_in : File → List ℕ
name_in f = f.0

-- names that compare as equal are one
same_name : (a b : List ℕ) → name_order a b ≡ Equal → a ≡ b
same_name a b is = same_text a b (sym (texts_ties a b ∙ ap is_eq is))

-- a file of another name was there before a file was put
put_keeps : (name : List ℕ) (document : Document) (es : List File) (f : File)
    → Contains (with_file es name document) f → (name_in f ≡ name) ⊎ Contains es f
put_keeps name document [] f h = elim (Contains-cases f (name, document) [] h) [ inl q ↦ inl (ap name_in q) | inr t ↦ inr t ]
put_keeps name document (e ∷ es) f h = by (name_order name e.0) refl (put_keeps name document es f) h
  where
    by : (o : Ordering) → name_order name e.0 ≡ o → (Contains (with_file es name document) f → (name_in f ≡ name) ⊎ Contains es f)
        → Contains (with_file (e ∷ es) name document) f → (name_in f ≡ name) ⊎ Contains (e ∷ es) f
    by Less is rest h =
        let g : Contains ((name, document) ∷ e ∷ es) f = rw is at h in
        elim (Contains-cases f (name, document) (e ∷ es) g) [ inl q ↦ inl (ap name_in q) | inr t ↦ inr t ]
    by Equal is rest h =
        let g : Contains ((e.0, document) ∷ es) f = rw is at h in
        elim (Contains-cases f (e.0, document) es g) [ inl q ↦ inl (ap name_in q ∙ sym (same_name name e.0 is)) | inr t ↦ inr (Contains-there f e es t) ]
    by Greater is rest h =
        let g : Contains (e ∷ with_file es name document) f = rw is at h in
        elim (Contains-cases f e (with_file es name document) g) [
          | inl q ↦ inr (subst (λ x. Contains (e ∷ es) x) (sym q) (Contains-here e es))
          | inr t ↦ elim (rest t) [ inl n ↦ inl n | inr u ↦ inr (Contains-there f e es u) ]
        ]

-- each file was there before one was removed
removal_keeps : (name : List ℕ) (es : List File) (f : File) → Contains (without_file es name) f → Contains es f
removal_keeps name [] f h = h
removal_keeps name (e ∷ es) f h = by (is_at (name_order name) e.0) refl (removal_keeps name es f) h
  where
    by : (b : Bool) → is_at (name_order name) e.0 ≡ b → (Contains (without_file es name) f → Contains es f)
        → Contains (without_file (e ∷ es) name) f → Contains (e ∷ es) f
    by true is rest h = let g : Contains es f = rw is at h in Contains-there f e es g
    by false is rest h =
        let g : Contains (e ∷ without_file es name) f = rw is at h in
        elim (Contains-cases f e (without_file es name) g) [
          | inl q ↦ subst (λ x. Contains (e ∷ es) x) (sym q) (Contains-here e es)
          | inr t ↦ Contains-there f e es (rest t)
        ]

abbrev definitions_in : File → List Definition
definitions_in f = f.1.definitions

put_definitions : (files : Files) (name : List ℕ) (document : Document) → AreFilesPlaced (with_file files.documents name document)
    → (d : Definition) → Contains (all_definitions (with_file files.documents name document)) d → bytes_eq d.file name ≡ false → Contains (all_definitions files.documents) d
put_definitions files name document placed d c other =
    let r = Contains-flat_map_from definitions_in (with_file files.documents name document) d c in
    elim (put_keeps name document files.documents r.0 r.1) [
      | inl q ↦ absurd (other_text d.file name (sym other) ((placed r.0 r.1).named d r.2 ∙ q))
      | inr t ↦ Contains-flat_map definitions_in files.documents r.0 d t r.2
    ]

removal_definitions : (files : Files) (name : List ℕ)
    → (d : Definition) → Contains (all_definitions (without_file files.documents name)) d → Contains (all_definitions files.documents) d
removal_definitions files name d c =
    let r = Contains-flat_map_from definitions_in (without_file files.documents name) d c in
    Contains-flat_map definitions_in files.documents r.0 d (removal_keeps name files.documents r.0 r.1) r.2

pub put_changes_only : (files : Files) (name : List ℕ) (document : Document)
    → ChangesOnly (touched_by name (file_named files.documents name) (Some document)) files (with_document files name document)
put_changes_only files name document = record { answers = put_answers files name document; definitions = put_definitions files name document }

pub remove_changes_only : (files : Files) (name : List ℕ)
    → ChangesOnly (touched_by name (file_named files.documents name) None) files (without_document files name)
remove_changes_only files name = record { answers = remove_answers files name; definitions = λ placed d c other. removal_definitions files name d c }
