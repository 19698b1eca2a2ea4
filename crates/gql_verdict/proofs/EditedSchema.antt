-- An edit of a schema file changes no answers but those about the types that it may change, about
-- types that have other possible types after it, and about directives and root operation types.
use Rattle.std.specs.Prelude.{◌≡◌, ◌||◌, ℕ, List, [], ◌∷◌, ◌++◌, find, map, refl, bytes_eq, codes, is_some, Bool, true, false, Option, Some, None, option_map, option_and_then, Contains}
use Rattle.std.specs.Cmp.Lexicographic.{same_text}
use Rattle.std.specs.Option.{option_map_or, option_or}
use Rattle.std.proofs.Common.{ap, sym, ◌∙◌, subst, inl, inr}
use Rattle.std.proofs.lemmas.List.Folds.{find-append}
use Rattle.std.proofs.lemmas.Slice.Eq.{bytes_eq-Decides}
use Rattle.gql_ast.specs.declared.definition.Document.{Document}
use Rattle.gql_ast.specs.declared.files.Files.{Files}
use Rattle.gql_built_in.specs.declared.sited.Sited.{Sited}
use Rattle.gql_ast.specs.declared.type_system.FieldDefinition.{FieldDefinition}
use Rattle.gql_facts.specs.Facts.{answer, fact_of, field_answer, field_by, field_fact, fragment_named, input_facts, is_composite_type, is_query_root, meta_fields, possible_answer, value_names}
use Rattle.gql_facts.specs.ListMembers.{Contains-nil, Contains-cases, Contains-map, find_map, found_in}
use Rattle.gql_facts.specs.Tables.{tables_of, type_entry}
use Rattle.gql_facts.specs.declared.fact.Fact.{Fact}
use Rattle.gql_facts.specs.declared.fact.Fact.TheVariants as fact
use Rattle.gql_facts.specs.declared.key.Key.{Key}
use Rattle.gql_facts.specs.declared.key.Key.TheVariants as key
use Rattle.gql_facts.specs.declared.schema_facts.TypeEntry.{TypeEntry}
use Rattle.gql_pairs.specs.Doubts.{is_root_field}
use Rattle.gql_types.specs.Edits.{KeepsOthers}
use Rattle.gql_types.specs.Possible.{name_of}
use Rattle.gql_types.specs.Kinds.{is_composite}
use Rattle.gql_types.specs.Schemas.{field_named, inputs_by, possible_named, schema_of, type_named, values_by}
use Rattle.gql_types.specs.declared.schema.Schema.{Schema}
use Rattle.gql_types.specs.declared.schema_type.SchemaType.{SchemaType}
use Rattle.gql_verdict.specs.Definitions.{all_definitions}
use Rattle.gql_verdict.specs.DocumentEdits.{ChangesOnly}
use Rattle.gql_verdict.specs.SchemaEdits.{AreMoved, IsTouchedBySchema, possible_in}
use Rattle.gql_verdict.specs.TouchedFacts.{touches}
use Rattle.gql_verdict.specs.declared.touched.Touched.{Touched}
use Rattle.gql_verdict.specs.declared.touched.Touched.TheVariants as touched

-- ---- names

-- a name that is found in neither of two lists
module _ (n : List ℕ) where
  abbrev has : List (List ℕ) → Bool
  has names = is_some (find (bytes_eq n) names)

  first_none : (a b : Option (List ℕ)) → is_some (option_or a b) ≡ false → is_some a ≡ false
  first_none None b e = refl
  first_none (Some x) b e = absurd (cc e)

  second_none : (a b : Option (List ℕ)) → is_some (option_or a b) ≡ false → is_some b ≡ false
  second_none None b e = e
  second_none (Some x) b e = absurd (cc e)

  joined : (xs ys : List (List ℕ)) → has (xs ++ ys) ≡ false → is_some (option_or (find (bytes_eq n) xs) (find (bytes_eq n) ys)) ≡ false
  joined xs ys e = sym (ap is_some (find-append (bytes_eq n) xs ys)) ∙ e

  not_first : (xs ys : List (List ℕ)) → has (xs ++ ys) ≡ false → has xs ≡ false
  not_first xs ys e = first_none (find (bytes_eq n) xs) (find (bytes_eq n) ys) (joined xs ys e)

  not_second : (xs ys : List (List ℕ)) → has (xs ++ ys) ≡ false → has ys ≡ false
  not_second xs ys e = second_none (find (bytes_eq n) xs) (find (bytes_eq n) ys) (joined xs ys e)

  -- a name that is not found is not there
  absent_by : (x : List ℕ) (xs : List (List ℕ)) (b : Bool) → bytes_eq n x ≡ b → has (x ∷ xs) ≡ false → Contains (x ∷ xs) n → (has xs ≡ false → Contains xs n → ⊥) → ⊥
  absent_by x xs true is e c rest = let z : true ≡ false = rw is at e in cc z
  absent_by x xs false is e c rest =
      let f : has xs ≡ false = rw is at e in
      elim (Contains-cases n x xs c) [
        | inl q ↦ let z : true ≡ false = sym ((bytes_eq-Decides n x).1 q) ∙ is in cc z
        | inr t ↦ rest f t
      ]

  not_there : (xs : List (List ℕ)) → has xs ≡ false → Contains xs n → ⊥
  not_there [] e c = Contains-nil n c
  not_there (x ∷ xs) e c = absent_by x xs (bytes_eq n x) refl e c (not_there xs)

-- ---- fields of the query root

neither : (a b : Bool) → a || b ≡ false → (a ≡ false) × (b ≡ false)
neither false b e = (refl, e)
neither true b e = absurd (cc e)

-- a field that is not one of those of the query root is the same whatever the query root is
other_field : (n : List ℕ) (c q r : Bool) (own : Fact) → is_root_field n ≡ false → field_by meta_fields n c q own ≡ field_by meta_fields n c r own
other_field n c q r own e =
    let names = neither (bytes_eq n (codes "__schema")) (bytes_eq n (codes "__type")) e in
    rw (names.0, names.1) refl

-- ---- types

module _ (S T : Schema) (edited : List (List ℕ)) (keeps : KeepsOthers edited S T) (undone : KeepsOthers edited T S) where
  -- the type of a name that is found
  named : (R : Schema) (n : List ℕ) (t : SchemaType) → type_named R n ≡ Some t → Contains R.types t × (name_of t ≡ n)
  named R n t e =
      let f = found_in (λ (x : SchemaType). bytes_eq n (name_of x)) R.types t e in
      (f.0, sym (same_text n (name_of t) (sym f.1)))

  -- a type of another name is the same
  kept : (n : List ℕ) → is_some (find (bytes_eq n) edited) ≡ false → (t : SchemaType) → type_named T n ≡ Some t → type_named S n ≡ Some t
  kept n other t e =
      let f = named T n t e in
      subst (λ m. type_named S m ≡ Some t) f.1 (keeps t f.0 (subst (λ m. is_some (find (bytes_eq m) edited) ≡ false) (sym f.1) other))

  back : (n : List ℕ) → is_some (find (bytes_eq n) edited) ≡ false → (t : SchemaType) → type_named S n ≡ Some t → type_named T n ≡ Some t
  back n other t e =
      let f = named S n t e in
      subst (λ m. type_named T m ≡ Some t) f.1 (undone t f.0 (subst (λ m. is_some (find (bytes_eq m) edited) ≡ false) (sym f.1) other))

  same_type : (n : List ℕ) → is_some (find (bytes_eq n) edited) ≡ false → type_named T n ≡ type_named S n
  same_type n other = by (type_named T n) refl (type_named S n) refl
    where
      by : (o : Option SchemaType) → type_named T n ≡ o → (p : Option SchemaType) → type_named S n ≡ p → type_named T n ≡ type_named S n
      by (Some t) e p f = e ∙ sym (kept n other t e)
      by None e (Some t) f = back n other t f ∙ sym f
      by None e None f = e ∙ sym f

  -- the possible types of a type of another name, if they are not moved
  module _ (moved : List (List ℕ)) (are : AreMoved (tables_of S) (map (type_entry T) T.types) moved) where
    before_of : (n : List ℕ) (t : SchemaType) → type_named S n ≡ Some t → possible_in (tables_of S) n ≡ possible_named S (name_of t)
    before_of n t e = ap (option_and_then (λ (x : TypeEntry). x.possible)) (find_map (λ (x : TypeEntry). bytes_eq n x.name) (type_entry S) S.types ∙ ap (option_map (type_entry S)) e)

    same_possible : (n : List ℕ) → is_some (find (bytes_eq n) edited) ≡ false → is_some (find (bytes_eq n) moved) ≡ false → (t : SchemaType) → type_named T n ≡ Some t → possible_named T n ≡ possible_named S n
    same_possible n other unmoved t e =
        let f = named T n t e in
        elim (are.to (type_entry T t) (Contains-map (type_entry T) T.types t f.0)) [
          | inl same ↦ subst (λ m. possible_named T m ≡ possible_named S m) f.1 (same ∙ before_of (name_of t) t (subst (λ m. type_named S m ≡ Some t) (sym f.1) (kept n other t e)))
          | inr there ↦ absurd (not_there n moved unmoved (subst (λ m. Contains moved m) f.1 there))
        ]

    possible_by : (n : List ℕ) (o : Option SchemaType) → ((t : SchemaType) → o ≡ Some t → possible_named T n ≡ possible_named S n)
        → option_and_then (λ (x : SchemaType). possible_named T n) o ≡ option_and_then (λ (x : SchemaType). possible_named S n) o
    possible_by n None same = refl
    possible_by n (Some t) same = same t refl

-- ---- all answers

module _ (before after : Files) (edited moved : List (List ℕ)) (keeps : KeepsOthers edited (schema_of before) (schema_of after)) (undone : KeepsOthers edited (schema_of after) (schema_of before))
    (documents : before.documents ≡ after.documents) (are : AreMoved (tables_of (schema_of before)) (map (type_entry (schema_of after)) (schema_of after).types) moved) where
  abbrev S : Schema
  S = schema_of before

  abbrev T : Schema
  T = schema_of after

  abbrev edit : Touched
  edit = touched.Schema (record { types = edited ++ moved })

  one_type : (n : List ℕ) → is_some (find (bytes_eq n) (edited ++ moved)) ≡ false → type_named T n ≡ type_named S n
  one_type n other = same_type S T edited keeps undone n (not_first n edited moved other)

  field_of : (t n : List ℕ) → touches edit (key.FieldOf t n) ≡ false → field_answer T t n ≡ field_answer S t n
  field_of t n untouched =
      let not = neither (is_some (find (bytes_eq t) (edited ++ moved))) (is_root_field n) untouched in
      let same = one_type t not.0 in
      let own : field_named T t n ≡ field_named S t n = ap (option_and_then (λ (x : SchemaType). find (λ (f : Sited FieldDefinition). bytes_eq n f.node.name.text) x.fields)) same in
      let composite : is_composite_type T t ≡ is_composite_type S t = ap (λ o. option_map_or is_composite (option_map (λ (x : SchemaType). x.kind) o) false) same in
      other_field n (is_composite_type T t) (is_query_root T t) (is_query_root S t) (answer (λ d. fact.Field (field_fact d)) (field_named T t n)) not.1
      ∙ ap (λ c. field_by meta_fields n c (is_query_root S t) (answer (λ d. fact.Field (field_fact d)) (field_named T t n))) composite
      ∙ ap (λ o. field_by meta_fields n (is_composite_type S t) (is_query_root S t) (answer (λ d. fact.Field (field_fact d)) o)) own

  possible_of : (n : List ℕ) → touches edit (key.PossibleOf n) ≡ false → possible_answer T n ≡ possible_answer S n
  possible_of n untouched =
      ap (answer fact.Possible)
      (possible_by S T edited keeps undone moved are n (type_named T n) (same_possible S T edited keeps undone moved are n (not_first n edited moved untouched) (not_second n edited moved untouched))
      ∙ ap (option_and_then (λ (x : SchemaType). possible_named S n)) (one_type n untouched))

  answers : (k : Key) → touches edit k ≡ false → fact_of after k ≡ fact_of before k
  answers (key.KindOf t) untouched = ap (λ o. answer fact.Kind (option_map (λ (x : SchemaType). x.kind) o)) (one_type t untouched)
  answers (key.FieldOf t n) untouched = field_of t n untouched
  answers (key.PossibleOf t) untouched = possible_of t untouched
  answers (key.InputOf t) untouched = ap (λ o. answer (λ ds. fact.Input (input_facts ds)) (option_and_then (λ (x : SchemaType). inputs_by x.kind x) o)) (one_type t untouched)
  answers (key.EnumOf t) untouched = ap (λ o. answer (λ vs. fact.Enum (value_names vs)) (option_and_then (λ (x : SchemaType). values_by x.kind x) o)) (one_type t untouched)
  answers (key.DirectiveOf n) untouched = absurd (cc untouched)
  answers (key.RootOf k) untouched = absurd (cc untouched)
  answers (key.FragmentOf n) untouched = ap (λ ds. answer fact.Fragment (fragment_named ds n)) (sym documents)

  changes_only : ChangesOnly edit before after
  changes_only = record {
    answers = answers;
    definitions = λ placed d c other. subst (λ (ds : List (List ℕ × Document)). Contains (all_definitions ds) d) (sym documents) c;
  }

pub schema_changes_only : (before after : Files) (edited : List (List ℕ)) (t : Touched) → KeepsOthers edited (schema_of before) (schema_of after) → KeepsOthers edited (schema_of after) (schema_of before)
    → before.documents ≡ after.documents → IsTouchedBySchema (tables_of (schema_of before)) (tables_of (schema_of after)) edited t → ChangesOnly t before after
schema_changes_only before after edited t keeps undone documents by =
    subst (λ u. ChangesOnly u before after) (sym by.2) (changes_only before after edited by.0 keeps undone documents by.1)
