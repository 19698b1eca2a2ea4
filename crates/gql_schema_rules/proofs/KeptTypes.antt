-- The types that an edit leaves to be checked, where no type was at fault before it.
use Rattle.std.proofs.Common.{◌≡◌, ◌∙◌, ◌++◌, ◌⊎◌, inl, inr, zero, suc, ℕ, List, [], ◌∷◌, Bool, true, false, Option, Some, find, filter, flat_map, length, nat_eq, refl, sym, ap, subst, bytes_eq, Contains, arith, not}
use Rattle.std.specs.Prelude.{if◌then◌else◌}
use Rattle.std.proofs.lemmas.List.Elements.{Contains-append_left, Contains-append_right, Contains-push}
use Rattle.gql_ast.specs.declared.fault.Fault.{Fault}
use Rattle.gql_ast.specs.declared.literal.Literal.{Literal}
use Rattle.gql_ast.specs.declared.rule.Rule.TheVariants as rule
use Rattle.gql_ast.specs.declared.type_system.FieldDefinition.{FieldDefinition}
use Rattle.gql_ast.specs.declared.type_system.InputValueDefinition.{InputValueDefinition}
use Rattle.gql_built_in.specs.declared.sited.Sited.{Sited}
use Rattle.gql_faults.specs.Directives.{first_directives}
use Rattle.gql_faults.specs.Faults.{fault_at, where_known}
use Rattle.gql_inputs.specs.BadValues.{bad_values_by}
use Rattle.gql_inputs.specs.Lookups.{InputLookup, in_schema}
use Rattle.gql_inputs.specs.Values.{value_of}
use Rattle.gql_types.specs.Edits.{KeepsOthers}
use Rattle.gql_types.specs.Possible.{name_of}
use Rattle.gql_types.specs.Written.{written}
use Rattle.gql_types.specs.declared.schema.Schema.{Schema}
use Rattle.gql_types.specs.declared.schema_type.SchemaType.{SchemaType}
use Rattle.gql_node_rules.specs.FileFaults.{joint_on_types}
use Rattle.gql_node_rules.specs.S31RepeatedDirectives as s31
use Rattle.gql_node_rules.specs.SchemaChanges.{IsChange, is_among}
use Rattle.gql_node_rules.specs.ValueFaults.{start_of}
use Rattle.gql_node_rules.specs.declared.schema_change.SchemaChange.{SchemaChange}
use Rattle.gql_schema_rules.specs.RuleGroups.{arguments_on, defaults_on, type_faults, type_faults_on}
use Rattle.gql_schema_rules.specs.S05EmptyTypes as s05
use Rattle.gql_schema_rules.specs.S06DuplicateFields as s06
use Rattle.gql_schema_rules.specs.S07DuplicateValues as s07
use Rattle.gql_schema_rules.specs.S08DuplicateArguments as s08
use Rattle.gql_schema_rules.specs.S18BadDefaultValues as s18

-- ---- lists

module _ {X : Type 0} where
  none_left : (xs ys : List X) → xs ++ ys ≡ [] → xs ≡ []
  none_left [] ys e = refl
  none_left (x ∷ xs) ys e = cc

  none_right : (xs ys : List X) → xs ++ ys ≡ [] → ys ≡ []
  none_right [] ys e = e
  none_right (x ∷ xs) ys e = cc

  first : (x : X) (xs : List X) → Contains (x ∷ xs) x
  first x xs = Contains-append_left (x ∷ []) xs x (Contains-push [] x)

  later : (x y : X) (xs : List X) → Contains xs x → Contains (y ∷ xs) x
  later x y xs h = Contains-append_right (y ∷ []) xs x h

  cases : (x y : X) (xs : List X) → Contains (y ∷ xs) x → (x ≡ y) ⊎ Contains xs x
  cases x y xs (zero, lt, e) = inl (sym e)
  cases x y xs (suc k, lt, e) = inr (k, omega arith, e)

  -- what a search finds is in the list
  found : (p : X → Bool) (xs : List X) (x : X) → find p xs ≡ Some x → Contains xs x
  found p [] x e = absurd (cc e)
  found p (y ∷ ys) x e = by (p y) refl e (found p ys x)
    where
      by : (b : Bool) → p y ≡ b → find p (y ∷ ys) ≡ Some x → (find p ys ≡ Some x → Contains ys x) → Contains (y ∷ ys) x
      by true at is rest =
          let same : Some y ≡ Some x = rw at at is in
          let its : y ≡ x = cc same in
          subst (λ z. Contains (y ∷ ys) z) its (first y ys)
      by false at is rest = later x y ys (rest (rw at at is))

module _ {X Y : Type 0} (f : X → List Y) where
  -- if all together have none, each has none
  silent : (xs : List X) → flat_map f xs ≡ [] → (x : X) → Contains xs x → f x ≡ []
  silent [] e x h = absurd (omega (arith, h.1))
  silent (y ∷ ys) e x h = elim (cases x y ys h) [
    | inl same ↦ ap f same ∙ none_left (f y) (flat_map f ys) e
    | inr t ↦ silent ys (none_right (f y) (flat_map f ys) e) x t
  ]

  -- those that have none can be left out
  without : (p : X → Bool) (xs : List X) → ((x : X) → Contains xs x → p x ≡ false → f x ≡ []) → flat_map f (filter p xs) ≡ flat_map f xs
  without p [] nothing = refl
  without p (x ∷ xs) nothing = by (p x) refl (without p xs (λ y h. nothing y (later y x xs h)))
    where
      by : (b : Bool) → p x ≡ b → flat_map f (filter p xs) ≡ flat_map f xs → flat_map f (filter p (x ∷ xs)) ≡ flat_map f (x ∷ xs)
      by true is rest = let e : f x ++ flat_map f (filter p xs) ≡ f x ++ flat_map f xs = ap (λ ys. f x ++ ys) rest in rw is e
      by false is rest = let e : flat_map f (filter p xs) ≡ f x ++ flat_map f xs = rest ∙ ap (λ ys. ys ++ flat_map f xs) (sym (nothing x (first x xs) is)) in rw is e

-- ---- default values by what names are as input types

fault_with : InputLookup → Option (List ℕ) → InputValueDefinition → List Fault
fault_with look file v = where_known v.default (λ (x : Literal).
    if nat_eq (length (bad_values_by look (value_of x) (written v.of_type))) 0 then []
    else fault_at rule.S18 v.name.text (start_of (record { file = file; node = x })))

faults_with : InputLookup → SchemaType → List Fault
faults_with look t = flat_map (λ (v : Sited InputValueDefinition). fault_with look v.file v.node) t.input_fields
    ++ flat_map (λ (d : Sited FieldDefinition). flat_map (fault_with look d.file) d.node.arguments) t.fields

-- the same input types leave the same default values at fault
same_defaults : (old s : Schema) (t : SchemaType) → ((name : List ℕ) → in_schema old name ≡ in_schema s name) → s18.faults_of_type old t ≡ s18.faults_of_type s t
unfolding fault_with faults_with
same_defaults old s t same = λ k. faults_with (λ name. same name k) t

-- what is not so
pub is_not : (b : Bool) → not b ≡ true → b ≡ false
is_not true is = absurd (cc is)
is_not false is = refl

-- ---- the types

-- a type that is not edited was there before
was_there : (names : List (List ℕ)) (old s : Schema) → KeepsOthers names old s → (t : SchemaType) → Contains s.types t → is_among names (name_of t) ≡ false → Contains old.types t
was_there names old s keeps t h other = found (λ (x : SchemaType). bytes_eq (name_of t) (name_of x)) old.types t (keeps t h other)

-- the same directives leave the same faults by S31
same_joint : (old s : Schema) (t : SchemaType) → old.directives ≡ s.directives → s31.faults_of_type old t ≡ s31.faults_of_type s t
same_joint old s t same = λ k. s31.faults_of_type (record { types = s.types; directives = same k; roots = s.roots; possible = s.possible }) t

-- S31 needs the edited types alone, if it found nothing before and the directives are the same
pub kept_joint : (names : List (List ℕ)) (old s : Schema) (c : SchemaChange) (keeps : Bool) → KeepsOthers names old s → IsChange c old s
    → (keeps ≡ true → joint_on_types old old.types ≡ []) → (keeps ≡ true → c.directives ≡ false)
    → joint_on_types s (if keeps then filter (λ (t : SchemaType). is_among names (name_of t)) s.types else s.types) ≡ joint_on_types s s.types
kept_joint names old s c false others change none same = refl
kept_joint names old s c true others change none same =
    without (s31.faults_of_type s) (λ (t : SchemaType). is_among names (name_of t)) s.types
    (λ t h other. sym (same_joint old s t (change.directives (same refl)))
    ∙ silent (s31.faults_of_type old) old.types (none refl) t (was_there names old s others t h other))

module _ (names : List (List ℕ)) (old s : Schema) (keeps : KeepsOthers names old s) (none : type_faults old ≡ []) where
  abbrev is_edited : SchemaType → Bool
  is_edited t = is_among names (name_of t)

  before : (t : SchemaType) → Contains s.types t → is_edited t ≡ false → Contains old.types t
  before = was_there names old s keeps

  kept : (f : SchemaType → List Fault) → flat_map f old.types ≡ [] → flat_map f (filter is_edited s.types) ≡ flat_map f s.types
  kept f nothing = without f is_edited s.types (λ t h other. silent f old.types nothing t (before t h other))

  after_s05 : s06.faults old ++ (s07.faults old ++ (s08.faults old ++ s18.faults old)) ≡ []
  after_s05 = none_right (s05.faults old) (s06.faults old ++ (s07.faults old ++ (s08.faults old ++ s18.faults old))) none

  after_s06 : s07.faults old ++ (s08.faults old ++ s18.faults old) ≡ []
  after_s06 = none_right (s06.faults old) (s07.faults old ++ (s08.faults old ++ s18.faults old)) after_s05

  after_s07 : s08.faults old ++ s18.faults old ≡ []
  after_s07 = none_right (s07.faults old) (s08.faults old ++ s18.faults old) after_s06

  s08_types : flat_map s08.faults_of_type old.types ≡ []
  s08_types = none_left (flat_map s08.faults_of_type old.types) (flat_map s08.faults_of_directive (first_directives old.directives))
      (none_left (s08.faults old) (s18.faults old) after_s07)

  s18_types : flat_map (s18.faults_of_type old) old.types ≡ []
  s18_types = none_left (flat_map (s18.faults_of_type old) old.types) (flat_map (s18.faults_of_directive old) (first_directives old.directives))
      (none_right (s08.faults old) (s18.faults old) after_s07)

  -- S05 to S08 need the edited types alone
  pub kept_parts : (defaulted : List SchemaType) → type_faults_on s (filter is_edited s.types) defaulted ≡ type_faults_on s s.types defaulted
  kept_parts defaulted = λ k.
      kept s05.fault_of_type (none_left (s05.faults old) (s06.faults old ++ (s07.faults old ++ (s08.faults old ++ s18.faults old))) none) k
      ++ (kept s06.faults_of_type (none_left (s06.faults old) (s07.faults old ++ (s08.faults old ++ s18.faults old)) after_s05) k
      ++ (kept s07.faults_of_type (none_left (s07.faults old) (s08.faults old ++ s18.faults old) after_s06) k
      ++ ((kept s08.faults_of_type s08_types k ++ flat_map s08.faults_of_directive (first_directives s.directives))
      ++ defaults_on s defaulted)))

  -- so does S18, if the input types are the same
  pub kept_defaults : (types : List SchemaType) → ((name : List ℕ) → in_schema old name ≡ in_schema s name)
      → type_faults_on s types (filter is_edited s.types) ≡ type_faults_on s types s.types
  kept_defaults types same =
      let alone : flat_map (s18.faults_of_type s) (filter is_edited s.types) ≡ flat_map (s18.faults_of_type s) s.types
      = without (s18.faults_of_type s) is_edited s.types
      (λ t h other. sym (same_defaults old s t same) ∙ silent (s18.faults_of_type old) old.types s18_types t (before t h other)) in
      λ k. flat_map s05.fault_of_type types
      ++ (flat_map s06.faults_of_type types
      ++ (flat_map s07.faults_of_type types
      ++ (arguments_on s types
      ++ (alone k ++ flat_map (s18.faults_of_directive s) (first_directives s.directives)))))

-- the types that are left find all faults
pub kept_types : (names : List (List ℕ)) (old s : Schema) (c : SchemaChange) (sound keeps : Bool)
    → KeepsOthers names old s → IsChange c old s
    → (sound ≡ true → type_faults old ≡ []) → (keeps ≡ true → sound ≡ true) → (keeps ≡ true → c.floats ≡ false) → (keeps ≡ true → c.inputs ≡ [])
    → type_faults_on s (if sound then filter (λ (t : SchemaType). is_among names (name_of t)) s.types else s.types)
    (if keeps then filter (λ (t : SchemaType). is_among names (name_of t)) s.types else s.types)
    ≡ type_faults s
kept_types names old s c false false others change none enough floats flat = refl
kept_types names old s c false true others change none enough floats flat = absurd (cc (enough refl))
kept_types names old s c true false others change none enough floats flat = kept_parts names old s others (none refl) s.types
kept_types names old s c true true others change none enough floats flat =
    kept_parts names old s others (none refl) (filter (λ (t : SchemaType). is_among names (name_of t)) s.types)
    ∙ kept_defaults names old s others (none refl) s.types
    (λ name. change.inputs (floats refl) name (ap (λ inputs. is_among inputs name) (flat refl)))
