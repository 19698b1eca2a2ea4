-- Where no default leads back to itself, every default comes to something: a chain of defaults has no
-- field twice, and there are finitely many fields.
use Rattle.std.proofs.Common.{◌≡◌, ◌+◌, ◌<◌, ◌≤◌, ◌||◌, ◌⊎◌, inl, inr, ℕ, zero, suc, List, [], ◌∷◌, Bool, true, false, true≢false, not, if◌then◌else◌, map, flat_map, Option, Some, None, option_and_then, unwrap_or, is_some, length, Contains, find, bytes_eq, refl, ap, sym, subst, ◌∙◌, arith}
use Rattle.std.proofs.Math.Dec.{eqb}
use Rattle.std.specs.Prelude.{⊤}
use Rattle.std.proofs.lemmas.Bool.{eqb-true}
use Rattle.std.proofs.lemmas.Map.Steps.{length-le_from_distinct_below}
use Rattle.std.proofs.lemmas.Option.{slice_get_within, slice_get_read}
use Rattle.std.specs.List.{list_any, slice_get, IsDistinct, AllByRecursion}
use Rattle.gql_ast.specs.declared.type_system.InputValueDefinition.{InputValueDefinition}
use Rattle.gql_built_in.specs.declared.sited.Sited.{Sited}
use Rattle.gql_inputs.specs.InputTypes.{input_type, if_input, is_custom_scalar, is_input, name_in}
use Rattle.gql_types.specs.Schemas.{type_named}
use Rattle.gql_types.specs.Written.{Written, written}
use Rattle.gql_types.specs.declared.kind.TypeKind.{TypeKind}
use Rattle.gql_types.specs.declared.kind.TypeKind.TheVariants as kind
use Rattle.gql_types.specs.declared.schema.Schema.{Schema}
use Rattle.gql_types.specs.declared.schema_type.SchemaType.{SchemaType}
use Rattle.serde_json.specs.Data as json
use Rattle.serde_json.specs.Data.{Data}
use Rattle.gql_coerce.specs.Coercion.{Entry, Entries, are, unknown, no_object, any_entry, any_entries, defined_entry, is_defined, unless_unknown, entries_at_kind, entries_by, entries_for, coerced}
use Rattle.gql_coerce.specs.Comes.{Outcome, Comes, Eventually, reached}
use Rattle.gql_coerce.specs.Comes as comes
use Rattle.gql_coerce.specs.Defaults.{Takes, here, in_field, in_item, DefaultTakes, LeadsTo, one, more, HasNoCycle}
use Rattle.gql_coerce.specs.Inputs.{Input, Field, all_fields, literal}
use Rattle.gql_coerce.specs.Outcomes.{Reached, value, refused, too_deep}
use Rattle.gql_coerce.proofs.Containing.{Contains-here, Contains-there, Contains-map, Contains-map_from, Contains-flat_map}
use Rattle.gql_coerce.proofs.Deeper.{stays}
use Rattle.gql_coerce.proofs.Settling.{DefaultSettles, settles, Settled}

-- ---- the input fields of a schema

-- those of a type
abbrev pub fields_in : SchemaType → List InputValueDefinition
fields_in t = map (λ (d : Sited InputValueDefinition). d.node) t.input_fields

-- those of all types
abbrev pub fields : Schema → List InputValueDefinition
fields s = flat_map fields_in s.types

none_some : {A : Type 0} (x : A) → None ≡ Some x → ⊥
none_some x is = true≢false (sym (ap is_some is))

some_one : {A : Type 0} (x y : A) → Some x ≡ Some y → x ≡ y
some_one x y is = ap (λ o. unwrap_or o x) is

-- ---- the fields of the members of an object are of the schema

abbrev pub Of : List InputValueDefinition → Entries → Type 0
Of all (are es) = (m : Entry) → Contains es m → (d : InputValueDefinition) → m.definition ≡ Some d → Contains all d
Of all (unknown n) = ⊤
Of all no_object = ⊤

module _ (s : Schema) where
  of_any : (fs : List Field) → Of (fields s) (any_entries fs)
  of_any fs m has d is = absurd (none_some d (ap (λ (e : Entry). e.definition) (Contains-map_from any_entry fs m has).2 ∙ is))

  of_defined : (fs : List Field) (t : SchemaType) → Contains s.types t → Of (fields s) (are (map (defined_entry fs) t.input_fields))
  of_defined fs t there m has d is = let r = Contains-map_from (defined_entry fs) t.input_fields m has in
      subst (Contains (fields s)) (some_one r.0.node d (ap (λ (e : Entry). e.definition) r.2 ∙ is))
      (Contains-flat_map fields_in s.types t r.0.node there (Contains-map (λ (d : Sited InputValueDefinition). d.node) t.input_fields r.0 r.1))

  of_unless : (o : Option Field) (es : Entries) → Of (fields s) es → Of (fields s) (unless_unknown o es)
  of_unless (Some f) es is = tt
  of_unless None es is = is

  of_if : (b : Bool) (es os : Entries) → Of (fields s) es → Of (fields s) os → Of (fields s) (if b then es else os)
  of_if true es os a b = a
  of_if false es os a b = b

  of_kind : (fs : List Field) (t : SchemaType) (k : TypeKind) → Contains s.types t → Of (fields s) (entries_at_kind fs t k)
  of_kind fs t kind.InputObject there = of_unless (find (λ (f : Field). not (is_defined t.input_fields f)) fs) (are (map (defined_entry fs) t.input_fields)) (of_defined fs t there)
  of_kind fs t kind.Scalar there = of_if (is_custom_scalar t) (any_entries fs) no_object (of_any fs) tt
  of_kind fs t kind.Enum there = tt
  of_kind fs t kind.Object there = tt
  of_kind fs t kind.Interface there = tt
  of_kind fs t kind.Union there = tt

  of_type : (fs : List Field) (u : Option SchemaType) → ((t : SchemaType) → u ≡ Some t → Contains s.types t) → Of (fields s) (entries_by fs u)
  of_type fs None there = tt
  of_type fs (Some t) there = of_kind fs t t.kind (there t refl)

  found_by : {A : Type 0} (x y : A) (xs : List A) (later : Option A) (b : Bool) → (later ≡ Some x → Contains xs x) → (if b then Some y else later) ≡ Some x → Contains (y ∷ xs) x
  found_by x y xs later true among is = subst (Contains (y ∷ xs)) (some_one y x is) (Contains-here y xs)
  found_by x y xs later false among is = Contains-there x y xs (among is)

  found : {A : Type 0} (test : A → Bool) (xs : List A) (x : A) → find test xs ≡ Some x → Contains xs x
  found test [] x is = absurd (none_some x is)
  found test (y ∷ xs) x is = found_by x y xs (find test xs) (test y) (found test xs x) is

  input_by : (u t : SchemaType) (b : Bool) → (if b then Some u else None) ≡ Some t → u ≡ t
  input_by u t true is = some_one u t is
  input_by u t false is = absurd (none_some t is)

  named_by : (o : Option SchemaType) (t : SchemaType) → option_and_then if_input o ≡ Some t → o ≡ Some t
  named_by None t is = absurd (none_some t is)
  named_by (Some u) t is = ap Some (input_by u t (is_input u.kind) is)

  known : (w : Written) (t : SchemaType) → input_type s w ≡ Some t → Contains s.types t
  known w t is = found (λ (u : SchemaType). bytes_eq (name_in w) u.definition.node.name.text) s.types t (named_by (type_named s (name_in w)) t is)

  of_entries : (fs : List Field) (e : Option Written) → Of (fields s) (entries_for s fs e)
  of_entries fs None = of_any fs
  of_entries fs (Some w) = of_type fs (input_type s w) (known w)

  -- a default that is taken is that of a field of the schema
  taken : {x : Input} {e : Option Written} {d : InputValueDefinition} → Takes s x e d → Contains (fields s) d
  taken (here {fs} {e} {d} es m is has defined left_out) = subst (Of (fields s)) is (of_entries (all_fields fs) e) m has d defined
  taken (in_field es m x is has gives takes) = taken takes
  taken (in_item item x is has fits takes) = taken takes

  -- ---- chains

  leads_more : {d e f : InputValueDefinition} → LeadsTo s d e → DefaultTakes s e f → LeadsTo s d f
  leads_more (one a) b = more a (one b)
  leads_more (more a rest) b = more a (leads_more rest b)

  -- each of these numbers is that of a field that leads here
  abbrev pub Seen : List ℕ → InputValueDefinition → Type 0
  Seen seen d = (q : ℕ) → list_any (eqb q) seen ≡ true → (e : InputValueDefinition) × (slice_get (fields s) q ≡ Some e) × LeadsTo s e d

  either : (a b : Bool) → (a || b) ≡ true → (a ≡ true) ⊎ (b ≡ true)
  either true b is = inl refl
  either false b is = inr is

  none_of : (a b : Bool) → (a || b) ≡ false → a ≡ false
  none_of true b is = is
  none_of false b is = refl

  none_after : (a b : Bool) → (a || b) ≡ false → b ≡ false
  none_after true b is = absurd (true≢false is)
  none_after false b is = is

  apart : (j : ℕ) (xs : List ℕ) → list_any (eqb j) xs ≡ false → AllByRecursion (λ y. eqb j y ≡ false) xs
  apart j [] is = tt
  apart j (x ∷ xs) is = (none_of (eqb j x) (list_any (eqb j) xs) is, apart j xs (none_after (eqb j x) (list_any (eqb j) xs) is))

  distinct_more : (j : ℕ) (xs : List ℕ) → list_any (eqb j) xs ≡ false → IsDistinct eqb xs → IsDistinct eqb (j ∷ xs)
  unfolding IsDistinct
  distinct_more j xs is distinct = (apart j xs is, distinct)

  distinct_none : IsDistinct eqb []
  unfolding IsDistinct
  distinct_none = tt

  too_many : {n m : ℕ} → suc n ≤ m → m ≤ n + 0 → ⊥
  too_many longer shorter = omega (arith, longer, shorter)

  one_at : (i j : ℕ) (d e : InputValueDefinition) → i ≡ j → slice_get (fields s) i ≡ Some d → slice_get (fields s) j ≡ Some e → d ≡ e
  one_at i j d e same at_i at_j = some_one d e (sym at_i ∙ ap (slice_get (fields s)) same ∙ at_j)

  module _ (acyclic : HasNoCycle s) where
    seen_more : (seen : List ℕ) (i : ℕ) (d e : InputValueDefinition) → slice_get (fields s) i ≡ Some d → Seen seen d → DefaultTakes s d e → Seen (i ∷ seen) e
    seen_more seen i d e at led takes q is = elim (either (eqb q i) (list_any (eqb q) seen) is) [
      | inl same ↦ (d, ap (slice_get (fields s)) (eqb-true q i same) ∙ at, one takes)
      | inr before ↦ let r = led q before in (r.0, r.1, leads_more r.2 takes)
    ]

    -- no field is in its own chain
    not_seen : (seen : List ℕ) (j : ℕ) (e : InputValueDefinition) → slice_get (fields s) j ≡ Some e → Seen seen e → list_any (eqb j) seen ≡ true → ⊥
    not_seen seen j e at led is = let r = led j is in acyclic e (subst (λ d. LeadsTo s d e) (one_at j j r.0 e refl r.1 at) r.2)

    below : (seen : List ℕ) (i : ℕ) (d : InputValueDefinition) → slice_get (fields s) i ≡ Some d → Seen seen d → (q : ℕ) → list_any (eqb q) (i ∷ seen) ≡ true → q < length (fields s)
    below seen i d at led q is = elim (either (eqb q i) (list_any (eqb q) seen) is) [
      | inl same ↦ slice_get_within (fields s) q d (ap (slice_get (fields s)) (eqb-true q i same) ∙ at)
      | inr before ↦ let r = led q before in slice_get_within (fields s) q r.0 r.1
    ]

    go_on : (seen : List ℕ) (i : ℕ) (d : InputValueDefinition) → slice_get (fields s) i ≡ Some d → IsDistinct eqb (i ∷ seen) → Seen seen d
        → ((j : ℕ) (e : InputValueDefinition) → slice_get (fields s) j ≡ Some e → IsDistinct eqb (j ∷ i ∷ seen) → Seen (i ∷ seen) e → DefaultSettles s e)
        → (j : ℕ) (e : InputValueDefinition) → DefaultTakes s d e → slice_get (fields s) j ≡ Some e → (b : Bool) → list_any (eqb j) (i ∷ seen) ≡ b → DefaultSettles s e
    go_on seen i d at distinct led next j e takes at_j true is = absurd (not_seen (i ∷ seen) j e at_j (seen_more seen i d e at led takes) is)
    go_on seen i d at distinct led next j e takes at_j false is = next j e at_j (distinct_more j (i ∷ seen) is distinct) (seen_more seen i d e at led takes)

    at_number : (d : InputValueDefinition) (has : Contains (fields s) d) → slice_get (fields s) has.0 ≡ Some d
    at_number d has = slice_get_read (fields s) (length (fields s)) has.0 d refl has.1 (sym has.2)

    by_count : (m : ℕ) (seen : List ℕ) (i : ℕ) (d : InputValueDefinition) → slice_get (fields s) i ≡ Some d → IsDistinct eqb (i ∷ seen) → Seen seen d → length (fields s) ≤ length seen + m → DefaultSettles s d
    by_count zero seen i d at distinct led full = absurd (too_many (length-le_from_distinct_below (i ∷ seen) (length (fields s)) distinct (below seen i d at led)) full)
    by_count (suc m) seen i d at distinct led full = λ y is. settles s (literal json.null y) (Some (written d.of_type))
        (λ e takes. let has = taken takes in go_on seen i d at distinct led (λ j f at_j apart_j led_j. by_count m (i ∷ seen) j f at_j apart_j led_j (omega (arith, full)))
        has.0 e (y, is, takes) (at_number e has) (list_any (eqb has.0) (i ∷ seen)) refl)

    -- each default comes to something
    pub default_settles : (d : InputValueDefinition) → Contains (fields s) d → DefaultSettles s d
    default_settles d has = by_count (length (fields s)) [] has.0 d (at_number d has) (distinct_more has.0 [] refl distinct_none) (λ q is. absurd (true≢false (sym is))) (omega arith)

    outcome_of : (k : ℕ) (x : Input) (e : Option Written) (a : Reached (Option Data)) → Settled a → (o : Outcome (Option Data)) × (a ≡ reached o)
    outcome_of k x e (value v) is = (comes.value v, refl)
    outcome_of k x e (refused r path) is = (comes.refused r path, refl)
    outcome_of k x e too_deep is = absurd (true≢false is)

    pub some_outcome : (x : Input) (t : Written) → (o : Outcome (Option Data)) × Comes s x t o
    some_outcome x t = let settled = settles s x (Some t) (λ d takes. default_settles d (taken takes)) in
        let found = outcome_of settled.0 x (Some t) (coerced (settled.0 + 0) s x (Some t)) (settled.1 0) in
        (found.0, (settled.0 + 0, stays s x (Some t) found.0 (settled.0 + 0) found.1))
