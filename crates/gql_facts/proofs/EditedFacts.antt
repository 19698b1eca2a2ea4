-- The entry of a type that an edit leaves as it is.
use Rattle.std.proofs.Common.{◌≡◌, ◌+◌, ◌++◌, ◌<◌, ℕ, zero, suc, List, [], ◌∷◌, Bool, true, false, Option, None, Some, get_or, slice_get, refl, length, map, find, bytes_eq, take, sym, ap, ◌∙◌, subst, arith}
use Rattle.std.proofs.lemmas.List.{map-append, take_more}
use Rattle.std.specs.List.{AllZip}
use Rattle.std.specs.Prelude.{IfSome, is_some, option_map, unwrap_or}
use Rattle.std.proofs.lemmas.Option.{slice_get-get_or, slice_get-map}
use Rattle.std.proofs.lemmas.Slice.Eq.{bytes_eq-Decides}
use Rattle.gql_types.specs.KeptTypes.{IsKeptAt}
use Rattle.gql_types.specs.Possible.{name_of}
use Rattle.gql_types.specs.Schemas.{inputs_by, possible_named, type_named, values_by}
use Rattle.gql_types.specs.declared.schema.Schema.{Schema}
use Rattle.gql_types.specs.declared.schema_type.SchemaType.{SchemaType}
use Rattle.gql_facts.specs.EditedFacts.{AreFactsBefore, IsEntryAfter}
use Rattle.gql_facts.specs.Facts.{input_facts, value_names}
use Rattle.gql_facts.specs.ListMembers.{find_map}
use Rattle.gql_facts.specs.Tables.{field_entry, tables_of, type_entry, type_in}
use Rattle.gql_facts.specs.declared.schema_facts.SchemaFacts.{SchemaFacts}
use Rattle.gql_facts.specs.declared.schema_facts.TypeEntry.{TypeEntry}

-- the type of an entry that was found
entry_found : (old : Schema) (q : List ℕ) → type_in (tables_of old) q ≡ option_map (type_entry old) (type_named old q)
entry_found old q = find_map (λ (e : TypeEntry). bytes_eq q e.name) (type_entry old) old.types

-- an entry with these possible types
abbrev with_possible : SchemaType → Option (List (List ℕ)) → TypeEntry
with_possible t possible = record {
  name = t.definition.node.name.text;
  kind = t.kind;
  fields = map field_entry t.fields;
  possible = possible;
  inputs = option_map input_facts (inputs_by t.kind t);
  values = option_map value_names (values_by t.kind t);
}

pub kept : (before : SchemaFacts) (names : List (List ℕ)) (after : Schema) (t : SchemaType) (e : TypeEntry)
    → is_some (find (bytes_eq (name_of t)) names) ≡ false → type_in before (name_of t) ≡ Some e → e.possible ≡ possible_named after (name_of t)
    → IsEntryAfter before names after t e
kept before names after t e unedited found possible old is keeps =
    let there : type_named old (name_of t) ≡ Some t = keeps unedited in
    let both : Some e ≡ Some (type_entry old t) = sym found ∙ ap (λ f. type_in f (name_of t)) is ∙ entry_found old (name_of t) ∙ ap (option_map (type_entry old)) there in
    let it : e ≡ type_entry old t = cc both in
    it ∙ ap (with_possible t) (sym (ap (λ (x : TypeEntry). x.possible) it) ∙ possible)

-- what stands at a place
there : {X : Type 0} (xs : List X) (i : ℕ) → i < length xs → (x : X) × (slice_get xs i ≡ Some x)
there [] i within = absurd (omega arith)
there (x ∷ xs) zero within = (x, refl)
there (x ∷ xs) (suc i) within = there xs i (omega arith)

item_there : {X : Type 0} (xs : List X) (i : ℕ) (x : X) → i < length xs → slice_get xs i ≡ Some x → get_or xs i x ≡ x
item_there xs i x within is = let both : Some (get_or xs i x) ≡ Some x = sym (slice_get-get_or xs i x within) ∙ is in cc both

-- the entry of one type more
pub entries_step : (after : Schema) (i : ℕ) (sofar more : List TypeEntry) → i < length after.types → sofar ≡ map (type_entry after) (take i after.types)
    → ((t : SchemaType) → slice_get after.types i ≡ Some t → more ≡ sofar ++ type_entry after t ∷ []) → more ≡ map (type_entry after) (take (i + 1) after.types)
entries_step after i sofar more within earlier added =
    let t = (there after.types i within).0 in
    let is : slice_get after.types i ≡ Some t = (there after.types i within).1 in
    rw (take_more after.types i t within, item_there after.types i t within is, map-append (type_entry after) (take i after.types) (t ∷ []))
    (added t is ∙ ap (λ es. es ++ type_entry after t ∷ []) earlier)

-- the entry that is kept, if there is one, or else that of the type
pub kept_or_made : (before : SchemaFacts) (names : List (List ℕ)) (after : Schema) (t : SchemaType) (kept : Option TypeEntry)
    → IfSome kept (IsEntryAfter before names after t) → IsEntryAfter before names after t (unwrap_or kept (type_entry after t))
kept_or_made before names after t None its = λ old is keeps. refl
kept_or_made before names after t (Some e) its = its

-- what two lists have at one place
zip_get : {X Y : Type 0} (R : X → Y → Type 0) (xs : List X) (ys : List Y) (i : ℕ) (x : X) (y : Y) → AllZip R xs ys → slice_get xs i ≡ Some x → slice_get ys i ≡ Some y → R x y
zip_get R [] ys i x y all is are = absurd (cc is)
zip_get R (a ∷ more) [] i x y all is are = absurd all
zip_get R (a ∷ more) (b ∷ bs) zero x y all is are =
    let one : a ≡ x = cc is in
    let other : b ≡ y = cc are in
    subst (R x) other (subst (λ z. R z b) one all.0)
zip_get R (a ∷ more) (b ∷ bs) (suc i) x y all is are = zip_get R more bs i x y all.1 is are

-- the entry that stood where a type is said to have stood
pub given : (before : SchemaFacts) (names : List (List ℕ)) (places : List (Option ℕ)) (after : Schema) (i : ℕ) (e : TypeEntry) → AreFactsBefore before names places after
    → (stood : ℕ) × (slice_get places i ≡ Some (Some stood)) × (slice_get before.types stood ≡ Some e)
    → (t : SchemaType) → slice_get after.types i ≡ Some t → e ≡ type_entry after t
given before names places after i e facts stands t is =
    let old = facts.0 in
    let kept : IsKeptAt old after (Some stands.0) t = zip_get (IsKeptAt old after) places after.types i (Some stands.0) t facts.3 stands.1 is in
    let both : Some e ≡ Some (type_entry old t) =
    sym stands.2 ∙ ap (λ (f : SchemaFacts). slice_get f.types stands.0) facts.1 ∙ slice_get-map (type_entry old) old.types stands.0 ∙ ap (option_map (type_entry old)) kept.0 in
    let it : e ≡ type_entry old t = cc both in
    it ∙ ap (with_possible t) (sym kept.1)

-- the entry of a type that is looked for by its name
pub looked_for : (before : SchemaFacts) (names : List (List ℕ)) (places : List (Option ℕ)) (after : Schema) (i : ℕ) (t : SchemaType) (e : TypeEntry)
    → AreFactsBefore before names places after → i < length after.types → slice_get after.types i ≡ Some t → IsEntryAfter before names after t e → e ≡ type_entry after t
looked_for before names places after i t e facts within is its =
    its facts.0 facts.1 (facts.2 t (i, within, item_there after.types i t within is))

-- an entry that is found by a name has the name
pub entry_named : (q : List ℕ) (es : List TypeEntry) (e : TypeEntry) → find (λ (x : TypeEntry). bytes_eq q x.name) es ≡ Some e → e.name ≡ q
entry_named q [] e is = absurd (cc is)
entry_named q (x ∷ xs) e is = by (bytes_eq q x.name) refl is (entry_named q xs e)
  where
    by : (b : Bool) → bytes_eq q x.name ≡ b → find (λ (y : TypeEntry). bytes_eq q y.name) (x ∷ xs) ≡ Some e
        → (find (λ (y : TypeEntry). bytes_eq q y.name) xs ≡ Some e → e.name ≡ q) → e.name ≡ q
    by true same is rest =
        let one : Some x ≡ Some e = rw same at is in
        let it : x ≡ e = cc one in
        sym ((bytes_eq-Decides q x.name).0 same ∙ ap (λ (y : TypeEntry). y.name) it)
    by false other is rest = rest (rw other at is)

-- the names of the entries of types
pub names_of_entries : (s : Schema) (types : List SchemaType) → map (λ (x : TypeEntry). x.name) (map (type_entry s) types) ≡ map name_of types
names_of_entries s [] = refl
names_of_entries s (t ∷ ts) = ap (λ ns. name_of t ∷ ns) (names_of_entries s ts)
