-- Rows of input objects that were rows before.
use Rattle.std.proofs.Common.{◌≡◌, ◌∙◌, ◌+◌, ◌++◌, ◌<◌, ◌≤◌, inl, inr, ℕ, List, [], ◌∷◌, Some, true, false, get_or, length, take, Contains, refl, sym, ap, ap₂, subst}
use Rattle.std.proofs.lemmas.List.{take_all, take_more}
use Rattle.std.proofs.lemmas.List.Elements.{Contains-append_cases}
use Rattle.gql_cycles.specs.Names.{Steps}
use Rattle.gql_types.specs.Kinds.{same_kind}
use Rattle.gql_types.specs.Possible.{name_of}
use Rattle.gql_types.specs.Schemas.{type_named}
use Rattle.gql_types.specs.declared.kind.TypeKind.{TypeKind}
use Rattle.gql_types.specs.declared.kind.TypeKind.TheVariants as kind
use Rattle.gql_types.specs.declared.schema.Schema.{Schema}
use Rattle.gql_types.specs.declared.schema_type.SchemaType.{SchemaType}
use Rattle.gql_iface_rules.specs.Checked.{HasRowsOf}
use Rattle.gql_iface_rules.specs.S17InputObjectCycles.{input_row, input_rows, needs}
use Rattle.gql_iface_rules.proofs.AlikeTypes.{type_found}
use Rattle.gql_iface_rules.proofs.Members.{Contains-flat_map, either_of, nothing_in}

-- the type of a list of one
only : (t u : SchemaType) → Contains (t ∷ []) u → u ≡ t
only t u h = elim (either_of u t [] h) [ inl e ↦ e | inr k ↦ absurd (nothing_in u k) ]

no_row : (k : TypeKind) (t : SchemaType) → same_kind k kind.InputObject ≡ false → input_row k t ≡ []
unfolding same_kind
no_row kind.InputObject t is = absurd (cc is)
no_row kind.Scalar t is = refl
no_row kind.Object t is = refl
no_row kind.Interface t is = refl
no_row kind.Union t is = refl
no_row kind.Enum t is = refl

row_by : (k l : TypeKind) (t u : SchemaType) → same_kind k kind.InputObject ≡ true → same_kind l kind.InputObject ≡ true
    → name_of t ≡ name_of u → needs t.input_fields ≡ needs u.input_fields → input_row k t ≡ input_row l u
unfolding same_kind
row_by kind.InputObject kind.InputObject t u first second name same = ap₂ (λ n ns. record { name = n; leads = ns } ∷ []) name same
row_by kind.InputObject kind.Scalar t u first second name same = absurd (cc second)
row_by kind.InputObject kind.Object t u first second name same = absurd (cc second)
row_by kind.InputObject kind.Interface t u first second name same = absurd (cc second)
row_by kind.InputObject kind.Union t u first second name same = absurd (cc second)
row_by kind.InputObject kind.Enum t u first second name same = absurd (cc second)
row_by kind.Scalar l t u first second name same = absurd (cc first)
row_by kind.Object l t u first second name same = absurd (cc first)
row_by kind.Interface l t u first second name same = absurd (cc first)
row_by kind.Union l t u first second name same = absurd (cc first)
row_by kind.Enum l t u first second name same = absurd (cc first)

-- a type that is no input object has no row
pub rows_of_none : (s : Schema) (t : SchemaType) → same_kind t.kind kind.InputObject ≡ false → HasRowsOf s (t ∷ [])
rows_of_none s t is = λ u r there h.
    let same = only t u there in
    let row : Contains (input_row t.kind t) r = subst (λ (v : SchemaType). Contains (input_row v.kind v) r) same h in
    absurd (nothing_in r (subst (λ rs. Contains rs r) (no_row t.kind t is) row))

-- an input object that needs the same as that of its name has its row
pub rows_of_same : (s : Schema) (t u : SchemaType) (q : List ℕ) → same_kind t.kind kind.InputObject ≡ true → same_kind u.kind kind.InputObject ≡ true
    → type_named s q ≡ Some u → name_of t ≡ name_of u → needs t.input_fields ≡ needs u.input_fields → HasRowsOf s (t ∷ [])
rows_of_same s t u q first second found name same = λ v r there h.
    let is = only t v there in
    let row : Contains (input_row t.kind t) r = subst (λ (w : SchemaType). Contains (input_row w.kind w) r) is h in
    Contains-flat_map (λ (w : SchemaType). input_row w.kind w) s.types u r (type_found s q u found).0
    (subst (λ rs. Contains rs r) (row_by t.kind u.kind t u first second name same) row)

-- one type more
pub rows_more : (s : Schema) (types : List SchemaType) (i : ℕ) (t : SchemaType) → i < length types → get_or types i t ≡ t → HasRowsOf s (take i types) → HasRowsOf s (t ∷ []) → HasRowsOf s (take (i + 1) types)
rows_more s types i t within item before now = λ u r there h.
    let whole : take (i + 1) types ≡ take i types ++ t ∷ [] = take_more types i t within ∙ ap (λ z. take i types ++ z ∷ []) item in
    elim (Contains-append_cases (take i types) (t ∷ []) u (subst (λ ts. Contains ts u) whole there)) [
      | inl b ↦ before u r b h
      | inr l ↦ now u r l h
    ]

pub rows_all : (s : Schema) (types : List SchemaType) (i : ℕ) → length types ≤ i → HasRowsOf s (take i types) → HasRowsOf s types
rows_all s types i end h = subst (λ ts. HasRowsOf s ts) (take_all i types end) h

pub rows_none : (s : Schema) → HasRowsOf s []
rows_none s = λ t r there h. absurd (nothing_in t there)
