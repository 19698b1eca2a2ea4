-- What an edit leaves as it is.
use Rattle.std.proofs.Common.{◌≡◌, ◌⊎◌, inl, inr, ℕ, List, [], ◌∷◌, Bool, true, false, Option, Some, None, filter, find, bytes_eq, refl, sym, ap, subst, ◌∙◌, Contains, not, ◌++◌, ◌+◌, ◌<◌, length, take, get_or, rules}
use Rattle.std.specs.Prelude.{option_map, option_and_then}
use Rattle.std.proofs.lemmas.List.{take_more}
use Rattle.std.proofs.lemmas.Slice.Eq.{bytes_eq-Decides}
use denote.Enum.Bare.{same_true}
use Rattle.gql_inputs.specs.InputTypes.{is_open}
use Rattle.gql_inputs.specs.Lookups.{form_at, form_of, in_schema}
use Rattle.gql_types.proofs.Members.{here, there}
use Rattle.gql_types.specs.Edits.{KeepsOthers}
use Rattle.gql_types.specs.Kinds.{same_kind}
use Rattle.gql_types.specs.Possible.{name_of}
use Rattle.gql_types.specs.Schemas.{kind_named, type_named}
use Rattle.gql_types.specs.contracts.kind.TypeKind as of_type
use Rattle.gql_types.specs.declared.kind.TypeKind.{TypeKind}
use Rattle.gql_types.specs.declared.kind.TypeKind.TheVariants as kind
use Rattle.gql_types.specs.declared.schema.Schema.{Schema}
use Rattle.gql_types.specs.declared.schema_type.SchemaType.{SchemaType}
use Rattle.gql_node_rules.specs.SchemaChanges.{NamesInputs, has_other_kind, is_among, same_known}
use Rattle.gql_node_rules.specs.ValueTypes.{is_object_form}
use Rattle.gql_node_rules.proofs.Sets.{same}

-- ---- searches

either : (b : Bool) → (b ≡ true) ⊎ (b ≡ false)
either true = inl refl
either false = inr refl

-- a name that is among some, and not among those of them that pass, does not pass
pub left_out : (p : List ℕ → Bool) (xs : List (List ℕ)) (q : List ℕ) → is_among xs q ≡ true → is_among (filter p xs) q ≡ false → p q ≡ false
left_out p [] q found gone = cc
left_out p (x ∷ xs) q found gone = elim (either (bytes_eq q x)) [
  | inl is ↦ elim (either (p x)) [
    | inl passes ↦ let wrong : true ≡ false = rw (passes, is) at gone in cc
    | inr fails ↦ ap p (same q x is) ∙ fails
  ]
  | inr other ↦ let rest : is_among xs q ≡ true = rw other at found in elim (either (p x)) [
    | inl passes ↦ let left : is_among (filter p xs) q ≡ false = rw (passes, other) at gone in left_out p xs q rest left
    | inr fails ↦ let left : is_among (filter p xs) q ≡ false = rw fails at gone in left_out p xs q rest left
  ]
]

-- a type that is found is one of the types, and has the name
pub found_type : (q : List ℕ) (types : List SchemaType) (t : SchemaType) → find (λ (u : SchemaType). bytes_eq q (name_of u)) types ≡ Some t
    → Contains types t × (q ≡ name_of t)
found_type q [] t e = cc
found_type q (u ∷ us) t e = elim (either (bytes_eq q (name_of u))) [
  | inl is ↦ let it : Some u ≡ Some t = rw is at e in
      let one : u ≡ t = cc in
      (subst (λ x. Contains (u ∷ us) x) one (here u us), same q (name_of u) is ∙ ap name_of one)
  | inr other ↦ let rest : find (λ (v : SchemaType). bytes_eq q (name_of v)) us ≡ Some t = rw other at e in
      let r = found_type q us t rest in (there t u us r.0, r.1)
]

-- ---- types of other names

module _ (names : List (List ℕ)) (s t : Schema) (forth : KeepsOthers names s t) (back : KeepsOthers names t s) where
  kept_by : (q : List ℕ) → is_among names q ≡ false → (a b : Option SchemaType) → type_named s q ≡ a → type_named t q ≡ b → a ≡ b
  kept_by q other None None e f = refl
  kept_by q other a (Some y) e f =
      let r = found_type q t.types y f in
      sym e ∙ subst (λ n. type_named s n ≡ Some y) (sym r.1) (forth y r.0 (subst (λ n. is_among names n ≡ false) r.1 other))
  kept_by q other (Some x) None e f =
      let r = found_type q s.types x e in
      sym (subst (λ n. type_named t n ≡ Some x) (sym r.1) (back x r.0 (subst (λ n. is_among names n ≡ false) r.1 other))) ∙ f

  -- they are the same in both
  pub kept : (q : List ℕ) → is_among names q ≡ false → type_named s q ≡ type_named t q
  kept q other = kept_by q other (type_named s q) (type_named t q) refl refl

-- ---- kinds

pub same_is : (a b : TypeKind) → same_kind a b ≡ true → a ≡ b
unfolding same_kind
same_is a b h = same_true of_type.the_type (search rules) a b h

known_is : (a b : Option TypeKind) → same_known a b ≡ true → a ≡ b
known_is None None e = refl
known_is None (Some b) e = cc
known_is (Some a) None e = cc
known_is (Some a) (Some b) e = ap Some (same_is a b e)

pub turned : (b : Bool) → not b ≡ false → b ≡ true
turned true e = refl
turned false e = cc

-- ---- the change

module _ (names : List (List ℕ)) (s t : Schema) (forth : KeepsOthers names s t) (back : KeepsOthers names t s) where
  pub same_kinds : (q : List ℕ) → is_among (filter (has_other_kind s t) names) q ≡ false → kind_named s q ≡ kind_named t q
  same_kinds q gone = elim (either (is_among names q)) [
    | inl edited ↦ known_is (kind_named s q) (kind_named t q)
        (turned (same_known (kind_named s q) (kind_named t q)) (left_out (has_other_kind s t) names q edited gone))
    | inr other ↦ ap (option_map (λ (u : SchemaType). u.kind)) (kept names s t forth back q other)
  ]

  pub same_inputs : is_open s ≡ is_open t → (found : List (List ℕ)) → NamesInputs s t names found → (q : List ℕ) → is_among found q ≡ false
      → in_schema s q ≡ in_schema t q
  same_inputs floats found named q gone = elim (either (is_among names q)) [
    | inl edited ↦ named q edited gone floats
    | inr other ↦ let it = kept names s t forth back q other in λ k. option_and_then (form_of (floats k)) (it k)
  ]

-- a name that is among some and another is among these
among_first : (q n : List ℕ) (ns : List (List ℕ)) → bytes_eq q n ≡ false → is_among (ns ++ n ∷ []) q ≡ true → is_among ns q ≡ true
among_first q n [] other found = absurd (cc (sym (rw other at found)))
among_first q n (m ∷ ns) other found = elim (either (bytes_eq q m)) [
  | inl is ↦ rw is refl
  | inr another ↦ rw another (among_first q n ns other (rw another at found))
]

-- a name that is among these is among more
pub among_more : (q n : List ℕ) (ns : List (List ℕ)) → is_among ns q ≡ true → is_among (ns ++ n ∷ []) q ≡ true
among_more q n [] found = cc
among_more q n (m ∷ ns) found = elim (either (bytes_eq q m)) [
  | inl is ↦ rw is refl
  | inr another ↦ rw another (among_more q n ns (rw another at found))
]

pub among_last : (n : List ℕ) (ns : List (List ℕ)) → is_among (ns ++ n ∷ []) n ≡ true
among_last n [] = rw ((bytes_eq-Decides n n).1 refl) refl
among_last n (m ∷ ns) = elim (either (bytes_eq n m)) [
  | inl is ↦ rw is refl
  | inr another ↦ rw another (among_last n ns)
]

-- with one name more
pub inputs_step : (s t : Schema) (names : List (List ℕ)) (i : ℕ) (n : List ℕ) (old new : List (List ℕ)) → i < length names → get_or names i n ≡ n
    → NamesInputs s t (take i names) old
    → ((q : List ℕ) → is_among old q ≡ true → is_among new q ≡ true)
    → (is_among new n ≡ false → is_open s ≡ is_open t → in_schema s n ≡ in_schema t n)
    → NamesInputs s t (take (i + 1) names) new
inputs_step s t names i n old new within item before keeps named q found gone floats = elim (either (bytes_eq q n)) [
  | inl is ↦ let it : q ≡ n = same q n is in
      subst (λ x. in_schema s x ≡ in_schema t x) (sym it) (named (subst (λ x. is_among new x ≡ false) it gone) floats)
  | inr other ↦ before q (among_before other) (not_before (either (is_among old q))) floats
]
  where
    among_before : bytes_eq q n ≡ false → is_among (take i names) q ≡ true
    among_before other = among_first q n (take i names) other (subst (λ ns. is_among ns q ≡ true) (take_more names i n within ∙ ap (λ y. take i names ++ y ∷ []) item) found)

    not_before : (is_among old q ≡ true) ⊎ (is_among old q ≡ false) → is_among old q ≡ false
    not_before (inl was) = absurd (cc (sym (keeps q was) ∙ gone))
    not_before (inr none) = none

-- ---- input objects

object_at : (floats : Bool) (t : SchemaType) (k : TypeKind) → same_kind k kind.InputObject ≡ is_object_form (form_at floats t k)
unfolding same_kind
object_at floats t kind.Scalar = refl
object_at floats t kind.Object = refl
object_at floats t kind.Interface = refl
object_at floats t kind.Union = refl
object_at floats t kind.Enum = refl
object_at floats t kind.InputObject = refl

-- a type is an input object if its kind says so
pub object_kind : (floats : Bool) (o : Option SchemaType) (k : TypeKind) → option_map (λ (t : SchemaType). t.kind) o ≡ Some k
    → same_kind k kind.InputObject ≡ is_object_form (option_and_then (form_of floats) o)
object_kind floats None k e = cc
object_kind floats (Some t) k e = let is : t.kind ≡ k = cc in
    subst (λ x. same_kind x kind.InputObject ≡ is_object_form (form_at floats t t.kind)) is (object_at floats t t.kind)

pub no_kind : (floats : Bool) (o : Option SchemaType) → option_map (λ (t : SchemaType). t.kind) o ≡ None
    → false ≡ is_object_form (option_and_then (form_of floats) o)
no_kind floats None e = refl
no_kind floats (Some t) e = cc
