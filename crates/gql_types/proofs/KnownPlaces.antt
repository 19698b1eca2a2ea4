-- Where a type is known to have stood before an edit.
use Rattle.std.proofs.Common.{◌≡◌, ◌||◌, ◌+◌, ◌∙◌, ℕ, List, [], ◌∷◌, Bool, Option, Some, None, true, false, inl, inr, bytes_eq, find, slice_get, option_and_then, ap, refl, sym, subst}
use Rattle.std.specs.Prelude.{if◌then◌else◌, is_some}
use Rattle.std.specs.List.{position_from}
use Rattle.std.proofs.lemmas.Slice.Eq.{bytes_eq-Decides}
use Rattle.gql_ast.specs.declared.text.Name.{Name}
use Rattle.gql_built_in.specs.declared.sited.Sited.{Sited}
use Rattle.gql_types.specs.Kinds.{is_abstract}
use Rattle.gql_types.specs.KeptTypes.{known_place}
use Rattle.gql_types.specs.Possible.{name_of}
use Rattle.gql_types.specs.Roles.{concrete_place, role_by, role_of}
use Rattle.gql_types.specs.declared.kind.TypeKind.{TypeKind}
use Rattle.gql_types.specs.declared.kind.TypeKind.TheVariants as kind
use Rattle.gql_types.specs.declared.schema_type.SchemaType.{SchemaType}
use Rattle.gql_types.proofs.Filtering.{either}
use Rattle.gql_types.proofs.Places.{found_there}

pub found_passes : {A : Type 0} (p : A → Bool) (xs : List A) (x : A) → find p xs ≡ Some x → p x ≡ true
found_passes p [] x is = absurd (cc is)
found_passes p (y ∷ ys) x is = elim (either (p y)) [
  | inl h ↦ let e : Some y ≡ Some x = rw h at is in let same : y ≡ x = cc e in subst (λ z. p z ≡ true) same h
  | inr h ↦ found_passes p ys x (rw h at is)
]

-- what is not found has no place
none_placed : {A : Type 0} (p : A → Bool) (k : ℕ) (xs : List A) → find p xs ≡ None → position_from p k xs ≡ None
none_placed p k [] is = refl
none_placed p k (x ∷ xs) is = elim (either (p x)) [
  | inl h ↦ let e : Some x ≡ None = rw h at is in absurd (cc e)
  | inr h ↦ rw h (none_placed p (k + 1) xs (rw h at is))
]

-- the place of a type of this kind that declares these interfaces
role_place : (k : TypeKind) (interfaces : List (Sited Name)) (stood other : Option ℕ) → stood ≡ other
    → concrete_place (role_by k interfaces) stood ≡ (if is_abstract k then None else other)
role_place kind.Object [] stood other same = same
role_place kind.Object (i ∷ more) stood other same = same
role_place kind.Interface interfaces stood other same = refl
role_place kind.Union interfaces stood other same = refl
role_place kind.Scalar interfaces stood other same = same
role_place kind.Enum interfaces stood other same = same
role_place kind.InputObject interfaces stood other same = same

no_place : (b : Bool) (other : Option ℕ) → other ≡ None → None ≡ (if b then None else other)
no_place true other none = refl
no_place false other none = sym none

module _ (edited : List (List ℕ)) (before : List SchemaType) (t : SchemaType) (stood : Option ℕ)
    (place : stood ≡ position_from (λ (u : SchemaType). bytes_eq (name_of t) (name_of u)) 0 before) where
  -- a type that is kept is where it stood, if it is neither an interface nor a union
  pub known_kept : is_some (find (bytes_eq (name_of t)) edited) ≡ false → concrete_place (role_of t) stood ≡ known_place edited before t
  known_kept unedited = rw unedited (role_place t.kind t.interfaces stood (position_from (λ (u : SchemaType). bytes_eq (name_of t) (name_of u)) 0 before) place)

  -- a type that is made is edited, or none of its name stood before
  pub known_made : ((u : SchemaType) → option_and_then (λ i. slice_get before i) stood ≡ Some u → is_some (find (bytes_eq (name_of u)) edited) ≡ true)
      → None ≡ known_place edited before t
  known_made told = elim (either (is_some (find (bytes_eq (name_of t)) edited))) [
    | inl h ↦ rw h refl
    | inr h ↦ rw h (no_place (is_abstract t.kind) (position_from named 0 before) (none_placed named 0 before (absent h (find named before) refl)))
  ]
    where
      named : SchemaType → Bool
      named u = bytes_eq (name_of t) (name_of u)

      absent : is_some (find (bytes_eq (name_of t)) edited) ≡ false → (o : Option SchemaType) → find named before ≡ o → find named before ≡ None
      absent h None is = is
      absent h (Some u) is =
          let marked = told u (ap (option_and_then (λ i. slice_get before i)) place ∙ found_there named before ∙ is) in
          let same : name_of t ≡ name_of u = (bytes_eq-Decides (name_of t) (name_of u)).0 (found_passes named before u is) in
          let both : false ≡ true = sym h ∙ subst (λ n. is_some (find (bytes_eq n) edited) ≡ true) (sym same) marked in
          absurd (cc both)
