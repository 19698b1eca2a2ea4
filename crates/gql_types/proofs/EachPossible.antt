-- The possible types of a composite type, where each type has another name.
use Rattle.std.proofs.Common.{◌≡◌, ◌⊎◌, inl, inr, ℕ, List, [], ◌∷◌, Bool, true, false, Option, Some, None, not, filter, find, flat_map, map, bytes_eq, refl, sym, ap, ◌∙◌, subst}
use Rattle.std.specs.Prelude.{is_some, option_and_then, option_map}
use Rattle.std.proofs.lemmas.Slice.Eq.{bytes_eq-Decides}
use Rattle.gql_ast.specs.declared.type_system.TypeDefinition.{TypeDefinition}
use Rattle.gql_ast.specs.declared.type_system.TypeExtension.{TypeExtension}
use Rattle.gql_built_in.specs.declared.sited.Sited.{Sited}
use Rattle.gql_types.specs.Abstracts.{abstract_by, all_abstract}
use Rattle.gql_types.specs.Kinds.{is_abstract}
use Rattle.gql_types.specs.Names.{AreOnce}
use Rattle.gql_types.specs.Possible.{all_possible, name_of, objects_of, possible_by}
use Rattle.gql_types.specs.Types.{assembled, extensions_of, first_definitions, types_of}
use Rattle.gql_types.specs.declared.kind.TypeKind.{TypeKind}
use Rattle.gql_types.specs.declared.kind.TypeKind.TheVariants as kind
use Rattle.gql_types.specs.declared.possible.PossibleTypes.{PossibleTypes}
use Rattle.gql_types.specs.declared.schema_type.SchemaType.{SchemaType}
use Rattle.gql_types.proofs.Filtering.{either}

-- ---- the names of types occur once

abbrev name_in : Sited TypeDefinition → List ℕ
name_in d = d.node.name.text

abbrev other_than : List ℕ → Sited TypeDefinition → Bool
other_than n e = not (bytes_eq n (name_in e))

-- a name is not among those of others
gone : (n : List ℕ) (ds : List (Sited TypeDefinition)) → is_some (find (bytes_eq n) (map name_in (filter (other_than n) ds))) ≡ false
gone n [] = refl
gone n (d ∷ ds) = elim (either (bytes_eq n (name_in d))) [
  | inl h ↦ rw h (gone n ds)
  | inr h ↦ rw (h, h) (gone n ds)
]

-- nor is one that was not among the names before
still_gone : (p : Sited TypeDefinition → Bool) (n : List ℕ) (ds : List (Sited TypeDefinition)) → is_some (find (bytes_eq n) (map name_in ds)) ≡ false
    → is_some (find (bytes_eq n) (map name_in (filter p ds))) ≡ false
still_gone p n [] lacks = refl
still_gone p n (d ∷ ds) lacks = elim (either (bytes_eq n (name_in d))) [
  | inl h ↦ absurd (cc (sym (rw h at lacks)))
  | inr h ↦ by (p d) refl h (still_gone p n ds (rw h at lacks))
]
  where
    by : (b : Bool) → p d ≡ b → bytes_eq n (name_in d) ≡ false → is_some (find (bytes_eq n) (map name_in (filter p ds))) ≡ false
        → is_some (find (bytes_eq n) (map name_in (filter p (d ∷ ds)))) ≡ false
    by true is h rest = rw (is, h) rest
    by false is h rest = rw is rest

still_once : (p : Sited TypeDefinition → Bool) (ds : List (Sited TypeDefinition)) → AreOnce (map name_in ds) → AreOnce (map name_in (filter p ds))
still_once p [] once = tt
still_once p (d ∷ ds) once = by (p d) refl (still_gone p (name_in d) ds once.0) (still_once p ds once.1)
  where
    by : (b : Bool) → p d ≡ b → is_some (find (bytes_eq (name_in d)) (map name_in (filter p ds))) ≡ false → AreOnce (map name_in (filter p ds))
        → AreOnce (map name_in (filter p (d ∷ ds)))
    by true is absent rest = rw is (absent, rest)
    by false is absent rest = rw is rest

once_first : (ds : List (Sited TypeDefinition)) → AreOnce (map name_in (first_definitions ds))
once_first [] = tt
once_first (d ∷ ds) = (gone (name_in d) (first_definitions ds), still_once (other_than (name_in d)) (first_definitions ds) (once_first ds))

names_made : (es : List (Sited TypeExtension)) (ds : List (Sited TypeDefinition))
    → map name_in ds ≡ map name_of (map (λ (d : Sited TypeDefinition). assembled d (extensions_of es d)) ds)
names_made es [] = refl
names_made es (d ∷ ds) = ap (λ ns. name_in d ∷ ns) (names_made es ds)

pub types_once : (ds : List (Sited TypeDefinition)) (es : List (Sited TypeExtension)) → AreOnce (map name_of (types_of ds es))
types_once ds es = subst AreOnce (names_made es (first_definitions ds)) (once_first ds)

-- ---- what is found by name

abbrev of : List ℕ → PossibleTypes → Bool
of q p = bytes_eq q p.of_type

abbrev head : List PossibleTypes → Option PossibleTypes
head [] = None
head (p ∷ ps) = Some p

-- a type has one or none, of its name
abbrev OneOrNone : (SchemaType → List PossibleTypes) → Type 0
OneOrNone f = (t : SchemaType) → (f t ≡ []) ⊎ ((p : PossibleTypes) × (f t ≡ p ∷ []) × (p.of_type ≡ name_of t))

module _ (f : SchemaType → List PossibleTypes) (one_or_none : OneOrNone f) (q : List ℕ) where
  none_of : (ts : List SchemaType) → is_some (find (bytes_eq q) (map name_of ts)) ≡ false → find (of q) (flat_map f ts) ≡ None
  none_of [] lacks = refl
  none_of (t ∷ ts) lacks = elim (either (bytes_eq q (name_of t))) [
    | inl h ↦ absurd (cc (sym (rw h at lacks)))
    | inr h ↦ by (one_or_none t) h (none_of ts (rw h at lacks))
  ]
    where
      by : (f t ≡ []) ⊎ ((p : PossibleTypes) × (f t ≡ p ∷ []) × (p.of_type ≡ name_of t)) → bytes_eq q (name_of t) ≡ false
          → find (of q) (flat_map f ts) ≡ None → find (of q) (flat_map f (t ∷ ts)) ≡ None
      by (inl e) h rest = rw e rest
      by (inr (p, e, n)) h rest = rw (e, n, h) rest

  pub found_of : (ts : List SchemaType) → AreOnce (map name_of ts)
      → find (of q) (flat_map f ts) ≡ option_and_then (λ t. head (f t)) (find (λ t. bytes_eq q (name_of t)) ts)
  found_of [] once = refl
  found_of (t ∷ ts) once = elim (either (bytes_eq q (name_of t))) [
    | inl h ↦
        let same : q ≡ name_of t = (bytes_eq-Decides q (name_of t)).0 h in
        here (one_or_none t) h (none_of ts (subst (λ n. is_some (find (bytes_eq n) (map name_of ts)) ≡ false) (sym same) once.0))
    | inr h ↦ there (one_or_none t) h (found_of ts once.1)
  ]
    where
      here : (f t ≡ []) ⊎ ((p : PossibleTypes) × (f t ≡ p ∷ []) × (p.of_type ≡ name_of t)) → bytes_eq q (name_of t) ≡ true
          → find (of q) (flat_map f ts) ≡ None → find (of q) (flat_map f (t ∷ ts)) ≡ option_and_then (λ u. head (f u)) (find (λ u. bytes_eq q (name_of u)) (t ∷ ts))
      here (inl e) h rest = rw (h, e) rest
      here (inr (p, e, n)) h rest = rw (h, e, n, h) refl

      there : (f t ≡ []) ⊎ ((p : PossibleTypes) × (f t ≡ p ∷ []) × (p.of_type ≡ name_of t)) → bytes_eq q (name_of t) ≡ false
          → find (of q) (flat_map f ts) ≡ option_and_then (λ u. head (f u)) (find (λ u. bytes_eq q (name_of u)) ts)
          → find (of q) (flat_map f (t ∷ ts)) ≡ option_and_then (λ u. head (f u)) (find (λ u. bytes_eq q (name_of u)) (t ∷ ts))
      there (inl e) h rest = rw (h, e) rest
      there (inr (p, e, n)) h rest = rw (h, e, n, h) rest

one_possible : (k : TypeKind) (at : List ℕ → List (List ℕ)) (t : SchemaType)
    → (possible_by k at t ≡ []) ⊎ ((p : PossibleTypes) × (possible_by k at t ≡ p ∷ []) × (p.of_type ≡ name_of t))
one_possible kind.Object at t = inr (_, refl, refl)
one_possible kind.Interface at t = inr (_, refl, refl)
one_possible kind.Union at t = inr (_, refl, refl)
one_possible kind.Scalar at t = inl refl
one_possible kind.Enum at t = inl refl
one_possible kind.InputObject at t = inl refl

one_abstract : (k : TypeKind) (at : List ℕ → List (List ℕ)) (t : SchemaType)
    → (abstract_by k at t ≡ []) ⊎ ((p : PossibleTypes) × (abstract_by k at t ≡ p ∷ []) × (p.of_type ≡ name_of t))
one_abstract kind.Interface at t = inr (_, refl, refl)
one_abstract kind.Union at t = inr (_, refl, refl)
one_abstract kind.Object at t = inl refl
one_abstract kind.Scalar at t = inl refl
one_abstract kind.Enum at t = inl refl
one_abstract kind.InputObject at t = inl refl

same_of_other : (k : TypeKind) (at : List ℕ → List (List ℕ)) (t : SchemaType) → (k ≡ kind.Object → ⊥) → abstract_by k at t ≡ possible_by k at t
same_of_other kind.Object at t other = absurd (other refl)
same_of_other kind.Interface at t other = refl
same_of_other kind.Union at t other = refl
same_of_other kind.Scalar at t other = refl
same_of_other kind.Enum at t other = refl
same_of_other kind.InputObject at t other = refl

-- the possible types of a type that is neither an interface nor a union
abbrev pub own : TypeKind → List ℕ → Option (List (List ℕ))
own kind.Object n = Some (n ∷ [])
own kind.Interface n = None
own kind.Union n = None
own kind.Scalar n = None
own kind.Enum n = None
own kind.InputObject n = None

own_head : (k : TypeKind) (at : List ℕ → List (List ℕ)) (t : SchemaType) → is_abstract k ≡ false
    → option_map (λ (p : PossibleTypes). p.types) (head (possible_by k at t)) ≡ own k (name_of t)
own_head kind.Object at t concrete = refl
own_head kind.Interface at t concrete = absurd (cc concrete)
own_head kind.Union at t concrete = absurd (cc concrete)
own_head kind.Scalar at t concrete = refl
own_head kind.Enum at t concrete = refl
own_head kind.InputObject at t concrete = refl

module _ (types : List SchemaType) (once : AreOnce (map name_of types)) (q : List ℕ) where
  abbrev found : Option SchemaType
  found = find (λ (t : SchemaType). bytes_eq q (name_of t)) types

  -- what is found among all, by the type of the name
  among_all : (o : Option SchemaType) → found ≡ o
      → option_map (λ (p : PossibleTypes). p.types) (find (of q) (all_possible types))
      ≡ option_map (λ (p : PossibleTypes). p.types) (option_and_then (λ (t : SchemaType). head (possible_by t.kind (objects_of types) t)) o)
  among_all o is = ap (option_map (λ (p : PossibleTypes). p.types))
      (found_of (λ t. possible_by t.kind (objects_of types) t) (λ t. one_possible t.kind (objects_of types) t) q types once
      ∙ ap (option_and_then (λ (t : SchemaType). head (possible_by t.kind (objects_of types) t))) is)

  among_abstract : (o : Option SchemaType) → found ≡ o
      → option_map (λ (p : PossibleTypes). p.types) (find (of q) (all_abstract types))
      ≡ option_map (λ (p : PossibleTypes). p.types) (option_and_then (λ (t : SchemaType). head (abstract_by t.kind (objects_of types) t)) o)
  among_abstract o is = ap (option_map (λ (p : PossibleTypes). p.types))
      (found_of (λ t. abstract_by t.kind (objects_of types) t) (λ t. one_abstract t.kind (objects_of types) t) q types once
      ∙ ap (option_and_then (λ (t : SchemaType). head (abstract_by t.kind (objects_of types) t))) is)

  abbrev possible : Option (List (List ℕ))
  possible = option_map (λ (p : PossibleTypes). p.types) (find (of q) (all_possible types))

  pub of_no_type : None ≡ found → None ≡ possible
  of_no_type is = sym (among_all None (sym is))

  module _ (t : SchemaType) (is : found ≡ Some t) where
    pub of_object : t.kind ≡ kind.Object → possible ≡ Some (name_of t ∷ [])
    of_object same = among_all (Some t) is
        ∙ ap (λ k. option_map (λ (p : PossibleTypes). p.types) (head (possible_by k (objects_of types) t))) same

    -- any other type has what it has among interfaces and unions
    pub of_other : (t.kind ≡ kind.Object → ⊥) → option_map (λ (p : PossibleTypes). p.types) (find (of q) (all_abstract types)) ≡ possible
    of_other other = among_abstract (Some t) is
        ∙ ap (λ ps. option_map (λ (p : PossibleTypes). p.types) (head ps)) (same_of_other t.kind (objects_of types) t other)
        ∙ sym (among_all (Some t) is)

    -- a type that is neither an interface nor a union has what it has by itself
    pub of_concrete : is_abstract t.kind ≡ false → possible ≡ own t.kind (name_of t)
    of_concrete concrete = among_all (Some t) is ∙ own_head t.kind (objects_of types) t concrete
