-- The faults of types by the rules on interfaces, and those types that an edit leaves to be checked.
use Rattle.std.proofs.Common.{◌≡◌, ◌∙◌, ◌↔◌, ◌⊎◌, inl, inr, ◌++◌, ℕ, List, [], ◌∷◌, Bool, true, false, filter, find, flat_map, bytes_eq, Contains, refl, sym, subst}
use Rattle.std.specs.Prelude.{is_some}
use Rattle.std.proofs.lemmas.List.Elements.{Contains-append_left, Contains-append_right, Contains-append_cases}
use Rattle.gql_ast.specs.declared.fault.Fault.{Fault}
use Rattle.gql_types.specs.Edits.{KeepsOthers}
use Rattle.gql_types.specs.Possible.{name_of}
use Rattle.gql_types.specs.declared.schema.Schema.{Schema}
use Rattle.gql_types.specs.declared.schema_type.SchemaType.{SchemaType}
use Rattle.gql_iface_rules.specs.Implementing.{implementations_of, pairs_of}
use Rattle.gql_iface_rules.specs.Pairing.{IsFaultOfTypes, IsPairFault}
use Rattle.gql_iface_rules.specs.Quiet.{IsFaultOn, listed_on, types_named}
use Rattle.gql_iface_rules.specs.S09BadInterfaceNames as s09
use Rattle.gql_iface_rules.specs.S10SelfImplementation as s10
use Rattle.gql_iface_rules.specs.S11UndeclaredInterfaces as s11
use Rattle.gql_iface_rules.specs.S12MissingFields as s12
use Rattle.gql_iface_rules.proofs.AlikeTypes.{type_found}
use Rattle.gql_iface_rules.proofs.Members.{Contains-flat_map, Contains-flat_map_from, either_of, first_of_all, nothing_in, one_more}

-- ---- one type

-- a fault of a type by S09 to S15
abbrev pub IsTypeFault : Schema → SchemaType → Fault → Type 0
IsTypeFault s t f = Contains (s09.bad_interface_names s t) f
    ⊎ (Contains (s10.faults_of_type t) f
    ⊎ (Contains (s11.faults_of_type s t) f
    ⊎ (Contains (flat_map s12.missing_fields (implementations_of s t)) f
    ⊎ IsPairFault s (flat_map pairs_of (implementations_of s t)) f)))

-- what some types have at fault, one of them has
abbrev Some_of : Schema → List SchemaType → Fault → Type 0
Some_of s types f = (t : SchemaType) × Contains types t × IsTypeFault s t f

module _ (s : Schema) (types : List SchemaType) (f : Fault) where
  abbrev nine : List Fault
  nine = flat_map (s09.bad_interface_names s) types

  abbrev ten : List Fault
  ten = flat_map s10.faults_of_type types

  abbrev eleven : List Fault
  eleven = flat_map (s11.faults_of_type s) types

  abbrev twelve : List Fault
  twelve = flat_map s12.missing_fields (flat_map (implementations_of s) types)

  of_twelve : Contains twelve f → Some_of s types f
  of_twelve h =
      let r = Contains-flat_map_from s12.missing_fields (flat_map (implementations_of s) types) f h in
      let q = Contains-flat_map_from (implementations_of s) types r.0 r.1 in
      (q.0, q.1, inr (inr (inr (inl (Contains-flat_map s12.missing_fields (implementations_of s q.0) r.0 f q.2 r.2)))))

  pub to_type : IsFaultOn s types f → Some_of s types f
  to_type (inr p) = (p.0, p.1, inr (inr (inr (inr p.2))))
  to_type (inl h) = elim (Contains-append_cases nine (ten ++ (eleven ++ twelve)) f h) [
    | inl a ↦ let r = Contains-flat_map_from (s09.bad_interface_names s) types f a in (r.0, r.1, inl r.2)
    | inr b ↦ elim (Contains-append_cases ten (eleven ++ twelve) f b) [
      | inl a ↦ let r = Contains-flat_map_from s10.faults_of_type types f a in (r.0, r.1, inr (inl r.2))
      | inr c ↦ elim (Contains-append_cases eleven twelve f c) [
        | inl a ↦ let r = Contains-flat_map_from (s11.faults_of_type s) types f a in (r.0, r.1, inr (inr (inl r.2)))
        | inr d ↦ of_twelve d
      ]
    ]
  ]

  pub from_type : Some_of s types f → IsFaultOn s types f
  from_type (t, there, inl a) = inl (Contains-append_left nine (ten ++ (eleven ++ twelve)) f (Contains-flat_map (s09.bad_interface_names s) types t f there a))
  from_type (t, there, inr (inl a)) = inl (Contains-append_right nine (ten ++ (eleven ++ twelve)) f
      (Contains-append_left ten (eleven ++ twelve) f (Contains-flat_map s10.faults_of_type types t f there a)))
  from_type (t, there, inr (inr (inl a))) = inl (Contains-append_right nine (ten ++ (eleven ++ twelve)) f
      (Contains-append_right ten (eleven ++ twelve) f (Contains-append_left eleven twelve f (Contains-flat_map (s11.faults_of_type s) types t f there a))))
  from_type (t, there, inr (inr (inr (inl a)))) =
      let r = Contains-flat_map_from s12.missing_fields (implementations_of s t) f a in
      inl (Contains-append_right nine (ten ++ (eleven ++ twelve)) f
      (Contains-append_right ten (eleven ++ twelve) f (Contains-append_right eleven twelve f
      (Contains-flat_map s12.missing_fields (flat_map (implementations_of s) types) r.0 f (Contains-flat_map (implementations_of s) types t r.0 there r.1) r.2))))
  from_type (t, there, inr (inr (inr (inr p)))) = inr (t, there, p)

-- the faults by S09 to S12, and then those by S13 to S15
pub on_types : (s : Schema) (types : List SchemaType) (one two : List Fault) → one ≡ listed_on s types
    → ((f : Fault) → Contains two f ↔ (Contains one f ⊎ IsFaultOfTypes s types f))
    → (f : Fault) → Contains two f ↔ IsFaultOn s types f
on_types s types one two by_listed by_pairs f = (
  λ h. elim ((by_pairs f).0 h) [ inl l ↦ inl (subst (λ fs. Contains fs f) by_listed l) | inr p ↦ inr p ],
  λ h. elim h [
    | inl l ↦ (by_pairs f).1 (inl (subst (λ fs. Contains fs f) (sym by_listed) l))
    | inr p ↦ (by_pairs f).1 (inr p)
  ],
)

-- ---- the types that are edited

no : (b : Bool) → b ≡ true → b ≡ false → ⊥
no b is not_so = let bad : true ≡ false = sym is ∙ not_so in cc

module _ {A : Type 0} (p : A → Bool) where
  pub to_filter : (xs : List A) (x : A) → Contains xs x → p x ≡ true → Contains (filter p xs) x
  to_filter [] x h is = absurd (nothing_in x h)
  to_filter (y ∷ ys) x h is = by (p y) refl (to_filter ys x)
    where
      by : (b : Bool) → p y ≡ b → (Contains ys x → p x ≡ true → Contains (filter p ys) x) → Contains (filter p (y ∷ ys)) x
      by true at rest = rw at (elim (either_of x y ys h) [
        | inl e ↦ subst (λ z. Contains (y ∷ filter p ys) z) (sym e) (first_of_all y (filter p ys))
        | inr t ↦ one_more x y (filter p ys) (rest t is)
      ])
      by false at rest = rw at (elim (either_of x y ys h) [
        | inl e ↦ absurd (no (p y) (subst (λ z. p z ≡ true) e is) at)
        | inr t ↦ rest t is
      ])

  pub from_filter : (xs : List A) (x : A) → Contains (filter p xs) x → Contains xs x
  from_filter [] x h = absurd (nothing_in x h)
  from_filter (y ∷ ys) x h = by (p y) refl h (from_filter ys x)
    where
      by : (b : Bool) → p y ≡ b → Contains (filter p (y ∷ ys)) x → (Contains (filter p ys) x → Contains ys x) → Contains (y ∷ ys) x
      by true at h rest =
          let g : Contains (y ∷ filter p ys) x = rw at at h in
          elim (either_of x y (filter p ys) g) [
            | inl e ↦ subst (λ z. Contains (y ∷ ys) z) (sym e) (first_of_all y ys)
            | inr t ↦ one_more x y ys (rest t)
          ]
      by false at h rest = let g : Contains (filter p ys) x = rw at at h in one_more x y ys (rest g)

-- a type that is not edited was there before
pub was_there : (names : List (List ℕ)) (old s : Schema) → KeepsOthers names old s → (t : SchemaType) → Contains s.types t
    → Contains (types_named names s) t ⊎ Contains old.types t
was_there names old s keeps t there = by (is_some (find (bytes_eq (name_of t)) names)) refl
  where
    by : (b : Bool) → is_some (find (bytes_eq (name_of t)) names) ≡ b → Contains (types_named names s) t ⊎ Contains old.types t
    by true is = inl (to_filter (λ (u : SchemaType). is_some (find (bytes_eq (name_of u)) names)) s.types t there is)
    by false is = inr (type_found old (name_of t) t (keeps t there is)).0

-- the faults of the edited types are faults of types
pub only_types : (names : List (List ℕ)) (s : Schema) (f : Fault) → IsFaultOn s (types_named names s) f → IsFaultOn s s.types f
only_types names s f h =
    let r = to_type s (types_named names s) f h in
    from_type s s.types f (r.0, from_filter (λ (u : SchemaType). is_some (find (bytes_eq (name_of u)) names)) s.types r.0 r.1, r.2)

-- if no type was at fault, and types that are not edited have no new faults, the faults of types are
-- those of the edited types
pub edited_types : (names : List (List ℕ)) (old s : Schema) → KeepsOthers names old s
    → ((t : SchemaType) (f : Fault) → Contains old.types t → IsTypeFault s t f → IsTypeFault old t f)
    → ((f : Fault) → IsFaultOn old old.types f → ⊥)
    → (f : Fault) → IsFaultOn s s.types f → IsFaultOn s (types_named names s) f
edited_types names old s keeps were none f h =
    let r = to_type s s.types f h in
    elim (was_there names old s keeps r.0 r.1) [
      | inl edited ↦ from_type s (types_named names s) f (r.0, edited, r.2)
      | inr before ↦ absurd (none f (from_type old old.types f (r.0, before, were r.0 f before r.2)))
    ]
