-- The pairs of fields of a type and its interfaces: a name that was met adds none, and what is at
-- fault in some pairs depends on which pairs there are.
use Rattle.std.proofs.Common.{◌≡◌, ◌↔◌, ◌+◌, ◌++◌, ◌<◌, ◌≤◌, ◌||◌, ◌⊎◌, ℕ, List, [], ◌∷◌, Bool, true, false, Option, Some, None, ap, inl, inr, sym, ◌∙◌, subst, refl, length, get_or, take, flat_map, bytes_eq, arith}
use Rattle.std.specs.Prelude.{Contains}
use Rattle.std.specs.Option.{option_map_or}
use Rattle.std.proofs.lemmas.Bool.{false≢true}
use Rattle.std.proofs.lemmas.Grind.{common_steps}
use Rattle.std.proofs.lemmas.List.{take_all, take_more}
use Rattle.std.proofs.lemmas.List.Concat.{flat_map-append}
use Rattle.std.proofs.lemmas.List.Elements.{Contains-append_left, Contains-append_right, Contains-append_cases}
use Rattle.std.proofs.lemmas.List.Folds.{list_any-append}
use Rattle.std.proofs.lemmas.Slice.Eq.{bytes_eq-Decides}
use Rattle.gql_ast.specs.declared.fault.Fault.{Fault}
use Rattle.gql_ast.specs.declared.text.Name.{Name}
use Rattle.gql_built_in.specs.declared.sited.Sited.{Sited}
use Rattle.gql_types.specs.Covariance.{is_among}
use Rattle.gql_types.specs.declared.schema.Schema.{Schema}
use Rattle.gql_types.specs.declared.schema_type.SchemaType.{SchemaType}
use Rattle.gql_iface_rules.specs.Implementing.{FieldPair, implemented_by, implementations_of, interface_named, pairs_of}
use Rattle.gql_iface_rules.specs.Pairing.{IsFaultOfTypes, IsPairFault, IsPaired, pairs_by}
use Rattle.gql_iface_rules.specs.S13MissingArguments as s13
use Rattle.gql_iface_rules.specs.S14ExtraRequiredArguments as s14
use Rattle.gql_iface_rules.specs.S15IncompatibleFieldTypes as s15
use Rattle.gql_iface_rules.proofs.Members.{Contains-flat_map, Contains-flat_map_from, either_of, first_of_all, nothing_in}

-- what is in a list with one more, from the list or from that one
pub more_cases : {X A : Type 0} (f : X → List A) (xs : List X) (x : X) (a : A) → Contains (flat_map f (xs ++ x ∷ [])) a → Contains (flat_map f xs) a ⊎ Contains (f x) a
more_cases f xs x a h = elim (Contains-append_cases (flat_map f xs) (f x ++ []) a (subst (λ ys. Contains ys a) (flat_map-append f xs (x ∷ [])) h)) [
  | inl k ↦ inl k
  | inr k ↦ elim (Contains-append_cases (f x) [] a k) [ inl m ↦ inr m | inr m ↦ absurd (nothing_in a m) ]
]

pub more_before : {X A : Type 0} (f : X → List A) (xs : List X) (x : X) (a : A) → Contains (flat_map f xs) a → Contains (flat_map f (xs ++ x ∷ [])) a
more_before f xs x a h = subst (λ ys. Contains ys a) (sym (flat_map-append f xs (x ∷ []))) (Contains-append_left (flat_map f xs) (f x ++ []) a h)

pub more_last : {X A : Type 0} (f : X → List A) (xs : List X) (x : X) (a : A) → Contains (f x) a → Contains (flat_map f (xs ++ x ∷ [])) a
more_last f xs x a h = subst (λ ys. Contains ys a) (sym (flat_map-append f xs (x ∷ []))) (Contains-append_right (flat_map f xs) (f x ++ []) a (Contains-append_left (f x) [] a h))

-- ---- names that were met

pairs_with : (t : SchemaType) (n m : Sited Name) (o : Option SchemaType)
    → flat_map pairs_of (option_map_or (λ (i : SchemaType). record { of_type = t; name = n; interface = i } ∷ []) o [])
    ≡ flat_map pairs_of (option_map_or (λ (i : SchemaType). record { of_type = t; name = m; interface = i } ∷ []) o [])
pairs_with t n m None = refl
pairs_with t n m (Some i) = refl

-- names of one text have the same pairs
same_pairs : (s : Schema) (t : SchemaType) (n m : Sited Name) → n.node.text ≡ m.node.text → pairs_by s t n ≡ pairs_by s t m
same_pairs s t n m e =
    subst (λ q. pairs_by s t n ≡ flat_map pairs_of (option_map_or (λ (i : SchemaType). record { of_type = t; name = m; interface = i } ∷ []) (interface_named s q) []))
    e (pairs_with t n m (interface_named s n.node.text))

met_first : (s : Schema) (t : SchemaType) (n m : Sited Name) (names : List (Sited Name)) (p : FieldPair) (c : Contains (pairs_by s t n) p)
    → (is_among n.node.text names ≡ true → Contains (flat_map (pairs_by s t) names) p)
    → (b : Bool) → bytes_eq n.node.text m.node.text ≡ b → (b || is_among n.node.text names) ≡ true
    → Contains (flat_map (pairs_by s t) (m ∷ names)) p
met_first s t n m names p c rest true is h = Contains-append_left (pairs_by s t m) (flat_map (pairs_by s t) names) p
    (subst (λ ps. Contains ps p) (same_pairs s t n m ((bytes_eq-Decides n.node.text m.node.text).0 is)) c)
met_first s t n m names p c rest false is h = Contains-append_right (pairs_by s t m) (flat_map (pairs_by s t) names) p (rest h)

-- a name among some others has its pairs among theirs
met_pairs : (s : Schema) (t : SchemaType) (n : Sited Name) (names : List (Sited Name)) (p : FieldPair) → Contains (pairs_by s t n) p
    → is_among n.node.text names ≡ true → Contains (flat_map (pairs_by s t) names) p
met_pairs s t n [] p c h = absurd (false≢true h)
met_pairs s t n (m ∷ names) p c h = met_first s t n m names p c (met_pairs s t n names p c) (bytes_eq n.node.text m.node.text) refl h

more_among : (q : List ℕ) (names : List (Sited Name)) (n : Sited Name) → is_among q (names ++ n ∷ []) ≡ (is_among q names || (bytes_eq q n.node.text || false))
more_among q names n = list_any-append (λ (n : Sited Name). bytes_eq q n.node.text) names (n ∷ [])

or_true : (x : Bool) → (x || (true || false)) ≡ true
or_true x = grind (arith, common_steps)

or_false : (x : Bool) → x ≡ (x || (false || false))
or_false x = grind (arith, common_steps)

-- which names were met, with one more that was met
still_met : (has : List ℕ → Bool) (names : List (Sited Name)) (n : Sited Name) → has n.node.text ≡ true → ((q : List ℕ) → has q ≡ is_among q names)
    → (q : List ℕ) (b : Bool) → bytes_eq q n.node.text ≡ b → has q ≡ (is_among q names || (b || false))
still_met has names n known was q true is =
    let same : q ≡ n.node.text = (bytes_eq-Decides q n.node.text).0 is in
    subst (λ r. has r ≡ true) (sym same) known ∙ sym (or_true (is_among q names))
still_met has names n known was q false is = was q ∙ or_false (is_among q names)

-- with one name more, which was met, all is as before
pub again : (s : Schema) (t : SchemaType) (n : Sited Name) (names : List (Sited Name)) (has : List ℕ → Bool) (pairs : List FieldPair)
    → has n.node.text ≡ true → IsPaired s t names has pairs → IsPaired s t (names ++ n ∷ []) has pairs
again s t n names has pairs known was = record {
  met = λ q. subst (λ b. has q ≡ b) (sym (more_among q names n)) (still_met has names n known was.met q (bytes_eq q n.node.text) refl);
  members = λ p. (
    λ c. more_before (pairs_by s t) names n p ((was.members p).0 c),
    λ c. elim (more_cases (pairs_by s t) names n p c) [
      | inl k ↦ (was.members p).1 k
      | inr k ↦ (was.members p).1 (met_pairs s t n names p k (subst (λ b. b ≡ true) (was.met n.node.text) known))
    ],
  );
}

or_last : (x a b : Bool) → x ≡ (a || b) → x ≡ (a || (b || false))
or_last x a b h = grind (arith, common_steps, h)

-- with one name more, which is met now, its pairs are there too
pub fresh : (s : Schema) (t : SchemaType) (n : Sited Name) (names : List (Sited Name)) (has new : List ℕ → Bool) (pairs after : List FieldPair)
    → ((q : List ℕ) → new q ≡ (has q || bytes_eq q n.node.text)) → after ≡ pairs ++ pairs_by s t n
    → IsPaired s t names has pairs → IsPaired s t (names ++ n ∷ []) new after
fresh s t n names has new pairs after news is was = record {
  met = λ q. subst (λ b. new q ≡ b) (sym (more_among q names n))
      (or_last (new q) (is_among q names) (bytes_eq q n.node.text) (subst (λ b. new q ≡ (b || bytes_eq q n.node.text)) (was.met q) (news q)));
  members = λ p. (
    λ c. elim (Contains-append_cases pairs (pairs_by s t n) p (subst (λ ps. Contains ps p) is c)) [
      | inl k ↦ more_before (pairs_by s t) names n p ((was.members p).0 k)
      | inr k ↦ more_last (pairs_by s t) names n p k
    ],
    λ c. subst (λ ps. Contains ps p) (sym is) (elim (more_cases (pairs_by s t) names n p c) [
      | inl k ↦ Contains-append_left pairs (pairs_by s t n) p ((was.members p).1 k)
      | inr k ↦ Contains-append_right pairs (pairs_by s t n) p k
    ]),
  );
}

-- with the next name of a list
pub next_paired : (s : Schema) (t : SchemaType) (names : List (Sited Name)) (i : ℕ) (x : Sited Name) (has : List ℕ → Bool) (pairs : List FieldPair)
    → i < length names → get_or names i x ≡ x → IsPaired s t (take i names ++ x ∷ []) has pairs → IsPaired s t (take (i + 1) names) has pairs
next_paired s t names i x has pairs within item h =
    let e : take (i + 1) names ≡ take i names ++ x ∷ [] = rw (take_more names i x within, item) refl in
    subst (λ ns. IsPaired s t ns has pairs) (sym e) h

-- lists of lists, one after the other
nested : {X Y A : Type 0} (g : Y → List A) (f : X → List Y) (xs : List X) → flat_map g (flat_map f xs) ≡ flat_map (λ x. flat_map g (f x)) xs
nested g f [] = refl
nested g f (x ∷ xs) = flat_map-append g (f x) (flat_map f xs) ∙ ap (λ r. flat_map g (f x) ++ r) (nested g f xs)

-- once all names are met
pub all_paired : (s : Schema) (t : SchemaType) (names : List (Sited Name)) (i : ℕ) (has : List ℕ → Bool) (pairs : List FieldPair)
    → names ≡ t.interfaces → length names ≤ i → IsPaired s t (take i names) has pairs
    → (p : FieldPair) → Contains pairs p ↔ Contains (flat_map pairs_of (implementations_of s t)) p
all_paired s t names i has pairs is end h p =
    subst (λ ps. Contains pairs p ↔ Contains ps p) (sym (nested pairs_of (implemented_by s t) t.interfaces))
    (subst (λ ns. Contains pairs p ↔ Contains (flat_map (pairs_by s t) ns) p) (take_all i names end ∙ is) (h.members p))

-- ---- faults of pairs

-- what is added for each of some pairs, by other pairs with the same members
by_members : {A : Type 0} (f : FieldPair → List A) (xs ys : List FieldPair) → ((p : FieldPair) → Contains xs p ↔ Contains ys p)
    → (a : A) → Contains (flat_map f xs) a ↔ Contains (flat_map f ys) a
by_members f xs ys same a = (
  λ h. let r = Contains-flat_map_from f xs a h in Contains-flat_map f ys r.0 a ((same r.0).0 r.1) r.2,
  λ h. let r = Contains-flat_map_from f ys a h in Contains-flat_map f xs r.0 a ((same r.0).1 r.1) r.2,
)

added_to : {A : Type 0} (old more new : List A) (a : A) → new ≡ old ++ more → Contains new a ↔ (Contains old a ⊎ Contains more a)
added_to old more new a is = (
  λ h. Contains-append_cases old more a (subst (λ ys. Contains ys a) is h),
  λ h. subst (λ ys. Contains ys a) (sym is) (elim h [ inl k ↦ Contains-append_left old more a k | inr k ↦ Contains-append_right old more a k ]),
)

-- the three rules on these pairs, one after the other
pub pairs_checked : (s : Schema) (xs ys : List FieldPair) (old one two new : List Fault) → ((p : FieldPair) → Contains xs p ↔ Contains ys p)
    → one ≡ old ++ flat_map s13.missing_arguments xs
    → two ≡ one ++ flat_map s14.extra_required_arguments xs
    → new ≡ two ++ flat_map (s15.incompatible_field_type s) xs
    → (f : Fault) → Contains new f ↔ (Contains old f ⊎ IsPairFault s ys f)
pairs_checked s xs ys old one two new same by13 by14 by15 f =
    let e13 = added_to old (flat_map s13.missing_arguments xs) one f by13 in
    let e14 = added_to one (flat_map s14.extra_required_arguments xs) two f by14 in
    let e15 = added_to two (flat_map (s15.incompatible_field_type s) xs) new f by15 in
    let m13 = by_members s13.missing_arguments xs ys same f in
    let m14 = by_members s14.extra_required_arguments xs ys same f in
    let m15 = by_members (s15.incompatible_field_type s) xs ys same f in (
      λ h. elim (e15.0 h) [
        | inr k ↦ inr (inr (inr (m15.0 k)))
        | inl h2 ↦ elim (e14.0 h2) [
          | inr k ↦ inr (inr (inl (m14.0 k)))
          | inl h1 ↦ elim (e13.0 h1) [ inl o ↦ inl o | inr k ↦ inr (inl (m13.0 k)) ]
        ]
      ],
      λ h. elim h [
        | inl o ↦ e15.1 (inl (e14.1 (inl (e13.1 (inl o)))))
        | inr k ↦ elim k [
          | inl k13 ↦ e15.1 (inl (e14.1 (inl (e13.1 (inr (m13.1 k13))))))
          | inr k2 ↦ elim k2 [
            | inl k14 ↦ e15.1 (inl (e14.1 (inr (m14.1 k14))))
            | inr k15 ↦ e15.1 (inr (m15.1 k15))
          ]
        ]
      ],
    )

-- ---- types one after the other

one_more_type : (types : List SchemaType) (t u : SchemaType) → Contains types u → Contains (types ++ t ∷ []) u
one_more_type types t u h = Contains-append_left types (t ∷ []) u h

last_type : (types : List SchemaType) (t : SchemaType) → Contains (types ++ t ∷ []) t
last_type types t = Contains-append_right types (t ∷ []) t (first_of_all t [])

-- an element of a list of one
only_one : (t u : SchemaType) → Contains (t ∷ []) u → u ≡ t
only_one t u h = elim (either_of u t [] h) [ inl e ↦ e | inr k ↦ absurd (nothing_in u k) ]

pub types_more : (s : Schema) (types : List SchemaType) (i : ℕ) (t : SchemaType) (start before after : List Fault)
    → i < length types → get_or types i t ≡ t
    → ((f : Fault) → Contains before f ↔ (Contains start f ⊎ IsFaultOfTypes s (take i types) f))
    → ((f : Fault) → Contains after f ↔ (Contains before f ⊎ IsPairFault s (flat_map pairs_of (implementations_of s t)) f))
    → (f : Fault) → Contains after f ↔ (Contains start f ⊎ IsFaultOfTypes s (take (i + 1) types) f)
types_more s types i t start before after within item was is f =
    let e : take (i + 1) types ≡ take i types ++ t ∷ [] = rw (take_more types i t within, item) refl in
    subst (λ ts. Contains after f ↔ (Contains start f ⊎ IsFaultOfTypes s ts f)) (sym e) (
      λ h. elim ((is f).0 h) [
        | inr k ↦ inr (t, last_type (take i types) t, k)
        | inl b ↦ elim ((was f).0 b) [ inl o ↦ inl o | inr k ↦ inr (k.0, one_more_type (take i types) t k.0 k.1, k.2) ]
      ],
      λ h. elim h [
        | inl o ↦ (is f).1 (inl ((was f).1 (inl o)))
        | inr k ↦ elim (Contains-append_cases (take i types) (t ∷ []) k.0 k.1) [
          | inl c ↦ (is f).1 (inl ((was f).1 (inr (k.0, c, k.2))))
          | inr c ↦ (is f).1 (inr (subst (λ u. IsPairFault s (flat_map pairs_of (implementations_of s u)) f) (only_one t k.0 c) k.2))
        ]
      ],
    )

-- what is added for the pairs of each type is what is added for the pairs of all
nested_to : (s : Schema) (g : FieldPair → List Fault) (types : List SchemaType) (f : Fault)
    → Contains (flat_map g (flat_map pairs_of (flat_map (implementations_of s) types))) f
    → (t : SchemaType) × Contains types t × Contains (flat_map g (flat_map pairs_of (implementations_of s t))) f
nested_to s g types f h =
    let a = Contains-flat_map_from g (flat_map pairs_of (flat_map (implementations_of s) types)) f h in
    let b = Contains-flat_map_from pairs_of (flat_map (implementations_of s) types) a.0 a.1 in
    let c = Contains-flat_map_from (implementations_of s) types b.0 b.1 in
    (c.0, c.1, Contains-flat_map g (flat_map pairs_of (implementations_of s c.0)) a.0 f (Contains-flat_map pairs_of (implementations_of s c.0) b.0 a.0 c.2 b.2) a.2)

nested_from : (s : Schema) (g : FieldPair → List Fault) (types : List SchemaType) (f : Fault) (t : SchemaType)
    → Contains types t → Contains (flat_map g (flat_map pairs_of (implementations_of s t))) f
    → Contains (flat_map g (flat_map pairs_of (flat_map (implementations_of s) types))) f
nested_from s g types f t h k =
    let a = Contains-flat_map_from g (flat_map pairs_of (implementations_of s t)) f k in
    let b = Contains-flat_map_from pairs_of (implementations_of s t) a.0 a.1 in
    Contains-flat_map g (flat_map pairs_of (flat_map (implementations_of s) types)) a.0 f
    (Contains-flat_map pairs_of (flat_map (implementations_of s) types) b.0 a.0 (Contains-flat_map (implementations_of s) types t b.0 h b.1) b.2) a.2

pub of_types : (s : Schema) (f : Fault) → IsFaultOfTypes s s.types f → Contains (s13.faults s) f ⊎ (Contains (s14.faults s) f ⊎ Contains (s15.faults s) f)
of_types s f (t, h, inl k) = inl (nested_from s s13.missing_arguments s.types f t h k)
of_types s f (t, h, inr (inl k)) = inr (inl (nested_from s s14.extra_required_arguments s.types f t h k))
of_types s f (t, h, inr (inr k)) = inr (inr (nested_from s (s15.incompatible_field_type s) s.types f t h k))

pub by_type_13 : (s : Schema) (f : Fault) → Contains (s13.faults s) f → IsFaultOfTypes s s.types f
by_type_13 s f h = let r = nested_to s s13.missing_arguments s.types f h in (r.0, r.1, inl r.2)

pub by_type_14 : (s : Schema) (f : Fault) → Contains (s14.faults s) f → IsFaultOfTypes s s.types f
by_type_14 s f h = let r = nested_to s s14.extra_required_arguments s.types f h in (r.0, r.1, inr (inl r.2))

pub by_type_15 : (s : Schema) (f : Fault) → Contains (s15.faults s) f → IsFaultOfTypes s s.types f
by_type_15 s f h = let r = nested_to s (s15.incompatible_field_type s) s.types f h in (r.0, r.1, inr (inr r.2))
