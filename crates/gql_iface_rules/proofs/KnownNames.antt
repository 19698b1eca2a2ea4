-- What the rules on interfaces ask of a type that an edit leaves as it is: the same as before, if they
-- asked about names that had types.
use Rattle.std.proofs.Common.{◌≡◌, ◌∙◌, ◌↔◌, inl, inr, ◌&&◌, ◌++◌, ◌+◌, ◌<◌, length, get_or, take, ℕ, List, [], ◌∷◌, Bool, true, false, Option, Some, None, flat_map, Contains, refl, sym, ap, ap₂, subst}
use Rattle.std.specs.Prelude.{IsTrue, is_some, option_and_then, if◌then◌else◌}
use Rattle.std.specs.List.{All, AllPass, list_all}
use Rattle.std.specs.Option.{option_map_or}
use Rattle.std.proofs.lemmas.List.{take_more}
use Rattle.std.proofs.lemmas.List.Elements.{All-contains, Contains-append_left, Contains-append_right, Contains-get_or}
use Rattle.std.proofs.lemmas.List.Sums.{AllPass-from_list_all, list_all-from_AllPass}
use Rattle.gql_ast.specs.declared.fault.Fault.{Fault}
use Rattle.gql_ast.specs.declared.rule.Rule.TheVariants as rule
use Rattle.gql_ast.specs.declared.text.Name.{Name}
use Rattle.gql_ast.specs.declared.type_system.FieldDefinition.{FieldDefinition}
use Rattle.gql_built_in.specs.declared.sited.Sited.{Sited}
use Rattle.gql_faults.specs.Faults.{fault_at, fault_between, fault_of, own_name_of, place_of, where_known}
use Rattle.gql_faults.specs.Names.{repeated_faults}
use Rattle.gql_types.specs.Covariance.{covariant, is_among, nullable}
use Rattle.gql_types.specs.Kinds.{same_kind}
use Rattle.gql_types.specs.Schemas.{kind_named, type_named}
use Rattle.gql_types.specs.Written.{Written, named, listed, required, written}
use Rattle.gql_types.specs.declared.kind.TypeKind.{TypeKind}
use Rattle.gql_types.specs.declared.kind.TypeKind.TheVariants as kind
use Rattle.gql_types.specs.declared.schema.Schema.{Schema}
use Rattle.gql_types.specs.declared.schema_type.SchemaType.{SchemaType}
use Rattle.gql_iface_rules.specs.Alike.{IsKept, KeepsInterfaces}
use Rattle.gql_iface_rules.specs.Implementing.{FieldPair, Implements, as_interface, implemented_by, implementations_of, interface_named, pairs_of}
use Rattle.gql_iface_rules.specs.KnownNames.{AsksOfKnown, is_answered, is_known}
use Rattle.gql_iface_rules.specs.Pairing.{IsPairFault}
use Rattle.gql_iface_rules.specs.S09BadInterfaceNames as s09
use Rattle.gql_iface_rules.specs.S11UndeclaredInterfaces as s11
use Rattle.gql_iface_rules.specs.S12MissingFields as s12
use Rattle.gql_iface_rules.specs.S15IncompatibleFieldTypes as s15
use Rattle.gql_iface_rules.proofs.AlikeTypes.{type_found}
use Rattle.gql_iface_rules.proofs.Members.{Contains-flat_map_from, either_of, first_of_all, nothing_in, one_more}
use Rattle.gql_iface_rules.proofs.OnTypes.{IsTypeFault}
use Rattle.gql_iface_rules.proofs.S19Plain.{all_more}

-- ---- lists

-- walks that give the same for each member give the same
same_walk : {X A : Type 0} (f g : X → List A) (xs : List X) → ((x : X) → Contains xs x → f x ≡ g x) → flat_map f xs ≡ flat_map g xs
same_walk f g [] same = refl
same_walk f g (x ∷ xs) same = ap₂ (λ ys zs. ys ++ zs) (same x (first_of_all x xs)) (same_walk f g xs (λ y there. same y (one_more y x xs there)))

pub all_of : {A : Type 0} (P : A → Type 0) (xs : List A) → ((x : A) → Contains xs x → P x) → All P xs
all_of P xs each = λ k d lt. each (get_or xs k d) (Contains-get_or xs k d lt)

pub both : (a b : Bool) → (a && b) ≡ true → (a ≡ true) × (b ≡ true)
both true true is = (refl, refl)
both true false is = absurd (cc is)
both false b is = absurd (cc is)

both_from : (a b : Bool) → a ≡ true → b ≡ true → (a && b) ≡ true
both_from a b is is_too = rw (is, is_too) refl

-- ---- what is kept of what was known

kept : {A : Type 0} (m : Bool) (o p : Option A) → IsKept m o p → (IsTrue m → is_some o ≡ true) → o ≡ p
kept m o p (inr same) known = same
kept m o p (inl (may, none)) known = let bad : false ≡ true = subst (λ x. is_some x ≡ true) none (known may) in absurd (cc bad)

-- a name whose interface is known is that of a type
interface_found : (s : Schema) (q : List ℕ) (i : SchemaType) → interface_named s q ≡ Some i → Contains s.types i
interface_found s q i is = by (type_named s q) refl is
  where
    its : (u : SchemaType) (b : Bool) → same_kind u.kind kind.Interface ≡ b → as_interface u ≡ Some i → u ≡ i
    its u true at e = let same : Some u ≡ Some i = rw at at e in cc same
    its u false at e = let bad : None ≡ Some i = rw at at e in absurd (cc bad)

    by : (o : Option SchemaType) → type_named s q ≡ o → option_and_then as_interface (type_named s q) ≡ Some i → Contains s.types i
    by None at e = let bad : None ≡ Some i = rw at at e in absurd (cc bad)
    by (Some u) at e =
        let its_own : as_interface u ≡ Some i = rw at at e in
        subst (λ x. Contains s.types x) (its u (same_kind u.kind kind.Interface) refl its_own) (type_found s q u at).0

module _ (m : Bool) (old s : Schema) (keeps : KeepsInterfaces m old s) (asked : IsTrue m → All (AsksOfKnown old) old.types) where
  listed_known : (t : SchemaType) → Contains old.types t → (n : Sited Name) → Contains t.interfaces n → IsTrue m → is_known old n ≡ true
  listed_known t there n h may =
      All-contains (λ (x : Sited Name). is_known old x ≡ true) t.interfaces n (All-contains (AsksOfKnown old) old.types t (asked may) there).listed h

  same_kinds : (t : SchemaType) → Contains old.types t → (n : Sited Name) → Contains t.interfaces n → kind_named old n.node.text ≡ kind_named s n.node.text
  same_kinds t there n h = kept m (kind_named old n.node.text) (kind_named s n.node.text) (keeps.kinds n.node.text) (listed_known t there n h)

  same_interfaces : (t : SchemaType) → Contains old.types t → (n : Sited Name) → Contains t.interfaces n → interface_named old n.node.text ≡ interface_named s n.node.text
  same_interfaces t there n h = elim (keeps.interfaces n.node.text) [
    | inl none ↦ let bad : false ≡ true = subst (λ x. is_some x ≡ true) none.1 (listed_known t there n h none.0) in absurd (cc bad)
    | inr same ↦ same
  ]

  kept_covariance : (t base : Written) → IsKept m (covariant old t base) (covariant s t base)
  kept_covariance (required t) base = kept_covariance t (nullable base)
  kept_covariance (listed t) (listed base) = kept_covariance t base
  kept_covariance (listed t) (required base) = inr refl
  kept_covariance (listed t) (named n) = inr refl
  kept_covariance (named n) (named base) = keeps.stand n base
  kept_covariance (named n) (required base) = inr refl
  kept_covariance (named n) (listed base) = inr refl

  -- a type that is there before
  module _ (t : SchemaType) (there : Contains old.types t) where
    same_nine : s09.bad_interface_names s t ≡ s09.bad_interface_names old t
    same_nine = ap (λ (fs : List Fault). fs ++ repeated_faults rule.S09 t.interfaces)
        (same_walk (s09.unless_interface s) (s09.unless_interface old) t.interfaces (λ n h.
        ap (λ o. where_known o (λ (k : TypeKind). if same_kind k kind.Interface then [] else fault_of rule.S09 n)) (sym (same_kinds t there n h))))

    same_implementations : implementations_of s t ≡ implementations_of old t
    same_implementations = same_walk (implemented_by s t) (implemented_by old t) t.interfaces (λ n h.
        ap (λ o. option_map_or (λ (i : SchemaType). record { of_type = t; name = n; interface = i } ∷ []) o []) (sym (same_interfaces t there n h)))

    interface_there : (i : Implements) → Contains (implementations_of old t) i → Contains old.types i.interface
    interface_there i h =
        let r = Contains-flat_map_from (implemented_by old t) t.interfaces i h in
        by r.0 (interface_named old r.0.node.text) refl r.2
      where
        by : (n : Sited Name) (o : Option SchemaType) → interface_named old n.node.text ≡ o → Contains (implemented_by old t n) i → Contains old.types i.interface
        by n None at c = let none : Contains [] i = rw at at c in absurd (nothing_in i none)
        by n (Some u) at c =
            let one : Contains (record { of_type = t; name = n; interface = u } ∷ []) i = rw at at c in
            elim (either_of i (record { of_type = t; name = n; interface = u }) [] one) [
              | inl e ↦ subst (λ (x : Implements). Contains old.types x.interface) (sym e) (interface_found old n.node.text u at)
              | inr none ↦ absurd (nothing_in i none)
            ]

    same_eleven : s11.faults_of_type s t ≡ s11.faults_of_type old t
    same_eleven = ap (λ (is : List Implements). flat_map (s11.undeclared_interfaces s t.interfaces) is) same_implementations
        ∙ same_walk (s11.undeclared_interfaces s t.interfaces) (s11.undeclared_interfaces old t.interfaces) (implementations_of old t) (λ i h.
        same_walk (s11.unless_declared s t.interfaces i.name) (s11.unless_declared old t.interfaces i.name) i.interface.interfaces (λ j g.
        ap (λ o. where_known o (λ (x : SchemaType). if is_among j.node.text t.interfaces then [] else fault_at rule.S11 j.node.text (place_of i.name)))
        (sym (same_interfaces i.interface (interface_there i h) j g))))

    same_answer : (p : FieldPair) → Contains (flat_map pairs_of (implementations_of old t)) p
        → covariant old (written p.own.node.of_type) (written p.expected.node.of_type) ≡ covariant s (written p.own.node.of_type) (written p.expected.node.of_type)
    same_answer p h = kept m (covariant old (written p.own.node.of_type) (written p.expected.node.of_type)) (covariant s (written p.own.node.of_type) (written p.expected.node.of_type))
        (kept_covariance (written p.own.node.of_type) (written p.expected.node.of_type))
        (λ may. (All-contains (AsksOfKnown old) old.types t (asked may) there).pairs p h)

    same_fifteen : flat_map (s15.incompatible_field_type s) (flat_map pairs_of (implementations_of old t)) ≡ flat_map (s15.incompatible_field_type old) (flat_map pairs_of (implementations_of old t))
    same_fifteen = same_walk (s15.incompatible_field_type s) (s15.incompatible_field_type old) (flat_map pairs_of (implementations_of old t)) (λ p h.
        ap (λ o. if s15.is_no o then fault_between rule.S15 p.expected.node.name.text
        (place_of (own_name_of (λ (f : FieldDefinition). f.name) p.own))
        (place_of (own_name_of (λ (f : FieldDefinition). f.name) p.expected)) else []) (sym (same_answer p h)))

    same_pairs : (f : Fault) → IsPairFault s (flat_map pairs_of (implementations_of s t)) f → IsPairFault old (flat_map pairs_of (implementations_of old t)) f
    same_pairs f h =
        let moved = subst (λ (is : List Implements). IsPairFault s (flat_map pairs_of is) f) same_implementations h in
        elim moved [
          | inl a ↦ inl a
          | inr b ↦ elim b [ inl a ↦ inr (inl a) | inr a ↦ inr (inr (subst (λ (fs : List Fault). Contains fs f) same_fifteen a)) ]
        ]

    -- it has the same faults after
    pub same_faults : (f : Fault) → IsTypeFault s t f → IsTypeFault old t f
    same_faults f (inl h) = inl (subst (λ fs. Contains fs f) same_nine h)
    same_faults f (inr (inl h)) = inr (inl h)
    same_faults f (inr (inr (inl h))) = inr (inr (inl (subst (λ fs. Contains fs f) same_eleven h)))
    same_faults f (inr (inr (inr (inl h)))) =
        inr (inr (inr (inl (subst (λ (is : List Implements). Contains (flat_map s12.missing_fields is) f) same_implementations h))))
    same_faults f (inr (inr (inr (inr h)))) = inr (inr (inr (inr (same_pairs f h))))

    -- the rules ask of it about names that have types, if they did so before
    pub still_known : AsksOfKnown old t → AsksOfKnown s t
    still_known was = record {
      listed = all_of (λ (n : Sited Name). is_known s n ≡ true) t.interfaces (λ n h.
          subst (λ o. is_some o ≡ true) (same_kinds t there n h) (All-contains (λ (x : Sited Name). is_known old x ≡ true) t.interfaces n was.listed h));
      pairs = λ p h.
          let before = subst (λ (is : List Implements). Contains (flat_map pairs_of is) p) same_implementations h in
          subst (λ o. is_some o ≡ true) (same_answer p before) (was.pairs p before);
    }

-- ---- what the code finds

module _ (s : Schema) (t : SchemaType) where
  -- of one type
  pub known_by : (names : List (Sited Name)) (xs : List FieldPair) (answers names_known : Bool) → names ≡ t.interfaces
      → answers ≡ list_all (is_answered s) xs → names_known ≡ list_all (is_known s) names
      → ((p : FieldPair) → Contains xs p ↔ Contains (flat_map pairs_of (implementations_of s t)) p)
      → (answers && names_known) ≡ true ↔ AsksOfKnown s t
  known_by names xs answers names_known its by_pairs by_names same = (
    λ is.
        let k = both answers names_known is in record {
          listed = subst (λ ns. AllPass (is_known s) ns) its (AllPass-from_list_all (is_known s) names (sym by_names ∙ k.1));
          pairs = λ p h. All-contains (λ (x : FieldPair). is_answered s x ≡ true) xs p (AllPass-from_list_all (is_answered s) xs (sym by_pairs ∙ k.0)) ((same p).1 h);
        },
    λ asks. both_from answers names_known
        (by_pairs ∙ list_all-from_AllPass (is_answered s) xs (all_of (λ (x : FieldPair). is_answered s x ≡ true) xs (λ p h. asks.pairs p ((same p).0 h))))
        (by_names ∙ list_all-from_AllPass (is_known s) names (subst (λ ns. AllPass (is_known s) ns) (sym its) asks.listed)),
  )

-- of one type more
pub known_more : (s : Schema) (types : List SchemaType) (i : ℕ) (t : SchemaType) (before now : Bool) → i < length types → get_or types i t ≡ t
    → (before ≡ true ↔ All (AsksOfKnown s) (take i types)) → (now ≡ true ↔ AsksOfKnown s t)
    → (before && now) ≡ true ↔ All (AsksOfKnown s) (take (i + 1) types)
known_more s types i t before now within item was is =
    let e : take (i + 1) types ≡ take i types ++ t ∷ [] = take_more types i t within ∙ ap (λ z. take i types ++ z ∷ []) item in (
      λ h. let k = both before now h in all_more (AsksOfKnown s) types i t within item (was.0 k.0) (is.0 k.1),
      λ h.
          let all = subst (λ ts. All (AsksOfKnown s) ts) e h in
          both_from before now
          (was.1 (all_of (AsksOfKnown s) (take i types) (λ u c. All-contains (AsksOfKnown s) (take i types ++ t ∷ []) u all (Contains-append_left (take i types) (t ∷ []) u c))))
          (is.1 (All-contains (AsksOfKnown s) (take i types ++ t ∷ []) t all (Contains-append_right (take i types) (t ∷ []) t (first_of_all t [])))),
    )
