-- The list that the code makes has just the faults of the definition, each once.
use Rattle.std.specs.Prelude.{◌≡◌, ◌≢◌, ◌⊎◌, ℕ, List, [], ◌∷◌, ◌++◌, map, flat_map, Bool, true, false, ◌||◌, bytes_eq, Option, Some, None, Contains, refl, if◌then◌else◌}
use Rattle.std.specs.List.{list_any, IsDistinct, AllPairs}
use Rattle.std.specs.Cmp.{IsEquivalence, decided}
use Rattle.std.proofs.Common.{ap, sym, ◌∙◌, subst, inl, inr, true≢false}
use Rattle.std.proofs.lemmas.Map.Keys.{IsDistinct-push}
use Rattle.std.proofs.lemmas.Slice.Eq.{bytes_eq-Decides}
use Rattle.std.proofs.lemmas.Map.Made.{AllPairs-from_IsDistinct}
use Rattle.indexmap.specs.IndexSet.{insert_key, insert_all}
use Rattle.gql_ast.specs.declared.definition.Definition.{Definition}
use Rattle.gql_ast.specs.declared.definition.Tree.{Tree}
use Rattle.gql_ast.specs.declared.definition.Tree.TheVariants as tree
use Rattle.gql_ast.specs.declared.executable.Operation.{Operation}
use Rattle.gql_ast.specs.declared.executable.OperationKind.TheVariants as operation
use Rattle.gql_facts.specs.ListMembers.{Contains-nil, Contains-here, Contains-flat_map, Contains-flat_map_from, either}
use Rattle.gql_facts.specs.Members.{Lists}
use Rattle.gql_facts.specs.Nodes.{root_in}
use Rattle.gql_facts.specs.Worlds.{Facts}
use Rattle.gql_facts.specs.declared.fact.Fact.{Fact}
use Rattle.gql_facts.specs.declared.fact.Fact.TheVariants as fact
use Rattle.gql_facts.specs.declared.key.Key.TheVariants as key
use Rattle.gql_single_root.specs.RootFaults.{is_fault, is_fault_decides}
use Rattle.gql_single_root.specs.V30SingleRootField as rule
use Rattle.gql_single_root.specs.V30SingleRootField.{IsFault, IsSingleRootFault, of_subscription, fault_of, fault_of_none, is_introspection, AtRoot}
use Rattle.gql_single_root.specs.Walks.{Found, IsFaultOf, several, introspection, none, AreSeveral, IsRootField, found_of, field_faults, name_of, in_file}
use Rattle.gql_single_root.specs.declared.fault.RootFault.{RootFault}
use Rattle.gql_single_root.specs.declared.walk.RootField.{RootField}
use Rattle.gql_single_root.proofs.Lists.{all_from, all_new, inserted, inserted_from, one}

-- ---- faults of fields

when : (b : Bool) (z x : RootFault) → Contains (if b then z ∷ [] else []) x → (b ≡ true) × (x ≡ z)
when true z x h = (refl, one z x h)
when false z x h = absurd (Contains-nil x h)

so : (b : Bool) (z : RootFault) → b ≡ true → Contains (if b then z ∷ [] else []) z
so b z e = subst (λ c. Contains (if c then z ∷ [] else []) z) (sym e) (Contains-here z [])

or_cases : (a b : Bool) → (a || b) ≡ true → (a ≡ true) ⊎ (b ≡ true)
or_cases true b e = inl refl
or_cases false b e = inr e

or_left : (a b : Bool) → a ≡ true → (a || b) ≡ true
or_left a b e = rw e refl

or_right : (a b : Bool) → b ≡ true → (a || b) ≡ true
or_right true b e = refl
or_right false b e = e

module _ (fields : List RootField) (file : List ℕ) (o : Operation) (b : Bool)
    (there : b ≡ true → AreSeveral (map found_of fields)) (back : AreSeveral (map found_of fields) → b ≡ true) (keys : List RootFault)
    (all : keys ≡ insert_all is_fault [] (flat_map (field_faults b) (map found_of fields))) where
  abbrev xs : List Found
  xs = map found_of fields

  field_sound : (x : RootFault) → Contains keys x → IsFaultOf fields file o x
  field_sound x h = elim (all_from is_fault is_fault_decides [] (flat_map (field_faults b) xs) x (subst (λ l. Contains l x) all h)) [
    | inl n ↦ absurd (Contains-nil x n)
    | inr c ↦
        let r = Contains-flat_map_from (field_faults b) xs x c in
        let y = r.0 in
        let w = when (b || is_introspection y.field) (fault_of y.at y.field) x r.2 in
        elim (or_cases b (is_introspection y.field) w.0) [
          | inl t ↦ subst (IsFaultOf fields file o) (sym w.1) (several r.1 (there t))
          | inr i ↦ subst (IsFaultOf fields file o) (sym w.1) (introspection r.1 i)
        ]
  ]

  field_has : (y : Found) → Contains xs y → (b || is_introspection y.field) ≡ true → Contains keys (fault_of y.at y.field)
  field_has y c e = subst (λ l. Contains l (fault_of y.at y.field)) (sym all)
      (all_new is_fault is_fault_decides [] (flat_map (field_faults b) xs) (fault_of y.at y.field)
      (Contains-flat_map (field_faults b) xs y (fault_of y.at y.field) c (so (b || is_introspection y.field) (fault_of y.at y.field) e)))

  pub of_some : (z : Found) → Contains xs z → Lists keys (IsFaultOf fields file o)
  of_some z there_is = record { sound = λ x h. field_sound x h; complete = λ x h. complete x h } where
    complete : (x : RootFault) → IsFaultOf fields file o x → Contains keys x
    complete x (several {x = y} c t) = field_has y c (or_left b (is_introspection y.field) (back t))
    complete x (introspection {x = y} c i) = field_has y c (or_right b (is_introspection y.field) i)
    complete x (none absent) = absurd (absent z there_is)

  pub of_none : (new : List RootFault) → xs ≡ [] → new ≡ insert_key is_fault keys (fault_of_none file o) → Lists new (IsFaultOf fields file o)
  of_none new empty is = record { sound = λ x h. sound x h; complete = λ x h. complete x h } where
    no_field : (y : Found) → Contains xs y → ⊥
    no_field y c = Contains-nil y (subst (λ l. Contains l y) empty c)

    sound : (x : RootFault) → Contains new x → IsFaultOf fields file o x
    sound x h = elim (inserted_from is_fault is_fault_decides keys (fault_of_none file o) x (subst (λ l. Contains l x) is h)) [
      | inl k ↦ field_sound x k
      | inr e ↦ subst (IsFaultOf fields file o) (sym e) (none no_field)
    ]

    complete : (x : RootFault) → IsFaultOf fields file o x → Contains new x
    complete x (several {x = y} c t) = absurd (no_field y c)
    complete x (introspection {x = y} c i) = absurd (no_field y c)
    complete x (none absent) = subst (λ l. Contains l (fault_of_none file o)) (sym is) (inserted is_fault is_fault_decides keys (fault_of_none file o))

-- ---- each once

abbrev laws : IsEquivalence is_fault
laws = decided is_fault is_fault_decides

distinct_more : (o : List RootFault) (k : RootFault) → IsDistinct is_fault o → IsDistinct is_fault (insert_key is_fault o k)
distinct_more o k d = elim (either (list_any (is_fault k) o)) [
  | inl q ↦ subst (λ b. IsDistinct is_fault (if b then o else o ++ k ∷ [])) (sym q) d
  | inr q ↦ subst (λ b. IsDistinct is_fault (if b then o else o ++ k ∷ [])) (sym q) (IsDistinct-push laws o k d q)
]

distinct_all : (o ks : List RootFault) → IsDistinct is_fault o → IsDistinct is_fault (insert_all is_fault o ks)
distinct_all o [] d = d
distinct_all o (k ∷ ks) d = distinct_all (insert_key is_fault o k) ks (distinct_more o k d)

none_distinct : IsDistinct is_fault []
unfolding IsDistinct
none_distinct = tt

pub all_once : (ks keys : List RootFault) → keys ≡ insert_all is_fault [] ks → AllPairs (λ x y. x ≢ y) keys
all_once ks keys is = AllPairs-from_IsDistinct is_fault_decides keys (subst (IsDistinct is_fault) (sym is) (distinct_all [] ks none_distinct))

pub more_once : (ks keys new : List RootFault) (k : RootFault) → keys ≡ insert_all is_fault [] ks → new ≡ insert_key is_fault keys k → AllPairs (λ x y. x ≢ y) new
more_once ks keys new k is more =
    AllPairs-from_IsDistinct is_fault_decides new (subst (IsDistinct is_fault) (sym more)
    (distinct_more keys k (subst (IsDistinct is_fault) (sym is) (distinct_all [] ks none_distinct))))

pub none_once : (keys : List RootFault) → keys ≡ [] → AllPairs (λ x y. x ≢ y) keys
none_once keys empty = all_once [] keys empty

-- ---- by the root fields

module _ (F : Facts) (root file : List ℕ) (o : Operation) (fields : List RootField) (lists : Lists (map found_of fields) (IsRootField F root file o.selections)) where
  fault_there : (x : RootFault) → IsFaultOf fields file o x → IsFault F root file o x
  fault_there x (several {x = y} c t) = by (t.0) (t.1) t.2 t.3 t.4 where
    by : (p q : Found) → Contains (map found_of fields) p → Contains (map found_of fields) q → name_of p ≢ name_of q → IsFault F root file o (fault_of y.at y.field)
    by p q a b apart = elim (either (bytes_eq (name_of y) (name_of p))) [
      | inl same ↦ rule.several (lists.sound y c) (lists.sound q b) (λ e. apart (sym ((bytes_eq-Decides (name_of y) (name_of p)).0 same) ∙ e))
      | inr other ↦ rule.several (lists.sound y c) (lists.sound p a) (λ e. true≢false (sym ((bytes_eq-Decides (name_of y) (name_of p)).1 e) ∙ other))
    ]
  fault_there x (introspection {x = y} c i) = rule.introspection (lists.sound y c) i
  fault_there x (none absent) = rule.none (λ at f r. absent (in_file at f) (lists.complete (in_file at f) r))

  fault_back : (x : RootFault) → IsFault F root file o x → IsFaultOf fields file o x
  fault_back x (rule.several {at = at} {other = other} {f = f} {g = g} a b apart) =
      several {x = in_file at f} (lists.complete (in_file at f) a)
      (in_file at f, in_file other g, lists.complete (in_file at f) a, lists.complete (in_file other g) b, apart)
  fault_back x (rule.introspection {at = at} {f = f} a i) = introspection {x = in_file at f} (lists.complete (in_file at f) a) i
  fault_back x (rule.none absent) = none (λ y c. absent y.at y.field (lists.sound y c))

  pub by_fields : (keys : List RootFault) → Lists keys (IsFaultOf fields file o) → Lists keys (IsFault F root file o)
  by_fields keys l = record {
    sound = λ x h. fault_there x (l.sound x h);
    complete = λ x h. l.complete x (fault_back x h);
  }

-- ---- definitions

abbrev some_operation : Tree → Operation → Operation
some_operation (tree.Operation o) p = o
some_operation _ p = p

one_operation : (o p : Operation) → tree.Operation o ≡ tree.Operation p → p ≡ o
one_operation o p e = ap (λ t. some_operation t o) (sym e)

module _ (F : Facts) (d : Definition) where
  pub of_root : (o : Operation) (root : List ℕ) (known : Option (List ℕ)) (keys : List RootFault) → d.tree ≡ tree.Operation o → o.kind ≡ operation.Subscription
      → known ≡ root_in (F (key.RootOf operation.Subscription)) → known ≡ Some root
      → Lists keys (IsFault F root d.file o) → Lists keys (IsSingleRootFault F d)
  of_root o root known keys is kind asked some l = record { sound = λ x h. sound x h; complete = λ x h. complete x h } where
    known_root : (f : Fact) → root_in f ≡ Some root → f ≡ fact.Root root
    known_root (fact.Root n) e = let h : n ≡ root = cc e in ap fact.Root h
    known_root fact.Absent e = absurd (cc e)
    known_root (fact.Kind k) e = absurd (cc e)
    known_root (fact.Field x) e = absurd (cc e)
    known_root (fact.Possible x) e = absurd (cc e)
    known_root (fact.Input x) e = absurd (cc e)
    known_root (fact.Enum x) e = absurd (cc e)
    known_root (fact.Directive x) e = absurd (cc e)
    known_root (fact.Fragment x) e = absurd (cc e)

    here : F (key.RootOf operation.Subscription) ≡ fact.Root root
    here = known_root (F (key.RootOf operation.Subscription)) (sym asked ∙ some)

    sound : (x : RootFault) → Contains keys x → IsSingleRootFault F d x
    sound x h = of_subscription is kind here (l.sound x h)

    complete : (x : RootFault) → IsSingleRootFault F d x → Contains keys x
    complete x (of_subscription {o = p} {root = r} its sort answer h) =
        let same : p ≡ o = one_operation o p (sym is ∙ its) in
        let other : fact.Root r ≡ fact.Root root = sym answer ∙ here in
        let roots : r ≡ root = cc other in
        l.complete x (subst (λ q. IsFault F root d.file q x) same (subst (λ q. IsFault F q d.file p x) roots h))

  pub of_no_root : (known : Option (List ℕ)) (keys : List RootFault) → known ≡ root_in (F (key.RootOf operation.Subscription)) → known ≡ None
      → keys ≡ [] → Lists keys (IsSingleRootFault F d)
  of_no_root known keys asked unknown empty = record { sound = λ x h. absurd (Contains-nil x (subst (λ l. Contains l x) empty h)); complete = λ x h. complete x h } where
    complete : (x : RootFault) → IsSingleRootFault F d x → Contains keys x
    complete x (of_subscription {root = r} its sort answer h) =
        absurd (let e : None ≡ Some r = sym unknown ∙ asked ∙ ap root_in answer in cc e)

  pub of_other_kind : (o : Operation) (keys : List RootFault) → d.tree ≡ tree.Operation o → (o.kind ≡ operation.Subscription → ⊥) → keys ≡ [] → Lists keys (IsSingleRootFault F d)
  of_other_kind o keys is other empty = record { sound = λ x h. absurd (Contains-nil x (subst (λ l. Contains l x) empty h)); complete = λ x h. complete x h } where
    complete : (x : RootFault) → IsSingleRootFault F d x → Contains keys x
    complete x (of_subscription {o = p} its sort answer h) =
        let same : p ≡ o = one_operation o p (sym is ∙ its) in
        absurd (other (ap (λ (q : Operation). q.kind) (sym same) ∙ sort))

  pub of_other_tree : (keys : List RootFault) → ((o : Operation) → d.tree ≡ tree.Operation o → ⊥) → keys ≡ [] → Lists keys (IsSingleRootFault F d)
  of_other_tree keys other empty = record { sound = λ x h. absurd (Contains-nil x (subst (λ l. Contains l x) empty h)); complete = λ x h. complete x h } where
    complete : (x : RootFault) → IsSingleRootFault F d x → Contains keys x
    complete x (of_subscription {o = p} its sort answer h) = absurd (other p its)

-- the kinds of operations are different
pub no_query : operation.Query ≡ operation.Subscription → ⊥
no_query e = cc e

pub no_mutation : operation.Mutation ≡ operation.Subscription → ⊥
no_mutation e = cc e
