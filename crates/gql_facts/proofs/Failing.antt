-- Scans that fail: what was asked until then is a part of what the whole scan asks.
use Rattle.std.specs.Prelude.{◌≡◌, ℕ, zero, suc, ◌+◌, ◌<◌, List, [], ◌∷◌, ◌++◌, take, length, get_or, slice_get, option_map, Contains, Option, Some, Result, Ok, Err, OnErr, refl}
use Rattle.std.proofs.Common.{sym, ◌∙◌, subst, inl, inr}
use Rattle.std.proofs.lemmas.List.Elements.{Contains-append_left, Contains-append_right, Contains-append_cases}
use Rattle.gql_ast.specs.declared.definition.Definition.{Definition}
use Rattle.gql_ast.specs.declared.definition.Tree.{Tree}
use Rattle.gql_ast.specs.declared.definition.Tree.TheVariants as tree
use Rattle.gql_ast.specs.declared.executable.Selection.{Selection}
use Rattle.gql_ast.specs.declared.executable.Selection.TheVariants as s
use Rattle.gql_ast.specs.declared.executable.Field.{Field}
use Rattle.gql_ast.specs.declared.executable.InlineFragment.{InlineFragment}
use Rattle.gql_ast.specs.declared.executable.Fragment.{Fragment}
use Rattle.gql_ast.specs.declared.executable.Operation.{Operation}
use Rattle.gql_facts.specs.declared.fact.Fact.{Fact}
use Rattle.gql_facts.specs.declared.fact.Fact.TheVariants as fact
use Rattle.gql_facts.specs.declared.fact.FragmentFact.{FragmentFact}
use Rattle.gql_facts.specs.declared.key.Key.{Key}
use Rattle.gql_facts.specs.declared.key.Key.TheVariants as key
use Rattle.gql_facts.specs.Floats.{float_read}
use Rattle.gql_facts.specs.Worlds.{Facts, Record, noted}
use Rattle.gql_facts.specs.Nodes.{composite, field_type_in, parent_below, parent_within}
use Rattle.gql_facts.specs.Walks.{led_to}
use Rattle.gql_facts.specs.OwnReads.{composite_reads, field_reads, condition_reads, set_scan, selection_scan, field_scan, inline_scan, operation_reads, fragment_reads, executable_reads, own_reads, selected_by}
use Rattle.gql_facts.specs.Scans.{Records, Scans, add_keys}
use Rattle.gql_facts.specs.ListMembers.{Contains-nil, Contains-there, some_same}
use Rattle.gql_facts.proofs.Parts.{scan_cons}
use Rattle.gql_facts.proofs.Scanning.{records_one, records_any, records_then}
use Rattle.gql_facts.proofs.Entering.{entered, entered_field, scanned_field, scanned_inline, of_field, of_inline, scanned_more, scanned_fragment, scanned_operation}

-- what holds of an error
pub on_error : {A E P : Type 0} (r : Result A E) → P → OnErr r P
on_error (Ok a) p = tt
on_error (Err e) p = p

-- a scan that fails, as one that keeps all its keys
in_part : (F : Facts) {ks : List Key} (o : List Key) {a b : Record} → Records F ks a b
    → Scans F ks o a (add_keys o ks) b
in_part F o r = record { keys = refl; records = r }

-- a scan that was not begun, likewise
not_begun : (F : Facts) (ks o : List Key) (a : Record) → Scans F ks o a (add_keys o ks) a
not_begun F ks o a = record { keys = refl; records = records_any F ks a }

module _ (F : Facts) where
  -- some of more keys
  pub records_more : (ks js : List Key) {a b : Record}
      → ((k : Key) → Contains ks k → Contains js k) → Records F ks a b → Records F js a b
  records_more ks js among r = record {
    is_kept = r.is_kept;
    right = λ e h. elim (r.right e h) [
      | inl o ↦ inl o
      | inr n ↦ inr (among e.0 n.0, n.1)
    ];
    stays = r.stays;
  }

  pub records_left : (ks js : List Key) {a b : Record} → Records F ks a b → Records F (ks ++ js) a b
  records_left ks js r = records_more ks (ks ++ js) (λ k h. Contains-append_left ks js k h) r

  -- nothing was asked
  pub records_same : (ks : List Key) {a b : Record} → b ≡ a → Records F ks a b
  records_same ks {a} e = subst (λ c. Records F ks a c) (sym e) (records_any F ks a)

  -- one key was asked
  pub records_noted : (k : Key) {a b : Record} → b ≡ option_map (noted k (F k)) a
      → Records F (k ∷ []) a b
  records_noted k {a} e = subst (λ c. Records F (k ∷ []) a c) (sym e) (records_one F k a)

  -- the kind of a type that may be composite was asked
  pub entered_in_part : (o : Option (List ℕ)) (t x : List ℕ) {A B : Record} → o ≡ Some t → x ≡ t
      → Records F (key.KindOf x ∷ []) A B → Records F (composite_reads o) A B
  entered_in_part o t x {A} {B} is_some is_x r =
      (entered F o t x t [] _ _ A B is_some is_x refl (in_part F [] r) refl).records

  -- a field of a parent type was asked
  pub field_in_part : (parent : Option (List ℕ)) (n t x y : List ℕ) {A B : Record}
      → parent ≡ Some t → x ≡ t → y ≡ n → Records F (key.FieldOf x y ∷ []) A B
      → Records F (field_reads F parent n) A B
  field_in_part parent n t x y {A} {B} is_some is_x is_y r =
      (entered_field F parent n is_some is_x is_y refl refl refl (in_part F [] r)
      (not_begun F _ _ B)).records

  -- a field of a parent type was asked, and a part of what its type asks
  pub field_failed : (parent : Option (List ℕ)) (n : List ℕ) {G : Facts} {t x y : List ℕ} {f : Fact}
      {o : Option (List ℕ)} {A B C : Record} → parent ≡ Some t → x ≡ t → y ≡ n → G ≡ F
      → f ≡ F (key.FieldOf x y) → o ≡ field_type_in f → Records F (key.FieldOf x y ∷ []) A B
      → Records G (composite_reads o) B C → Records F (field_reads F parent n) A C
  field_failed parent n {G} is_some is_x is_y same is_fact is_type asked failed =
      (entered_field F parent n is_some is_x is_y same is_fact is_type (in_part F [] asked)
      (in_part G _ failed)).records

  -- a field was scanned, and a part of its selection set
  pub field_scan_failed : (p : Option (List ℕ)) (f : Field) {xs : List Selection} {G : Facts}
      {q : Option (List ℕ)} {A B C : Record} → xs ≡ f.selections → G ≡ F
      → q ≡ parent_below F p f.name.text → Records F (field_reads F p f.name.text) A B
      → Records G (set_scan G q xs) B C → Records F (field_scan F p f) A C
  field_scan_failed p f {G = G} is_set same is_parent entered' failed =
      (scanned_field F p f refl is_set same is_parent (in_part F [] entered') refl
      (in_part G _ failed)).records

  -- an inline fragment was scanned, and a part of its selection set
  pub inline_scan_failed : (p : Option (List ℕ)) (i : InlineFragment) {xs : List Selection}
      {G : Facts}
      {q : Option (List ℕ)} {A B C : Record} → xs ≡ i.selections → G ≡ F
      → q ≡ parent_within F p i.condition → Records F (condition_reads i.condition) A B
      → Records G (set_scan G q xs) B C → Records F (inline_scan F p i) A C
  inline_scan_failed p i {G = G} is_set same is_parent entered' failed =
      (scanned_inline F p i refl is_set same is_parent (in_part F [] entered') refl
      (in_part G _ failed)).records

  -- a selection that is a field failed
  pub of_field_failed : (p : Option (List ℕ)) (x : Selection) (f : Field) {A B : Record}
      → x ≡ s.Field f
      → Records F (field_scan F p f) A B → Records F (selection_scan F p x) A B
  of_field_failed p x f {A} {B} is_field r =
      (of_field F p x f [] _ A B is_field (in_part F [] r)).records

  -- a selection that is an inline fragment failed
  pub of_inline_failed : (p : Option (List ℕ)) (x : Selection) (i : InlineFragment) {A B : Record}
      → x ≡ s.InlineFragment i → Records F (inline_scan F p i) A B
      → Records F (selection_scan F p x) A B
  of_inline_failed p x i {A} {B} is_inline r =
      (of_inline F p x i [] _ A B is_inline (in_part F [] r)).records

  -- a first part of a selection set was scanned
  part_of_set : (p : Option (List ℕ)) (xs : List Selection) (n : ℕ) (k : Key)
      → Contains (set_scan F p (take n xs)) k → Contains (set_scan F p xs) k
  part_of_set p [] n k h = nothing n h where
    nothing : (n : ℕ) → Contains (set_scan F p (take n [])) k → Contains (set_scan F p []) k
    nothing zero h = h
    nothing (suc n) h = h
  part_of_set p (x ∷ xs) zero k h = absurd (Contains-nil k h)
  part_of_set p (x ∷ xs) (suc n) k h =
      elim (Contains-append_cases (selection_scan F p x) (set_scan F p (take n xs)) k
      (subst (λ l. Contains l k) (scan_cons F p x (take n xs)) h)) [
        | inl a ↦ subst (λ l. Contains l k) (sym (scan_cons F p x xs))
            (Contains-append_left (selection_scan F p x) (set_scan F p xs) k a)
        | inr b ↦ subst (λ l. Contains l k) (sym (scan_cons F p x xs))
            (Contains-append_right (selection_scan F p x) (set_scan F p xs) k
            (part_of_set p xs n k b))
      ]

  -- a selection of a set failed
  pub set_in_part : (G : Facts) (p : Option (List ℕ)) (xs : List Selection) (i : ℕ) (x : Selection)
      (K a : List Key) {A B C : Record} → i < length xs → get_or xs i x ≡ x → G ≡ F
      → Scans F (set_scan F p (take i xs)) K A a B → Records G (selection_scan G p x) B C
      → Records F (set_scan F p xs) A C
  set_in_part G p xs i x K a {A} {B} {C} within item same before failed =
      let more =
      scanned_more F G p xs i x K a _ A B C within item same before (in_part G a failed) in
      records_more (set_scan F p (take (i + 1) xs)) (set_scan F p xs)
      (part_of_set p xs (i + 1)) more.records

  -- the condition of a fragment was asked, or a part of what it asks
  pub fragment_in_part : (f : Fragment) {o : Option (List ℕ)} {A B : Record}
      → o ≡ Some f.condition.text → Records F (composite_reads o) A B
      → Records F (fragment_reads F f) A B
  fragment_in_part f {o} {A} {B} is_condition r =
      records_left (composite_reads (Some f.condition.text)) _
      (subst (λ w. Records F (composite_reads w) A B) is_condition r)

  -- a fragment was scanned, and a part of its selection set
  pub fragment_failed : (f : Fragment) {xs : List Selection} {G : Facts} {o q : Option (List ℕ)}
      {A B C : Record} → xs ≡ f.selections → o ≡ Some f.condition.text → G ≡ F → q ≡ composite F o
      → Records F (composite_reads o) A B → Records G (set_scan G q xs) B C
      → Records F (fragment_reads F f) A C
  fragment_failed f {G = G} is_set is_condition same is_parent entered' failed =
      (scanned_fragment F f refl is_set is_condition same is_parent (in_part F [] entered') refl
      (in_part G _ failed)).records

  -- a definition that is a fragment failed
  pub tree_failed : (t : Tree) (f g : Fragment) {A B : Record} → t ≡ tree.Fragment g → f ≡ g
      → Records F (fragment_reads F f) A B → Records F (executable_reads F t) A B
  tree_failed t f g {A} {B} is_tree is_fragment r =
      subst (λ z. Records F (executable_reads F z) A B) (sym is_tree)
      (subst (λ z. Records F (fragment_reads F z) A B) is_fragment r)

  -- the parts of a definition failed
  pub definition_failed : (d : Definition) {G : Facts} {A B : Record} → G ≡ F
      → Records G (executable_reads G d.tree) A B → Records F (own_reads F d) A B
  definition_failed d {G} {A} {B} same r =
      records_more (executable_reads F d.tree) (own_reads F d)
      (λ k h. Contains-there k float_read (executable_reads F d.tree) h)
      (subst (λ H. Records H (executable_reads H d.tree) A B) same r)

  -- a fragment that an answer is failed
  pub followed_failed : (k : Fact) (f : Fragment) (g : FragmentFact) {A B : Record}
      → k ≡ fact.Fragment g → f ≡ g.fragment → Records F (fragment_reads F f) A B
      → Records F (led_to F k) A B
  followed_failed k f g {A} {B} is_fact is_fragment r =
      subst (λ z. Records F (led_to F z) A B) (sym is_fact)
      (records_left (fragment_reads F g.fragment) []
      (subst (λ z. Records F (fragment_reads F z) A B) is_fragment r))

  -- the root of an operation was asked
  pub root_in_part : (o : Operation) {A B : Record} → Records F (key.RootOf o.kind ∷ []) A B
      → Records F (operation_reads F o) A B
  root_in_part o r = records_left (key.RootOf o.kind ∷ []) _ r

  -- the root of an operation was asked, and its type or a part of what that asks
  pub operation_in_part : (o : Operation) {G : Facts} {f : Fact} {r : Option (List ℕ)}
      {A B C : Record} → f ≡ F (key.RootOf o.kind) → r ≡ selected_by o.kind f → G ≡ F
      → Records F (key.RootOf o.kind ∷ []) A B → Records G (composite_reads r) B C
      → Records F (operation_reads F o) A C
  operation_in_part o {G} {f} {r} {A} {B} {C} is_fact is_root same asked entered' =
      (scanned_operation F o refl refl refl is_fact is_root same refl refl (in_part F [] asked)
      (in_part G _ entered') refl refl (not_begun G _ _ C)).records

  -- an operation was scanned, and a part of its selection set
  pub operation_failed : (o : Operation) {xs : List Selection} {G H : Facts} {f : Fact}
      {r q : Option (List ℕ)} {A B C D : Record} → xs ≡ o.selections → f ≡ F (key.RootOf o.kind)
      → r ≡ selected_by o.kind f → G ≡ F → q ≡ composite G r → H ≡ G
      → Records F (key.RootOf o.kind ∷ []) A B → Records G (composite_reads r) B C
      → Records H (set_scan H q xs) C D → Records F (operation_reads F o) A D
  operation_failed o {G = G}
      {H = H} is_set is_fact is_root same is_parent same' asked entered' failed =
      (scanned_operation F o refl refl is_set is_fact is_root same is_parent same'
      (in_part F [] asked)
      (in_part G _ entered') refl refl (in_part H _ failed)).records

  -- a key was asked, and a part of what its answer leads to
  visited_in_part : (k : Key) {G : Facts} {f : Fact} {A B C : Record} → f ≡ F k → G ≡ F
      → B ≡ option_map (noted k (F k)) A → Records G (led_to G f) B C
      → Records F (k ∷ led_to F (F k)) A C
  visited_in_part k {G} {f} {A} {B} {C} is_fact same is_noted r =
      let p : Records F (led_to F f) B C = subst (λ H. Records H (led_to H f) B C) same r in
      let q : Records F (led_to F (F k)) B C = subst (λ z. Records F (led_to F z) B C) is_fact p in
      records_then F (k ∷ []) (led_to F (F k)) A B C (records_noted k is_noted) q

  -- the key at a place was asked, and a part of what its answer leads to
  pub visited_failed : (keys : List Key) (at : ℕ) (j : Key) {G : Facts} {f : Fact} {A B C : Record}
      → slice_get keys at ≡ Some j → f ≡ F j → G ≡ F → B ≡ option_map (noted j (F j)) A
      → Records G (led_to G f) B C → (k : Key) → slice_get keys at ≡ Some k
      → Records F (k ∷ led_to F (F k)) A C
  visited_failed keys at j {G} {f} {A} {B} {C} here is_fact same is_noted r k there =
      subst (λ z. Records F (z ∷ led_to F (F z)) A C) (some_same j k (sym here ∙ there))
      (visited_in_part j is_fact same is_noted r)
