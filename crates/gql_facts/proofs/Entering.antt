-- Scans of nodes, of the scans of their parts.
use Rattle.std.specs.Prelude.{◌≡◌, ℕ, ◌+◌, ◌<◌, List, [], ◌∷◌, ◌++◌, flat_map, take, length, get_or, Option, Some, refl}
use Rattle.std.proofs.Common.{ap, sym, ◌∙◌, subst, append-nil}
use Rattle.std.proofs.lemmas.List.{take_more}
use Rattle.gql_ast.specs.declared.definition.Definition.{Definition}
use Rattle.gql_ast.specs.declared.literal.Directive.{Directive}
use Rattle.gql_ast.specs.declared.executable.Selection.{Selection}
use Rattle.gql_ast.specs.declared.executable.Field.{Field}
use Rattle.gql_ast.specs.declared.executable.InlineFragment.{InlineFragment}
use Rattle.gql_ast.specs.declared.executable.Spread.{Spread}
use Rattle.gql_ast.specs.declared.executable.Fragment.{Fragment}
use Rattle.gql_ast.specs.declared.executable.Operation.{Operation}
use Rattle.gql_ast.specs.declared.executable.VariableDefinition.{VariableDefinition}
use Rattle.gql_ast.specs.declared.executable.Selection.TheVariants as s
use Rattle.gql_facts.specs.declared.fact.Fact.{Fact}
use Rattle.gql_facts.specs.declared.key.Key.{Key}
use Rattle.gql_facts.specs.declared.key.Key.TheVariants as key
use Rattle.gql_facts.specs.Floats.{float_read}
use Rattle.gql_facts.specs.Worlds.{Facts, Record}
use Rattle.gql_facts.specs.Nodes.{composite, field_type_in, parent_below, parent_within}
use Rattle.gql_facts.specs.OwnReads.{composite_reads, field_reads, condition_reads, directive_reads, variable_reads, set_scan, selection_scan, field_scan, inline_scan, spread_scan, operation_reads, fragment_reads, executable_reads, own_reads, selected_by, root_parent, selected_root}
use Rattle.gql_facts.specs.Scans.{Scans, add_keys}
use Rattle.gql_facts.proofs.Parts.{scan_cons, scan_field, scan_inline, scan_spread}
use Rattle.gql_facts.proofs.Scanning.{kept_scan, scans_then}

-- the same scan, by equal facts
by_facts : (F G : Facts) (ks : Facts → List Key) {K n : List Key} {A B : Record} → G ≡ F → Scans G (ks G) K A n B → Scans F (ks F) K A n B
by_facts F G ks {K} {n} {A} {B} e h = subst (λ H. Scans H (ks H) K A n B) e h

module _ (F : Facts) where
  -- a type that may be composite
  pub entered : (o : Option (List ℕ)) (t x y : List ℕ) (K n m : List Key) (A B : Record) → o ≡ Some t → x ≡ t → y ≡ t →
      Scans F (key.KindOf x ∷ []) K A n B → m ≡ add_keys n (key.PossibleOf y ∷ []) → Scans F (composite_reads o) K A m B
  entered o t x y K n m A B is_some is_x is_y asked kept =
      let h = scans_then F asked (kept_scan F B kept) in
      let a : Scans F (key.KindOf t ∷ key.PossibleOf y ∷ []) K A m B = subst (λ z. Scans F (key.KindOf z ∷ key.PossibleOf y ∷ []) K A m B) is_x h in
      let b : Scans F (key.KindOf t ∷ key.PossibleOf t ∷ []) K A m B = subst (λ z. Scans F (key.KindOf t ∷ key.PossibleOf z ∷ []) K A m B) is_y a in
      subst (λ z. Scans F (composite_reads z) K A m B) (sym is_some) b

  -- a field of a parent type
  pub entered_field : (parent : Option (List ℕ)) (n : List ℕ) {G : Facts} {t x y : List ℕ} {f : Fact} {o : Option (List ℕ)} {K a b : List Key} {A B C : Record} →
      parent ≡ Some t → x ≡ t → y ≡ n → G ≡ F → f ≡ F (key.FieldOf x y) → o ≡ field_type_in f →
      Scans F (key.FieldOf x y ∷ []) K A a B → Scans G (composite_reads o) a B b C → Scans F (field_reads F parent n) K A b C
  entered_field parent n {G} {t} {x} {y} {f} {o} {K} {a} {b} {A} {B} {C} is_some is_x is_y same is_fact is_type asked below =
      let z : o ≡ field_type_in (F (key.FieldOf t n)) = is_type ∙ ap field_type_in (is_fact ∙ ap (λ w. F (key.FieldOf w y)) is_x ∙ ap (λ w. F (key.FieldOf t w)) is_y) in
      let p : Scans F (key.FieldOf t n ∷ []) K A a B = subst (λ w. Scans F (key.FieldOf t w ∷ []) K A a B) is_y (subst (λ w. Scans F (key.FieldOf w y ∷ []) K A a B) is_x asked) in
      let q : Scans F (composite_reads (field_type_in (F (key.FieldOf t n)))) a B b C = subst (λ w. Scans F (composite_reads w) a B b C) z (by_facts F G (λ H. composite_reads o) same below) in
      subst (λ w. Scans F (field_reads F w n) K A b C) (sym is_some) (scans_then F p q)

  -- the parent type below a field
  pub below_field : (G : Facts) (parent : Option (List ℕ)) (t n x y : List ℕ) (f : Fact) (o p : Option (List ℕ)) →
      parent ≡ Some t → x ≡ t → y ≡ n → G ≡ F → f ≡ F (key.FieldOf x y) → o ≡ field_type_in f → p ≡ composite G o → p ≡ parent_below F parent n
  below_field G parent t n x y f o p is_some is_x is_y same is_fact is_type is_parent =
      let z : o ≡ field_type_in (F (key.FieldOf t n)) = is_type ∙ ap field_type_in (is_fact ∙ ap (λ w. F (key.FieldOf w y)) is_x ∙ ap (λ w. F (key.FieldOf t w)) is_y) in
      is_parent ∙ ap (λ H. composite H o) same ∙ ap (composite F) z ∙ ap (λ w. parent_below F w n) (sym is_some)

  -- a selection set after directives
  after_directives : (fs : List Directive) {ds : List Directive} {G : Facts} (p : Option (List ℕ)) {q : Option (List ℕ)} (ys : List Selection) {xs : List Selection} {a b c : List Key} {B C : Record} →
      ds ≡ fs → xs ≡ ys → G ≡ F → q ≡ p → b ≡ add_keys a (directive_reads ds) → Scans G (set_scan G q xs) b B c C → Scans F (directive_reads fs ++ set_scan F p ys) a B c C
  after_directives fs {ds} {G} p {q} ys {xs} {a} {b} {c} {B} {C} is_directives is_set same is_parent kept below =
      let here : b ≡ add_keys a (directive_reads fs) = kept ∙ ap (λ z. add_keys a (directive_reads z)) is_directives in
      let set : Scans F (set_scan F p xs) b B c C = subst (λ w. Scans F (set_scan F w xs) b B c C) is_parent (by_facts F G (λ H. set_scan H q xs) same below) in
      scans_then F (kept_scan F B here) (subst (λ z. Scans F (set_scan F p z) b B c C) is_set set)

  -- a field
  pub scanned_field : (p : Option (List ℕ)) (f : Field) {ds : List Directive} {xs : List Selection} {G : Facts} {q : Option (List ℕ)} {K a b c : List Key} {A B C : Record} →
      ds ≡ f.directives → xs ≡ f.selections → G ≡ F → q ≡ parent_below F p f.name.text → Scans F (field_reads F p f.name.text) K A a B → b ≡ add_keys a (directive_reads ds) →
      Scans G (set_scan G q xs) b B c C → Scans F (field_scan F p f) K A c C
  scanned_field p f is_directives is_set same is_parent entered' kept below =
      scans_then F entered' (after_directives f.directives (parent_below F p f.name.text) f.selections is_directives is_set same is_parent kept below)

  -- an inline fragment
  pub scanned_inline : (p : Option (List ℕ)) (i : InlineFragment) {ds : List Directive} {xs : List Selection} {G : Facts} {q : Option (List ℕ)} {K a b c : List Key} {A B C : Record} →
      ds ≡ i.directives → xs ≡ i.selections → G ≡ F → q ≡ parent_within F p i.condition → Scans F (condition_reads i.condition) K A a B → b ≡ add_keys a (directive_reads ds) →
      Scans G (set_scan G q xs) b B c C → Scans F (inline_scan F p i) K A c C
  scanned_inline p i is_directives is_set same is_parent entered' kept below =
      scans_then F entered' (after_directives i.directives (parent_within F p i.condition) i.selections is_directives is_set same is_parent kept below)

  -- a selection
  pub of_field : (p : Option (List ℕ)) (x : Selection) (f : Field) (K a : List Key) (A B : Record) → x ≡ s.Field f → Scans F (field_scan F p f) K A a B → Scans F (selection_scan F p x) K A a B
  of_field p x f K a A B e h = subst (λ ks. Scans F ks K A a B) (sym (ap (selection_scan F p) e ∙ scan_field F p f)) h

  pub of_inline : (p : Option (List ℕ)) (x : Selection) (i : InlineFragment) (K a : List Key) (A B : Record) → x ≡ s.InlineFragment i → Scans F (inline_scan F p i) K A a B → Scans F (selection_scan F p x) K A a B
  of_inline p x i K a A B e h = subst (λ ks. Scans F ks K A a B) (sym (ap (selection_scan F p) e ∙ scan_inline F p i)) h

  pub of_spread : (p : Option (List ℕ)) (x : Selection) (y : Spread) (K a : List Key) (A : Record) → x ≡ s.Spread y → a ≡ add_keys K (spread_scan y) → Scans F (selection_scan F p x) K A a A
  of_spread p x y K a A e h = subst (λ ks. Scans F ks K A a A) (sym (ap (selection_scan F p) e ∙ scan_spread F p y)) (kept_scan F A h)

  -- one selection more
  scan_more : (p : Option (List ℕ)) (xs : List Selection) (x : Selection) → set_scan F p (xs ++ x ∷ []) ≡ set_scan F p xs ++ selection_scan F p x
  scan_more p [] x = scan_cons F p x [] ∙ append-nil (selection_scan F p x)
  scan_more p (y ∷ ys) x = scan_cons F p y (ys ++ x ∷ []) ∙ ap (λ l. selection_scan F p y ++ l) (scan_more p ys x)
      ∙ sym (assoc (selection_scan F p y) (set_scan F p ys) (selection_scan F p x)) ∙ ap (λ l. l ++ selection_scan F p x) (sym (scan_cons F p y ys)) where
        assoc : (a b c : List Key) → (a ++ b) ++ c ≡ a ++ (b ++ c)
        assoc [] b c = refl
        assoc (k ∷ a) b c = ap (λ l. k ∷ l) (assoc a b c)

  pub scanned_more : (G : Facts) (p : Option (List ℕ)) (xs : List Selection) (i : ℕ) (x : Selection) (K a b : List Key) (A B C : Record) →
      i < length xs → get_or xs i x ≡ x → G ≡ F → Scans F (set_scan F p (take i xs)) K A a B → Scans G (selection_scan G p x) a B b C → Scans F (set_scan F p (take (i + 1) xs)) K A b C
  scanned_more G p xs i x K a b A B C within item same before one =
      let e : take (i + 1) xs ≡ take i xs ++ x ∷ [] = take_more xs i x within ∙ ap (λ y. take i xs ++ y ∷ []) item in
      subst (λ ks. Scans F ks K A b C) (sym (ap (set_scan F p) e ∙ scan_more p (take i xs) x)) (scans_then F before (by_facts F G (λ H. selection_scan H p x) same one))

  -- a fragment
  pub scanned_fragment : (f : Fragment) {ds : List Directive} {xs : List Selection} {G : Facts} {o q : Option (List ℕ)} {K a b c : List Key} {A B C : Record} →
      ds ≡ f.directives → xs ≡ f.selections → o ≡ Some f.condition.text → G ≡ F → q ≡ composite F o → Scans F (composite_reads o) K A a B → b ≡ add_keys a (directive_reads ds) →
      Scans G (set_scan G q xs) b B c C → Scans F (fragment_reads F f) K A c C
  scanned_fragment f {ds} {xs} {G} {o} {q} {K} {a} {b} {c} {A} {B} {C} is_directives is_set is_condition same is_parent entered' kept below =
      scans_then F (subst (λ w. Scans F (composite_reads w) K A a B) is_condition entered')
      (after_directives f.directives (composite F (Some f.condition.text)) f.selections is_directives is_set same (is_parent ∙ ap (composite F) is_condition) kept below)

  -- a definition
  pub scanned_definition : (d : Definition) {x : Key} {K a b : List Key} {A B : Record} →
      x ≡ float_read → a ≡ add_keys K (x ∷ []) → Scans F (executable_reads F d.tree) a A b B → Scans F (own_reads F d) K A b B
  scanned_definition d {x} {K} {a} {b} {A} {B} is kept parts =
      let asked : Scans F (float_read ∷ []) K A a A = kept_scan F A (kept ∙ ap (λ k. add_keys K (k ∷ [])) is) in
      scans_then F {ks = float_read ∷ []} {js = executable_reads F d.tree} asked parts

  -- an operation
  pub scanned_operation : (o : Operation) {ds : List Directive} {vs : List VariableDefinition} {xs : List Selection} {G H : Facts} {f : Fact} {r q : Option (List ℕ)} {K a b c d e : List Key} {A B C D : Record} →
      ds ≡ o.directives → vs ≡ o.variables → xs ≡ o.selections →
      f ≡ F (key.RootOf o.kind) → r ≡ selected_by o.kind f → G ≡ F → q ≡ composite G r → H ≡ G → Scans F (key.RootOf o.kind ∷ []) K A a B → Scans G (composite_reads r) a B b C →
      c ≡ add_keys b (directive_reads ds) → d ≡ add_keys c (flat_map variable_reads vs) → Scans H (set_scan H q xs) d C e D → Scans F (operation_reads F o) K A e D
  scanned_operation o {ds} {vs} {xs} {G} {H} {f} {r} {q} {K} {a} {b} {c} {d} {e} {A} {B} {C} {D} is_directives is_variables is_set is_fact is_root same is_parent same' asked entered' kept variables below =
      let root : r ≡ selected_root F o.kind = is_root ∙ ap (selected_by o.kind) is_fact in
      let types : Scans F (composite_reads (selected_root F o.kind)) a B b C = subst (λ w. Scans F (composite_reads w) a B b C) root (by_facts F G (λ I. composite_reads r) same entered') in
      let parent : q ≡ root_parent F o.kind = is_parent ∙ ap (λ I. composite I r) same ∙ ap (composite F) root in
      let set : Scans F (set_scan F (root_parent F o.kind) xs) d C e D = subst (λ w. Scans F (set_scan F w xs) d C e D) parent (by_facts F H (λ I. set_scan I q xs) (same' ∙ same) below) in
      scans_then F asked (scans_then F types (scans_then F (kept_scan F C (kept ∙ ap (λ z. add_keys b (directive_reads z)) is_directives))
      (scans_then F (kept_scan F C (variables ∙ ap (λ z. add_keys c (flat_map variable_reads z)) is_variables)) (subst (λ z. Scans F (set_scan F (root_parent F o.kind) z) d C e D) is_set set))))
