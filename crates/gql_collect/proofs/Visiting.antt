-- One selection of a walk, by its form.
use Rattle.std.proofs.Common.{◌≡◌, ◌+◌, ℕ, List, [], ◌∷◌, ◌++◌, Bool, true, false, not, ◌||◌, map, bytes_eq, if◌then◌else◌, refl, sym, ap, ◌∙◌, subst, arith}
use Rattle.std.specs.Borrow.{Bor}
use Rattle.std.specs.List.{list_any}
use Rattle.indexmap.specs.IndexSet.{insert_key}
use Rattle.gql_ast.specs.declared.executable.Field.{Field}
use Rattle.gql_ast.specs.declared.executable.InlineFragment.{InlineFragment}
use Rattle.gql_ast.specs.declared.executable.Selection.{Selection}
use Rattle.gql_ast.specs.declared.executable.Selection.TheVariants as s
use Rattle.gql_ast.specs.declared.executable.Spread.{Spread}
use Rattle.gql_collect.specs.Borrowed.{names_of, node_of, nodes_of}
use Rattle.gql_collect.specs.Conditions.{is_left_out}
use Rattle.gql_collect.specs.Groups.{is_same_field}
use Rattle.gql_collect.specs.Nodes.{FileSelection, FieldNode, node, selections, in_file}
use Rattle.gql_collect.specs.Unfolding.{Given, part, part_at, held, applies, field_part, spread_part, inline_part}
use Rattle.gql_collect.specs.Walks.{Visits, keeps, opens, enters, passes, is_in, size, sizes, sizes_in, size_field, size_spread, size_inline}
use Rattle.gql_collect.specs.declared.node.FieldNode.{FieldNode as Node}

-- ---- borrowed sets

any_map : {A B : Type 0} (p : B → Bool) (f : A → B) (xs : List A) → list_any p (map f xs) ≡ list_any (λ x. p (f x)) xs
any_map p f [] = refl
any_map p f (x ∷ xs) = ap (λ b. p (f x) || b) (any_map p f xs)

map_end : {A B : Type 0} (f : A → B) (xs : List A) (x : A) → map f (xs ++ x ∷ []) ≡ map f xs ++ f x ∷ []
map_end f [] x = refl
map_end f (y ∷ ys) x = ap (λ r. f y ∷ r) (map_end f ys x)

map_if : {A B : Type 0} (f : A → B) (b : Bool) (xs ys : List A) → map f (if b then xs else ys) ≡ (if b then map f xs else map f ys)
map_if f true xs ys = refl
map_if f false xs ys = refl

inserted : {A B : Type 0} (same : B → B → Bool) (f : A → B) (xs : List A) (x : A)
    → map f (insert_key (λ a b. same (f a) (f b)) xs x) ≡ insert_key same (map f xs) (f x)
inserted same f xs x =
    map_if f (list_any (λ b. same (f x) (f b)) xs) xs (xs ++ x ∷ [])
    ∙ ap (λ l. if list_any (λ b. same (f x) (f b)) xs then map f xs else l) (map_end f xs x)
    ∙ ap (λ b. if b then map f xs else map f xs ++ f x ∷ []) (sym (any_map (same (f x)) f xs))

pub node_inserted : (ns : List Node) (n : Node)
    → nodes_of (insert_key (λ a b. is_same_field (node_of a) (node_of b)) ns n)
    ≡ insert_key is_same_field (nodes_of ns) (node_of n)
node_inserted ns n = inserted is_same_field node_of ns n

pub name_inserted : (ns : List (Bor (List ℕ))) (n : Bor (List ℕ))
    → names_of (insert_key (λ p q. bytes_eq p.now q.now) ns n) ≡ insert_key bytes_eq (names_of ns) n.now
name_inserted ns n = inserted bytes_eq (λ (p : Bor (List ℕ)). p.now) ns n

pub name_there : (ns : List (Bor (List ℕ))) (n : List ℕ)
    → list_any (λ q. bytes_eq n q.now) ns ≡ is_in n (names_of ns)
name_there ns n = sym (any_map (bytes_eq n) (λ (p : Bor (List ℕ)). p.now) ns)

pub not_true : (b : Bool) → not b ≡ true → b ≡ false
not_true true e = sym e
not_true false e = refl

pub not_false : (b : Bool) → not b ≡ false → b ≡ true
not_false true e = refl
not_false false e = sym e

-- ---- sizes

pub sizes_in_file : (file : List ℕ) (xs : List Selection) → sizes_in (in_file file xs) ≡ sizes xs
sizes_in_file file [] = refl
sizes_in_file file (x ∷ xs) = ap (λ n. size x + n) (sizes_in_file file xs)

-- ---- by form

or_true : (b : Bool) → (b || true) ≡ true
or_true true = refl
or_true false = refl

pub skipped : (a b : Bool) → a ≡ true → (a || not b) ≡ true
skipped a b e = rw e refl

pub not_met : (a b : Bool) → b ≡ false → (a || not b) ≡ true
not_met a b e = rw e (or_true a)

pub counts : (a b : Bool) → a ≡ false → b ≡ true → (a || not b) ≡ false
counts a b e f = rw (e, f) refl

module _ (g : Given) (t : List ℕ) (names : List (List ℕ)) (fields : List FieldNode) where
  -- the selection x in a file was visited, and nothing was met
  abbrev Left : List ℕ → Selection → List FileSelection → Type 0
  Left file x next = Visits g t (record { file = file; selection = x }) names fields names fields next

  field_is : (file : List ℕ) (f : Field) → part g t (record { file = file; selection = s.Field f }) ≡ field_part g file f
  field_is file f = ap (part_at g t file) (s.outs-Field f)

  spread_is : (file : List ℕ) (x : Spread) → part g t (record { file = file; selection = s.Spread x }) ≡ spread_part g t x
  spread_is file x = ap (part_at g t file) (s.outs-Spread x)

  inline_is : (file : List ℕ) (i : InlineFragment) → part g t (record { file = file; selection = s.InlineFragment i }) ≡ inline_part g t file i
  inline_is file i = ap (part_at g t file) (s.outs-InlineFragment i)

  pub field_left : (file : List ℕ) (f : Field) (next : List FileSelection) → is_left_out g.values f.directives ≡ true
      → next ≡ [] → Left file (s.Field f) next
  field_left file f next out none =
      let e : part g t (record { file = file; selection = s.Field f }) ≡ selections [] =
      field_is file f ∙ ap (λ b. if b then selections [] else node (record { file = file; field = f })) out in
      let two = size_field f in
      subst (λ l. Left file (s.Field f) l) (sym none) (opens e (omega (arith, two)))

  pub field_kept : (file : List ℕ) (f : Field) (names_after : List (List ℕ)) (fields_after : List FieldNode) (next : List FileSelection)
      → is_left_out g.values f.directives ≡ false → next ≡ [] → names_after ≡ names
      → fields_after ≡ insert_key is_same_field fields (record { file = file; field = f })
      → Visits g t (record { file = file; selection = s.Field f }) names fields names_after fields_after next
  field_kept file f names_after fields_after next kept none same more =
      let e : part g t (record { file = file; selection = s.Field f }) ≡ node (record { file = file; field = f }) =
      field_is file f ∙ ap (λ b. if b then selections [] else node (record { file = file; field = f })) kept in
      subst (λ l. Visits g t (record { file = file; selection = s.Field f }) names fields names_after fields_after l) (sym none)
      (subst (λ ns. Visits g t (record { file = file; selection = s.Field f }) names fields ns fields_after []) (sym same)
      (subst (λ fs. Visits g t (record { file = file; selection = s.Field f }) names fields names fs []) (sym more) (keeps e)))

  pub spread_left : (file : List ℕ) (x : Spread) (next : List FileSelection) → is_left_out g.values x.directives ≡ true
      → next ≡ [] → Left file (s.Spread x) next
  spread_left file x next out none =
      let e : part g t (record { file = file; selection = s.Spread x }) ≡ selections [] =
      spread_is file x ∙ ap (λ b. if b then selections [] else selections (held g t x.name.text)) out in
      let two = size_spread x in
      subst (λ l. Left file (s.Spread x) l) (sym none) (opens e (omega (arith, two)))

  held_is : (file : List ℕ) (x : Spread) → is_left_out g.values x.directives ≡ false
      → part g t (record { file = file; selection = s.Spread x }) ≡ selections (held g t x.name.text)
  held_is file x kept = spread_is file x ∙ ap (λ b. if b then selections [] else selections (held g t x.name.text)) kept

  pub spread_entered : (file : List ℕ) (x : Spread) (name : List ℕ) (names_after : List (List ℕ)) (fields_after : List FieldNode) (next : List FileSelection)
      → is_left_out g.values x.directives ≡ false → name ≡ x.name.text → is_in name names ≡ false
      → names_after ≡ insert_key bytes_eq names name → fields_after ≡ fields → next ≡ held g t name
      → Visits g t (record { file = file; selection = s.Spread x }) names fields names_after fields_after next
  spread_entered file x name names_after fields_after next kept is fresh more same content =
      let e : part g t (record { file = file; selection = s.Spread x }) ≡ selections (held g t name) =
      held_is file x kept ∙ ap (λ n. selections (held g t n)) (sym is) in
      let longer : names_after ≡ names ++ name ∷ [] = more ∙ ap (λ b. if b then names else names ++ name ∷ []) fresh in
      subst (λ l. Visits g t (record { file = file; selection = s.Spread x }) names fields names_after fields_after l) (sym content)
      (subst (λ ns. Visits g t (record { file = file; selection = s.Spread x }) names fields ns fields_after (held g t name)) (sym longer)
      (subst (λ fs. Visits g t (record { file = file; selection = s.Spread x }) names fields (names ++ name ∷ []) fs (held g t name)) (sym same) (enters name e fresh)))

  pub spread_passed : (file : List ℕ) (x : Spread) (name : List ℕ) (names_after : List (List ℕ)) (fields_after : List FieldNode) (next : List FileSelection)
      → is_left_out g.values x.directives ≡ false → name ≡ x.name.text → is_in name names ≡ true
      → names_after ≡ insert_key bytes_eq names name → fields_after ≡ fields → next ≡ []
      → Visits g t (record { file = file; selection = s.Spread x }) names fields names_after fields_after next
  spread_passed file x name names_after fields_after next kept is there more same none =
      let e : part g t (record { file = file; selection = s.Spread x }) ≡ selections (held g t name) =
      held_is file x kept ∙ ap (λ n. selections (held g t n)) (sym is) in
      let equal : names_after ≡ names = more ∙ ap (λ b. if b then names else names ++ name ∷ []) there in
      subst (λ l. Visits g t (record { file = file; selection = s.Spread x }) names fields names_after fields_after l) (sym none)
      (subst (λ ns. Visits g t (record { file = file; selection = s.Spread x }) names fields ns fields_after []) (sym equal)
      (subst (λ fs. Visits g t (record { file = file; selection = s.Spread x }) names fields names fs []) (sym same) (passes name e there)))

  by_test : (file : List ℕ) (i : InlineFragment) (b : Bool)
      → (is_left_out g.values i.directives || not (applies g t i.condition)) ≡ b
      → part g t (record { file = file; selection = s.InlineFragment i })
      ≡ (if b then selections [] else selections (in_file file i.selections))
  by_test file i b e = inline_is file i ∙ ap (λ c. if c then selections [] else selections (in_file file i.selections)) e

  pub inline_left : (file : List ℕ) (i : InlineFragment) (next : List FileSelection)
      → (is_left_out g.values i.directives || not (applies g t i.condition)) ≡ true
      → next ≡ [] → Left file (s.InlineFragment i) next
  inline_left file i next out none =
      let small = size_inline i in
      subst (λ l. Left file (s.InlineFragment i) l) (sym none) (opens (by_test file i true out) (omega (arith, small)))

  pub inline_held : (file : List ℕ) (i : InlineFragment) (next : List FileSelection)
      → (is_left_out g.values i.directives || not (applies g t i.condition)) ≡ false
      → next ≡ in_file file i.selections → Left file (s.InlineFragment i) next
  inline_held file i next kept content =
      let whole = size_inline i in
      let same = sizes_in_file file i.selections in
      subst (λ l. Left file (s.InlineFragment i) l) (sym content)
      (opens (by_test file i false kept) (omega (arith, whole, same)))
