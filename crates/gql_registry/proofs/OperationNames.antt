-- The names of operations that are kept: which are found, and whether there are some.
use Rattle.std.proofs.Common.{◌≡◌, inl, inr, ℕ, List, [], ◌∷◌, ◌++◌, Bool, true, false, cond, find, refl, ap, sym, subst, ◌∙◌, Contains, Option, Some, None, IsTrue}
use Rattle.std.specs.Prelude.{◌↔◌, is_some, not}
use Rattle.std.specs.Borrow.{Bor}
use Rattle.std.specs.List.{slice_get}
use Rattle.std.specs.Option.{option_copied, option_to_list}
use Rattle.std.specs.Ordering.{is_eq, ordering_then}
use Rattle.std.specs.declared.cmp.Ordering.{Ordering}
use Rattle.std.specs.declared.cmp.Ordering.TheVariants.{Less, Equal, Greater}
use Rattle.std.proofs.lemmas.Cmp.{nat_list_cmp_total, tied_itself}
use Rattle.std.proofs.lemmas.Map.Lookups.{exact_bytes}
use Rattle.gql_chunks.specs.Lists.{AreInOrder}
use Rattle.gql_chunks.proofs.Members.{pairs_head}
use Rattle.gql_facts.specs.ListMembers.{Contains-cases, Contains-flat_map, Contains-flat_map_from, Contains-here, Contains-nil, Contains-there, found_in}
use Rattle.gql_readers.proofs.Merging.{is_equal}
use Rattle.gql_registry.specs.Indexed.{names_in}
use Rattle.gql_registry.specs.OperationOrders.{file_order, operation_order, title_order}
use Rattle.gql_registry.specs.declared.kept_operation.KeptOperation.{KeptOperation}
use Rattle.gql_registry.proofs.ChosenOperations.{has_name}

-- the name of an operation, if it has one
abbrev own_name : KeptOperation → List (List ℕ)
own_name k = option_to_list k.name

exact_title : (title : Option (List ℕ)) (name : List ℕ) → title_order title (Some name) ≡ Equal → title ≡ Some name
exact_title None name e = absurd (let t : Greater ≡ Equal = e in cc t)
exact_title (Some other) name e = ap Some (exact_bytes other name e)

has_title : (title : Option (List ℕ)) (name : List ℕ) → title ≡ Some name → is_eq (title_order title (Some name)) ≡ true
has_title title name e = ap is_eq (ap (λ t. title_order t (Some name)) e ∙ tied_itself nat_list_cmp_total name)

-- the name of an operation that is found is one of the names
found_name : (name : List ℕ) (xs : List KeptOperation) (x : KeptOperation) → find (has_name name) xs ≡ Some x → Contains (names_in xs) name
found_name name xs x e =
    let f = found_in (has_name name) xs x e in
    let title = exact_title x.name name (is_equal (title_order x.name (Some name)) f.1) in
    Contains-flat_map own_name xs x name f.0 (subst (λ t. Contains (option_to_list t) name) (sym title) (Contains-here name []))

-- where none is found, there is no such name
missing_by : (name : List ℕ) (b : Bool) (y : KeptOperation) (r : Option KeptOperation) → is_eq (title_order y.name (Some name)) ≡ b → cond b (Some y) r ≡ None → (y.name ≡ Some name → ⊥) × (r ≡ None)
missing_by name true y r t e = absurd (let c : Some y ≡ None = e in cc c)
missing_by name false y r t e = (λ same. let c : false ≡ true = sym t ∙ has_title y.name name same in cc c, e)

missing : (name : List ℕ) (xs : List KeptOperation) → find (has_name name) xs ≡ None → (x : KeptOperation) → Contains xs x → x.name ≡ Some name → ⊥
missing name [] e x m same = Contains-nil x m
missing name (y ∷ ys) e x m same =
    let h = missing_by name (has_name name y) y (find (has_name name) ys) refl e in
    elim (Contains-cases x y ys m) [
      | inl q ↦ h.0 (sym (ap (λ (k : KeptOperation). k.name) q) ∙ same)
      | inr l ↦ missing name ys h.1 x l same
    ]

own_from : (title : Option (List ℕ)) (name : List ℕ) → Contains (option_to_list title) name → title ≡ Some name
own_from None name m = absurd (Contains-nil name m)
own_from (Some other) name m = elim (Contains-cases name other [] m) [ inl e ↦ ap Some (sym e) | inr n ↦ absurd (Contains-nil name n) ]

missing_name : (name : List ℕ) (xs : List KeptOperation) → find (has_name name) xs ≡ None → Contains (names_in xs) name → ⊥
missing_name name xs e m =
    let f = Contains-flat_map_from own_name xs name m in
    missing name xs e f.0 f.1 (own_from f.0.name name f.2)

-- what is found behind a reference is found
pub some_copied : (o : Option (Bor KeptOperation)) → is_some o ≡ is_some (option_copied o)
some_copied None = refl
some_copied (Some x) = refl

pub is_there : (name : List ℕ) (xs : List KeptOperation) (found : Option KeptOperation) (there : Bool) → there ≡ is_some found → found ≡ find (has_name name) xs → IsTrue there ↔ Contains (names_in xs) name
is_there name xs None true e f = absurd (cc e)
is_there name xs None false e f = (λ t. absurd (cc t), λ m. absurd (missing_name name xs (sym f) m))
is_there name xs (Some x) true e f = (λ t. found_name name xs x (sym f), λ m. refl)
is_there name xs (Some x) false e f = absurd (cc e)

-- after an operation without a name come only such
unnamed_after : (a b : Option (List ℕ)) (o : Ordering) → a ≡ None → ordering_then (title_order a b) o ≡ Less → b ≡ None
unnamed_after None None o e l = refl
unnamed_after None (Some b) o e l = absurd (let t : Greater ≡ Less = l in cc t)
unnamed_after (Some a) b o e l = absurd (let t : Some a ≡ None = e in cc t)

no_names : (xs : List KeptOperation) → ((x : KeptOperation) → Contains xs x → x.name ≡ None) → names_in xs ≡ []
no_names [] h = refl
no_names (x ∷ xs) h = ap (λ (t : Option (List ℕ)). option_to_list t ++ names_in xs) (h x (Contains-here x xs)) ∙ no_names xs (λ y m. h y (Contains-there y x xs m))

-- there are no names, if there is no operation, or the first has none
pub none_first : (xs : List KeptOperation) → None ≡ slice_get xs 0 → names_in xs ≡ []
none_first [] e = refl
none_first (x ∷ xs) e = absurd (let t : None ≡ Some x = e in cc t)

unnamed_first : (xs : List KeptOperation) (x : KeptOperation) → AreInOrder operation_order xs → Some x ≡ slice_get xs 0 → x.name ≡ None → names_in xs ≡ []
unnamed_first [] x up e none = refl
unnamed_first (y ∷ ys) x up e none =
    let same : x ≡ y = let t : Some x ≡ Some y = e in cc t in
    let first : y.name ≡ None = sym (ap (λ (k : KeptOperation). k.name) same) ∙ none in
    no_names (y ∷ ys) (λ z m. elim (Contains-cases z y ys m) [
      | inl q ↦ ap (λ (k : KeptOperation). k.name) q ∙ first
      | inr l ↦ unnamed_after y.name z.name (file_order y z) first (pairs_head (λ a b. operation_order a b ≡ Less) y ys up z l)
    ])

named_first : (xs : List KeptOperation) (x : KeptOperation) (name : List ℕ) → Some x ≡ slice_get xs 0 → x.name ≡ Some name → names_in xs ≡ [] → ⊥
named_first [] x name e some none = absurd (let t : Some x ≡ None = e in cc t)
named_first (y ∷ ys) x name e some none =
    let same : x ≡ y = let t : Some x ≡ Some y = e in cc t in
    let title : y.name ≡ Some name = sym (ap (λ (k : KeptOperation). k.name) same) ∙ some in
    let c : name ∷ names_in ys ≡ [] = sym (ap (λ (t : Option (List ℕ)). option_to_list t ++ names_in ys) title) ∙ none in
    cc c

-- there are no names exactly if the first operation has none
pub first_is_unnamed : (xs : List KeptOperation) (x : KeptOperation) (none : Bool) → AreInOrder operation_order xs → Some x ≡ slice_get xs 0 → is_some x.name ≡ not none → IsTrue none ↔ (names_in xs ≡ [])
first_is_unnamed xs x none up e is = by x.name none refl is
  where
    by : (title : Option (List ℕ)) (none : Bool) → x.name ≡ title → is_some title ≡ not none → IsTrue none ↔ (names_in xs ≡ [])
    by None true t is = (λ h. unnamed_first xs x up e t, λ h. refl)
    by None false t is = absurd (let c : false ≡ true = is in cc c)
    by (Some name) true t is = absurd (let c : true ≡ false = is in cc c)
    by (Some name) false t is = (λ h. absurd (cc h), λ h. absurd (named_first xs x name e t h))
