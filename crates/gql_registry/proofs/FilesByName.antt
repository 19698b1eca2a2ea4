-- Files by their names: what is found after a file is put or removed, and that the names stay in
-- order.
use Rattle.std.proofs.Common.{◌≡◌, ℕ, List, [], ◌∷◌, Bool, true, false, cond, Option, Some, None, refl, sym, ap, ◌∙◌}
use Rattle.std.specs.Ordering.{is_eq, ordering_reverse}
use Rattle.std.specs.declared.cmp.Ordering.{Ordering}
use Rattle.std.specs.declared.cmp.Ordering.TheVariants.{Less, Equal, Greater}
use Rattle.std.specs.BTreeMap.{insert_entry, is_at}
use Rattle.std.specs.Map.{lookup, remove_entry, keys_of}
use Rattle.std.specs.List.{AllByRecursion}
use Rattle.std.specs.List.Sorted.{IsStrictlySortedBy}
use Rattle.std.specs.Cmp.{tied_itself}
use Rattle.std.proofs.lemmas.Cmp.{nat_list_cmp_total}
use Rattle.gql_ast.specs.FileMaps.{name_order}

itself : (n : List ℕ) → name_order n n ≡ Equal
itself n = tied_itself nat_list_cmp_total n

flipped : (x y : List ℕ) → name_order x y ≡ Greater → name_order y x ≡ Less
flipped x y h = nat_list_cmp_total.antisymm y x ∙ ap ordering_reverse h

-- equal names compare to another name in the same way
same_to : (q x y : List ℕ) → name_order x y ≡ Equal → name_order q y ≡ name_order q x
same_to q x y tied =
    nat_list_cmp_total.antisymm q y ∙ ap ordering_reverse (sym (nat_list_cmp_total.congr x y q tied)) ∙ sym (nat_list_cmp_total.antisymm q x)

all_above : (x y : List ℕ) (ks : List (List ℕ)) → name_order x y ≡ Less → AllByRecursion (λ z. name_order y z ≡ Less) ks → AllByRecursion (λ z. name_order x z ≡ Less) ks
all_above x y [] less all = tt
all_above x y (k ∷ ks) less all = (nat_list_cmp_total.trans x y k less all.0, all_above x y ks less all.1)

module _ {T : Type 0} where
  abbrev found : List ℕ → List (List ℕ × T) → Option T
  found q es = lookup (is_at (name_order q)) es

  abbrev put : List (List ℕ × T) → List ℕ → T → List (List ℕ × T)
  put es k v = insert_entry name_order es k v

  abbrev removed : List (List ℕ × T) → List ℕ → List (List ℕ × T)
  removed es k = remove_entry (is_at (name_order k)) es

  pub put_found : (k : List ℕ) (v : T) (es : List (List ℕ × T)) → found k (put es k v) ≡ Some v
  put_found k v [] = rw (itself k) refl
  put_found k v (e ∷ es) = by (name_order k e.0) refl (put_found k v es)
    where
      by : (o : Ordering) → name_order k e.0 ≡ o → found k (put es k v) ≡ Some v → found k (put (e ∷ es) k v) ≡ Some v
      by Less is rest = rw (is, itself k) refl
      by Equal is rest = rw (is, is) refl
      by Greater is rest = rw (is, is) rest

  pub put_other : (q k : List ℕ) (v : T) (es : List (List ℕ × T)) → is_eq (name_order q k) ≡ false → found q (put es k v) ≡ found q es
  put_other q k v [] apart = rw apart refl
  put_other q k v (e ∷ es) apart = by (name_order k e.0) refl (put_other q k v es apart)
    where
      by : (o : Ordering) → name_order k e.0 ≡ o → found q (put es k v) ≡ found q es → found q (put (e ∷ es) k v) ≡ found q (e ∷ es)
      by Less is rest = rw (is, apart) refl
      by Equal is rest = let away : is_eq (name_order q e.0) ≡ false = ap is_eq (same_to q k e.0 is) ∙ apart in rw (is, away) refl
      by Greater is rest = rw is (ap (λ o. cond (is_eq (name_order q e.0)) (Some e.1) o) rest)

  pub removed_other : (q k : List ℕ) (es : List (List ℕ × T)) → is_eq (name_order q k) ≡ false → found q (removed es k) ≡ found q es
  removed_other q k [] apart = refl
  removed_other q k (e ∷ es) apart = by (name_order k e.0) refl (removed_other q k es apart)
    where
      by : (o : Ordering) → name_order k e.0 ≡ o → found q (removed es k) ≡ found q es → found q (removed (e ∷ es) k) ≡ found q (e ∷ es)
      by Less is rest = rw is (ap (λ o. cond (is_eq (name_order q e.0)) (Some e.1) o) rest)
      by Equal is rest = let away : is_eq (name_order q e.0) ≡ false = ap is_eq (same_to q k e.0 is) ∙ apart in rw (is, away) refl
      by Greater is rest = rw is (ap (λ o. cond (is_eq (name_order q e.0)) (Some e.1) o) rest)

  -- a name that is equal to one below all names is not there
  absent : (x k : List ℕ) (es : List (List ℕ × T)) → name_order k x ≡ Equal → AllByRecursion (λ y. name_order x y ≡ Less) (keys_of es) → found k es ≡ None
  absent x k [] tied low = refl
  absent x k (e ∷ es) tied low =
      let less : name_order k e.0 ≡ Less = nat_list_cmp_total.congr k x e.0 tied ∙ low.0 in
      rw less (absent x k es tied low.1)

  pub removed_none : (k : List ℕ) (es : List (List ℕ × T)) → IsStrictlySortedBy name_order (keys_of es) → found k (removed es k) ≡ None
  unfolding IsStrictlySortedBy
  removed_none k [] sorted = refl
  removed_none k (e ∷ es) sorted = by (name_order k e.0) refl (removed_none k es sorted.1)
    where
      by : (o : Ordering) → name_order k e.0 ≡ o → found k (removed es k) ≡ None → found k (removed (e ∷ es) k) ≡ None
      by Less is rest = rw (is, is) rest
      by Equal is rest = rw is (absent e.0 k es is sorted.0)
      by Greater is rest = rw (is, is) rest

  all_removed : (P : List ℕ → Type 0) (k : List ℕ) (es : List (List ℕ × T)) → AllByRecursion P (keys_of es) → AllByRecursion P (keys_of (removed es k))
  all_removed P k [] all = tt
  all_removed P k (e ∷ es) all = by (is_eq (name_order k e.0)) refl (all_removed P k es all.1)
    where
      by : (b : Bool) → is_eq (name_order k e.0) ≡ b → AllByRecursion P (keys_of (removed es k)) → AllByRecursion P (keys_of (removed (e ∷ es) k))
      by true is rest = rw is all.1
      by false is rest = rw is (all.0, rest)

  pub removed_sorted : (k : List ℕ) (es : List (List ℕ × T)) → IsStrictlySortedBy name_order (keys_of es) → IsStrictlySortedBy name_order (keys_of (removed es k))
  unfolding IsStrictlySortedBy
  removed_sorted k [] sorted = tt
  removed_sorted k (e ∷ es) sorted = by (is_eq (name_order k e.0)) refl (removed_sorted k es sorted.1)
    where
      by : (b : Bool) → is_eq (name_order k e.0) ≡ b → IsStrictlySortedBy name_order (keys_of (removed es k)) → IsStrictlySortedBy name_order (keys_of (removed (e ∷ es) k))
      by true is rest = rw is sorted.1
      by false is rest = rw is (all_removed (λ y. name_order e.0 y ≡ Less) k es sorted.0, rest)

  all_put : (P : List ℕ → Type 0) (k : List ℕ) (v : T) (es : List (List ℕ × T)) → AllByRecursion P (keys_of es) → P k → AllByRecursion P (keys_of (put es k v))
  all_put P k v [] all here = (here, tt)
  all_put P k v (e ∷ es) all here = by (name_order k e.0) refl (all_put P k v es all.1 here)
    where
      by : (o : Ordering) → name_order k e.0 ≡ o → AllByRecursion P (keys_of (put es k v)) → AllByRecursion P (keys_of (put (e ∷ es) k v))
      by Less is rest = rw is (here, all)
      by Equal is rest = rw is all
      by Greater is rest = rw is (all.0, rest)

  pub put_sorted : (k : List ℕ) (v : T) (es : List (List ℕ × T)) → IsStrictlySortedBy name_order (keys_of es) → IsStrictlySortedBy name_order (keys_of (put es k v))
  unfolding IsStrictlySortedBy
  put_sorted k v [] sorted = (tt, tt)
  put_sorted k v (e ∷ es) sorted = by (name_order k e.0) refl (put_sorted k v es sorted.1)
    where
      by : (o : Ordering) → name_order k e.0 ≡ o → IsStrictlySortedBy name_order (keys_of (put es k v)) → IsStrictlySortedBy name_order (keys_of (put (e ∷ es) k v))
      by Less is rest = rw is ((is, all_above k e.0 (keys_of es) is sorted.0), sorted)
      by Equal is rest = rw is sorted
      by Greater is rest = rw is (all_put (λ y. name_order e.0 y ≡ Less) k v es sorted.0 (flipped k e.0 is), rest)
