-- A file that was put or removed is put back: the files are as before.
use Rattle.std.proofs.Common.{◌≡◌, ℕ, List, [], ◌∷◌, Option, Some, None, refl, sym, ap, ◌∙◌}
use Rattle.std.specs.declared.cmp.Ordering.{Ordering}
use Rattle.std.specs.declared.cmp.Ordering.TheVariants.{Less, Equal, Greater}
use Rattle.std.specs.BTreeMap.{insert_entry, is_at}
use Rattle.std.specs.Map.{lookup, remove_entry, keys_of}
use Rattle.std.specs.List.{AllByRecursion}
use Rattle.std.specs.List.Sorted.{IsStrictlySortedBy}
use Rattle.std.specs.Cmp.{tied_itself}
use Rattle.std.proofs.lemmas.Cmp.{nat_list_cmp_total}
use Rattle.std.proofs.lemmas.Map.Lookups.{exact_bytes}
use Rattle.gql_ast.specs.FileMaps.{name_order}
use Rattle.gql_ast.specs.declared.definition.Document.{Document}
use Rattle.gql_registry.proofs.FilesByName.{put_found, removed_none}
use Rattle.gql_types.specs.Outlines.{edited_files}

none_is_some : {T : Type 0} (v : T) → None ≡ Some v → ⊥
none_is_some v e = cc e

itself : (n : List ℕ) → name_order n n ≡ Equal
itself n = tied_itself nat_list_cmp_total n

-- all names above one are above an equal one
above_equal : (k x : List ℕ) (ks : List (List ℕ)) → name_order k x ≡ Equal → AllByRecursion (λ y. name_order x y ≡ Less) ks → AllByRecursion (λ y. name_order k y ≡ Less) ks
above_equal k x [] tied all = tt
above_equal k x (q ∷ ks) tied all = (nat_list_cmp_total.congr k x q tied ∙ all.0, above_equal k x ks tied all.1)

module _ {T : Type 0} where
  abbrev found : List ℕ → List (List ℕ × T) → Option T
  found q es = lookup (is_at (name_order q)) es

  abbrev put : List (List ℕ × T) → List ℕ → T → List (List ℕ × T)
  put es k v = insert_entry name_order es k v

  abbrev removed : List (List ℕ × T) → List ℕ → List (List ℕ × T)
  removed es k = remove_entry (is_at (name_order k)) es

  -- a name below all names is not there
  pub absent_below : (k x : List ℕ) (es : List (List ℕ × T)) → name_order k x ≡ Less → AllByRecursion (λ y. name_order x y ≡ Less) (keys_of es) → found k es ≡ None
  absent_below k x [] less all = refl
  absent_below k x (e ∷ es) less all =
      let below : name_order k e.0 ≡ Less = nat_list_cmp_total.trans k x e.0 less all.0 in
      rw below (absent_below k x es less all.1)

  -- a name below all names is put first
  put_first : (k : List ℕ) (v : T) (es : List (List ℕ × T)) → AllByRecursion (λ y. name_order k y ≡ Less) (keys_of es) → put es k v ≡ (k, v) ∷ es
  put_first k v [] all = refl
  put_first k v (e ∷ es) all = rw all.0 refl

  some_same : (a b : T) → Some a ≡ Some b → a ≡ b
  some_same a b e = cc e

  put_over : (k : List ℕ) (v old : T) (es : List (List ℕ × T)) → IsStrictlySortedBy name_order (keys_of es) → found k es ≡ Some old → put (put es k v) k old ≡ es
  unfolding IsStrictlySortedBy
  put_over k v old [] sorted is = absurd (none_is_some old is)
  put_over k v old (e ∷ es) sorted is = by (name_order k e.0) refl is (put_over k v old es sorted.1)
    where
      by : (o : Ordering) → name_order k e.0 ≡ o → found k (e ∷ es) ≡ Some old → (found k es ≡ Some old → put (put es k v) k old ≡ es) → put (put (e ∷ es) k v) k old ≡ e ∷ es
      by Less o is rest =
          let later : found k es ≡ Some old = rw o at is in
          absurd (none_is_some old (sym (absent_below k e.0 es o sorted.0) ∙ later))
      by Equal o is rest =
          let its : Some e.1 ≡ Some old = rw o at is in
          rw (o, o) (ap (λ w. (e.0, w) ∷ es) (sym (some_same e.1 old its)))
      by Greater o is rest =
          let later : found k es ≡ Some old = rw o at is in
          rw (o, o) (ap (λ xs. e ∷ xs) (rest later))

  put_again : (k : List ℕ) (old : T) (es : List (List ℕ × T)) → IsStrictlySortedBy name_order (keys_of es) → found k es ≡ Some old → put (removed es k) k old ≡ es
  unfolding IsStrictlySortedBy
  put_again k old [] sorted is = absurd (none_is_some old is)
  put_again k old (e ∷ es) sorted is = by (name_order k e.0) refl is (put_again k old es sorted.1)
    where
      by : (o : Ordering) → name_order k e.0 ≡ o → found k (e ∷ es) ≡ Some old → (found k es ≡ Some old → put (removed es k) k old ≡ es) → put (removed (e ∷ es) k) k old ≡ e ∷ es
      by Less o is rest =
          let later : found k es ≡ Some old = rw o at is in
          absurd (none_is_some old (sym (absent_below k e.0 es o sorted.0) ∙ later))
      by Equal o is rest =
          let its : Some e.1 ≡ Some old = rw o at is in
          rw o (put_first k old es (above_equal k e.0 (keys_of es) o sorted.0)
          ∙ ap (λ w. (k, w) ∷ es) (sym (some_same e.1 old its)) ∙ ap (λ q. (q, e.1) ∷ es) (exact_bytes k e.0 o))
      by Greater o is rest =
          let later : found k es ≡ Some old = rw o at is in
          rw (o, o) (ap (λ xs. e ∷ xs) (rest later))

  removed_again : (k : List ℕ) (v : T) (es : List (List ℕ × T)) → found k es ≡ None → removed (put es k v) k ≡ es
  removed_again k v [] is = rw (itself k) refl
  removed_again k v (e ∷ es) is = by (name_order k e.0) refl is (removed_again k v es)
    where
      by : (o : Ordering) → name_order k e.0 ≡ o → found k (e ∷ es) ≡ None → (found k es ≡ None → removed (put es k v) k ≡ es) → removed (put (e ∷ es) k v) k ≡ e ∷ es
      by Less o is rest = rw (o, itself k) refl
      by Equal o is rest =
          let its : Some e.1 ≡ None = rw o at is in
          absurd (none_is_some e.1 (sym its))
      by Greater o is rest =
          let later : found k es ≡ None = rw o at is in
          rw (o, o) (ap (λ xs. e ∷ xs) (rest later))

  removed_none_there : (k : List ℕ) (es : List (List ℕ × T)) → found k es ≡ None → removed es k ≡ es
  removed_none_there k [] is = refl
  removed_none_there k (e ∷ es) is = by (name_order k e.0) refl is (removed_none_there k es)
    where
      by : (o : Ordering) → name_order k e.0 ≡ o → found k (e ∷ es) ≡ None → (found k es ≡ None → removed es k ≡ es) → removed (e ∷ es) k ≡ e ∷ es
      by Less o is rest =
          let later : found k es ≡ None = rw o at is in
          rw o (ap (λ xs. e ∷ xs) (rest later))
      by Equal o is rest =
          let its : Some e.1 ≡ None = rw o at is in
          absurd (none_is_some e.1 (sym its))
      by Greater o is rest =
          let later : found k es ≡ None = rw o at is in
          rw o (ap (λ xs. e ∷ xs) (rest later))

-- the files of a side after an edit of one file, and the edit that puts back what was there
pub put_back : (es : List (List ℕ × Document)) (k : List ℕ) (o : Option Document) → IsStrictlySortedBy name_order (keys_of es)
    → edited_files (edited_files es k o) k (found k es) ≡ es
put_back es k o sorted = by (found k es) refl o
  where
    by : (f : Option Document) → found k es ≡ f → (o : Option Document) → edited_files (edited_files es k o) k f ≡ es
    by (Some old) is (Some v) = put_over k v old es sorted is
    by (Some old) is None = put_again k old es sorted is
    by None is (Some v) = removed_again k v es is
    by None is None =
        let gone = removed_none_there k es is in
        ap (λ xs. removed xs k) gone ∙ gone

-- what is found under the name of the edited file
pub edited_found : (es : List (List ℕ × Document)) (k : List ℕ) (o : Option Document) → IsStrictlySortedBy name_order (keys_of es)
    → found k (edited_files es k o) ≡ o
edited_found es k (Some v) sorted = put_found k v es
edited_found es k None sorted = removed_none k es sorted
