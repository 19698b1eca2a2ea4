-- Values under the names of the files that come first, and one file more.
use Rattle.std.proofs.Common.{◌≡◌, ◌++◌, ℕ, List, [], ◌∷◌, sym, ap, ◌∙◌, subst}
use Rattle.std.proofs.lemmas.List.{append_assoc, append-nil}
use Rattle.std.specs.List.{AllByRecursion, AllZip}
use Rattle.std.specs.List.Sorted.{IsStrictlySortedBy}
use Rattle.std.specs.Map.{keys_of}
use Rattle.std.specs.Ordering.{ordering_reverse}
use Rattle.std.specs.declared.cmp.Ordering.TheVariants.{Less, Greater}
use Rattle.std.proofs.lemmas.Cmp.{nat_list_cmp_total}
use Rattle.gql_ast.specs.FileMaps.{name_order, with_file}

-- a key is above each that comes before it
below : {A : Type 0} (k : List ℕ) (done rest : List (List ℕ × A)) (a : A) (e : List ℕ × A)
    → AllByRecursion (λ y. name_order e.0 y ≡ Less) (keys_of (done ++ (k, a) ∷ rest)) → name_order k e.0 ≡ Greater
below k [] rest a e all = nat_list_cmp_total.antisymm k e.0 ∙ ap ordering_reverse all.0
below k (d ∷ done) rest a e all = below k done rest a e all.1

module _ {A B : Type 0} (R : List ℕ × A → List ℕ × B → Type 0) where
  -- the values are those of the files before the rest
  pub record AreFirst (files rest : List (List ℕ × A)) (values : List (List ℕ × B)) : Type 0 where
    pub done : List (List ℕ × A)
    pub split : files ≡ done ++ rest
    pub zipped : AllZip R done values

  pub none_first : (files rest : List (List ℕ × A)) → files ≡ rest → AreFirst files rest []
  none_first files rest is = record { done = []; split = is; zipped = tt }

  pub all_first : (files rest : List (List ℕ × A)) (values : List (List ℕ × B)) → AreFirst files rest values → rest ≡ [] → AllZip R files values
  all_first files rest values first empty =
      let whole : first.done ≡ files = sym (first.split ∙ ap (λ es. first.done ++ es) empty ∙ append-nil first.done) in
      subst (λ es. AllZip R es values) whole first.zipped

  module _ (named : (f : List ℕ × A) (v : List ℕ × B) → R f v → v.0 ≡ f.0) where
    -- the value of one file more goes to the end
    put_last : (k : List ℕ) (a : A) (b : B) (done rest : List (List ℕ × A)) (values : List (List ℕ × B))
        → IsStrictlySortedBy name_order (keys_of (done ++ (k, a) ∷ rest)) → AllZip R done values → R (k, a) (k, b)
        → AllZip R (done ++ (k, a) ∷ []) (with_file values k b)
    unfolding IsStrictlySortedBy
    put_last k a b [] rest [] sorted zipped r = (r, tt)
    put_last k a b [] rest (v ∷ values) sorted zipped r = absurd zipped
    put_last k a b (d ∷ done) rest [] sorted zipped r = absurd zipped
    put_last k a b (d ∷ done) rest (v ∷ values) sorted zipped r =
        let above : name_order k v.0 ≡ Greater = ap (name_order k) (named d v zipped.0) ∙ below k done rest a d sorted.0 in
        rw above (zipped.0, put_last k a b done rest values sorted.1 zipped.1 r)

    pub one_more : (files rest left : List (List ℕ × A)) (values more : List (List ℕ × B)) (k : List ℕ) (a : A) (b : B)
        → IsStrictlySortedBy name_order (keys_of files) → AreFirst files rest values → rest ≡ (k, a) ∷ left → R (k, a) (k, b) → more ≡ with_file values k b
        → AreFirst files left more
    one_more files rest left values more k a b sorted first next r put =
        let split : files ≡ first.done ++ (k, a) ∷ left = first.split ∙ ap (λ es. first.done ++ es) next in
        record {
          done = first.done ++ (k, a) ∷ [];
          split = split ∙ sym (append_assoc first.done ((k, a) ∷ []) left);
          zipped = subst (λ vs. AllZip R (first.done ++ (k, a) ∷ []) vs) (sym put)
              (put_last k a b first.done left values (subst (λ es. IsStrictlySortedBy name_order (keys_of es)) split sorted) first.zipped r);
        }
