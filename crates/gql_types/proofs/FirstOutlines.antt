-- The outlines of the files that come first, and that of one file more.
use Rattle.std.proofs.Common.{◌≡◌, ◌++◌, ℕ, List, [], ◌∷◌, map, refl, sym, ap, ◌∙◌, subst}
use Rattle.std.proofs.lemmas.List.{append_assoc, append-nil, map-append}
use Rattle.std.specs.List.{AllByRecursion}
use Rattle.std.specs.List.Sorted.{IsStrictlySortedBy}
use Rattle.std.specs.Map.{keys_of}
use Rattle.std.specs.Ordering.{ordering_reverse}
use Rattle.std.specs.declared.cmp.Ordering.TheVariants.{Less, Greater}
use Rattle.std.proofs.lemmas.Cmp.{nat_list_cmp_total}
use Rattle.gql_ast.specs.FileMaps.{name_order, with_file}
use Rattle.gql_ast.specs.declared.definition.Document.{Document}
use Rattle.gql_types.specs.Outlines.{outline_at, outline_of}
use Rattle.gql_types.specs.declared.outline.FileOutline.{FileOutline}

-- a key is above each that comes before it
below : {A : Type 0} (k : List ℕ) (done rest : List (List ℕ × A)) (a : A) (e : List ℕ × A)
    → AllByRecursion (λ y. name_order e.0 y ≡ Less) (keys_of (done ++ (k, a) ∷ rest)) → name_order k e.0 ≡ Greater
below k [] rest a e all = nat_list_cmp_total.antisymm k e.0 ∙ ap ordering_reverse all.0
below k (d ∷ done) rest a e all = below k done rest a e all.1

-- a file that is above all others goes to the end
put_last : {A B : Type 0} (f : A → B) (k : List ℕ) (a : A) (b : B) (done rest : List (List ℕ × A))
    → IsStrictlySortedBy name_order (keys_of (done ++ (k, a) ∷ rest))
    → with_file (map (λ (file : List ℕ × A). (file.0, f file.1)) done) k b ≡ map (λ (file : List ℕ × A). (file.0, f file.1)) done ++ (k, b) ∷ []
unfolding IsStrictlySortedBy
put_last f k a b [] rest sorted = refl
put_last f k a b (d ∷ done) rest sorted =
    let above : name_order k d.0 ≡ Greater = below k done rest a d sorted.0 in
    rw above (ap (λ es. (d.0, f d.1) ∷ es) (put_last f k a b done rest sorted.1))

-- the outlines are those of the files before the rest
pub record AreFirst (files rest : List (List ℕ × Document)) (outlines : List (List ℕ × FileOutline)) : Type 0 where
  pub done : List (List ℕ × Document)
  pub split : files ≡ done ++ rest
  pub are : outlines ≡ map outline_at done

pub none_first : (files rest : List (List ℕ × Document)) → files ≡ rest → AreFirst files rest []
none_first files rest is = record { done = []; split = is; are = refl }

pub all_first : (files rest : List (List ℕ × Document)) (outlines : List (List ℕ × FileOutline)) → AreFirst files rest outlines → rest ≡ [] → outlines ≡ map outline_at files
all_first files rest outlines first empty =
    let whole : first.done ≡ files = sym (first.split ∙ ap (λ es. first.done ++ es) empty ∙ append-nil first.done) in
    first.are ∙ ap (map outline_at) whole

pub one_more : (files rest left : List (List ℕ × Document)) (outlines more : List (List ℕ × FileOutline)) (k : List ℕ) (a : Document) (b : FileOutline)
    → IsStrictlySortedBy name_order (keys_of files) → AreFirst files rest outlines → rest ≡ (k, a) ∷ left → b ≡ outline_of a → more ≡ with_file outlines k b
    → AreFirst files left more
one_more files rest left outlines more k a b sorted first next is put =
    let split : files ≡ first.done ++ (k, a) ∷ left = first.split ∙ ap (λ es. first.done ++ es) next in
    record {
      done = first.done ++ (k, a) ∷ [];
      split = split ∙ sym (append_assoc first.done ((k, a) ∷ []) left);
      are = put ∙ ap (λ es. with_file es k b) first.are
          ∙ put_last outline_of k a b first.done left (subst (λ es. IsStrictlySortedBy name_order (keys_of es)) split sorted)
          ∙ ap (λ o. map outline_at first.done ++ (k, o) ∷ []) is
          ∙ sym (map-append outline_at first.done ((k, a) ∷ []));
    }
