-- One name more that has an index.
use Rattle.std.proofs.Common.{◌≡◌, ◌∙◌, ℕ, List, [], ◌∷◌, Bool, true, false, cond, Option, Some, None, refl, sym, ap}
use Rattle.std.specs.Prelude.{bytes_eq, is_some}
use Rattle.std.specs.Cmp.{tied_itself}
use Rattle.std.specs.Cmp.Lexicographic.{texts_ties}
use Rattle.std.specs.Option.{option_or}
use Rattle.std.specs.Ordering.{is_eq, ordering_reverse}
use Rattle.std.specs.declared.cmp.Ordering.{Ordering}
use Rattle.std.specs.declared.cmp.Ordering.TheVariants.{Less, Equal, Greater}
use Rattle.std.proofs.lemmas.Cmp.{nat_list_cmp_total}
use Rattle.std.proofs.lemmas.Slice.Eq.{bytes_eq-Decides}
use Rattle.gql_ast.specs.FileMaps.{file_named, name_order, with_file}
use Rattle.gql_ast.specs.declared.fault.FileSide.{FileSide}
use Rattle.gql_ast.specs.declared.fault.FileSide.TheVariants.{Schema, Documents}
use Rattle.gql_found.specs.Spots.{HasNoNames, HaveSameNames, IsNamed, index_by, index_of}
use Rattle.gql_found.specs.declared.sources.Sources.{Sources}

itself : (n : List ℕ) → name_order n n ≡ Equal
itself n = tied_itself nat_list_cmp_total n

-- equal names compare to another name in the same way
same_to : (q x y : List ℕ) → name_order x y ≡ Equal → name_order q y ≡ name_order q x
same_to q x y tied =
    nat_list_cmp_total.antisymm q y ∙ ap ordering_reverse (sym (nat_list_cmp_total.congr x y q tied)) ∙ sym (nat_list_cmp_total.antisymm q x)

put_found : (k : List ℕ) (v : ℕ) (es : List (List ℕ × ℕ)) → file_named (with_file es k v) k ≡ Some v
put_found k v [] = rw (itself k) refl
put_found k v (e ∷ es) = by (name_order k e.0) refl (put_found k v es)
  where
    by : (o : Ordering) → name_order k e.0 ≡ o → file_named (with_file es k v) k ≡ Some v → file_named (with_file (e ∷ es) k v) k ≡ Some v
    by Less is rest = rw (is, itself k) refl
    by Equal is rest = rw (is, is) refl
    by Greater is rest = rw (is, is) rest

put_other : (q k : List ℕ) (v : ℕ) (es : List (List ℕ × ℕ)) → is_eq (name_order q k) ≡ false → file_named (with_file es k v) q ≡ file_named es q
put_other q k v [] apart = rw apart refl
put_other q k v (e ∷ es) apart = by (name_order k e.0) refl (put_other q k v es apart)
  where
    by : (o : Ordering) → name_order k e.0 ≡ o → file_named (with_file es k v) q ≡ file_named es q → file_named (with_file (e ∷ es) k v) q ≡ file_named (e ∷ es) q
    by Less is rest = rw (is, apart) refl
    by Equal is rest = let away : is_eq (name_order q e.0) ≡ false = ap is_eq (same_to q k e.0 is) ∙ apart in rw (is, away) refl
    by Greater is rest = rw is (ap (λ o. cond (is_eq (name_order q e.0)) (Some e.1) o) rest)

-- whether two names are the same, either way round
ties : (name q : List ℕ) → is_eq (name_order q name) ≡ bytes_eq name q
ties name q = sym (texts_ties q name) ∙ turned (bytes_eq q name) (bytes_eq name q) refl refl
  where
    turned : (a b : Bool) → bytes_eq q name ≡ a → bytes_eq name q ≡ b → bytes_eq q name ≡ bytes_eq name q
    turned true true l r = l ∙ sym r
    turned false false l r = l ∙ sym r
    turned true false l r = absurd (cc (sym ((bytes_eq-Decides name q).1 (sym ((bytes_eq-Decides q name).0 l))) ∙ r))
    turned false true l r = absurd (cc (sym ((bytes_eq-Decides q name).1 (sym ((bytes_eq-Decides name q).0 r))) ∙ l))

or_none : (x : Option ℕ) → x ≡ option_or x None
or_none None = refl
or_none (Some v) = refl

-- a name that had no index gets this one
pub named_more : (m : List (List ℕ × ℕ)) (name : List ℕ) (at : ℕ) → is_some (file_named m name) ≡ false → (q : List ℕ)
    → file_named (with_file m name at) q ≡ option_or (file_named m q) (cond (bytes_eq name q) (Some at) None)
named_more m name at free q = by (bytes_eq name q) refl
  where
    none : (o : Option ℕ) → is_some o ≡ false → o ≡ None
    none None e = refl
    none (Some v) e = absurd (cc e)

    by : (b : Bool) → bytes_eq name q ≡ b → file_named (with_file m name at) q ≡ option_or (file_named m q) (cond b (Some at) None)
    by true is =
        let same : name ≡ q = (bytes_eq-Decides name q).0 is in
        ap (λ n. file_named (with_file m name at) n) (sym same) ∙ put_found name at m
        ∙ ap (λ o. option_or o (Some at)) (sym (none (file_named m name) free))
        ∙ ap (λ n. option_or (file_named m n) (Some at)) same
    by false is = put_other q name at m (ties name q ∙ is) ∙ or_none (file_named m q)

-- a name that has an index keeps it
pub named_kept : (m : List (List ℕ × ℕ)) (name : List ℕ) (at : ℕ) → is_some (file_named m name) ≡ true → (q : List ℕ)
    → file_named m q ≡ option_or (file_named m q) (cond (bytes_eq name q) (Some at) None)
named_kept m name at has q = by (bytes_eq name q) refl
  where
    some : (o : Option ℕ) → is_some o ≡ true → o ≡ option_or o (Some at)
    some None e = absurd (cc e)
    some (Some v) e = refl

    by : (b : Bool) → bytes_eq name q ≡ b → file_named m q ≡ option_or (file_named m q) (cond b (Some at) None)
    by true is =
        let same : name ≡ q = (bytes_eq-Decides name q).0 is in
        ap (file_named m) (sym same) ∙ some (file_named m name) has ∙ ap (λ n. option_or (file_named m n) (Some at)) same
    by false is = or_none (file_named m q)

-- files without names
pub no_names : (s : Sources) → s.schema ≡ [] → s.documents ≡ [] → HasNoNames s
no_names s schema documents Schema name = ap (λ m. file_named m name) schema
no_names s schema documents Documents name = ap (λ m. file_named m name) documents

-- what is named among the schema files, and among the documents
module _ (name : List ℕ) (at : ℕ) (old new : Sources) where
  pub of_schema : ((q : List ℕ) → file_named new.schema q ≡ option_or (file_named old.schema q) (cond (bytes_eq name q) (Some at) None)) → new.documents ≡ old.documents → IsNamed Schema name at old new
  of_schema named same Schema q = named q
  of_schema named same Documents q = ap (λ m. file_named m q) same ∙ or_none (file_named old.documents q)

  pub of_documents : ((q : List ℕ) → file_named new.documents q ≡ option_or (file_named old.documents q) (cond (bytes_eq name q) (Some at) None)) → new.schema ≡ old.schema → IsNamed Documents name at old new
  of_documents named same Documents q = named q
  of_documents named same Schema q = ap (λ m. file_named m q) same ∙ or_none (file_named old.schema q)

-- a name that was given an index, after names that stayed as they were
pub named_after : (side : FileSide) (name given : List ℕ) (at index : ℕ) (old mid new : Sources) → given ≡ name → index ≡ at → HaveSameNames old mid → IsNamed side given index mid new
    → IsNamed side name at old new
named_after side name given at index old mid new names indices same named other q =
    named other q
    ∙ ap (λ o. option_or o (index_by side given index other q)) (same other q)
    ∙ ap (λ n. option_or (index_of old other q) (index_by side n index other q)) names
    ∙ ap (λ i. option_or (index_of old other q) (index_by side name i other q)) indices
