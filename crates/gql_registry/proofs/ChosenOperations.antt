-- The operation that is found among those that are kept is the one that is chosen.
use Rattle.std.proofs.Common.{◌≡◌, inl, inr, ℕ, suc, ◌<◌, List, [], ◌∷◌, ◌++◌, Bool, true, false, cond, filter, find, get_or, length, flat_map, map, bytes_eq, refl, ap, sym, subst, ◌∙◌, Contains, Option, Some, None, option_map, arith}
use Rattle.std.specs.Prelude.{MatchOption}
use Rattle.std.specs.Borrow.{Bor}
use Rattle.std.specs.List.{AllByRecursion, slice_get}
use Rattle.std.specs.List.Sorted.{IsStrictlySortedBy}
use Rattle.std.specs.Map.{keys_of}
use Rattle.std.specs.Option.{option_or, option_to_list}
use Rattle.std.specs.Ordering.{MatchOrdering, is_eq, nat_cmp, ordering_reverse, ordering_then}
use Rattle.std.specs.Cmp.Lexicographic.{texts_ties}
use Rattle.std.specs.declared.cmp.Ordering.{Ordering}
use Rattle.std.specs.declared.cmp.Ordering.TheVariants.{Less, Equal, Greater}
use Rattle.std.proofs.lemmas.Cmp.{nat_list_cmp_total, ranked, tied_itself}
use Rattle.std.proofs.lemmas.List.{map-append}
use Rattle.std.proofs.lemmas.List.Elements.{Contains-append_cases, Contains-get_or}
use Rattle.std.proofs.lemmas.List.Folds.{find-append}
use Rattle.std.proofs.lemmas.List.Kept.{AllPairs-filter}
use Rattle.gql_ast.specs.FileMaps.{name_order}
use Rattle.gql_ast.specs.declared.definition.Definition.{Definition}
use Rattle.gql_ast.specs.declared.definition.Document.{Document}
use Rattle.gql_ast.specs.declared.definition.Tree.{Tree}
use Rattle.gql_ast.specs.declared.definition.Tree.TheVariants as tree
use Rattle.gql_ast.specs.declared.text.Name.{Name}
use Rattle.gql_chunks.specs.Lists.{AreInOrder}
use Rattle.gql_chunks.proofs.Members.{filter_from, filter_has, not_self, pairs_append, pairs_head, pairs_none, pairs_one}
use Rattle.gql_facts.specs.ListMembers.{Contains-cases, Contains-here, Contains-nil, Contains-there}
use Rattle.gql_readers.proofs.Merging.{is_equal, same_in_order}
use Rattle.gql_registry.specs.Chosen.{NamedOperation, chosen, named_by, named_in, named_of, named_operations, only, operation_by, operation_in, operations}
use Rattle.gql_registry.specs.Indexed.{HaveSame, IsIndexOf, kept_as, kept_by, kept_from, kept_in, kept_operations, text_in}
use Rattle.gql_registry.specs.OperationLaws.{file_total, operation_total, title_total}
use Rattle.gql_registry.specs.OperationOrders.{file_order, operation_order, title_order}
use Rattle.gql_registry.specs.declared.kept_operation.KeptOperation.{KeptOperation}
use Rattle.gql_registry.specs.declared.operations.Operations.{Operations}
use Rattle.gql_registry.proofs.KeptOperations.{kept_file, placed_by, placed_from}

abbrev pub of_kept : KeptOperation → Definition
of_kept k = k.definition

abbrev of_named : NamedOperation → Definition
of_named n = n.definition

-- ---- the definitions of the operations that are kept

definition_by : (file : List ℕ) (number : ℕ) (d : Definition) (t : Tree) → map of_kept (option_to_list (kept_by file number d t)) ≡ operation_by d t
definition_by file number d (tree.Operation o) = refl
definition_by file number d (tree.Fragment f) = refl
definition_by file number d (tree.Schema f) = refl
definition_by file number d (tree.Type f) = refl
definition_by file number d (tree.Directive f) = refl
definition_by file number d (tree.SchemaExtension f) = refl
definition_by file number d (tree.TypeExtension f) = refl

definitions_from : (file : List ℕ) (number : ℕ) (ds : List Definition) → map of_kept (kept_from file number ds) ≡ flat_map operation_in ds
definitions_from file number [] = refl
definitions_from file number (d ∷ ds) = map-append of_kept (option_to_list (kept_as file number d)) (kept_from file (suc number) ds)
    ∙ ap (λ zs. zs ++ map of_kept (kept_from file (suc number) ds)) (definition_by file number d d.tree)
    ∙ ap (λ zs. operation_in d ++ zs) (definitions_from file (suc number) ds)

kept_definitions : (documents : List (List ℕ × Document)) → map of_kept (kept_operations documents) ≡ operations documents
kept_definitions [] = refl
kept_definitions (f ∷ fs) = map-append of_kept (kept_in f.0 (Some f.1)) (kept_operations fs)
    ∙ ap (λ zs. zs ++ map of_kept (kept_operations fs)) (definitions_from f.0 0 f.1.definitions)
    ∙ ap (λ zs. flat_map operation_in f.1.definitions ++ zs) (kept_definitions fs)

-- ---- the first of a name

module _ (name : List ℕ) where
  abbrev pub has_name : KeptOperation → Bool
  has_name k = is_eq (title_order k.name (Some name))

  abbrev is_named : NamedOperation → Bool
  is_named n = bytes_eq name n.name

  level : (o : Ordering) → is_eq o ≡ is_eq (ordering_reverse o)
  level Less = refl
  level Equal = refl
  level Greater = refl

  same_test : (other : List ℕ) → bytes_eq name other ≡ is_eq (name_order other name)
  same_test other = texts_ties name other ∙ level (name_order name other) ∙ sym (ap is_eq (nat_list_cmp_total.antisymm other name))

  -- a search in two lists
  found_append : {A : Type 0} (p : A → Bool) (of : A → Definition) (xs ys : List A) → option_map of (find p (xs ++ ys)) ≡ option_or (option_map of (find p xs)) (option_map of (find p ys))
  found_append {A = A} p of xs ys = ap (option_map of) (find-append p xs ys) ∙ by (find p xs) (find p ys)
    where
      by : (a b : Option A) → option_map of (option_or a b) ≡ option_or (option_map of a) (option_map of b)
      by None b = refl
      by (Some x) b = refl

  first_by_name : (file : List ℕ) (number : ℕ) (d : Definition) (n : Option Name) → option_map of_kept (find has_name (record { name = text_in n; file = file; number = number; definition = d } ∷ [])) ≡ option_map of_named (find is_named (named_by d n))
  first_by_name file number d None = refl
  first_by_name file number d (Some n) = by (is_eq (name_order n.text name)) ∙ sym (ap (λ (b : Bool). option_map of_named (cond b (Some (record { name = n.text; definition = d })) None)) (same_test n.text))
    where
      by : (b : Bool) → option_map of_kept (cond b (Some (record { name = text_in (Some n); file = file; number = number; definition = d })) None) ≡ option_map of_named (cond b (Some (record { name = n.text; definition = d })) None)
      by true = refl
      by false = refl

  first_by : (file : List ℕ) (number : ℕ) (d : Definition) (t : Tree) → option_map of_kept (find has_name (option_to_list (kept_by file number d t))) ≡ option_map of_named (find is_named (named_of d t))
  first_by file number d (tree.Operation o) = first_by_name file number d o.name
  first_by file number d (tree.Fragment f) = refl
  first_by file number d (tree.Schema f) = refl
  first_by file number d (tree.Type f) = refl
  first_by file number d (tree.Directive f) = refl
  first_by file number d (tree.SchemaExtension f) = refl
  first_by file number d (tree.TypeExtension f) = refl

  first_from : (file : List ℕ) (number : ℕ) (ds : List Definition) → option_map of_kept (find has_name (kept_from file number ds)) ≡ option_map of_named (find is_named (flat_map named_in ds))
  first_from file number [] = refl
  first_from file number (d ∷ ds) = found_append has_name of_kept (option_to_list (kept_as file number d)) (kept_from file (suc number) ds)
      ∙ ap (λ o. option_or o (option_map of_kept (find has_name (kept_from file (suc number) ds)))) (first_by file number d d.tree)
      ∙ ap (λ o. option_or (option_map of_named (find is_named (named_in d))) o) (first_from file (suc number) ds)
      ∙ sym (found_append is_named of_named (named_in d) (flat_map named_in ds))

  first_in : (documents : List (List ℕ × Document)) → option_map of_kept (find has_name (kept_operations documents)) ≡ chosen documents (Some name)
  first_in [] = refl
  first_in (f ∷ fs) = found_append has_name of_kept (kept_in f.0 (Some f.1)) (kept_operations fs)
      ∙ ap (λ o. option_or o (option_map of_kept (find has_name (kept_operations fs)))) (first_from f.0 0 f.1.definitions)
      ∙ ap (λ o. option_or (option_map of_named (find is_named (flat_map named_in f.1.definitions))) o) (first_in fs)
      ∙ sym (found_append is_named of_named (flat_map named_in f.1.definitions) (named_operations fs))

-- ---- the order of the files

nat_less : (x y : ℕ) (o : Ordering) → MatchOrdering o (x < y) (x ≡ y) (y < x) → x < y → o ≡ Less
nat_less x y Less m l = refl
nat_less x y Equal m l = absurd (omega (arith, m, l))
nat_less x y Greater m l = absurd (omega (arith, m, l))

number_less : (a b : KeptOperation) → a.file ≡ b.file → a.number < b.number → file_order a b ≡ Less
number_less a b same l = ap (λ o. ordering_then o (nat_cmp a.number b.number)) (subst (λ n. name_order a.file n ≡ Equal) same (tied_itself nat_list_cmp_total a.file))
    ∙ nat_less a.number b.number (nat_cmp a.number b.number) (ranked a.number b.number (nat_cmp a.number b.number) refl) l

file_less : (a b : KeptOperation) → name_order a.file b.file ≡ Less → file_order a b ≡ Less
file_less a b l = ap (λ o. ordering_then o (nat_cmp a.number b.number)) l

abbrev Earlier : KeptOperation → KeptOperation → Type 0
Earlier a b = file_order a b ≡ Less

option_in_order : (o : Option KeptOperation) → AreInOrder file_order (option_to_list o)
option_in_order None = pairs_none Earlier
option_in_order (Some k) = pairs_one Earlier k

from_in_order : (file : List ℕ) (number : ℕ) (ds : List Definition) → AreInOrder file_order (kept_from file number ds)
from_in_order file number [] = pairs_none Earlier
from_in_order file number (d ∷ ds) = pairs_append Earlier (option_to_list (kept_as file number d)) (kept_from file (suc number) ds) (option_in_order (kept_as file number d)) (from_in_order file (suc number) ds)
    (λ x y m n.
    let p = placed_by file number d d.tree x m in
    let q = placed_from file (suc number) ds y n in
    number_less x y (p.0 ∙ sym q.file_is) (omega (arith, p.1, q.after)))

later_file : (name : List ℕ) (files : List (List ℕ × Document)) → AllByRecursion (λ n. name_order name n ≡ Less) (keys_of files) → (y : KeptOperation) → Contains (kept_operations files) y → name_order name y.file ≡ Less
later_file name [] all y m = absurd (Contains-nil y m)
later_file name (f ∷ fs) all y m = elim (Contains-append_cases (kept_in f.0 (Some f.1)) (kept_operations fs) y m) [
  | inl h ↦ subst (λ n. name_order name n ≡ Less) (sym (kept_file f.0 (Some f.1) y h)) all.0
  | inr l ↦ later_file name fs all.1 y l
]

kept_in_order : (files : List (List ℕ × Document)) → IsStrictlySortedBy name_order (keys_of files) → AreInOrder file_order (kept_operations files)
unfolding IsStrictlySortedBy
kept_in_order [] sorted = pairs_none Earlier
kept_in_order (f ∷ fs) sorted = pairs_append Earlier (kept_in f.0 (Some f.1)) (kept_operations fs) (from_in_order f.0 0 f.1.definitions) (kept_in_order fs sorted.1)
    (λ x y m n. file_less x y (subst (λ k. name_order k y.file ≡ Less) (sym (kept_file f.0 (Some f.1) x m)) (later_file f.0 fs sorted.0 y n)))

-- ---- the same operations in two orders

-- what is found first is the first of what passes
find_head : {A : Type 0} (p : A → Bool) (xs : List A) → find p xs ≡ slice_get (filter p xs) 0
find_head p [] = refl
find_head p (x ∷ xs) = by (p x) (find_head p xs)
  where
    by : (b : Bool) → find p xs ≡ slice_get (filter p xs) 0 → cond b (Some x) (find p xs) ≡ slice_get (cond b (x ∷ filter p xs) (filter p xs)) 0
    by true e = refl
    by false e = e

-- operations of one name are in the order of the files
same_name_order : (a b : KeptOperation) (name : List ℕ) → is_eq (title_order a.name (Some name)) ≡ true → is_eq (title_order b.name (Some name)) ≡ true → operation_order a b ≡ Less → file_order a b ≡ Less
same_name_order a b name p q l =
    let e : title_order a.name b.name ≡ Equal = title_total.congr a.name (Some name) b.name (equal_is p) ∙ turned_title (equal_is q) in
    sym (ap (λ o. ordering_then o (file_order a b)) e) ∙ l
  where
    equal_is : {o : Ordering} → is_eq o ≡ true → o ≡ Equal
    equal_is e = is_equal _ e

    turned_title : title_order b.name (Some name) ≡ Equal → title_order (Some name) b.name ≡ Equal
    turned_title e = title_total.antisymm (Some name) b.name ∙ ap ordering_reverse e

named_in_order : (name : List ℕ) (xs : List KeptOperation) → AreInOrder operation_order xs → AreInOrder file_order (filter (has_name name) xs)
named_in_order name xs up i j d lt within =
    let all = AllPairs-filter (λ a b. operation_order a b ≡ Less) (has_name name) xs up i j d lt within in
    let passes = λ (k : ℕ) (l : k < length (filter (has_name name) xs)). (filter_from (has_name name) xs (get_or (filter (has_name name) xs) k d) (Contains-get_or (filter (has_name name) xs) k d l)).1 in
    same_name_order (get_or (filter (has_name name) xs) i d) (get_or (filter (has_name name) xs) j d) name (passes i (omega (arith, lt, within))) (passes j within) all

same_found : (name : List ℕ) (xs ys : List KeptOperation) → AreInOrder operation_order xs → AreInOrder file_order ys → HaveSame xs ys → find (has_name name) xs ≡ find (has_name name) ys
same_found name xs ys up vp same =
    let p = has_name name in
    let equal : filter p xs ≡ filter p ys = same_in_order Earlier file_total.trans (λ x l. not_self file_order file_total x x l refl) (filter p xs) (filter p ys) (named_in_order name xs up) (AllPairs-filter Earlier p ys vp)
    (λ z c. let r = filter_from p xs z c in filter_has p ys z r.1 ((same z).0 r.0))
    (λ z c. let r = filter_from p ys z c in filter_has p xs z r.1 ((same z).1 r.0)) in
    find_head p xs ∙ ap (λ zs. slice_get zs 0) equal ∙ sym (find_head p ys)

-- the operation of a name that is found is the one that is chosen
pub chosen_by_name : (documents : List (List ℕ × Document)) (o : Operations) (name : List ℕ) → IsIndexOf documents o → option_map of_kept (find (has_name name) o.all) ≡ chosen documents (Some name)
chosen_by_name documents o name index = ap (option_map of_kept) (same_found name o.all (kept_operations documents) index.ordered (kept_in_order documents index.files) index.items) ∙ first_in name documents

-- ---- the only one

one_of : {A : Type 0} (x y : A) → Contains (x ∷ []) y → y ≡ x
one_of x y m = elim (Contains-cases y x [] m) [ inl e ↦ e | inr t ↦ absurd (Contains-nil y t) ]

-- the only one of a list, if there is one only
abbrev pub only_kept : List KeptOperation → Option Definition
only_kept (k ∷ []) = Some k.definition
only_kept _ = None

same_only : (xs ys : List KeptOperation) → AreInOrder operation_order xs → AreInOrder file_order ys → HaveSame xs ys → only_kept xs ≡ only (map of_kept ys)
same_only [] [] up vp same = refl
same_only [] (y ∷ ys) up vp same = absurd (Contains-nil y ((same y).1 (Contains-here y ys)))
same_only (x ∷ []) [] up vp same = absurd (Contains-nil x ((same x).0 (Contains-here x [])))
same_only (x ∷ []) (y ∷ []) up vp same = ap (λ (k : KeptOperation). Some k.definition) (one_of y x ((same x).0 (Contains-here x [])))
same_only (x ∷ []) (y ∷ z ∷ ys) up vp same =
    let a = one_of x y ((same y).1 (Contains-here y (z ∷ ys))) in
    let b = one_of x z ((same z).1 (Contains-there z y (z ∷ ys) (Contains-here z ys))) in
    absurd (not_self file_order file_total y z (pairs_head Earlier y (z ∷ ys) vp z (Contains-here z ys)) (a ∙ sym b))
same_only (x ∷ w ∷ xs) [] up vp same = absurd (Contains-nil x ((same x).0 (Contains-here x (w ∷ xs))))
same_only (x ∷ w ∷ xs) (y ∷ []) up vp same =
    let a = one_of y x ((same x).0 (Contains-here x (w ∷ xs))) in
    let b = one_of y w ((same w).0 (Contains-there w x (w ∷ xs) (Contains-here w xs))) in
    absurd (not_self operation_order operation_total x w (pairs_head (λ a b. operation_order a b ≡ Less) x (w ∷ xs) up w (Contains-here w xs)) (a ∙ sym b))
same_only (x ∷ w ∷ xs) (y ∷ z ∷ ys) up vp same = refl

pub chosen_only : (documents : List (List ℕ × Document)) (o : Operations) → IsIndexOf documents o → only_kept o.all ≡ chosen documents None
chosen_only documents o index = same_only o.all (kept_operations documents) index.ordered (kept_in_order documents index.files) index.items ∙ ap only (kept_definitions documents)

-- what the first two of a list say: there is none, one only, or more
pub none_kept : (all : List KeptOperation) → all ≡ [] → None ≡ only_kept all
none_kept all e = sym (ap only_kept e)

pub one_kept : (all rest : List KeptOperation) (x : KeptOperation) → all ≡ x ∷ rest → rest ≡ [] → Some x.definition ≡ only_kept all
one_kept all rest x e none = sym (ap only_kept (e ∙ ap (λ zs. x ∷ zs) none))

pub more_kept : (all rest last : List KeptOperation) (first : Option (Bor KeptOperation)) (y : KeptOperation)
    → MatchOption first ((all ≡ []) × (rest ≡ [])) (λ x. all ≡ x.now ∷ rest) → rest ≡ y ∷ last → None ≡ only_kept all
more_kept all rest last None y none e = absurd (let t : [] ≡ y ∷ last = sym none.1 ∙ e in cc t)
more_kept all rest last (Some x) y is e = sym (ap only_kept (is ∙ ap (λ zs. x.now ∷ zs) e))
