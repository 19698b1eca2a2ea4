-- The operations that are kept: those of files one after the other, and after an edit of one file.
use Rattle.std.proofs.Common.{◌≡◌, ◌⊎◌, ◌+◌, inl, inr, ℕ, zero, suc, ◌≤◌, List, [], ◌∷◌, ◌++◌, append_assoc, append-nil, take, length, ◌<◌, get_or, cond, refl, ap, sym, subst, ◌∙◌, Contains, Option, Some, None, arith}
use Rattle.std.specs.Prelude.{◌↔◌}
use Rattle.std.specs.List.{AllByRecursion}
use Rattle.std.specs.List.Sorted.{IsStrictlySortedBy}
use Rattle.std.specs.Map.{keys_of}
use Rattle.std.specs.Option.{option_to_list}
use Rattle.std.specs.Ordering.{is_eq, match_ordering, nat_cmp, ordering_then}
use Rattle.std.specs.declared.cmp.Ordering.{Ordering}
use Rattle.std.specs.declared.cmp.Ordering.TheVariants.{Less, Equal, Greater}
use Rattle.std.proofs.lemmas.Grind.{flat_map-append}
use Rattle.std.proofs.lemmas.List.Elements.{Contains-append_left, Contains-append_right, Contains-append_cases}
use Rattle.std.proofs.lemmas.Cmp.{nat_list_cmp_total, tied_itself}
use Rattle.std.proofs.lemmas.Map.Lookups.{exact_bytes, exact_unsigned}
use Rattle.gql_ast.specs.FileMaps.{file_named, name_order, with_file, without_file}
use Rattle.gql_ast.specs.declared.definition.Definition.{Definition}
use Rattle.gql_ast.specs.declared.definition.Document.{Document}
use Rattle.gql_ast.specs.declared.definition.Tree.{Tree}
use Rattle.gql_ast.specs.declared.definition.Tree.TheVariants as tree
use Rattle.gql_chunks.specs.Edits.{IsEdited, IsFree}
use Rattle.gql_chunks.specs.Lists.{AreInOrder}
use Rattle.gql_chunks.proofs.Members.{pairs_none}
use Rattle.gql_facts.specs.ListMembers.{Contains-cases, Contains-here, Contains-nil}
use Rattle.gql_registry.specs.Indexed.{AreOperationsIn, HaveSame, IsIndexOf, IsWith, kept_as, kept_by, kept_from, kept_in, kept_operations}
use Rattle.gql_registry.specs.OperationLaws.{operation_total}
use Rattle.gql_registry.specs.OperationOrders.{file_order, operation_order, title_order}
use Rattle.gql_registry.specs.declared.operations.Operations.{Operations}
use Rattle.gql_registry.specs.declared.kept_operation.KeptOperation.{KeptOperation}
use Rattle.gql_types.specs.Outlines.{edited_files}

not_less : {a b : ℕ} → a < b → a ≡ b → ⊥
not_less l e = omega (arith, l, e)

-- ---- one file

-- an operation of a file has its name, and a number from that of the first on
pub record IsPlaced (file : List ℕ) (number : ℕ) (x : KeptOperation) : Type 0 where
  pub file_is : x.file ≡ file
  pub after : number ≤ x.number

pub placed_by : (file : List ℕ) (number : ℕ) (d : Definition) (t : Tree) (x : KeptOperation) → Contains (option_to_list (kept_by file number d t)) x → (x.file ≡ file) × (x.number ≡ number)
placed_by file number d (tree.Operation o) x m = elim (Contains-cases x _ [] m) [
  | inl e ↦ (ap (λ (y : KeptOperation). y.file) e, ap (λ (y : KeptOperation). y.number) e)
  | inr n ↦ absurd (Contains-nil x n)
]
placed_by file number d (tree.Fragment f) x m = absurd (Contains-nil x m)
placed_by file number d (tree.Schema f) x m = absurd (Contains-nil x m)
placed_by file number d (tree.Type f) x m = absurd (Contains-nil x m)
placed_by file number d (tree.Directive f) x m = absurd (Contains-nil x m)
placed_by file number d (tree.SchemaExtension f) x m = absurd (Contains-nil x m)
placed_by file number d (tree.TypeExtension f) x m = absurd (Contains-nil x m)

pub placed_from : (file : List ℕ) (number : ℕ) (ds : List Definition) (x : KeptOperation) → Contains (kept_from file number ds) x → IsPlaced file number x
placed_from file number [] x m = absurd (Contains-nil x m)
placed_from file number (d ∷ ds) x m = elim (Contains-append_cases (option_to_list (kept_as file number d)) (kept_from file (suc number) ds) x m) [
  | inl here ↦ let p = placed_by file number d d.tree x here in record { file_is = p.0; after = omega (arith, p.1) }
  | inr later ↦ let p = placed_from file (suc number) ds x later in record { file_is = p.file_is; after = omega (arith, p.after) }
]

-- the operations of a file are in it
pub kept_file : (file : List ℕ) (document : Option Document) (x : KeptOperation) → Contains (kept_in file document) x → x.file ≡ file
kept_file file None x m = absurd (Contains-nil x m)
kept_file file (Some document) x m = (placed_from file 0 document.definitions x m).file_is

-- one definition more; its number is j
pub kept_more : (file : List ℕ) (number j i : ℕ) (ds : List Definition) (d : Definition) → j ≡ number + i → i < length ds
    → kept_from file number (take (suc i) ds) ≡ kept_from file number (take i ds) ++ option_to_list (kept_as file j (get_or ds i d))
kept_more file number j i [] d e l = absurd (omega (arith, l))
kept_more file number j zero (x ∷ ds) d e l =
    let same : number ≡ j = omega (arith, e) in
    append-nil (option_to_list (kept_as file number x)) ∙ ap (λ n. option_to_list (kept_as file n x)) same
kept_more file number j (suc i) (x ∷ ds) d e l =
    ap (λ zs. option_to_list (kept_as file number x) ++ zs) (kept_more file (suc number) j i ds d (omega (arith, e)) (omega (arith, l)))
    ∙ sym (append_assoc (option_to_list (kept_as file number x)) (kept_from file (suc number) (take i ds)) (option_to_list (kept_as file j (get_or ds i d))))

-- the number of each is below the number of definitions that were looked at
below_by : (file : List ℕ) (m n : ℕ) (ds : List Definition) (y : KeptOperation) → Contains (kept_from file m (take n ds)) y → y.number < m + n
below_by file m zero [] y c = absurd (Contains-nil y c)
below_by file m (suc n) [] y c = absurd (Contains-nil y c)
below_by file m zero (d ∷ ds) y c = absurd (Contains-nil y c)
below_by file m (suc n) (d ∷ ds) y c = elim (Contains-append_cases (option_to_list (kept_as file m d)) (kept_from file (suc m) (take n ds)) y c) [
  | inl h ↦ let p = placed_by file m d d.tree y h in omega (arith, p.1)
  | inr l ↦ let r = below_by file (suc m) n ds y l in omega (arith, r)
]

pub below_taken : (file : List ℕ) (n : ℕ) (ds : List Definition) (y : KeptOperation) → Contains (kept_from file 0 (take n ds)) y → y.number < n
below_taken file n ds y c = let r = below_by file 0 n ds y c in omega (arith, r)

-- ---- places

-- what is ordered as equal is of one file, and has one number there
then_equal : (o p : Ordering) → ordering_then o p ≡ Equal → (o ≡ Equal) × (p ≡ Equal)
then_equal Less p e = absurd (let t : Less ≡ Equal = e in cc t)
then_equal Equal p e = (refl, e)
then_equal Greater p e = absurd (let t : Greater ≡ Equal = e in cc t)

pub at_one_place : (x y : KeptOperation) → operation_order x y ≡ Equal → (x.file ≡ y.file) × (x.number ≡ y.number)
at_one_place x y e =
    let by_name = then_equal (title_order x.name y.name) (file_order x y) e in
    let by_file = then_equal (name_order x.file y.file) (nat_cmp x.number y.number) by_name.1 in
    (exact_bytes x.file y.file by_file.0, exact_unsigned x.number y.number by_file.1)

-- an operation is at its own place
pub at_own_place : (x : KeptOperation) → operation_order x x ≡ Equal
at_own_place x = tied_itself operation_total x

-- ---- an operation comes to those before it in its file

free_of_none : (x : KeptOperation) → IsFree operation_order [] x
free_of_none x o m e = Contains-nil o m

-- an operation that comes is added, where none is at its place
pub added : (before after : List KeptOperation) (x : KeptOperation) → IsEdited operation_order before [] (x ∷ []) after → ((y : KeptOperation) → Contains before y → y.number ≡ x.number → ⊥)
    → HaveSame after (before ++ x ∷ [])
added before after x is apart y = (
  λ m. elim ((is.items y).0 m) [
    | inl c ↦ Contains-append_right before (x ∷ []) y c
    | inr o ↦ Contains-append_left before (x ∷ []) y o.0
  ],
  λ m. elim (Contains-append_cases before (x ∷ []) y m) [
    | inl o ↦ (is.items y).1 (inr (
      o,
      free_of_none y,
      λ z n e. elim (Contains-cases z x [] n) [
        | inl q ↦ apart y o ((at_one_place y z e).1 ∙ ap (λ (w : KeptOperation). w.number) q)
        | inr t ↦ Contains-nil z t
      ],
    ))
    | inr c ↦ (is.items y).1 (inl c)
  ],
)

-- the operations of a file, with the next one if there is one
pub added_next : (file : List ℕ) (number : ℕ) (ds : List Definition) (d : Definition) (before after : List KeptOperation) → number < length ds
    → HaveSame before (kept_from file 0 (take number ds)) → IsWith before (kept_as file number (get_or ds number d)) after
    → ((y : KeptOperation) → Contains before y → y.number < number) → HaveSame after (kept_from file 0 (take (suc number) ds))
added_next file number ds d before after l same is below x =
    let more = kept_more file 0 number number ds d (omega arith) l in
    by (kept_as file number (get_or ds number d)) (λ y m. (placed_by file number (get_or ds number d) (get_or ds number d).tree y m).1) is more
  where
    by : (o : Option KeptOperation) → ((y : KeptOperation) → Contains (option_to_list o) y → y.number ≡ number) → IsWith before o after
        → kept_from file 0 (take (suc number) ds) ≡ kept_from file 0 (take number ds) ++ option_to_list o → Contains after x ↔ Contains (kept_from file 0 (take (suc number) ds)) x
    by None placed is more =
        let all : kept_from file 0 (take (suc number) ds) ≡ kept_from file 0 (take number ds) = more ∙ append-nil (kept_from file 0 (take number ds)) in
        (λ m. subst (λ zs. Contains zs x) (sym all) ((same x).0 (subst (λ zs. Contains zs x) is m)), λ m. subst (λ zs. Contains zs x) (sym is) ((same x).1 (subst (λ zs. Contains zs x) all m)))
    by (Some k) placed is more =
        let two = added before after k is (λ y c e. not_less (below y c) (e ∙ placed k (Contains-here k []))) x in (
          λ m. subst (λ zs. Contains zs x) (sym more) (elim (Contains-append_cases before (k ∷ []) x (two.0 m)) [
            | inl o ↦ Contains-append_left (kept_from file 0 (take number ds)) (k ∷ []) x ((same x).0 o)
            | inr c ↦ Contains-append_right (kept_from file 0 (take number ds)) (k ∷ []) x c
          ]),
          λ m. two.1 (elim (Contains-append_cases (kept_from file 0 (take number ds)) (k ∷ []) x (subst (λ zs. Contains zs x) more m)) [
            | inl o ↦ Contains-append_left before (k ∷ []) x ((same x).1 o)
            | inr c ↦ Contains-append_right before (k ∷ []) x c
          ]),
        )

-- ---- an edit of one file

-- the operations of files, without those of the file of a name
abbrev pub IsElsewhere : List (List ℕ × Document) → List ℕ → KeptOperation → Type 0
IsElsewhere files name x = Contains (kept_operations files) x × (x.file ≡ name → ⊥)

not_own : (x : KeptOperation) (name other : List ℕ) → x.file ≡ other → name_order name other ≡ Less → x.file ≡ name → ⊥
not_own x name other is less same = let tied : name_order name other ≡ Equal = subst (λ n. name_order name n ≡ Equal) (sym same ∙ is) (tied_itself nat_list_cmp_total name) in
    let t : Less ≡ Equal = sym less ∙ tied in cc t

not_own_above : (x : KeptOperation) (name other : List ℕ) → x.file ≡ other → name_order name other ≡ Greater → x.file ≡ name → ⊥
not_own_above x name other is greater same = let tied : name_order name other ≡ Equal = subst (λ n. name_order name n ≡ Equal) (sym same ∙ is) (tied_itself nat_list_cmp_total name) in
    let t : Greater ≡ Equal = sym greater ∙ tied in cc t

-- no operation of files above a name is of the file of that name
above_name : (name other : List ℕ) (files : List (List ℕ × Document)) → name_order name other ≡ Less → AllByRecursion (λ n. name_order other n ≡ Less) (keys_of files) → (x : KeptOperation) → Contains (kept_operations files) x → x.file ≡ name → ⊥
above_name name other [] less all x m same = Contains-nil x m
above_name name other (f ∷ files) less all x m same = elim (Contains-append_cases (kept_in f.0 (Some f.1)) (kept_operations files) x m) [
  | inl here ↦ not_own x name f.0 (kept_file f.0 (Some f.1) x here) (nat_list_cmp_total.trans name other f.0 less all.0) same
  | inr later ↦ above_name name other files less all.1 x later same
]

-- where the file of a name is ordered as equal to another, it is that file
above_same : (name other : List ℕ) (files : List (List ℕ × Document)) → name_order name other ≡ Equal → AllByRecursion (λ n. name_order other n ≡ Less) (keys_of files) → (x : KeptOperation) → Contains (kept_operations files) x → x.file ≡ name → ⊥
above_same name other [] tied all x m same = Contains-nil x m
above_same name other (f ∷ files) tied all x m same = elim (Contains-append_cases (kept_in f.0 (Some f.1)) (kept_operations files) x m) [
  | inl here ↦ not_own x name f.0 (kept_file f.0 (Some f.1) x here) (nat_list_cmp_total.congr name other f.0 tied ∙ all.0) same
  | inr later ↦ above_same name other files tied all.1 x later same
]

-- the operations of files after a file is put
put_by : (name : List ℕ) (d : Document) (f : List ℕ × Document) (fs after : List (List ℕ × Document)) (x : KeptOperation) (o : Ordering) → name_order name f.0 ≡ o → AllByRecursion (λ n. name_order f.0 n ≡ Less) (keys_of fs)
    → (Contains (kept_operations after) x ↔ (Contains (kept_in name (Some d)) x ⊎ IsElsewhere fs name x))
    → Contains (kept_operations (match_ordering o ((name, d) ∷ f ∷ fs) ((f.0, d) ∷ fs) (f ∷ after))) x ↔ (Contains (kept_in name (Some d)) x ⊎ IsElsewhere (f ∷ fs) name x)
put_by name d f fs after x Less is below rest = (
  λ m. elim (Contains-append_cases (kept_in name (Some d)) (kept_operations (f ∷ fs)) x m) [
    | inl here ↦ inl here
    | inr later ↦ inr (
      later,
      λ same. elim (Contains-append_cases (kept_in f.0 (Some f.1)) (kept_operations fs) x later) [
        | inl h ↦ not_own x name f.0 (kept_file f.0 (Some f.1) x h) is same
        | inr l ↦ above_name name f.0 fs is below x l same
      ],
    )
  ],
  λ h. elim h [
    | inl c ↦ Contains-append_left (kept_in name (Some d)) (kept_operations (f ∷ fs)) x c
    | inr o ↦ Contains-append_right (kept_in name (Some d)) (kept_operations (f ∷ fs)) x o.0
  ],
)
put_by name d f fs after x Equal is below rest =
    let same : name ≡ f.0 = exact_bytes name f.0 is in (
      λ m. elim (Contains-append_cases (kept_in f.0 (Some d)) (kept_operations fs) x m) [
        | inl here ↦ inl (subst (λ n. Contains (kept_in n (Some d)) x) (sym same) here)
        | inr later ↦ inr (Contains-append_right (kept_in f.0 (Some f.1)) (kept_operations fs) x later, above_same name f.0 fs is below x later)
      ],
      λ h. elim h [
        | inl c ↦ Contains-append_left (kept_in f.0 (Some d)) (kept_operations fs) x (subst (λ n. Contains (kept_in n (Some d)) x) same c)
        | inr o ↦ elim (Contains-append_cases (kept_in f.0 (Some f.1)) (kept_operations fs) x o.0) [
          | inl h ↦ absurd (o.1 (kept_file f.0 (Some f.1) x h ∙ sym same))
          | inr l ↦ Contains-append_right (kept_in f.0 (Some d)) (kept_operations fs) x l
        ]
      ],
    )
put_by name d f fs after x Greater is below rest = (
  λ m. elim (Contains-append_cases (kept_in f.0 (Some f.1)) (kept_operations after) x m) [
    | inl here ↦ inr (Contains-append_left (kept_in f.0 (Some f.1)) (kept_operations fs) x here, not_own_above x name f.0 (kept_file f.0 (Some f.1) x here) is)
    | inr later ↦ elim (rest.0 later) [
      | inl c ↦ inl c
      | inr o ↦ inr (Contains-append_right (kept_in f.0 (Some f.1)) (kept_operations fs) x o.0, o.1)
    ]
  ],
  λ h. elim h [
    | inl c ↦ Contains-append_right (kept_in f.0 (Some f.1)) (kept_operations after) x (rest.1 (inl c))
    | inr o ↦ elim (Contains-append_cases (kept_in f.0 (Some f.1)) (kept_operations fs) x o.0) [
      | inl h ↦ Contains-append_left (kept_in f.0 (Some f.1)) (kept_operations after) x h
      | inr l ↦ Contains-append_right (kept_in f.0 (Some f.1)) (kept_operations after) x (rest.1 (inr (l, o.1)))
    ]
  ],
)

put_items : (name : List ℕ) (d : Document) (files : List (List ℕ × Document)) → IsStrictlySortedBy name_order (keys_of files) → (x : KeptOperation)
    → Contains (kept_operations (with_file files name d)) x ↔ (Contains (kept_in name (Some d)) x ⊎ IsElsewhere files name x)
unfolding IsStrictlySortedBy
put_items name d [] sorted x = (
  λ m. elim (Contains-append_cases (kept_in name (Some d)) [] x m) [ inl h ↦ inl h | inr n ↦ absurd (Contains-nil x n) ],
  λ h. elim h [ inl c ↦ Contains-append_left (kept_in name (Some d)) [] x c | inr o ↦ absurd (Contains-nil x o.0) ],
)
put_items name d (f ∷ fs) sorted x = put_by name d f fs (with_file fs name d) x (name_order name f.0) refl sorted.0 (put_items name d fs sorted.1 x)

-- the operations of files after a file is removed
kept_on : (name : List ℕ) (f : List ℕ × Document) (fs after : List (List ℕ × Document)) (x : KeptOperation) → ((y : KeptOperation) → y.file ≡ f.0 → y.file ≡ name → ⊥)
    → (Contains (kept_operations after) x ↔ IsElsewhere fs name x) → Contains (kept_operations (f ∷ after)) x ↔ IsElsewhere (f ∷ fs) name x
kept_on name f fs after x other rest = (
  λ m. elim (Contains-append_cases (kept_in f.0 (Some f.1)) (kept_operations after) x m) [
    | inl here ↦ (Contains-append_left (kept_in f.0 (Some f.1)) (kept_operations fs) x here, other x (kept_file f.0 (Some f.1) x here))
    | inr later ↦ let o = rest.0 later in (Contains-append_right (kept_in f.0 (Some f.1)) (kept_operations fs) x o.0, o.1)
  ],
  λ o. elim (Contains-append_cases (kept_in f.0 (Some f.1)) (kept_operations fs) x o.0) [
    | inl h ↦ Contains-append_left (kept_in f.0 (Some f.1)) (kept_operations after) x h
    | inr l ↦ Contains-append_right (kept_in f.0 (Some f.1)) (kept_operations after) x (rest.1 (l, o.1))
  ],
)

removed_by : (name : List ℕ) (f : List ℕ × Document) (fs after : List (List ℕ × Document)) (x : KeptOperation) (o : Ordering) → name_order name f.0 ≡ o → AllByRecursion (λ n. name_order f.0 n ≡ Less) (keys_of fs)
    → (Contains (kept_operations after) x ↔ IsElsewhere fs name x) → Contains (kept_operations (cond (is_eq o) fs (f ∷ after))) x ↔ IsElsewhere (f ∷ fs) name x
removed_by name f fs after x Less is below rest = kept_on name f fs after x (λ y e. not_own y name f.0 e is) rest
removed_by name f fs after x Equal is below rest = (
  λ m. (Contains-append_right (kept_in f.0 (Some f.1)) (kept_operations fs) x m, above_same name f.0 fs is below x m),
  λ o. elim (Contains-append_cases (kept_in f.0 (Some f.1)) (kept_operations fs) x o.0) [
    | inl h ↦ absurd (o.1 (kept_file f.0 (Some f.1) x h ∙ sym (exact_bytes name f.0 is)))
    | inr l ↦ l
  ],
)
removed_by name f fs after x Greater is below rest = kept_on name f fs after x (λ y e. not_own_above y name f.0 e is) rest

removed_items : (name : List ℕ) (files : List (List ℕ × Document)) → IsStrictlySortedBy name_order (keys_of files) → (x : KeptOperation) → Contains (kept_operations (without_file files name)) x ↔ IsElsewhere files name x
unfolding IsStrictlySortedBy
removed_items name [] sorted x = (λ m. absurd (Contains-nil x m), λ o. o.0)
removed_items name (f ∷ fs) sorted x = removed_by name f fs (without_file fs name) x (name_order name f.0) refl sorted.0 (removed_items name fs sorted.1 x)

-- the operations of files after an edit of the file of a name
pub edited_items : (files : List (List ℕ × Document)) (name : List ℕ) (after : Option Document) → IsStrictlySortedBy name_order (keys_of files) → (x : KeptOperation)
    → Contains (kept_operations (edited_files files name after)) x ↔ (Contains (kept_in name after) x ⊎ IsElsewhere files name x)
edited_items files name (Some d) sorted x = put_items name d files sorted x
edited_items files name None sorted x =
    let r = removed_items name files sorted x in
    (λ m. inr (r.0 m), λ h. elim h [ inl c ↦ absurd (Contains-nil x c) | inr o ↦ r.1 o ])

-- an operation of files that is of the file of a name is one of that file
own_by : (name : List ℕ) (f : List ℕ × Document) (fs : List (List ℕ × Document)) (found : Option Document) (x : KeptOperation) (o : Ordering) → name_order name f.0 ≡ o → AllByRecursion (λ n. name_order f.0 n ≡ Less) (keys_of fs)
    → (Contains (kept_operations fs) x → Contains (kept_in name found) x) → Contains (kept_operations (f ∷ fs)) x → x.file ≡ name → Contains (kept_in name (cond (is_eq o) (Some f.1) found)) x
own_by name f fs found x Less is below rest m same = elim (Contains-append_cases (kept_in f.0 (Some f.1)) (kept_operations fs) x m) [
  | inl h ↦ absurd (not_own x name f.0 (kept_file f.0 (Some f.1) x h) is same)
  | inr l ↦ rest l
]
own_by name f fs found x Equal is below rest m same = elim (Contains-append_cases (kept_in f.0 (Some f.1)) (kept_operations fs) x m) [
  | inl h ↦ subst (λ n. Contains (kept_in n (Some f.1)) x) (sym (exact_bytes name f.0 is)) h
  | inr l ↦ absurd (above_same name f.0 fs is below x l same)
]
own_by name f fs found x Greater is below rest m same = elim (Contains-append_cases (kept_in f.0 (Some f.1)) (kept_operations fs) x m) [
  | inl h ↦ absurd (not_own_above x name f.0 (kept_file f.0 (Some f.1) x h) is same)
  | inr l ↦ rest l
]

pub own_items : (files : List (List ℕ × Document)) (name : List ℕ) → IsStrictlySortedBy name_order (keys_of files) → (x : KeptOperation) → Contains (kept_operations files) x → x.file ≡ name → Contains (kept_in name (file_named files name)) x
unfolding IsStrictlySortedBy
own_items [] name sorted x m same = absurd (Contains-nil x m)
own_items (f ∷ fs) name sorted x m same = own_by name f fs (file_named fs name) x (name_order name f.0) refl sorted.0 (λ l. own_items fs name sorted.1 x l same) m same

-- the operations that are kept, after an edit of the file of a name
pub index_edited : (files documents : List (List ℕ × Document)) (name : List ℕ) (before after : Option Document) (old new : Operations) (goes comes : List KeptOperation) → IsIndexOf files old
    → file_named files name ≡ before → documents ≡ edited_files files name after → IsStrictlySortedBy name_order (keys_of documents)
    → AreOperationsIn name before goes → AreOperationsIn name after comes → IsEdited operation_order old.all goes comes new.all → IsIndexOf documents new
index_edited files documents name before after old new goes comes index found made sorted going coming edited = record {
  files = sorted;
  ordered = edited.ordered;
  items = λ x.
      let all = edited_items files name after index.files x in (
        λ m. subst (λ ds. Contains (kept_operations ds) x) (sym made) (all.1 (elim ((edited.items x).0 m) [
          | inl c ↦ inl ((coming x).0 c)
          | inr o ↦ inr ((index.items x).0 o.0, λ same. o.1 x ((going x).1 (subst (λ b. Contains (kept_in name b) x) found (own_items files name index.files x ((index.items x).0 o.0) same))) (at_own_place x))
        ])),
        λ m. (edited.items x).1 (elim (all.0 (subst (λ ds. Contains (kept_operations ds) x) made m)) [
          | inl c ↦ inl ((coming x).1 c)
          | inr o ↦ inr (
            (index.items x).1 o.0,
            λ y c e. o.1 ((at_one_place x y e).0 ∙ kept_file name before y ((going y).0 c)),
            λ y c e. o.1 ((at_one_place x y e).0 ∙ kept_file name after y ((coming y).0 c)),
          )
        ]),
      );
}

-- ---- all files, one after the other

-- a name that is below all of some names, one of which is that of a file, is not that name
below_one : (name : List ℕ) (files : List (List ℕ × Document)) (f : List ℕ × Document) (rest : List (List ℕ × Document)) → AllByRecursion (λ n. name_order name n ≡ Less) (keys_of (files ++ f ∷ rest)) → name_order name f.0 ≡ Less
below_one name [] f rest all = all.0
below_one name (g ∷ files) f rest all = below_one name files f rest all.1

-- no operation of files before a file is of that file
earlier_file : (done : List (List ℕ × Document)) (f : List ℕ × Document) (rest : List (List ℕ × Document)) → IsStrictlySortedBy name_order (keys_of (done ++ f ∷ rest)) → (x : KeptOperation) → Contains (kept_operations done) x → x.file ≡ f.0 → ⊥
unfolding IsStrictlySortedBy
earlier_file [] f rest sorted x m same = Contains-nil x m
earlier_file (g ∷ done) f rest sorted x m same = elim (Contains-append_cases (kept_in g.0 (Some g.1)) (kept_operations done) x m) [
  | inl h ↦
      let less : name_order g.0 f.0 ≡ Less = below_one g.0 done f rest sorted.0 in
      let tied : name_order g.0 f.0 ≡ Equal = subst (λ n. name_order g.0 n ≡ Equal) (sym (kept_file g.0 (Some g.1) x h) ∙ same) (tied_itself nat_list_cmp_total g.0) in
      let t : Less ≡ Equal = sym less ∙ tied in
      cc t
  | inr l ↦ earlier_file done f rest sorted.1 x l same
]

-- the files before some others, with one more
pub index_more : (done : List (List ℕ × Document)) (f : List ℕ × Document) (rest : List (List ℕ × Document)) (before comes after : List KeptOperation) → IsStrictlySortedBy name_order (keys_of (done ++ f ∷ rest))
    → HaveSame before (kept_operations done) → AreOperationsIn f.0 (Some f.1) comes → IsEdited operation_order before [] comes after → HaveSame after (kept_operations (done ++ f ∷ []))
index_more done f rest before comes after sorted same coming edited x =
    let all : kept_operations (done ++ f ∷ []) ≡ kept_operations done ++ kept_in f.0 (Some f.1) = flat_map-append (λ (g : List ℕ × Document). kept_in g.0 (Some g.1)) done (f ∷ []) ∙ ap (λ zs. kept_operations done ++ zs) (append-nil (kept_in f.0 (Some f.1))) in (
      λ m. subst (λ zs. Contains zs x) (sym all) (elim ((edited.items x).0 m) [
        | inl c ↦ Contains-append_right (kept_operations done) (kept_in f.0 (Some f.1)) x ((coming x).0 c)
        | inr o ↦ Contains-append_left (kept_operations done) (kept_in f.0 (Some f.1)) x ((same x).0 o.0)
      ]),
      λ m. (edited.items x).1 (elim (Contains-append_cases (kept_operations done) (kept_in f.0 (Some f.1)) x (subst (λ zs. Contains zs x) all m)) [
        | inl o ↦ inr (
          (same x).1 o,
          free_of_none x,
          λ y c e. earlier_file done f rest sorted x o ((at_one_place x y e).0 ∙ kept_file f.0 (Some f.1) y ((coming y).0 c)),
        )
        | inr c ↦ inl ((coming x).1 c)
      ]),
    )

-- no files have no operations
pub no_files : (none : List KeptOperation) → none ≡ [] → HaveSame none (kept_operations []) × AreInOrder operation_order none
no_files none e = subst (λ (zs : List KeptOperation). HaveSame zs [] × AreInOrder operation_order zs) (sym e) (λ x. (λ m. m, λ m. m), pairs_none (λ (a b : KeptOperation). operation_order a b ≡ Less))
