-- Definitions of files stand in file order, if each file has its own at rising places.
use Rattle.std.specs.Prelude.{◌≡◌, ◌<◌, ℕ, suc, List, [], ◌∷◌, ◌++◌, map, length, Contains}
use Rattle.std.specs.List.{AllPairs}
use Rattle.std.specs.List.Sorted.{IsStrictlySortedBy}
use Rattle.std.specs.Ordering.{nat_cmp, ordering_then}
use Rattle.std.specs.declared.cmp.Ordering.TheVariants.{Less}
use Rattle.std.proofs.Common.{ap, sym, ◌∙◌, arith, get_or}
use Rattle.std.proofs.lemmas.Bool.Decides.{nat_tests}
use Rattle.std.proofs.lemmas.Cmp.{nat_list_cmp_total, tied_itself}
use Rattle.std.proofs.lemmas.List.Elements.{All-append, All-from_recursion, All-contains, Contains-get_or}
use Rattle.std.proofs.lemmas.List.Kept.{AllPairs-cons}
use Rattle.gql_ast.specs.FileMaps.{name_order}
use Rattle.gql_ast.specs.Trees.{id_of}
use Rattle.gql_ast.specs.declared.definition.Definition.{Definition}
use Rattle.gql_ast.specs.declared.definition.Document.{Document}
use Rattle.gql_facts.specs.ListMembers.{Contains-here, Contains-there, Contains-flat_map_from, Contains-map}
use Rattle.gql_verdict.specs.Definitions.{all_definitions}
use Rattle.gql_verdict.specs.FileOrder.{InFileOrder, IsBefore, ArePlaced, AreFilesPlaced}

-- pairs of two lists, one after the other
pairs_tail : {X : Type 0} (R : X → X → Type 0) (x : X) (xs : List X) → AllPairs R (x ∷ xs) → AllPairs R xs
pairs_tail R x xs all i j d lt within = all (suc i) (suc j) d (omega (arith, lt)) (omega (arith, within))

pairs_head : {X : Type 0} (R : X → X → Type 0) (x : X) (xs : List X) → AllPairs R (x ∷ xs) → (k : ℕ) (d : X) → k < length xs → R x (get_or xs k d)
pairs_head R x xs all k d within = all 0 (suc k) d (omega arith) (omega (arith, within))

pub pairs_append : {X : Type 0} (R : X → X → Type 0) (xs ys : List X) → AllPairs R xs → AllPairs R ys
    → ((x y : X) → Contains xs x → Contains ys y → R x y) → AllPairs R (xs ++ ys)
pairs_append R [] ys first second across = second
pairs_append R (x ∷ xs) ys first second across = AllPairs-cons R x (xs ++ ys)
    (All-append (R x) xs ys (pairs_head R x xs first) (λ k d l. across x (get_or ys k d) (Contains-here x xs) (Contains-get_or ys k d l)))
    (pairs_append R xs ys (pairs_tail R x xs first) second (λ y z c. across y z (Contains-there y x xs c)))

below : (m n : ℕ) → m < n → nat_cmp m n ≡ Less
below m n l = grind (arith, nat_tests)

-- two definitions of one file
in_file : (name : List ℕ) (ds : List Definition) → ArePlaced name ds → InFileOrder ds
in_file name ds placed i j d lt within =
    let a = get_or ds i d in
    let b = get_or ds j d in
    let same : a.file ≡ b.file = placed.named a (Contains-get_or ds i d (omega (arith, lt, within))) ∙ sym (placed.named b (Contains-get_or ds j d within)) in
    ap (λ n. ordering_then (name_order a.file n) (nat_cmp (id_of a).offset (id_of b).offset)) (sym same)
    ∙ ap (λ o. ordering_then o (nat_cmp (id_of a).offset (id_of b).offset)) (tied_itself nat_list_cmp_total a.file)
    ∙ below (id_of a).offset (id_of b).offset (placed.rising i j d lt within)

-- a definition of a file is before those of later files
before_later : (name other : List ℕ) (d e : Definition) → name_order name other ≡ Less → d.file ≡ name → e.file ≡ other → IsBefore d e
before_later name other d e less first second =
    ap (λ o. ordering_then o (nat_cmp (id_of d).offset (id_of e).offset)) (ap (λ n. name_order n e.file) first ∙ ap (name_order name) second ∙ less)

-- the names of files
abbrev pub file_names : List (List ℕ × Document) → List (List ℕ)
file_names documents = map (λ (f : List ℕ × Document). f.0) documents

pub in_order : (documents : List (List ℕ × Document)) → IsStrictlySortedBy name_order (file_names documents)
    → AreFilesPlaced documents → InFileOrder (all_definitions documents)
unfolding IsStrictlySortedBy
in_order [] sorted placed = λ i j d lt within. absurd (omega (arith, within))
in_order (file ∷ rest) sorted placed = pairs_append IsBefore file.1.definitions (all_definitions rest)
    (in_file file.0 file.1.definitions (placed file (Contains-here file rest)))
    (in_order rest sorted.1 (λ f c. placed f (Contains-there f file rest c)))
    (λ d e c m.
    let r = Contains-flat_map_from (λ (f : List ℕ × Document). f.1.definitions) rest e m in
    let less = All-contains (λ n. name_order file.0 n ≡ Less) (file_names rest) r.0.0 (All-from_recursion (λ n. name_order file.0 n ≡ Less) (file_names rest) sorted.0)
    (Contains-map (λ (f : List ℕ × Document). f.0) rest r.0 r.1) in
    before_later file.0 r.0.0 d e less ((placed file (Contains-here file rest)).named d c) ((placed r.0 (Contains-there r.0 file rest r.1)).named e r.2))
