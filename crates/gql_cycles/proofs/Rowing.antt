-- The rows of the graph: segments, numbers and nodes.
use Rattle.std.proofs.Common.{◌≡◌, ℕ, zero, suc, ◌+◌, ◌-◌, ◌*◌, ◌<◌, ◌≤◌, ◌⊎◌, ◌↔◌, inl, inr, List, [], ◌∷◌, ◌++◌, Bool, true, false, cond, nat_lt, nat_le, flat_map, length, get_or, Contains, sym, ap, ◌∙◌, subst, refl, arith, append_assoc, length-append}
use Rattle.std.proofs.lemmas.Bool.{cases_lt, lt-ltb}
use Rattle.std.proofs.lemmas.Bool.Decides.{nat_tests}
use Rattle.std.proofs.lemmas.List.{get_or_append_left, get_or-append-add, get_or-map, length-map, length_push}
use Rattle.std.proofs.Math.Seq.{get_or-append_seam}
use Rattle.gql_cycles.proofs.Members.{Contains-nil, Contains-here, Contains-there, Contains-cases, Contains-flat_map, Contains-flat_map_from}
use Rattle.gql_cycles.specs.SegmentTree.{inner_rows, node_row, node_rows, node_at, IsCover, IsTree}
use Rattle.gql_cycles.specs.declared.cover.Range.{Range}

at_second : {A : Type 0} (xs ys : List A) (n k : ℕ) (d : A) → length xs ≡ n → get_or (xs ++ ys) (n + k) d ≡ get_or ys k d
at_second xs ys n k d e = ap (λ m. get_or (xs ++ ys) (m + k) d) (sym e) ∙ get_or-append-add xs ys k d

-- the segments that have others below them
inner_length : (n : ℕ) → length (inner_rows n) ≡ n
inner_length zero = refl
inner_length (suc n) = omega (arith, length_push (inner_rows n) ((2 * n) ∷ (2 * n + 1) ∷ []), inner_length n)

inner_at : (n v : ℕ) → v < n → get_or (inner_rows n) v [] ≡ (2 * v) ∷ (2 * v + 1) ∷ []
inner_at zero v lt = absurd (omega (arith, lt))
inner_at (suc n) v lt = elim (cases_lt v n) [
  | inl less ↦ get_or_append_left (inner_rows n) (((2 * n) ∷ (2 * n + 1) ∷ []) ∷ []) [] v (omega (arith, less, inner_length n)) ∙ inner_at n v less
  | inr le ↦
      let e : v ≡ n = omega (arith, le, lt) in
      ap (λ k. get_or (inner_rows (suc n)) k []) e ∙ (ap (λ k. get_or (inner_rows (suc n)) k []) (sym (inner_length n)) ∙ get_or-append_seam (inner_rows n) ((2 * n) ∷ (2 * n + 1) ∷ []) [] [])
      ∙ ap (λ (k : ℕ). (2 * k) ∷ (2 * k + 1) ∷ []) (sym e)
]

two_has : (a b w : ℕ) → Contains (a ∷ b ∷ []) w ↔ ((w ≡ a) ⊎ (w ≡ b))
two_has a b w = (
  λ h. elim (Contains-cases w a (b ∷ []) h) [
    | inl e ↦ inl e
    | inr t ↦ elim (Contains-cases w b [] t) [ inl e ↦ inr e | inr n ↦ absurd (Contains-nil w n) ]
  ],
  λ h. elim h [
    | inl e ↦ subst (λ x. Contains (a ∷ b ∷ []) x) (sym e) (Contains-here a (b ∷ []))
    | inr e ↦ subst (λ x. Contains (a ∷ b ∷ []) x) (sym e) (Contains-there b a (b ∷ []) (Contains-here b []))
  ],
)

-- the nodes to which a number leads
kept_is : (first nodes node w : ℕ) (b : Bool) → nat_lt node nodes ≡ b → Contains (cond b ((first + node) ∷ []) []) w → (w ≡ first + node) × (node < nodes)
kept_is first nodes node w true e h = elim (Contains-cases w (first + node) [] h) [
  | inl s ↦ let lt : node < nodes = grind (arith, nat_tests, e) in (s, lt)
  | inr n ↦ absurd (Contains-nil w n)
]
kept_is first nodes node w false e h = absurd (Contains-nil w h)

kept : (first nodes node : ℕ) → node < nodes → Contains (node_row first nodes node) (first + node)
kept first nodes node lt = let t = lt-ltb node nodes lt in rw t (Contains-here (first + node) [])

row_has : (first nodes : ℕ) (ends : List ℕ) (w : ℕ) → Contains (flat_map (node_row first nodes) ends) w ↔ ((j : ℕ) × (w ≡ first + j) × (j < nodes) × Contains ends j)
row_has first nodes ends w = (
  λ h. let r = Contains-flat_map_from (node_row first nodes) ends w h in let k = kept_is first nodes r.0 w (nat_lt r.0 nodes) refl r.2 in (r.0, k.0, k.1, r.1),
  λ h. subst (λ x. Contains (flat_map (node_row first nodes) ends) x) (sym h.1) (Contains-flat_map (node_row first nodes) ends h.0 (first + h.0) h.3 (kept first nodes h.0 h.2)),
)

-- the nodes after the segments
behind_is : (first number i : ℕ) (b : Bool) → nat_le first number ≡ b → Contains (cond b ((number - first) ∷ []) []) i → number ≡ first + i
behind_is first number i true e h = elim (Contains-cases i (number - first) [] h) [
  | inl s ↦ let le : first ≤ number = grind (arith, nat_tests, e) in omega (arith, le, s)
  | inr n ↦ absurd (Contains-nil i n)
]
behind_is first number i false e h = absurd (Contains-nil i h)

behind_has : (first i : ℕ) (b : Bool) → nat_le first (first + i) ≡ b → Contains (cond b ((first + i - first) ∷ []) []) i
behind_has first i true e = let same : first + i - first ≡ i = omega arith in subst (λ (k : ℕ). Contains (k ∷ []) i) (sym same) (Contains-here i [])
behind_has first i false e = absurd (grind (arith, nat_tests, e))

pub nodes_are : (first : ℕ) (numbers nodes : List ℕ) → nodes ≡ flat_map (node_at first) numbers → (i : ℕ) → Contains nodes i ↔ Contains numbers (first + i)
nodes_are first numbers nodes is i = (
  λ h. let r = Contains-flat_map_from (node_at first) numbers i (subst (λ xs. Contains xs i) is h) in subst (λ k. Contains numbers k) (behind_is first r.0 i (nat_le first r.0) refl r.2) r.1,
  λ h. subst (λ xs. Contains xs i) (sym is) (Contains-flat_map (node_at first) numbers (first + i) i h (behind_has first i (nat_le first (first + i)) refl)),
)

-- one node more
pub covers_more : (count : ℕ) (ranges : List (List Range)) (before after : List (List ℕ)) (row : List ℕ) (i : ℕ) → length before ≡ i → after ≡ before ++ row ∷ [] →
    ((k : ℕ) → k < i → IsCover count (get_or ranges k []) (get_or before k [])) → IsCover count (get_or ranges i []) row →
    (k : ℕ) → k < i + 1 → IsCover count (get_or ranges k []) (get_or after k [])
covers_more count ranges before after row i len is was here k lt = subst (λ rows. IsCover count (get_or ranges k []) (get_or rows k [])) (sym is) (elim (cases_lt k i) [
  | inl less ↦ subst (IsCover count (get_or ranges k [])) (sym (get_or_append_left before (row ∷ []) [] k (omega (arith, less, len)))) (was k less)
  | inr le ↦
      let e : k ≡ i = omega (arith, le, lt) in
      let at_k : get_or (before ++ row ∷ []) k [] ≡ row = ap (λ x. get_or (before ++ row ∷ []) x []) (e ∙ sym len) ∙ get_or-append_seam before row [] [] in
      subst (IsCover count (get_or ranges k [])) (sym at_k) (subst (λ x. IsCover count (get_or ranges x []) row) (sym e) here)
])

module _ (ranges : List (List Range)) (ends covers : List (List ℕ)) where
  abbrev all_rows : List (List ℕ)
  all_rows = inner_rows (length ends) ++ (node_rows (2 * length ends) (length ranges) ends ++ covers)

  tree_is : length covers ≡ length ranges → ((i : ℕ) → i < length ranges → IsCover (length ends) (get_or ranges i []) (get_or covers i [])) → IsTree ranges ends all_rows
  tree_is len rows =
      let m = length ends in
      let leaves = node_rows (2 * m) (length ranges) ends in
      let size : length leaves ≡ m = length-map ends (flat_map (node_row (2 * m) (length ranges))) in
      record {
        inner = λ v w lt. subst (λ row. Contains row w ↔ ((w ≡ 2 * v) ⊎ (w ≡ 2 * v + 1)))
            (sym (get_or_append_left (inner_rows m) (leaves ++ covers) [] v (omega (arith, lt, inner_length m)) ∙ inner_at m v lt)) (two_has (2 * v) (2 * v + 1) w);
        leaves = λ p w lt. subst (λ row. Contains row w ↔ ((j : ℕ) × (w ≡ 2 * m + j) × (j < length ranges) × Contains (get_or ends p []) j))
            (sym (at_second (inner_rows m) (leaves ++ covers) m p [] (inner_length m) ∙ get_or_append_left leaves covers [] p (omega (arith, lt, size)) ∙ get_or-map (flat_map (node_row (2 * m) (length ranges))) ends p [] [] lt))
            (row_has (2 * m) (length ranges) (get_or ends p []) w);
        nodes = λ i lt. subst (IsCover m (get_or ranges i []))
            (sym (ap (λ k. get_or all_rows k []) (omega arith) ∙ at_second (inner_rows m) (leaves ++ covers) m (m + i) [] (inner_length m) ∙ at_second leaves covers m i [] size)) (rows i lt);
        length_is = omega (arith, length-append (inner_rows m) (leaves ++ covers), length-append leaves covers, inner_length m, size, len);
      }

pub tree_of : (ranges : List (List Range)) (ends inner leaves covers first all : List (List ℕ)) (m n : ℕ) → length ends ≡ m → length ranges ≡ n → inner ≡ inner_rows m → leaves ≡ node_rows (2 * m) n ends →
    first ≡ inner ++ leaves → all ≡ first ++ covers → length covers ≡ n →
    ((i : ℕ) → i < n → IsCover m (get_or ranges i []) (get_or covers i [])) → IsTree ranges ends all
tree_of ranges ends inner leaves covers first all m n of_ends of_ranges one two three four len rows =
    let one' : inner ≡ inner_rows (length ends) = one ∙ ap inner_rows (sym of_ends) in
    let two' : leaves ≡ node_rows (2 * length ends) (length ranges) ends = two ∙ ap (λ k. node_rows (2 * k) n ends) (sym of_ends) ∙ ap (λ k. node_rows (2 * length ends) k ends) (sym of_ranges) in
    subst (IsTree ranges ends) (sym (four ∙ ap (λ xs. xs ++ covers) three ∙ append_assoc inner leaves covers ∙ ap (λ xs. xs ++ (leaves ++ covers)) one' ∙ ap (λ xs. inner_rows (length ends) ++ (xs ++ covers)) two'))
    (tree_is ranges ends covers (len ∙ sym of_ranges) (λ i lt. subst (λ k. IsCover k (get_or ranges i []) (get_or covers i [])) (sym of_ends) (rows i (omega (arith, lt, of_ranges)))))
