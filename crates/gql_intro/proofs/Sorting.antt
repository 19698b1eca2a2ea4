-- Sorted names: their parts, and names in order that stand one after the other.
use Rattle.std.proofs.Common.{◌≡◌, ◌∙◌, ◌++◌, ◌-◌, ◌<◌, ◌⊎◌, inl, inr, ℕ, suc, List, [], ◌∷◌, Bool, true, not, find, bytes_eq, filter, take, drop, get_or, length, Contains, refl, sym, ap, ap₂, subst, arith}
use Rattle.std.specs.Prelude.{is_some}
use Rattle.std.specs.List.{AllByRecursion}
use Rattle.std.specs.List.Sorted.{IsStrictlySortedBy}
use Rattle.std.specs.declared.cmp.Ordering.{Ordering}
use Rattle.std.specs.declared.cmp.Ordering.TheVariants.{Less, Equal, Greater}
use Rattle.std.proofs.lemmas.Cmp.{nat_list_cmp_total}
use Rattle.std.proofs.Math.Seq.{drop-cons}
use Rattle.std.proofs.lemmas.List.{append-nil, drop_all, take-append-drop}
use Rattle.std.proofs.lemmas.List.Elements.{Contains-append_left, Contains-append_right, Contains-append_cases}
use Rattle.gql_ast.specs.FileMaps.{name_order}
use Rattle.gql_types.specs.Possible.{in_order}
use Rattle.gql_types.proofs.Members.{none, here, there, cases, every, Contains-from_filter}
use Rattle.gql_intro.specs.SortedNames.{AreBefore, AreSorted}
use Rattle.gql_intro.specs.EditedNames.{is_kept}
use Rattle.gql_intro.proofs.EditedNames.{either, from_among, to_filter}
use Rattle.gql_intro.proofs.InOrder.{apart, flipped, from_order, one_list, same_order, sorted_in_order, to_order}

-- ---- parts of sorted names

all_first : (P : List ℕ → Type 0) (xs ys : List (List ℕ)) → AllByRecursion P (xs ++ ys) → AllByRecursion P xs
all_first P [] ys all = tt
all_first P (x ∷ xs) ys all = (all.0, all_first P xs ys all.1)

all_joined : (P : List ℕ → Type 0) (xs ys : List (List ℕ)) → AllByRecursion P xs → AllByRecursion P ys → AllByRecursion P (xs ++ ys)
all_joined P [] ys all others = others
all_joined P (x ∷ xs) ys all others = (all.0, all_joined P xs ys all.1 others)

all_from : (P : List ℕ → Type 0) (xs : List (List ℕ)) → ((n : List ℕ) → Contains xs n → P n) → AllByRecursion P xs
all_from P [] each = tt
all_from P (x ∷ xs) each = (each x (here x xs), all_from P xs (λ n h. each n (there n x xs h)))

pub first_sorted : (xs ys : List (List ℕ)) → AreSorted (xs ++ ys) → AreSorted xs
unfolding IsStrictlySortedBy
first_sorted [] ys sorted = tt
first_sorted (x ∷ xs) ys sorted = (all_first (λ z. name_order x z ≡ Less) xs ys sorted.0, first_sorted xs ys sorted.1)

pub last_sorted : (xs ys : List (List ℕ)) → AreSorted (xs ++ ys) → AreSorted ys
unfolding IsStrictlySortedBy
last_sorted [] ys sorted = sorted
last_sorted (x ∷ xs) ys sorted = last_sorted xs ys sorted.1

pub parts_before : (xs ys : List (List ℕ)) → AreSorted (xs ++ ys) → AreBefore xs ys
unfolding IsStrictlySortedBy
parts_before [] ys sorted n q a b = absurd (none n a)
parts_before (x ∷ xs) ys sorted n q a b = elim (cases n x xs a) [
  | inl e ↦ subst (λ z. name_order z q ≡ Less) (sym e) (every (λ z. name_order x z ≡ Less) (xs ++ ys) sorted.0 q (Contains-append_right xs ys q b))
  | inr t ↦ parts_before xs ys sorted.1 n q t b
]

pub joined_sorted : (xs ys : List (List ℕ)) → AreSorted xs → AreSorted ys → AreBefore xs ys → AreSorted (xs ++ ys)
unfolding IsStrictlySortedBy
joined_sorted [] ys sorted others before = others
joined_sorted (x ∷ xs) ys sorted others before = (
  all_joined (λ z. name_order x z ≡ Less) xs ys sorted.0 (all_from (λ z. name_order x z ≡ Less) ys (λ q h. before x q (here x xs) h)),
  joined_sorted xs ys sorted.1 others (λ n q a b. before n q (there n x xs a) b),
)

pub take_sorted : (k : ℕ) (xs : List (List ℕ)) → AreSorted xs → AreSorted (take k xs)
take_sorted k xs sorted = first_sorted (take k xs) (drop k xs) (subst AreSorted (sym (take-append-drop k xs)) sorted)

pub drop_sorted : (k : ℕ) (xs : List (List ℕ)) → AreSorted xs → AreSorted (drop k xs)
drop_sorted k xs sorted = last_sorted (take k xs) (drop k xs) (subst AreSorted (sym (take-append-drop k xs)) sorted)

pub taken_before : (k : ℕ) (xs : List (List ℕ)) → AreSorted xs → AreBefore (take k xs) (drop k xs)
taken_before k xs sorted = parts_before (take k xs) (drop k xs) (subst AreSorted (sym (take-append-drop k xs)) sorted)

pub from_taken : (k : ℕ) (xs : List (List ℕ)) (n : List ℕ) → Contains (take k xs) n → Contains xs n
from_taken k xs n h = subst (λ l. Contains l n) (take-append-drop k xs) (Contains-append_left (take k xs) (drop k xs) n h)

pub from_dropped : (k : ℕ) (xs : List (List ℕ)) (n : List ℕ) → Contains (drop k xs) n → Contains xs n
from_dropped k xs n h = subst (λ l. Contains l n) (take-append-drop k xs) (Contains-append_right (take k xs) (drop k xs) n h)

pub in_either : (k : ℕ) (xs : List (List ℕ)) (n : List ℕ) → Contains xs n → Contains (take k xs) n ⊎ Contains (drop k xs) n
in_either k xs n h = Contains-append_cases (take k xs) (drop k xs) n (subst (λ l. Contains l n) (sym (take-append-drop k xs)) h)

-- ---- names in order

-- sorted names are in order
pub in_order_already : (xs : List (List ℕ)) → AreSorted xs → in_order xs ≡ xs
in_order_already xs sorted = one_list (in_order xs) xs (sorted_in_order xs) sorted (λ q. (from_order xs q, to_order xs q))

-- names that are before others are in order before them
pub joined : (xs ys : List (List ℕ)) → AreBefore xs ys → in_order (xs ++ ys) ≡ in_order xs ++ in_order ys
joined xs ys before = one_list (in_order (xs ++ ys)) (in_order xs ++ in_order ys)
    (sorted_in_order (xs ++ ys))
    (joined_sorted (in_order xs) (in_order ys) (sorted_in_order xs) (sorted_in_order ys) (λ n q a b. before n q (from_order xs n a) (from_order ys q b)))
    (λ q. (
      λ h. elim (Contains-append_cases xs ys q (from_order (xs ++ ys) q h)) [
        | inl a ↦ Contains-append_left (in_order xs) (in_order ys) q (to_order xs q a)
        | inr b ↦ Contains-append_right (in_order xs) (in_order ys) q (to_order ys q b)
      ],
      λ h. to_order (xs ++ ys) q (elim (Contains-append_cases (in_order xs) (in_order ys) q h) [
        | inl a ↦ Contains-append_left xs ys q (from_order xs q a)
        | inr b ↦ Contains-append_right xs ys q (from_order ys q b)
      ]),
    ))

-- names that others are put to in order are the same in order
pub order_within : (xs ys : List (List ℕ)) → in_order (xs ++ in_order ys) ≡ in_order (xs ++ ys)
order_within xs ys = same_order (xs ++ in_order ys) (xs ++ ys) (λ q. (
  λ h. elim (Contains-append_cases xs (in_order ys) q h) [
    | inl a ↦ Contains-append_left xs ys q a
    | inr b ↦ Contains-append_right xs ys q (from_order ys q b)
  ],
  λ h. elim (Contains-append_cases xs ys q h) [
    | inl a ↦ Contains-append_left xs (in_order ys) q a
    | inr b ↦ Contains-append_right xs (in_order ys) q (to_order ys q b)
  ],
))

-- ---- a run, and what came to it

module _ (p : List ℕ → Bool) (run later came : List (List ℕ)) (k : ℕ) where
  abbrev here_too : List (List ℕ)
  here_too = filter p run ++ take k came

  abbrev behind_it : List (List ℕ)
  behind_it = filter p later ++ drop k came

  abbrev whole : List (List ℕ)
  whole = filter p (run ++ later) ++ came

  to_parts : (q : List ℕ) → Contains whole q → Contains (here_too ++ behind_it) q
  to_parts q h = elim (Contains-append_cases (filter p (run ++ later)) came q h) [
    | inl old ↦
        let f = Contains-from_filter p (run ++ later) q old in
        elim (Contains-append_cases run later q f.0) [
          | inl a ↦ Contains-append_left here_too behind_it q (Contains-append_left (filter p run) (take k came) q (to_filter p run q a f.1))
          | inr b ↦ Contains-append_right here_too behind_it q (Contains-append_left (filter p later) (drop k came) q (to_filter p later q b f.1))
        ]
    | inr new ↦ elim (in_either k came q new) [
      | inl a ↦ Contains-append_left here_too behind_it q (Contains-append_right (filter p run) (take k came) q a)
      | inr b ↦ Contains-append_right here_too behind_it q (Contains-append_right (filter p later) (drop k came) q b)
    ]
  ]

  old_name : (q : List ℕ) → Contains (run ++ later) q → p q ≡ true → Contains whole q
  old_name q h is = Contains-append_left (filter p (run ++ later)) came q (to_filter p (run ++ later) q h is)

  from_parts : (q : List ℕ) → Contains (here_too ++ behind_it) q → Contains whole q
  from_parts q h = elim (Contains-append_cases here_too behind_it q h) [
    | inl first ↦ elim (Contains-append_cases (filter p run) (take k came) q first) [
      | inl a ↦ let f = Contains-from_filter p run q a in old_name q (Contains-append_left run later q f.0) f.1
      | inr b ↦ Contains-append_right (filter p (run ++ later)) came q (from_taken k came q b)
    ]
    | inr last ↦ elim (Contains-append_cases (filter p later) (drop k came) q last) [
      | inl a ↦ let f = Contains-from_filter p later q a in old_name q (Contains-append_right run later q f.0) f.1
      | inr b ↦ Contains-append_right (filter p (run ++ later)) came q (from_dropped k came q b)
    ]
  ]

  module _ (sorted : AreSorted (run ++ later)) (in_turn : AreSorted came) (taken : AreBefore (take k came) later) (left : AreBefore run (drop k came)) where
    parts_apart : AreBefore here_too behind_it
    parts_apart n q a b = elim (Contains-append_cases (filter p run) (take k came) n a) [
      | inl old ↦
          let f = Contains-from_filter p run n old in
          elim (Contains-append_cases (filter p later) (drop k came) q b) [
            | inl x ↦ parts_before run later sorted n q f.0 (Contains-from_filter p later q x).0
            | inr y ↦ left n q f.0 y
          ]
      | inr new ↦ elim (Contains-append_cases (filter p later) (drop k came) q b) [
        | inl x ↦ taken n q new (Contains-from_filter p later q x).0
        | inr y ↦ taken_before k came in_turn n q new y
      ]
    ]

    pub step : in_order whole ≡ in_order here_too ++ in_order behind_it
    step = same_order whole (here_too ++ behind_it) (λ q. (to_parts q, from_parts q)) ∙ joined here_too behind_it parts_apart

-- ---- a run that stays as it is

all_pass : (p : List ℕ → Bool) (xs : List (List ℕ)) → ((n : List ℕ) → Contains xs n → p n ≡ true) → filter p xs ≡ xs
all_pass p [] each = refl
all_pass p (x ∷ xs) each = rw (each x (here x xs)) (ap (λ l. x ∷ l) (all_pass p xs (λ n h. each n (there n x xs h))))

kept : (gone : List (List ℕ)) (n : List ℕ) → (Contains gone n → ⊥) → is_kept gone n ≡ true
kept gone n not_gone = elim (either (is_some (find (bytes_eq n) gone))) [
  | inl is ↦ absurd (not_gone (from_among gone n is))
  | inr is ↦ ap not is
]

pub all_kept : (gone run : List (List ℕ)) → AreSorted run → ((n : List ℕ) → Contains run n → Contains gone n → ⊥) → in_order (filter (is_kept gone) run ++ []) ≡ run
all_kept gone run sorted none_gone =
    ap in_order (append-nil (filter (is_kept gone) run)) ∙ ap in_order (all_pass (is_kept gone) run (λ n h. kept gone n (none_gone n h)))
    ∙ in_order_already run sorted

-- no name is both in a run and among those after it
pub not_both : (xs ys : List (List ℕ)) → AreBefore xs ys → (n : List ℕ) → Contains xs n → Contains ys n → ⊥
not_both xs ys before n a b = let less : name_order n n ≡ Less = before n n a b in apart n n less less

-- a name that is not after the last of a run is before what is after the run
pub not_after : (last : List ℕ) (n q : List ℕ) → (name_order last n ≡ Less → ⊥) → name_order last q ≡ Less → name_order n q ≡ Less
not_after last n q not_so less = by (name_order last n) refl
  where
    by : (o : Ordering) → name_order last n ≡ o → name_order n q ≡ Less
    by Less is = absurd (not_so is)
    by Equal is = sym (nat_list_cmp_total.congr last n q is) ∙ less
    by Greater is = nat_list_cmp_total.trans n last q (flipped last n is) less

-- what is after a name at a place is after all before that place
pub all_after : (last : List ℕ) (names : List (List ℕ)) (k : ℕ) (x : List ℕ) → AreSorted names → k < length names → x ≡ get_or names k x → name_order last x ≡ Less
    → (n : List ℕ) → Contains (drop k names) n → name_order last n ≡ Less
all_after last names k x sorted h is less n among =
    let whole : drop k names ≡ x ∷ drop (suc k) names = drop-cons names k x h ∙ ap (λ z. z ∷ drop (suc k) names) (sym is) in
    let inside : Contains (x ∷ drop (suc k) names) n = subst (λ l. Contains l n) whole among in
    let rest : AreSorted (x ∷ drop (suc k) names) = subst AreSorted whole (drop_sorted k names sorted) in
    elim (cases n x (drop (suc k) names) inside) [
      | inl e ↦ subst (λ z. name_order last z ≡ Less) (sym e) less
      | inr t ↦ nat_list_cmp_total.trans last x n less (parts_before (x ∷ []) (drop (suc k) names) rest x n (here x []) t)
    ]

-- ---- the last name of a run

module _ (run : List (List ℕ)) (last : List ℕ) (some : 0 < length run) (is : last ≡ get_or run (length run - 1) last) where
  run_is : run ≡ take (length run - 1) run ++ last ∷ []
  run_is =
      let place : length run - 1 < length run = omega (arith, some) in
      let behind : drop (suc (length run - 1)) run ≡ [] = drop_all (suc (length run - 1)) run (omega (arith, some)) in
      sym (take-append-drop (length run - 1) run)
      ∙ ap (λ l. take (length run - 1) run ++ l) (drop-cons run (length run - 1) last place ∙ ap₂ (λ z zs. z ∷ zs) (sym is) behind)

  last_in : Contains run last
  last_in = subst (λ l. Contains l last) (sym run_is) (Contains-append_right (take (length run - 1) run) (last ∷ []) last (here last []))

  none_after : AreSorted run → (n : List ℕ) → Contains run n → name_order last n ≡ Less → ⊥
  none_after sorted n h less = elim (Contains-append_cases (take (length run - 1) run) (last ∷ []) n (subst (λ l. Contains l n) run_is h)) [
    | inl a ↦ apart n last (parts_before (take (length run - 1) run) (last ∷ []) (subst AreSorted run_is sorted) n last a (here last [])) less
    | inr b ↦ elim (cases n last [] b) [
      | inl e ↦ let bad : name_order last last ≡ Less = subst (λ z. name_order last z ≡ Less) e less in apart last last bad bad
      | inr t ↦ none n t
    ]
  ]

  module _ (later names : List (List ℕ)) (k : ℕ) (sorted : AreSorted (run ++ later)) where
    pub taken_are_before : ((n : List ℕ) → Contains (take k names) n → name_order last n ≡ Less → ⊥) → AreBefore (take k names) later
    taken_are_before taken n q a b = not_after last n q (taken n a) (parts_before run later sorted last q last_in b)

    pub run_is_before : ((n : List ℕ) → Contains (drop k names) n → name_order last n ≡ Less) → AreBefore run (drop k names)
    run_is_before left n q a b = not_after last n q (none_after (first_sorted run later sorted) n a) (left q b)
