-- Two lists in the order of reports with the same members are the same.
use Rattle.std.proofs.Common.{◌≡◌, inl, inr, refl, sym, ap, ap₂, ◌∙◌, subst, List, [], ◌∷◌, Contains}
use Rattle.std.specs.declared.cmp.Ordering.{Ordering}
use Rattle.std.specs.declared.cmp.Ordering.TheVariants.{Less, Greater}
use Rattle.std.specs.Ordering.{ordering_reverse}
use Rattle.std.specs.List.{AllByRecursion}
use Rattle.std.specs.List.Sorted.{IsStrictlySortedBy}
use Rattle.gql_ast.specs.declared.fault.Fault.{Fault}
use Rattle.gql_report.specs.Order.{fault_order}
use Rattle.gql_report.specs.Total.{fault_order_total}
use Rattle.gql_report.specs.Laws.{OneOrder}
use Rattle.gql_report.proofs.Members.{here, there, cases, none}

every : (P : Fault → Type 0) (xs : List Fault) → AllByRecursion P xs → (f : Fault) → Contains xs f → P f
every P [] all f h = absurd (none f h)
every P (x ∷ xs) all f h = elim (cases f x xs h) [ inl e ↦ subst P (sym e) all.0 | inr t ↦ every P xs all.1 f t ]

turned : (r s : Ordering) → r ≡ Less → s ≡ Less → r ≡ ordering_reverse s → ⊥
turned r s p q e = let bad : Less ≡ Greater = sym p ∙ e ∙ ap ordering_reverse q in cc

apart : (f g : Fault) → fault_order f g ≡ Less → fault_order g f ≡ Less → ⊥
apart f g p q = turned (fault_order f g) (fault_order g f) p q (fault_order_total.antisymm f g)

-- the first are the same
first : (x y : Fault) (xs ys : List Fault) → AllByRecursion (λ z. fault_order x z ≡ Less) xs → AllByRecursion (λ z. fault_order y z ≡ Less) ys
    → Contains (y ∷ ys) x → Contains (x ∷ xs) y → x ≡ y
first x y xs ys below_x below_y in_b in_a = elim (cases x y ys in_b) [
  | inl e ↦ e
  | inr t ↦ elim (cases y x xs in_a) [
    | inl e ↦ sym e
    | inr u ↦ absurd (apart x y (every (λ z. fault_order x z ≡ Less) xs below_x y u) (every (λ z. fault_order y z ≡ Less) ys below_y x t))
  ]
]

-- a fault that comes after the first in one list comes after it in the other
behind : (x y : Fault) (xs ys : List Fault) → AllByRecursion (λ z. fault_order x z ≡ Less) xs → x ≡ y → (f : Fault) → (Contains (x ∷ xs) f → Contains (y ∷ ys) f) → Contains xs f → Contains ys f
behind x y xs ys below same f to h = elim (cases f y ys (to (there f x xs h))) [
  | inl e ↦ let less : fault_order x x ≡ Less = every (λ z. fault_order x z ≡ Less) xs below x (subst (λ g. Contains xs g) (e ∙ sym same) h) in absurd (apart x x less less)
  | inr t ↦ t
]

pub one_list : OneOrder
unfolding IsStrictlySortedBy
one_list [] [] sorted_a sorted_b same = refl
one_list [] (y ∷ ys) sorted_a sorted_b same = absurd (none y ((same y).1 (here y ys)))
one_list (x ∷ xs) [] sorted_a sorted_b same = absurd (none x ((same x).0 (here x xs)))
one_list (x ∷ xs) (y ∷ ys) sorted_a sorted_b same =
    let one = first x y xs ys sorted_a.0 sorted_b.0 ((same x).0 (here x xs)) ((same y).1 (here y ys)) in
    ap₂ (λ z zs. z ∷ zs) one (one_list xs ys sorted_a.1 sorted_b.1 (λ f. (
      behind x y xs ys sorted_a.0 one f (same f).0,
      behind y x ys xs sorted_b.0 (sym one) f (same f).1,
    )))
