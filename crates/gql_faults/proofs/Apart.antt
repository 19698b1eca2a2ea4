-- Where all names differ, none occurs more than once.
use Rattle.std.proofs.Common.{◌≡◌, ◌≤◌, ℕ, List, [], ◌∷◌, ◌+◌, ◌&&◌, not, nat_lt, bytes_eq, Bool, true, false, refl, sym, subst, arith, filter, cond}
use Rattle.std.proofs.lemmas.List.Sums.{sum_by-cons}
use Rattle.std.proofs.lemmas.Grind.{common_steps}
use Rattle.std.proofs.lemmas.Bool.{or_parts, false≢true}
use Rattle.std.proofs.lemmas.Slice.Eq.{bytes_eq-Decides}
use Rattle.gql_ast.specs.declared.text.Name.{Name}
use Rattle.gql_built_in.specs.declared.sited.Sited.{Sited}
use Rattle.gql_faults.specs.Apart.{is_there, are_apart}
use Rattle.gql_faults.specs.Names.{count_of, repeated}

count_cons : (q : List ℕ) (n : Sited Name) (ns : List (Sited Name)) → count_of q (n ∷ ns) ≡ cond (bytes_eq q n.node.text) 1 0 + count_of q ns
count_cons q n ns = sum_by-cons (λ (m : Sited Name). cond (bytes_eq q m.node.text) 1 0) n ns

not_there : (q : List ℕ) (ns : List (Sited Name)) → is_there q ns ≡ false → count_of q ns ≡ 0
not_there q [] e = refl
not_there q (n ∷ ns) e =
    let parts = or_parts (bytes_eq q n.node.text) (is_there q ns) e in
    grind (arith, common_steps, count_cons q n ns, parts.0, not_there q ns parts.1)

and_left : (a b : Bool) → not a && b ≡ true → a ≡ false
and_left true b e = absurd (false≢true e)
and_left false b e = refl

and_right : (a b : Bool) → not a && b ≡ true → b ≡ true
and_right true b e = absurd (false≢true e)
and_right false b e = e

mutual-step : (q : List ℕ) (n : Sited Name) (ns : List (Sited Name)) (b : Bool) → bytes_eq q n.node.text ≡ b → is_there n.node.text ns ≡ false
    → count_of q ns ≤ 1 → cond b 1 0 + count_of q ns ≤ 1
mutual-step q n ns true e apart most =
    let never = subst (λ t. count_of t ns ≡ 0) (sym ((bytes_eq-Decides q n.node.text).0 e)) (not_there n.node.text ns apart) in
    omega (arith, never)
mutual-step q n ns false e apart most = omega (arith, most)

at_most_once : (q : List ℕ) (ns : List (Sited Name)) → are_apart ns ≡ true → count_of q ns ≤ 1
at_most_once q [] e = omega arith
at_most_once q (n ∷ ns) e =
    let there = is_there n.node.text ns in
    let rest = are_apart ns in
    let most = mutual-step q n ns (bytes_eq q n.node.text) refl (and_left there rest e) (at_most_once q ns (and_right there rest e)) in
    subst (λ k. k ≤ 1) (sym (count_cons q n ns)) most

not_more : (k : ℕ) → k ≤ 1 → nat_lt 1 k ≡ false
not_more k h = grind (arith, h)

none_pass : (p : Sited Name → Bool) (ns : List (Sited Name)) → ((n : Sited Name) → p n ≡ false) → filter p ns ≡ []
none_pass p [] none = refl
none_pass p (n ∷ ns) none = rw (none n) (none_pass p ns none)

pub apart_none : (ns : List (Sited Name)) → are_apart ns ≡ true → repeated ns ≡ []
apart_none ns e = none_pass (λ (n : Sited Name). nat_lt 1 (count_of n.node.text ns)) ns (λ n. not_more (count_of n.node.text ns) (at_most_once n.node.text ns e))
