-- The entry of a key, and the readers of a key.
use Rattle.std.proofs.Common.{◌≡◌, List, [], ◌∷◌, Some, None, ap, sym, subst, ◌∙◌, Contains, length, get_or, arith}
use Rattle.std.specs.Prelude.{slice_get}
use Rattle.gql_facts.specs.ListMembers.{Contains-nil, Contains-here}
use Rattle.gql_facts.specs.declared.key.Key.{Key}
use Rattle.gql_readers.specs.Indexes.{IsIndexOf, Reading}
use Rattle.gql_readers.specs.Merged.{here, key_of}
use Rattle.gql_readers.specs.OrderLaws.{key_exact, key_total}
use Rattle.gql_readers.specs.Orders.{key_order}
use Rattle.gql_readers.specs.Readers.{Reader, readers_of}
use Rattle.gql_readers.proofs.Merging.{here_from, here_has}
use Rattle.gql_readers.proofs.Reading.{none_reads, observes_from}

first_is : {A : Type 0} (x y : A) (xs : List A) → Some x ≡ slice_get (y ∷ xs) 0 → x ≡ y
first_is x y xs e = cc e

pub first_in : {A : Type 0} (x : A) (xs : List A) → Some x ≡ slice_get xs 0 → Contains xs x
first_in x [] e = absurd (let t : Some x ≡ None = e in cc)
first_in x (y ∷ ys) e = subst (λ z. Contains (y ∷ ys) z) (sym (first_is x y ys e)) (Contains-here y ys)

none_in : {A : Type 0} (xs : List A) → None ≡ slice_get xs 0 → (x : A) → Contains xs x → ⊥
none_in [] e x c = Contains-nil x c
none_in (y ∷ ys) e x c = let t : None ≡ Some y = e in cc

pub found_some : (es found : List Reading) (k : Key) (e : Reading) → found ≡ here key_order key_of k es → Some e ≡ slice_get found 0 → Contains es e × (e.key ≡ k)
found_some es found k e is at = here_from key_order key_total key_exact key_of k es e (subst (λ zs. Contains zs e) is (first_in e found at))

pub found_none : (es found : List Reading) (k : Key) → found ≡ here key_order key_of k es → None ≡ slice_get found 0 → (e : Reading) → Contains es e → e.key ≡ k → ⊥
found_none es found k is at e c q = none_in found at e (subst (λ zs. Contains zs e) (sym is) (here_has key_order key_total key_exact key_of k es e c q))

pub readers_some : (es : List Reading) (k : Key) (e : Reading) → Contains es e × (e.key ≡ k) → (rs : List Reader) → IsIndexOf es rs → e.readers ≡ readers_of k rs
readers_some es k e at rs index = index.exact e at.0 ∙ ap (λ j. readers_of j rs) at.1

pub readers_none : (es : List Reading) (k : Key) → ((e : Reading) → Contains es e → e.key ≡ k → ⊥) → (rs : List Reader) → IsIndexOf es rs → readers_of k rs ≡ []
readers_none es k lacks rs index = none_reads k rs (λ r c o.
    let x = observes_from k r o in
    let e = index.answers r x.0 c x.1 in
    lacks e.0 e.1 (e.2 ∙ x.2))

pub one_is : {A : Type 0} (xs : List A) (x : A) → length xs ≡ 1 → x ≡ get_or xs 0 x → xs ≡ x ∷ []
one_is [] x l e = absurd (omega (arith, l))
one_is (y ∷ []) x l e = ap (λ z. z ∷ []) (sym e)
one_is (y ∷ z ∷ xs) x l e = absurd (omega (arith, l))
