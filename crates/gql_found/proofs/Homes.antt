-- The last definition of a file that starts by an offset, with one definition more.
use Rattle.std.proofs.Common.{◌≡◌, ◌<◌, ◌+◌, ◌-◌, ◌∙◌, ℕ, List, [], ◌∷◌, ◌++◌, length, take, get_or, cond, ap, refl, Bool, true, false, Some, append-nil, arith}
use Rattle.std.specs.Prelude.{filter, slice_get}
use Rattle.std.proofs.lemmas.List.{length-append}
use Rattle.std.proofs.lemmas.List.Elements.{filter_more}
use Rattle.gql_ast.specs.declared.definition.Definition.{Definition}
use Rattle.gql_found.specs.Homes.{last_by, last_of, starts_by}

-- an item after a list is the one at its length
at_end : {A : Type 0} (xs : List A) (x : A) → slice_get (xs ++ x ∷ []) (length xs) ≡ Some x
at_end [] x = refl
at_end (y ∷ ys) x = at_end ys x

-- an item after a list is its last
pub last_added : {A : Type 0} (xs : List A) (x : A) → last_of (xs ++ x ∷ []) ≡ Some x
last_added xs x =
    let e : length (xs ++ x ∷ []) - 1 ≡ length xs = rw (length-append xs (x ∷ [])) (omega arith) in
    ap (slice_get (xs ++ x ∷ [])) e ∙ at_end xs x

added : {A : Type 0} (b : Bool) (xs : List A) (x : A) → last_of (xs ++ cond b (x ∷ []) []) ≡ cond b (Some x) (last_of xs)
added true xs x = last_added xs x
added false xs x = ap last_of (append-nil xs)

-- a definition more is the last, if it starts by the offset
pub last_more : (offset : ℕ) (ds : List Definition) (i : ℕ) (d : Definition) → i < length ds
    → last_by offset (take (i + 1) ds) ≡ cond (starts_by offset (get_or ds i d)) (Some (get_or ds i d)) (last_by offset (take i ds))
last_more offset ds i d within =
    ap last_of (filter_more (starts_by offset) ds i d within) ∙ added (starts_by offset (get_or ds i d)) (filter (starts_by offset) (take i ds)) (get_or ds i d)
