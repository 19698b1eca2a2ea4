-- The place behind one more byte.
use Rattle.std.proofs.Common.{◌≡◌, ℕ, zero, suc, ◌+◌, ◌-◌, ◌<◌, ◌≤◌, List, [], ◌∷◌, length, get_or, take, refl, ap, ◌∙◌, arith, length-take, ◌&&◌}
use Rattle.std.proofs.lemmas.List.{reverse-append, take_more, length-reverse}
use Rattle.std.specs.Prelude.{◌==◌, reverse, nat_lt}
use Rattle.gql_text.specs.Place.{place_after, line_behind, column_behind, starts_with_return}
use Rattle.gql_text.specs.declared.place.Place.{Place}

pub line_bound : (bs : List ℕ) → line_behind bs ≤ 1 + length bs
line_bound [] = omega arith
line_bound (b ∷ bs) = grind (arith, line_bound bs)

pub column_bound : (bs : List ℕ) → column_behind bs ≤ 1 + length bs
column_bound [] = omega arith
column_bound (b ∷ bs) = grind (arith, column_bound bs)

pub place_bound : (xs : List ℕ) (n : ℕ) (p : Place) → p ≡ place_after (take n xs) → (p.line ≤ 1 + length xs) × (p.column ≤ 1 + length xs)
place_bound xs n p e =
    let line : p.line ≡ line_behind (reverse (take n xs)) = ap (λ (q : Place). q.line) e in
    let column : p.column ≡ column_behind (reverse (take n xs)) = ap (λ (q : Place). q.column) e in
    let short : length (reverse (take n xs)) ≤ length xs = omega (arith, length-reverse (take n xs), length-take n xs) in
    (omega (arith, line_bound (reverse (take n xs))), omega (arith, column_bound (reverse (take n xs))))

-- the bytes read backwards, with one more
pub reverse_more : (xs : List ℕ) (i : ℕ) → i < length xs → reverse (take (i + 1) xs) ≡ get_or xs i 0 ∷ reverse (take i xs)
reverse_more xs i h = rw (take_more xs i 0 h, reverse-append (take i xs) (get_or xs i 0 ∷ [])) refl

pub return_before : (xs : List ℕ) (i : ℕ) → i < length xs → starts_with_return (reverse (take i xs)) ≡ (nat_lt 0 i && (get_or xs (i - 1) 0 == 13))
return_before xs zero h = refl
return_before xs (suc i) h =
    let less : i < length xs = omega arith in
    let e : suc i ≡ i + 1 = omega arith in
    ap starts_with_return (ap (λ n. reverse (take n xs)) e ∙ reverse_more xs i less) ∙ grind arith
