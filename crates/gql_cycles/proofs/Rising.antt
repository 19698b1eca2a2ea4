-- Lists that rise, one more at the end or one less.
use Rattle.std.proofs.Common.{◌≡◌, ℕ, ◌+◌, ◌-◌, ◌<◌, ◌≤◌, inl, inr, List, [], ◌∷◌, ◌++◌, length, get_or, take, Contains, sym, ◌∙◌, ap, refl, arith, length-append}
use Rattle.std.proofs.lemmas.Bool.{cases_eq, cases_lt}
use Rattle.std.proofs.lemmas.List.{get_or_append_left, get_or_push, get_or_default, take_all, take_more}
use Rattle.gql_cycles.specs.Path.{Ends, Rises}

-- an element, by its position
at : (xs : List ℕ) (x : ℕ) → Contains xs x → (i : ℕ) × (i < length xs) × (get_or xs i 0 ≡ x)
at xs x c = (c.0, c.1, get_or_default xs c.0 0 x c.1 ∙ c.2)

pub rises_push : (xs : List ℕ) (y : ℕ) → Rises xs → ((x : ℕ) → Contains xs x → x < y) → Rises (xs ++ y ∷ [])
rises_push xs y r below i j ij lt =
    let len : length (xs ++ y ∷ []) ≡ length xs + 1 = length-append xs (y ∷ []) in
    let li : i < length xs = omega arith in
    let ei : get_or (xs ++ y ∷ []) i 0 ≡ get_or xs i 0 = get_or_append_left xs (y ∷ []) 0 i li in
    elim (cases_lt j (length xs)) [
      | inl lj ↦ let ej : get_or (xs ++ y ∷ []) j 0 ≡ get_or xs j 0 = get_or_append_left xs (y ∷ []) 0 j lj in
          let h = r i j ij lj in omega arith
      | inr ge ↦
          let ej : get_or (xs ++ y ∷ []) j 0 ≡ y = get_or_push xs y 0 j (omega arith) in
          let h = below (get_or xs i 0) (i, li, get_or_default xs i (get_or xs i 0) 0 li) in omega arith
    ]

pub rises_pop : (xs : List ℕ) (y : ℕ) → Rises (xs ++ y ∷ []) → Rises xs
rises_pop xs y r i j ij lt =
    let li : i < length xs = omega arith in
    let len : length (xs ++ y ∷ []) ≡ length xs + 1 = length-append xs (y ∷ []) in
    let ei : get_or (xs ++ y ∷ []) i 0 ≡ get_or xs i 0 = get_or_append_left xs (y ∷ []) 0 i li in
    let ej : get_or (xs ++ y ∷ []) j 0 ≡ get_or xs j 0 = get_or_append_left xs (y ∷ []) 0 j lt in
    let h = r i j ij (omega arith) in omega arith

pub rises_last : (xs : List ℕ) (y : ℕ) → Rises (xs ++ y ∷ []) → (x : ℕ) → Contains xs x → x < y
rises_last xs y r x c =
    let p = at xs x c in
    let len : length (xs ++ y ∷ []) ≡ length xs + 1 = length-append xs (y ∷ []) in
    let li : p.0 < length xs = p.1 in
    let ei : get_or (xs ++ y ∷ []) p.0 0 ≡ get_or xs p.0 0 = get_or_append_left xs (y ∷ []) 0 p.0 li in
    let ej : get_or (xs ++ y ∷ []) (length xs) 0 ≡ y = get_or_push xs y 0 (length xs) refl in
    let h = r p.0 (length xs) li (omega arith) in
    omega (arith, p.2)

-- the last one
pub ends_in : (xs : List ℕ) (x : ℕ) → Ends xs x → Contains xs x
ends_in xs x e = (length xs - 1, omega (arith, e.0), get_or_default xs (length xs - 1) x 0 (omega (arith, e.0)) ∙ e.1)

pub ends_split : (xs : List ℕ) (x : ℕ) → Ends xs x → xs ≡ take (length xs - 1) xs ++ x ∷ []
ends_split xs x e =
    let pos : 0 < length xs = e.0 in
    let lt : length xs - 1 < length xs = omega arith in
    let s : length xs - 1 + 1 ≡ length xs = omega arith in
    let t : take (length xs - 1 + 1) xs ≡ take (length xs - 1) xs ++ get_or xs (length xs - 1) 0 ∷ [] = take_more xs (length xs - 1) 0 lt in
    sym (take_all (length xs - 1 + 1) xs (omega arith)) ∙ t ∙ ap (λ y. take (length xs - 1) xs ++ y ∷ []) e.1

pub ends_above : (xs : List ℕ) (x : ℕ) → Rises xs → Ends xs x → (c : ℕ) → Contains xs c → c ≤ x
ends_above xs x r e c o =
    let p = at xs c o in
    elim (cases_eq (p.0 + 1) (length xs)) [
      | inl s ↦
          let q : length xs - 1 ≡ p.0 = omega arith in
          let z : get_or xs p.0 0 ≡ x = ap (λ k. get_or xs k 0) (sym q) ∙ e.1 in
          omega (arith, p.2)
      | inr ne ↦ let h = r p.0 (length xs - 1) (omega (arith, p.1)) (omega (arith, e.0)) in omega (arith, p.2, e.1)
    ]

-- where the last of those is another, it is not among them
pub ends_other : (xs : List ℕ) (x : ℕ) → Rises xs → ((c : ℕ) → Contains xs c → c ≤ x) → (Ends xs x → ⊥) → (b : ℕ) → Contains xs b → b ≡ x → ⊥
ends_other xs x r above ne b o s =
    let p = at xs b o in
    let l : Ends xs (get_or xs (length xs - 1) 0) = (omega (arith, p.1), refl) in
    let h = ends_above xs (get_or xs (length xs - 1) 0) r l b o in
    let a = above (get_or xs (length xs - 1) 0) (ends_in xs (get_or xs (length xs - 1) 0) l) in
    ne (omega (arith, p.1), omega arith)
