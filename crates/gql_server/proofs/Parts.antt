-- Parts of lists.
use Rattle.std.proofs.Common.{◌≡◌, ◌+◌, ◌-◌, ◌<◌, ◌≤◌, ◌∙◌, ℕ, List, [], ◌++◌, take, drop, length, sym, ap, arith, append-nil, drop-drop, take-add, length-take}
use Rattle.std.proofs.lemmas.List.{length-drop, length-take-le, take_all, take-append-drop}
use Rattle.std.proofs.Math.Seq.{take-append_seam}

-- the first n of what is left, and what is left then
pub left_after : (u : List ℕ) (at n : ℕ)
    → drop at u ≡ (take n (drop at u) ++ []) ++ drop (at + n) u
left_after u at n =
    sym (take-append-drop n (drop at u))
    ∙ ap (λ l. l ++ drop n (drop at u)) (sym (append-nil (take n (drop at u))))
    ∙ ap (λ l. (take n (drop at u) ++ []) ++ l) (drop-drop n at u)

-- the first n of a part of a list, and the rest of that part
pub part_after : (p : List ℕ) (from to n : ℕ) → n ≤ to - from
    → take (to - from) (drop from p) ≡ take n (drop from p) ++ take (to - (from + n)) (drop (from + n) p)
part_after p from to n h =
    let e : to - from ≡ n + (to - (from + n)) = omega (arith, h) in
    ap (λ k. take k (drop from p)) e
    ∙ take-add n (to - (from + n)) (drop from p)
    ∙ ap (λ l. take n (drop from p) ++ take (to - (from + n)) l) (drop-drop n from p)

-- the same, of two copies of the list
pub same_part : (p q r : List ℕ) (from to n : ℕ) → q ≡ p → r ≡ p → to ≤ length p
    → n ≤ length (take (to - from) (drop from q))
    → take (to - from) (drop from p)
    ≡ take ((from + n) - from) (drop from r) ++ take (to - (from + n)) (drop (from + n) p)
same_part p q r from to n hq hr fits h =
    let all : length (drop from p) ≡ length p - from = length-drop from p in
    let within : to - from ≤ length (drop from p) = rw all (omega (arith, fits)) in
    let short : length (take (to - from) (drop from p)) ≡ to - from = length-take-le (to - from) (drop from p) within in
    let same : n ≤ length (take (to - from) (drop from p)) = rw hq at h in
    let e : (from + n) - from ≡ n = omega arith in
    part_after p from to n (rw short at same)
    ∙ ap (λ k. take k (drop from p) ++ take (to - (from + n)) (drop (from + n) p)) (sym e)
    ∙ ap (λ l. take ((from + n) - from) (drop from l) ++ take (to - (from + n)) (drop (from + n) p)) (sym hr)

-- the same part is not empty
pub part_some : (p q r : List ℕ) (from to n : ℕ) → q ≡ p → r ≡ p → 0 < n
    → n ≤ length (take (to - from) (drop from q))
    → 0 < length (take ((from + n) - from) (drop from r))
part_some p q r from to n hq hr some h =
    let same : length r ≡ length q = ap length (hr ∙ sym hq) in
    omega (arith, length-take (to - from) (drop from q), length-drop from q, length-take ((from + n) - from) (drop from r), length-drop from r, same, h, some)

-- what is left is less than before
pub less_left : (u : List ℕ) (at n : ℕ) → 0 < n → at < length u
    → length (drop (at + n) u) < length (drop at u)
less_left u at n some within = omega (arith, length-drop (at + n) u, length-drop at u, some, within)

-- the first n bytes of a piece that was read into a list as long
pub read_part : (xs items : List ℕ) (n len : ℕ) → length xs ≡ len
    → take n xs ++ [] ≡ take (n - 0) (take len (xs ++ drop (length xs) items))
read_part xs items n len h =
    append-nil (take n xs)
    ∙ ap (take n) (sym (take-append_seam xs (drop (length xs) items)))
    ∙ ap (λ k. take n (take k (xs ++ drop (length xs) items))) h
    ∙ ap (λ k. take k (take len (xs ++ drop (length xs) items))) {x = n} {y = n - 0} (omega arith)

-- all that is left, by its length
pub whole_left : (u : List ℕ) (k : ℕ) → take (length u - k) (drop k u) ≡ drop k u
whole_left u k = take_all (length u - k) (drop k u) (rw (length-drop k u) (omega arith))
