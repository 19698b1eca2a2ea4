-- Laws of parts.
use Rattle.std.proofs.Common.{◌≡◌, ℕ, zero, suc, ◌+◌, ◌<◌, ◌≤◌, List, [], ◌∷◌, ◌++◌, map, Bool, true, false, refl, sym, ap, ◌∙◌, arith, get_or, take, drop, length, codes, add-zero, zero-add}
use Rattle.std.specs.List.{fold}
use Rattle.std.proofs.lemmas.List.Sums.{fold-append}
use Rattle.gql_steps.specs.Parts.{Part, plain, comma, followed_by, all, numbered, has_own}
use Rattle.gql_steps.specs.Replies.{Note, own, below, Error, kept}

pub kept-append : (b : Bool) (ms ns : List Note) → kept b (ms ++ ns) ≡ kept b ms ++ kept (has_own b ms) ns
kept-append b [] ns = refl
kept-append true (own e ∷ ms) ns = kept-append true ms ns
kept-append false (own e ∷ ms) ns = ap (λ es. e ∷ es) (kept-append true ms ns)
kept-append b (below e ∷ ms) ns = ap (λ es. e ∷ es) (kept-append b ms ns)

pub has_own-append : (b : Bool) (ms ns : List Note) → has_own b (ms ++ ns) ≡ has_own (has_own b ms) ns
has_own-append b [] ns = refl
has_own-append b (own e ∷ ms) ns = has_own-append true ms ns
has_own-append b (below e ∷ ms) ns = has_own-append b ms ns

-- errors of fields below are all kept, and none is the field's own
pub kept-below : (b : Bool) (es : List Error) → kept b (map below es) ≡ es
kept-below b [] = refl
kept-below b (e ∷ es) = ap (λ r. e ∷ r) (kept-below b es)

pub has_own-below : (b : Bool) (es : List Error) → has_own b (map below es) ≡ b
has_own-below b [] = refl
has_own-below b (e ∷ es) = has_own-below b es

pub comma_first : (i : ℕ) → i ≡ 0 → comma i ≡ plain []
comma_first zero e = refl
comma_first (suc i) e = absurd (omega arith)

pub comma_later : (i : ℕ) → 0 < i → comma i ≡ plain (codes ",")
comma_later zero h = absurd (omega arith)
comma_later (suc i) h = refl

-- ---- parts, one after the other

module _ {A : Type 0} (f : ℕ → A → Part) where
  pub numbered-split : (n : ℕ) (xs : List A) (k : ℕ) → numbered f n xs ≡ numbered f n (take k xs) ++ numbered f (n + k) (drop k xs)
  numbered-split n xs zero = ap (λ m. numbered f m xs) (sym (add-zero n))
  numbered-split n [] (suc k) = refl
  numbered-split n (x ∷ xs) (suc k) = let e : n + 1 + k ≡ n + suc k = omega arith in
      ap (λ rs. f n x ∷ rs) (numbered-split (n + 1) xs k ∙ ap (λ m. numbered f (n + 1) (take k xs) ++ numbered f m (drop k xs)) e)

  pub numbered-more : (n : ℕ) (xs : List A) (k : ℕ) (x : A) → k < length xs → x ≡ get_or xs k x → numbered f n (take (suc k) xs) ≡ numbered f n (take k xs) ++ f (n + k) x ∷ []
  numbered-more n [] k x h e = absurd (omega (arith, h))
  numbered-more n (y ∷ ys) zero x h e = rw (add-zero n) (ap (λ z. f n z ∷ []) (sym e))
  numbered-more n (y ∷ ys) (suc k) x h e = let i : n + 1 + k ≡ n + suc k = omega arith in
      ap (λ rs. f n y ∷ rs) (numbered-more (n + 1) ys k x (omega (arith, h)) e ∙ ap (λ m. numbered f (n + 1) (take k ys) ++ f m x ∷ []) i)

  pub all-more : (xs : List A) (k : ℕ) (x : A) → k < length xs → x ≡ get_or xs k x
      → all (numbered f 0 (take (suc k) xs)) ≡ followed_by (all (numbered f 0 (take k xs))) (f k x)
  all-more xs k x h e = ap all (numbered-more 0 xs k x h e) ∙ fold-append followed_by (plain []) (numbered f 0 (take k xs)) (f (0 + k) x ∷ [])
      ∙ ap (λ m. followed_by (all (numbered f 0 (take k xs))) (f m x)) (zero-add k)

pub grows : (r : Part) (rs : List Part) → r.weight ≤ (fold followed_by r rs).weight
grows r [] = omega arith
grows r (q ∷ rs) = omega (arith, grows (followed_by r q) rs)

pub weight-part : {A : Type 0} (f : ℕ → A → Part) (xs : List A) (k : ℕ) → (all (numbered f 0 (take k xs))).weight ≤ (all (numbered f 0 xs)).weight
weight-part f xs k = let e : all (numbered f 0 xs) ≡ fold followed_by (all (numbered f 0 (take k xs))) (numbered f (0 + k) (drop k xs))
    = ap all (numbered-split f 0 xs k) ∙ fold-append followed_by (plain []) (numbered f 0 (take k xs)) (numbered f (0 + k) (drop k xs)) in
    rw e (grows (all (numbered f 0 (take k xs))) (numbered f (0 + k) (drop k xs)))
