-- Parts that are executed one after another, between two brackets.
use Rattle.std.proofs.Common.{◌≡◌, ℕ, zero, suc, ◌+◌, ◌<◌, ◌≤◌, List, [], ◌∷◌, ◌++◌, drop, length, take, get_or, refl, sym, ap, ◌∙◌, arith, subst, add-one, zero-add, append-nil}
use Rattle.std.specs.List.{fold}
use Rattle.std.proofs.lemmas.List.{take_all}
use Rattle.std.proofs.lemmas.List.Sums.{fold-append}
use Rattle.gql_steps.specs.Ended.{both}
use Rattle.gql_deep.specs.Frames.{Midway}
use Rattle.gql_steps.specs.Parts.{Part, all, followed_by, numbered, plain, within}
use Rattle.gql_steps.specs.States.{Done, Follows, errors_of}
use Rattle.gql_steps.specs.declared.ended.Ended.{Ended}
use Rattle.gql_steps.specs.declared.ended.Ended.TheVariants.{Written}
use Rattle.gql_steps.specs.declared.run.Run.{Run}
use Rattle.gql_steps.proofs.Doing.{done-both, within-done}
use Rattle.gql_steps.proofs.Parts.{grows}

-- ---- lists of parts

module _ {A : Type 0} (f : ℕ → A → Part) where
  pub numbered_length : (n : ℕ) (xs : List A) → length (numbered f n xs) ≡ length xs
  numbered_length n [] = refl
  numbered_length n (x ∷ xs) = ap suc (numbered_length (n + 1) xs)

  numbered_from : (n : ℕ) (xs : List A) (k : ℕ) (x : A) → k < length xs → x ≡ get_or xs k x → f (n + k) x ≡ get_or (numbered f n xs) k (f (n + k) x)
  numbered_from n [] k x h e = absurd (omega (arith, h))
  numbered_from n (y ∷ ys) zero x h e = let i : n + 0 ≡ n = omega arith in ap (λ m. f m x) i ∙ ap (f n) e
  numbered_from n (y ∷ ys) (suc k) x h e = let i : n + suc k ≡ n + 1 + k = omega arith in
      subst (λ m. f m x ≡ get_or (numbered f (n + 1) ys) k (f m x)) (sym i) (numbered_from (n + 1) ys k x (omega (arith, h)) e)

  pub numbered_at : (xs : List A) (k : ℕ) (x : A) → k < length xs → x ≡ get_or xs k x → f k x ≡ get_or (numbered f 0 xs) k (f k x)
  numbered_at xs k x h e = subst (λ m. f m x ≡ get_or (numbered f 0 xs) k (f m x)) (zero-add k) (numbered_from 0 xs k x h e)

  pub numbered_within : (xs : List A) (k : ℕ) → k < length xs → k < length (numbered f 0 xs)
  numbered_within xs k h = omega (arith, h, numbered_length 0 xs)

take_more : (rs : List Part) (k : ℕ) (r : Part) → k < length rs → r ≡ get_or rs k r → take (suc k) rs ≡ take k rs ++ r ∷ []
take_more [] k r h e = absurd (omega (arith, h))
take_more (y ∷ ys) zero r h e = ap (λ z. z ∷ []) (sym e)
take_more (y ∷ ys) (suc k) r h e = ap (λ zs. y ∷ zs) (take_more ys k r (omega (arith, h)) e)

parts_more : (rs : List Part) (k : ℕ) (r : Part) → k < length rs → r ≡ get_or rs k r → all (take (k + 1) rs) ≡ followed_by (all (take k rs)) r
parts_more rs k r h e = ap (λ n. all (take n rs)) (add-one k) ∙ ap all (take_more rs k r h e) ∙ fold-append followed_by (plain []) (take k rs) (r ∷ [])

take_split : (rs : List Part) (k : ℕ) → rs ≡ take k rs ++ drop k rs
take_split [] zero = refl
take_split [] (suc k) = refl
take_split (y ∷ ys) zero = refl
take_split (y ∷ ys) (suc k) = ap (λ zs. y ∷ zs) (take_split ys k)

parts_weight : (rs : List Part) (k : ℕ) → (all (take k rs)).weight ≤ (all rs).weight
parts_weight rs k = let e : all rs ≡ fold followed_by (all (take k rs)) (drop k rs) = ap all (take_split rs k) ∙ fold-append followed_by (plain []) (take k rs) (drop k rs) in
    rw e (grows (all (take k rs)) (drop k rs))

-- ---- one part more

nothing_done : (s : Run) → Done (plain []) Written s s
nothing_done s = record {
  follows = record { out = sym (append-nil s.out.items); errors = sym (append-nil (errors_of s)); raised = refl; path = refl; left = omega arith };
  ends = refl;
}

pub midway_starts : (before after : List ℕ) (parts : List Part) (whole : Part) (start opened : Run) → Follows (plain before) start opened → whole ≡ within before (all parts) after
    → Midway before after parts 0 Written whole start opened
midway_starts before after parts whole start opened opens is = record { opened = opened; opens = opens; done = nothing_done opened; is = is }

module _ (before after : List ℕ) (parts : List Part) (k : ℕ) (ended : Ended) (whole : Part) (start now : Run) (m : Midway before after parts k ended whole start now) where
  pub midway_path : now.path.items ≡ start.path.items
  midway_path = m.done.follows.path ∙ m.opens.path

  pub midway_more : (r : Part) → k < length parts → r ≡ get_or parts k r → (next_ended : Ended) (next : Run) → Done r next_ended now next
      → Midway before after parts (k + 1) (both ended next_ended) whole start next
  midway_more r h e next_ended next done = record {
    opened = m.opened;
    opens = m.opens;
    done = subst (λ p. Done p (both ended next_ended) m.opened next) (sym (parts_more parts k r h e)) (done-both (all (take k parts)) r ended next_ended m.opened now next m.done done);
    is = m.is;
  }

  pub midway_stops : (r : Part) → k < length parts → r ≡ get_or parts k r → now.left < r.weight → start.left < whole.weight
  midway_stops r h e heavy =
      let more : (all (take (k + 1) parts)).weight ≡ (all (take k parts)).weight + r.weight = ap (λ (p : Part). p.weight) (parts_more parts k r h e) in
      let part : (all (take (k + 1) parts)).weight ≤ (all parts).weight = parts_weight parts (k + 1) in
      let is : whole.weight ≡ 0 + (all parts).weight + 0 = ap (λ (p : Part). p.weight) m.is in
      omega (arith, more, part, is, heavy, m.done.follows.left, m.opens.left)

  pub midway_ends : length parts ≤ k → (end : Run) → Follows (plain after) now end → Done whole ended start end
  midway_ends h end closes = subst (λ p. Done p ended start end) (sym m.is)
      (within-done before after (λ p. all parts) start m.opened now m.opens ended end (subst (λ ps. Done (all ps) ended m.opened now) (take_all k parts h) m.done) closes)
