-- Words and marks: where the parts of a text end.
use Rattle.std.proofs.Common.{◌≡◌, ◌<◌, ◌≤◌, ◌+◌, ◌%◌, ◌^◌, ℕ, List, [], ◌∷◌, ◌++◌, length, Bool, true, false, ◌||◌, ◌==◌, cond, refl, sym, ap, ◌∙◌, arith, true≢false}
use Rattle.std.specs.Prelude.{decimal, nat_lt, codes, bytes_eq}
use Rattle.std.proofs.lemmas.Fmt.{decimal_by_steps}

-- a byte that ends a name, a number and the length of a string: `"`, `(`, `,`, `:`, `[`, `]`, `{`
-- and `}`
abbrev pub is_mark : ℕ → Bool
is_mark b =
    b == 34 || (b == 40 || (b == 44 || (b == 58 || (b == 91 || (b == 93 || (b == 123 || b == 125))))))

-- no byte is a mark
abbrev pub IsClear : List ℕ → Type 0
IsClear [] = Unit {0}
IsClear (b ∷ bs) = (is_mark b ≡ false) × IsClear bs

pub clear_append : (xs ys : List ℕ) → IsClear xs → IsClear ys → IsClear (xs ++ ys)
clear_append [] ys p q = q
clear_append (x ∷ xs) ys p q = (p.0, clear_append xs ys p.1 q)

head_or : List ℕ → ℕ
head_or [] = 0
head_or (b ∷ bs) = b

tail_of : List ℕ → List ℕ
tail_of [] = []
tail_of (b ∷ bs) = bs

pub same_head : (a b : ℕ) (xs ys : List ℕ) → a ∷ xs ≡ b ∷ ys → a ≡ b
unfolding head_or
same_head a b xs ys e = ap head_or e

pub same_tail : (a b : ℕ) (xs ys : List ℕ) → a ∷ xs ≡ b ∷ ys → xs ≡ ys
unfolding tail_of
same_tail a b xs ys e = ap tail_of e

-- texts that are equal have the same word up to the first mark, the same mark and the same rest
pub words : (w v : List ℕ) (m k : ℕ) (r s : List ℕ) → IsClear w → IsClear v → is_mark m ≡ true
    → is_mark k ≡ true
    → w ++ (m ∷ r) ≡ v ++ (k ∷ s) → (w ≡ v) × (m ≡ k) × (r ≡ s)
words [] [] m k r s p q mark other e = (refl, same_head m k r s e, same_tail m k r s e)
words [] (b ∷ v) m k r s p q mark other e =
    absurd (true≢false (sym mark ∙ ap is_mark (same_head m b r (v ++ (k ∷ s)) e) ∙ q.0))
words (a ∷ w) [] m k r s p q mark other e =
    absurd (true≢false (sym other ∙ ap is_mark (sym (same_head a k (w ++ (m ∷ r)) s e)) ∙ p.0))
words (a ∷ w) (b ∷ v) m k r s p q mark other e =
    let first : a ≡ b = same_head a b (w ++ (m ∷ r)) (v ++ (k ∷ s)) e in
    let more =
    words w v m k r s p.1 q.1 mark other (same_tail a b (w ++ (m ∷ r)) (v ++ (k ∷ s)) e) in
    (cc (first, more.0), more.1, more.2)

-- texts of one length that are in front of others
pub fronts : (xs ys r s : List ℕ) → length xs ≡ length ys → xs ++ r ≡ ys ++ s → (xs ≡ ys) × (r ≡ s)
fronts [] [] r s long e = (refl, e)
fronts [] (y ∷ ys) r s long e = absurd (omega (arith, long))
fronts (x ∷ xs) [] r s long e = absurd (omega (arith, long))
fronts (x ∷ xs) (y ∷ ys) r s long e =
    let first : x ≡ y = same_head x y (xs ++ r) (ys ++ s) e in
    let more = fronts xs ys r s (omega (arith, long)) (same_tail x y (xs ++ r) (ys ++ s) e) in
    (cc (first, more.0), more.1)

-- ---- bytes that are no marks

low_clear : (b : ℕ) → 48 ≤ b → b ≤ 57 → is_mark b ≡ false
low_clear b low high = grind (arith, low, high)

pub digit_clear : (d : ℕ) → d < 10 → is_mark (48 + d) ≡ false
digit_clear d h = low_clear (48 + d) (omega arith) (omega (arith, h))

pub decimal_clear : (n : ℕ) → n < 2 ^ 64 → IsClear (decimal n)
decimal_clear n h = decimal_by_steps (λ k ds. IsClear ds) (λ k low. (digit_clear k low, tt))
    (λ k ds low clear. clear_append ds ((48 + k % 10) ∷ []) clear (digit_clear (k % 10) (omega arith), tt)) n h

-- ---- what a word is

-- a variable, a number, a Boolean value, null or an enum value
pub data Sort : Type 0 where
  a_variable a_number a_boolean a_null an_enum : Sort

abbrev pub sort_of_name : List ℕ → Sort
sort_of_name w =
    cond (bytes_eq w (codes "true")) a_boolean (cond (bytes_eq w (codes "false")) a_boolean
    (cond (bytes_eq w (codes "null")) a_null an_enum))

abbrev pub sort_of : List ℕ → Sort
sort_of [] = an_enum
sort_of (b ∷ bs) = cond (b == 36) a_variable (cond (nat_lt b 65) a_number (sort_of_name (b ∷ bs)))
