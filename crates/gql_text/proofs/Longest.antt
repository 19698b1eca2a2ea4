-- What stands at the front of a text doesn't change when the text is cut behind it.
use Rattle.std.proofs.Common.{◌≡◌, ℕ, ◌+◌, ◌<◌, ◌≤◌, List, [], ◌∷◌, ◌++◌, length, take, drop, length-drop, refl, sym, ap, subst, ◌∙◌, arith, Bool, true, false, cond, Option, Some, None, inl, inr}
use Rattle.std.specs.List.{prefix_len, list_any}
use Rattle.std.specs.Char.{is_ascii_digit, is_ascii_hexdigit}
use Rattle.std.specs.Prelude.{codes, ◌==◌, ◌&&◌, ◌||◌, not}
use Rattle.std.proofs.lemmas.List.{drop-append-le, take-append-drop, length-take-le}
use Rattle.gql_text.specs.Chars.{is_name_start, is_name_byte, is_break, is_blank, is_source_byte, begins, three_quotes, one_quote}
use Rattle.gql_text.specs.Number.{number_end, exponent_digits, exponent_part, fraction_digits, fraction_part, number_part, spoils_number, is_exponent_mark, sign_len}
use Rattle.gql_text.specs.Marks.{mark_kind, mark_part, dots_part, order_part, comment_part, plain_part}
use Rattle.gql_text.specs.Pieces.{four_digits, is_high, is_low, escaped_number, number_piece, digits_piece, escape_piece, string_piece, block_piece}
use Rattle.gql_text.specs.Lexis.{Run, closes, goes, stops, Stands, block_string, string, plain}
use Rattle.gql_text.specs.Laws.{IsToken}
use Rattle.gql_text.specs.declared.token.Kind.{Kind}
use Rattle.gql_text.specs.declared.token.Kind.TheVariants.{Name, IntValue, FloatValue, StringValue, BlockString}
use Rattle.gql_text.specs.declared.front.Part.{Part}
use Rattle.gql_text.specs.declared.front.Part.TheVariants.{Dropped, Taken}
use Rattle.gql_text.specs.declared.front.Piece.{Piece}
use Rattle.gql_text.specs.declared.front.Piece.TheVariants.{Closes, Goes}
use Rattle.gql_text.proofs.Runs.{chosen, short_stops, string_goes, block_goes}
use Rattle.gql_text.proofs.Fitting.{stands_fits, escape_goes_on}
use Rattle.gql_text.proofs.Fronts.{none_from}
use Rattle.gql_text.proofs.Cuts.{both_of, string_end, block_end}
use Rattle.gql_text.proofs.Readings.{stands_one}

-- a token of at most so many bytes that is the first is the second
pub Keeps : ℕ → Part → Part → Type 0
Keeps most p q = (kind : Kind) (n : ℕ) → n ≤ most → p ≡ Taken kind n → q ≡ Taken kind n

keeps_either : (most : ℕ) (b : Bool) (x y u v : Part) → Keeps most x u → Keeps most y v → Keeps most (cond b x y) (cond b u v)
keeps_either most true x y u v k h = k
keeps_either most false x y u v k h = h

keeps_same : (most : ℕ) (p : Part) → Keeps most p p
unfolding Keeps
keeps_same most p kind n h e = e

-- a run of a class, seen in the front alone
run_front_at : (p : ℕ → Bool) (x : ℕ) (front more : List ℕ) (t : Bool) → p x ≡ t
    → (prefix_len p (front ++ more) ≤ length front → prefix_len p front ≡ prefix_len p (front ++ more))
    → prefix_len p (x ∷ (front ++ more)) ≤ 1 + length front → prefix_len p (x ∷ front) ≡ prefix_len p (x ∷ (front ++ more))
run_front_at p x front more true e w h =
    let long : prefix_len p (x ∷ (front ++ more)) ≡ 1 + prefix_len p (front ++ more) = rw e refl in
    rw e (ap (λ n. 1 + n) (w (omega (arith, h, long))))
run_front_at p x front more false e w h = rw e refl

pub run_front : (p : ℕ → Bool) (front more : List ℕ) → prefix_len p (front ++ more) ≤ length front → prefix_len p front ≡ prefix_len p (front ++ more)
run_front p [] more h = omega (arith, h)
run_front p (x ∷ front) more h = run_front_at p x front more (p x) refl (run_front p front more) (omega (arith, h))

begins_front : (p : ℕ → Bool) (front more : List ℕ) → begins p (front ++ more) ≡ false → begins p front ≡ false
begins_front p [] more e = refl
begins_front p (x ∷ front) more e = e

-- a number has at least the bytes that are read
end_long : (kind k : Kind) (n i : ℕ) (bs : List ℕ) → number_end kind n bs ≡ Taken k i → n ≤ i
end_long kind k n i bs e = elim (chosen (begins spoils_number bs) e) [ inl h ↦ absurd (let g = h.1 in cc) | inr h ↦ let g = h.1 in let same : n ≡ i = cc in omega arith ]

exponent_digits_long : (k : Kind) (n i : ℕ) (bs : List ℕ) → exponent_digits n bs ≡ Taken k i → n + prefix_len is_ascii_digit bs ≤ i
unfolding exponent_digits
exponent_digits_long k n i bs e = elim (chosen (prefix_len is_ascii_digit bs == 0) e) [
  | inl h ↦ absurd (let g = h.1 in cc)
  | inr h ↦ end_long FloatValue k (n + prefix_len is_ascii_digit bs) i (drop (prefix_len is_ascii_digit bs) bs) h.1
]

exponent_long : (kind k : Kind) (n i : ℕ) (bs : List ℕ) → exponent_part kind n bs ≡ Taken k i → n ≤ i
unfolding exponent_part
exponent_long kind k n i [] e = end_long kind k n i [] e
exponent_long kind k n i (b ∷ bs) e = elim (chosen (is_exponent_mark b) e) [
  | inl h ↦ omega (arith, exponent_digits_long k (n + 1 + sign_len bs) i (drop (sign_len bs) bs) h.1)
  | inr h ↦ end_long kind k n i (b ∷ bs) h.1
]

fraction_digits_long : (k : Kind) (n i : ℕ) (bs : List ℕ) → fraction_digits n bs ≡ Taken k i → n + prefix_len is_ascii_digit bs ≤ i
unfolding fraction_digits
fraction_digits_long k n i bs e = elim (chosen (prefix_len is_ascii_digit bs == 0) e) [
  | inl h ↦ absurd (let g = h.1 in cc)
  | inr h ↦ exponent_long FloatValue k (n + prefix_len is_ascii_digit bs) i (drop (prefix_len is_ascii_digit bs) bs) h.1
]

fraction_long : (k : Kind) (n i : ℕ) (bs : List ℕ) → fraction_part n bs ≡ Taken k i → n ≤ i
unfolding fraction_part
fraction_long k n i [] e = exponent_long IntValue k n i [] e
fraction_long k n i (b ∷ bs) e = elim (chosen (b == 46) e) [
  | inl h ↦ omega (arith, fraction_digits_long k (n + 1) i bs h.1)
  | inr h ↦ exponent_long IntValue k n i (b ∷ bs) h.1
]

end_keeps : (kind : Kind) (n most : ℕ) (front more : List ℕ) → Keeps most (number_end kind n (front ++ more)) (number_end kind n front)
unfolding Keeps
end_keeps kind n most front more k i h e = elim (chosen (begins spoils_number (front ++ more)) e) [
  | inl g ↦ absurd (let f = g.1 in cc)
  | inr g ↦ rw (begins_front spoils_number front more g.0) g.1
]

exponent_digits_keeps : (n : ℕ) (front more : List ℕ) → Keeps (n + length front) (exponent_digits n (front ++ more)) (exponent_digits n front)
unfolding exponent_digits Keeps
exponent_digits_keeps n front more k i h e = elim (chosen (prefix_len is_ascii_digit (front ++ more) == 0) e) [
  | inl g ↦ absurd (let f = g.1 in cc)
  | inr g ↦
      let d : ℕ = prefix_len is_ascii_digit (front ++ more) in
      let long = end_long FloatValue k (n + d) i (drop d (front ++ more)) g.1 in
      let short : d ≤ length front = omega (arith, long, h) in
      let same : prefix_len is_ascii_digit front ≡ d = run_front is_ascii_digit front more short in
      let rest : number_end FloatValue (n + d) (drop d front ++ more) ≡ Taken k i = subst (λ xs. number_end FloatValue (n + d) xs ≡ Taken k i) (drop-append-le d front more short) g.1 in
      rw (same, g.0) (end_keeps FloatValue (n + d) i (drop d front) more k i (omega arith) rest)
]

sign_front : (front more : List ℕ) → sign_len (front ++ more) ≤ length front → sign_len front ≡ sign_len (front ++ more)
sign_front [] more h = omega (arith, h)
sign_front (b ∷ front) more h = refl

exponent_keeps : (kind : Kind) (n : ℕ) (front more : List ℕ) → Keeps (n + length front) (exponent_part kind n (front ++ more)) (exponent_part kind n front)
unfolding exponent_part Keeps
exponent_keeps kind n [] [] k i h e = e
exponent_keeps kind n [] (b ∷ more) k i h e = elim (chosen (is_exponent_mark b) e) [
  | inl g ↦ absurd (omega (arith, h, exponent_digits_long k (n + 1 + sign_len more) i (drop (sign_len more) more) g.1))
  | inr g ↦ end_keeps kind n i [] (b ∷ more) k i (omega arith) g.1
]
exponent_keeps kind n (b ∷ front) more k i h e = elim (chosen (is_exponent_mark b) e) [
  | inl g ↦
      let s : ℕ = sign_len (front ++ more) in
      let long = exponent_digits_long k (n + 1 + s) i (drop s (front ++ more)) g.1 in
      let short : s ≤ length front = omega (arith, long, h) in
      let rest : exponent_digits (n + 1 + s) (drop s front ++ more) ≡ Taken k i = subst (λ xs. exponent_digits (n + 1 + s) xs ≡ Taken k i) (drop-append-le s front more short) g.1 in
      rw (g.0, sign_front front more short) (exponent_digits_keeps (n + 1 + s) (drop s front) more k i (omega (arith, h, short, length-drop s front)) rest)
  | inr g ↦ rw g.0 (end_keeps kind n i (b ∷ front) more k i (omega arith) g.1)
]

fraction_digits_keeps : (n : ℕ) (front more : List ℕ) → Keeps (n + length front) (fraction_digits n (front ++ more)) (fraction_digits n front)
unfolding fraction_digits Keeps
fraction_digits_keeps n front more k i h e = elim (chosen (prefix_len is_ascii_digit (front ++ more) == 0) e) [
  | inl g ↦ absurd (let f = g.1 in cc)
  | inr g ↦
      let d : ℕ = prefix_len is_ascii_digit (front ++ more) in
      let long = exponent_long FloatValue k (n + d) i (drop d (front ++ more)) g.1 in
      let short : d ≤ length front = omega (arith, long, h) in
      let same : prefix_len is_ascii_digit front ≡ d = run_front is_ascii_digit front more short in
      let rest : exponent_part FloatValue (n + d) (drop d front ++ more) ≡ Taken k i = subst (λ xs. exponent_part FloatValue (n + d) xs ≡ Taken k i) (drop-append-le d front more short) g.1 in
      rw (same, g.0) (exponent_keeps FloatValue (n + d) (drop d front) more k i (omega (arith, h, short, length-drop d front)) rest)
]

fraction_keeps : (n : ℕ) (front more : List ℕ) → Keeps (n + length front) (fraction_part n (front ++ more)) (fraction_part n front)
unfolding fraction_part Keeps
fraction_keeps n [] [] k i h e = e
fraction_keeps n [] (b ∷ more) k i h e = elim (chosen (b == 46) e) [
  | inl g ↦ absurd (omega (arith, h, fraction_digits_long k (n + 1) i more g.1))
  | inr g ↦ exponent_keeps IntValue n [] (b ∷ more) k i h g.1
]
fraction_keeps n (b ∷ front) more k i h e = elim (chosen (b == 46) e) [
  | inl g ↦ rw g.0 (fraction_digits_keeps (n + 1) front more k i (omega (arith, h)) g.1)
  | inr g ↦ rw g.0 (exponent_keeps IntValue n (b ∷ front) more k i h g.1)
]

number_keeps : (n : ℕ) (front more : List ℕ) → Keeps (n + length front) (number_part n (front ++ more)) (number_part n front)
unfolding number_part Keeps
number_keeps n [] [] k i h e = e
number_keeps n [] (b ∷ more) k i h e = elim (chosen (b == 48) e) [
  | inl g ↦ absurd (omega (arith, h, fraction_long k (n + 1) i more g.1))
  | inr g ↦ elim (chosen (is_ascii_digit b) g.1) [
    | inl d ↦ absurd (omega (arith, h, fraction_long k (n + 1 + prefix_len is_ascii_digit more) i (drop (prefix_len is_ascii_digit more) more) d.1))
    | inr d ↦ absurd (let f = d.1 in cc)
  ]
]
number_keeps n (b ∷ front) more k i h e = elim (chosen (b == 48) e) [
  | inl g ↦ rw g.0 (fraction_keeps (n + 1) front more k i (omega (arith, h)) g.1)
  | inr g ↦ elim (chosen (is_ascii_digit b) g.1) [
    | inl x ↦
        let d : ℕ = prefix_len is_ascii_digit (front ++ more) in
        let long = fraction_long k (n + 1 + d) i (drop d (front ++ more)) x.1 in
        let short : d ≤ length front = omega (arith, long, h) in
        let rest : fraction_part (n + 1 + d) (drop d front ++ more) ≡ Taken k i = subst (λ xs. fraction_part (n + 1 + d) xs ≡ Taken k i) (drop-append-le d front more short) x.1 in
        rw (g.0, x.0, run_front is_ascii_digit front more short) (fraction_keeps (n + 1 + d) (drop d front) more k i (omega (arith, h, short, length-drop d front)) rest)
    | inr x ↦ absurd (let f = x.1 in cc)
  ]
]

dots_three : (k : Kind) (i : ℕ) (bs : List ℕ) → dots_part bs ≡ Taken k i → i ≡ 3
dots_three k i [] e = absurd (cc)
dots_three k i (b ∷ []) e = absurd (cc)
dots_three k i (b ∷ c ∷ bs) e = elim (chosen (b == 46 && c == 46) e) [ inl h ↦ let g = h.1 in cc | inr h ↦ absurd (let g = h.1 in cc) ]

dots_keeps : (front more : List ℕ) → Keeps (1 + length front) (dots_part (front ++ more)) (dots_part front)
unfolding Keeps
dots_keeps [] more k i h e = absurd (omega (arith, h, dots_three k i more e))
dots_keeps (b ∷ []) more k i h e = absurd (omega (arith, h, dots_three k i (b ∷ more) e))
dots_keeps (b ∷ c ∷ front) more k i h e = e

pub order_none : (bs : List ℕ) (k : Kind) (i : ℕ) → order_part bs ≡ Taken k i → ⊥
order_none [] k i e = cc
order_none (b ∷ []) k i e = cc
order_none (b ∷ c ∷ bs) k i e = elim (chosen (b == 187 && c == 191) e) [ inl h ↦ let g = h.1 in cc | inr h ↦ let g = h.1 in cc ]

order_keeps : (most : ℕ) (front more : List ℕ) (p : Part) → Keeps most (order_part (front ++ more)) p
unfolding Keeps
order_keeps most front more p k i h e = absurd (order_none (front ++ more) k i e)

comment_keeps : (most n m : ℕ) (xs ys : List ℕ) → Keeps most (comment_part n xs) (comment_part m ys)
unfolding Keeps
comment_keeps most n m xs ys k i h e = elim (chosen (begins (λ b. not (is_break b)) xs) e) [ inl g ↦ absurd (let f = g.1 in cc) | inr g ↦ absurd (let f = g.1 in cc) ]

name_keeps : (front more : List ℕ) → Keeps (1 + length front) (Taken Name (1 + prefix_len is_name_byte (front ++ more))) (Taken Name (1 + prefix_len is_name_byte front))
unfolding Keeps
name_keeps front more k i h e =
    let same : 1 + prefix_len is_name_byte (front ++ more) ≡ i = cc in
    ap (λ n. Taken Name (1 + n)) (run_front is_name_byte front more (omega (arith, same, h))) ∙ e

digit_keeps : (b : ℕ) (front more : List ℕ) → Keeps (1 + length front) (number_part 0 (b ∷ (front ++ more))) (number_part 0 (b ∷ front))
digit_keeps b front more =
    let same : 0 + length (b ∷ front) ≡ 1 + length front = omega arith in
    subst (λ m. Keeps m (number_part 0 (b ∷ (front ++ more))) (number_part 0 (b ∷ front))) same (number_keeps 0 (b ∷ front) more)

plain_keeps : (b : ℕ) (front more : List ℕ) → Keeps (1 + length front) (plain_part b (front ++ more)) (plain_part b front)
unfolding plain_part
plain_keeps b front more =
    let most : ℕ = 1 + length front in
    keeps_either most (is_blank b) _ _ _ _ (keeps_same most (Dropped 1))
    (keeps_either most (is_name_start b) _ _ _ _ (name_keeps front more)
    (keeps_either most (b == 45) _ _ _ _ (number_keeps 1 front more)
    (keeps_either most (is_ascii_digit b) _ _ _ _ (digit_keeps b front more)
    (keeps_either most (b == 35) _ _ _ _ (comment_keeps most (1 + prefix_len is_source_byte (front ++ more)) (1 + prefix_len is_source_byte front) (drop (prefix_len is_source_byte (front ++ more)) (front ++ more)) (drop (prefix_len is_source_byte front) front))
    (keeps_either most (b == 46) _ _ _ _ (dots_keeps front more)
    (keeps_either most (b == 239) _ _ _ _ (order_keeps most front more (order_part front)) (keeps_same most (mark_part (mark_kind b)))))))))

-- the pieces of a kind of string don't change when the text is cut behind them
pub record IsLocal (f : List ℕ → Piece) : Type 0 where
  pub closes_front : (front more : List ℕ) (k : ℕ) → f (front ++ more) ≡ Closes k → k ≤ length front → f front ≡ Closes k
  pub goes_front : (front more : List ℕ) (k : ℕ) → f (front ++ more) ≡ Goes k → k ≤ length front → f front ≡ Goes k

four_front : (front more : List ℕ) → 4 ≤ length front → four_digits (front ++ more) ≡ four_digits front
unfolding four_digits
four_front [] more h = absurd (omega arith)
four_front (a ∷ []) more h = absurd (omega arith)
four_front (a ∷ b ∷ []) more h = absurd (omega arith)
four_front (a ∷ b ∷ c ∷ []) more h = absurd (omega arith)
four_front (a ∷ b ∷ c ∷ d ∷ front) more h = refl

escaped_front : (front more : List ℕ) → 6 ≤ length front → escaped_number (front ++ more) ≡ escaped_number front
unfolding escaped_number
escaped_front [] more h = absurd (omega arith)
escaped_front (a ∷ []) more h = absurd (omega arith)
escaped_front (a ∷ b ∷ front) more h = rw (four_front front more (omega arith)) refl

number_six : (n k : ℕ) (bs : List ℕ) → number_piece n bs ≡ Goes k → 6 ≤ k
number_six n k bs e = elim (chosen (is_high n) e) [
  | inl h ↦ elim (chosen (is_low (escaped_number bs)) h.1) [ inl g ↦ let f = g.1 in let twelve : 12 ≡ k = cc in omega arith | inr g ↦ absurd (let f = g.1 in cc) ]
  | inr h ↦ elim (chosen (is_low n) h.1) [ inl g ↦ absurd (let f = g.1 in cc) | inr g ↦ let f = g.1 in let six : 6 ≡ k = cc in omega arith ]
]

digits_six : (o : Option ℕ) (k : ℕ) (bs : List ℕ) → digits_piece o bs ≡ Goes k → 6 ≤ k
digits_six (Some n) k bs e = number_six n k (drop 4 bs) e
digits_six None k bs e = absurd (short_stops k (drop (prefix_len is_ascii_hexdigit bs) bs) e)

number_front : (n k : ℕ) (front more : List ℕ) → number_piece n (front ++ more) ≡ Goes k → k ≤ 6 + length front → number_piece n front ≡ Goes k
number_front n k front more e w = elim (chosen (is_high n) e) [
  | inl h ↦ elim (chosen (is_low (escaped_number (front ++ more))) h.1) [
    | inl g ↦ let f = g.1 in let twelve : 12 ≡ k = cc in
        rw (h.0, ← escaped_front front more (omega (arith, twelve, w)), g.0) f
    | inr g ↦ absurd (let f = g.1 in cc)
  ]
  | inr h ↦ rw h.0 h.1
]

digits_front : (o : Option ℕ) (k : ℕ) (front more : List ℕ) → digits_piece o (front ++ more) ≡ Goes k → k ≤ 2 + length front → digits_piece o front ≡ Goes k
digits_front (Some n) k front more e w =
    let six = digits_six (Some n) k (front ++ more) e in
    let short : 4 ≤ length front = omega (arith, six, w) in
    number_front n k (drop 4 front) more (subst (λ xs. number_piece n xs ≡ Goes k) (drop-append-le 4 front more short) e) (omega (arith, w, short, length-drop 4 front))
digits_front None k front more e w = absurd (short_stops k (drop (prefix_len is_ascii_hexdigit (front ++ more)) (front ++ more)) e)

escape_front : (front more : List ℕ) (k : ℕ) → escape_piece (front ++ more) ≡ Goes k → k ≤ 1 + length front → escape_piece front ≡ Goes k
unfolding escape_piece
escape_front [] [] k e w = e
escape_front [] (b ∷ more) k e w = elim (chosen (is_break b) e) [
  | inl h ↦ absurd (let f = h.1 in cc)
  | inr h ↦ elim (chosen (list_any (λ c. c == b) (codes "\"\\/bfnrt")) h.1) [
    | inl g ↦ let f = g.1 in let two : 2 ≡ k = cc in absurd (omega arith)
    | inr g ↦ elim (chosen (b == 117) g.1) [
      | inl d ↦ absurd (omega (arith, w, digits_six (four_digits more) k more d.1))
      | inr d ↦ absurd (let f = d.1 in cc)
    ]
  ]
]
escape_front (b ∷ front) more k e w = elim (chosen (is_break b) e) [
  | inl h ↦ absurd (let f = h.1 in cc)
  | inr h ↦ elim (chosen (list_any (λ c. c == b) (codes "\"\\/bfnrt")) h.1) [
    | inl g ↦ rw (h.0, g.0) g.1
    | inr g ↦ elim (chosen (b == 117) g.1) [
      | inl d ↦
          let six = digits_six (four_digits (front ++ more)) k (front ++ more) d.1 in
          let same = four_front front more (omega (arith, six, w)) in
          rw (h.0, g.0, d.0) (digits_front (four_digits front) k front more (subst (λ o. digits_piece o (front ++ more) ≡ Goes k) same d.1) (omega (arith, w)))
      | inr d ↦ absurd (let f = d.1 in cc)
    ]
  ]
]

string_closes_front : (front more : List ℕ) (k : ℕ) → string_piece (front ++ more) ≡ Closes k → k ≤ length front → string_piece front ≡ Closes k
unfolding string_piece
string_closes_front [] more k e w = absurd (omega (arith, w, (string_end more k e).some))
string_closes_front (b ∷ front) more k e w = elim (chosen (is_break b) e) [
  | inl h ↦ absurd (let f = h.1 in cc)
  | inr h ↦ elim (chosen (b == 34) h.1) [
    | inl g ↦ rw (h.0, g.0) g.1
    | inr g ↦ elim (chosen (b == 92) g.1) [
      | inl d ↦ absurd (escape_goes_on k (front ++ more) d.1)
      | inr d ↦ elim (chosen (is_source_byte b) d.1) [ inl u ↦ absurd (let f = u.1 in cc) | inr u ↦ absurd (let f = u.1 in cc) ]
    ]
  ]
]

string_goes_front : (front more : List ℕ) (k : ℕ) → string_piece (front ++ more) ≡ Goes k → k ≤ length front → string_piece front ≡ Goes k
unfolding string_piece
string_goes_front [] more k e w = absurd (omega (arith, w, (string_goes more k e).some))
string_goes_front (b ∷ front) more k e w = elim (chosen (is_break b) e) [
  | inl h ↦ absurd (let f = h.1 in cc)
  | inr h ↦ elim (chosen (b == 34) h.1) [
    | inl g ↦ absurd (let f = g.1 in cc)
    | inr g ↦ elim (chosen (b == 92) g.1) [
      | inl d ↦ rw (h.0, g.0, d.0) (escape_front front more k d.1 (omega (arith, w)))
      | inr d ↦ rw (h.0, g.0, d.0) d.1
    ]
  ]
]

three_front : (front more : List ℕ) → 3 ≤ length front → three_quotes (front ++ more) ≡ three_quotes front
three_front [] more h = absurd (omega arith)
three_front (a ∷ []) more h = absurd (omega arith)
three_front (a ∷ b ∷ []) more h = absurd (omega arith)
three_front (a ∷ b ∷ c ∷ front) more h = refl

three_less : (front more : List ℕ) → three_quotes (front ++ more) ≡ false → three_quotes front ≡ false
three_less [] more h = refl
three_less (a ∷ []) more h = refl
three_less (a ∷ b ∷ []) more h = refl
three_less (a ∷ b ∷ c ∷ front) more h = h

and_less : (p q r : Bool) → (q ≡ false → r ≡ false) → (p && q) ≡ false → (p && r) ≡ false
and_less true q r w h = w h
and_less false q r w h = refl

block_closes_front : (front more : List ℕ) (k : ℕ) → block_piece (front ++ more) ≡ Closes k → k ≤ length front → block_piece front ≡ Closes k
unfolding block_piece
block_closes_front [] more k e w = absurd (omega (arith, w, (block_end more k e).some))
block_closes_front (b ∷ front) more k e w = elim (chosen (three_quotes (b ∷ (front ++ more))) e) [
  | inl h ↦ let f = h.1 in let three : 3 ≡ k = cc in
      let is : three_quotes (b ∷ front) ≡ true = sym (three_front (b ∷ front) more (omega (arith, three, w))) ∙ h.0 in rw is f
  | inr h ↦ elim (chosen (b == 92 && three_quotes (front ++ more)) h.1) [
    | inl g ↦ absurd (let f = g.1 in cc)
    | inr g ↦ elim (chosen (is_break b || is_source_byte b) g.1) [ inl d ↦ absurd (let f = d.1 in cc) | inr d ↦ absurd (let f = d.1 in cc) ]
  ]
]

block_goes_front : (front more : List ℕ) (k : ℕ) → block_piece (front ++ more) ≡ Goes k → k ≤ length front → block_piece front ≡ Goes k
unfolding block_piece
block_goes_front [] more k e w = absurd (omega (arith, w, (block_goes more k e).some))
block_goes_front (b ∷ front) more k e w = elim (chosen (three_quotes (b ∷ (front ++ more))) e) [
  | inl h ↦ absurd (let f = h.1 in cc)
  | inr h ↦
      let none : three_quotes (b ∷ front) ≡ false = three_less (b ∷ front) more h.0 in
      elim (chosen (b == 92 && three_quotes (front ++ more)) h.1) [
        | inl g ↦ let f = g.1 in let four : 4 ≡ k = cc in
            let is : (b == 92 && three_quotes front) ≡ true = ap (λ t. b == 92 && t) (sym (three_front front more (omega (arith, four, w)))) ∙ g.0 in rw (none, is) f
        | inr g ↦
            let no : (b == 92 && three_quotes front) ≡ false = and_less (b == 92) (three_quotes (front ++ more)) (three_quotes front) (three_less front more) g.0 in
            rw (none, no) g.1
      ]
]

local_strings : IsLocal string_piece
local_strings = record { closes_front = string_closes_front; goes_front = string_goes_front }

local_blocks : IsLocal block_piece
local_blocks = record { closes_front = block_closes_front; goes_front = block_goes_front }

-- a string has at least the bytes that are read
run_long : (f : List ℕ → Piece) (kind : Kind) {n : ℕ} {bs : List ℕ} {p : Part} → Run f kind n bs p → (k : Kind) (i : ℕ) → p ≡ Taken k i → n ≤ i
run_long f kind {n} (closes {k = j} e m) k i h = let same : n + j ≡ i = cc in omega (arith, same)
run_long f kind {n} (goes {k = j} e r) k i h = omega (arith, run_long f kind r k i h)
run_long f kind {n} (stops {m = j} e m) k i h = absurd (cc)

run_in_front : (f : List ℕ → Piece) (kind : Kind) → IsLocal f → {n : ℕ} {bs : List ℕ} {p : Part} → Run f kind n bs p
    → (front more : List ℕ) → bs ≡ front ++ more → (k : Kind) (i : ℕ) → p ≡ Taken k i → i ≤ n + length front → Run f kind n front p
run_in_front f kind w {n} (closes {k = j} e m) front more b k i h short =
    let same : n + j ≡ i = cc in closes (w.closes_front front more j (ap f (sym b) ∙ e) (omega (arith, same, short))) m
run_in_front f kind w {n} (goes {k = j} e r) front more b k i h short =
    let long = run_long f kind r k i h in
    let within : j ≤ length front = omega (arith, long, short) in
    goes (w.goes_front front more j (ap f (sym b) ∙ e) within)
    (run_in_front f kind w r (drop j front) more (ap (λ xs. drop j xs) b ∙ drop-append-le j front more within) k i h (omega (arith, short, within, length-drop j front)))
run_in_front f kind w {n} (stops {m = j} e m) front more b k i h short = absurd (cc)

one_front : (front more : List ℕ) → one_quote (front ++ more) ≡ true → 0 < length front → one_quote front ≡ true
one_front [] more e h = absurd (omega arith)
one_front (a ∷ []) [] e h = e
one_front (a ∷ []) (b ∷ []) e h = e
one_front (a ∷ []) (b ∷ c ∷ more) e h = (both_of (a == 34) (not (b == 34 && c == 34)) e).0
one_front (a ∷ b ∷ []) [] e h = e
one_front (a ∷ b ∷ []) (c ∷ more) e h = (both_of (a == 34) (not (b == 34 && c == 34)) e).0
one_front (a ∷ b ∷ c ∷ front) more e h = e

no_quote_of : (p q r : Bool) → (p && q && r) ≡ false → (p && not (q && r)) ≡ false → p ≡ false
no_quote_of true true true e h = absurd (cc)
no_quote_of true true false e h = absurd (cc)
no_quote_of true false r e h = absurd (cc)
no_quote_of false q r e h = refl

pub no_quote : (b : ℕ) (bs : List ℕ) → three_quotes (b ∷ bs) ≡ false → one_quote (b ∷ bs) ≡ false → (b == 34) ≡ false
no_quote b [] e h = h
no_quote b (c ∷ []) e h = h
no_quote b (c ∷ d ∷ bs) e h = no_quote_of (b == 34) (c == 34) (d == 34) e h

plain_front : (b : ℕ) (front more : List ℕ) (k : Kind) (i : ℕ) → Taken k i ≡ plain_part b (front ++ more) → i ≤ 1 + length front → Taken k i ≡ plain_part b front
unfolding Keeps
plain_front b front more k i e h = sym (plain_keeps b front more k i h (sym e))

pub no_three : (b : ℕ) (front : List ℕ) → (b == 34) ≡ false → three_quotes (b ∷ front) ≡ false
no_three b [] e = refl
no_three b (c ∷ []) e = refl
no_three b (c ∷ d ∷ bs) e = rw e refl

-- a token that fits in the front of a text stands there in the front alone
pub stands_front : {text : List ℕ} {p : Part} → Stands text p → (front more : List ℕ) → text ≡ front ++ more → (k : Kind) (i : ℕ) → p ≡ Taken k i → 0 < i → i ≤ length front → Stands front p
stands_front (block_string e r) front more t k i h some short =
    let long = run_long block_piece BlockString r k i h in
    let three : 3 ≤ length front = omega (arith, long, short) in
    block_string (sym (three_front front more three) ∙ ap three_quotes (sym t) ∙ e)
    (run_in_front block_piece BlockString local_blocks r (drop 3 front) more (ap (λ xs. drop 3 xs) t ∙ drop-append-le 3 front more three) k i h (omega (arith, short, three, length-drop 3 front)))
stands_front (string e r) front more t k i h some short =
    let long = run_long string_piece StringValue r k i h in
    let one : 1 ≤ length front = omega (arith, long, short) in
    string (one_front front more (ap one_quote (sym t) ∙ e) (omega (arith, one)))
    (run_in_front string_piece StringValue local_strings r (drop 1 front) more (ap (λ xs. drop 1 xs) t ∙ drop-append-le 1 front more one) k i h (omega (arith, short, one, length-drop 1 front)))
stands_front (plain x y e) [] more t k i h some short = absurd (omega arith)
stands_front (plain {b = b} {bs = bs} {p = p} x y e) (c ∷ front) more t k i h some short =
    let same : b ≡ c = cc in
    let rest : bs ≡ front ++ more = cc in
    let none = no_quote b bs x y in
    let part : p ≡ plain_part b front = h ∙ plain_front b front more k i (sym h ∙ e ∙ ap (plain_part b) rest) (omega (arith, short)) in
    subst (λ d. Stands (d ∷ front) p) same (plain (no_three b front none) (none_from b front none) part)

-- a token's text alone is that token
pub alone : (rest : List ℕ) (k : Kind) (n : ℕ) → Stands rest (Taken k n) → IsToken k (take n rest)
alone rest k n s =
    let f = stands_fits s in
    let len : length (take n rest) ≡ n = length-take-le n rest f.within in
    subst (λ m. Stands (take n rest) (Taken k m)) (sym len)
    (stands_front s (take n rest) (drop n rest) (sym (take-append-drop n rest)) k n refl (f.some refl) (omega (arith, len)))

-- and no longer front of the text is a token alone
pub no_longer : (rest : List ℕ) (k other : Kind) (n m : ℕ) → Stands rest (Taken k n) → n < m → m ≤ length rest → IsToken other (take m rest) → ⊥
no_longer rest k other n m s less within t =
    let f = stands_fits s in
    let len : length (take m rest) ≡ m = length-take-le m rest within in
    let short = stands_front s (take m rest) (drop m rest) (sym (take-append-drop m rest)) k n refl (f.some refl) (omega (arith, len)) in
    let both = stands_one short t in
    let same : n ≡ length (take m rest) = cc in
    omega (arith, same, len)
