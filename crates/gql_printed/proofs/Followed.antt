-- A token stays the same with more text after it that does not continue it.
use Rattle.std.proofs.Common.{◌≡◌, ◌≢◌, ℕ, ◌+◌, ◌≤◌, List, [], ◌∷◌, ◌++◌, length, drop, length-drop, refl, sym, ◌∙◌, arith, Bool, true, false, cond, inl, inr}
use Rattle.std.specs.List.{prefix_len}
use Rattle.std.specs.Char.{is_ascii_digit}
use Rattle.std.specs.Prelude.{◌==◌, ◌||◌, not}
use Rattle.std.proofs.lemmas.List.{drop-append-le}
use Rattle.std.proofs.lemmas.List.Sums.{prefix_len-le-length}
use Rattle.std.proofs.lemmas.Bool.Decides.{nat_tests}
use Rattle.gql_text.specs.Chars.{is_name_start, is_name_byte, is_break, is_blank, is_source_byte, begins}
use Rattle.gql_text.specs.Number.{number_end, exponent_digits, exponent_part, fraction_digits, fraction_part, number_part, spoils_number, is_exponent_mark, sign_len}
use Rattle.gql_text.specs.Marks.{dots_part, comment_part, plain_part}
use Rattle.gql_text.specs.Lexis.{Stands, block_string, string, plain}
use Rattle.gql_text.specs.Laws.{IsToken}
use Rattle.gql_text.specs.declared.token.Kind.{Kind}
use Rattle.gql_text.specs.declared.token.Kind.TheVariants.{Name, IntValue, FloatValue, StringValue, BlockString}
use Rattle.gql_text.specs.declared.front.Part.{Part}
use Rattle.gql_text.specs.declared.front.Part.TheVariants.{Taken}
use Rattle.gql_text.proofs.Runs.{chosen}
use Rattle.gql_text.proofs.Fitting.{sign_short}
use Rattle.gql_text.proofs.Fronts.{none_from}
use Rattle.gql_text.proofs.Grammars.{run_kind_is}
use Rattle.gql_text.proofs.Longest.{order_none, no_quote, no_three}

-- a letter, a digit, _, a dot or a quote
abbrev pub continues : ℕ → Bool
continues b = spoils_number b || b == 34

-- the text begins with nothing that continues a token
abbrev pub Ends : List ℕ → Type 0
Ends rest = begins continues rest ≡ false

none_of : (p : ℕ → Bool) (rest : List ℕ) → ((b : ℕ) → continues b ≡ false → p b ≡ false) → Ends rest
    → begins p rest ≡ false
none_of p [] h ends = refl
none_of p (b ∷ rest) h ends = h b ends

no_digit : (b : ℕ) → continues b ≡ false → is_ascii_digit b ≡ false
no_digit b e = grind (arith, nat_tests, e)

no_name : (b : ℕ) → continues b ≡ false → is_name_byte b ≡ false
no_name b e = grind (arith, nat_tests, e)

no_spoil : (b : ℕ) → continues b ≡ false → spoils_number b ≡ false
no_spoil b e = grind (arith, nat_tests, e)

no_mark : (b : ℕ) → continues b ≡ false → is_exponent_mark b ≡ false
no_mark b e = grind (arith, nat_tests, e)

no_dot : (b : ℕ) → continues b ≡ false → (b == 46) ≡ false
no_dot b e = grind (arith, nat_tests, e)

-- a run of a class ends where it ended
run_none : (p : ℕ → Bool) (rest : List ℕ) → begins p rest ≡ false → prefix_len p rest ≡ 0
run_none p [] h = refl
run_none p (b ∷ rest) h = rw h refl

run_at : (p : ℕ → Bool) (x : ℕ) (xs rest : List ℕ) (t : Bool) → p x ≡ t
    → prefix_len p (xs ++ rest) ≡ prefix_len p xs
    → prefix_len p (x ∷ (xs ++ rest)) ≡ prefix_len p (x ∷ xs)
run_at p x xs rest true e h = rw (e, h) refl
run_at p x xs rest false e h = rw e refl

run_more : (p : ℕ → Bool) (xs rest : List ℕ) → begins p rest ≡ false
    → prefix_len p (xs ++ rest) ≡ prefix_len p xs
run_more p [] rest h = run_none p rest h
run_more p (x ∷ xs) rest h = run_at p x xs rest (p x) refl (run_more p xs rest h)

-- ---- numbers, which are the whole text

end_more : (kind k : Kind) (n i : ℕ) (bs rest : List ℕ) → Ends rest → i ≡ n + length bs
    → number_end kind n bs ≡ Taken k i → number_end kind n (bs ++ rest) ≡ Taken k i
end_more kind k n i [] rest ends w e = rw (none_of spoils_number rest no_spoil ends) e
end_more kind k n i (b ∷ bs) rest ends w e = elim (chosen (spoils_number b) e) [
  | inl h ↦ absurd (let f = h.1 in cc)
  | inr h ↦ absurd (let f = h.1 in let same : n ≡ i = cc in omega (arith, same, w))
]

exponent_digits_more : (k : Kind) (n i : ℕ) (bs rest : List ℕ) → Ends rest → i ≡ n + length bs
    → exponent_digits n bs ≡ Taken k i → exponent_digits n (bs ++ rest) ≡ Taken k i
unfolding exponent_digits
exponent_digits_more k n i bs rest ends w e = elim (chosen (prefix_len is_ascii_digit bs == 0) e) [
  | inl h ↦ absurd (let f = h.1 in cc)
  | inr h ↦
      let d : ℕ = prefix_len is_ascii_digit bs in
      let short : d ≤ length bs = prefix_len-le-length is_ascii_digit bs in
      rw (
        run_more is_ascii_digit bs rest
            (none_of is_ascii_digit rest no_digit ends),
        h.0,
        drop-append-le d bs rest short,
      )
      (end_more FloatValue k (n + d) i (drop d bs) rest ends
      (omega (arith, w, short, length-drop d bs)) h.1)
]

no_digits : (k : Kind) (n i : ℕ) → exponent_digits n [] ≡ Taken k i → ⊥
unfolding exponent_digits
no_digits k n i e = cc

exponent_more : (kind k : Kind) (n i : ℕ) (bs rest : List ℕ) → Ends rest → i ≡ n + length bs
    → exponent_part kind n bs ≡ Taken k i → exponent_part kind n (bs ++ rest) ≡ Taken k i
unfolding exponent_part
exponent_more kind k n i [] [] ends w e = e
exponent_more kind k n i [] (c ∷ rest) ends w e =
    rw (no_mark c ends) (end_more kind k n i [] (c ∷ rest) ends w e)
exponent_more kind k n i (b ∷ []) rest ends w e = elim (chosen (is_exponent_mark b) e) [
  | inl h ↦ absurd (no_digits k (n + 1 + 0) i h.1)
  | inr h ↦ rw h.0 (end_more kind k n i (b ∷ []) rest ends w h.1)
]
exponent_more kind k n i (b ∷ c ∷ bs) rest ends w e = elim (chosen (is_exponent_mark b) e) [
  | inl h ↦
      let s : ℕ = sign_len (c ∷ bs) in
      let short : s ≤ length (c ∷ bs) = sign_short (c ∷ bs) in
      rw (h.0, drop-append-le s (c ∷ bs) rest short)
      (exponent_digits_more k (n + 1 + s) i (drop s (c ∷ bs)) rest ends
      (omega (arith, w, short, length-drop s (c ∷ bs))) h.1)
  | inr h ↦ rw h.0 (end_more kind k n i (b ∷ c ∷ bs) rest ends w h.1)
]

fraction_digits_more : (k : Kind) (n i : ℕ) (bs rest : List ℕ) → Ends rest → i ≡ n + length bs
    → fraction_digits n bs ≡ Taken k i → fraction_digits n (bs ++ rest) ≡ Taken k i
unfolding fraction_digits
fraction_digits_more k n i bs rest ends w e = elim (chosen (prefix_len is_ascii_digit bs == 0) e) [
  | inl h ↦ absurd (let f = h.1 in cc)
  | inr h ↦
      let d : ℕ = prefix_len is_ascii_digit bs in
      let short : d ≤ length bs = prefix_len-le-length is_ascii_digit bs in
      rw (
        run_more is_ascii_digit bs rest
            (none_of is_ascii_digit rest no_digit ends),
        h.0,
        drop-append-le d bs rest short,
      )
      (exponent_more FloatValue k (n + d) i (drop d bs) rest ends
      (omega (arith, w, short, length-drop d bs)) h.1)
]

fraction_more : (k : Kind) (n i : ℕ) (bs rest : List ℕ) → Ends rest → i ≡ n + length bs
    → fraction_part n bs ≡ Taken k i → fraction_part n (bs ++ rest) ≡ Taken k i
unfolding fraction_part
fraction_more k n i [] [] ends w e = e
fraction_more k n i [] (c ∷ rest) ends w e =
    rw (no_dot c ends) (exponent_more IntValue k n i [] (c ∷ rest) ends w e)
fraction_more k n i (b ∷ bs) rest ends w e = elim (chosen (b == 46) e) [
  | inl h ↦ rw h.0 (fraction_digits_more k (n + 1) i bs rest ends (omega (arith, w)) h.1)
  | inr h ↦ rw h.0 (exponent_more IntValue k n i (b ∷ bs) rest ends w h.1)
]

number_more : (k : Kind) (n i : ℕ) (bs rest : List ℕ) → Ends rest → i ≡ n + length bs
    → number_part n bs ≡ Taken k i → number_part n (bs ++ rest) ≡ Taken k i
unfolding number_part
number_more k n i [] rest ends w e = absurd (cc)
number_more k n i (b ∷ bs) rest ends w e = elim (chosen (b == 48) e) [
  | inl h ↦ rw h.0 (fraction_more k (n + 1) i bs rest ends (omega (arith, w)) h.1)
  | inr h ↦ elim (chosen (is_ascii_digit b) h.1) [
    | inl g ↦
        let d : ℕ = prefix_len is_ascii_digit bs in
        let short : d ≤ length bs = prefix_len-le-length is_ascii_digit bs in
        rw (
          h.0,
          g.0,
          run_more is_ascii_digit bs rest
              (none_of is_ascii_digit rest no_digit ends),
          drop-append-le d bs rest short,
        )
        (fraction_more k (n + 1 + d) i (drop d bs) rest ends
        (omega (arith, w, short, length-drop d bs)) g.1)
    | inr g ↦ absurd (let f = g.1 in cc)
  ]
]

-- ---- names, numbers and punctuators

dots_more : (k : Kind) (i : ℕ) (bs rest : List ℕ) → dots_part bs ≡ Taken k i
    → dots_part (bs ++ rest) ≡ Taken k i
dots_more k i [] rest e = absurd (cc)
dots_more k i (b ∷ []) rest e = absurd (cc)
dots_more k i (b ∷ c ∷ bs) rest e = e

no_comment : (k : Kind) (n i : ℕ) (xs : List ℕ) → comment_part n xs ≡ Taken k i → ⊥
no_comment k n i xs e = elim
    (chosen (begins (λ b. not (is_break b)) xs) e) [
      | inl g ↦ let f = g.1 in cc
      | inr g ↦ let f =
          g.1 in cc
    ]

either : (k : Kind) (i : ℕ) (b : Bool) (x y u v : Part) → (x ≡ Taken k i → u ≡ Taken k i)
    → (y ≡ Taken k i → v ≡ Taken k i) → cond b x y ≡ Taken k i → cond b u v ≡ Taken k i
either k i true x y u v h g e = h e
either k i false x y u v h g e = g e

name_more : (k : Kind) (i : ℕ) (bs rest : List ℕ) → Ends rest
    → Taken Name (1 + prefix_len is_name_byte bs) ≡ Taken k i
    → Taken Name (1 + prefix_len is_name_byte (bs ++ rest)) ≡ Taken k i
name_more k i bs rest ends e =
    rw (run_more is_name_byte bs rest (none_of is_name_byte rest no_name ends)) e

plain_more : (k : Kind) (i b : ℕ) (bs rest : List ℕ) → Ends rest → i ≡ 1 + length bs
    → plain_part b bs ≡ Taken k i → plain_part b (bs ++ rest) ≡ Taken k i
unfolding plain_part
plain_more k i b bs rest ends w =
    either k i (is_blank b) _ _ _ _ (λ e. e)
    (either k i (is_name_start b) _ _ _ _ (name_more k i bs rest ends)
    (either k i (b == 45) _ _ _ _ (number_more k 1 i bs rest ends w)
    (either k i (is_ascii_digit b) _ _ _ _ (number_more k 0 i (b ∷ bs) rest ends (omega (arith, w)))
    (either k i (b == 35) _ _ _ _
    (λ e. absurd
    (no_comment k (1 + prefix_len is_source_byte bs) i
    (drop (prefix_len is_source_byte bs) bs) e))
    (either k i (b == 46) _ _ _ _ (dots_more k i bs rest)
    (either k i (b == 239) _ _ _ _ (λ e. absurd (order_none bs k i e)) (λ e. e)))))))

stands_more : (k : Kind) → k ≢ StringValue → k ≢ BlockString → {text : List ℕ} {p : Part}
    → Stands text p → p ≡ Taken k (length text) → (rest : List ℕ) → Ends rest
    → Stands (text ++ rest) p
stands_more k w v (block_string e r) h rest ends =
    absurd (v (sym (run_kind_is _ BlockString r k _ h)))
stands_more k w v (string e r) h rest ends = absurd (w (sym (run_kind_is _ StringValue r k _ h)))
stands_more k w v (plain {b = b} {bs = bs} {p = p} x y e) h rest ends =
    let none = no_quote b bs x y in
    plain (no_three b (bs ++ rest) none) (none_from b (bs ++ rest) none)
    (h ∙ sym (plain_more k (length (b ∷ bs)) b bs rest ends (omega arith) (sym e ∙ h)))

-- a name, a number or a punctuator, with more text after it
pub followed : (k : Kind) → k ≢ StringValue → k ≢ BlockString → (text rest : List ℕ)
    → IsToken k text → Ends rest → Stands (text ++ rest) (Taken k (length text))
followed k w v text rest t ends = stands_more k w v t refl rest ends
