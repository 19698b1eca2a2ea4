-- Names and numbers are those of the grammar.
use Rattle.std.proofs.Common.{◌≡◌, ◌≢◌, ℕ, suc, ◌+◌, ◌<◌, List, [], ◌∷◌, ◌++◌, length, take, drop, length-drop, length-append, append_assoc, refl, sym, ap, subst, ◌∙◌, arith, Bool, true, false, Option, Some, None, inl, inr, ◌⊎◌}
use Rattle.std.specs.List.{prefix_len, list_all}
use Rattle.std.specs.Char.{is_ascii_digit}
use Rattle.std.specs.Prelude.{◌==◌, ◌&&◌, ◌||◌, not}
use Rattle.std.proofs.lemmas.List.{take-append-drop, drop_at, append-nil, nil_from_length, length-take-le}
use Rattle.std.proofs.lemmas.List.Sums.{prefix_len-le-length}
use Rattle.std.proofs.lemmas.Bool.{eqb-true, ne_eqb}
use Rattle.std.proofs.lemmas.Bool.Decides.{nat_tests}
use Rattle.gql_text.specs.Chars.{is_name_start, is_name_byte, is_break, is_blank, is_source_byte, begins}
use Rattle.gql_text.specs.Number.{number_end, exponent_digits, exponent_part, fraction_digits, fraction_part, number_part, spoils_number, is_exponent_mark, sign_len}
use Rattle.gql_text.specs.Marks.{mark_kind, mark_part, dots_part, plain_part}
use Rattle.gql_text.specs.Lexis.{Run, closes, goes, stops, Stands, block_string, string, plain}
use Rattle.gql_text.specs.Laws.{IsToken}
use Rattle.gql_text.specs.Grammar.{IsName, IsDigits, IsUnsigned, zero_alone, not_zero, IsInteger, IsExponent, IsFloatTail, fraction, exponent, both, IsFloat}
use Rattle.gql_text.specs.declared.token.Kind.{Kind}
use Rattle.gql_text.specs.declared.token.Kind.TheVariants.{Name, IntValue, FloatValue, StringValue, BlockString, Ellipsis}
use Rattle.gql_text.specs.declared.front.Part.{Part}
use Rattle.gql_text.specs.declared.front.Part.TheVariants.{Taken}
use Rattle.gql_text.specs.declared.front.Piece.{Piece}
use Rattle.gql_text.proofs.Runs.{chosen}
use Rattle.gql_text.proofs.Cuts.{both_of}
use Rattle.gql_text.proofs.Fitting.{sign_short}
use Rattle.gql_text.proofs.Fronts.{none_from}
use Rattle.gql_text.proofs.Longest.{order_none, no_three}

one_more : (n : ℕ) → 1 + n ≡ suc n
one_more n = omega arith

-- runs of a class

run_all_at : (p : ℕ → Bool) (x : ℕ) (xs : List ℕ) (t : Bool) → p x ≡ t → (prefix_len p xs ≡ length xs → list_all p xs ≡ true) → prefix_len p (x ∷ xs) ≡ length (x ∷ xs) → list_all p (x ∷ xs) ≡ true
run_all_at p x xs true e w h = rw e (w (let long : prefix_len p (x ∷ xs) ≡ 1 + prefix_len p xs = rw e refl in omega (arith, long, h)))
run_all_at p x xs false e w h = absurd (let none : prefix_len p (x ∷ xs) ≡ 0 = rw e refl in omega (arith, none, h))

-- a run that is the whole list
pub run_all : (p : ℕ → Bool) (xs : List ℕ) → prefix_len p xs ≡ length xs → list_all p xs ≡ true
run_all p [] h = refl
run_all p (x ∷ xs) h = run_all_at p x xs (p x) refl (run_all p xs) h

run_takes_at : (p : ℕ → Bool) (x : ℕ) (xs : List ℕ) (t : Bool) → p x ≡ t → list_all p (take (prefix_len p xs) xs) ≡ true → list_all p (take (prefix_len p (x ∷ xs)) (x ∷ xs)) ≡ true
run_takes_at p x xs true e w = rw (e, one_more (prefix_len p xs), e) w
run_takes_at p x xs false e w = rw e refl

run_takes : (p : ℕ → Bool) (xs : List ℕ) → list_all p (take (prefix_len p xs) xs) ≡ true
run_takes p [] = refl
run_takes p (x ∷ xs) = run_takes_at p x xs (p x) refl (run_takes p xs)

no_run : (p : ℕ → Bool) (ys : List ℕ) → begins p ys ≡ false → prefix_len p ys ≡ 0
no_run p [] h = refl
no_run p (y ∷ ys) h = rw h refl

-- a run that stops where the next list begins
run_is : (p : ℕ → Bool) (xs ys : List ℕ) → list_all p xs ≡ true → begins p ys ≡ false → prefix_len p (xs ++ ys) ≡ length xs
run_is p [] ys a h = no_run p ys h
run_is p (x ∷ xs) ys a h = let two = both_of (p x) (list_all p xs) a in rw (two.0, run_is p xs ys two.1 h) (one_more (length xs))

pub run_whole : (p : ℕ → Bool) (xs : List ℕ) → list_all p xs ≡ true → prefix_len p xs ≡ length xs
run_whole p xs a = ap (prefix_len p) (sym (append-nil xs)) ∙ run_is p xs [] a refl

pub nothing_left : (xs : List ℕ) (n : ℕ) → n ≡ length xs → drop n xs ≡ []
nothing_left xs n e = nil_from_length (drop n xs) (omega (arith, length-drop n xs, e))

-- what a number's parts say where the number ends with the text

end_whole : (kind k : Kind) (n i : ℕ) (bs : List ℕ) → number_end kind n bs ≡ Taken k i → i ≡ n + length bs → (bs ≡ []) × (kind ≡ k)
end_whole kind k n i bs e w = elim (chosen (begins spoils_number bs) e) [
  | inl h ↦ absurd (let f = h.1 in cc)
  | inr h ↦ let f = h.1 in let same : n ≡ i = cc in (nil_from_length bs (omega (arith, same, w)), cc)
]

some_of : (n : ℕ) → (n == 0) ≡ false → 0 < n
some_of n e = grind (arith, nat_tests)

digits_left : (n i : ℕ) (bs : List ℕ) → i ≡ n + length bs → i ≡ n + prefix_len is_ascii_digit bs + length (drop (prefix_len is_ascii_digit bs) bs)
digits_left n i bs w = omega (arith, w, length-drop (prefix_len is_ascii_digit bs) bs, prefix_len-le-length is_ascii_digit bs)

all_digits : (bs : List ℕ) → (prefix_len is_ascii_digit bs == 0) ≡ false → drop (prefix_len is_ascii_digit bs) bs ≡ [] → IsDigits bs
all_digits bs e h =
    let d : ℕ = prefix_len is_ascii_digit bs in
    let short = prefix_len-le-length is_ascii_digit bs in
    record { some = omega (arith, some_of d e, short); digits = run_all is_ascii_digit bs (omega (arith, ap length h, length-drop d bs, short)) }

front_digits : (bs : List ℕ) → (prefix_len is_ascii_digit bs == 0) ≡ false → IsDigits (take (prefix_len is_ascii_digit bs) bs)
front_digits bs e =
    let d : ℕ = prefix_len is_ascii_digit bs in
    record { some = omega (arith, some_of d e, length-take-le d bs (prefix_len-le-length is_ascii_digit bs)); digits = run_takes is_ascii_digit bs }

exponent_digits_whole : (k : Kind) (n i : ℕ) (bs : List ℕ) → exponent_digits n bs ≡ Taken k i → i ≡ n + length bs → IsDigits bs × (FloatValue ≡ k)
unfolding exponent_digits
exponent_digits_whole k n i bs e w = elim (chosen (prefix_len is_ascii_digit bs == 0) e) [
  | inl h ↦ absurd (let f = h.1 in cc)
  | inr h ↦ let r = end_whole FloatValue k (n + prefix_len is_ascii_digit bs) i (drop (prefix_len is_ascii_digit bs) bs) h.1 (digits_left n i bs w) in (all_digits bs h.0 r.0, r.1)
]

sign_at : (c : ℕ) (cs : List ℕ) (p q : Bool) → (c == 43) ≡ p → (c == 45) ≡ q → (take (sign_len (c ∷ cs)) (c ∷ cs) ≡ []) ⊎ ((take (sign_len (c ∷ cs)) (c ∷ cs) ≡ 43 ∷ []) ⊎ (take (sign_len (c ∷ cs)) (c ∷ cs) ≡ 45 ∷ []))
sign_at c cs true q e h = inr (inl (rw e (ap (λ x. x ∷ []) (eqb-true c 43 e))))
sign_at c cs false true e h = inr (inr (rw (e, h) (ap (λ x. x ∷ []) (eqb-true c 45 h))))
sign_at c cs false false e h = inl (rw (e, h) refl)

sign_is : (bs : List ℕ) → (take (sign_len bs) bs ≡ []) ⊎ ((take (sign_len bs) bs ≡ 43 ∷ []) ⊎ (take (sign_len bs) bs ≡ 45 ∷ []))
sign_is [] = inl refl
sign_is (c ∷ cs) = sign_at c cs (c == 43) (c == 45) refl refl

exponent_whole : (kind k : Kind) (n i : ℕ) (bs : List ℕ) → exponent_part kind n bs ≡ Taken k i → i ≡ n + length bs → ((bs ≡ []) × (kind ≡ k)) ⊎ (IsExponent bs × (FloatValue ≡ k))
unfolding exponent_part
exponent_whole kind k n i [] e w = inl (end_whole kind k n i [] e w)
exponent_whole kind k n i (b ∷ bs) e w = elim (chosen (is_exponent_mark b) e) [
  | inl h ↦
      let r = exponent_digits_whole k (n + 1 + sign_len bs) i (drop (sign_len bs) bs) h.1 (omega (arith, w, length-drop (sign_len bs) bs, sign_short bs)) in
      inr (record { mark = b; sign = take (sign_len bs) bs; digits = drop (sign_len bs) bs; parts = ap (λ xs. b ∷ xs) (sym (take-append-drop (sign_len bs) bs)); marked = h.0; signed = sign_is bs; are_digits = r.0 }, r.1)
  | inr h ↦ absurd (let r = end_whole kind k n i (b ∷ bs) h.1 w in let f = r.0 in cc)
]

fraction_digits_whole : (k : Kind) (n i : ℕ) (bs : List ℕ) → fraction_digits n bs ≡ Taken k i → i ≡ n + length bs
    → (FloatValue ≡ k) × (IsDigits bs ⊎ ((front : List ℕ) × (back : List ℕ) × (bs ≡ front ++ back) × IsDigits front × IsExponent back))
unfolding fraction_digits
fraction_digits_whole k n i bs e w = elim (chosen (prefix_len is_ascii_digit bs == 0) e) [
  | inl h ↦ absurd (let f = h.1 in cc)
  | inr h ↦ elim (exponent_whole FloatValue k (n + prefix_len is_ascii_digit bs) i (drop (prefix_len is_ascii_digit bs) bs) h.1 (digits_left n i bs w)) [
    | inl r ↦ (r.1, inl (all_digits bs h.0 r.0))
    | inr r ↦ (r.1, inr (take (prefix_len is_ascii_digit bs) bs, drop (prefix_len is_ascii_digit bs) bs, sym (take-append-drop (prefix_len is_ascii_digit bs) bs), front_digits bs h.0, r.0))
  ]
]

fraction_whole : (k : Kind) (n i : ℕ) (bs : List ℕ) → fraction_part n bs ≡ Taken k i → i ≡ n + length bs → ((bs ≡ []) × (IntValue ≡ k)) ⊎ (IsFloatTail bs × (FloatValue ≡ k))
unfolding fraction_part
fraction_whole k n i [] e w = elim (exponent_whole IntValue k n i [] e w) [ inl r ↦ inl r | inr r ↦ inr (exponent r.0, r.1) ]
fraction_whole k n i (b ∷ bs) e w = elim (chosen (b == 46) e) [
  | inl h ↦
      let r = fraction_digits_whole k (n + 1) i bs h.1 (omega (arith, w)) in
      elim (r.1) [
        | inl d ↦ inr (fraction (record { digits = bs; parts = ap (λ x. x ∷ bs) (eqb-true b 46 h.0); are_digits = d }), r.0)
        | inr d ↦ inr (both {front = 46 ∷ d.0} {back = d.1} (ap (λ x. x ∷ bs) (eqb-true b 46 h.0) ∙ ap (λ xs. 46 ∷ xs) d.2) (record { digits = d.0; parts = refl; are_digits = d.3 }) d.4, r.0)
      ]
  | inr h ↦ elim (exponent_whole IntValue k n i (b ∷ bs) h.1 w) [ inl r ↦ inl r | inr r ↦ inr (exponent r.0, r.1) ]
]

-- the digits of a number, and what follows them
pub record IsNumber (k : Kind) (bs : List ℕ) : Type 0 where
  pub digits : List ℕ
  pub tail : List ℕ
  pub parts : bs ≡ digits ++ tail
  pub unsigned : IsUnsigned digits
  pub kinds : ((tail ≡ []) × (IntValue ≡ k)) ⊎ (IsFloatTail tail × (FloatValue ≡ k))

not_48 : (b : ℕ) → (b == 48) ≡ false → b ≢ 48
not_48 b e = λ h. absurd (let same : (b == 48) ≡ true = rw h refl in cc)

pub number_whole : (k : Kind) (n i : ℕ) (bs : List ℕ) → number_part n bs ≡ Taken k i → i ≡ n + length bs → IsNumber k bs
unfolding number_part
number_whole k n i [] e w = absurd (cc)
number_whole k n i (b ∷ bs) e w = elim (chosen (b == 48) e) [
  | inl h ↦ record { digits = 48 ∷ []; tail = bs; parts = ap (λ x. x ∷ bs) (eqb-true b 48 h.0); unsigned = zero_alone refl; kinds = fraction_whole k (n + 1) i bs h.1 (omega (arith, w)) }
  | inr h ↦ elim (chosen (is_ascii_digit b) h.1) [
    | inl g ↦
        let d : ℕ = prefix_len is_ascii_digit bs in
        record {
          digits = b ∷ take d bs;
          tail = drop d bs;
          parts = ap (λ xs. b ∷ xs) (sym (take-append-drop d bs));
          unsigned = not_zero refl (not_48 b h.0) (rw g.0 (run_takes is_ascii_digit bs));
          kinds = fraction_whole k (n + 1 + d) i (drop d bs) g.1 (omega (arith, w, length-drop d bs, prefix_len-le-length is_ascii_digit bs));
        }
    | inr g ↦ absurd (let f = g.1 in cc)
  ]
]

-- numbers of the grammar are taken whole

not_zero_len : (n : ℕ) → 0 < n → (n == 0) ≡ false
not_zero_len n h = grind (arith, nat_tests)

exponent_digits_full : (n : ℕ) (ds : List ℕ) → IsDigits ds → exponent_digits n ds ≡ Taken FloatValue (n + length ds)
unfolding exponent_digits
exponent_digits_full n ds d =
    let count = run_whole is_ascii_digit ds d.digits in
    let none : drop (length ds) ds ≡ [] = nothing_left ds (length ds) refl in
    rw (count, not_zero_len (length ds) d.some, none) refl

digit_no_sign : (b : ℕ) → is_ascii_digit b ≡ true → (b == 43 || b == 45) ≡ false
digit_no_sign b e = grind (arith, nat_tests)

-- behind a sign, or none, the digits are found
signed_digits : (n : ℕ) (sign ds : List ℕ) → (sign ≡ []) ⊎ ((sign ≡ 43 ∷ []) ⊎ (sign ≡ 45 ∷ [])) → IsDigits ds
    → exponent_digits (n + sign_len (sign ++ ds)) (drop (sign_len (sign ++ ds)) (sign ++ ds)) ≡ Taken FloatValue (n + length (sign ++ ds))
signed_digits n sign ds (inl e) d = rw e (unsigned_digits ds d)
  where
    unsigned_digits : (ds : List ℕ) → IsDigits ds → exponent_digits (n + sign_len ds) (drop (sign_len ds) ds) ≡ Taken FloatValue (n + length ds)
    unsigned_digits [] d = absurd (omega (arith, d.some))
    unsigned_digits (b ∷ ds) d =
        let no : sign_len (b ∷ ds) ≡ 0 = rw (digit_no_sign b (both_of (is_ascii_digit b) (list_all is_ascii_digit ds) d.digits).0) refl in
        rw no (subst (λ m. exponent_digits m (b ∷ ds) ≡ Taken FloatValue (n + length (b ∷ ds))) (let same : n ≡ n + 0 = omega arith in same) (exponent_digits_full n (b ∷ ds) d))
signed_digits n sign ds (inr (inl e)) d = rw e (exponent_digits_full (n + 1) ds d ∙ ap (λ m. Taken FloatValue m) (let same : n + 1 + length ds ≡ n + length (43 ∷ ds) = omega arith in same))
signed_digits n sign ds (inr (inr e)) d = rw e (exponent_digits_full (n + 1) ds d ∙ ap (λ m. Taken FloatValue m) (let same : n + 1 + length ds ≡ n + length (45 ∷ ds) = omega arith in same))

exponent_full : (kind : Kind) (n : ℕ) (text : List ℕ) → IsExponent text → exponent_part kind n text ≡ Taken FloatValue (n + length text)
unfolding exponent_part
exponent_full kind n text e =
    rw e.parts (rw e.marked (signed_digits (n + 1) e.sign e.digits e.signed e.are_digits ∙ ap (λ m. Taken FloatValue m) (let same : n + 1 + length (e.sign ++ e.digits) ≡ n + length (e.mark ∷ (e.sign ++ e.digits)) = omega arith in same)))

mark_no_digit : (b : ℕ) → is_exponent_mark b ≡ true → is_ascii_digit b ≡ false
mark_no_digit b e = grind (arith, nat_tests)

mark_no_dot : (b : ℕ) → is_exponent_mark b ≡ true → (b == 46) ≡ false
mark_no_dot b e = grind (arith, nat_tests)

exponent_begins : (p : ℕ → Bool) (text : List ℕ) → IsExponent text → ((b : ℕ) → is_exponent_mark b ≡ true → p b ≡ false) → begins p text ≡ false
exponent_begins p text e h = rw e.parts (h e.mark e.marked)

fraction_digits_full : (n : ℕ) (ds : List ℕ) → IsDigits ds → fraction_digits n ds ≡ Taken FloatValue (n + length ds)
unfolding fraction_digits exponent_part
fraction_digits_full n ds d =
    let count = run_whole is_ascii_digit ds d.digits in
    let none : drop (length ds) ds ≡ [] = nothing_left ds (length ds) refl in
    rw (count, not_zero_len (length ds) d.some, none) refl

fraction_digits_both : (n : ℕ) (ds back : List ℕ) → IsDigits ds → IsExponent back → fraction_digits n (ds ++ back) ≡ Taken FloatValue (n + length (ds ++ back))
unfolding fraction_digits
fraction_digits_both n ds back d e =
    let count : prefix_len is_ascii_digit (ds ++ back) ≡ length ds = run_is is_ascii_digit ds back d.digits (exponent_begins is_ascii_digit back e mark_no_digit) in
    rw (count, not_zero_len (length ds) d.some, drop_at ds back (length ds) refl)
    (exponent_full FloatValue (n + length ds) back e ∙ ap (λ m. Taken FloatValue m) (let same : n + length ds + length back ≡ n + length (ds ++ back) = omega (arith, length-append ds back) in same))

exponent_fraction : (n : ℕ) (text : List ℕ) → IsExponent text → fraction_part n text ≡ exponent_part IntValue n text
unfolding fraction_part
exponent_fraction n text e = rw e.parts (rw (mark_no_dot e.mark e.marked) refl)

tail_full : (n : ℕ) (tail : List ℕ) → IsFloatTail tail → fraction_part n tail ≡ Taken FloatValue (n + length tail)
unfolding fraction_part
tail_full n tail (fraction f) = rw f.parts (fraction_digits_full (n + 1) f.digits f.are_digits ∙ ap (λ m. Taken FloatValue m) (let same : n + 1 + length f.digits ≡ n + length (46 ∷ f.digits) = omega arith in same))
tail_full n tail (exponent e) = exponent_fraction n tail e ∙ exponent_full IntValue n tail e
tail_full n tail (both {front = front} {back = back} p f e) =
    rw (p, f.parts) (fraction_digits_both (n + 1) f.digits back f.are_digits e ∙ ap (λ m. Taken FloatValue m) (let same : n + 1 + length (f.digits ++ back) ≡ n + length (46 ∷ (f.digits ++ back)) = omega arith in same))

dot_no_digit : is_ascii_digit 46 ≡ false
dot_no_digit = refl

tail_begins : (tail : List ℕ) → IsFloatTail tail → begins is_ascii_digit tail ≡ false
tail_begins tail (fraction f) = rw f.parts refl
tail_begins tail (exponent e) = exponent_begins is_ascii_digit tail e mark_no_digit
tail_begins tail (both p f e) = rw (p, f.parts) refl

number_full : (n : ℕ) (ds tail : List ℕ) → IsUnsigned ds → begins is_ascii_digit tail ≡ false → number_part n (ds ++ tail) ≡ fraction_part (n + length ds) tail
unfolding number_part
number_full n ds tail (zero_alone e) h = rw e refl
number_full n ds tail (not_zero {rest = rest} {first = first} e w a) h =
    let two = both_of (is_ascii_digit first) (list_all is_ascii_digit rest) a in
    rw e (rw (ne_eqb first 48 w, two.0, run_is is_ascii_digit rest tail two.1 h, drop_at rest tail (length rest) refl)
    (ap (λ m. fraction_part m tail) (let same : n + 1 + length rest ≡ n + length (first ∷ rest) = omega arith in same)))

integer_end : (n : ℕ) → fraction_part n [] ≡ Taken IntValue n
unfolding fraction_part exponent_part
integer_end n = refl

-- where a number begins

digit_plain : (b : ℕ) → is_ascii_digit b ≡ true → (is_blank b ≡ false) × (is_name_start b ≡ false) × ((b == 45) ≡ false) × ((b == 34) ≡ false)
digit_plain b e = (grind (arith, nat_tests), grind (arith, nat_tests), grind (arith, nat_tests), grind (arith, nat_tests))

stands_plain_at : (b : ℕ) (bs : List ℕ) (p : Part) → (b == 34) ≡ false → p ≡ plain_part b bs → Stands (b ∷ bs) p
stands_plain_at b bs p e h = plain (no_three b bs e) (none_from b bs e) h

minus_stands : (bs : List ℕ) (p : Part) → p ≡ number_part 1 bs → Stands (45 ∷ bs) p
unfolding plain_part
minus_stands bs p h = stands_plain_at 45 bs p refl h

digit_stands : (b : ℕ) (bs : List ℕ) (p : Part) → is_ascii_digit b ≡ true → p ≡ number_part 0 (b ∷ bs) → Stands (b ∷ bs) p
unfolding plain_part
digit_stands b bs p e h = let d = digit_plain b e in stands_plain_at b bs p d.3 (rw (d.0, d.1, d.2, e) h)

-- digits begin with a digit
unsigned_first : (ds : List ℕ) → IsUnsigned ds → (b : ℕ) × (bs : List ℕ) × (ds ≡ b ∷ bs) × (is_ascii_digit b ≡ true)
unsigned_first ds (zero_alone e) = (48, [], e, refl)
unsigned_first ds (not_zero {rest = rest} {first = first} e w a) = (first, rest, e, (both_of (is_ascii_digit first) (list_all is_ascii_digit rest) a).0)

-- a text that is a sign or none, digits, and what follows them, stands as what its digits make of it
signed_stands : (text sign ds tail : List ℕ) (kind : Kind) → text ≡ sign ++ (ds ++ tail) → (sign ≡ []) ⊎ (sign ≡ 45 ∷ []) → IsUnsigned ds → begins is_ascii_digit tail ≡ false
    → ((n : ℕ) → fraction_part n tail ≡ Taken kind (n + length tail)) → IsToken kind text
signed_stands text sign ds tail kind t (inl e) u h f =
    let d = unsigned_first ds u in
    let is : text ≡ ds ++ tail = t ∙ ap (λ xs. xs ++ (ds ++ tail)) e in
    let first : ds ++ tail ≡ d.0 ∷ (d.1 ++ tail) = ap (λ xs. xs ++ tail) d.2 in
    rw (is, first) (digit_stands d.0 (d.1 ++ tail) _ d.3 (sym (ap (number_part 0) (sym first) ∙ number_full 0 ds tail u h ∙ f (0 + length ds)
    ∙ ap (λ m. Taken kind m) (let same : 0 + length ds + length tail ≡ length (d.0 ∷ (d.1 ++ tail)) = omega (arith, length-append ds tail, ap length first) in same))))
signed_stands text sign ds tail kind t (inr e) u h f =
    let is : text ≡ 45 ∷ (ds ++ tail) = t ∙ ap (λ xs. xs ++ (ds ++ tail)) e in
    rw is (minus_stands (ds ++ tail) _ (sym (number_full 1 ds tail u h ∙ f (1 + length ds)
    ∙ ap (λ m. Taken kind m) (let same : 1 + length ds + length tail ≡ length (45 ∷ (ds ++ tail)) = omega (arith, length-append ds tail) in same))))

pub integer_token : (text : List ℕ) → IsInteger text → IsToken IntValue text
integer_token text i =
    signed_stands text i.sign i.digits [] IntValue (i.parts ∙ ap (λ xs. i.sign ++ xs) (sym (append-nil i.digits))) i.signed i.unsigned refl
    (λ n. integer_end n ∙ ap (λ m. Taken IntValue m) (let same : n ≡ n + 0 = omega arith in same))

pub float_token : (text : List ℕ) → IsFloat text → IsToken FloatValue text
float_token text f =
    let i = f.is_integer in
    signed_stands text i.sign i.digits f.tail FloatValue (f.parts ∙ ap (λ xs. xs ++ f.tail) i.parts ∙ append_assoc i.sign i.digits f.tail) i.signed i.unsigned
    (tail_begins f.tail f.is_tail) (λ n. tail_full n f.tail f.is_tail)

-- what a token of a kind of number is

mark_no_number : (b : ℕ) → (mark_kind b ≡ Some IntValue → ⊥) × (mark_kind b ≡ Some FloatValue → ⊥) × (mark_kind b ≡ Some Name → ⊥)
mark_no_number b = (λ e. grind (arith, nat_tests), λ e. grind (arith, nat_tests), λ e. grind (arith, nat_tests))

-- a kind that no part has but names and numbers
pub record IsWord (k : Kind) : Type 0 where
  pub no_string : StringValue ≢ k
  pub no_block : BlockString ≢ k
  pub no_dots : Ellipsis ≢ k
  pub no_mark : (b : ℕ) → mark_kind b ≡ Some k → ⊥

dots_kind : (k : Kind) (i : ℕ) (bs : List ℕ) → Ellipsis ≢ k → dots_part bs ≡ Taken k i → ⊥
dots_kind k i [] w e = cc
dots_kind k i (b ∷ []) w e = cc
dots_kind k i (b ∷ c ∷ bs) w e = elim (chosen (b == 46 && c == 46) e) [ inl h ↦ let f = h.1 in w cc | inr h ↦ let f = h.1 in cc ]

mark_none : (k : Kind) (i : ℕ) (o : Option Kind) → (o ≡ Some k → ⊥) → mark_part o ≡ Taken k i → ⊥
mark_none k i (Some j) w e = w cc
mark_none k i None w e = cc

-- the name, or the number, that a part which begins with no quote is
pub word_part : (k : Kind) (i b : ℕ) (bs : List ℕ) → Ellipsis ≢ k → ((c : ℕ) → mark_kind c ≡ Some k → ⊥) → plain_part b bs ≡ Taken k i
    → ((is_name_start b ≡ true) × (Taken Name (1 + prefix_len is_name_byte bs) ≡ Taken k i)) ⊎ (((b ≡ 45) × (number_part 1 bs ≡ Taken k i)) ⊎ (number_part 0 (b ∷ bs) ≡ Taken k i))
unfolding plain_part
word_part k i b bs no_dots no_mark e = elim (chosen (is_blank b) e) [
  | inl h ↦ absurd (let f = h.1 in cc)
  | inr h ↦ elim (chosen (is_name_start b) h.1) [
    | inl g ↦ inl g
    | inr g ↦ elim (chosen (b == 45) g.1) [
      | inl d ↦ inr (inl (eqb-true b 45 d.0, d.1))
      | inr d ↦ elim (chosen (is_ascii_digit b) d.1) [
        | inl u ↦ inr (inr u.1)
        | inr u ↦ elim (chosen (b == 35) u.1) [
          | inl v ↦ absurd (elim (chosen (begins (λ c. not (is_break c)) (drop (prefix_len is_source_byte bs) bs)) v.1) [ inl x ↦ let f = x.1 in cc | inr x ↦ let f = x.1 in cc ])
          | inr v ↦ elim (chosen (b == 46) v.1) [
            | inl x ↦ absurd (dots_kind k i bs no_dots x.1)
            | inr x ↦ elim (chosen (b == 239) x.1) [
              | inl y ↦ absurd (order_none bs k i y.1)
              | inr y ↦ absurd (mark_none k i (mark_kind b) (no_mark b) y.1)
            ]
          ]
        ]
      ]
    ]
  ]
]

pub run_kind_is : (f : List ℕ → Piece) (kind : Kind) {n : ℕ} {bs : List ℕ} {p : Part} → Run f kind n bs p → (k : Kind) (i : ℕ) → p ≡ Taken k i → kind ≡ k
run_kind_is f kind (closes {n = m} e l) k i h = cc
run_kind_is f kind (goes {n = m} e r) k i h = run_kind_is f kind r k i h
run_kind_is f kind (stops {n = m} e l) k i h = absurd (cc)

-- the first byte of such a token, and what it is
pub record IsWordToken (k : Kind) (text : List ℕ) : Type 0 where
  pub first : ℕ
  pub rest : List ℕ
  pub parts : text ≡ first ∷ rest
  pub word : ((is_name_start first ≡ true) × (Taken Name (1 + prefix_len is_name_byte rest) ≡ Taken k (length text))) ⊎ (((first ≡ 45) × (number_part 1 rest ≡ Taken k (length text))) ⊎ (number_part 0 (first ∷ rest) ≡ Taken k (length text)))

word_token : (k : Kind) {text : List ℕ} {p : Part} → IsWord k → Stands text p → p ≡ Taken k (length text) → IsWordToken k text
word_token k w (block_string e r) h = absurd (w.no_block (run_kind_is _ BlockString r k _ h))
word_token k w (string e r) h = absurd (w.no_string (run_kind_is _ StringValue r k _ h))
word_token k w (plain {b = b} {bs = bs} x y e) h = record { first = b; rest = bs; parts = refl; word = word_part k (length (b ∷ bs)) b bs w.no_dots w.no_mark (sym e ∙ h) }

words_int : IsWord IntValue
words_int = record { no_string = λ e. cc; no_block = λ e. cc; no_dots = λ e. cc; no_mark = λ b. (mark_no_number b).0 }

words_float : IsWord FloatValue
words_float = record { no_string = λ e. cc; no_block = λ e. cc; no_dots = λ e. cc; no_mark = λ b. (mark_no_number b).1 }

words_name : IsWord Name
words_name = record { no_string = λ e. cc; no_block = λ e. cc; no_dots = λ e. cc; no_mark = λ b. (mark_no_number b).2 }

-- the digits of a token, behind its sign or none
pub record IsSigned (k : Kind) (text : List ℕ) : Type 0 where
  pub sign : List ℕ
  pub rest : List ℕ
  pub parts : text ≡ sign ++ rest
  pub signed : (sign ≡ []) ⊎ (sign ≡ 45 ∷ [])
  pub number : IsNumber k rest

number_token : (k : Kind) (text : List ℕ) → Name ≢ k → IsWordToken k text → IsSigned k text
number_token k text unnamed t = elim (t.word) [
  | inl h ↦ absurd (let f = h.1 in unnamed cc)
  | inr h ↦ elim h [
    | inl g ↦ record {
      sign = 45 ∷ [];
      rest = t.rest;
      parts = t.parts ∙ ap (λ x. x ∷ t.rest) g.0;
      signed = inr refl;
      number = number_whole k 1 (length text) t.rest g.1 (omega (arith, ap length t.parts));
    }
    | inr g ↦ record {
      sign = [];
      rest = t.first ∷ t.rest;
      parts = t.parts;
      signed = inl refl;
      number = number_whole k 0 (length text) (t.first ∷ t.rest) g (omega (arith, ap length t.parts));
    }
  ]
]

pub token_integer : (text : List ℕ) → IsToken IntValue text → IsInteger text
token_integer text s =
    let t = number_token IntValue text (λ e. cc) (word_token IntValue words_int s refl) in
    let n = t.number in
    elim (n.kinds) [
      | inl h ↦ record { sign = t.sign; digits = n.digits; parts = t.parts ∙ ap (λ xs. t.sign ++ xs) (n.parts ∙ ap (λ xs. n.digits ++ xs) h.0 ∙ append-nil n.digits); signed = t.signed; unsigned = n.unsigned }
      | inr h ↦ absurd (let f = h.1 in cc)
    ]

pub token_float : (text : List ℕ) → IsToken FloatValue text → IsFloat text
token_float text s =
    let t = number_token FloatValue text (λ e. cc) (word_token FloatValue words_float s refl) in
    let n = t.number in
    elim (n.kinds) [
      | inl h ↦ absurd (let f = h.1 in cc)
      | inr h ↦ record {
        integer = t.sign ++ n.digits;
        tail = n.tail;
        parts = t.parts ∙ ap (λ xs. t.sign ++ xs) n.parts ∙ sym (append_assoc t.sign n.digits n.tail);
        is_integer = record { sign = t.sign; digits = n.digits; parts = refl; signed = t.signed; unsigned = n.unsigned };
        is_tail = h.0;
      }
    ]

start_plain : (b : ℕ) → is_name_start b ≡ true → (is_blank b ≡ false) × ((b == 34) ≡ false)
start_plain b e = (grind (arith, nat_tests), grind (arith, nat_tests))

pub name_token : (text : List ℕ) → IsName text → IsToken Name text
unfolding plain_part
name_token text n =
    let d = start_plain n.first n.starts in
    rw n.parts (stands_plain_at n.first n.rest _ d.1 (rw (d.0, n.starts) (ap (λ m. Taken Name m) (let same : length (n.first ∷ n.rest) ≡ 1 + prefix_len is_name_byte n.rest = omega (arith, run_whole is_name_byte n.rest n.continues) in same))))

no_name_number : (n i : ℕ) (bs : List ℕ) → number_part n bs ≡ Taken Name i → i ≡ n + length bs → ⊥
no_name_number n i bs e w = let r = number_whole Name n i bs e w in elim (r.kinds) [ inl h ↦ let f = h.1 in cc | inr h ↦ let f = h.1 in cc ]

pub token_name : (text : List ℕ) → IsToken Name text → IsName text
token_name text s =
    let t = word_token Name words_name s refl in
    elim (t.word) [
      | inl h ↦ let f = h.1 in let same : 1 + prefix_len is_name_byte t.rest ≡ length text = cc in
          record { first = t.first; rest = t.rest; parts = t.parts; starts = h.0; continues = run_all is_name_byte t.rest (omega (arith, same, ap length t.parts)) }
      | inr h ↦ absurd (elim h [
        | inl g ↦ no_name_number 1 (length text) t.rest g.1 (omega (arith, ap length t.parts))
        | inr g ↦ no_name_number 0 (length text) (t.first ∷ t.rest) g (omega (arith, ap length t.parts))
      ])
    ]
