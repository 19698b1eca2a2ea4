-- What is dropped is what the specification ignores.
use Rattle.std.proofs.Common.{◌≡◌, ℕ, ◌+◌, List, [], ◌∷◌, length, drop, refl, sym, ap, ap₂, subst, ◌∙◌, arith, Bool, true, false, Option, Some, None, inl, inr}
use Rattle.std.specs.Prelude.{◌==◌, ◌&&◌, not}
use Rattle.std.specs.List.{prefix_len, list_all}
use Rattle.std.specs.Char.{is_ascii_digit}
use Rattle.std.proofs.lemmas.Bool.{eqb-true}
use Rattle.std.proofs.lemmas.Bool.Decides.{nat_tests}
use Rattle.std.proofs.lemmas.List.{nil_from_length}
use Rattle.gql_text.specs.Chars.{is_name_start, is_break, is_blank, is_source_byte, begins, three_quotes, one_quote}
use Rattle.gql_text.specs.Number.{number_end, exponent_digits, exponent_part, fraction_digits, fraction_part, number_part, is_exponent_mark, sign_len, spoils_number}
use Rattle.gql_text.specs.Marks.{mark_kind, mark_part, dots_part, order_part, comment_part, plain_part}
use Rattle.gql_text.specs.Values.{is_white}
use Rattle.gql_text.specs.Ignored.{IsIgnored, byte_order_mark, white_space, line_terminator, comma, comment}
use Rattle.gql_text.specs.Lexis.{Run, closes, goes, stops, Stands, block_string, string, plain}
use Rattle.gql_text.specs.declared.token.Kind.{Kind}
use Rattle.gql_text.specs.declared.token.Kind.TheVariants.{IntValue, FloatValue}
use Rattle.gql_text.specs.declared.front.Part.{Part}
use Rattle.gql_text.specs.declared.front.Part.TheVariants.{Dropped}
use Rattle.gql_text.specs.declared.front.Piece.{Piece}
use Rattle.gql_text.proofs.Runs.{chosen}
use Rattle.gql_text.proofs.Cuts.{both_of}
use Rattle.gql_text.proofs.Grammars.{run_all, run_whole, nothing_left}

-- ---- what is no number is dropped by no rule of numbers

end_not : (kind : Kind) (n i : ℕ) (bs : List ℕ) → number_end kind n bs ≡ Dropped i → ⊥
end_not kind n i bs e = elim (chosen (begins spoils_number bs) e) [ inl h ↦ let f = h.1 in cc | inr h ↦ let f = h.1 in cc ]

exponent_digits_not : (n i : ℕ) (bs : List ℕ) → exponent_digits n bs ≡ Dropped i → ⊥
unfolding exponent_digits
exponent_digits_not n i bs e = elim (chosen (prefix_len is_ascii_digit bs == 0) e) [
  | inl h ↦ let f = h.1 in cc
  | inr h ↦ end_not FloatValue (n + prefix_len is_ascii_digit bs) i (drop (prefix_len is_ascii_digit bs) bs) h.1
]

exponent_not : (kind : Kind) (n i : ℕ) (bs : List ℕ) → exponent_part kind n bs ≡ Dropped i → ⊥
unfolding exponent_part
exponent_not kind n i [] e = end_not kind n i [] e
exponent_not kind n i (b ∷ bs) e = elim (chosen (is_exponent_mark b) e) [
  | inl h ↦ exponent_digits_not (n + 1 + sign_len bs) i (drop (sign_len bs) bs) h.1
  | inr h ↦ end_not kind n i (b ∷ bs) h.1
]

fraction_digits_not : (n i : ℕ) (bs : List ℕ) → fraction_digits n bs ≡ Dropped i → ⊥
unfolding fraction_digits
fraction_digits_not n i bs e = elim (chosen (prefix_len is_ascii_digit bs == 0) e) [
  | inl h ↦ let f = h.1 in cc
  | inr h ↦ exponent_not FloatValue (n + prefix_len is_ascii_digit bs) i (drop (prefix_len is_ascii_digit bs) bs) h.1
]

fraction_not : (n i : ℕ) (bs : List ℕ) → fraction_part n bs ≡ Dropped i → ⊥
unfolding fraction_part
fraction_not n i [] e = exponent_not IntValue n i [] e
fraction_not n i (b ∷ bs) e = elim (chosen (b == 46) e) [
  | inl h ↦ fraction_digits_not (n + 1) i bs h.1
  | inr h ↦ exponent_not IntValue n i (b ∷ bs) h.1
]

number_not : (n i : ℕ) (bs : List ℕ) → number_part n bs ≡ Dropped i → ⊥
unfolding number_part
number_not n i [] e = cc
number_not n i (b ∷ bs) e = elim (chosen (b == 48) e) [
  | inl h ↦ fraction_not (n + 1) i bs h.1
  | inr h ↦ elim (chosen (is_ascii_digit b) h.1) [
    | inl g ↦ fraction_not (n + 1 + prefix_len is_ascii_digit bs) i (drop (prefix_len is_ascii_digit bs) bs) g.1
    | inr g ↦ let f = g.1 in cc
  ]
]

-- ---- nor are marks

dots_not : (i : ℕ) (bs : List ℕ) → dots_part bs ≡ Dropped i → ⊥
dots_not i [] e = cc
dots_not i (b ∷ []) e = cc
dots_not i (b ∷ c ∷ bs) e = elim (chosen (b == 46 && c == 46) e) [ inl h ↦ let f = h.1 in cc | inr h ↦ let f = h.1 in cc ]

mark_not : (i : ℕ) (o : Option Kind) → mark_part o ≡ Dropped i → ⊥
mark_not i (Some kind) e = cc
mark_not i None e = cc

-- ---- what is dropped

order_is : (i : ℕ) (bs : List ℕ) → order_part bs ≡ Dropped i → i ≡ 1 + length bs → bs ≡ 187 ∷ 191 ∷ []
order_is i [] e w = absurd (cc)
order_is i (b ∷ []) e w = absurd (cc)
order_is i (b ∷ c ∷ bs) e w = elim (chosen (b == 187 && c == 191) e) [
  | inl h ↦
      let same : 3 ≡ i = let f = h.1 in cc in
      let both = both_of (b == 187) (c == 191) h.0 in
      ap₂ (λ x y. x ∷ y ∷ bs) (eqb-true b 187 both.0) (eqb-true c 191 both.1) ∙ ap (λ xs. 187 ∷ 191 ∷ xs) (nil_from_length bs (omega (arith, same, w)))
  | inr h ↦ absurd (let f = h.1 in cc)
]

comment_is : (i : ℕ) (bs : List ℕ) → comment_part (1 + prefix_len is_source_byte bs) (drop (prefix_len is_source_byte bs) bs) ≡ Dropped i → i ≡ 1 + length bs → list_all is_source_byte bs ≡ true
comment_is i bs e w = elim (chosen (begins (λ b. not (is_break b)) (drop (prefix_len is_source_byte bs) bs)) e) [
  | inl h ↦ absurd (let f = h.1 in cc)
  | inr h ↦ let same : 1 + prefix_len is_source_byte bs ≡ i = let f = h.1 in cc in run_all is_source_byte bs (omega (arith, same, w))
]

blank_by : (b : ℕ) (white broken : Bool) → is_white b ≡ white → is_break b ≡ broken → is_blank b ≡ true → IsIgnored (b ∷ [])
blank_by b true broken w r e = white_space refl w
blank_by b false true w r e = line_terminator refl r
blank_by b false false w r e = comma (ap (λ x. x ∷ []) (let same : b ≡ 44 = grind (arith, nat_tests) in same))

plain_is : (b i : ℕ) (bs : List ℕ) → plain_part b bs ≡ Dropped i → i ≡ 1 + length bs → IsIgnored (b ∷ bs)
unfolding plain_part
plain_is b i bs e w = elim (chosen (is_blank b) e) [
  | inl h ↦
      let same : 1 ≡ i = let f = h.1 in cc in
      let none : bs ≡ [] = nil_from_length bs (omega (arith, same, w)) in
      subst (λ xs. IsIgnored (b ∷ xs)) (sym none) (blank_by b (is_white b) (is_break b) refl refl h.0)
  | inr h ↦ elim (chosen (is_name_start b) h.1) [
    | inl g ↦ absurd (let f = g.1 in cc)
    | inr g ↦ elim (chosen (b == 45) g.1) [
      | inl d ↦ absurd (number_not 1 i bs d.1)
      | inr d ↦ elim (chosen (is_ascii_digit b) d.1) [
        | inl u ↦ absurd (number_not 0 i (b ∷ bs) u.1)
        | inr u ↦ elim (chosen (b == 35) u.1) [
          | inl v ↦ comment (ap (λ x. x ∷ bs) (eqb-true b 35 v.0)) (comment_is i bs v.1 w)
          | inr v ↦ elim (chosen (b == 46) v.1) [
            | inl x ↦ absurd (dots_not i bs x.1)
            | inr x ↦ elim (chosen (b == 239) x.1) [
              | inl y ↦ byte_order_mark (ap (λ z. z ∷ bs) (eqb-true b 239 y.0) ∙ ap (λ xs. 239 ∷ xs) (order_is i bs y.1 w))
              | inr y ↦ absurd (mark_not i (mark_kind b) y.1)
            ]
          ]
        ]
      ]
    ]
  ]
]

run_not : (f : List ℕ → Piece) (kind : Kind) {n : ℕ} {bs : List ℕ} {p : Part} → Run f kind n bs p → (i : ℕ) → p ≡ Dropped i → ⊥
run_not f kind (closes e l) i h = cc
run_not f kind (goes e r) i h = run_not f kind r i h
run_not f kind (stops e l) i h = cc

dropped_is : {text : List ℕ} {p : Part} → Stands text p → p ≡ Dropped (length text) → IsIgnored text
dropped_is (block_string e r) h = absurd (run_not _ _ r _ h)
dropped_is (string e r) h = absurd (run_not _ _ r _ h)
dropped_is (plain {b = b} {bs = bs} x y e) h = plain_is b (length (b ∷ bs)) bs (sym e ∙ h) (omega arith)

pub dropped_ignored : (text : List ℕ) → Stands text (Dropped (length text)) → IsIgnored text
dropped_ignored text s = dropped_is s refl

-- ---- what is ignored is dropped

no_quotes : (b : ℕ) (bs : List ℕ) → (b == 34) ≡ false → (three_quotes (b ∷ bs) ≡ false) × (one_quote (b ∷ bs) ≡ false)
no_quotes b [] e = (refl, e)
no_quotes b (c ∷ []) e = (refl, e)
no_quotes b (c ∷ d ∷ bs) e = (rw e refl, rw e refl)

stands_plain : (b : ℕ) (bs : List ℕ) (p : Part) → (b == 34) ≡ false → p ≡ plain_part b bs → Stands (b ∷ bs) p
stands_plain b bs p e h = let none = no_quotes b bs e in plain none.0 none.1 h

blank_part : (b : ℕ) → is_blank b ≡ true → Dropped 1 ≡ plain_part b []
unfolding plain_part
blank_part b e = rw e refl

order_part_is : Dropped 3 ≡ plain_part 239 (187 ∷ 191 ∷ [])
unfolding plain_part
order_part_is = refl

comment_part_is : (rest : List ℕ) → list_all is_source_byte rest ≡ true → Dropped (length (35 ∷ rest)) ≡ plain_part 35 rest
unfolding plain_part
comment_part_is rest a =
    let long = run_whole is_source_byte rest a in
    rw (long, nothing_left rest (length rest) refl) (ap Dropped (omega arith))

pub ignored_dropped : (text : List ℕ) → IsIgnored text → Stands text (Dropped (length text))
ignored_dropped text (byte_order_mark e) = rw e (stands_plain 239 (187 ∷ 191 ∷ []) (Dropped 3) refl order_part_is)
ignored_dropped text (white_space {b = b} e w) =
    let quote : (b == 34) ≡ false = grind (arith, nat_tests) in
    let blank : is_blank b ≡ true = grind (arith, nat_tests) in
    rw e (stands_plain b [] (Dropped 1) quote (blank_part b blank))
ignored_dropped text (line_terminator {b = b} e w) =
    let quote : (b == 34) ≡ false = grind (arith, nat_tests) in
    let blank : is_blank b ≡ true = grind (arith, nat_tests) in
    rw e (stands_plain b [] (Dropped 1) quote (blank_part b blank))
ignored_dropped text (comma e) = rw e (stands_plain 44 [] (Dropped 1) refl (blank_part 44 refl))
ignored_dropped text (comment {rest = rest} e a) = rw e (stands_plain 35 rest (Dropped (length (35 ∷ rest))) refl (comment_part_is rest a))
