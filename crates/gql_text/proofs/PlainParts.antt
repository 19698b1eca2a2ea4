-- The bytes of names and punctuators are characters by themselves and end no line.
use Rattle.std.proofs.Common.{◌≡◌, ℕ, ◌+◌, ◌≤◌, List, [], ◌∷◌, drop, refl, sym, subst, arith, Bool, true, false, Option, Some, None}
use Rattle.std.specs.List.{prefix_len}
use Rattle.std.specs.Char.{is_ascii_digit}
use Rattle.std.specs.Prelude.{◌==◌, ◌&&◌, not}
use Rattle.std.proofs.lemmas.Bool.{eqb-true}
use Rattle.std.proofs.lemmas.Bool.Decides.{nat_tests}
use Rattle.gql_text.specs.Chars.{is_name_start, is_name_byte, is_break, is_blank, is_source_byte, begins}
use Rattle.gql_text.specs.Number.{number_end, exponent_digits, exponent_part, fraction_digits, fraction_part, number_part, spoils_number, is_exponent_mark, sign_len}
use Rattle.gql_text.specs.Marks.{mark_kind, mark_part, dots_part, order_part, plain_part}
use Rattle.gql_text.specs.Pieces.{string_piece, block_piece}
use Rattle.gql_text.specs.Lexis.{Run, closes, goes, stops, Stands, block_string, string, plain}
use Rattle.gql_text.specs.Parts.{is_plain, is_value}
use Rattle.gql_text.specs.declared.token.Kind.{Kind}
use Rattle.gql_text.specs.declared.token.Kind.TheVariants.{IntValue, FloatValue, StringValue, BlockString}
use Rattle.gql_text.specs.declared.front.Part.{Part}
use Rattle.gql_text.specs.declared.front.Part.TheVariants.{Dropped, Taken, Refused}
use Rattle.gql_text.specs.declared.front.Piece.{Piece}
use Rattle.gql_text.proofs.Runs.{split}
use Rattle.gql_text.proofs.Fitting.{either}
use Rattle.gql_text.proofs.Cuts.{both_of}

-- a test that another implies passes at least as many bytes
pub longer : (p q : ℕ → Bool) → ((b : ℕ) → p b ≡ true → q b ≡ true) → (bs : List ℕ) → prefix_len p bs ≤ prefix_len q bs
longer p q w [] = omega arith
longer p q w (b ∷ bs) =
    split (λ n. n ≤ prefix_len q (b ∷ bs)) (p b) (1 + prefix_len p bs) 0
    (λ h. rw (w b h) (omega (arith, longer p q w bs)))
    (λ h. omega arith)

name_plain : (b : ℕ) → is_name_byte b ≡ true → is_plain b ≡ true
name_plain b e = grind (arith, nat_tests)

start_plain : (b : ℕ) → is_name_start b ≡ true → is_plain b ≡ true
start_plain b e = grind (arith, nat_tests)

mark_plain : (b : ℕ) (kind : Kind) → mark_kind b ≡ Some kind → is_plain b ≡ true
mark_plain b kind e = grind (arith, nat_tests)

-- a token that is no number and no text has such bytes alone
abbrev IsPlainPart : List ℕ → Part → Type 0
IsPlainPart s (Dropped n) = Unit {0}
IsPlainPart s (Taken kind n) = is_value kind ≡ false → n ≤ prefix_len is_plain s
IsPlainPart s (Refused refusal n) = Unit {0}

end_plain : (s : List ℕ) (kind : Kind) (n : ℕ) (bs : List ℕ) → is_value kind ≡ true → IsPlainPart s (number_end kind n bs)
end_plain s kind n bs v = either (λ p. IsPlainPart s p) (begins spoils_number bs) _ _ tt (λ e. absurd (cc))

exponent_digits_plain : (s : List ℕ) (n : ℕ) (bs : List ℕ) → IsPlainPart s (exponent_digits n bs)
unfolding exponent_digits
exponent_digits_plain s n bs =
    either (λ p. IsPlainPart s p) (prefix_len is_ascii_digit bs == 0) _ _ tt (end_plain s FloatValue _ (drop (prefix_len is_ascii_digit bs) bs) refl)

exponent_plain : (s : List ℕ) (kind : Kind) (n : ℕ) (bs : List ℕ) → is_value kind ≡ true → IsPlainPart s (exponent_part kind n bs)
unfolding exponent_part
exponent_plain s kind n [] v = end_plain s kind n [] v
exponent_plain s kind n (b ∷ bs) v =
    either (λ p. IsPlainPart s p) (is_exponent_mark b) _ _
    (exponent_digits_plain s (n + 1 + sign_len bs) (drop (sign_len bs) bs))
    (end_plain s kind n (b ∷ bs) v)

fraction_digits_plain : (s : List ℕ) (n : ℕ) (bs : List ℕ) → IsPlainPart s (fraction_digits n bs)
unfolding fraction_digits
fraction_digits_plain s n bs =
    either (λ p. IsPlainPart s p) (prefix_len is_ascii_digit bs == 0) _ _ tt (exponent_plain s FloatValue _ (drop (prefix_len is_ascii_digit bs) bs) refl)

fraction_plain : (s : List ℕ) (n : ℕ) (bs : List ℕ) → IsPlainPart s (fraction_part n bs)
unfolding fraction_part
fraction_plain s n [] = exponent_plain s IntValue n [] refl
fraction_plain s n (b ∷ bs) =
    either (λ p. IsPlainPart s p) (b == 46) _ _ (fraction_digits_plain s (n + 1) bs) (exponent_plain s IntValue n (b ∷ bs) refl)

number_plain : (s : List ℕ) (n : ℕ) (bs : List ℕ) → IsPlainPart s (number_part n bs)
unfolding number_part
number_plain s n [] = tt
number_plain s n (b ∷ bs) =
    either (λ p. IsPlainPart s p) (b == 48) _ _ (fraction_plain s (n + 1) bs)
    (either (λ p. IsPlainPart s p) (is_ascii_digit b) _ _ (fraction_plain s _ (drop (prefix_len is_ascii_digit bs) bs)) tt)

dots_plain : (s bs : List ℕ) → s ≡ 46 ∷ bs → IsPlainPart s (dots_part bs)
dots_plain s [] e = tt
dots_plain s (b ∷ []) e = tt
dots_plain s (b ∷ c ∷ bs) e =
    split (λ p. IsPlainPart s p) (b == 46 && c == 46) _ _
    (λ h v. let both = both_of (b == 46) (c == 46) h in rw (e, eqb-true b 46 both.0, eqb-true c 46 both.1) (omega arith))
    (λ h. tt)

order_plain : (s bs : List ℕ) → IsPlainPart s (order_part bs)
order_plain s [] = tt
order_plain s (b ∷ []) = tt
order_plain s (b ∷ c ∷ bs) = either (λ p. IsPlainPart s p) (b == 187 && c == 191) _ _ tt tt

one_plain : (b : ℕ) (bs : List ℕ) (n m : ℕ) → is_plain b ≡ true → n ≤ 1 + prefix_len is_plain bs → n ≤ prefix_len is_plain (b ∷ bs)
one_plain b bs n m e h = rw e h

mark_part_plain : (b : ℕ) (bs : List ℕ) (o : Option Kind) → mark_kind b ≡ o → IsPlainPart (b ∷ bs) (mark_part o)
mark_part_plain b bs (Some kind) e = λ v. one_plain b bs 1 0 (mark_plain b kind e) (omega arith)
mark_part_plain b bs None e = tt

plain_plain : (b : ℕ) (bs : List ℕ) → IsPlainPart (b ∷ bs) (plain_part b bs)
unfolding plain_part
plain_plain b bs =
    let P : Part → Type 0 = λ p. IsPlainPart (b ∷ bs) p in
    split P (is_blank b) _ _ (λ h. tt)
    (λ _. split P (is_name_start b) _ _ (λ h v. one_plain b bs _ 0 (start_plain b h) (omega (arith, longer is_name_byte is_plain name_plain bs)))
    (λ _. split P (b == 45) _ _ (λ h. number_plain (b ∷ bs) 1 bs)
    (λ _. split P (is_ascii_digit b) _ _ (λ h. number_plain (b ∷ bs) 0 (b ∷ bs))
    (λ _. split P (b == 35) _ _ (λ h. either P (begins (λ c. not (is_break c)) (drop (prefix_len is_source_byte bs) bs)) _ _ tt tt)
    (λ _. split P (b == 46) _ _ (λ h. dots_plain (b ∷ bs) bs (rw (eqb-true b 46 h) refl))
    (λ _. split P (b == 239) _ _ (λ h. order_plain (b ∷ bs) bs)
    (λ _. mark_part_plain b bs (mark_kind b) refl)))))))

run_plain : (f : List ℕ → Piece) (kind : Kind) → is_value kind ≡ true → (s : List ℕ) {n : ℕ} {bs : List ℕ} {p : Part} → Run f kind n bs p → IsPlainPart s p
run_plain f kind v s (closes e m) = λ h. absurd (cc)
run_plain f kind v s (goes e r) = run_plain f kind v s r
run_plain f kind v s (stops e m) = tt

stands_plain : {s : List ℕ} {p : Part} → Stands s p → IsPlainPart s p
stands_plain (block_string {text = s} e r) = run_plain block_piece BlockString refl s r
stands_plain (string {text = s} e r) = run_plain string_piece StringValue refl s r
stands_plain (plain {b = b} {bs = bs} x y e) = subst (λ q. IsPlainPart (b ∷ bs) q) (sym e) (plain_plain b bs)

-- a name or a punctuator has such bytes alone
pub taken_plain : (s : List ℕ) (o : ℕ) (kind : Kind) (n : ℕ) → Stands (drop o s) (Taken kind n) → is_value kind ≡ false → n ≤ prefix_len is_plain (drop o s)
taken_plain s o kind n h = stands_plain h
