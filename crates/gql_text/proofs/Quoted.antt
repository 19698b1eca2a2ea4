-- The tokens of strings stand between their quotes, and no other token does.
use Rattle.std.proofs.Common.{◌≡◌, ◌≢◌, ℕ, ◌+◌, ◌-◌, ◌≤◌, List, [], ◌∷◌, length, take, drop, length-drop, drop-drop, refl, sym, ap, subst, ◌∙◌, arith, Bool, true, false, Some, inl, inr, ◌⊎◌}
use Rattle.std.specs.Prelude.{◌==◌, ◌&&◌, ◌||◌, not, nat_le, nat_eq}
use Rattle.std.specs.List.{starts_with, ends_with}
use Rattle.std.specs.Cmp.Lexicographic.{same_text}
use Rattle.std.proofs.lemmas.Bool.{eqb-true}
use Rattle.std.proofs.lemmas.Bool.Decides.{nat_tests}
use Rattle.std.proofs.lemmas.List.{nil_from_length}
use Rattle.gql_text.specs.Chars.{is_break, is_source_byte, three_quotes, one_quote}
use Rattle.gql_text.specs.Marks.{mark_kind, plain_part}
use Rattle.gql_text.specs.Pieces.{string_piece, block_piece}
use Rattle.gql_text.specs.Values.{is_within, between, string_value, block_value, text_value}
use Rattle.gql_text.specs.Lexis.{Run, closes, goes, stops, Stands, block_string, string, plain}
use Rattle.gql_text.specs.declared.token.Kind.{Kind}
use Rattle.gql_text.specs.declared.token.Kind.TheVariants.{Name, IntValue, FloatValue, StringValue, BlockString, Ellipsis}
use Rattle.gql_text.specs.declared.front.Part.{Part}
use Rattle.gql_text.specs.declared.front.Part.TheVariants.{Taken}
use Rattle.gql_text.specs.declared.front.Piece.{Piece}
use Rattle.gql_text.specs.declared.front.Piece.TheVariants.{Closes}
use Rattle.gql_text.proofs.Runs.{chosen}
use Rattle.gql_text.proofs.Fitting.{escape_goes_on}
use Rattle.gql_text.proofs.Cuts.{both_of}
use Rattle.gql_text.proofs.Longest.{no_quote}
use Rattle.gql_text.proofs.Grammars.{run_kind_is, word_part, number_whole}
use Rattle.gql_text.proofs.Readings.{quotes_apart}
use Rattle.gql_text.proofs.Quotes.{three, one, three_value, one_value, no_value}

-- where a run closes
record IsClosing (f : List ℕ → Piece) (s : List ℕ) (n i : ℕ) : Type 0 where
  from : ℕ
  count : ℕ
  closing : f (drop from s) ≡ Closes count
  ends : i ≡ from + count
  behind : n ≤ from

run_closing : (f : List ℕ → Piece) (kind : Kind) (s : List ℕ) {n : ℕ} {bs : List ℕ} {p : Part} → Run f kind n bs p → (k : Kind) (i : ℕ) → p ≡ Taken k i → drop n s ≡ bs → IsClosing f s n i
run_closing f kind s {n} (closes {k = j} {m = m} e l) k i h d = record { from = n; count = j; closing = ap f d ∙ e; ends = (let same : m ≡ i = cc in sym same ∙ l); behind = omega arith }
run_closing f kind s {n} (goes {k = j} e r) k i h d =
    let c = run_closing f kind s r k i h (sym (drop-drop j n s) ∙ ap (λ xs. drop j xs) d) in
    record { from = c.from; count = c.count; closing = c.closing; ends = c.ends; behind = omega (arith, c.behind) }
run_closing f kind s {n} (stops {m = m} e l) k i h d = absurd (cc)

pub string_close : (bs : List ℕ) (k : ℕ) → string_piece bs ≡ Closes k → (rest : List ℕ) × (bs ≡ 34 ∷ rest) × (k ≡ 1)
unfolding string_piece
string_close [] k e = absurd (cc)
string_close (b ∷ bs) k e =
    elim (chosen (is_break b) e) [
      | inl h ↦ absurd (let f = h.1 in cc)
      | inr h ↦ elim (chosen (b == 34) h.1) [
        | inl g ↦ let f = g.1 in (bs, ap (λ x. x ∷ bs) (eqb-true b 34 g.0), cc)
        | inr g ↦ elim (chosen (b == 92) g.1) [
          | inl d ↦ absurd (escape_goes_on k bs d.1)
          | inr d ↦ elim (chosen (is_source_byte b) d.1) [ inl u ↦ absurd (let f = u.1 in cc) | inr u ↦ absurd (let f = u.1 in cc) ]
        ]
      ]
    ]

pub block_close : (bs : List ℕ) (k : ℕ) → block_piece bs ≡ Closes k → (three_quotes bs ≡ true) × (k ≡ 3)
unfolding block_piece
block_close [] k e = absurd (cc)
block_close (b ∷ bs) k e =
    elim (chosen (three_quotes (b ∷ bs)) e) [
      | inl h ↦ let f = h.1 in (h.0, cc)
      | inr h ↦ elim (chosen (b == 92 && three_quotes bs) h.1) [
        | inl g ↦ absurd (let f = g.1 in cc)
        | inr g ↦ elim (chosen (is_break b || is_source_byte b) g.1) [ inl d ↦ absurd (let f = d.1 in cc) | inr d ↦ absurd (let f = d.1 in cc) ]
      ]
    ]

pub one_first : (text : List ℕ) → one_quote text ≡ true → (rest : List ℕ) × (text ≡ 34 ∷ rest)
one_first [] e = absurd (cc)
one_first (a ∷ []) e = ([], ap (λ x. x ∷ []) (eqb-true a 34 e))
one_first (a ∷ b ∷ []) e = (b ∷ [], ap (λ x. x ∷ b ∷ []) (eqb-true a 34 e))
one_first (a ∷ b ∷ c ∷ bs) e = (b ∷ c ∷ bs, ap (λ x. x ∷ b ∷ c ∷ bs) (eqb-true a 34 (both_of (a == 34) (not (b == 34 && c == 34)) e).0))

three_are : (a b c : ℕ) → (a == 34 && b == 34 && c == 34) ≡ true → (a ≡ 34) × (b ≡ 34) × (c ≡ 34)
three_are a b c e =
    let abc = both_of (a == 34 && b == 34) (c == 34) e in
    let ab = both_of (a == 34) (b == 34) abc.0 in
    (eqb-true a 34 ab.0, eqb-true b 34 ab.1, eqb-true c 34 abc.1)

pub three_take : (text : List ℕ) → three_quotes text ≡ true → take 3 text ≡ three
three_take [] e = absurd (cc)
three_take (a ∷ []) e = absurd (cc)
three_take (a ∷ b ∷ []) e = absurd (cc)
three_take (a ∷ b ∷ c ∷ bs) e = let q = three_are a b c e in let x = q.0 in let y = q.1 in let z = q.2 in cc

pub three_alone : (text : List ℕ) → three_quotes text ≡ true → length text ≡ 3 → text ≡ three
three_alone text e h = sym (take_whole text h) ∙ three_take text e
  where
    take_whole : (xs : List ℕ) → length xs ≡ 3 → take 3 xs ≡ xs
    take_whole [] h = refl
    take_whole (a ∷ []) h = refl
    take_whole (a ∷ b ∷ []) h = refl
    take_whole (a ∷ b ∷ c ∷ []) h = refl
    take_whole (a ∷ b ∷ c ∷ d ∷ xs) h = absurd (omega arith)

at_least : (m n : ℕ) → m ≤ n → nat_le m n ≡ true
at_least m n h = grind (arith, nat_tests)

one_within : (text : List ℕ) (back : ℕ) → 2 ≤ length text → take 1 text ≡ one → drop back text ≡ one → length text - 1 ≡ back → is_within one text ≡ true
one_within text back h s e b = rw (at_least 2 (length text) h, s, b, e) refl

three_within : (text : List ℕ) (back : ℕ) → 6 ≤ length text → take 3 text ≡ three → drop back text ≡ three → length text - 3 ≡ back → is_within three text ≡ true
three_within text back h s e b = rw (at_least 6 (length text) h, s, b, e) refl

middle : (x y z : Bool) → y ≡ false → (x && y && z) ≡ false
middle true y z e = rw e refl
middle false y z e = refl

is_three : (text : List ℕ) → three ≡ take 3 text → three_quotes text ≡ true
is_three [] e = absurd (cc)
is_three (a ∷ []) e = absurd (cc)
is_three (a ∷ b ∷ []) e = absurd (cc)
is_three (a ∷ b ∷ c ∷ bs) e =
    let x : a ≡ 34 = cc in let y : b ≡ 34 = cc in let z : c ≡ 34 = cc in
    subst (λ n. (n == 34 && b == 34 && c == 34) ≡ true) (sym x) (subst (λ n. (34 == 34 && n == 34 && c == 34) ≡ true) (sym y) (subst (λ n. (34 == 34 && 34 == 34 && n == 34) ≡ true) (sym z) refl))

tells : (t : Bool) → (t ≡ true) ⊎ (t ≡ false)
tells true = inl refl
tells false = inr refl

-- a text that doesn't begin with three quotes isn't between them
not_three : (text : List ℕ) → (three_quotes text ≡ true → ⊥) → is_within three text ≡ false
not_three text h = elim (tells (starts_with nat_eq text three)) [
  | inl e ↦ absurd (h (is_three text (same_text three (take 3 text) (sym e))))
  | inr e ↦ middle (nat_le 6 (length text)) (starts_with nat_eq text three) (ends_with nat_eq text three) e
]

not_one : (b : ℕ) (bs : List ℕ) → (b == 34) ≡ false → is_within one (b ∷ bs) ≡ false
not_one b bs h = elim (tells (starts_with nat_eq (b ∷ bs) one)) [
  | inl e ↦ absurd (let same = same_text one (take 1 (b ∷ bs)) (sym e) in let x : b ≡ 34 = cc in let t : (b == 34) ≡ true = rw x refl in cc)
  | inr e ↦ middle (nat_le 2 (length (b ∷ bs))) (starts_with nat_eq (b ∷ bs) one) (ends_with nat_eq (b ∷ bs) one) e
]

pub mark_no_text : (b : ℕ) → (mark_kind b ≡ Some StringValue → ⊥) × (mark_kind b ≡ Some BlockString → ⊥)
mark_no_text b = (λ e. grind (arith, nat_tests), λ e. grind (arith, nat_tests))

-- what begins with no quote is no string
pub plain_text : (k : Kind) (b : ℕ) (bs : List ℕ) → Ellipsis ≢ k → ((c : ℕ) → mark_kind c ≡ Some k → ⊥) → Name ≢ k → IntValue ≢ k → FloatValue ≢ k
    → plain_part b bs ≡ Taken k (length (b ∷ bs)) → ⊥
plain_text k b bs no_dots no_mark no_name no_int no_float e = elim (word_part k (length (b ∷ bs)) b bs no_dots no_mark e) [
  | inl h ↦ let f = h.1 in no_name cc
  | inr h ↦ elim h [
    | inl g ↦ let n = number_whole k 1 (length (b ∷ bs)) bs g.1 (omega arith) in elim (n.kinds) [ inl x ↦ no_int x.1 | inr x ↦ no_float x.1 ]
    | inr g ↦ let n = number_whole k 0 (length (b ∷ bs)) (b ∷ bs) g (omega arith) in elim (n.kinds) [ inl x ↦ no_int x.1 | inr x ↦ no_float x.1 ]
  ]
]

pub string_within : {text : List ℕ} {p : Part} → Stands text p → p ≡ Taken StringValue (length text) → text_value text ≡ string_value (between 1 text)
string_within (block_string e r) h = absurd (let f = run_kind_is _ BlockString r StringValue _ h in cc)
string_within (string {text = text} e r) h =
    let c = run_closing string_piece StringValue text r StringValue (length text) h refl in
    let q = string_close (drop c.from text) c.count c.closing in
    let rest : length q.0 ≡ 0 = omega (arith, ap length q.1, length-drop c.from text, c.ends, q.2) in
    let last : drop c.from text ≡ one = q.1 ∙ ap (λ xs. 34 ∷ xs) (nil_from_length q.0 rest) in
    let first = one_first text e in
    sym (one_value text (not_three text (λ t. quotes_apart text t e))
    (one_within text c.from (omega (arith, c.ends, q.2, c.behind)) (ap (λ xs. take 1 xs) first.1) last (omega (arith, c.ends, q.2))))
string_within (plain {b = b} {bs = bs} x y e) h =
    absurd (plain_text StringValue b bs (λ f. cc) (λ c. (mark_no_text c).0) (λ f. cc) (λ f. cc) (λ f. cc) (sym e ∙ h))

pub block_within : {text : List ℕ} {p : Part} → Stands text p → p ≡ Taken BlockString (length text) → text_value text ≡ block_value (between 3 text)
block_within (block_string {text = text} e r) h =
    let c = run_closing block_piece BlockString text r BlockString (length text) h refl in
    let q = block_close (drop c.from text) c.count c.closing in
    let last : drop c.from text ≡ three = three_alone (drop c.from text) q.0 (omega (arith, length-drop c.from text, c.ends, q.1)) in
    sym (three_value text (three_within text c.from (omega (arith, c.ends, q.1, c.behind)) (three_take text e) last (omega (arith, c.ends, q.1))))
block_within (string e r) h = absurd (let f = run_kind_is _ StringValue r BlockString _ h in cc)
block_within (plain {b = b} {bs = bs} x y e) h =
    absurd (plain_text BlockString b bs (λ f. cc) (λ c. (mark_no_text c).1) (λ f. cc) (λ f. cc) (λ f. cc) (sym e ∙ h))

pub other_within : {text : List ℕ} {p : Part} (k : Kind) → k ≢ StringValue → k ≢ BlockString → Stands text p → p ≡ Taken k (length text) → text_value text ≡ text
other_within k w v (block_string e r) h = absurd (v (sym (run_kind_is _ BlockString r k _ h)))
other_within k w v (string e r) h = absurd (w (sym (run_kind_is _ StringValue r k _ h)))
other_within k w v (plain {b = b} {bs = bs} x y e) h =
    sym (no_value (b ∷ bs) (not_three (b ∷ bs) (λ t. cc)) (not_one b bs (no_quote b bs x y)))
