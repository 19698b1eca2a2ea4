-- Block strings are those of the specification's productions.
use Rattle.std.proofs.Common.{◌≡◌, ℕ, ◌+◌, List, [], ◌∷◌, ◌++◌, length, take, drop, length-drop, length-append, refl, sym, ap, subst, ◌∙◌, arith, Bool, true, false, inl, inr}
use Rattle.std.specs.Prelude.{◌==◌, ◌&&◌, ◌||◌}
use Rattle.std.proofs.lemmas.Bool.{eqb-true}
use Rattle.std.proofs.lemmas.List.{take-append-drop}
use Rattle.std.proofs.Math.Seq.{take-append_seam}
use Rattle.gql_text.specs.Chars.{is_break, is_source_byte, three_quotes}
use Rattle.gql_text.specs.Pieces.{block_piece}
use Rattle.gql_text.specs.Values.{raw_value, block_value, between, text_value}
use Rattle.gql_text.specs.Strings.{IsBlock, closing, escaped_quotes, character, IsBlockString, block_string_value}
use Rattle.gql_text.specs.Lexis.{Run, closes, goes, stops, Stands, block_string, string, plain}
use Rattle.gql_text.specs.Laws.{IsToken}
use Rattle.gql_text.specs.declared.token.Kind.TheVariants.{StringValue, BlockString}
use Rattle.gql_text.specs.declared.front.Part.{Part}
use Rattle.gql_text.specs.declared.front.Part.TheVariants.{Taken}
use Rattle.gql_text.specs.declared.front.Piece.TheVariants.{Goes}
use Rattle.gql_text.proofs.Runs.{chosen, block_goes}
use Rattle.gql_text.proofs.Cuts.{both_of}
use Rattle.gql_text.proofs.Grammars.{run_kind_is}
use Rattle.gql_text.proofs.Quotes.{three}
use Rattle.gql_text.proofs.Quoted.{block_close, plain_text, mark_no_text, block_within, three_alone, three_take}

-- ---- what a block is read as

not_both : (a b : Bool) → (a ≡ true → b ≡ false) → (a && b) ≡ false
not_both true b h = h refl
not_both false b h = refl

closing_piece : (n m : ℕ) → m ≡ n + 3 → Run block_piece BlockString n (34 ∷ 34 ∷ 34 ∷ []) (Taken BlockString m)
unfolding block_piece
closing_piece n m h = closes refl h

pub block_read : (n m : ℕ) (text raw : List ℕ) → IsBlock text raw → m ≡ n + length text → Run block_piece BlockString n text (Taken BlockString m)
unfolding block_piece
block_read n m text raw (closing e w) h = rw e (closing_piece n m (omega (arith, h, ap length e)))
block_read n m text raw (escaped_quotes {rest = rest} {w = v} e w b) h = rw e (goes {k = 4} refl (block_read (n + 4) m rest v b (omega (arith, h, ap length e))))
block_read n m text raw (character {rest = rest} {w = v} {b = x} e w is unquoted quotes b) h =
    let three : three_quotes (x ∷ rest) ≡ false = ap three_quotes (sym e) ∙ unquoted in
    let slash : (x == 92 && three_quotes rest) ≡ false = not_both (x == 92) (three_quotes rest) (λ t. quotes (eqb-true x 92 t)) in
    let piece : block_piece (x ∷ rest) ≡ Goes 1 = rw (three, slash, is) refl in
    rw e (goes {k = 1} piece (block_read (n + 1) m rest v b (omega (arith, h, ap length e))))

-- ---- and its value

three_front : (xs ys : List ℕ) → three_quotes xs ≡ true → three_quotes (xs ++ ys) ≡ true
three_front [] ys e = absurd (cc)
three_front (a ∷ []) ys e = absurd (cc)
three_front (a ∷ b ∷ []) ys e = absurd (cc)
three_front (a ∷ b ∷ c ∷ xs) ys e = e

none_before : (t : Bool) (xs ys : List ℕ) → three_quotes xs ≡ t → three_quotes (xs ++ ys) ≡ false → t ≡ false
none_before true xs ys e h = absurd (let f = three_front xs ys e in cc)
none_before false xs ys e h = refl

-- what stands before the quotes that close a block
pub record IsInner (text raw : List ℕ) : Type 0 where
  pub inner : List ℕ
  pub parts : text ≡ inner ++ three
  pub value : raw_value inner ≡ raw

raw_next : (b : ℕ) (bs raw : List ℕ) → (b == 92 && three_quotes bs) ≡ false → raw_value bs ≡ raw → raw_value (b ∷ bs) ≡ b ∷ raw
unfolding raw_value
raw_next b bs raw e h = rw e (ap (λ xs. b ∷ xs) h)

raw_quotes : (bs raw : List ℕ) → raw_value bs ≡ raw → raw_value (92 ∷ 34 ∷ 34 ∷ 34 ∷ bs) ≡ 34 ∷ 34 ∷ 34 ∷ raw
unfolding raw_value
raw_quotes bs raw h = ap (λ xs. 34 ∷ 34 ∷ 34 ∷ xs) h

raw_none : raw_value [] ≡ []
unfolding raw_value
raw_none = refl

pub block_inner : (text raw : List ℕ) → IsBlock text raw → IsInner text raw
block_inner text raw (closing e w) = record { inner = []; parts = e; value = raw_none ∙ sym w }
block_inner text raw (escaped_quotes {rest = rest} {w = v} e w b) =
    let i = block_inner rest v b in
    record { inner = 92 ∷ 34 ∷ 34 ∷ 34 ∷ i.inner; parts = e ∙ ap (λ xs. 92 ∷ 34 ∷ 34 ∷ 34 ∷ xs) i.parts; value = raw_quotes i.inner v i.value ∙ sym w }
block_inner text raw (character {rest = rest} {w = v} {b = x} e w is unquoted quotes b) =
    let i = block_inner rest v b in
    let slash : (x == 92 && three_quotes i.inner) ≡ false = not_both (x == 92) (three_quotes i.inner) (λ t. none_before (three_quotes i.inner) i.inner three refl (ap three_quotes (sym i.parts) ∙ quotes (eqb-true x 92 t))) in
    record { inner = x ∷ i.inner; parts = e ∙ ap (λ xs. x ∷ xs) i.parts; value = raw_next x i.inner v slash i.value ∙ sym w }

-- ---- each block that is read is one

pub record IsBlockOf (text : List ℕ) : Type 0 where
  pub raw : List ℕ
  pub block : IsBlock text raw

three_rest : (bs : List ℕ) → three_quotes bs ≡ true → bs ≡ 34 ∷ 34 ∷ 34 ∷ drop 3 bs
three_rest bs e = sym (take-append-drop 3 bs) ∙ ap (λ xs. xs ++ drop 3 bs) (three_take bs e)

block_step : (b : ℕ) (bs : List ℕ) (k : ℕ) → block_piece (b ∷ bs) ≡ Goes k → IsBlockOf (drop k (b ∷ bs)) → IsBlockOf (b ∷ bs)
unfolding block_piece
block_step b bs k e c = elim (chosen (three_quotes (b ∷ bs)) e) [
  | inl h ↦ absurd (let f = h.1 in cc)
  | inr h ↦ elim (chosen (b == 92 && three_quotes bs) h.1) [
    | inl g ↦
        let four : k ≡ 4 = let f = g.1 in cc in
        let both = both_of (b == 92) (three_quotes bs) g.0 in
        let rest : IsBlockOf (drop 3 bs) = subst (λ j. IsBlockOf (drop j (b ∷ bs))) four c in
        record { raw = 34 ∷ 34 ∷ 34 ∷ rest.raw; block = escaped_quotes (ap (λ x. x ∷ bs) (eqb-true b 92 both.0) ∙ ap (λ xs. 92 ∷ xs) (three_rest bs both.1)) refl rest.block }
    | inr g ↦ elim (chosen (is_break b || is_source_byte b) g.1) [
      | inl d ↦
          let one : k ≡ 1 = let f = d.1 in cc in
          let rest : IsBlockOf bs = subst (λ j. IsBlockOf (drop j (b ∷ bs))) one c in
          record { raw = b ∷ rest.raw; block = character refl refl d.0 h.0 (λ same. slash b (three_quotes bs) same g.0) rest.block }
      | inr d ↦ absurd (let f = d.1 in cc)
    ]
  ]
]
  where
    slash : (x : ℕ) (t : Bool) → x ≡ 92 → (x == 92 && t) ≡ false → t ≡ false
    slash x t same e = subst (λ y. (y == 92 && t) ≡ false) same e

block_goes_on : (bs : List ℕ) (k : ℕ) → block_piece bs ≡ Goes k → IsBlockOf (drop k bs) → IsBlockOf bs
unfolding block_piece
block_goes_on [] k e c = absurd (cc)
block_goes_on (b ∷ bs) k e c = block_step b bs k e c

read_block : {n : ℕ} {bs : List ℕ} {p : Part} → Run block_piece BlockString n bs p → (i : ℕ) → p ≡ Taken BlockString i → i ≡ n + length bs → IsBlockOf bs
read_block {n} {bs} (closes {k = j} {m = m} e l) i h w =
    let q = block_close bs j e in
    let same : m ≡ i = cc in
    record { raw = []; block = closing (three_alone bs q.0 (omega (arith, same, l, w, q.1))) refl }
read_block {n} {bs} (goes {k = j} e r) i h w =
    let step = block_goes bs j e in
    block_goes_on bs j e (read_block r i h (omega (arith, w, length-drop j bs, step.within)))
read_block (stops e l) i h w = absurd (cc)

-- ---- a token is a block string

between_three : (inner : List ℕ) → between 3 (34 ∷ 34 ∷ 34 ∷ (inner ++ three)) ≡ inner
between_three inner = ap (λ n. take n (inner ++ three)) (omega (arith, length-append inner three)) ∙ take-append_seam inner three

token_closed : {text : List ℕ} {p : Part} → Stands text p → p ≡ Taken BlockString (length text) → (text ≡ 34 ∷ 34 ∷ 34 ∷ drop 3 text) × IsBlockOf (drop 3 text)
token_closed (block_string {text = text} e r) h =
    let parts = three_rest text e in
    (parts, read_block r (length text) h (omega (arith, ap length parts)))
token_closed (string e r) h = absurd (let f = run_kind_is _ StringValue r BlockString _ h in cc)
token_closed (plain {b = b} {bs = bs} x y e) h =
    absurd (plain_text BlockString b bs (λ f. cc) (λ c. (mark_no_text c).1) (λ f. cc) (λ f. cc) (λ f. cc) (sym e ∙ h))

block_is : (bs : List ℕ) → block_value bs ≡ block_string_value (raw_value bs)
unfolding block_value
block_is bs = refl

value_is : (text rest raw : List ℕ) → IsToken BlockString text → text ≡ 34 ∷ 34 ∷ 34 ∷ rest → IsBlock rest raw → text_value text ≡ block_string_value raw
value_is text rest raw t parts b =
    let i = block_inner rest raw b in
    block_within t refl ∙ ap (λ xs. block_value (between 3 xs)) (parts ∙ ap (λ xs. 34 ∷ 34 ∷ 34 ∷ xs) i.parts) ∙ ap block_value (between_three i.inner) ∙ block_is i.inner ∙ ap block_string_value i.value

pub token_block : (text value : List ℕ) → IsToken BlockString text → text_value text ≡ value → IsBlockString text value
token_block text value t e =
    let c = token_closed t refl in
    record { rest = drop 3 text; raw = c.1.raw; parts = c.0; block = c.1.block; computed = sym e ∙ value_is text (drop 3 text) c.1.raw t c.0 c.1.block }

pub block_token : (text value : List ℕ) → IsBlockString text value → IsToken BlockString text
block_token text value s =
    let run = block_read 3 (length text) s.rest s.raw s.block (omega (arith, ap length s.parts)) in
    let here : Stands (34 ∷ 34 ∷ 34 ∷ s.rest) (Taken BlockString (length text)) = block_string refl run in
    subst (λ xs. Stands xs (Taken BlockString (length text))) (sym s.parts) here

pub block_text : (text value : List ℕ) → IsBlockString text value → text_value text ≡ value
block_text text value s = value_is text s.rest s.raw (block_token text value s) s.parts s.block ∙ sym s.computed
