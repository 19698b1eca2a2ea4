-- Strings are those of the specification's productions.
use Rattle.std.proofs.Common.{◌≡◌, ℕ, ◌+◌, ◌-◌, List, [], ◌∷◌, ◌++◌, length, take, drop, length-drop, length-append, append_assoc, refl, sym, ap, ap₂, subst, ◌∙◌, arith, Bool, true, false, Option, Some, None, inl, inr, cond}
use Rattle.std.specs.Prelude.{codes, ◌==◌, ◌&&◌, encode_utf8, unwrap_or}
use Rattle.std.specs.List.{list_any, prefix_len}
use Rattle.std.specs.Char.{is_ascii_hexdigit}
use Rattle.std.proofs.lemmas.Bool.{eqb-true}
use Rattle.std.proofs.lemmas.Bool.Decides.{nat_tests}
use Rattle.std.proofs.lemmas.List.{nil_from_length, take-append-drop}
use Rattle.std.proofs.Math.Seq.{drop-append_seam, take-append_seam}
use Rattle.gql_text.specs.Chars.{is_break, is_source_byte, one_quote}
use Rattle.gql_text.specs.Pieces.{four_digits, is_high, is_low, escaped_number, number_piece, digits_piece, escape_piece, string_piece}
use Rattle.gql_text.specs.Values.{letter_value, number_value, escape_value, string_value_behind, string_value, between, text_value}
use Rattle.gql_text.specs.Strings.{IsEscapedCharacter, IsEscapedUnicode, pair_value, IsStringCharacter, source, escaped, unicode, pair, IsStringCharacters, none, more, IsString}
use Rattle.gql_text.specs.Lexis.{Run, closes, goes, stops, Stands, block_string, string, plain}
use Rattle.gql_text.specs.Laws.{IsToken}
use Rattle.gql_text.specs.declared.token.Kind.TheVariants.{StringValue, BlockString}
use Rattle.gql_text.specs.declared.front.Part.{Part}
use Rattle.gql_text.specs.declared.front.Part.TheVariants.{Taken}
use Rattle.gql_text.specs.declared.front.Piece.TheVariants.{Closes, Goes}
use Rattle.gql_text.proofs.Runs.{chosen, short_stops, string_goes}
use Rattle.gql_text.proofs.Cuts.{both_of}
use Rattle.gql_text.proofs.Grammars.{run_kind_is}
use Rattle.gql_text.proofs.Quoted.{string_close, one_first, plain_text, mark_no_text, string_within}

-- ---- what a character is read as, with any bytes after it

piece_source : (b : ℕ) (bs : List ℕ) → is_source_byte b ≡ true → (b == 34) ≡ false → (b == 92) ≡ false → string_piece (b ∷ bs) ≡ Goes 1
unfolding string_piece
piece_source b bs s q e =
    let still : is_break b ≡ false = grind (arith, nat_tests) in
    rw (still, q, e, s) refl

piece_escaped : (b : ℕ) (bs : List ℕ) → IsEscapedCharacter b → string_piece (92 ∷ b ∷ bs) ≡ Goes 2
unfolding string_piece escape_piece
piece_escaped b bs h =
    let still : is_break b ≡ false = grind (arith, nat_tests) in
    rw (still, h) refl

-- four digits are read from the front alone
four_front : (digits bs : List ℕ) (n : ℕ) → IsEscapedUnicode digits n → four_digits (digits ++ bs) ≡ Some n
unfolding four_digits
four_front [] bs n u = absurd (let long = u.long in cc)
four_front (a ∷ []) bs n u = absurd (let long = u.long in cc)
four_front (a ∷ b ∷ []) bs n u = absurd (let long = u.long in cc)
four_front (a ∷ b ∷ c ∷ []) bs n u = absurd (let long = u.long in cc)
four_front (a ∷ b ∷ c ∷ d ∷ []) bs n u = u.writes
four_front (a ∷ b ∷ c ∷ d ∷ e ∷ digits) bs n u = absurd (omega (arith, u.long))

four_behind : (digits bs : List ℕ) (n : ℕ) → IsEscapedUnicode digits n → drop 4 (digits ++ bs) ≡ bs
four_behind [] bs n u = absurd (let long = u.long in cc)
four_behind (a ∷ []) bs n u = absurd (let long = u.long in cc)
four_behind (a ∷ b ∷ []) bs n u = absurd (let long = u.long in cc)
four_behind (a ∷ b ∷ c ∷ []) bs n u = absurd (let long = u.long in cc)
four_behind (a ∷ b ∷ c ∷ d ∷ []) bs n u = refl
four_behind (a ∷ b ∷ c ∷ d ∷ e ∷ digits) bs n u = absurd (omega (arith, u.long))

piece_number : (digits bs : List ℕ) (n : ℕ) → IsEscapedUnicode digits n → string_piece (92 ∷ 117 ∷ (digits ++ bs)) ≡ number_piece n bs
unfolding string_piece escape_piece
piece_number digits bs n u = ap (λ o. digits_piece o (digits ++ bs)) (four_front digits bs n u) ∙ ap (λ xs. number_piece n xs) (four_behind digits bs n u)

piece_unicode : (digits bs : List ℕ) (n : ℕ) → IsEscapedUnicode digits n → is_high n ≡ false → is_low n ≡ false → string_piece (92 ∷ 117 ∷ (digits ++ bs)) ≡ Goes 6
piece_unicode digits bs n u h l = piece_number digits bs n u ∙ (rw (h, l) refl)

escaped_is : (digits bs : List ℕ) (n : ℕ) → IsEscapedUnicode digits n → escaped_number (92 ∷ 117 ∷ (digits ++ bs)) ≡ n
unfolding escaped_number
escaped_is digits bs n u = ap (λ o. unwrap_or o 0) (four_front digits bs n u)

piece_pair : (first second bs : List ℕ) (m n : ℕ) → IsEscapedUnicode first m → IsEscapedUnicode second n → is_high m ≡ true → is_low n ≡ true
    → string_piece (92 ∷ 117 ∷ (first ++ 92 ∷ 117 ∷ (second ++ bs))) ≡ Goes 12
piece_pair first second bs m n u v h l = piece_number first (92 ∷ 117 ∷ (second ++ bs)) m u ∙ (rw (h, escaped_is second bs n v, l) refl)

character_piece : (text value bs : List ℕ) → IsStringCharacter text value → string_piece (text ++ bs) ≡ Goes (length text)
character_piece text value bs (source {b = b} e w s q r) = rw e (piece_source b bs s q r)
character_piece text value bs (escaped {b = b} e w h) = rw e (piece_escaped b bs h)
character_piece text value bs (unicode {digits = digits} {n = n} e w u h l) = rw (e, u.long) (piece_unicode digits bs n u h l)
character_piece text value bs (pair {first = first} {second = second} {m = m} {n = n} e w u v h l) =
    rw (e, length-append first (92 ∷ 117 ∷ second), u.long, v.long, append_assoc first (92 ∷ 117 ∷ second) bs) (piece_pair first second bs m n u v h l)

-- ---- and its value

value_source : (b : ℕ) (bs : List ℕ) → (b == 92) ≡ false → string_value (b ∷ bs) ≡ b ∷ string_value bs
unfolding string_value
value_source b bs e = rw e refl

value_escape : (bs : List ℕ) (k : ℕ) → escape_piece bs ≡ Goes k → string_value (92 ∷ bs) ≡ encode_utf8 (escape_value bs) ++ string_value_behind (k - 1) bs
unfolding string_value
value_escape bs k e = rw e refl

not_u : (b : ℕ) → IsEscapedCharacter b → (b == 117) ≡ false
not_u b h = grind (arith, nat_tests)

escaped_value : (b : ℕ) (bs : List ℕ) → IsEscapedCharacter b → escape_value (b ∷ bs) ≡ letter_value b
unfolding escape_value
escaped_value b bs h = rw (not_u b h) refl

number_is : (digits bs : List ℕ) (n : ℕ) → IsEscapedUnicode digits n → escape_value (117 ∷ (digits ++ bs)) ≡ number_value n bs
unfolding escape_value
number_is digits bs n u = ap₂ (λ o xs. number_value (unwrap_or o 0) xs) (four_front digits bs n u) (four_behind digits bs n u)

-- the escape that a piece of a string is, behind its backslash
escape_of : (bs : List ℕ) (k : ℕ) → string_piece (92 ∷ bs) ≡ Goes k → escape_piece bs ≡ Goes k
unfolding string_piece
escape_of bs k e = e

value_four : (digits bs : List ℕ) (n : ℕ) → IsEscapedUnicode digits n → string_value_behind 5 (117 ∷ (digits ++ bs)) ≡ string_value bs
unfolding string_value
value_four [] bs n u = absurd (let long = u.long in cc)
value_four (a ∷ []) bs n u = absurd (let long = u.long in cc)
value_four (a ∷ b ∷ []) bs n u = absurd (let long = u.long in cc)
value_four (a ∷ b ∷ c ∷ []) bs n u = absurd (let long = u.long in cc)
value_four (a ∷ b ∷ c ∷ d ∷ []) bs n u = refl
value_four (a ∷ b ∷ c ∷ d ∷ e ∷ digits) bs n u = absurd (omega (arith, u.long))

value_eight : (digits bs : List ℕ) (n : ℕ) → IsEscapedUnicode digits n → string_value_behind 11 (117 ∷ (digits ++ bs)) ≡ string_value_behind 6 bs
value_eight [] bs n u = absurd (let long = u.long in cc)
value_eight (a ∷ []) bs n u = absurd (let long = u.long in cc)
value_eight (a ∷ b ∷ []) bs n u = absurd (let long = u.long in cc)
value_eight (a ∷ b ∷ c ∷ []) bs n u = absurd (let long = u.long in cc)
value_eight (a ∷ b ∷ c ∷ d ∷ []) bs n u = refl
value_eight (a ∷ b ∷ c ∷ d ∷ e ∷ digits) bs n u = absurd (omega (arith, u.long))

value_one : (b : ℕ) (bs : List ℕ) → string_value_behind 1 (b ∷ bs) ≡ string_value bs
unfolding string_value
value_one b bs = refl

character_value : (text value bs : List ℕ) → IsStringCharacter text value → string_value (text ++ bs) ≡ value ++ string_value bs
character_value text value bs (source {b = b} e w s q r) = rw (e, w) (value_source b bs r)
character_value text value bs (escaped {b = b} e w h) =
    rw (e, w) (value_escape (b ∷ bs) 2 (escape_of (b ∷ bs) 2 (piece_escaped b bs h)) ∙ ap₂ (λ x y. encode_utf8 x ++ y) (escaped_value b bs h) (value_one b bs))
character_value text value bs (unicode {digits = digits} {n = n} e w u h l) =
    rw (e, w) (value_escape (117 ∷ (digits ++ bs)) 6 (escape_of (117 ∷ (digits ++ bs)) 6 (piece_unicode digits bs n u h l))
    ∙ ap₂ (λ x y. encode_utf8 x ++ y) (number_is digits bs n u ∙ (rw h refl)) (value_four digits bs n u))
character_value text value bs (pair {first = first} {second = second} {m = m} {n = n} e w u v h l) =
    let behind : List ℕ = 92 ∷ 117 ∷ (second ++ bs) in
    let number : number_value m behind ≡ pair_value m n = rw (h, escaped_is second bs n v) refl in
    rw (e, w, append_assoc first (92 ∷ 117 ∷ second) bs) (value_escape (117 ∷ (first ++ behind)) 12 (escape_of (117 ∷ (first ++ behind)) 12 (piece_pair first second bs m n u v h l))
    ∙ ap₂ (λ x y. encode_utf8 x ++ y) (number_is first behind m u ∙ number) (value_eight first behind m u ∙ value_four second bs n v))

-- ---- characters are read piece by piece

closing_piece : (n m : ℕ) → m ≡ n + 1 → Run string_piece StringValue n (34 ∷ []) (Taken StringValue m)
unfolding string_piece
closing_piece n m h = closes refl h

pub characters_read : (text value : List ℕ) (n m : ℕ) → IsStringCharacters text value → m ≡ n + length text + 1 → Run string_piece StringValue n (text ++ 34 ∷ []) (Taken StringValue m)
characters_read text value n m (none e w) h = rw e (closing_piece n m (omega (arith, h, ap length e)))
characters_read text value n m (more {front = front} {rest = rest} {v = v} {w = w} e x c cs) h =
    let next = characters_read rest w (n + length front) m cs (omega (arith, h, ap length e, length-append front rest)) in
    let behind : drop (length front) (front ++ (rest ++ 34 ∷ [])) ≡ rest ++ 34 ∷ [] = drop-append_seam front (rest ++ 34 ∷ []) in
    rw (e, append_assoc front rest (34 ∷ [])) (goes (character_piece front v (rest ++ 34 ∷ []) c) (subst (λ xs. Run string_piece StringValue (n + length front) xs (Taken StringValue m)) (sym behind) next))

pub characters_value : (text value : List ℕ) → IsStringCharacters text value → string_value text ≡ value
unfolding string_value
characters_value text value (none e w) = rw (e, w) refl
characters_value text value (more {front = front} {rest = rest} {v = v} {w = w} e x c cs) =
    rw (e, x) (character_value front v rest c ∙ ap (λ y. v ++ y) (characters_value rest w cs))

-- ---- each piece that is read is a character

pub record IsCharacterOf (text : List ℕ) : Type 0 where
  pub value : List ℕ
  pub character : IsStringCharacter text value

first_four : (bs : List ℕ) (n : ℕ) → four_digits bs ≡ Some n → IsEscapedUnicode (take 4 bs) n
unfolding four_digits
first_four [] n e = absurd (cc)
first_four (a ∷ []) n e = absurd (cc)
first_four (a ∷ b ∷ []) n e = absurd (cc)
first_four (a ∷ b ∷ c ∷ []) n e = absurd (cc)
first_four (a ∷ b ∷ c ∷ d ∷ bs) n e = record { long = refl; writes = e }

low_by : (t : Bool) (b c : ℕ) (bs : List ℕ) (o : Option ℕ) → (b == 92 && c == 117) ≡ t → four_digits bs ≡ o → is_low (cond t (unwrap_or o 0) 0) ≡ true
    → (n : ℕ) × (is_low n ≡ true) × (rest : List ℕ) × (b ∷ c ∷ bs ≡ 92 ∷ 117 ∷ rest) × (four_digits rest ≡ Some n)
low_by true b c bs (Some n) s e h =
    let both = both_of (b == 92) (c == 117) s in
    (n, h, bs, ap₂ (λ x y. x ∷ y ∷ bs) (eqb-true b 92 both.0) (eqb-true c 117 both.1), e)
low_by true b c bs None s e h = absurd (cc)
low_by false b c bs o s e h = absurd (cc)

-- the second half of a pair is an escape by number
low_escape : (bs : List ℕ) → is_low (escaped_number bs) ≡ true → (n : ℕ) × (is_low n ≡ true) × (rest : List ℕ) × (bs ≡ 92 ∷ 117 ∷ rest) × (four_digits rest ≡ Some n)
unfolding escaped_number
low_escape [] e = absurd (cc)
low_escape (b ∷ []) e = absurd (cc)
low_escape (b ∷ c ∷ bs) e = low_by (b == 92 && c == 117) b c bs (four_digits bs) refl refl e

ten_of : (ds rest : List ℕ) → drop 4 ds ≡ 92 ∷ 117 ∷ rest → take 10 ds ≡ take 4 ds ++ 92 ∷ 117 ∷ take 4 rest
ten_of [] rest e = absurd (cc)
ten_of (a ∷ []) rest e = absurd (cc)
ten_of (a ∷ b ∷ []) rest e = absurd (cc)
ten_of (a ∷ b ∷ c ∷ []) rest e = absurd (cc)
ten_of (a ∷ b ∷ c ∷ d ∷ ds) rest e = ap (λ xs. a ∷ b ∷ c ∷ d ∷ take 6 xs) e

number_character : (m k : ℕ) (ds : List ℕ) → four_digits ds ≡ Some m → number_piece m (drop 4 ds) ≡ Goes k → IsCharacterOf (take k (92 ∷ 117 ∷ ds))
number_character m k ds d e = elim (chosen (is_high m) e) [
  | inl h ↦ elim (chosen (is_low (escaped_number (drop 4 ds))) h.1) [
    | inl g ↦
        let same : 12 ≡ k = let f = g.1 in cc in
        let low = low_escape (drop 4 ds) g.0 in
        subst (λ j. IsCharacterOf (take j (92 ∷ 117 ∷ ds))) same (record {
          value = encode_utf8 (pair_value m low.0);
          character = pair {first = take 4 ds} {second = take 4 low.2} (ap (λ xs. 92 ∷ 117 ∷ xs) (ten_of ds low.2 low.3)) refl (first_four ds m d) (first_four low.2 low.0 low.4) h.0 low.1;
        })
    | inr g ↦ absurd (let f = g.1 in cc)
  ]
  | inr h ↦ elim (chosen (is_low m) h.1) [
    | inl g ↦ absurd (let f = g.1 in cc)
    | inr g ↦
        let same : 6 ≡ k = let f = g.1 in cc in
        subst (λ j. IsCharacterOf (take j (92 ∷ 117 ∷ ds))) same (record { value = encode_utf8 m; character = unicode refl refl (first_four ds m d) h.0 g.0 })
  ]
]

digits_character : (o : Option ℕ) (k : ℕ) (ds : List ℕ) → four_digits ds ≡ o → digits_piece o ds ≡ Goes k → IsCharacterOf (take k (92 ∷ 117 ∷ ds))
digits_character (Some m) k ds d e = number_character m k ds d e
digits_character None k ds d e = absurd (short_stops k (drop (prefix_len is_ascii_hexdigit ds) ds) e)

escape_character : (k : ℕ) (bs : List ℕ) → escape_piece bs ≡ Goes k → IsCharacterOf (take k (92 ∷ bs))
unfolding escape_piece
escape_character k [] e = absurd (cc)
escape_character k (b ∷ bs) e = elim (chosen (is_break b) e) [
  | inl h ↦ absurd (let f = h.1 in cc)
  | inr h ↦ elim (chosen (list_any (λ c. c == b) (codes "\"\\/bfnrt")) h.1) [
    | inl g ↦
        let same : 2 ≡ k = let f = g.1 in cc in
        subst (λ j. IsCharacterOf (take j (92 ∷ b ∷ bs))) same (record { value = encode_utf8 (letter_value b); character = escaped refl refl g.0 })
    | inr g ↦ elim (chosen (b == 117) g.1) [
      | inl d ↦ subst (λ x. IsCharacterOf (take k (92 ∷ x ∷ bs))) (sym (eqb-true b 117 d.0)) (digits_character (four_digits bs) k bs refl d.1)
      | inr d ↦ absurd (let f = d.1 in cc)
    ]
  ]
]

piece_character : (bs : List ℕ) (k : ℕ) → string_piece bs ≡ Goes k → IsCharacterOf (take k bs)
unfolding string_piece
piece_character [] k e = absurd (cc)
piece_character (b ∷ bs) k e = elim (chosen (is_break b) e) [
  | inl h ↦ absurd (let f = h.1 in cc)
  | inr h ↦ elim (chosen (b == 34) h.1) [
    | inl g ↦ absurd (let f = g.1 in cc)
    | inr g ↦ elim (chosen (b == 92) g.1) [
      | inl d ↦ subst (λ x. IsCharacterOf (take k (x ∷ bs))) (sym (eqb-true b 92 d.0)) (escape_character k bs d.1)
      | inr d ↦ elim (chosen (is_source_byte b) d.1) [
        | inl u ↦
            let same : 1 ≡ k = let f = u.1 in cc in
            subst (λ j. IsCharacterOf (take j (b ∷ bs))) same (record { value = b ∷ []; character = source refl refl u.0 g.0 d.0 })
        | inr u ↦ absurd (let f = u.1 in cc)
      ]
    ]
  ]
]

-- characters up to the quote that closes them
pub record IsClosed (bs : List ℕ) : Type 0 where
  pub inner : List ℕ
  pub value : List ℕ
  pub parts : bs ≡ inner ++ 34 ∷ []
  pub characters : IsStringCharacters inner value

closed_here : (bs : List ℕ) (k : ℕ) → string_piece bs ≡ Closes k → length bs ≡ k → IsClosed bs
closed_here bs k e h =
    let q = string_close bs k e in
    let rest : q.0 ≡ [] = nil_from_length q.0 (omega (arith, ap length q.1, q.2, h)) in
    record { inner = []; value = []; parts = q.1 ∙ ap (λ xs. 34 ∷ xs) rest; characters = none refl refl }

closed_after : (bs : List ℕ) (k : ℕ) → string_piece bs ≡ Goes k → IsClosed (drop k bs) → IsClosed bs
closed_after bs k e c =
    let here = piece_character bs k e in
    record {
      inner = take k bs ++ c.inner;
      value = here.value ++ c.value;
      parts = sym (take-append-drop k bs) ∙ ap (λ xs. take k bs ++ xs) c.parts ∙ sym (append_assoc (take k bs) c.inner (34 ∷ []));
      characters = more refl refl here.character c.characters;
    }

string_read : {n : ℕ} {bs : List ℕ} {p : Part} → Run string_piece StringValue n bs p → (i : ℕ) → p ≡ Taken StringValue i → i ≡ n + length bs → IsClosed bs
string_read {n} {bs} (closes {k = j} {m = m} e l) i h w = let same : m ≡ i = cc in closed_here bs j e (omega (arith, same, l, w))
string_read {n} {bs} (goes {k = j} e r) i h w =
    let step = string_goes bs j e in
    closed_after bs j e (string_read r i h (omega (arith, w, length-drop j bs, step.within)))
string_read (stops e l) i h w = absurd (cc)

-- ---- a token is a string

between_quotes : (inner : List ℕ) → between 1 (34 ∷ (inner ++ 34 ∷ [])) ≡ inner
between_quotes inner =
    ap (λ n. take n (inner ++ 34 ∷ [])) (omega (arith, length-append inner (34 ∷ []))) ∙ take-append_seam inner (34 ∷ [])

token_closed : {text : List ℕ} {p : Part} → Stands text p → p ≡ Taken StringValue (length text) → (rest : List ℕ) × (text ≡ 34 ∷ rest) × IsClosed rest
token_closed (block_string e r) h = absurd (let f = run_kind_is _ BlockString r StringValue _ h in cc)
token_closed (string {text = text} e r) h =
    let first = one_first text e in
    let behind : drop 1 text ≡ first.0 = ap (λ xs. drop 1 xs) first.1 in
    (first.0, first.1, subst IsClosed behind (string_read r (length text) h (omega (arith, ap length first.1, ap length behind))))
token_closed (plain {b = b} {bs = bs} x y e) h =
    absurd (plain_text StringValue b bs (λ f. cc) (λ c. (mark_no_text c).0) (λ f. cc) (λ f. cc) (λ f. cc) (sym e ∙ h))

pub token_string : (text value : List ℕ) → IsToken StringValue text → text_value text ≡ value → IsString text value
token_string text value t e =
    let closed = token_closed t refl in
    let parts : text ≡ 34 ∷ (closed.2.inner ++ 34 ∷ []) = closed.1 ∙ ap (λ xs. 34 ∷ xs) closed.2.parts in
    let told : text_value text ≡ closed.2.value = string_within t refl ∙ ap (λ xs. string_value (between 1 xs)) parts ∙ ap string_value (between_quotes closed.2.inner) ∙ characters_value closed.2.inner closed.2.value closed.2.characters in
    record { inner = closed.2.inner; parts = parts; characters = subst (λ v. IsStringCharacters closed.2.inner v) (sym told ∙ e) closed.2.characters }

-- ---- a string is a token

not_quote : (b : ℕ) (bs : List ℕ) → (b == 34) ≡ false → one_quote (34 ∷ b ∷ bs) ≡ true
not_quote b [] e = refl
not_quote b (c ∷ bs) e = rw e refl

one_begins : (inner value : List ℕ) → IsStringCharacters inner value → one_quote (34 ∷ (inner ++ 34 ∷ [])) ≡ true
one_begins inner value (none e w) = rw e refl
one_begins inner value (more {front = front} {rest = rest} e x (source {b = b} f v s q r) cs) = rw (e, f) (not_quote b (rest ++ 34 ∷ []) q)
one_begins inner value (more {front = front} {rest = rest} e x (escaped {b = b} f v h) cs) = rw (e, f) (not_quote 92 (b ∷ (rest ++ 34 ∷ [])) refl)
one_begins inner value (more {front = front} {rest = rest} e x (unicode {digits = digits} f v u h l) cs) = rw (e, f) (not_quote 92 (117 ∷ ((digits ++ rest) ++ 34 ∷ [])) refl)
one_begins inner value (more {front = front} {rest = rest} e x (pair {first = first} {second = second} f v u w h l) cs) =
    rw (e, f) (not_quote 92 (117 ∷ (((first ++ 92 ∷ 117 ∷ second) ++ rest) ++ 34 ∷ [])) refl)

pub string_token : (text value : List ℕ) → IsString text value → IsToken StringValue text
string_token text value s =
    let run = characters_read s.inner value 1 (length text) s.characters (omega (arith, ap length s.parts, length-append s.inner (34 ∷ []))) in
    let here : Stands (34 ∷ (s.inner ++ 34 ∷ [])) (Taken StringValue (length text)) = string (one_begins s.inner value s.characters) run in
    subst (λ xs. Stands xs (Taken StringValue (length text))) (sym s.parts) here

pub string_text : (text value : List ℕ) → IsString text value → text_value text ≡ value
string_text text value s =
    string_within (string_token text value s) refl ∙ ap (λ xs. string_value (between 1 xs)) s.parts ∙ ap string_value (between_quotes s.inner) ∙ characters_value s.inner value s.characters
