-- The words of a literal that a document can write have no marks, and each tells its sort.
use Rattle.std.proofs.Common.{◌≡◌, ◌≢◌, ◌⊎◌, ◌≤◌, inl, inr, ℕ, List, [], ◌∷◌, ◌++◌, Bool, true, false, cond, refl, sym, ap, ◌∙◌, subst, arith, true≢false}
use Rattle.std.specs.Prelude.{codes, nat_lt, bytes_eq, ◌==◌, ◌&&◌, IsTrue}
use Rattle.std.specs.List.{list_all}
use Rattle.std.specs.Char.{is_ascii_digit}
use Rattle.std.proofs.lemmas.Bool.{eqb-true}
use Rattle.std.proofs.lemmas.Bool.Decides.{nat_tests}
use Rattle.std.proofs.lemmas.Slice.Eq.{bytes_eq-Decides}
use Rattle.gql_text.specs.Chars.{is_name_start, is_name_byte}
use Rattle.gql_text.specs.Grammar.{IsName, IsUnsigned, zero_alone, not_zero, IsInteger, IsFraction, IsExponent, IsFloatTail, fraction, exponent, both, IsFloat}
use Rattle.gql_text.specs.Number.{is_exponent_mark}
use Rattle.gql_text.specs.declared.place.Place.{Place}
use Rattle.gql_ast.specs.declared.literal.Literal.{Literal}
use Rattle.gql_ast.specs.declared.literal.Literal.TheVariants as l
use Rattle.gql_merge.specs.Calls.{boolean_text, value_text, text_variable, text_int, text_float, text_boolean, text_null, text_enum}
use Rattle.gql_cases.specs.SameCalls.{whole, with_fraction}
use Rattle.gql_printed.specs.Written.{IsEnumName}
use Rattle.gql_cases.proofs.Words.{is_mark, IsClear, clear_append, a_variable, a_number, a_boolean, a_null, an_enum, sort_of, sort_of_name}
use Rattle.gql_cases.proofs.ReadValues.{IsWord}

-- ---- bytes

is_true : (b : Bool) → IsTrue b → b ≡ true
is_true b h = h

both_true : (a b : Bool) → IsTrue (a && b) → IsTrue a × IsTrue b
both_true true b h = (refl, h)
both_true false b h = absurd (true≢false (sym h))

-- a class that has none of the marks has clear bytes
module _ (P : ℕ → Bool) (none : (P 34 ≡ false) × (P 40 ≡ false) × (P 44 ≡ false) × (P 58 ≡ false) × (P 91 ≡ false) × (P 93 ≡ false) × (P 123 ≡ false) × (P 125 ≡ false)) where
  not_this : (b k : ℕ) → IsTrue (P b) → P k ≡ false → (b == k) ≡ false
  not_this b k h free = by (b == k) refl where
    by : (c : Bool) → (b == k) ≡ c → c ≡ false
    by false is = refl
    by true is = absurd (true≢false (sym (is_true (P b) h) ∙ ap P (eqb-true b k is) ∙ free))

  byte_clear : (b : ℕ) → IsTrue (P b) → is_mark b ≡ false
  byte_clear b h =
      rw (not_this b 34 h none.0, not_this b 40 h none.1, not_this b 44 h none.2, not_this b 58 h none.3, not_this b 91 h none.4, not_this b 93 h none.5, not_this b 123 h none.6, not_this b 125 h none.7) refl

  all_clear : (bs : List ℕ) → IsTrue (list_all P bs) → IsClear bs
  all_clear [] h = tt
  all_clear (b ∷ bs) h =
      let k = both_true (P b) (list_all P bs) h in (byte_clear b k.0, all_clear bs k.1)

name_bytes : (bs : List ℕ) → IsTrue (list_all is_name_byte bs) → IsClear bs
name_bytes bs h = all_clear is_name_byte (refl, refl, refl, refl, refl, refl, refl, refl) bs h

digits_clear : (bs : List ℕ) → IsTrue (list_all is_ascii_digit bs) → IsClear bs
digits_clear bs h = all_clear is_ascii_digit (refl, refl, refl, refl, refl, refl, refl, refl) bs h

start_clear : (b : ℕ) → IsTrue (is_name_start b) → is_mark b ≡ false
start_clear b h = byte_clear is_name_start (refl, refl, refl, refl, refl, refl, refl, refl) b h

exponent_clear : (b : ℕ) → IsTrue (is_exponent_mark b) → is_mark b ≡ false
exponent_clear b h =
    byte_clear is_exponent_mark (refl, refl, refl, refl, refl, refl, refl, refl) b h

-- ---- names

pub name_clear : (n : List ℕ) → IsName n → IsClear n
name_clear n h =
    subst (λ t. IsClear t) (sym h.parts) (start_clear h.first h.starts, name_bytes h.rest h.continues)

-- a byte at which a name starts is no `$`, and comes after the digits
start_high : (b : ℕ) → is_name_start b ≡ true → 65 ≤ b
start_high b h = grind (arith, nat_tests, h)

name_sort : (n : List ℕ) → IsName n → sort_of n ≡ sort_of_name n
name_sort n h =
    subst (λ t. sort_of t ≡ sort_of_name t) (sym h.parts) (by h.first h.rest (start_high h.first (is_true (is_name_start h.first) h.starts)))
  where
    by : (b : ℕ) (bs : List ℕ) → 65 ≤ b → sort_of (b ∷ bs) ≡ sort_of_name (b ∷ bs)
    by b bs high =
        let e : (b == 36) ≡ false = grind (arith, nat_tests, high) in
        let f : nat_lt b 65 ≡ false = grind (arith, nat_tests, high) in
        rw (e, f) refl

differs : (xs ys : List ℕ) → xs ≢ ys → bytes_eq xs ys ≡ false
differs xs ys h = by (bytes_eq xs ys) refl where
  by : (b : Bool) → bytes_eq xs ys ≡ b → b ≡ false
  by false is = refl
  by true is = absurd (h ((bytes_eq-Decides xs ys).0 is))

enum_sort : (n : List ℕ) → IsEnumName n → sort_of n ≡ an_enum
enum_sort n h =
    name_sort n h.is_name
    ∙ by (bytes_eq n (codes "true")) (bytes_eq n (codes "false")) (bytes_eq n (codes "null")) (differs n (codes "true") h.not_true) (differs n (codes "false") h.not_false) (differs n (codes "null") h.not_null)
  where
    by : (a b c : Bool) → a ≡ false → b ≡ false → c ≡ false
        → cond a a_boolean (cond b a_boolean (cond c a_null an_enum)) ≡ an_enum
    by a b c e f g = rw (e, f, g) refl

-- ---- numbers

-- the first byte is `-` or a digit
record StartsNumber (t : List ℕ) : Type 0 where
  first : ℕ
  rest : List ℕ
  parts : t ≡ first ∷ rest
  is : (first ≡ 45) ⊎ IsTrue (is_ascii_digit first)

digit_range : (b : ℕ) → is_ascii_digit b ≡ true → (48 ≤ b) × (b ≤ 57)
digit_range b h = (grind (arith, nat_tests, h), grind (arith, nat_tests, h))

number_sort : (t : List ℕ) → StartsNumber t → sort_of t ≡ a_number
number_sort t h = subst (λ u. sort_of u ≡ a_number) (sym h.parts) (by h.first h.rest h.is)
  where
    by : (b : ℕ) (bs : List ℕ) → (b ≡ 45) ⊎ IsTrue (is_ascii_digit b) → sort_of (b ∷ bs) ≡ a_number
    by b bs (inl e) = subst (λ z. sort_of (z ∷ bs) ≡ a_number) (sym e) refl
    by b bs (inr h) =
        let r = digit_range b (is_true (is_ascii_digit b) h) in
        let low : 48 ≤ b = r.0 in
        let high : b ≤ 57 = r.1 in
        let e : (b == 36) ≡ false = grind (arith, nat_tests, low) in
        let f : nat_lt b 65 ≡ true = grind (arith, nat_tests, high) in
        rw (e, f) refl

unsigned_clear : (t : List ℕ) → IsUnsigned t → IsClear t
unsigned_clear t (zero_alone e) = subst (λ u. IsClear u) (sym e) (refl, tt)
unsigned_clear t (not_zero {rest = rest} {first = first} e other digits) =
    subst (λ u. IsClear u) (sym e) (digits_clear (first ∷ rest) digits)

unsigned_starts : (t : List ℕ) → IsUnsigned t → StartsNumber t
unsigned_starts t (zero_alone e) = record { first = 48; rest = []; parts = e; is = inr refl }
unsigned_starts t (not_zero {rest = rest} {first = first} e other digits) =
    record { first = first; rest = rest; parts = e; is = inr (both_true (is_ascii_digit first) (list_all is_ascii_digit rest) digits).0 }

integer_clear : (t : List ℕ) → IsInteger t → IsClear t
integer_clear t h =
    subst (λ u. IsClear u) (sym h.parts) (clear_append h.sign h.digits (by h.sign h.signed) (unsigned_clear h.digits h.unsigned))
  where
    by : (s : List ℕ) → (s ≡ []) ⊎ (s ≡ 45 ∷ []) → IsClear s
    by s (inl e) = subst (λ u. IsClear u) (sym e) tt
    by s (inr e) = subst (λ u. IsClear u) (sym e) (refl, tt)

integer_starts : (t : List ℕ) → IsInteger t → StartsNumber t
integer_starts t h =
    subst (λ u. StartsNumber u) (sym h.parts) (by h.sign h.digits h.signed (unsigned_starts h.digits h.unsigned))
  where
    by : (s ds : List ℕ) → (s ≡ []) ⊎ (s ≡ 45 ∷ []) → StartsNumber ds → StartsNumber (s ++ ds)
    by s ds (inl e) k = subst (λ u. StartsNumber (u ++ ds)) (sym e) k
    by s ds (inr e) k =
        subst (λ u. StartsNumber (u ++ ds)) (sym e) (record { first = 45; rest = ds; parts = refl; is = inl refl })

fraction_clear : (t : List ℕ) → IsFraction t → IsClear t
fraction_clear t h =
    subst (λ u. IsClear u) (sym h.parts) (refl, digits_clear h.digits h.are_digits.digits)

exponent_part_clear : (t : List ℕ) → IsExponent t → IsClear t
exponent_part_clear t h =
    subst (λ u. IsClear u) (sym h.parts) (exponent_clear h.mark h.marked, clear_append h.sign h.digits (by h.sign h.signed) (digits_clear h.digits h.are_digits.digits))
  where
    by : (s : List ℕ) → (s ≡ []) ⊎ ((s ≡ 43 ∷ []) ⊎ (s ≡ 45 ∷ [])) → IsClear s
    by s (inl e) = subst (λ u. IsClear u) (sym e) tt
    by s (inr (inl e)) = subst (λ u. IsClear u) (sym e) (refl, tt)
    by s (inr (inr e)) = subst (λ u. IsClear u) (sym e) (refl, tt)

tail_clear : (t : List ℕ) → IsFloatTail t → IsClear t
tail_clear t (fraction h) = fraction_clear t h
tail_clear t (exponent h) = exponent_part_clear t h
tail_clear t (both {front = front} {back = back} e f g) =
    subst (λ u. IsClear u) (sym e) (clear_append front back (fraction_clear front f) (exponent_part_clear back g))

float_clear : (t : List ℕ) → IsFloat t → IsClear t
float_clear t h =
    subst (λ u. IsClear u) (sym h.parts) (clear_append h.integer h.tail (integer_clear h.integer h.is_integer) (tail_clear h.tail h.is_tail))

float_starts : (t : List ℕ) → IsFloat t → StartsNumber t
float_starts t h =
    subst (λ u. StartsNumber u) (sym h.parts) (by (integer_starts h.integer h.is_integer))
  where
    by : StartsNumber h.integer → StartsNumber (h.integer ++ h.tail)
    by k = record { first = k.first; rest = k.rest ++ h.tail; parts = ap (λ u. u ++ h.tail) k.parts; is = k.is }

-- ---- words

pub variable_word : {x : Literal} (p : Place) (n : List ℕ) → x ≡ l.Variable p n → IsName n
    → IsWord x
variable_word p n e name = record {
  text = 36 ∷ n;
  sort = a_variable;
  says = (p, n, e, refl);
  sorted = refl;
  clear = (refl, name_clear n name);
  is = ap value_text e ∙ text_variable p n;
}

pub int_word : {x : Literal} (p : Place) (t : List ℕ) → x ≡ l.Int p t → IsInteger t → IsWord x
int_word p t e h = record {
  text = t;
  sort = a_number;
  says = whole p t e;
  sorted = number_sort t (integer_starts t h);
  clear = integer_clear t h;
  is = ap value_text e ∙ text_int p t;
}

pub float_word : {x : Literal} (p : Place) (t : List ℕ) → x ≡ l.Float p t → IsFloat t → IsWord x
float_word p t e h = record {
  text = t;
  sort = a_number;
  says = with_fraction p t e;
  sorted = number_sort t (float_starts t h);
  clear = float_clear t h;
  is = ap value_text e ∙ text_float p t;
}

pub boolean_word : {x : Literal} (p : Place) (b : Bool) → x ≡ l.Boolean p b → IsWord x
boolean_word p b e = record {
  text = boolean_text b;
  sort = a_boolean;
  says = (p, b, e, refl);
  sorted = sorted b;
  clear = clear b;
  is = ap value_text e ∙ text_boolean p b;
} where
  sorted : (b : Bool) → sort_of (boolean_text b) ≡ a_boolean
  sorted true = refl
  sorted false = refl

  clear : (b : Bool) → IsClear (boolean_text b)
  clear true = (refl, (refl, (refl, (refl, tt))))
  clear false = (refl, (refl, (refl, (refl, (refl, tt)))))

pub null_word : {x : Literal} (p : Place) → x ≡ l.Null p → IsWord x
null_word p e = record {
  text = codes "null";
  sort = a_null;
  says = (p, e);
  sorted = refl;
  clear = (refl, (refl, (refl, (refl, tt))));
  is = ap value_text e ∙ text_null p;
}

pub enum_word : {x : Literal} (p : Place) (n : List ℕ) → x ≡ l.Enum p n → IsEnumName n → IsWord x
enum_word p n e h = record {
  text = n;
  sort = an_enum;
  says = (p, e);
  sorted = enum_sort n h;
  clear = name_clear n h.is_name;
  is = ap value_text e ∙ text_enum p n;
}
