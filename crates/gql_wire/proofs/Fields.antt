-- The body length and the item `close`, one field after another.
use Rattle.std.proofs.Common.{◌≡◌, ℕ, ◌+◌, ◌<◌, ◌≤◌, List, [], ◌∷◌, length, take, drop, Option, Some, None, refl, ap, ◌∙◌, arith, true, false, inl, inr, one-add, add-one, map, get_or}
use Rattle.std.proofs.lemmas.List.{drop_more}
use Rattle.std.specs.Str.{str_eq_ignore_ascii_case}
use Rattle.httparse.specs.Spans.{span_bytes, header_bytes}
use Rattle.httparse.specs.declared.spans.HeaderSpan.{HeaderSpan}
use Rattle.std.specs.Prelude.{if◌then◌else◌, ◌||◌, ◌&&◌, ◌==◌}
use Rattle.std.specs.List.{list_any, prefix_len}
use Rattle.gql_wire.proofs.Streams.{true_or_false}
use Rattle.gql_wire.specs.Held.{next_length}
use Rattle.gql_wire.specs.Number.{is_number, number_from}
use Rattle.gql_wire.specs.Head.{values_of, content_length, all_are, is_item_byte, items_of, is_close, names_close}

-- the body length after these values, where earlier values gave this one
abbrev pub length_after : Option ℕ → List (List ℕ) → Option ℕ
length_after None values = content_length values
length_after (Some n) values = if all_are n values then Some n else None

-- after a value that is not a number, or a different one, there is no length
pub length_stops : (earlier : Option ℕ) (v : List ℕ) (vs : List (List ℕ)) → next_length earlier v ≡ None → length_after earlier (v ∷ vs) ≡ None
length_stops None v vs e = elim (true_or_false (is_number v)) [
  | inl t ↦ let k = rw t at e in absurd (cc)
  | inr f ↦ rw f refl
]
length_stops (Some n) v vs e = elim (true_or_false (is_number v && number_from 0 v == n)) [
  | inl t ↦ let k = rw t at e in absurd (cc)
  | inr f ↦ rw f refl
]

-- after any other value, the values that follow have to be the same number
pub length_goes : (earlier : Option ℕ) (v : List ℕ) (vs : List (List ℕ)) (n : ℕ) → next_length earlier v ≡ Some n → length_after earlier (v ∷ vs) ≡ length_after (Some n) vs
length_goes None v vs n e = elim (true_or_false (is_number v)) [
  | inl t ↦ let k : number_from 0 v ≡ n = (let j = rw t at e in cc) in rw (t, k) refl
  | inr f ↦ let k = rw f at e in absurd (cc)
]
length_goes (Some m) v vs n e = elim (true_or_false (is_number v && number_from 0 v == m)) [
  | inl t ↦ let k : m ≡ n = (let j = rw t at e in cc) in rw t (ap (λ (z : ℕ). if all_are z vs then Some z else None) k)
  | inr f ↦ let k = rw f at e in absurd (cc)
]

-- the first item ends at the first comma
pub items_comma : (bs : List ℕ) (n : ℕ) → n ≡ prefix_len is_item_byte bs → n < length bs → items_of bs ≡ take n bs ∷ items_of (drop (n + 1) bs)
items_comma [] n e h = absurd (omega arith)
items_comma (b ∷ bs) n e h = elim (true_or_false (is_item_byte b)) [
  | inl t ↦ let m : n ≡ 1 + prefix_len is_item_byte bs = e ∙ (rw t) in
      let less : prefix_len is_item_byte bs < length bs = omega arith in
      let had = rw add-one at (items_comma bs (prefix_len is_item_byte bs) refl less) in
      rw (t, m, one-add, add-one, had) refl
  | inr f ↦ let m : n ≡ 0 = e ∙ (rw f) in rw (f, m) refl
]

-- without a comma the list is one item
pub items_one : (bs : List ℕ) → length bs ≤ prefix_len is_item_byte bs → items_of bs ≡ bs ∷ []
items_one [] h = refl
items_one (b ∷ bs) h = elim (true_or_false (is_item_byte b)) [
  | inl t ↦ let k = rw t at h in rw (t, items_one bs (omega arith)) refl
  | inr f ↦ let k = rw f at h in absurd (omega arith)
]

-- `close` is the first item of the list, or one of the others
pub close_first : (bs : List ℕ) (n : ℕ) → n ≡ prefix_len is_item_byte bs → n < length bs → names_close bs ≡ (is_close (take n bs) || names_close (drop (n + 1) bs))
close_first bs n e h = ap (λ (items : List (List ℕ)). list_any is_close items) (items_comma bs n e h)

pub close_one : (bs : List ℕ) → length bs ≤ prefix_len is_item_byte bs → names_close bs ≡ (is_close bs || false)
close_one bs h = ap (λ (items : List (List ℕ)). list_any is_close items) (items_one bs h)

-- a default, for reading past the end
abbrev pub no_span : HeaderSpan
no_span = record { name = record { start = 0; end = 0 }; value = record { start = 0; end = 0 } }

-- the field at a place, and those after it
pub field_stops : (head name : List ℕ) (fields : List HeaderSpan) (i : ℕ) (earlier : Option ℕ) → i < length fields
    → str_eq_ignore_ascii_case (span_bytes head (get_or fields i no_span).name) name ≡ true → next_length earlier (span_bytes head (get_or fields i no_span).value) ≡ None
    → length_after earlier (values_of name (map (header_bytes head) (drop i fields))) ≡ None
field_stops head name fields i earlier h t e = rw (drop_more fields i no_span h) (rw t (length_stops earlier _ _ e))

pub field_goes : (head name : List ℕ) (fields : List HeaderSpan) (i : ℕ) (earlier : Option ℕ) (n : ℕ) → i < length fields
    → str_eq_ignore_ascii_case (span_bytes head (get_or fields i no_span).name) name ≡ true → next_length earlier (span_bytes head (get_or fields i no_span).value) ≡ Some n
    → length_after earlier (values_of name (map (header_bytes head) (drop i fields))) ≡ length_after (Some n) (values_of name (map (header_bytes head) (drop (i + 1) fields)))
field_goes head name fields i earlier n h t e = rw (drop_more fields i no_span h) (rw t (length_goes earlier _ _ n e))

pub field_skips : (head name : List ℕ) (fields : List HeaderSpan) (i : ℕ) → i < length fields
    → str_eq_ignore_ascii_case (span_bytes head (get_or fields i no_span).name) name ≡ false
    → values_of name (map (header_bytes head) (drop i fields)) ≡ values_of name (map (header_bytes head) (drop (i + 1) fields))
field_skips head name fields i h f = rw (drop_more fields i no_span h) (rw f refl)
