-- What stands at the front, from its first byte.
use Rattle.std.proofs.Common.{◌≡◌, ◌≢◌, ℕ, ◌-◌, List, [], ◌∷◌, length, take, drop, refl, ap, ◌∙◌, arith, Bool, true, false, Some, ◌+◌}
use Rattle.std.specs.Prelude.{◌==◌, ◌&&◌, not}
use Rattle.std.specs.List.{prefix_len}
use Rattle.std.specs.Char.{is_ascii_digit}
use Rattle.std.proofs.lemmas.Bool.{ne_eqb}
use Rattle.std.proofs.lemmas.Bool.Decides.{nat_tests}
use Rattle.std.proofs.lemmas.List.{take_rest}
use Rattle.gql_text.specs.Chars.{is_name_start, is_name_byte, is_blank, three_quotes, one_quote}
use Rattle.gql_text.specs.Pieces.{string_piece, block_piece}
use Rattle.gql_text.specs.Marks.{mark_kind, plain_part}
use Rattle.gql_text.specs.Lexis.{Run, Stands, block_string, string, plain}
use Rattle.gql_text.specs.declared.token.Kind.{Kind}
use Rattle.gql_text.specs.declared.token.Kind.TheVariants.{Name, StringValue, BlockString}
use Rattle.gql_text.specs.declared.front.Part.{Part}
use Rattle.gql_text.specs.declared.front.Part.TheVariants.{Taken}

first_is_quote : (q r : Bool) → (true && q && r) ≡ false → (true && not (q && r)) ≡ true
first_is_quote true true e = absurd (cc)
first_is_quote true false e = refl
first_is_quote false r e = refl

one_from : (rest : List ℕ) → three_quotes (34 ∷ rest) ≡ false → one_quote (34 ∷ rest) ≡ true
one_from [] e = refl
one_from (b ∷ []) e = refl
one_from (b ∷ c ∷ bs) e = first_is_quote (b == 34) (c == 34) e

first_is_other : (p q r : Bool) → p ≡ false → (p && not (q && r)) ≡ false
first_is_other false q r e = refl
first_is_other true q r e = absurd (cc)

pub none_from : (b : ℕ) (rest : List ℕ) → (b == 34) ≡ false → one_quote (b ∷ rest) ≡ false
none_from b [] e = e
none_from b (c ∷ []) e = e
none_from b (c ∷ d ∷ bs) e = first_is_other (b == 34) (c == 34) (d == 34) e

not_three : (p q r : Bool) → p ≡ false → (p && q && r) ≡ false
not_three false q r e = refl
not_three true q r e = absurd (cc)

-- a text that doesn't begin with a quote doesn't begin with three
pub no_three : (b : ℕ) (bs : List ℕ) → (b == 34) ≡ false → three_quotes (b ∷ bs) ≡ false
no_three b [] e = refl
no_three b (c ∷ []) e = refl
no_three b (c ∷ d ∷ bs) e = not_three (b == 34) (c == 34) (d == 34) e

pub stands_block : (xs : List ℕ) (p : Part) → three_quotes xs ≡ true → Run block_piece BlockString 3 (take (length xs - 3) (drop 3 xs)) p → Stands xs p
stands_block xs p e r = block_string e (rw take_rest at r)

pub stands_string : (xs rest : List ℕ) (b : ℕ) (p : Part) → xs ≡ b ∷ rest → b ≡ 34 → three_quotes xs ≡ false → Run string_piece StringValue 1 rest p → Stands xs p
stands_string xs rest b p e q h r =
    let is : xs ≡ 34 ∷ rest = e ∙ ap (λ n. n ∷ rest) q in
    rw is (string (one_from rest (rw is at h)) r)

pub stands_plain : (xs rest : List ℕ) (b : ℕ) (p : Part) → xs ≡ b ∷ rest → b ≢ 34 → p ≡ plain_part b rest → Stands xs p
stands_plain xs rest b p e q r = let n = ne_eqb b 34 q in rw e (plain (no_three b rest n) (none_from b rest n) r)

start_no_blank : (b : ℕ) → is_name_start b ≡ true → is_blank b ≡ false
start_no_blank b e = grind (arith, nat_tests)

start_no_quote : (b : ℕ) → is_name_start b ≡ true → b ≢ 34
start_no_quote b e = grind (arith, nat_tests)

name_front : (b : ℕ) (bs : List ℕ) → is_name_start b ≡ true → Taken Name (1 + prefix_len is_name_byte bs) ≡ plain_part b bs
unfolding plain_part
name_front b bs e = rw (start_no_blank b e, e) refl

pub stands_name : (xs rest : List ℕ) (b : ℕ) → xs ≡ b ∷ rest → is_name_start b ≡ true → Stands xs (Taken Name (1 + prefix_len is_name_byte rest))
stands_name xs rest b k e = stands_plain xs rest b _ k (start_no_quote b e) (name_front b rest e)

mark_no_quote : (b : ℕ) (kind : Kind) → mark_kind b ≡ Some kind → b ≢ 34
mark_no_quote b kind e = grind (arith, nat_tests)

-- what a byte that is a punctuator is not
record IsNoOther (b : ℕ) : Type 0 where
  pub blank : is_blank b ≡ false
  pub start : is_name_start b ≡ false
  pub minus : (b == 45) ≡ false
  pub digit : is_ascii_digit b ≡ false
  pub hash : (b == 35) ≡ false
  pub dot : (b == 46) ≡ false
  pub order : (b == 239) ≡ false

mark_no_other : (b : ℕ) (kind : Kind) → mark_kind b ≡ Some kind → IsNoOther b
mark_no_other b kind e = record {
  blank = grind (arith, nat_tests);
  start = grind (arith, nat_tests);
  minus = grind (arith, nat_tests);
  digit = grind (arith, nat_tests);
  hash = grind (arith, nat_tests);
  dot = grind (arith, nat_tests);
  order = grind (arith, nat_tests);
}

mark_front : (b : ℕ) (bs : List ℕ) (kind : Kind) → mark_kind b ≡ Some kind → Taken kind 1 ≡ plain_part b bs
unfolding plain_part
mark_front b bs kind e = let o = mark_no_other b kind e in rw (o.blank, o.start, o.minus, o.digit, o.hash, o.dot, o.order, e) refl

pub stands_mark : (xs rest : List ℕ) (b : ℕ) (kind : Kind) → xs ≡ b ∷ rest → mark_kind b ≡ Some kind → Stands xs (Taken kind 1)
stands_mark xs rest b kind k e = stands_plain xs rest b _ k (mark_no_quote b kind e) (mark_front b rest kind e)
