-- Blanks between tokens: each is dropped by itself.
use Rattle.std.proofs.Common.{◌≡◌, ℕ, zero, suc, ◌+◌, ◌<◌, ◌≤◌, List, ◌∷◌, length, get_or, take, drop, drop-cons, length-drop, refl, arith, true, false}
use Rattle.std.specs.Prelude.{◌==◌}
use Rattle.std.specs.List.{prefix_len}
use Rattle.std.specs.Str.{IsUtf8, IsCharBoundary}
use Rattle.std.proofs.lemmas.Bool.Decides.{nat_tests}
use Rattle.std.proofs.lemmas.List.{get_or-drop}
use Rattle.std.proofs.lemmas.List.Sums.{prefix_len-le-length, prefix_len_passes}
use Rattle.gql_text.specs.Chars.{is_blank}
use Rattle.gql_text.specs.Marks.{plain_part}
use Rattle.gql_text.specs.Lexeme.{Lexeme}
use Rattle.gql_text.specs.Lexis.{Stands, plain, Tokens, Faulty}
use Rattle.gql_text.specs.Place.{place_after}
use Rattle.gql_text.specs.declared.place.Place.{Place}
use Rattle.gql_text.specs.declared.token.LexRefusal.{LexRefusal}
use Rattle.gql_text.specs.declared.front.Part.TheVariants.{Dropped}
use Rattle.gql_text.proofs.Fronts.{none_from, no_three}
use Rattle.gql_text.proofs.Cuts.{cut_behind}
use Rattle.gql_text.proofs.Plain.{run_within}
use Rattle.gql_text.proofs.Steps.{tokens_dropped, faulty_dropped}

not_quote : (b : ℕ) → is_blank b ≡ true → (b == 34) ≡ false
not_quote b e = grind (arith, nat_tests)

blank_part : (b : ℕ) (bs : List ℕ) → is_blank b ≡ true → Dropped 1 ≡ plain_part b bs
unfolding plain_part
blank_part b bs e = rw e refl

blank_stands : (b : ℕ) (bs : List ℕ) → is_blank b ≡ true → Stands (b ∷ bs) (Dropped 1)
blank_stands b bs e = plain (no_three b bs (not_quote b e)) (none_from b bs (not_quote b e)) (blank_part b bs e)

-- the n bytes from o on are blanks
record BlankAt (s : List ℕ) (o n : ℕ) : Type 0 where
  pub within : o + n ≤ length s
  pub each : (i : ℕ) → i < n → is_blank (get_or s (o + i) 0) ≡ true

blank_at : (s : List ℕ) (o : ℕ) → o ≤ length s → BlankAt s o (prefix_len is_blank (drop o s))
blank_at s o h = record {
  within = omega (arith, prefix_len-le-length is_blank (drop o s), length-drop o s);
  each = λ i less. rw (← get_or-drop o s i 0) (prefix_len_passes is_blank (drop o s) i 0 less);
}

first_stands : (s : List ℕ) (o n : ℕ) → BlankAt s o (suc n) → Stands (drop o s) (Dropped 1)
first_stands s o n h =
    let less : o < length s = omega (arith, h.within) in
    let at : o + 0 ≡ o = omega arith in
    let blank = rw at at (h.each 0 (omega arith)) in
    rw (drop-cons s o 0 less) (blank_stands (get_or s o 0) (drop (suc o) s) blank)

others_blank : (s : List ℕ) (o n : ℕ) → BlankAt s o (suc n) → BlankAt s (o + 1) n
others_blank s o n h = record {
  within = omega (arith, h.within);
  each = λ i less. let at : o + 1 + i ≡ o + suc i = omega arith in rw at (h.each (suc i) (omega arith));
}

-- what follows n blanks follows from their start on
tokens_over : (s : List ℕ) (o n : ℕ) (ts : List Lexeme) → BlankAt s o n → Tokens (take (o + n) s) (drop (o + n) s) ts → Tokens (take o s) (drop o s) ts
tokens_over s o zero ts h r = let e : o + 0 ≡ o = omega arith in rw e at r
tokens_over s o (suc n) ts h r =
    let e : o + suc n ≡ o + 1 + n = omega arith in
    tokens_dropped s o 1 ts (first_stands s o n h) (tokens_over s (o + 1) n ts (others_blank s o n h) (rw e at r))

faulty_over : (s : List ℕ) (o n : ℕ) (f : LexRefusal) (p : Place) → BlankAt s o n → Faulty (take (o + n) s) (drop (o + n) s) f p → Faulty (take o s) (drop o s) f p
faulty_over s o zero f p h r = let e : o + 0 ≡ o = omega arith in rw e at r
faulty_over s o (suc n) f p h r =
    let e : o + suc n ≡ o + 1 + n = omega arith in
    faulty_dropped s o 1 f p (first_stands s o n h) (faulty_over s (o + 1) n f p (others_blank s o n h) (rw e at r))

cut_over : (s : List ℕ) (o n : ℕ) → IsUtf8 s → BlankAt s o n → IsCharBoundary s o → IsCharBoundary s (o + n)
cut_over s o zero u h c = let e : o + 0 ≡ o = omega arith in rw e c
cut_over s o (suc n) u h c =
    let e : o + suc n ≡ o + 1 + n = omega arith in
    rw e (cut_over s (o + 1) n u (others_blank s o n h) (cut_behind s o (Dropped 1) u c (first_stands s o n h) refl))

pub blanks_within : (s : List ℕ) (p : Place) → p ≡ place_after (take p.offset s) → p.offset + prefix_len is_blank (drop p.offset s) ≤ length s
blanks_within s p e = run_within is_blank s p _ e (omega arith)

pub tokens_blanks : (s : List ℕ) (o : ℕ) (ts : List Lexeme) → o ≤ length s
    → Tokens (take (o + prefix_len is_blank (drop o s)) s) (drop (o + prefix_len is_blank (drop o s)) s) ts → Tokens (take o s) (drop o s) ts
tokens_blanks s o ts h r = tokens_over s o _ ts (blank_at s o h) r

pub faulty_blanks : (s : List ℕ) (o : ℕ) (f : LexRefusal) (p : Place) → o ≤ length s
    → Faulty (take (o + prefix_len is_blank (drop o s)) s) (drop (o + prefix_len is_blank (drop o s)) s) f p → Faulty (take o s) (drop o s) f p
faulty_blanks s o f p h r = faulty_over s o _ f p (blank_at s o h) r

pub cut_blanks : (s : List ℕ) (o : ℕ) → IsUtf8 s → o ≤ length s → IsCharBoundary s o → IsCharBoundary s (o + prefix_len is_blank (drop o s))
cut_blanks s o u h c = cut_over s o _ u (blank_at s o h) c
