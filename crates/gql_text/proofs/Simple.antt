-- Bytes that are parts of a string by themselves: a run over the string goes past them one by one.
use Rattle.std.proofs.Common.{◌≡◌, ℕ, suc, ◌+◌, ◌-◌, List, [], ◌∷◌, length, take, drop, refl, arith, true, false}
use Rattle.std.specs.List.{prefix_len}
use Rattle.std.specs.Prelude.{◌==◌}
use Rattle.std.proofs.lemmas.Bool.Decides.{nat_tests}
use Rattle.std.proofs.lemmas.List.{take_rest, drop-drop}
use Rattle.gql_text.specs.Chars.{is_break, is_source_byte}
use Rattle.gql_text.specs.Pieces.{string_piece, block_piece}
use Rattle.gql_text.specs.Lexis.{Run, goes}
use Rattle.gql_text.specs.Parts.{is_simple}
use Rattle.gql_text.specs.declared.token.Kind.{Kind}
use Rattle.gql_text.specs.declared.front.Part.{Part}
use Rattle.gql_text.specs.declared.front.Piece.{Piece}
use Rattle.gql_text.specs.declared.front.Piece.TheVariants.{Goes}
use Rattle.gql_text.proofs.Fronts.{no_three}
use Rattle.gql_text.proofs.Runs.{split}

-- what a simple byte is not
record IsSimple (b : ℕ) : Type 0 where
  pub quote : (b == 34) ≡ false
  pub backslash : (b == 92) ≡ false
  pub break : is_break b ≡ false
  pub source : is_source_byte b ≡ true

simple_is : (b : ℕ) → is_simple b ≡ true → IsSimple b
simple_is b e = record {
  quote = grind (arith, nat_tests);
  backslash = grind (arith, nat_tests);
  break = grind (arith, nat_tests);
  source = grind (arith, nat_tests);
}

pub string_simple : (b : ℕ) (bs : List ℕ) → is_simple b ≡ true → string_piece (b ∷ bs) ≡ Goes 1
unfolding string_piece
string_simple b bs e = let s = simple_is b e in rw (s.break, s.quote, s.backslash, s.source) refl

pub block_simple : (b : ℕ) (bs : List ℕ) → is_simple b ≡ true → block_piece (b ∷ bs) ≡ Goes 1
unfolding block_piece
block_simple b bs e = let s = simple_is b e in rw (no_three b bs s.quote, s.backslash, s.break, s.source) refl

run_simple : (f : List ℕ → Piece) → ((b : ℕ) (bs : List ℕ) → is_simple b ≡ true → f (b ∷ bs) ≡ Goes 1) → (kind : Kind) (n : ℕ) (bs : List ℕ) (p : Part)
    → Run f kind (n + prefix_len is_simple bs) (drop (prefix_len is_simple bs) bs) p → Run f kind n bs p
run_simple f w kind n [] p r = let e : n + 0 ≡ n = omega arith in rw e at r
run_simple f w kind n (b ∷ bs) p q =
    let k : ℕ = prefix_len is_simple bs in
    split (λ m. Run f kind (n + m) (drop m (b ∷ bs)) p → Run f kind n (b ∷ bs) p) (is_simple b) (1 + k) 0
    (λ h r. let e : n + (1 + k) ≡ n + 1 + k = omega arith in let d : 1 + k ≡ suc k = omega arith in
    goes (w b bs h) (run_simple f w kind (n + 1) bs p (rw (e, d) at r)))
    (λ h r. let e : n + 0 ≡ n = omega arith in rw e at r) q

-- from r on, past k simple bytes
pub past_simple : (f : List ℕ → Piece) → ((b : ℕ) (bs : List ℕ) → is_simple b ≡ true → f (b ∷ bs) ≡ Goes 1) → (kind : Kind) (xs : List ℕ) (m r k : ℕ) (p : Part)
    → k ≡ prefix_len is_simple (take (length xs - r) (drop r xs)) → Run f kind (m + (r + k)) (drop (r + k) xs) p → Run f kind (m + r) (drop r xs) p
past_simple f w kind xs m r k p e h =
    let same : k ≡ prefix_len is_simple (drop r xs) = rw take_rest at e in
    let at : m + (r + k) ≡ m + r + k = omega arith in
    let run = rw (at, ← drop-drop k r xs, same) at h in
    run_simple f w kind (m + r) (drop r xs) p run
