-- The tokens of a text stand at rising offsets.
use Rattle.std.proofs.Common.{◌≡◌, ◌<◌, ◌≤◌, ◌+◌, ℕ, zero, suc, List, ◌∷◌, ◌++◌, length, take, refl, subst, arith, get_or}
use Rattle.std.specs.Prelude.{Contains}
use Rattle.std.proofs.lemmas.Grind.{common_steps}
use Rattle.std.proofs.lemmas.List.Elements.{Contains-get_or}
use Rattle.std.proofs.lemmas.List.Kept.{AllPairs-cons}
use Rattle.gql_text.specs.Lexeme.{Lexeme}
use Rattle.gql_text.specs.Lexis.{Tokens, at_end, dropped, token, IsLexed}
use Rattle.gql_text.specs.Place.{place_after}
use Rattle.gql_text.proofs.Fitting.{stands_fits}
use Rattle.gql_parse_sdl.specs.Placed.{Rising}

-- tokens rise, behind these bytes
record Rises (before : List ℕ) (ts : List Lexeme) : Type 0 where
  rising : Rising ts
  behind : (t : Lexeme) → Contains ts t → length before ≤ t.place.offset

more_bytes : (before rest : List ℕ) (n : ℕ) → n ≤ length rest → length (before ++ take n rest) ≡ length before + n
more_bytes before rest n within = grind (arith, common_steps)

rises : {before rest : List ℕ} {ts : List Lexeme} → Tokens before rest ts → Rises before ts
rises at_end = record { rising = λ i j d lt within. absurd (omega (arith, within)); behind = λ t c. absurd (omega (arith, c.1)) }
rises {before = before} {rest = rest} (dropped {n = n} s t) =
    let r = rises t in
    let long = more_bytes before rest n (stands_fits s).within in
    record { rising = r.rising; behind = λ u c. omega (arith, long, r.behind u c) }
rises {before = before} {rest = rest} (token {kind = kind} {n = n} {tokens = tokens} s t) =
    let r = rises t in
    let fits = stands_fits s in
    let long = more_bytes before rest n fits.within in
    let first : Lexeme = record { kind = kind; text = take n rest; place = place_after before } in
    let some : 0 < n = fits.some refl in
    record {
      rising = AllPairs-cons (λ (a b : Lexeme). a.place.offset < b.place.offset) first tokens (λ k u lt. omega (arith, long, some, r.behind (get_or tokens k u) (Contains-get_or tokens k u lt))) r.rising;
      behind = λ u c. behind_first before first tokens (refl) (λ v cv. omega (arith, long, r.behind v cv)) u c;
    }
  where
    behind_first : (before : List ℕ) (first : Lexeme) (tokens : List Lexeme) → first.place.offset ≡ length before → ((v : Lexeme) → Contains tokens v → length before ≤ v.place.offset)
        → (u : Lexeme) → Contains (first ∷ tokens) u → length before ≤ u.place.offset
    behind_first before first tokens at later u (zero, lt, is) = subst (λ (v : Lexeme). length before ≤ v.place.offset) is (omega (arith, at))
    behind_first before first tokens at later u (suc i, lt, is) = later u (i, omega (arith, lt), is)

pub lexed_rising : (limit : ℕ) (source : List ℕ) (ts : List Lexeme) → IsLexed limit source ts → Rising ts
lexed_rising limit source ts lexed = (rises lexed.tokens_of).rising

-- the first of some tokens rise, too
pub rising_take : (n : ℕ) (ts : List Lexeme) → Rising ts → Rising (take n ts)
rising_take n ts rising i j d lt within =
    let low : get_or (take n ts) i d ≡ get_or ts i d = grind (arith, common_steps) in
    let high : get_or (take n ts) j d ≡ get_or ts j d = grind (arith, common_steps) in
    let inside : j < length ts = grind (arith, common_steps) in
    rw (low, high) (rising i j d lt inside)
