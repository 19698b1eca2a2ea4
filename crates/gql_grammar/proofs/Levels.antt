-- The tokens that are looked at, and how many levels they open.
use Rattle.std.proofs.Common.{◌≡◌, ◌<◌, ◌≤◌, ℕ, zero, suc, max, List, [], ◌∷◌, ◌++◌, Bool, true, false, refl, ap, ◌∙◌, sym, cond, subst, arith}
use Rattle.std.proofs.Math.Nat.{le-max_left, le-max_right, max-le}
use borrow.Author.Tests.{leb-true, leb-false}
use lib.Dec.{leb}
use Rattle.gql_text.specs.Lexeme.{Lexeme}
use Rattle.gql_text.specs.declared.token.Kind.{Kind}
use Rattle.gql_text.specs.declared.token.Kind.TheVariants.{LeftBrace, LeftBracket, RightBrace, RightBracket}
use Rattle.gql_grammar.specs.Levels.{shift, one_less, level, depth_from, most_levels, looked_from}

less : (n : ℕ) → one_less n ≤ suc n
less zero = omega arith
less (suc n) = omega arith

pub shift_least : (k : Kind) (n : ℕ) → shift k n ≤ suc n
shift_least LeftBrace n = omega arith
shift_least LeftBracket n = omega arith
shift_least RightBrace n = less n
shift_least RightBracket n = less n
shift_least _ n = omega arith

pub begins : (n : ℕ) (ts : List Lexeme) → n ≤ depth_from n ts
begins n [] = omega arith
begins n (t ∷ ts) = le-max_left n (depth_from (shift t.kind n) ts)

-- ---- where too many are open

passes_by : (pass : Bool) (a b : ℕ) → leb a b ≡ pass → a ≤ b → leb a b ≡ true
passes_by true a b is h = is
passes_by false a b is h = let over = leb-false a b is in absurd (omega arith)

passes : (a b : ℕ) → a ≤ b → leb a b ≡ true
passes a b h = passes_by (leb a b) a b refl h

fails_by : (pass : Bool) (a b : ℕ) → leb a b ≡ pass → b < a → leb a b ≡ false
fails_by true a b is h = let under = leb-true a b is in absurd (omega arith)
fails_by false a b is h = is

fails : (a b : ℕ) → b < a → leb a b ≡ false
fails a b h = fails_by (leb a b) a b refl h

pub deep_none : (n : ℕ) → n ≤ most_levels → leb (depth_from n []) most_levels ≡ true
deep_none n h = passes n most_levels h

pub deep_here : (n : ℕ) (t : Lexeme) (ts : List Lexeme) → most_levels < shift t.kind n → leb (depth_from n (t ∷ ts)) most_levels ≡ false
deep_here n t ts h =
    let here = begins (shift t.kind n) ts in
    let further = le-max_right n (depth_from (shift t.kind n) ts) in
    fails (depth_from n (t ∷ ts)) most_levels (omega arith)

later_by : (pass : Bool) (n d : ℕ) → leb d most_levels ≡ pass → n ≤ most_levels → leb (max n d) most_levels ≡ leb d most_levels
later_by true n d is h = passes (max n d) most_levels (max-le h (leb-true d most_levels is)) ∙ sym is
later_by false n d is h =
    let over = leb-false d most_levels is in
    let more = le-max_right n d in
    fails (max n d) most_levels (omega arith) ∙ sym is

pub deep_later : (n : ℕ) (t : Lexeme) (ts : List Lexeme) → n ≤ most_levels → leb (depth_from n (t ∷ ts)) most_levels ≡ leb (depth_from (shift t.kind n) ts) most_levels
deep_later n t ts h = later_by (leb (depth_from (shift t.kind n) ts) most_levels) n (depth_from (shift t.kind n) ts) refl h

-- ---- the tokens that are looked at

all_by : (pass : Bool) (n : ℕ) (u : Lexeme) (ts : List Lexeme) → leb (shift u.kind n) most_levels ≡ pass → depth_from (shift u.kind n) ts ≤ most_levels
    → looked_from (shift u.kind n) ts ≡ ts → u ∷ cond pass (looked_from (shift u.kind n) ts) [] ≡ u ∷ ts
all_by true n u ts is least next = ap (λ r. u ∷ r) next
all_by false n u ts is least next =
    let over = leb-false (shift u.kind n) most_levels is in
    let here = begins (shift u.kind n) ts in
    absurd (omega arith)

-- all of them, where at most 100 levels are open at one time
pub all : (n : ℕ) (ts : List Lexeme) → depth_from n ts ≤ most_levels → looked_from n ts ≡ ts
all n [] least = refl
all n (u ∷ ts) least =
    let further = le-max_right n (depth_from (shift u.kind n) ts) in
    let fewer : depth_from (shift u.kind n) ts ≤ most_levels = omega arith in
    all_by (leb (shift u.kind n) most_levels) n u ts refl fewer (all (shift u.kind n) ts fewer)

deeper_by : (pass : Bool) (n d : ℕ) → leb d most_levels ≡ pass → most_levels < max n d → n ≤ most_levels → most_levels < d
deeper_by true n d is h least = let both = max-le least (leb-true d most_levels is) in absurd (omega arith)
deeper_by false n d is h least = leb-false d most_levels is

deeper : (n d : ℕ) → most_levels < max n d → n ≤ most_levels → most_levels < d
deeper n d h least = deeper_by (leb d most_levels) n d refl h least

over_by : (pass : Bool) (n : ℕ) (u : Lexeme) (ts : List Lexeme) → leb (shift u.kind n) most_levels ≡ pass → n ≤ most_levels
    → (shift u.kind n ≤ most_levels → level (shift u.kind n) (looked_from (shift u.kind n) ts) ≡ suc most_levels)
    → level (shift u.kind n) (cond pass (looked_from (shift u.kind n) ts) []) ≡ suc most_levels
over_by true n u ts is least next = next (leb-true (shift u.kind n) most_levels is)
over_by false n u ts is least next =
    let more = leb-false (shift u.kind n) most_levels is in
    let bound = shift_least u.kind n in
    omega arith

-- and where more are open, 101 are open behind those that are looked at
pub over : (n : ℕ) (ts : List Lexeme) → most_levels < depth_from n ts → n ≤ most_levels → level n (looked_from n ts) ≡ suc most_levels
over n [] h least = absurd (omega arith)
over n (u ∷ ts) h least =
    over_by (leb (shift u.kind n) most_levels) n u ts refl least (λ k. over (shift u.kind n) ts (deeper n (depth_from (shift u.kind n) ts) h least) k)

front_by : (pass : Bool) (n : ℕ) (u : Lexeme) (ts : List Lexeme) → ((rest : List Lexeme) × (looked_from (shift u.kind n) ts ++ rest ≡ ts))
    → (rest : List Lexeme) × (u ∷ cond pass (looked_from (shift u.kind n) ts) [] ++ rest ≡ u ∷ ts)
front_by true n u ts h = (h.0, ap (λ r. u ∷ r) h.1)
front_by false n u ts h = (ts, refl)

-- they are a front of the tokens
pub front : (n : ℕ) (ts : List Lexeme) → (rest : List Lexeme) × (looked_from n ts ++ rest ≡ ts)
front n [] = ([], refl)
front n (u ∷ ts) = front_by (leb (shift u.kind n) most_levels) n u ts (front (shift u.kind n) ts)

first_by : (pass : Bool) (n : ℕ) (u b : Lexeme) (ts before : List Lexeme) (t : Lexeme) → leb (shift u.kind n) most_levels ≡ pass → n ≤ most_levels
    → (shift u.kind n ≤ most_levels → looked_from (shift u.kind n) ts ≡ before ++ t ∷ [] → depth_from (shift u.kind n) before ≤ most_levels)
    → u ∷ cond pass (looked_from (shift u.kind n) ts) [] ≡ b ∷ before ++ t ∷ [] → max n (depth_from (shift b.kind n) before) ≤ most_levels
first_by true n u b ts before t is least next same =
    let head : u ≡ b = cc in
    let rest : looked_from (shift u.kind n) ts ≡ before ++ t ∷ [] = cc in
    max-le least (subst (λ v. depth_from (shift v.kind n) before ≤ most_levels) head (next (leb-true (shift u.kind n) most_levels is) rest))
first_by false n u b ts [] t is least next same = cc
first_by false n u b ts (c ∷ before) t is least next same = cc

-- and before the last of them at most 100 levels are open at one time
pub first : (n : ℕ) (ts before : List Lexeme) (t : Lexeme) → n ≤ most_levels → looked_from n ts ≡ before ++ t ∷ [] → depth_from n before ≤ most_levels
first n ts [] t least same = least
first n [] (b ∷ before) t least same = cc
first n (u ∷ ts) (b ∷ before) t least same = first_by (leb (shift u.kind n) most_levels) n u b ts before t refl least (λ h k. first (shift u.kind n) ts before t h k) same
