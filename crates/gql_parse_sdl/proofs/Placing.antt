-- Definitions that are read one after another stand at rising places.
use Rattle.std.proofs.Common.{◌≡◌, ◌<◌, ◌+◌, inl, inr, ℕ, suc, List, [], ◌∷◌, ◌++◌, length, Option, Some, None, refl, sym, ap, ◌∙◌, subst, arith, get_or}
use Rattle.std.specs.Prelude.{Contains}
use Rattle.std.proofs.lemmas.Grind.{common_steps}
use Rattle.std.proofs.lemmas.List.Elements.{Contains-get_or, Contains-append_right, Contains-push_cases}
use Rattle.std.proofs.lemmas.List.Quantifiers.{all_pairs_push}
use Rattle.gql_text.specs.Lexeme.{Lexeme}
use Rattle.gql_text.specs.declared.place.Place.{Place}
use Rattle.gql_ast.specs.Trees as trees
use Rattle.gql_ast.specs.Trees.{id_of}
use Rattle.gql_ast.specs.declared.definition.Definition.{Definition}
use Rattle.gql_grammar.specs.Symbol.{IsRest, place_of}
use Rattle.gql_parse_sdl.specs.Placed.{ArePlaced, Rising}

-- these definitions are placed, before these tokens
pub record Before (file : List ℕ) (found : List Definition) (ts : List Lexeme) : Type 0 where
  pub placed : ArePlaced file found
  pub before : (d : Definition) → Contains found d → (t : Lexeme) → Contains ts t → (id_of d).offset < t.place.offset

abbrev tail_of : List Lexeme → List Lexeme
tail_of [] = []
tail_of (t ∷ ts) = ts

abbrev place_or : Place → Option Place → Place
place_or p None = p
place_or p (Some q) = q

some_is : {p q : Place} → Some p ≡ Some q → p ≡ q
some_is {p = p} h = ap (place_or p) h

Contains-here : (t : Lexeme) (ts : List Lexeme) → Contains (t ∷ ts) t
Contains-here t ts = (0, omega arith, refl)

-- the last of some tokens are in order, too
pub rising_rest : (ts middle : List Lexeme) → IsRest middle ts → Rising ts → Rising middle
rising_rest ts middle rest rising i j d lt within =
    let n = length rest.front in
    let whole : Rising (rest.front ++ middle) = subst Rising (sym rest.parts) rising in
    let low : get_or (rest.front ++ middle) (n + i) d ≡ get_or middle i d = grind (arith, common_steps) in
    let high : get_or (rest.front ++ middle) (n + j) d ≡ get_or middle j d = grind (arith, common_steps) in
    let h = whole (n + i) (n + j) d (omega (arith, lt)) (grind (arith, common_steps)) in
    rw (low, high) at h

pub none_before : (file : List ℕ) (ts : List Lexeme) → Before file [] ts
none_before file ts = record {
  placed = record { named = λ d c. absurd (omega (arith, c.1)); rising = λ i j d lt within. absurd (omega (arith, within)) };
  before = λ d c. absurd (omega (arith, c.1));
}

-- what comes before some tokens comes before the last of them
in_rest : (ts middle : List Lexeme) → IsRest middle ts → (t : Lexeme) → Contains middle t → Contains ts t
in_rest ts middle rest t c = subst (λ us. Contains us t) rest.parts (Contains-append_right rest.front middle t c)

-- the first of some tokens is before those after it
first_before : (t : Lexeme) (us middle : List Lexeme) → Rising (t ∷ us) → IsRest middle (t ∷ us) → length middle < length (t ∷ us) → (u : Lexeme) → Contains middle u → t.place.offset < u.place.offset
first_before t us middle rising rest less u c = by rest.front rest.parts
  where
    by : (front : List Lexeme) → front ++ middle ≡ t ∷ us → t.place.offset < u.place.offset
    by [] e = absurd (let same : length middle ≡ length (t ∷ us) = ap length e in omega (arith, same, less))
    by (x ∷ front) e =
        let inside : Contains us u = subst (λ vs. Contains vs u) (ap tail_of e) (Contains-append_right front middle u c) in
        let h = rising 0 (suc inside.0) u (omega arith) (omega (arith, inside.1)) in
        subst (λ (v : Lexeme). t.place.offset < v.place.offset) (inside.2) h

-- one definition more, which starts at the first of the tokens
pub next_before : (file : List ℕ) (found : List Definition) (ts middle : List Lexeme) (d : Definition) → Rising ts → Before file found ts
    → place_of ts ≡ Some (trees.place_of d.tree) → d.file ≡ file → IsRest middle ts → length middle < length ts → Before file (found ++ d ∷ []) middle
next_before file found [] middle d rising before starts in_file rest less = absurd (omega (arith, less))
next_before file found (t ∷ us) middle d rising before starts in_file rest less =
    let at : t.place ≡ trees.place_of d.tree = some_is starts in
    let first : (x : Definition) → Contains found x → (id_of x).offset < (id_of d).offset = λ x c. subst (λ (p : Place). (id_of x).offset < p.offset) at (before.before x c t (Contains-here t us)) in
    record {
      placed = record {
        named = λ x c. elim (Contains-push_cases found d x c) [ inl old ↦ before.placed.named x old | inr new ↦ ap (λ (e : Definition). e.file) (sym new) ∙ in_file ];
        rising = all_pairs_push (λ (x y : Definition). (id_of x).offset < (id_of y).offset) found d before.placed.rising (λ k x lt. first (get_or found k x) (Contains-get_or found k x lt));
      };
      before = λ x c u cu. elim (Contains-push_cases found d x c) [
        | inl old ↦ before.before x old u (in_rest (t ∷ us) middle rest u cu)
        | inr new ↦
            let low : t.place.offset < u.place.offset = first_before t us middle rising rest less u cu in
            subst (λ (e : Definition). (id_of e).offset < u.place.offset) new (subst (λ (p : Place). p.offset < u.place.offset) at low)
      ];
    }
