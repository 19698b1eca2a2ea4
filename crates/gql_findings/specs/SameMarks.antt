-- Helper definitions: `same_mark` is an equivalence, and holds of equal marks alone.
use Rattle.std.specs.Prelude.{ℕ, ◌≡◌, ◌++◌, ◌&&◌, Bool, true, false, List, refl}
use Rattle.std.proofs.Common.{ap, sym, ◌∙◌, true≢false}
use Rattle.std.proofs.lemmas.Cmp.{nat_eq_equiv}
use Rattle.std.proofs.lemmas.Slice.Eq.{bytes_eq-Decides}
use Rattle.std.specs.Cmp.{IsEquivalence, IsPartialEquivalence, and_equiv, on_equiv, partial_equiv_from_equiv, unsigned_Decides}
use Rattle.std.specs.Cmp.Lexicographic.{nat_list_eq_equiv}
use Rattle.std.specs.Hash as fed
use Rattle.gql_findings.specs.Keys.{mark_of, same_key}
use Rattle.gql_findings.specs.Marks.{Mark, same_mark}
use Rattle.gql_findings.specs.declared.marks.Key.{Key}

-- `same_mark` is an equivalence
pub same_mark_equiv : IsEquivalence same_mark
same_mark_equiv =
    and_equiv (and_equiv (and_equiv (and_equiv (and_equiv
    (on_equiv (λ (m : Mark). m.kind) nat_eq_equiv)
    (on_equiv (λ (m : Mark). m.rule) nat_list_eq_equiv))
    (on_equiv (λ (m : Mark). m.about) nat_list_eq_equiv))
    (on_equiv (λ (m : Mark). m.first) nat_list_eq_equiv))
    (on_equiv (λ (m : Mark). m.second) nat_list_eq_equiv))
    (on_equiv (λ (m : Mark). m.owner) nat_list_eq_equiv)

-- `same_key` is an equivalence of keys
pub same_key_equiv : IsEquivalence same_key
same_key_equiv = on_equiv mark_of same_mark_equiv

pub same_key_partial : IsPartialEquivalence same_key
same_key_partial = partial_equiv_from_equiv same_key_equiv

both : (x y : Bool) → x && y ≡ true → (x ≡ true) × (y ≡ true)
both true true e = (refl, refl)
both true false e = absurd (true≢false (sym e))
both false y e = absurd (true≢false (sym e))

make : ℕ → List ℕ → List ℕ → List ℕ → List ℕ → List ℕ → Mark
make kind rule about first second owner = record {
  kind = kind;
  rule = rule;
  about = about;
  first = first;
  second = second;
  owner = owner;
}

-- marks that are the same are equal
pub same_mark_equal : (a b : Mark) → same_mark a b ≡ true → a ≡ b
unfolding make
same_mark_equal a b e =
    let owners = both _ _ e in
    let seconds = both _ _ owners.0 in
    let firsts = both _ _ seconds.0 in
    let abouts = both _ _ firsts.0 in
    let rules = both _ _ abouts.0 in
    ap (λ x. make x a.rule a.about a.first a.second a.owner)
    ((unsigned_Decides a.kind b.kind).0 rules.0)
    ∙ ap (λ x. make b.kind x a.about a.first a.second a.owner)
    ((bytes_eq-Decides a.rule b.rule).0 rules.1)
    ∙ ap (λ x. make b.kind b.rule x a.first a.second a.owner)
    ((bytes_eq-Decides a.about b.about).0 abouts.1)
    ∙ ap (λ x. make b.kind b.rule b.about x a.second a.owner)
    ((bytes_eq-Decides a.first b.first).0 firsts.1)
    ∙ ap (λ x. make b.kind b.rule b.about b.first x a.owner)
    ((bytes_eq-Decides a.second b.second).0 seconds.1)
    ∙ ap (λ x. make b.kind b.rule b.about b.first b.second x)
    ((bytes_eq-Decides a.owner b.owner).0 owners.1)

-- what of a mark is hashed: all its texts
abbrev pub texts_of : Mark → List (List ℕ)
texts_of m =
    fed.str m.rule ++ fed.str m.about ++ fed.slice fed.u8 m.first ++ fed.slice fed.u8 m.second
    ++ fed.str m.owner

-- equal keys are hashed alike
pub same_key_hashes : (a b : Key) → same_key a b ≡ true
    → texts_of (mark_of a) ≡ texts_of (mark_of b)
same_key_hashes a b e = ap texts_of (same_mark_equal (mark_of a) (mark_of b) e)
