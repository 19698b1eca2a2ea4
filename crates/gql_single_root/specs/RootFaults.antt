-- Comparison of faults: two are equal if they have the same place, and are about the same text.
use Rattle.std.specs.Prelude.{◌≡◌, ◌++◌, ℕ, List, Bool, true, false, refl, nat_eq, bytes_eq, ◌&&◌}
use Rattle.std.specs.Bool.{Decides}
use Rattle.std.specs.Hash as fed
use Rattle.std.proofs.Common.{ap, sym, ◌∙◌, subst, true≢false}
use Rattle.std.specs.Cmp.{unsigned_Decides}
use Rattle.std.proofs.lemmas.Slice.Eq.{bytes_eq-Decides}
use Rattle.gql_text.specs.declared.place.Place.{Place}
use Rattle.gql_single_root.specs.declared.fault.RootFault.{RootFault}

-- whether two places are the same
abbrev pub is_place : Place → Place → Bool
is_place a b =
    nat_eq a.line b.line && nat_eq a.column b.column && nat_eq a.offset b.offset

-- whether two faults are equal
abbrev pub is_fault : RootFault → RootFault → Bool
is_fault a b = bytes_eq a.file b.file && is_place a.place b.place && bytes_eq a.about b.about

both : (x y : Bool) → x && y ≡ true → (x ≡ true) × (y ≡ true)
both true true e = (refl, refl)
both true false e = absurd (true≢false (sym e))
both false y e = absurd (true≢false (sym e))

joined : (x y : Bool) → x ≡ true → y ≡ true → x && y ≡ true
joined x y e f = rw (e, f) refl

-- a place of these numbers
abbrev place : ℕ → ℕ → ℕ → Place
place l c o = record { line = l; column = c; offset = o }

one_place : (a b : Place) → is_place a b ≡ true → a ≡ b
one_place a b e =
    let o = both (nat_eq a.line b.line && nat_eq a.column b.column) (nat_eq a.offset b.offset) e in
    let l = both (nat_eq a.line b.line) (nat_eq a.column b.column) o.0 in
    ap (λ n. place n a.column a.offset) ((unsigned_Decides a.line b.line).0 l.0)
    ∙ ap (λ n. place b.line n a.offset) ((unsigned_Decides a.column b.column).0 l.1)
    ∙ ap (λ n. place b.line b.column n) ((unsigned_Decides a.offset b.offset).0 o.1)

same_place : (a : Place) → is_place a a ≡ true
same_place a =
    joined (nat_eq a.line a.line && nat_eq a.column a.column) (nat_eq a.offset a.offset)
    (joined (nat_eq a.line a.line) (nat_eq a.column a.column)
    ((unsigned_Decides a.line a.line).1 refl) ((unsigned_Decides a.column a.column).1 refl))
    ((unsigned_Decides a.offset a.offset).1 refl)

-- a fault of these parts
abbrev fault : List ℕ → Place → List ℕ → RootFault
fault f p t = record { file = f; place = p; about = t }

one_fault : (a b : RootFault) → is_fault a b ≡ true → a ≡ b
one_fault a b e =
    let t = both (bytes_eq a.file b.file && is_place a.place b.place) (bytes_eq a.about b.about) e
    in
    let f = both (bytes_eq a.file b.file) (is_place a.place b.place) t.0 in
    ap (λ x. fault x a.place a.about) ((bytes_eq-Decides a.file b.file).0 f.0)
    ∙ ap (λ x. fault b.file x a.about) (one_place a.place b.place f.1)
    ∙ ap (λ x. fault b.file b.place x) ((bytes_eq-Decides a.about b.about).0 t.1)

same_fault : (a : RootFault) → is_fault a a ≡ true
same_fault a =
    joined (bytes_eq a.file a.file && is_place a.place a.place) (bytes_eq a.about a.about)
    (joined (bytes_eq a.file a.file) (is_place a.place a.place)
    ((bytes_eq-Decides a.file a.file).1 refl) (same_place a.place))
    ((bytes_eq-Decides a.about a.about).1 refl)

-- the test holds of equal faults, and of no others
pub is_fault_decides : (a b : RootFault) → Decides (is_fault a b) (a ≡ b)
is_fault_decides a b = (
  λ e. one_fault a b e,
  λ e. subst (λ c. is_fault a c ≡ true) e (same_fault a),
)

-- equal faults are hashed alike
pub same_hash : (a b : RootFault) → is_fault a b ≡ true
    → fed.str a.file ++ fed.usize a.place.offset ≡ fed.str b.file ++ fed.usize b.place.offset
same_hash a b same =
    ap (λ (x : RootFault). fed.str x.file ++ fed.usize x.place.offset) (one_fault a b same)
