-- The names of types after an edit, by those before it.
use Rattle.std.proofs.Common.{◌≡◌, ◌∙◌, ◌++◌, ◌⊎◌, inl, inr, ◌&&◌, ℕ, List, [], ◌∷◌, Bool, true, false, not, map, filter, find, bytes_eq, Contains, refl, sym, ap, subst}
use Rattle.std.specs.Prelude.{is_some}
use Rattle.std.proofs.lemmas.List.Elements.{Contains-append_left, Contains-append_right, Contains-append_cases}
use Rattle.std.proofs.lemmas.Slice.Eq.{bytes_eq-Decides}
use Rattle.gql_types.specs.Edits.{KeepsOthers}
use Rattle.gql_types.specs.Possible.{in_order, name_of}
use Rattle.gql_types.specs.Schemas.{type_named}
use Rattle.gql_types.specs.declared.schema.Schema.{Schema}
use Rattle.gql_types.specs.declared.schema_type.SchemaType.{SchemaType}
use Rattle.gql_types.proofs.Members.{none, here, there, cases, Contains-from_filter, Contains-to_map, Contains-from_map}
use Rattle.gql_intro.specs.EditedNames.{is_kept, is_only_in}
use Rattle.gql_intro.proofs.InOrder.{from_order, same_order, to_order}

-- ---- lists

pub either : (b : Bool) → (b ≡ true) ⊎ (b ≡ false)
either true = inl refl
either false = inr refl

no : (b : Bool) → b ≡ true → b ≡ false → ⊥
no b is not_so = let bad : true ≡ false = sym is ∙ not_so in cc

module _ {A : Type 0} (p : A → Bool) where
  pub to_filter : (xs : List A) (x : A) → Contains xs x → p x ≡ true → Contains (filter p xs) x
  to_filter [] x h is = absurd (none x h)
  to_filter (y ∷ ys) x h is = by (p y) refl (to_filter ys x)
    where
      by : (b : Bool) → p y ≡ b → (Contains ys x → p x ≡ true → Contains (filter p ys) x) → Contains (filter p (y ∷ ys)) x
      by true at rest = rw at (elim (cases x y ys h) [
        | inl e ↦ subst (λ z. Contains (y ∷ filter p ys) z) (sym e) (here y (filter p ys))
        | inr t ↦ there x y (filter p ys) (rest t is)
      ])
      by false at rest = rw at (elim (cases x y ys h) [
        | inl e ↦ absurd (no (p y) (subst (λ z. p z ≡ true) e is) at)
        | inr t ↦ rest t is
      ])

  -- what a search finds passes, and is in the list
  found : (xs : List A) → is_some (find p xs) ≡ true → (x : A) × Contains xs x × (p x ≡ true)
  found [] is = absurd (cc is)
  found (y ∷ ys) is = by (p y) refl is (found ys)
    where
      by : (b : Bool) → p y ≡ b → is_some (find p (y ∷ ys)) ≡ true → (is_some (find p ys) ≡ true → (x : A) × Contains ys x × (p x ≡ true)) → (x : A) × Contains (y ∷ ys) x × (p x ≡ true)
      by true at is rest = (y, here y ys, at)
      by false at is rest =
          let later : is_some (find p ys) ≡ true = rw at at is in
          let r = rest later in (r.0, there r.0 y ys r.1, r.2)

  -- a search finds something, if the list has something that passes
  is_found : (xs : List A) (x : A) → Contains xs x → p x ≡ true → is_some (find p xs) ≡ true
  is_found [] x h is = absurd (none x h)
  is_found (y ∷ ys) x h is = by (p y) refl (is_found ys x)
    where
      by : (b : Bool) → p y ≡ b → (Contains ys x → p x ≡ true → is_some (find p ys) ≡ true) → is_some (find p (y ∷ ys)) ≡ true
      by true at rest = rw at refl
      by false at rest = rw at (elim (cases x y ys h) [
        | inl e ↦ absurd (no (p y) (subst (λ z. p z ≡ true) e is) at)
        | inr t ↦ rest t is
      ])

-- ---- names

same : (a b : List ℕ) → bytes_eq a b ≡ true → a ≡ b
same a b e = (bytes_eq-Decides a b).0 e

itself : (a : List ℕ) → bytes_eq a a ≡ true
itself a = (bytes_eq-Decides a a).1 refl

-- whether a name is one of these
is_among : List (List ℕ) → List ℕ → Bool
is_among names q = is_some (find (bytes_eq q) names)

to_among : (names : List (List ℕ)) (q : List ℕ) → Contains names q → is_some (find (bytes_eq q) names) ≡ true
to_among names q h = is_found (bytes_eq q) names q h (itself q)

pub from_among : (names : List (List ℕ)) (q : List ℕ) → is_some (find (bytes_eq q) names) ≡ true → Contains names q
from_among names q is = let r = found (bytes_eq q) names is in subst (λ z. Contains names z) (sym (same q r.0 r.2)) r.1

-- the names of the types of a schema
names_of : Schema → List (List ℕ)
names_of s = map name_of s.types

to_named : (s : Schema) (q : List ℕ) → Contains (map name_of s.types) q → is_some (type_named s q) ≡ true
to_named s q h =
    let r = Contains-from_map name_of s.types q h in
    is_found (λ (t : SchemaType). bytes_eq q (name_of t)) s.types r.0 r.1 (subst (λ z. bytes_eq q z ≡ true) r.2 (itself q))

from_named : (s : Schema) (q : List ℕ) → is_some (type_named s q) ≡ true → Contains (map name_of s.types) q
from_named s q is =
    let r = found (λ (t : SchemaType). bytes_eq q (name_of t)) s.types is in
    subst (λ z. Contains (map name_of s.types) z) (sym (same q (name_of r.0) r.2)) (Contains-to_map name_of s.types r.0 r.1)

both : (a b : Bool) → a ≡ true → b ≡ false → (a && not b) ≡ true
both a b one other = rw (one, other) refl

left : (a b : Bool) → (a && not b) ≡ true → a ≡ true
left true b is = refl
left false b is = absurd (cc is)

right : (a b : Bool) → (a && not b) ≡ true → b ≡ false
right true true is = absurd (cc is)
right true false is = refl
right false b is = absurd (cc is)

-- ---- the names after an edit

module _ (edited : List (List ℕ)) (old s : Schema) (keeps : KeepsOthers edited old s) (undone : KeepsOthers edited s old) where
  -- a type of a name that is not edited is in both schemas
  in_other : (a b : Schema) → KeepsOthers edited a b → (q : List ℕ) → is_some (find (bytes_eq q) edited) ≡ false → Contains (map name_of b.types) q → Contains (map name_of a.types) q
  in_other a b others q other h =
      let r = Contains-from_map name_of b.types q h in
      let not_edited : is_some (find (bytes_eq (name_of r.0)) edited) ≡ false = subst (λ z. is_some (find (bytes_eq z) edited) ≡ false) r.2 other in
      let it : is_some (type_named a (name_of r.0)) ≡ true = ap is_some (others r.0 r.1 not_edited) in
      from_named a q (subst (λ z. is_some (type_named a z) ≡ true) (sym r.2) it)

  -- a name that only one schema has is edited, and the other has it not
  only_in_has : (a b : Schema) (q : List ℕ) → Contains (filter (is_only_in a b) edited) q → Contains (map name_of a.types) q
  only_in_has a b q h = from_named a q (left (is_some (type_named a q)) (is_some (type_named b q)) (Contains-from_filter (is_only_in a b) edited q h).1)

  module _ (p : List ℕ → Bool) where
    abbrev went : List (List ℕ)
    went = filter (is_only_in old s) edited

    abbrev came : List (List ℕ)
    came = filter (is_only_in s old) edited

    abbrev parts : List (List ℕ)
    parts = filter (is_kept went) (in_order (filter p (map name_of old.types))) ++ filter p came

    abbrev all : List (List ℕ)
    all = filter p (map name_of s.types)

    stays : (q : List ℕ) → is_kept went q ≡ true → Contains (map name_of old.types) q → Contains (map name_of s.types) q
    stays q kept h = elim (either (is_some (find (bytes_eq q) edited))) [
      | inr other ↦ in_other s old undone q other h
      | inl is ↦ elim (either (is_some (type_named s q))) [
        | inl has ↦ from_named s q has
        | inr lacks ↦
            let only : is_only_in old s q ≡ true = both (is_some (type_named old q)) (is_some (type_named s q)) (to_named old q h) lacks in
            let gone : is_some (find (bytes_eq q) went) ≡ true = to_among went q (to_filter (is_only_in old s) edited q (from_among edited q is) only) in
            absurd (no (is_kept went q) kept (ap not gone))
      ]
    ]

    is_left : (q : List ℕ) → Contains (map name_of s.types) q → is_kept went q ≡ true
    is_left q h = elim (either (is_some (find (bytes_eq q) went))) [
      | inr not_gone ↦ ap not not_gone
      | inl gone ↦
          let f = Contains-from_filter (is_only_in old s) edited q (from_among went q gone) in
          absurd (no (is_some (type_named s q)) (to_named s q h) (right (is_some (type_named old q)) (is_some (type_named s q)) f.1))
    ]

    to_all : (q : List ℕ) → Contains parts q → Contains all q
    to_all q h = elim (Contains-append_cases (filter (is_kept went) (in_order (filter p (map name_of old.types)))) (filter p came) q h) [
      | inl of_before ↦
          let k = Contains-from_filter (is_kept went) (in_order (filter p (map name_of old.types))) q of_before in
          let f = Contains-from_filter p (map name_of old.types) q (from_order (filter p (map name_of old.types)) q k.0) in
          to_filter p (map name_of s.types) q (stays q k.1 f.0) f.1
      | inr new ↦
          let f = Contains-from_filter p came q new in
          to_filter p (map name_of s.types) q (only_in_has s old q f.0) f.1
    ]

    at_first : (q : List ℕ) → p q ≡ true → Contains (map name_of s.types) q → Contains (map name_of old.types) q → Contains parts q
    at_first q shown h before =
        Contains-append_left (filter (is_kept went) (in_order (filter p (map name_of old.types)))) (filter p came) q
        (to_filter (is_kept went) (in_order (filter p (map name_of old.types))) q
        (to_order (filter p (map name_of old.types)) q (to_filter p (map name_of old.types) q before shown)) (is_left q h))

    from_all : (q : List ℕ) → Contains all q → Contains parts q
    from_all q h =
        let f = Contains-from_filter p (map name_of s.types) q h in
        elim (either (is_some (find (bytes_eq q) edited))) [
          | inr other ↦ at_first q f.1 f.0 (in_other old s keeps q other f.0)
          | inl is ↦ elim (either (is_some (type_named old q))) [
            | inl has ↦ at_first q f.1 f.0 (from_named old q has)
            | inr lacks ↦
                Contains-append_right (filter (is_kept went) (in_order (filter p (map name_of old.types)))) (filter p came) q
                (to_filter p came q (to_filter (is_only_in s old) edited q (from_among edited q is) (both (is_some (type_named s q)) (is_some (type_named old q)) (to_named s q f.0) lacks)) f.1)
          ]
        ]

    pub after : in_order parts ≡ in_order all
    after = same_order parts all (λ q. (to_all q, from_all q))

    -- if none went and none came, the names are the same
    pub unchanged : filter (is_only_in old s) edited ≡ [] → filter (is_only_in s old) edited ≡ [] → in_order (filter p (map name_of old.types)) ≡ in_order all
    unchanged none_went none_came = same_order (filter p (map name_of old.types)) all (λ q. (
      λ h. let f = Contains-from_filter p (map name_of old.types) q h in
          let kept : is_kept went q ≡ true = ap (λ ns. is_kept ns q) none_went in
          to_filter p (map name_of s.types) q (stays q kept f.0) f.1,
      λ h. elim (Contains-append_cases (filter (is_kept went) (in_order (filter p (map name_of old.types)))) (filter p came) q (from_all q h)) [
        | inl of_before ↦ from_order (filter p (map name_of old.types)) q (Contains-from_filter (is_kept went) (in_order (filter p (map name_of old.types))) q of_before).0
        | inr new ↦ absurd (none q (subst (λ ns. Contains ns q) none_came (Contains-from_filter p came q new).0))
      ],
    ))
