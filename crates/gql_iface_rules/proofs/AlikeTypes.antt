-- After an edit whose types are alike name by name, what the rules on interfaces ask of names is the same.
use Rattle.std.proofs.Common.{◌≡◌, ◌∙◌, ◌⊎◌, inl, inr, ◌||◌, ◌<◌, ◌+◌, ◌++◌, length, get_or, take, rules, ℕ, List, [], ◌∷◌, Bool, true, false, Option, Some, None, find, bytes_eq, Contains, refl, sym, ap, subst}
use Rattle.std.specs.Prelude.{IsTrue, is_some, option_map, option_and_then}
use Rattle.std.specs.List.{list_any}
use Rattle.std.proofs.lemmas.List.{take_more}
use Rattle.std.proofs.lemmas.Slice.Eq.{bytes_eq-Decides}
use denote.Enum.Bare.{same_true}
use Rattle.gql_ast.specs.declared.text.Name.{Name}
use Rattle.gql_built_in.specs.declared.sited.Sited.{Sited}
use Rattle.gql_types.specs.Covariance.{is_among, stands_by, stands_for}
use Rattle.gql_types.specs.Edits.{KeepsOthers}
use Rattle.gql_types.specs.Kinds.{same_kind}
use Rattle.gql_types.specs.Possible.{name_of}
use Rattle.gql_types.specs.Schemas.{type_named}
use Rattle.gql_types.specs.contracts.kind.TypeKind as the_kind
use Rattle.gql_types.specs.declared.kind.TypeKind.{TypeKind}
use Rattle.gql_types.specs.declared.kind.TypeKind.TheVariants as kind
use Rattle.gql_types.specs.declared.schema.Schema.{Schema}
use Rattle.gql_types.specs.declared.schema_type.SchemaType.{SchemaType}
use Rattle.gql_iface_rules.specs.Alike.{AreAlike, IsAlike, IsKept, KeepsInterfaces, texts}
use Rattle.gql_iface_rules.specs.Implementing.{as_interface}
use Rattle.gql_iface_rules.proofs.Members.{first_of_all, one_more}

-- ---- what a search finds

module _ {A : Type 0} (p : A → Bool) where
  pub find_found : (xs : List A) (x : A) → find p xs ≡ Some x → Contains xs x × (p x ≡ true)
  find_found [] x e = absurd (cc e)
  find_found (y ∷ ys) x e = by (p y) refl e (find_found ys x)
    where
      by : (b : Bool) → p y ≡ b → find p (y ∷ ys) ≡ Some x → (find p ys ≡ Some x → Contains ys x × (p x ≡ true)) → Contains (y ∷ ys) x × (p x ≡ true)
      by true at is rest =
          let same : Some y ≡ Some x = rw at at is in
          let its : y ≡ x = cc same in
          (subst (λ z. Contains (y ∷ ys) z) its (first_of_all y ys), subst (λ z. p z ≡ true) its at)
      by false at is rest =
          let later : find p ys ≡ Some x = rw at at is in
          let r = rest later in (one_more x y ys r.0, r.1)

same_text : (a b : List ℕ) → bytes_eq a b ≡ true → a ≡ b
same_text a b e = (bytes_eq-Decides a b).0 e

-- the type of a name is a type of the schema, of that name
pub type_found : (s : Schema) (q : List ℕ) (t : SchemaType) → type_named s q ≡ Some t → Contains s.types t × (q ≡ name_of t)
type_found s q t e =
    let r = find_found (λ (u : SchemaType). bytes_eq q (name_of u)) s.types t e in
    (r.0, same_text q (name_of t) r.1)

-- ---- names that are not edited

module _ (names : List (List ℕ)) (a b : Schema) (keeps : KeepsOthers names a b) (undone : KeepsOthers names b a) where
  pub same_others : (q : List ℕ) → is_some (find (bytes_eq q) names) ≡ false → type_named a q ≡ type_named b q
  same_others q other = by (type_named a q) (type_named b q) refl refl
    where
      there : (t : SchemaType) → q ≡ name_of t → is_some (find (bytes_eq (name_of t)) names) ≡ false
      there t is = subst (λ z. is_some (find (bytes_eq z) names) ≡ false) is other

      by : (o p : Option SchemaType) → type_named a q ≡ o → type_named b q ≡ p → type_named a q ≡ type_named b q
      by o (Some t) in_a in_b =
          let r = type_found b q t in_b in
          subst (λ z. type_named a z ≡ Some t) (sym r.1) (keeps t r.0 (there t r.1)) ∙ sym in_b
      by (Some u) None in_a in_b =
          let r = type_found a q u in_a in
          let it : type_named b q ≡ Some u = subst (λ z. type_named b z ≡ Some u) (sym r.1) (undone u r.0 (there u r.1)) in
          absurd (cc (sym it ∙ in_b))
      by None None in_a in_b = in_a ∙ sym in_b

-- ---- types that are alike

among_texts : (q : List ℕ) (names : List (Sited Name)) → is_among q names ≡ list_any (bytes_eq q) (texts names)
among_texts q [] = refl
among_texts q (n ∷ names) = ap (λ b. bytes_eq q n.node.text || b) (among_texts q names)

same_among : (q : List ℕ) (names others : List (Sited Name)) → texts names ≡ texts others → is_among q names ≡ is_among q others
same_among q names others same = among_texts q names ∙ ap (list_any (bytes_eq q)) same ∙ sym (among_texts q others)

-- what is so of two types
together : Option SchemaType → Option SchemaType → Option Bool
together o p = option_and_then (λ (t : SchemaType). option_map (λ (b : SchemaType). stands_by b.kind t b) p) o

stands_first : (k : TypeKind) (t u b : SchemaType) → AreAlike t u → stands_by k t b ≡ stands_by k u b
stands_first kind.Interface t u b alike = same_among (name_of b) t.interfaces u.interfaces alike.interfaces
stands_first kind.Union t u b alike = rw (alike.kinds, alike.name) refl
stands_first kind.Scalar t u b alike = refl
stands_first kind.Object t u b alike = refl
stands_first kind.Enum t u b alike = refl
stands_first kind.InputObject t u b alike = refl

stands_second : (k : TypeKind) (t b c : SchemaType) → AreAlike b c → stands_by k t b ≡ stands_by k t c
stands_second kind.Interface t b c alike = rw alike.name refl
stands_second kind.Union t b c alike = rw (same_among (name_of t) b.members c.members alike.members) refl
stands_second kind.Scalar t b c alike = refl
stands_second kind.Object t b c alike = refl
stands_second kind.Enum t b c alike = refl
stands_second kind.InputObject t b c alike = refl

with_first : (t u : SchemaType) (p : Option SchemaType) → AreAlike t u → together (Some t) p ≡ together (Some u) p
unfolding together
with_first t u None alike = refl
with_first t u (Some b) alike = ap Some (stands_first b.kind t u b alike)

with_second : (o : Option SchemaType) (b c : SchemaType) → AreAlike b c → together o (Some b) ≡ together o (Some c)
unfolding together
with_second None b c alike = refl
with_second (Some t) b c alike = ap Some (ap (λ k. stands_by k t b) alike.kinds ∙ stands_second c.kind t b c alike)

-- what is kept after what is the same
kept_then : {A : Type 0} (m : Bool) (x y z : Option A) → IsKept m x y → IsKept m y z → IsKept m x z
kept_then m x y z (inl none) k = inl none
kept_then m x y z (inr e) (inl (may, none)) = inl (may, e ∙ none)
kept_then m x y z (inr e) (inr f) = inr (e ∙ f)

first_alike : (m : Bool) (o p q : Option SchemaType) → IsAlike m o p → IsKept m (together o q) (together p q)
unfolding together
first_alike m o p q (inl (may, none)) = inl (may, ap (λ x. together x q) none)
first_alike m o p q (inr (inl same)) = inr (ap (λ x. together x q) same)
first_alike m o p q (inr (inr (t, u, is, other, alike))) = inr (ap (λ x. together x q) is ∙ with_first t u q alike ∙ ap (λ x. together x q) (sym other))

with_none : (o : Option SchemaType) → together o None ≡ None
unfolding together
with_none None = refl
with_none (Some t) = refl

second_alike : (m : Bool) (o p q : Option SchemaType) → IsAlike m p q → IsKept m (together o p) (together o q)
second_alike m o p q (inl (may, none)) = inl (may, ap (λ x. together o x) none ∙ with_none o)
second_alike m o p q (inr (inl same)) = inr (ap (λ x. together o x) same)
second_alike m o p q (inr (inr (t, u, is, other, alike))) = inr (ap (λ x. together o x) is ∙ with_second o t u alike ∙ ap (λ x. together o x) (sym other))

-- the kind of a type, if there is one
abbrev kind_of : Option SchemaType → Option TypeKind
kind_of o = option_map (λ (t : SchemaType). t.kind) o

kept_kinds : (m : Bool) (o p : Option SchemaType) → IsAlike m o p → IsKept m (kind_of o) (kind_of p)
kept_kinds m o p (inl (may, none)) = inl (may, ap kind_of none)
kept_kinds m o p (inr (inl same)) = inr (ap kind_of same)
kept_kinds m o p (inr (inr (t, u, is, other, alike))) = inr (ap kind_of is ∙ ap Some alike.kinds ∙ ap kind_of (sym other))

no_interface : (t : SchemaType) → same_kind t.kind kind.Interface ≡ false → as_interface t ≡ None
no_interface t is = rw is refl

kept_as_interface : (m : Bool) (o p : Option SchemaType) → IsAlike m o p
    → (IsTrue m × (kind_of o ≡ None)) ⊎ (option_and_then as_interface o ≡ option_and_then as_interface p)
kept_as_interface m o p (inl (may, none)) = inl (may, ap kind_of none)
kept_as_interface m o p (inr (inl same)) = inr (ap (λ x. option_and_then as_interface x) same)
kept_as_interface m o p (inr (inr (t, u, is, other, alike))) = inr (
    ap (λ x. option_and_then as_interface x) is ∙ no_interface t alike.other
    ∙ sym (no_interface u (subst (λ k. same_kind k kind.Interface ≡ false) alike.kinds alike.other))
    ∙ ap (λ x. option_and_then as_interface x) (sym other))

kept_stand : (m : Bool) (a b : Schema) → ((q : List ℕ) → IsAlike m (type_named a q) (type_named b q)) → (n base : List ℕ) (e : Bool) → bytes_eq n base ≡ e
    → IsKept m (stands_for a n base) (stands_for b n base)
unfolding together
kept_stand m a b alike n base true is = rw is (inr refl)
kept_stand m a b alike n base false is = rw is (kept_then m
    (together (type_named a n) (type_named a base)) (together (type_named b n) (type_named a base)) (together (type_named b n) (type_named b base))
    (first_alike m (type_named a n) (type_named b n) (type_named a base) (alike n)) (second_alike m (type_named b n) (type_named a base) (type_named b base) (alike base)))

pub all_alike : (m : Bool) (a b : Schema) → ((q : List ℕ) → IsAlike m (type_named a q) (type_named b q)) → KeepsInterfaces m a b
all_alike m a b alike = record {
  kinds = λ n. kept_kinds m (type_named a n) (type_named b n) (alike n);
  interfaces = λ n. kept_as_interface m (type_named a n) (type_named b n) (alike n);
  stand = λ n base. kept_stand m a b alike n base (bytes_eq n base) refl;
}

-- with the names that are not edited
pub kept_interfaces : (m : Bool) (names : List (List ℕ)) (a b : Schema) → KeepsOthers names a b → KeepsOthers names b a
    → ((q : List ℕ) → is_some (find (bytes_eq q) names) ≡ true → IsAlike m (type_named a q) (type_named b q)) → KeepsInterfaces m a b
kept_interfaces m names a b keeps undone edited = all_alike m a b (λ q. by q (is_some (find (bytes_eq q) names)) refl)
  where
    by : (q : List ℕ) (e : Bool) → is_some (find (bytes_eq q) names) ≡ e → IsAlike m (type_named a q) (type_named b q)
    by q true is = edited q is
    by q false is = inr (inl (same_others names a b keeps undone q is))

-- ---- names one after the other

-- a name that is found among names with one more at the end
among_last : (names : List (List ℕ)) (x q : List ℕ) → is_some (find (bytes_eq q) (names ++ x ∷ [])) ≡ true → (is_some (find (bytes_eq q) names) ≡ true) ⊎ (q ≡ x)
among_last [] x q is = by (bytes_eq q x) refl is
  where
    by : (b : Bool) → bytes_eq q x ≡ b → is_some (find (bytes_eq q) (x ∷ [])) ≡ true → (is_some (find (bytes_eq q) []) ≡ true) ⊎ (q ≡ x)
    by true at is = inr (same_text q x at)
    by false at is = let none : false ≡ true = rw at at is in absurd (cc none)
among_last (n ∷ names) x q is = by (bytes_eq q n) refl is (among_last names x q)
  where
    by : (b : Bool) → bytes_eq q n ≡ b → is_some (find (bytes_eq q) (n ∷ (names ++ x ∷ []))) ≡ true
        → (is_some (find (bytes_eq q) (names ++ x ∷ [])) ≡ true → (is_some (find (bytes_eq q) names) ≡ true) ⊎ (q ≡ x)) → (is_some (find (bytes_eq q) (n ∷ names)) ≡ true) ⊎ (q ≡ x)
    by true at is rest = inl (rw at refl)
    by false at is rest =
        let later : is_some (find (bytes_eq q) (names ++ x ∷ [])) ≡ true = rw at at is in
        elim (rest later) [ inl e ↦ inl (rw at e) | inr e ↦ inr e ]

-- kinds that are said to be the same are
pub same_is : (a b : TypeKind) → same_kind a b ≡ true → a ≡ b
unfolding same_kind
same_is a b h = same_true the_kind.the_type (search rules) a b h

-- the names up to one more
pub alike_more : (m : Bool) (a b : Schema) (names : List (List ℕ)) (i : ℕ) (x : List ℕ) → i < length names → get_or names i x ≡ x
    → ((q : List ℕ) → is_some (find (bytes_eq q) (take i names)) ≡ true → IsAlike m (type_named a q) (type_named b q)) → IsAlike m (type_named a x) (type_named b x)
    → (q : List ℕ) → is_some (find (bytes_eq q) (take (i + 1) names)) ≡ true → IsAlike m (type_named a q) (type_named b q)
alike_more m a b names i x within item before now q is =
    let whole : take (i + 1) names ≡ take i names ++ x ∷ [] = take_more names i x within ∙ ap (λ z. take i names ++ z ∷ []) item in
    elim (among_last (take i names) x q (subst (λ ns. is_some (find (bytes_eq q) ns) ≡ true) whole is)) [
      | inl earlier ↦ before q earlier
      | inr same ↦ subst (λ z. IsAlike m (type_named a z) (type_named b z)) (sym same) now
    ]
