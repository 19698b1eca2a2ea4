-- Two types have the same shape exactly if their shapes have one text.
use Rattle.std.proofs.Common.{◌≡◌, ◌⊎◌, inl, inr, ℕ, length, List, [], ◌∷◌, ◌++◌, true, false, Option, Some, None, refl, sym, ap, ◌∙◌, subst, arith, true≢false}
use Rattle.std.specs.Prelude.{flat_map}
use Rattle.std.proofs.lemmas.Slice.Eq.{bytes_eq-Decides}
use Rattle.gql_text.specs.Chars.{is_name_start}
use Rattle.gql_text.specs.Grammar.{IsName}
use Rattle.gql_types.specs.Written.{Written, named, listed, required}
use Rattle.gql_types.specs.WrittenTypes.{typed, typed_of}
use Rattle.gql_types.specs.declared.kind.TypeKind.{TypeKind}
use Rattle.gql_types.specs.declared.kind.TypeKind.TheVariants as kind
use Rattle.gql_types.specs.declared.written_type.Wrapper.{Wrapper}
use Rattle.gql_types.specs.declared.written_type.Wrapper.TheVariants as wrapper
use Rattle.gql_types.specs.declared.written_type.WrittenType.{WrittenType}
use Rattle.gql_rules.specs.Answers.{kind_of}
use Rattle.gql_merge.specs.FieldNodes.{FieldInfo}
use Rattle.gql_merge.specs.Shapes.{step_text, leaf_text}
use Rattle.gql_cases.specs.SameShapes.{is_leaf, SameShape, non_nulls, lists, one_leaf, composites, SharedShapeIsSameShape}
use Rattle.gql_cases.proofs.Words.{same_head, same_tail}

-- what the shape of a named type has of its name
by_kind : (k : Option TypeKind) (n : List ℕ)
    → ((is_leaf k ≡ true) × (leaf_text k n ≡ n)) ⊎ ((is_leaf k ≡ false) × (leaf_text k n ≡ []))
by_kind None n = inr (refl, refl)
by_kind (Some kind.Scalar) n = inl (refl, refl)
by_kind (Some kind.Enum) n = inl (refl, refl)
by_kind (Some _) n = inr (refl, refl)

module _ (k : List ℕ → Option TypeKind) where
  -- the text of the shape of a type
  abbrev text_of : Written → List ℕ
  text_of (named n) = leaf_text (k n) n
  text_of (listed t) = 91 ∷ text_of t
  text_of (required t) = 33 ∷ text_of t

  -- the name within a type is a name
  abbrev IsOfName : Written → Type 0
  IsOfName (named n) = IsName n
  IsOfName (listed t) = IsOfName t
  IsOfName (required t) = IsOfName t

  shape_is : (ws : List Wrapper) (n : List ℕ)
      → flat_map step_text ws ++ leaf_text (k n) n ≡ text_of (typed ws (named n))
  shape_is [] n = refl
  shape_is (wrapper.List ∷ ws) n = ap (λ t. 91 ∷ t) (shape_is ws n)
  shape_is (wrapper.NonNull ∷ ws) n = ap (λ t. 33 ∷ t) (shape_is ws n)

  name_within : (ws : List Wrapper) (n : List ℕ) → IsName n → IsOfName (typed ws (named n))
  name_within [] n h = h
  name_within (wrapper.List ∷ ws) n h = name_within ws n h
  name_within (wrapper.NonNull ∷ ws) n h = name_within ws n h

  one_text : (t u : Written) → SameShape k t u → text_of t ≡ text_of u
  one_text _ _ (non_nulls {t = t} {u = u} h) = ap (λ x. 33 ∷ x) (one_text t u h)
  one_text _ _ (lists {t = t} {u = u} h) = ap (λ x. 91 ∷ x) (one_text t u h)
  one_text _ _ (one_leaf h) = refl
  one_text _ _ (composites {n = n} {m = m} g h) = empty n g ∙ sym (empty m h) where
    empty : (n : List ℕ) → is_leaf (k n) ≡ false → leaf_text (k n) n ≡ []
    empty n h = elim (by_kind (k n) n) [ inl r ↦ absurd (true≢false (sym r.0 ∙ h)) | inr r ↦ r.1 ]

  -- no name is empty, and none begins with a byte at which no name starts
  not_empty : (n : List ℕ) → IsName n → n ≡ [] → ⊥
  not_empty n h e =
      let bad : h.first ∷ h.rest ≡ [] = sym h.parts ∙ e in absurd (apart h.first h.rest bad) where
        apart : (b : ℕ) (bs : List ℕ) → b ∷ bs ≡ [] → ⊥
        apart b bs e = let f = ap length e in omega (arith, f)

  not_mark : (n : List ℕ) (b : ℕ) (bs : List ℕ) → is_name_start b ≡ false → IsName n
      → leaf_text (k n) n ≡ b ∷ bs → ⊥
  not_mark n b bs other h e = elim (by_kind (k n) n) [
    | inl r ↦ true≢false (sym h.starts ∙ ap is_name_start (same_head h.first b h.rest bs (sym h.parts ∙ sym r.1 ∙ e)) ∙ other)
    | inr r ↦ let f = ap length (sym r.1 ∙ e) in omega (arith, f)
  ]

  same_named : (n m : List ℕ) → IsName n → IsName m → leaf_text (k n) n ≡ leaf_text (k m) m
      → SameShape k (named n) (named m)
  same_named n m p q e = elim (by_kind (k n) n) [
    | inl r ↦ elim (by_kind (k m) m) [
      | inl s ↦ subst (λ z. SameShape k (named n) (named z)) (sym r.1 ∙ e ∙ s.1) (one_leaf r.0)
      | inr s ↦ absurd (not_empty n p (sym r.1 ∙ e ∙ s.1))
    ]
    | inr r ↦ elim (by_kind (k m) m) [
      | inl s ↦ absurd (not_empty m q (sym s.1 ∙ sym e ∙ r.1))
      | inr s ↦ composites r.0 s.0
    ]
  ]

  one_shape : (t u : Written) → IsOfName t → IsOfName u → text_of t ≡ text_of u → SameShape k t u
  one_shape (named n) (named m) p q e = same_named n m p q e
  one_shape (named n) (listed u) p q e = absurd (not_mark n 91 (text_of u) refl p e)
  one_shape (named n) (required u) p q e = absurd (not_mark n 33 (text_of u) refl p e)
  one_shape (listed t) (named m) p q e = absurd (not_mark m 91 (text_of t) refl q (sym e))
  one_shape (listed t) (listed u) p q e =
      lists (one_shape t u p q (same_tail 91 91 (text_of t) (text_of u) e))
  one_shape (listed t) (required u) p q e =
      absurd (let f = same_head 91 33 (text_of t) (text_of u) e in omega (arith, f))
  one_shape (required t) (named m) p q e = absurd (not_mark m 33 (text_of t) refl q (sym e))
  one_shape (required t) (listed u) p q e =
      absurd (let f = same_head 33 91 (text_of t) (text_of u) e in omega (arith, f))
  one_shape (required t) (required u) p q e =
      non_nulls (one_shape t u p q (same_tail 33 33 (text_of t) (text_of u) e))

pub shared_shape_is_same_shape : SharedShapeIsSameShape
shared_shape_is_same_shape facts f g x y a b p q =
    let k = kind_of facts in
    let t : WrittenType = a.definition.of_type in
    let u : WrittenType = b.definition.of_type in
    let e : x.its.shape ≡ text_of k (typed_of t) =
    ap (λ (i : FieldInfo). i.shape) a.is ∙ shape_is k t.wrappers t.name in
    let h : y.its.shape ≡ text_of k (typed_of u) = ap (λ (i : FieldInfo). i.shape) b.is ∙ shape_is k u.wrappers u.name in (
      λ same. one_shape k (typed_of t) (typed_of u) (name_within k t.wrappers t.name p) (name_within k u.wrappers u.name q)
          (sym e ∙ (bytes_eq-Decides x.its.shape y.its.shape).0 same ∙ h),
      λ same. (bytes_eq-Decides x.its.shape y.its.shape).1 (e ∙ one_text k (typed_of t) (typed_of u) same ∙ sym h),
    )
