-- The sets below the fields of a definition are among its sets.
use Rattle.std.specs.Prelude.{◌≡◌, ℕ, List, [], ◌∷◌, ◌++◌, Bool, true, false, Option, Some, None, Contains}
use Rattle.std.proofs.Common.{ap, sym, ◌∙◌, subst, inl, inr}
use Rattle.std.proofs.lemmas.List.Elements.{Contains-append_left, Contains-append_right, Contains-append_cases}
use Rattle.gql_ast.specs.declared.executable.Field.{Field}
use Rattle.gql_ast.specs.declared.executable.InlineFragment.{InlineFragment}
use Rattle.gql_ast.specs.declared.executable.Selection.{Selection}
use Rattle.gql_ast.specs.declared.executable.Selection.TheVariants as s
use Rattle.gql_ast.specs.declared.executable.Spread.{Spread}
use Rattle.gql_facts.proofs.Trees.{Each, by_set}
use Rattle.gql_facts.specs.ListMembers.{Contains-cases, Contains-here, Contains-nil, some_same}
use Rattle.gql_facts.specs.Nodes.{has_any, parent_below, parent_within}
use Rattle.gql_facts.specs.Worlds.{Facts}
use Rattle.gql_merge.specs.FieldNodes.{FieldInfo, FieldNode, SetNode, direct, fields_listed}
use Rattle.gql_merge.specs.FieldSets.{Part, field_if, known_info, part_field, part_in, part_inline, part_of_field, part_spread, part_within, set_of, written_field}
use Rattle.gql_merge.specs.MergedNodes.{sets_of}

-- the sets below some fields are among these
abbrev pub AreBelow : List SetNode → List FieldNode → Type 0
AreBelow sets fields = (f : FieldNode) → Contains fields f → (t : SetNode) → f.below ≡ Some t → Contains sets t

pub record IsClosed (p : Part) : Type 0 where
  pub fields : AreBelow p.sets p.fields
  pub sets : (t : SetNode) → Contains p.sets t → AreBelow p.sets (direct t)

-- so are those of its own set
pub own_closed : (p : Part) → IsClosed p → (t : SetNode) → Contains (sets_of p) t → AreBelow (sets_of p) (direct t)
own_closed p c t h f g b e = Contains-append_left p.sets (set_of p ∷ []) b (elim (Contains-append_cases p.sets (set_of p ∷ []) t h) [
  | inl i ↦ c.sets t i f g b e
  | inr o ↦ elim (Contains-cases t (set_of p) [] o) [
    | inl same ↦ c.fields f (subst (λ l. Contains l f) (ap direct same ∙ fields_listed p.fields) g) b e
    | inr n ↦ absurd (Contains-nil t n)
  ]
])

known_closed : (known : Option FieldInfo) (below : Option SetNode) (sets : List SetNode) → ((t : SetNode) → below ≡ Some t → Contains sets t) → AreBelow sets (field_if known below)
known_closed None below sets h = λ f c. absurd (Contains-nil f c)
known_closed (Some i) below sets h = λ f c t e. elim (Contains-cases f (record { its = i; below = below }) [] c) [
  | inl same ↦ h t (sym (ap (λ x. x.below) same) ∙ e)
  | inr n ↦ absurd (Contains-nil f n)
]

field_closed : (known : Option FieldInfo) (selects : Bool) (p : Part) → IsClosed p → IsClosed (part_of_field known selects p)
field_closed known true p c = record {
  fields = known_closed known (Some (set_of p)) (sets_of p) (λ t e. Contains-append_right p.sets (set_of p ∷ []) t (subst (λ x. Contains (set_of p ∷ []) x) (some_same (set_of p) t e) (Contains-here (set_of p) [])));
  sets = own_closed p c;
}
field_closed known false p c = record {
  fields = known_closed known None (p.sets ++ []) (λ t e. absurd (let h : None ≡ Some t = e in cc));
  sets = λ t h f g b e. Contains-append_left p.sets [] b (elim (Contains-append_cases p.sets [] t h) [
    | inl i ↦ c.sets t i f g b e
    | inr o ↦ absurd (Contains-nil t o)
  ]);
}

module _ (F : Facts) (file : List ℕ) where
  abbrev Closes : Selection → Type 0
  Closes x = (parent : Option (List ℕ)) → IsClosed (part_in F file x parent)

  set_closed : (xs : List Selection) (parent : Option (List ℕ)) → Each Closes xs → IsClosed (part_within F file parent xs)
  set_closed [] parent each = record {
    fields = λ f c. absurd (Contains-nil f c);
    sets = λ t c. absurd (Contains-nil t c);
  }
  set_closed (x ∷ xs) parent each =
      let p = part_in F file x parent in
      let rest = part_within F file parent xs in
      let a = each.0 parent in
      let b = set_closed xs parent each.1 in
      record {
        fields = λ f c t e. elim (Contains-append_cases p.fields rest.fields f c) [
          | inl i ↦ Contains-append_left p.sets rest.sets t (a.fields f i t e)
          | inr o ↦ Contains-append_right p.sets rest.sets t (b.fields f o t e)
        ];
        sets = λ k c f g t e. elim (Contains-append_cases p.sets rest.sets k c) [
          | inl i ↦ Contains-append_left p.sets rest.sets t (a.sets k i f g t e)
          | inr o ↦ Contains-append_right p.sets rest.sets t (b.sets k o f g t e)
        ];
      }

  at_field : (f : Field) → Each Closes f.selections → Closes (s.Field f)
  at_field f each parent = subst IsClosed (sym (part_field F file f parent))
      (field_closed (known_info F file parent (written_field f)) (has_any f.selections) (part_within F file (parent_below F parent f.name.text) f.selections)
      (set_closed f.selections (parent_below F parent f.name.text) each))

  at_inline : (i : InlineFragment) → Each Closes i.selections → Closes (s.InlineFragment i)
  at_inline i each parent = subst IsClosed (sym (part_inline F file i parent)) (set_closed i.selections (parent_within F parent i.condition) each)

  at_spread : (x : Spread) → Closes (s.Spread x)
  at_spread x parent = subst IsClosed (sym (part_spread F file x parent)) (record {
    fields = λ f c. absurd (Contains-nil f c);
    sets = λ t c. absurd (Contains-nil t c);
  })

  pub closed : (parent : Option (List ℕ)) (xs : List Selection) → IsClosed (part_within F file parent xs)
  closed parent xs = set_closed xs parent (by_set Closes at_field at_spread at_inline xs)
