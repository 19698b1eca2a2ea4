-- The selection sets of a definition (GraphQL 5.3.2). What is in an inline fragment is part of the
-- set around it. A field whose definition is not known takes no part, but the set that it selects
-- does: within it, an inline fragment with a condition has a known type again.
use Rattle.std.specs.Prelude.{◌≡◌, ℕ, List, [], ◌∷◌, ◌++◌, map, flat_map, Bool, true, false, Option, Some, None, option_map, refl}
use Rattle.std.proofs.Common.{ap, sym, ◌∙◌}
use Rattle.gql_ast.specs.declared.executable.Field.{Field}
use Rattle.gql_ast.specs.declared.executable.InlineFragment.{InlineFragment}
use Rattle.gql_ast.specs.declared.executable.Selection.{Selection, fold-Selection}
use Rattle.gql_ast.specs.declared.executable.Selection.TheFolds.{fold-roll-Selection, fold_out-Field, fold_out-InlineFragment}
use Rattle.gql_ast.specs.declared.executable.Selection.TheOpen.{Selection-F, Field-F, InlineFragment-F}
use Rattle.gql_ast.specs.declared.executable.Selection.TheVariants as s
use Rattle.gql_ast.specs.declared.executable.Spread.{Spread}
use Rattle.gql_ast.specs.declared.literal.Argument.{Argument}
use Rattle.gql_ast.specs.declared.text.Name.{Name}
use Rattle.gql_types.specs.declared.kind.TypeKind.{TypeKind}
use Rattle.gql_types.specs.declared.kind.TypeKind.TheVariants as kind
use Rattle.gql_facts.specs.Nodes.{has_any, parent_below, parent_within}
use Rattle.gql_facts.specs.Worlds.{Facts}
use Rattle.gql_facts.specs.declared.fact.FieldFact.{FieldFact}
use Rattle.gql_rules.specs.Answers.{field_of, kind_of}
use Rattle.gql_merge.specs.Calls.{call_text}
use Rattle.gql_merge.specs.FieldNodes.{FieldInfo, FieldNode, SetNode, selection_set, listed}
use Rattle.gql_merge.specs.Shapes.{shape_text}

-- ---- a field

-- a field as it is written, without what it selects
pub record WrittenField : Type 0 where
  pub alias : Option Name
  pub name : Name
  pub arguments : List Argument

-- the response name of a field: its alias, or its name if it has none
abbrev pub own_name : Option Name → Name → Name
own_name None name = name
own_name (Some alias) name = alias

-- whether this is the kind of objects
abbrev pub is_object : Option TypeKind → Bool
is_object (Some kind.Object) = true
is_object _ = false

-- What is compared of a field of the type `parent`, whose definition is d; `own` is the kind of the
-- parent and `of_field` that of the field's type.
abbrev pub info_by : List ℕ → List ℕ → WrittenField → FieldFact → Option TypeKind
    → Option TypeKind → FieldInfo
info_by file parent f d own of_field = record {
  file = file;
  start = (own_name f.alias f.name).place;
  response_name = (own_name f.alias f.name).text;
  parent = parent;
  of_object = is_object own;
  call = call_text f.name.text f.arguments;
  shape = shape_text d.of_type of_field;
}

-- what is compared of a field of the type `parent`, whose definition is d
abbrev pub info_of : Facts → List ℕ → List ℕ → WrittenField → FieldFact → FieldInfo
info_of facts file parent f d =
    info_by file parent f d (kind_of facts parent) (kind_of facts d.of_type.name)

-- what is compared of a field, or none if its definition is not known
abbrev pub known_info : Facts → List ℕ → Option (List ℕ) → WrittenField → Option FieldInfo
known_info facts file None f = None
known_info facts file (Some t) f =
    option_map (info_of facts file t f) (field_of facts (Some t) f.name.text)

-- ---- parts

-- what a selection gives to the set around it, and the sets within it
pub record Part : Type 0 where
  pub fields : List FieldNode
  pub names : List (List ℕ)
  pub sets : List SetNode

-- parts together
abbrev pub joined : List Part → Part
joined parts = record {
  fields = flat_map (λ (p : Part). p.fields) parts;
  names = flat_map (λ (p : Part). p.names) parts;
  sets = flat_map (λ (p : Part). p.sets) parts;
}

-- the selection set of these parts
abbrev pub set_of : Part → SetNode
set_of p = selection_set (listed p.fields) p.names

-- the set that a field selects, if it selects anything
abbrev pub set_if : Bool → Part → Option SetNode
set_if true p = Some (set_of p)
set_if false p = None

-- an optional value as a list
abbrev pub list_of : {A : Type 0} → Option A → List A
list_of None = []
list_of (Some x) = x ∷ []

-- the field of this info, if its definition is known
abbrev pub field_if : Option FieldInfo → Option SetNode → List FieldNode
field_if None below = []
field_if (Some i) below = record { its = i; below = below } ∷ []

-- the part of a field, from what is known of it, whether it selects anything, and what it selects
abbrev pub part_of_field : Option FieldInfo → Bool → Part → Part
part_of_field known selects p = record {
  fields = field_if known (set_if selects p);
  names = [];
  sets = p.sets ++ list_of (set_if selects p);
}

-- the part of a spread of the fragment of this name
abbrev pub part_of_spread : List ℕ → Part
part_of_spread name = record { fields = []; names = name ∷ []; sets = [] }

-- ---- selections

-- a part, by the parent type of the set around it
abbrev pub ByParent : Type 0
ByParent = Option (List ℕ) → Part

-- the parts together, with this parent type
abbrev pub all_by : Option (List ℕ) → List ByParent → Part
all_by parent parts = joined (map (λ by. by parent) parts)

-- the part of a selection of this form, from that of a field or an inline fragment
abbrev pub part_at : Selection-F ByParent ByParent ByParent → ByParent
part_at (Selection-F.Field below) parent = below parent
part_at (Selection-F.Spread x) parent = part_of_spread x.name.text
part_at (Selection-F.InlineFragment below) parent = below parent

-- the part of a field, from the parts of what it selects
abbrev pub field_part : Facts → List ℕ → Field-F ByParent ByParent ByParent → ByParent
field_part facts file f parent = part_of_field
    (known_info facts file parent
    (record { alias = f.alias; name = f.name; arguments = f.arguments })) (has_any f.selections)
    (all_by (parent_below facts parent f.name.text) f.selections)

-- the part of an inline fragment, from the parts of what it selects
abbrev pub inline_part : Facts → InlineFragment-F ByParent ByParent ByParent → ByParent
inline_part facts i parent = all_by (parent_within facts parent i.condition) i.selections

-- the part of a selection
unfoldable pub part_in : Facts → List ℕ → Selection → ByParent
part_in facts file = fold-Selection ByParent ByParent ByParent part_at (field_part facts file)
    (inline_part facts)

-- the part of all selections of a set
abbrev pub part_within : Facts → List ℕ → Option (List ℕ) → List Selection → Part
part_within facts file parent xs = joined (map (λ x. part_in facts file x parent) xs)

-- ---- the part of each form of a selection

-- a field of a tree as it is written, without what it selects
abbrev pub written_field : Field → WrittenField
written_field f = record { alias = f.alias; name = f.name; arguments = f.arguments }

all_map : (parent : Option (List ℕ)) (f : Selection → ByParent) (xs : List Selection)
    → map (λ by. by parent) (map f xs) ≡ map (λ x. f x parent) xs
all_map parent f [] = refl
all_map parent f (x ∷ xs) = ap (λ r. f x parent ∷ r) (all_map parent f xs)

any_map : {A B : Type 0} (f : A → B) (xs : List A) → has_any (map f xs) ≡ has_any xs
any_map f [] = refl
any_map f (x ∷ xs) = refl

module _ (facts : Facts) (file : List ℕ) where
  pub part_spread : (x : Spread) (parent : Option (List ℕ))
      → part_in facts file (s.Spread x) parent ≡ part_of_spread x.name.text
  unfolding part_in
  part_spread x parent = ap (λ y. part_in facts file y parent) (sym (s.rolls-Spread x))
      ∙ ap (λ by. by parent)
      (fold-roll-Selection ByParent ByParent ByParent part_at (field_part facts file)
      (inline_part facts) (Selection-F.Spread x))

  pub part_field : (f : Field) (parent : Option (List ℕ))
      → part_in facts file (s.Field f) parent
      ≡ part_of_field (known_info facts file parent (written_field f)) (has_any f.selections)
      (part_within facts file (parent_below facts parent f.name.text) f.selections)
  unfolding part_in
  part_field f parent = ap (λ y. part_in facts file y parent) (sym (s.rolls-Field f))
      ∙ ap (λ by. by parent)
      (fold-roll-Selection ByParent ByParent ByParent part_at (field_part facts file)
      (inline_part facts) (Selection-F.Field f)
      ∙ fold_out-Field ByParent ByParent ByParent part_at (field_part facts file)
      (inline_part facts) f)
      ∙ ap (λ e. part_of_field (known_info facts file parent (written_field f)) e
      (all_by (parent_below facts parent f.name.text) (map (part_in facts file) f.selections)))
      (any_map (part_in facts file) f.selections)
      ∙ ap (λ r. part_of_field (known_info facts file parent (written_field f))
      (has_any f.selections) (joined r))
      (all_map (parent_below facts parent f.name.text) (part_in facts file) f.selections)

  pub part_inline : (i : InlineFragment) (parent : Option (List ℕ))
      → part_in facts file (s.InlineFragment i) parent
      ≡ part_within facts file (parent_within facts parent i.condition) i.selections
  unfolding part_in
  part_inline i parent = ap (λ y. part_in facts file y parent) (sym (s.rolls-InlineFragment i))
      ∙ ap (λ by. by parent)
      (fold-roll-Selection ByParent ByParent ByParent part_at (field_part facts file)
      (inline_part facts) (Selection-F.InlineFragment i)
      ∙ fold_out-InlineFragment ByParent ByParent ByParent part_at (field_part facts file)
      (inline_part facts) i)
      ∙ ap joined
      (all_map (parent_within facts parent i.condition) (part_in facts file) i.selections)
