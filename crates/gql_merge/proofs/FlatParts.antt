-- The part of a field and of an inline fragment, by what the code adds.
use Rattle.std.specs.Prelude.{◌≡◌, ◌++◌, ℕ, List, Option, option_map}
use Rattle.std.proofs.Common.{ap, sym, ◌∙◌, subst}
use Rattle.gql_ast.specs.declared.executable.Field.{Field}
use Rattle.gql_ast.specs.declared.executable.InlineFragment.{InlineFragment}
use Rattle.gql_ast.specs.declared.executable.Selection.{Selection}
use Rattle.gql_ast.specs.declared.executable.Selection.TheVariants as s
use Rattle.gql_facts.specs.Nodes.{has_any, parent_below, parent_within}
use Rattle.gql_facts.specs.Worlds.{Facts}
use Rattle.gql_merge.proofs.Drawing.{grows_field}
use Rattle.gql_merge.specs.FieldSets.{known_info, part_field, part_in, part_inline, part_of_field, part_within, written_field}
use Rattle.gql_merge.specs.Flat.{AddsBelow, Grows, flat_if}
use Rattle.gql_merge.specs.Known.{info_in}
use Rattle.gql_merge.specs.declared.flat.FlatSet.{FlatSet}
use Rattle.gql_merge.specs.declared.known.KnownField.{KnownField}

pub inline_added : (F F1 : Facts) (file : List ℕ) (parent : Option (List ℕ)) (i : InlineFragment) (within : Option (List ℕ)) (set : List Selection)
    (sets after : List FlatSet) (own done : FlatSet) → F1 ≡ F → within ≡ parent_within F parent i.condition → set ≡ i.selections
    → Grows (part_within F1 file within set) sets own after done
    → Grows (part_in F file (s.InlineFragment i) parent) sets own after done
inline_added F F1 file parent i within set sets after own done same entered listed grows =
    subst (λ p. Grows p sets own after done)
    (ap (λ f. part_within f file within set) same ∙ ap (λ q. part_within F file q set) entered
    ∙ ap (part_within F file (parent_within F parent i.condition)) listed ∙ sym (part_inline F file i parent))
    grows

pub field_added : (F F1 : Facts) (file : List ℕ) (parent : Option (List ℕ)) (f : Field) (below : Option (List ℕ)) (set : List Selection)
    (known : Option KnownField) (number : Option ℕ) (sets after : List FlatSet) (own done : FlatSet)
    → F1 ≡ F → below ≡ parent_below F parent f.name.text → set ≡ f.selections
    → option_map info_in known ≡ known_info F file parent (written_field f)
    → AddsBelow (has_any set) (part_within F1 file below set) sets after number
    → done.names.items ≡ own.names.items → done.fields.items ≡ own.fields.items ++ flat_if known number
    → Grows (part_in F file (s.Field f) parent) sets own after done
field_added F F1 file parent f below set known number sets after own done same entered listed is added same_names more =
    let e = ap (λ g. part_of_field (known_info F file parent (written_field f)) (has_any set) (part_within g file below set)) same
    ∙ ap (λ q. part_of_field (known_info F file parent (written_field f)) (has_any set) (part_within F file q set)) entered
    ∙ ap (λ l. part_of_field (known_info F file parent (written_field f)) (has_any l) (part_within F file (parent_below F parent f.name.text) l)) listed
    ∙ sym (part_field F file f parent) in
    subst (λ p. Grows p sets own after done) e
    (grows_field (known_info F file parent (written_field f)) (has_any set) (part_within F1 file below set) known number sets after own done is added same_names more)
