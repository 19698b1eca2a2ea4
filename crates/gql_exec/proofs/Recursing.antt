-- What completing is at each form of a type and of a value, where the execution recurses.
use Rattle.std.proofs.Common.{◌≡◌, ℕ, List, false, Some, Result, sym, ap, subst, ◌∙◌}
use Rattle.gql_inputs.specs.InputTypes.{item_of, name_in}
use Rattle.gql_collect.specs.Nodes.{FileSelection}
use Rattle.gql_types.specs.Schemas.{kind_named}
use Rattle.gql_types.specs.Written.{Written, named, listed}
use Rattle.serde_json.specs.Data as json
use Rattle.serde_json.specs.Data.{Data}
use Rattle.serde_json.specs.View.{items_of}
use Rattle.gql_steps.specs.Execution.{complete, is_null, of_kind, on_list}
use Rattle.gql_steps.specs.Plans.{Basis, types_of}
use Rattle.gql_steps.specs.States.{path_of}
use Rattle.gql_steps.specs.Texts.{value_part}
use Rattle.gql_steps.specs.ValueParts.{Does, IsAsked, item_at, list_part, site_of}
use Rattle.gql_steps.specs.declared.ended.Ended.{Ended}
use Rattle.gql_steps.specs.declared.refusal.ExecRefusal.{ExecRefusal}
use Rattle.gql_steps.specs.declared.run.Run.{Run}
use Rattle.gql_steps.specs.declared.site.Site.{Site as FieldSite}
use Rattle.gql_steps.proofs.Completing.{items_at, list_is, present_list, present_named}
use Rattle.gql_steps.proofs.Executing.{as_part}

module _ (g : Basis) (here : FieldSite) (xs : List FileSelection) (result : Result Ended ExecRefusal) (s u : Run) where
  pub at_named : (t : Written) (n : List ℕ) (d : Data) → t ≡ named n → is_null d ≡ false
      → Does g here n xs (λ site. value_part (of_kind site n (path_of s) d (kind_named g.given.schema n))) result s u
      → Does g here (name_in t) xs (λ site. value_part (complete site t (path_of s) d)) result s u
  at_named t n d e null h = subst (λ w. Does g here (name_in w) xs (λ site. value_part (complete site w (path_of s) d)) result s u) (sym e)
      (λ x i. as_part (value_part (complete (site_of (types_of g) here.place x) (named n) (path_of s) d))
      (value_part (of_kind (site_of (types_of g) here.place x) n (path_of s) d (kind_named g.given.schema n))) result s u
      (ap value_part (present_named (site_of (types_of g) here.place x) (path_of s) n d null)) (h x i))

  pub at_list : (t v : Written) (d : Data) → t ≡ listed v → is_null d ≡ false
      → Does g here (name_in v) xs (λ site. value_part (on_list site (item_at site v) (path_of s) d)) result s u
      → Does g here (name_in t) xs (λ site. value_part (complete site t (path_of s) d)) result s u
  at_list t v d e null h = subst (λ w. Does g here (name_in w) xs (λ site. value_part (complete site w (path_of s) d)) result s u) (sym e)
      (λ x i. as_part (value_part (complete (site_of (types_of g) here.place x) (listed v) (path_of s) d))
      (value_part (on_list (site_of (types_of g) here.place x) (item_at (site_of (types_of g) here.place x) v) (path_of s) d)) result s u
      (ap value_part (present_list (site_of (types_of g) here.place x) (path_of s) v d null)) (h x i))

  -- a list whose items are these
  pub at_array : (v : Written) (d : Data) (ds : List Data) → d ≡ json.array (items_of ds)
      → Does g here (name_in v) xs (λ site. list_part v site ds (path_of s)) result s u
      → Does g here (name_in v) xs (λ site. value_part (on_list site (item_at site v) (path_of s) d)) result s u
  at_array v d ds e h = λ x i. as_part (value_part (on_list (site_of (types_of g) here.place x) (item_at (site_of (types_of g) here.place x) v) (path_of s) d))
      (list_part v (site_of (types_of g) here.place x) ds (path_of s)) result s u
      (ap (λ y. value_part (on_list (site_of (types_of g) here.place x) (item_at (site_of (types_of g) here.place x) v) (path_of s) y)) e
      ∙ list_is (site_of (types_of g) here.place x) v (path_of s) ds) (h x i)

  -- items that arguments keep
  pub at_items : (t v : Written) (d : Data) (ds : List Data) → item_of t ≡ Some v → name_in v ≡ name_in t → d ≡ json.array (items_of ds)
      → Does g here (name_in v) xs (λ site. list_part v site ds (path_of s)) result s u
      → Does g here (name_in t) xs (λ site. value_part (complete site t (path_of s) d)) result s u
  at_items t v d ds e name is h = λ x i. as_part (value_part (complete (site_of (types_of g) here.place x) t (path_of s) d))
      (list_part v (site_of (types_of g) here.place x) ds (path_of s)) result s u
      (ap (λ y. value_part (complete (site_of (types_of g) here.place x) t (path_of s) y)) is
      ∙ ap value_part (items_at (site_of (types_of g) here.place x) (path_of s) t v (items_of ds) e) ∙ list_is (site_of (types_of g) here.place x) v (path_of s) ds)
      (h x (subst (λ n. IsAsked g here n xs x) (sym name) i))
