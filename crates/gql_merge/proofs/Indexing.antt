-- The sets of fragments, and the numbers of their own sets.
use Rattle.std.specs.Prelude.{◌≡◌, ◌+◌, ◌<◌, ℕ, List, [], ◌∷◌, ◌++◌, flat_map, length, take, bytes_eq, cond, false, refl, Option, Some, None}
use Rattle.std.specs.List.{slice_get}
use Rattle.std.specs.Map.{update}
use Rattle.std.proofs.Common.{ap, sym, ◌∙◌, subst, inl, inr, get_or}
use Rattle.std.proofs.lemmas.List.{take_more}
use Rattle.std.proofs.lemmas.List.Elements.{Contains-append_left, Contains-append_right, Contains-append_cases}
use Rattle.std.proofs.lemmas.Slice.Eq.{bytes_eq-Decides}
use Rattle.gql_ast.specs.declared.definition.Definition.{Definition}
use Rattle.gql_ast.specs.declared.definition.Tree.TheVariants as tree
use Rattle.gql_ast.specs.declared.executable.Fragment.{Fragment}
use Rattle.gql_ast.specs.declared.executable.Operation.{Operation}
use Rattle.gql_facts.specs.ListMembers.{Contains-cases, Contains-here, Contains-nil, either}
use Rattle.gql_facts.specs.Worlds.{Facts}
use Rattle.gql_facts.specs.declared.fact.FragmentFact.{FragmentFact}
use Rattle.gql_merge.proofs.Appending.{append_assoc, append_end}
use Rattle.gql_merge.proofs.Drawing.{flat_end, get_more}
use Rattle.gql_merge.specs.FieldNodes.{SetNode}
use Rattle.gql_merge.specs.Flat.{AddsSet, Draws}
use Rattle.gql_merge.specs.Flattened.{AddsMember, AddsMembers, IsIndex, IsIndexAt, fragment_sets}
use Rattle.gql_merge.specs.FieldSets.{list_of}
use Rattle.gql_merge.specs.MergedNodes.{fragment_part, fragment_set, operation_part, sets_in, sets_of, tree_part}
use Rattle.gql_merge.specs.declared.flat.FlatSet.{FlatSet}

-- a number is right with more sets, and with a fragment more that has another name
index_more : (F : Facts) (ns ms : List SetNode) (members : List FragmentFact) (g : FragmentFact) (q : List ℕ) (o : Option ℕ)
    → bytes_eq g.fragment.name.text q ≡ false → IsIndexAt F ns members q o → IsIndexAt F (ns ++ ms) (members ++ g ∷ []) q o
index_more F ns ms members g q None other at = λ h c e. elim (Contains-append_cases members (g ∷ []) h c) [
  | inl a ↦ at h a e
  | inr b ↦ elim (Contains-cases h g [] b) [
    | inl same ↦ absurd (let t = (bytes_eq-Decides g.fragment.name.text q).1 (ap (λ x. x.fragment.name.text) (sym same) ∙ e) in cc)
    | inr t ↦ absurd (Contains-nil h t)
  ]
]
index_more F ns ms members g q (Some i) other at =
    (at.0, Contains-append_left members (g ∷ []) at.0 at.1, at.2, get_more ns ms i (fragment_set F at.0) at.3)

index_here : (F : Facts) (ns : List SetNode) (members : List FragmentFact) (g : FragmentFact) (q : List ℕ) (i : ℕ)
    → g.fragment.name.text ≡ q → slice_get ns i ≡ Some (fragment_set F g) → IsIndexAt F ns (members ++ g ∷ []) q (Some i)
index_here F ns members g q i e is = (g, Contains-append_right members (g ∷ []) g (Contains-here g []), e, is)

pub member_added : (F F1 : Facts) (g : FragmentFact) (sets after : List FlatSet) (f h : List ℕ → Option ℕ) (bs : List ℕ) (i : ℕ)
    → F1 ≡ F → AddsSet (fragment_part F g.file g.fragment) sets after i → bs ≡ g.fragment.name.text
    → ((q : List ℕ) → h q ≡ update bytes_eq f bs (Some i) q)
    → AddsMember F g sets f after h
member_added F F1 g sets after f h bs i same added named is before members drawn index =
    let r = added before drawn in
    let ns = before ++ fragment_sets F g in (
      r.0,
      λ q. elim (either (bytes_eq bs q)) [
        | inl t ↦ subst (IsIndexAt F ns (members ++ g ∷ []) q) (sym (is q ∙ ap (λ b. cond b (Some i) (f q)) t))
            (index_here F ns members g q i (sym named ∙ (bytes_eq-Decides bs q).0 t) r.1)
        | inr n ↦ subst (IsIndexAt F ns (members ++ g ∷ []) q) (sym (is q ∙ ap (λ b. cond b (Some i) (f q)) n))
            (index_more F before (fragment_sets F g) members g q (f q) (ap (λ x. bytes_eq x q) (sym named) ∙ n) (index q))
      ],
    )

-- the sets of a definition
pub own_operation : (F : Facts) (d : Definition) (o o' : Operation) (old sets : List FlatSet) (i : ℕ) → d.tree ≡ tree.Operation o → o' ≡ o → old ≡ []
    → AddsSet (operation_part F d.file o') old sets i → Draws sets (sets_in F d)
own_operation F d o o' old sets i is same empty added =
    let r = (added [] (subst (λ l. Draws l []) (sym empty) tt)).0 in
    subst (λ t. Draws sets (flat_map sets_of (list_of (tree_part F d.file t)))) (sym is)
    (subst (Draws sets) (sym (append_end (sets_of (operation_part F d.file o)))) (subst (λ x. Draws sets (sets_of (operation_part F d.file x))) same r))

pub own_fragment : (F : Facts) (d : Definition) (o o' : Fragment) (old sets : List FlatSet) (i : ℕ) → d.tree ≡ tree.Fragment o → o' ≡ o → old ≡ []
    → AddsSet (fragment_part F d.file o') old sets i → Draws sets (sets_in F d)
own_fragment F d o o' old sets i is same empty added =
    let r = (added [] (subst (λ l. Draws l []) (sym empty) tt)).0 in
    subst (λ t. Draws sets (flat_map sets_of (list_of (tree_part F d.file t)))) (sym is)
    (subst (Draws sets) (sym (append_end (sets_of (fragment_part F d.file o)))) (subst (λ x. Draws sets (sets_of (fragment_part F d.file x))) same r))

-- no fragments
pub members_none : (F : Facts) (sets : List FlatSet) (f : List ℕ → Option ℕ) → ((q : List ℕ) → f q ≡ None) → AddsMembers F [] sets sets f
members_none F sets f none before drawn =
    (subst (Draws sets) (sym (append_end before)) drawn, λ q. subst (IsIndexAt F (before ++ []) [] q) (sym (none q)) (λ g c e. Contains-nil g c))

-- one more
pub members_more : (F F1 : Facts) (gs : List FragmentFact) (i : ℕ) (g : FragmentFact) (s0 s1 s2 : List FlatSet) (f h : List ℕ → Option ℕ)
    → i < length gs → get_or gs i g ≡ g → F1 ≡ F
    → AddsMembers F (take i gs) s0 s1 f → AddsMember F1 g s1 f s2 h
    → AddsMembers F (take (i + 1) gs) s0 s2 h
members_more F F1 gs i g s0 s1 s2 f h within item same before step own drawn =
    let r = before own drawn in
    let step' : AddsMember F g s1 f s2 h = subst (λ x. AddsMember x g s1 f s2 h) same step in
    let t = step' (own ++ flat_map (fragment_sets F) (take i gs)) (take i gs) r.0 r.1 in
    let taken : take (i + 1) gs ≡ take i gs ++ g ∷ [] = take_more gs i g within ∙ ap (λ y. take i gs ++ y ∷ []) item in
    let all : (own ++ flat_map (fragment_sets F) (take i gs)) ++ fragment_sets F g ≡ own ++ flat_map (fragment_sets F) (take i gs ++ g ∷ []) =
    append_assoc own (flat_map (fragment_sets F) (take i gs)) (fragment_sets F g)
    ∙ ap (λ l. own ++ l) (sym (flat_end (fragment_sets F) (take i gs) g)) in
    subst (λ l. Draws s2 (own ++ flat_map (fragment_sets F) l) × IsIndex F (own ++ flat_map (fragment_sets F) l) l h) (sym taken)
    (subst (Draws s2) all t.0, subst (λ l. IsIndex F l (take i gs ++ g ∷ []) h) all t.1)

-- the fragment as it is read
pub member_from : (F : Facts) (g : FragmentFact) (fragment : Fragment) (sets after : List FlatSet) (f h : List ℕ → Option ℕ) (bs : List ℕ) (i : ℕ)
    → fragment ≡ g.fragment → AddsSet (fragment_part F g.file fragment) sets after i → bs ≡ fragment.name.text
    → ((q : List ℕ) → h q ≡ update bytes_eq f bs (Some i) q)
    → AddsMember F g sets f after h
member_from F g fragment sets after f h bs i same added named is =
    member_added F F g sets after f h bs i refl
    (subst (λ x. AddsSet (fragment_part F g.file x) sets after i) same added)
    (named ∙ ap (λ x. x.name.text) same) is
