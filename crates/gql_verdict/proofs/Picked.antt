-- Definitions that are picked from a list in file order: no two of them have the same file and offset.
use Rattle.std.specs.Prelude.{◌≡◌, ◌+◌, List, [], ◌∷◌, ◌++◌, length, Contains}
use Rattle.std.specs.List.{AllPairs}
use Rattle.std.proofs.Common.{refl, append-nil, sym, ◌∙◌, subst, inl, inr, arith, get_or, length-append}
use Rattle.std.proofs.lemmas.List.{get_or_append_left, get_or_push}
use Rattle.std.proofs.lemmas.List.Elements.{Contains-append_left, Contains-push, Contains-push_cases}
use Rattle.gql_ast.specs.declared.definition.Definition.{Definition}
use Rattle.gql_facts.specs.ListMembers.{Contains-nil}
use Rattle.gql_ast.specs.declared.definition.DefinitionId.{DefinitionId}
use Rattle.gql_facts.specs.Worlds.{Facts}
use Rattle.gql_verdict.specs.FileOrder.{InFileOrder, IsBefore}
use Rattle.gql_verdict.specs.Shelves.{Picks, pick_none, skip, pick, IsDueWork, IsWholeDueWork, IsWholeWork, IsWork}
use Rattle.gql_verdict.specs.Verdicts.{Judgement}
use Rattle.gql_verdict.proofs.FileLists.{pairs_append}
use Rattle.gql_verdict.proofs.Ordered.{apart}
use Rattle.gql_verdict.proofs.Steps.{picks_rest}

-- what is picked is in the list
picked_in : (xs ys : List Definition) → Picks xs ys → (d : Definition) → Contains xs d → Contains ys d
picked_in _ _ pick_none d h = h
picked_in xs _ (skip {ys = ys} y p) d h = Contains-append_left ys (y ∷ []) d (picked_in xs ys p d h)
picked_in _ _ (pick {xs = xs} {ys = ys} y p) d h = elim (Contains-push_cases xs y d h) [
  | inl before ↦ Contains-append_left ys (y ∷ []) d (picked_in xs ys p d before)
  | inr is ↦ subst (λ e. Contains (ys ++ y ∷ []) e) is (Contains-push ys y)
]

-- pairs of the front of a list
pairs_front : (R : Definition → Definition → Type 0) (xs : List Definition) (y : Definition) → AllPairs R (xs ++ y ∷ []) → AllPairs R xs
pairs_front R xs y all i j d lt within =
    let long : length (xs ++ y ∷ []) ≡ length xs + 1 = length-append xs (y ∷ []) in
    subst (λ e. R (get_or xs i d) e) (get_or_append_left xs (y ∷ []) d j within)
    (subst (λ e. R e (get_or (xs ++ y ∷ []) j d)) (get_or_append_left xs (y ∷ []) d i (omega (arith, lt, within))) (all i j d lt (omega (arith, within, long))))

-- each of the front is related to the last
pairs_last : (R : Definition → Definition → Type 0) (xs : List Definition) (y d : Definition) → AllPairs R (xs ++ y ∷ []) → Contains xs d → R d y
pairs_last R xs y d all (i, within, is) =
    let long : length (xs ++ y ∷ []) ≡ length xs + 1 = length-append xs (y ∷ []) in
    subst (λ e. R d e) (get_or_push xs y d (length xs) refl)
    (subst (λ e. R e (get_or (xs ++ y ∷ []) (length xs) d)) (get_or_append_left xs (y ∷ []) d i within ∙ is) (all i (length xs) d within (omega (arith, long))))

-- pairs of one element: there is none
pairs_one : (R : Definition → Definition → Type 0) (y : Definition) → AllPairs R (y ∷ [])
pairs_one R y i j d lt within = absurd (omega (arith, lt, within))

pub picked_pairs : (R : Definition → Definition → Type 0) (xs ys : List Definition) → Picks xs ys → AllPairs R ys → AllPairs R xs
picked_pairs R _ _ pick_none all = all
picked_pairs R xs _ (skip {ys = ys} y p) all = picked_pairs R xs ys p (pairs_front R ys y all)
picked_pairs R _ _ (pick {xs = xs} {ys = ys} y p) all =
    pairs_append R xs (y ∷ []) (picked_pairs R xs ys p (pairs_front R ys y all)) (pairs_one R y)
    (λ d e before last. elim (Contains-push_cases [] y e last) [
      | inl none ↦ absurd (Contains-nil e none)
      | inr is ↦ subst (λ z. R d z) is (pairs_last R ys y d all (picked_in xs ys p d before))
    ])

-- work on definitions in file order is done at most once on each
pub work_once : (F : Facts) (kept : List Judgement) (ds : List Definition) (old new : List DefinitionId) → InFileOrder ds → IsDueWork F kept ds old new → IsWork F kept ds old new
work_once F kept ds old new up w = record {
  does = w;
  once = λ i j d lt within. apart (get_or w.work i d) (get_or w.work j d) (picked_pairs IsBefore w.work ds w.picks up i j d lt within);
}

pub whole_once : (F : Facts) (kept : List Judgement) (ds : List Definition) (old new : List DefinitionId) → InFileOrder ds → IsWholeDueWork F kept ds old new → IsWholeWork F kept ds old new
unfolding work_once
whole_once F kept ds old new up w = record { works = work_once F kept ds old new up w.0; all = w.1 }

-- nothing was examined
pub no_entries : (F : Facts) (kept : List Judgement) (ds : List Definition) (m : List DefinitionId) → IsWork F kept ds m m
no_entries F kept ds m = record {
  does = record { work = []; picks = picks_rest [] [] ds pick_none; entries = sym (append-nil m); due = λ d c. absurd (Contains-nil d c) };
  once = λ i j d lt within. absurd (omega (arith, within));
}
