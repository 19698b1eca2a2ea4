-- A walk over selections: what it has met, and how much is left of it.
use Rattle.std.proofs.Common.{◌≡◌, ◌⊎◌, ◌+◌, ◌≤◌, ◌<◌, ℕ, suc, List, [], ◌∷◌, ◌++◌, Bool, true, false, ◌||◌, Some, map, find, bytes_eq, reverse, if◌then◌else◌, refl, sym, ap, ◌∙◌, subst, inl, inr, arith, append-nil, length}
use Rattle.std.proofs.lemmas.Grind.{flat_map-append}
use Rattle.std.proofs.lemmas.List.{reverse-append}
use Rattle.std.proofs.lemmas.List.Folds.{list_any-append}
use Rattle.std.proofs.lemmas.Slice.Eq.{bytes_eq-Decides}
use Rattle.std.specs.Cmp.Lexicographic.{nat_list_eq_equiv}
use Rattle.gql_ast.specs.declared.executable.Selection.{Selection}
use Rattle.gql_ast.specs.declared.executable.Selection.TheOpen.{Selection-F}
use Rattle.gql_ast.specs.declared.executable.Selection.TheFolds.{fold_out-Selection}
use Rattle.gql_facts.specs.declared.fact.FragmentFact.{FragmentFact}
use Rattle.gql_collect.specs.Borrowed.{all_selections, selections_of}
use Rattle.gql_collect.specs.Conditions.{is_possible}
use Rattle.gql_collect.specs.Groups.{firsts, is_same_field}
use Rattle.gql_collect.specs.Nodes.{FileSelection, FieldNode, in_file}
use Rattle.gql_collect.specs.SameFields.{same_field_laws}
use Rattle.gql_collect.specs.Unfolding.{Given, Unfolds, nothing, kept, replaced, part, held, held_by}
use Rattle.gql_collect.specs.Walks.{Visits, keeps, opens, enters, passes, is_in, total, size, size_at, size_of_field, size_of_inline, sizes, sizes_in, left, work, set_size}
use Rattle.gql_collect.specs.declared.node.SelectionSet.{SelectionSet}
use Rattle.gql_collect.proofs.Covering.{Going, going_kept, going_opened, going_entered, going_skipped, going_ended}
use Rattle.gql_collect.proofs.Firsts.{either, inserted}
use Rattle.gql_collect.proofs.Runs.{Runs}
use Rattle.gql_collect.proofs.Runs as run
use Rattle.gql_collect.proofs.Visiting.{sizes_in_file}

-- ---- what was met

-- how a walk goes on, where the fields are to be these in the end
abbrev pub Goes : Given → List ℕ → List (List ℕ) → List FieldNode → List FileSelection → List FieldNode → Type 0
Goes g t names fields items target =
    Going (part g t) is_same_field same_field_laws (held g t) (λ q. is_in q names) fields items target

module _ (g : Given) (t : List ℕ) where
  -- with its number of steps
  record Counted (xs : List FileSelection) (ns : List FieldNode) : Type 0 where
    n : ℕ
    runs : Runs (part g t) xs ns n

  counted : {xs : List FileSelection} {ns : List FieldNode} → Unfolds g t xs ns → Counted xs ns
  counted nothing = record { n = 0; runs = run.done }
  counted (kept e u) = let c = counted u in record { n = suc c.n; runs = run.kept e c.runs }
  counted (replaced e u) = let c = counted u in record { n = suc c.n; runs = run.replaced e c.runs }

  -- selections unfold in one way
  pub one_unfolding : {xs : List FileSelection} {ns ms : List FieldNode} → Unfolds g t xs ns → Unfolds g t xs ms → ns ≡ ms
  one_unfolding u v = (run.one_run (part g t) (counted u).runs (counted v).runs).outs

  pub begins : (xs : List FileSelection) (ns : List FieldNode) → Unfolds g t xs ns
      → Goes g t [] [] xs (firsts is_same_field ns)
  begins xs ns u =
      let c = counted u in
      record {
        rest = ns;
        n = c.n;
        runs = c.runs;
        total = inserted is_same_field same_field_laws ns;
        tracks = λ k v. absurd (cc v);
      }

  pub begins_at : (xs items : List FileSelection) (names : List (List ℕ)) (fields ns : List FieldNode)
      → names ≡ [] → fields ≡ [] → items ≡ xs → Unfolds g t xs ns → Goes g t names fields items (firsts is_same_field ns)
  begins_at xs items names fields ns none no_fields same u =
      subst (λ l. Goes g t names fields l (firsts is_same_field ns)) (sym same)
      (subst (λ l. Goes g t l fields xs (firsts is_same_field ns)) (sym none)
      (subst (λ l. Goes g t [] l xs (firsts is_same_field ns)) (sym no_fields) (begins xs ns u)))

  pub grown : (names : List (List ℕ)) (name q : List ℕ) → is_in q (names ++ name ∷ []) ≡ true
      → (is_in q names ≡ true) ⊎ (q ≡ name)
  grown names name q e = by (is_in q names) (bytes_eq q name) (bytes_eq-Decides q name).0 (sym (list_any-append (bytes_eq q) names (name ∷ [])) ∙ e) where
    by : (a b : Bool) → (b ≡ true → q ≡ name) → (a || (b || false)) ≡ true → (a ≡ true) ⊎ (q ≡ name)
    by true b same f = inl refl
    by false true same f = inr (same refl)
    by false false same f = absurd (cc f)

  -- one selection more
  pub goes_on : {x : FileSelection} {names after : List (List ℕ)} {fields more : List FieldNode}
      {next : List FileSelection} (rest : List FileSelection) (target : List FieldNode)
      → Visits g t x names fields after more next → Goes g t names fields (x ∷ rest) target
      → Goes g t after more (next ++ rest) target
  goes_on rest target (keeps e) w = going_kept (part g t) is_same_field same_field_laws (held g t) e w
  goes_on rest target (opens {xs = xs} e small) w = going_opened (part g t) is_same_field same_field_laws (held g t) xs e w
  goes_on {names = names} rest target (enters name e fresh) w =
      going_entered (part g t) is_same_field same_field_laws (held g t) name e (grown names name) w
  goes_on rest target (passes name e there) w = going_skipped (part g t) is_same_field same_field_laws (held g t) name e there w

  pub ends : (names : List (List ℕ)) (fields target : List FieldNode) (items : List FileSelection) → items ≡ []
      → Goes g t names fields items target → fields ≡ target
  ends names fields target items none w = ended (subst (λ xs. Goes g t names fields xs target) none w) where
    ended : Goes g t names fields [] target → fields ≡ target
    ended w = going_ended (part g t) is_same_field same_field_laws (held g t) w

-- ---- how much is left

two_at : (x : Selection-F ℕ ℕ ℕ) → 2 ≤ size_at x
two_at (Selection-F.Field n) = omega arith
two_at (Selection-F.Spread x) = omega arith
two_at (Selection-F.InlineFragment n) = omega arith

pub size_two : (x : Selection) → 2 ≤ size x
unfolding size
size_two x = subst (λ n. 2 ≤ n) (sym (fold_out-Selection ℕ ℕ ℕ size_at size_of_field size_of_inline x)) (two_at _)

-- a name more leaves no more fragments
fewer : (fs : List FragmentFact) (names : List (List ℕ)) (name : List ℕ) → left fs (names ++ name ∷ []) ≤ left fs names
fewer [] names name = omega arith
fewer (f ∷ fs) names name = by (is_in f.fragment.name.text names) (is_in f.fragment.name.text (names ++ name ∷ []))
    (list_any-append (bytes_eq f.fragment.name.text) names (name ∷ [])) (fewer fs names name) where
      by : (a b : Bool) → b ≡ (a || (bytes_eq f.fragment.name.text name || false)) → left fs (names ++ name ∷ []) ≤ left fs names
          → (if b then 0 else sizes f.fragment.selections) + left fs (names ++ name ∷ []) ≤ (if a then 0 else sizes f.fragment.selections) + left fs names
      by true true e h = omega (arith, h)
      by true false e h = absurd (cc e)
      by false true e h = omega (arith, h)
      by false false e h = omega (arith, h)

module _ (g : Given) (t : List ℕ) where
  held_small : (f : FragmentFact) → sizes_in (held_by g t (Some f)) ≤ sizes f.fragment.selections
  held_small f = by (is_possible g.schema t f.fragment.condition.text) (sizes_in_file f.file f.fragment.selections) where
    by : (b : Bool) → sizes_in (in_file f.file f.fragment.selections) ≡ sizes f.fragment.selections
        → sizes_in (if b then in_file f.file f.fragment.selections else []) ≤ sizes f.fragment.selections
    by true same = omega (arith, same)
    by false same = omega arith

  -- a fragment that is entered is left no more
  pub entered : (fs : List FragmentFact) (names : List (List ℕ)) (name : List ℕ) → is_in name names ≡ false
      → left fs (names ++ name ∷ [])
      + sizes_in (held_by g t (find (λ (f : FragmentFact). bytes_eq name f.fragment.name.text) fs)) ≤ left fs names
  entered [] names name fresh = omega arith
  entered (f ∷ fs) names name fresh = elim (either (bytes_eq name f.fragment.name.text)) [
    | inl h ↦
        let same = (bytes_eq-Decides name f.fragment.name.text).0 h in
        let before : is_in f.fragment.name.text names ≡ false = ap (λ q. is_in q names) (sym same) ∙ fresh in
        let hit : bytes_eq f.fragment.name.text name ≡ true = nat_list_eq_equiv.symm f.fragment.name.text name ∙ h in
        let after : is_in f.fragment.name.text (names ++ name ∷ []) ≡ true =
        list_any-append (bytes_eq f.fragment.name.text) names (name ∷ []) ∙ rw (before, hit) refl in
        let small = held_small f in
        let less = fewer fs names name in
        rw (h, before, after) (omega (arith, small, less))
    | inr h ↦
        let miss : bytes_eq f.fragment.name.text name ≡ false = nat_list_eq_equiv.symm f.fragment.name.text name ∙ h in
        let more = entered fs names name fresh in
        let alike : is_in f.fragment.name.text (names ++ name ∷ []) ≡ is_in f.fragment.name.text names =
        list_any-append (bytes_eq f.fragment.name.text) names (name ∷ []) ∙ rw miss (or_false (is_in f.fragment.name.text names)) in
        rw (h, alike) (omega (arith, more))
  ] where
    or_false : (b : Bool) → (b || false) ≡ b
    or_false true = refl
    or_false false = refl

  -- a visit leaves less than there was
  pub shrinks : {x : FileSelection} {names after : List (List ℕ)} {fields more : List FieldNode} {next : List FileSelection}
      → Visits g t x names fields after more next
      → left g.fragments after + sizes_in next + 2 ≤ left g.fragments names + size x.selection
  shrinks {x = x} (keeps e) = let two = size_two x.selection in omega (arith, two)
  shrinks (opens e small) = omega (arith, small)
  shrinks {x = x} {names = names} (enters name e fresh) =
      let two = size_two x.selection in
      let less = entered g.fragments names name fresh in
      omega (arith, two, less)
  shrinks {x = x} (passes name e there) = let two = size_two x.selection in omega (arith, two)

-- ---- the sets that are still to be visited

total_end : (xs : List SelectionSet) (s : SelectionSet)
    → total (map set_size (xs ++ s ∷ [])) ≡ total (map set_size xs) + set_size s
total_end [] s = omega arith
total_end (x ∷ xs) s = let e = total_end xs s in omega (arith, e)

top_of : (xs : List SelectionSet) (s : SelectionSet)
    → all_selections (reverse (xs ++ s ∷ [])) ≡ selections_of s ++ all_selections (reverse xs)
top_of xs s = ap all_selections (reverse-append xs (s ∷ []))
    ∙ flat_map-append selections_of (reverse (s ∷ [])) (reverse xs)
    ∙ ap (λ l. l ++ all_selections (reverse xs)) (append-nil (selections_of s))

-- no sets
pub none_left : (xs : List SelectionSet) → length xs ≡ 0 → all_selections (reverse xs) ≡ []
none_left [] e = refl
none_left (x ∷ xs) e = absurd (omega (arith, e))

-- a set without selections
pub passed : (old pending : List SelectionSet) (s : SelectionSet) → old ≡ pending ++ s ∷ [] → s.selections.now ≡ []
    → all_selections (reverse old) ≡ all_selections (reverse pending)
passed old pending s is none = ap (λ l. all_selections (reverse l)) is ∙ top_of pending s
    ∙ ap (λ xs. in_file s.file.now xs ++ all_selections (reverse pending)) none

pub passed_shrinks : (fs : List FragmentFact) (names : List (List ℕ)) (old pending : List SelectionSet) (s : SelectionSet)
    → old ≡ pending ++ s ∷ [] → work fs pending names < work fs old names
passed_shrinks fs names old pending s is =
    let e : total (map set_size old) ≡ total (map set_size pending) + set_size s = ap (λ l. total (map set_size l)) is ∙ total_end pending s in
    omega (arith, e)

module _ (g : Given) (t : List ℕ) (old pending middle last : List SelectionSet) (s rest next : SelectionSet) (x : Selection)
    (was : old ≡ pending ++ s ∷ []) (half : middle ≡ pending ++ rest ∷ []) (is : last ≡ middle ++ next ∷ [])
    (first : s.selections.now ≡ x ∷ rest.selections.now) (file : rest.file.now ≡ s.file.now) where
  top_was : all_selections (reverse old)
      ≡ record { file = s.file.now; selection = x } ∷ (selections_of rest ++ all_selections (reverse pending))
  top_was = ap (λ l. all_selections (reverse l)) was ∙ top_of pending s
      ∙ ap (λ xs. in_file s.file.now xs ++ all_selections (reverse pending)) first
      ∙ ap (λ f. record { file = s.file.now; selection = x } ∷ (in_file f rest.selections.now ++ all_selections (reverse pending))) (sym file)

  top_is : all_selections (reverse last)
      ≡ selections_of next ++ (selections_of rest ++ all_selections (reverse pending))
  top_is = ap (λ l. all_selections (reverse l)) is ∙ top_of middle next
      ∙ ap (λ l. selections_of next ++ l) (ap (λ l. all_selections (reverse l)) half ∙ top_of pending rest)

  pub walk_step : {names after : List (List ℕ)} {fields more : List FieldNode} (target : List FieldNode)
      → Visits g t (record { file = s.file.now; selection = x }) names fields after more (selections_of next)
      → Goes g t names fields (all_selections (reverse old)) target
      → Goes g t after more (all_selections (reverse last)) target
  walk_step {names = names} {after = after} {fields = fields} {more = more} target v w =
      subst (λ l. Goes g t after more l target) (sym top_is)
      (goes_on g t (selections_of rest ++ all_selections (reverse pending)) target v
      (subst (λ l. Goes g t names fields l target) top_was w))

  pub walk_shrinks : {names after : List (List ℕ)} {fields more : List FieldNode}
      → Visits g t (record { file = s.file.now; selection = x }) names fields after more (selections_of next)
      → work g.fragments last after < work g.fragments old names
  walk_shrinks v =
      let a : total (map set_size old) ≡ total (map set_size pending) + set_size s = ap (λ l. total (map set_size l)) was ∙ total_end pending s in
      let b : total (map set_size middle) ≡ total (map set_size pending) + set_size rest = ap (λ l. total (map set_size l)) half ∙ total_end pending rest in
      let d : total (map set_size last) ≡ total (map set_size middle) + set_size next = ap (λ l. total (map set_size l)) is ∙ total_end middle next in
      let sizes_first : sizes s.selections.now ≡ size x + sizes rest.selections.now = ap sizes first in
      let same = sizes_in_file next.file.now next.selections.now in
      let less = shrinks g t v in
      omega (arith, a, b, d, sizes_first, same, less)
