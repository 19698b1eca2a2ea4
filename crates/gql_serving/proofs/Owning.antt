-- Which faults are picked, where the fragments that a definition reaches are known.
use Rattle.std.proofs.Common.{◌≡◌, ◌↔◌, ◌+◌, ◌<◌, ℕ, List, [], ◌∷◌, ◌++◌, Bool, true, false, Option, Some, None, length, get_or, take, map, refl, ap, sym, ◌∙◌, subst, inl, inr, Contains, IsTrue, Result, Ok, Err, IfOk}
use Rattle.std.specs.Prelude.{◌||◌}
use Rattle.std.specs.List.{list_any}
use Rattle.std.proofs.lemmas.List.{take_more}
use Rattle.std.proofs.lemmas.Map.Views.{Contains-from_any, list_any-from_Contains}
use Rattle.gql_ast.specs.declared.definition.Definition.{Definition}
use Rattle.gql_ast.specs.declared.fault.Fault.{Fault}
use Rattle.gql_ast.specs.declared.fault.FilePlace.{FilePlace}
use Rattle.gql_facts.specs.ListMembers.{Contains-cases, Contains-here, Contains-map, Contains-nil, Contains-there, some_same}
use Rattle.gql_facts.specs.Members.{Lists}
use Rattle.gql_facts.specs.Reads.{Reaches}
use Rattle.gql_facts.specs.Worlds.{Facts}
use Rattle.gql_facts.specs.declared.fact.FragmentFact.{FragmentFact}
use Rattle.gql_rules.specs.LocalFaults.{owner_of}
use Rattle.gql_serving.specs.Owned as owned
use Rattle.gql_serving.specs.Owned.{IsOwned, Picks, fragment_owner, none, picked, left_out}
use Rattle.gql_serving.specs.OwnedAmong.{IsOwnedAmong, owner_places}
use Rattle.gql_serving.specs.Owners.{is_owner, owned_at, same_place}
use Rattle.gql_serving.specs.SamePlaces.{same_place_equal, same_place_equiv}
use Rattle.gql_serving.proofs.Listed.{Contains-map_from}

-- ---- the two ways to say who owns a fault

module _ (facts : Facts) (d : Definition) (members : List FragmentFact) (lists : Lists members (Reaches facts d)) where
  is_reached : (f : Fault) → IsOwnedAmong (owner_places d members) f → IsOwned facts d f
  is_reached f h = elim (Contains-cases h.owner (owner_of d) (map fragment_owner members) h.there) [
    | inl e ↦ owned.by_operation (h.is ∙ ap Some e)
    | inr t ↦ let g = Contains-map_from fragment_owner members h.owner t in
        owned.by_fragment (lists.sound g.0 g.1) (h.is ∙ ap Some (sym g.2))
  ]

  is_listed : (f : Fault) → IsOwned facts d f → IsOwnedAmong (owner_places d members) f
  is_listed f (owned.by_operation e) =
      record { owner = owner_of d; is = e; there = Contains-here (owner_of d) (map fragment_owner members) }
  is_listed f (owned.by_fragment {g} r e) = record {
    owner = fragment_owner g;
    is = e;
    there = Contains-there (fragment_owner g) (owner_of d) (map fragment_owner members) (Contains-map fragment_owner members g (lists.complete g r));
  }

  pub all_reached : (fs gs : List Fault) → Picks (IsOwnedAmong (owner_places d members)) fs gs → Picks (IsOwned facts d) fs gs
  all_reached fs gs none = none
  all_reached fs gs (picked {f = f} {fs = ys} {gs = zs} o p) = picked (is_reached f o) (all_reached ys zs p)
  all_reached fs gs (left_out {f = f} {fs = ys} {gs = zs} o p) = left_out (λ i. o (is_listed f i)) (all_reached ys zs p)

-- what follows of a value follows where there is one
pub ok_then : {A E : Type 0} (result : Result A E) (P Q : A → Type 0) → ((a : A) → P a → Q a) → IfOk result P → IfOk result Q
ok_then (Ok a) P Q f h = f a h
ok_then (Err e) P Q f h = tt

-- ---- one fault more

module _ (P : Fault → Type 0) where
  pub none_picked : (fs gs : List Fault) → length fs ≡ 0 → gs ≡ [] → Picks P fs gs
  none_picked [] gs e is = rw is none
  none_picked (f ∷ fs) gs e is = cc e

  pub none_of : (fs gs : List Fault) → ((f : Fault) → Contains fs f → P f → ⊥) → gs ≡ [] → Picks P fs gs
  none_of [] gs no_one is = rw is none
  none_of (f ∷ fs) gs no_one is = left_out (no_one f (Contains-here f fs)) (none_of fs gs (λ g there. no_one g (Contains-there g f fs there)) is)

  picked_at : (fs gs : List Fault) (f : Fault) → P f → Picks P fs gs → Picks P (fs ++ f ∷ []) (gs ++ f ∷ [])
  picked_at fs gs f o none = picked o none
  picked_at fs gs f o (picked {f = x} {fs = ys} {gs = zs} p rest) = picked p (picked_at ys zs f o rest)
  picked_at fs gs f o (left_out {f = x} {fs = ys} {gs = zs} p rest) = left_out p (picked_at ys zs f o rest)

  left_out_at : (fs gs : List Fault) (f : Fault) → (P f → ⊥) → Picks P fs gs → Picks P (fs ++ f ∷ []) gs
  left_out_at fs gs f o none = left_out o none
  left_out_at fs gs f o (picked {f = x} {fs = ys} {gs = zs} p rest) = picked p (left_out_at ys zs f o rest)
  left_out_at fs gs f o (left_out {f = x} {fs = ys} {gs = zs} p rest) = left_out p (left_out_at ys zs f o rest)

  pub one_picked : (fs : List Fault) (i : ℕ) (f : Fault) (test : Bool) (old new : List Fault) → i < length fs → f ≡ get_or fs i f
      → (IsTrue test ↔ P f) → test ≡ true → new ≡ old ++ f ∷ [] → Picks P (take i fs) old → Picks P (take (i + 1) fs) new
  one_picked fs i f test old new within item is e after before =
      rw (take_more fs i f within, sym item, after) (picked_at (take i fs) old f (is.0 e) before)

  pub one_left_out : (fs : List Fault) (i : ℕ) (f : Fault) (test : Bool) (old new : List Fault) → i < length fs → f ≡ get_or fs i f
      → (IsTrue test ↔ P f) → test ≡ false → new ≡ old → Picks P (take i fs) old → Picks P (take (i + 1) fs) new
  one_left_out fs i f test old new within item is e after before =
      rw (take_more fs i f within, sym item, after) (left_out_at (take i fs) old f (λ p. cc (sym e ∙ is.1 p)) before)

-- ---- faults whose owner is at one of these places

-- the place of the owner is among these
pub owned_if : (places : List FilePlace) (f : Fault) (owner : FilePlace) (found : Bool) → f.owner ≡ Some owner
    → found ≡ list_any (same_place owner) places → IsTrue found ↔ IsOwnedAmong places f
owned_if places f owner found is test = (to, back)
  where
    to : IsTrue found → IsOwnedAmong places f
    to h = record { owner = owner; is = is; there = Contains-from_any same_place_equal owner places (sym test ∙ h) }

    back : IsOwnedAmong places f → IsTrue found
    back h = test ∙ list_any-from_Contains same_place_equiv owner places
        (subst (λ p. Contains places p) (some_same h.owner owner (sym h.is ∙ is)) h.there)

-- a fault without an owner is not owned
pub unowned : (places : List FilePlace) (f : Fault) → f.owner ≡ None → IsTrue false ↔ IsOwnedAmong places f
unowned places f absent = (λ h. cc h, λ h. let bad : ◌≡◌ {A = Option FilePlace} None (Some h.owner) = sym absent ∙ h.is in cc bad)

by_first : (a b : Bool) → a ≡ true → a || b ≡ true
by_first true b e = refl
by_first false b e = cc e

by_rest : (a b : Bool) → b ≡ true → a || b ≡ true
by_rest true b e = refl
by_rest false b e = e

-- an element passes the test
any_of : {A : Type 0} (test : A → Bool) (xs : List A) (x : A) → Contains xs x → test x ≡ true → list_any test xs ≡ true
any_of test [] x h e = absurd (Contains-nil x h)
any_of test (y ∷ ys) x h e = elim (Contains-cases x y ys h) [
  | inl q ↦ by_first (test y) (list_any test ys) (ap test (sym q) ∙ e)
  | inr t ↦ by_rest (test y) (list_any test ys) (any_of test ys x t e)
]

-- where none of these places is that of an owner, no fault is owned
pub none_owned : (places : List FilePlace) (faults : List Fault) (test : FilePlace → Bool)
    → ((p : FilePlace) → test p ≡ list_any (is_owner p) faults) → list_any test places ≡ false
    → (f : Fault) → Contains faults f → IsOwnedAmong places f → ⊥
none_owned places faults test owners none_there f there h =
    let own : is_owner h.owner f ≡ true = ap (owned_at h.owner) h.is ∙ same_place_equiv.refl h.owner in
    let hit : test h.owner ≡ true = owners h.owner ∙ any_of (is_owner h.owner) faults f there own in
    let bad : true ≡ false = sym (any_of test places h.owner h.there hit) ∙ none_there in
    cc bad
