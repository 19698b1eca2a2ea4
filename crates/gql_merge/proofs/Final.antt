-- The faults of a definition, by all that was made of it.
use Rattle.std.specs.Prelude.{◌≡◌, ◌<◌, ◌≤◌, ℕ, List, [], ◌∷◌, ◌++◌, flat_map, length, Bool, true, Option, Contains}
use Rattle.std.proofs.Common.{ap, sym, ◌∙◌, subst, arith, get_or, inl, inr, refl}
use Rattle.std.proofs.lemmas.List.{get_or_append_left, length-append}
use Rattle.std.proofs.lemmas.List.Elements.{Contains-get_or}
use Rattle.gql_ast.specs.declared.definition.Definition.{Definition}
use Rattle.gql_ast.specs.declared.fault.Fault.{Fault}
use Rattle.gql_ast.specs.declared.fault.FilePlace.{FilePlace}
use Rattle.gql_clashes.specs.Clashes.{SeedsOf}
use Rattle.gql_clashes.specs.Numbered as numbered
use Rattle.gql_clashes.specs.Numbered.{IsClashPair, IsWhole, nodes_of}
use Rattle.gql_clashes.specs.Numbering.{IsNumbered, IsUsed}
use Rattle.gql_clashes.specs.Reach.{IsCleanBody}
use Rattle.gql_clashes.specs.declared.sets.Pair.{Pair}
use Rattle.gql_clashes.specs.declared.sets.Sets.{Sets}
use Rattle.gql_facts.specs.Members.{Lists}
use Rattle.gql_facts.specs.Reads.{Reaches}
use Rattle.gql_facts.specs.Worlds.{Facts, IsWorld}
use Rattle.gql_facts.specs.declared.fact.FragmentFact.{FragmentFact}
use Rattle.gql_merge.proofs.Cleanness.{clean_at, clean_body_of, clean_last, clean_on, clean_one_of, clean_set, none_clash, settled_spread}
use Rattle.gql_merge.proofs.Drawing.{same_length}
use Rattle.gql_merge.proofs.FlatNodes.{all_nodes, empty_set, field_at, node_at, set_at}
use Rattle.gql_merge.proofs.Matching as matching
use Rattle.gql_merge.proofs.Resolved.{inside, numbers_below, numbers_more, own_name, resolved, seeds_are}
use Rattle.gql_merge.proofs.Together as together
use Rattle.gql_merge.specs.Clean.{AreClean, IsClean}
use Rattle.gql_merge.specs.FieldNodes.{SetNode}
use Rattle.gql_merge.specs.Flat.{Draws}
use Rattle.gql_merge.specs.Flattened.{AddsMembers, IsIndex, all_sets, fragment_sets}
use Rattle.gql_merge.specs.Light.{IsFirstOf, IsNameSpread, IsSettled, IsWanted, MayAdd}
use Rattle.gql_merge.specs.MergeFaults.{IsMergeFault}
use Rattle.gql_merge.specs.MergedNodes.{nodes, sets_in}
use Rattle.gql_merge.specs.Numbers.{Numbers, numbers_to}
use Rattle.gql_merge.specs.PairFaults.{pair_faults}
use Rattle.gql_merge.specs.declared.flat.FlatField.{FlatField}
use Rattle.gql_merge.specs.declared.flat.FlatSet.{FlatSet}
use Rattle.gql_rules.specs.LocalFaults.{owner_of}

module _ (F : Facts) (names : List (List ℕ)) (world : IsWorld F names) (d : Definition) (members : List FragmentFact) (reach : Lists members (Reaches F d))
    (own xs : List FlatSet) (number : List ℕ → Option ℕ) (own_drawn : Draws own (sets_in F d)) (added : AddsMembers F members own xs number)
    (all : List FlatField) (z : Sets) (q : Numbers xs number all z) where
  abbrev ns : List SetNode
  ns = all_sets F d members

  drawn : Draws xs ns
  drawn = (added (sets_in F d) own_drawn).0

  index : IsIndex F ns members number
  index = (added (sets_in F d) own_drawn).1

  right : matching.AreResolved F ns number
  right = resolved F names world d members reach number index

  within : matching.AreInside ns number
  within = inside F names world d members reach number index

  numbering : IsNumbered (nodes F) (nodes_of z) (node_at ns) (set_at ns)
  numbering = matching.is_numbered F xs ns number all z drawn q right within

  pub whole : IsWhole z
  whole = matching.is_whole F xs ns number all z drawn q right within

  at : (f : ℕ) → IsUsed (nodes_of z) f → together.IsFieldAt all (node_at ns) f
  at f u = field_at ns all (all_nodes ns) f (matching.drawn_all F xs ns number all z drawn q right within) (matching.used_below F xs ns number all z drawn q right within f u)

  own_length : length own ≡ length (sets_in F d)
  own_length = same_length (sets_in F d) own (sets_in F d) own_drawn

  pub seed_inside : (s : ℕ) → s < length own → s < length z.bodies.items
  seed_inside s h =
      let l = own_length in
      rw (matching.bodies_are F xs ns number all z drawn q right within, length-append (sets_in F d) (flat_map (fragment_sets F) members)) (omega (arith, h, l))

  pub lists : (n : ℕ) → n ≡ length own → (pairs : List Pair) → numbered.Lists pairs (IsClashPair z (SeedsOf (nodes_of z) (numbers_to n)))
      → Lists (flat_map (pair_faults (owner_of d) all) pairs) (IsMergeFault F d)
  lists n e pairs found = together.lists F d z (node_at ns) (set_at ns) numbering all at (numbers_to n)
      (seeds_are (sets_in F d) (flat_map (fragment_sets F) members) n (e ∙ own_length)) pairs found

  -- ---- what is clean

  own_set_at : (s : ℕ) → s < length own → set_at ns s ≡ get_or (sets_in F d) s empty_set
  own_set_at s h = let l = own_length in get_or_append_left (sets_in F d) (flat_map (fragment_sets F) members) empty_set s (omega (arith, h, l))

  own_set_in : (s : ℕ) → s < length own → Contains (sets_in F d) (set_at ns s)
  own_set_in s h = let l = own_length in subst (Contains (sets_in F d)) (sym (own_set_at s h)) (Contains-get_or (sets_in F d) s empty_set (omega (arith, h, l)))

  -- what own sets spread is clean
  pub clean_body : (names : List (List ℕ)) → AreClean F names → ((x : FlatSet) → Contains own x → IsSettled names x) → (n : ℕ) → n ≤ length own → (s c : ℕ) → Contains (numbers_to n) s → Contains ((nodes_of z).spreads s) c → IsCleanBody z c
  clean_body names clean settled n le s c seed h =
      let b = numbers_below n s seed in
      clean_body_of F z (node_at ns) (set_at ns) numbering c (settled_spread F names own (sets_in F d) clean settled own_drawn (set_at ns s) (own_set_in s (omega (arith, b, le))) (set_at ns c) (numbering.spreads_there s c h))

  -- the first sets, and a clean one, are all own sets
  pub all_own : (n : ℕ) → IsFirstOf F (sets_in F d) n → (pairs : List Pair) → numbered.Lists pairs (IsClashPair z (SeedsOf (nodes_of z) (numbers_to n)))
      → numbered.Lists pairs (IsClashPair z (SeedsOf (nodes_of z) (numbers_to (length own))))
  all_own n (inl e) pairs found = subst (λ k. numbered.Lists pairs (IsClashPair z (SeedsOf (nodes_of z) (numbers_to k)))) (e ∙ sym own_length) found
  all_own n (inr k) pairs found =
      let l = own_length in
      let lt : n < length own = omega (arith, k.0, l) in
      let same : numbers_to n ++ n ∷ [] ≡ numbers_to (length own) = sym (numbers_more n) ∙ ap numbers_to (k.0 ∙ sym l) in
      let c : IsCleanBody z n = clean_body_of F z (node_at ns) (set_at ns) numbering n (subst (λ t. IsClean F (t ∷ [])) (sym (own_set_at n lt)) (k.1 n k.0)) in
      subst (λ b. numbered.Lists pairs (IsClashPair z (SeedsOf (nodes_of z) b))) same (clean_last z (numbers_to n) n pairs c found)

  pub own_clean : numbered.Lists [] (IsClashPair z (SeedsOf (nodes_of z) (numbers_to (length own)))) → IsClean F (sets_in F d)
  own_clean found = subst (IsClean F) (seeds_are (sets_in F d) (flat_map (fragment_sets F) members) (length own) own_length)
      (none_clash F z (node_at ns) (set_at ns) numbering (numbers_to (length own)) found)

  pub names_clean : (old new : List (List ℕ)) (seeds : List ℕ) (wanted : Bool) → (wanted ≡ true → numbered.Lists [] (IsClashPair z (SeedsOf (nodes_of z) seeds))) → MayAdd (IsNameSpread wanted z seeds number) old new → AreClean F old → AreClean F new
  names_clean old new seeds wanted found added clean = clean_at F ns members number (IsWanted wanted z seeds) old new index
      (λ g c. own_name F names world d members reach number index (reach.sound g c))
      (λ i k. clean_set F z (node_at ns) (set_at ns) numbering i (clean_on z k.1.0 i k.1.2 (clean_one_of z seeds k.1.0 k.1.1 (found k.0))))
      added clean

-- the same, by what the steps say
module _ (F : Facts) (names : List (List ℕ)) (world : IsWorld F names) (d : Definition) (members : List FragmentFact) (reach : Lists members (Reaches F d))
    (own xs ys : List FlatSet) (number : List ℕ → Option ℕ) (listed : ys ≡ xs) (own_drawn : Draws own (sets_in F d)) (added : AddsMembers F members own xs number)
    (all : List FlatField) (z : Sets) (q : Numbers ys number all z) (n : ℕ) (seeds : List ℕ) (is : seeds ≡ numbers_to n) (few : IsFirstOf F (sets_in F d) n) where
  q' : Numbers xs number all z
  q' = subst (λ l. Numbers l number all z) listed q

  pub whole_of : IsWhole z
  whole_of = whole F names world d members reach own xs number own_drawn added all z q'

  below_all : n ≤ length own
  below_all = elim few [
    | inl e ↦ let l = same_length (sets_in F d) own (sets_in F d) own_drawn in omega (arith, e, l)
    | inr k ↦ let l = same_length (sets_in F d) own (sets_in F d) own_drawn in omega (arith, k.0, l)
  ]

  pub inside_of : (s : ℕ) → Contains seeds s → s < length z.bodies.items
  inside_of s c =
      let b = numbers_below n s (subst (λ l. Contains l s) is c) in
      let le = below_all in
      seed_inside F names world d members reach own xs number own_drawn added all z q' s (omega (arith, b, le))

  pub clean_of : (clean : List (List ℕ)) → AreClean F clean → ((x : FlatSet) → Contains own x → IsSettled clean x) → (s c : ℕ) → Contains seeds s → Contains ((nodes_of z).spreads s) c → IsCleanBody z c
  clean_of clean are settled s c seed h = clean_body F names world d members reach own xs number own_drawn added all z q' clean are settled n below_all s c (subst (λ l. Contains l s) is seed) h

  listed_all : (pairs : List Pair) → numbered.Lists pairs (IsClashPair z (SeedsOf (nodes_of z) seeds)) → numbered.Lists pairs (IsClashPair z (SeedsOf (nodes_of z) (numbers_to (length own))))
  listed_all pairs found = all_own F names world d members reach own xs number own_drawn added all z q' n few pairs (subst (λ l. numbered.Lists pairs (IsClashPair z (SeedsOf (nodes_of z) l))) is found)

  pub lists_of : (pairs pairs' : List Pair) (all' : List FlatField) (owner : FilePlace) (faults : List Fault) → numbered.Lists pairs (IsClashPair z (SeedsOf (nodes_of z) seeds))
      → pairs' ≡ pairs → all' ≡ all → owner ≡ owner_of d → faults ≡ flat_map (pair_faults owner all') pairs' → Lists faults (IsMergeFault F d)
  lists_of pairs pairs' all' owner faults found same_pairs same_all owned made =
      subst (λ l. Lists l (IsMergeFault F d))
      (sym (made ∙ ap (λ o. flat_map (pair_faults o all') pairs') owned ∙ ap (λ a. flat_map (pair_faults (owner_of d) a) pairs') same_all ∙ ap (flat_map (pair_faults (owner_of d) all)) same_pairs))
      (lists F names world d members reach own xs number own_drawn added all z q' (length own) refl pairs (listed_all pairs found))

  none_listed : (pairs : List Pair) → numbered.Lists pairs (IsClashPair z (SeedsOf (nodes_of z) seeds)) → pairs ≡ [] → numbered.Lists [] (IsClashPair z (SeedsOf (nodes_of z) seeds))
  none_listed pairs found none = subst (λ l. numbered.Lists l (IsClashPair z (SeedsOf (nodes_of z) seeds))) none found

  pub own_clean_of : (pairs : List Pair) → numbered.Lists pairs (IsClashPair z (SeedsOf (nodes_of z) seeds)) → pairs ≡ [] → IsClean F (sets_in F d)
  own_clean_of pairs found none = own_clean F names world d members reach own xs number own_drawn added all z q' (listed_all [] (none_listed pairs found none))

  pub names_clean_of : (old new : List (List ℕ)) (seeds' : List ℕ) (wanted : Bool) (pairs : List Pair) → numbered.Lists pairs (IsClashPair z (SeedsOf (nodes_of z) seeds)) → (wanted ≡ true → pairs ≡ []) → seeds' ≡ numbers_to n
      → MayAdd (IsNameSpread wanted z seeds' number) old new → AreClean F old → AreClean F new
  names_clean_of old new seeds' wanted pairs found none same grown clean = names_clean F names world d members reach own xs number own_drawn added all z q' old new seeds wanted (λ t. none_listed pairs found (none t))
      (subst (λ l. MayAdd (IsNameSpread wanted z l number) old new) (same ∙ sym is) grown) clean
