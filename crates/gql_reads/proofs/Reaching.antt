-- A walk over the parts that are met: it reaches exactly what the definition reaches.
use Rattle.std.proofs.Common.{◌≡◌, flat_map, inl, inr, ℕ, suc, ◌+◌, ◌-◌, ◌≤◌, ◌<◌, List, [], ◌∷◌, ◌++◌, Some, length, take, slice_get, bytes_eq, ap, sym, subst, ◌∙◌, arith, Contains}
use Rattle.std.specs.List.{IsDistinct}
use Rattle.std.specs.Cmp.{decided}
use Rattle.std.proofs.lemmas.List.Elements.{Contains-append_left, Contains-append_right, Contains-append_cases, Contains-push_cases}
use Rattle.std.proofs.lemmas.Map.Made.{length-le_from_is_member}
use Rattle.std.proofs.lemmas.Map.Views.{Contains-from_any, list_any-from_Contains}
use Rattle.std.proofs.lemmas.Slice.Eq.{bytes_eq-Decides}
use Rattle.gql_ast.specs.declared.definition.Definition.{Definition}
use Rattle.gql_facts.specs.declared.fact.Fact.TheVariants as fact
use Rattle.gql_facts.specs.declared.fact.FragmentFact.{FragmentFact}
use Rattle.gql_facts.specs.declared.key.Key.{Key}
use Rattle.gql_facts.specs.declared.key.Key.TheVariants as key
use Rattle.gql_facts.specs.Floats.{float_read}
use Rattle.gql_facts.specs.ListMembers.{Contains-nil, Contains-there, Contains-map, Contains-flat_map, Contains-flat_map_from}
use Rattle.gql_facts.specs.Members.{Lists}
use Rattle.gql_facts.specs.OwnReads.{fragment_reads, tree_reads}
use Rattle.gql_facts.specs.Reads.{Reads, Reaches, by_definition, by_fragment}
use Rattle.gql_facts.specs.Worlds.{Facts, IsWorld}
use Rattle.gql_reads.specs.Leading.{AreLed}
use Rattle.gql_reads.specs.Observations.{Hold, keys_of, observed_in}
use Rattle.gql_reads.specs.Own.{Own, tree_of}
use Rattle.gql_reads.specs.Reaching.{AreMet, IsReaching, Meets}
use Rattle.gql_reads.specs.Readings.{members_of, name_of, own_name, seen_in}
use Rattle.gql_reads.specs.Records.{IsRecord, IsTold, Kept}
use Rattle.gql_reads.specs.Tables.{AllHold, Entries, entry_at}
use Rattle.gql_reads.specs.declared.observation.Answer.{Answer}
use Rattle.gql_reads.specs.declared.observation.Observation.{Observation}
use Rattle.gql_reads.proofs.Members.{Contains-map_from}
use Rattle.gql_reads.proofs.Meeting.{met_count, met_stays}
use Rattle.gql_reads.proofs.Owning.{fragment_read, own_read, split}
use Rattle.gql_reads.proofs.Recorded.{key_is, node_told, observed_so, own_reached, part_reached, told_observed}
use Rattle.gql_reads.proofs.Takes.{all_taken, at_there, longer, member_at, take_next}

module _ (F : Facts) (names : List (List ℕ)) (world : IsWorld F names) (d : Definition) (own : List Answer) (is_own : IsRecord F d.tree own) where
  -- ---- the steps

  pub reaching_first : (old parts : List Kept) → old ≡ [] → Meets (IsTold own) old parts → IsReaching F d own 0 parts
  reaching_first old parts none m =
      let is : parts ≡ m.more = m.is ∙ ap (λ l. l ++ m.more) none in
      record {
        within = omega arith;
        reached = λ p c. own_reached F names world d own p.fragment is_own (m.from p (subst (λ l. Contains l p) is c));
        own_met = m.all;
        followed = λ p g c t. absurd (Contains-nil p c);
      }

  -- the fragments that the part at this place spreads are met
  pub reaching_more : (at : ℕ) (parts new : List Kept) → IsReaching F d own at parts → at < length parts
      → ((p : Kept) → Contains parts p → IsRecord F (tree_of p.fragment) p.seen)
      → ((p : Kept) → slice_get parts at ≡ Some p → Meets (IsTold p.seen) parts new) → IsReaching F d own (at + 1) new
  reaching_more at parts new w lt records next =
      let q = member_at parts at lt in
      let m = next q.0 q.1 in
      let there : Contains parts q.0 = at_there parts at q.0 q.1 in
      let count : suc at ≡ at + 1 = omega arith in
      let firsts : take (at + 1) new ≡ take at parts ++ q.0 ∷ [] = ap (λ n. take n new) (sym count) ∙ ap (take (suc at)) m.is ∙ take_next parts m.more at q.0 q.1 in
      let old : (g : FragmentFact) → Contains (members_of parts) g → Contains (members_of new) g = λ g c. subst (λ l. Contains (members_of l) g) (sym m.is) (met_stays parts m.more g c) in
      record {
        within = longer parts m.more new at m.is lt;
        reached = λ p c. elim (Contains-append_cases parts m.more p (subst (λ l. Contains l p) m.is c)) [
          | inl a ↦ w.reached p a
          | inr b ↦ part_reached F names world d q.0.seen q.0.fragment p.fragment (w.reached q.0 there) (records q.0 there) (m.from p b)
        ];
        own_met = λ g t. old g (w.own_met g t);
        followed = λ p g c t. elim (Contains-push_cases (take at parts) q.0 p (subst (λ l. Contains l p) firsts c)) [
          | inl a ↦ old g (w.followed p g a t)
          | inr e ↦ m.all g (subst (λ (x : Kept). IsTold x.seen g) (sym e) t)
        ];
      }

  -- ---- the end

  module _ (at : ℕ) (es : Entries) (ns : List (List ℕ)) (parts : List Kept) (w : IsReaching F d own at parts) (met : AreMet F es ns parts) (end : length parts ≤ at) where
    abbrev all : List Observation
    all = observed_in own ++ seen_in parts

    all_followed : (p : Kept) (g : FragmentFact) → Contains parts p → IsTold p.seen g → Contains (members_of parts) g
    all_followed p g c t = w.followed p g (subst (λ l. Contains l p) (sym (all_taken parts at end)) c) t

    part_for : (g : FragmentFact) → Contains (members_of parts) g → (p : Kept) × Contains parts p × (p.fragment ≡ g)
    part_for g c = Contains-map_from (λ (p : Kept). p.fragment) parts g c

    -- what a fragment reads is among the reads of its tree
    in_tree : (f : FragmentFact) (n : List ℕ) → Contains (fragment_reads F f.fragment) (key.FragmentOf n) → Contains (tree_reads F (tree_of f)) (key.FragmentOf n)
    in_tree f n c = Contains-there (key.FragmentOf n) float_read (fragment_reads F f.fragment) c

    member_reached : {g : FragmentFact} → Reaches F d g → Contains (members_of parts) g
    member_reached (by_definition {n} {g} c e) = w.own_met g (node_told F d.tree own n g is_own c e)
    member_reached (by_fragment {n} {f} {g} r c e) =
        let p = part_for f (member_reached r) in
        let seen : IsRecord F (tree_of f) p.0.seen = subst (λ h. IsRecord F (tree_of h) p.0.seen) p.2 (met.each p.0 p.1).seen in
        all_followed p.0 g p.1 (node_told F (tree_of f) p.0.seen n g seen (in_tree f n c) e)

    pub all_members : Lists (members_of parts) (Reaches F d)
    all_members = record {
      sound = λ g c. let p = part_for g c in subst (Reaches F d) p.2 (w.reached p.0 p.1);
      complete = λ g r. member_reached r;
    }

    pub all_hold : Hold F all
    all_hold o c = elim (Contains-append_cases (observed_in own) (seen_in parts) o c) [
      | inl a ↦ is_own.hold o a
      | inr b ↦ let m = Contains-flat_map_from (λ (p : Kept). observed_in p.seen) parts o b in (met.each m.0 m.1).seen.hold o m.2
    ]

    from_own : (k : Key) → Own F d.tree k → Contains (keys_of all) k
    from_own k o =
        let m = Contains-map_from (λ (x : Observation). x.key) (observed_in own) k (is_own.keys.complete k o) in
        subst (Contains (keys_of all)) m.2 (Contains-map (λ (x : Observation). x.key) all m.0 (Contains-append_left (observed_in own) (seen_in parts) m.0 m.1))

    from_part : (g : FragmentFact) (k : Key) → Reaches F d g → Own F (tree_of g) k → Contains (keys_of all) k
    from_part g k r o =
        let p = part_for g (member_reached r) in
        let own_there : Own F (tree_of p.0.fragment) k = subst (λ h. Own F (tree_of h) k) (sym p.2) o in
        let m = Contains-map_from (λ (x : Observation). x.key) (observed_in p.0.seen) k ((met.each p.0 p.1).seen.keys.complete k own_there) in
        subst (Contains (keys_of all)) m.2 (Contains-map (λ (x : Observation). x.key) all m.0
        (Contains-append_right (observed_in own) (seen_in parts) m.0 (Contains-flat_map (λ (q : Kept). observed_in q.seen) parts p.0 m.0 p.1 m.1)))

    observation_read : (o : Observation) → Contains all o → Reads F d o.key
    observation_read o c = elim (Contains-append_cases (observed_in own) (seen_in parts) o c) [
      | inl a ↦ own_read F d (is_own.keys.sound o.key (Contains-map (λ (x : Observation). x.key) (observed_in own) o a))
      | inr b ↦
          let m = Contains-flat_map_from (λ (p : Kept). observed_in p.seen) parts o b in
          fragment_read F d (w.reached m.0 m.1) ((met.each m.0 m.1).seen.keys.sound o.key (Contains-map (λ (x : Observation). x.key) (observed_in m.0.seen) o m.2))
    ]

    pub all_keys : Lists (keys_of all) (Reads F d)
    all_keys = record {
      sound = λ k c. let m = Contains-map_from (λ (o : Observation). o.key) all k c in subst (Reads F d) m.2 (observation_read m.0 m.1);
      complete = λ k r. elim (split F d r) [ inl o ↦ from_own k o | inr q ↦ from_part q.0 k q.1 q.2 ];
    }

    -- what a part is of was told
    told_by : {g : FragmentFact} → Reaches F d g → (o : Observation) × Contains all o × (o.fact ≡ fact.Fragment g)
    told_by (by_definition {n} {g} c e) =
        let t = node_told F d.tree own n g is_own c e in
        (t.0.observation, Contains-append_left (observed_in own) (seen_in parts) t.0.observation (told_observed own g t), t.2)
    told_by (by_fragment {n} {f} {g} r c e) =
        let p = part_for f (member_reached r) in
        let seen : IsRecord F (tree_of f) p.0.seen = subst (λ h. IsRecord F (tree_of h) p.0.seen) p.2 (met.each p.0 p.1).seen in
        let t = node_told F (tree_of f) p.0.seen n g seen (in_tree f n c) e in (
          t.0.observation,
          Contains-append_right (observed_in own) (seen_in parts) t.0.observation
              (Contains-flat_map (λ (q : Kept). observed_in q.seen) parts p.0 t.0.observation p.1 (told_observed p.0.seen g t)),
          t.2,
        )

    pub all_shared : (p : Kept) → Contains parts p → (entry_at es (name_of p.fragment) ≡ Some p) × Contains all (own_name p.fragment)
    all_shared p c =
        let t = told_by (w.reached p c) in
        let k = key_is F names world t.0.key p.fragment (all_hold t.0 t.1 ∙ t.2) in
        ((met.each p c).entry, subst (Contains all) (observed_so t.0 (key.FragmentOf (name_of p.fragment)) (fact.Fragment p.fragment) k t.2) t.1)

    -- each answer has exactly the types that it leads to
    pub all_led : AreLed (own ++ flat_map (λ (p : Kept). p.seen) parts)
    all_led a c = elim (Contains-append_cases own (flat_map (λ (p : Kept). p.seen) parts) a c) [
      | inl o ↦ is_own.led a o
      | inr q ↦ let m = Contains-flat_map_from (λ (p : Kept). p.seen) parts a q in (met.each m.0 m.1).seen.led a m.2
    ]

  -- ---- a walk ends

  pub fewer_left : (at : ℕ) (es : Entries) (ns : List (List ℕ)) (parts : List Kept) → AllHold F es → AreMet F es ns parts → IsDistinct bytes_eq ns → at < length parts
      → length names - (at + 1) < length names - at
  fewer_left at es ns parts holds met distinct lt =
      let among : (n : List ℕ) → Contains ns n → Contains names n = λ n c.
      let m = Contains-map_from (λ (p : Kept). name_of p.fragment) parts n (subst (λ l. Contains l n) met.named c) in
      let h = holds.each (name_of m.0.fragment) m.0 (met.each m.0 m.1).entry in
      subst (Contains names) m.2 (world.fragments (name_of m.0.fragment) (λ a. let b : fact.Fragment m.0.fragment ≡ fact.Absent = sym h.0 ∙ a in cc b)) in
      let b = length-le_from_is_member (decided bytes_eq bytes_eq-Decides) ns names distinct
      (λ n c. list_any-from_Contains (decided bytes_eq bytes_eq-Decides) n names (among n (Contains-from_any (λ x y. (bytes_eq-Decides x y).0) n ns c))) in
      let l = met_count F es ns parts met in
      omega (arith, b, l, lt)
