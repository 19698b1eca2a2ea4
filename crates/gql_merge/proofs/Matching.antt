-- The numbers of sets and fields are numbers for the sets and fields of the definition.
use Rattle.std.specs.Prelude.{◌≡◌, ◌<◌, ℕ, zero, suc, cond, List, [], ◌∷◌, map, flat_map, length, Bool, true, false, ◌&&◌, nat_eq, bytes_eq, refl, Option, Some, None, option_map, Contains}
use Rattle.std.specs.List.{slice_get}
use Rattle.std.proofs.Common.{ap, sym, ◌∙◌, subst, inl, inr, get_or, arith, true≢false}
use Rattle.std.proofs.lemmas.List.{get_or_past, length-map}
use Rattle.std.proofs.lemmas.Slice.Eq.{bytes_eq-Decides}
use Rattle.std.proofs.lemmas.Bool.{cases_lt}
use Rattle.std.proofs.lemmas.Bool.Decides.{Decides-eqb}
use Rattle.gql_clashes.specs.Clashes.{Nodes}
use Rattle.gql_clashes.proofs.Members.{Contains-map, Contains-map_from}
use Rattle.gql_clashes.specs.Numbered.{IsWhole, field_at, no_field, nodes_of}
use Rattle.gql_clashes.specs.Numbering.{IsNumbered, IsUsed}
use Rattle.gql_clashes.specs.declared.sets.Sets.{Sets}
use Rattle.gql_facts.specs.ListMembers.{Contains-cases, Contains-flat_map_from, Contains-nil, some_same}
use Rattle.gql_facts.specs.Worlds.{Facts}
use Rattle.gql_merge.proofs.Drawing.{same_length}
use Rattle.gql_merge.proofs.FlatNodes.{AreRight, IsKept, all_drawn, all_nodes, below_at, below_inside, direct_below, direct_map, flat, kept_at, node_at, numbers_length, set_at, spreads_map}
use Rattle.gql_merge.specs.FieldNodes.{FieldNode, SetNode, direct, names_spread}
use Rattle.gql_merge.specs.FieldSets.{list_of}
use Rattle.gql_merge.specs.Flat.{AreDrawn, Draws}
use Rattle.gql_merge.specs.Known.{info_in}
use Rattle.gql_merge.specs.MergedNodes.{nodes}
use Rattle.gql_merge.specs.Numbers.{IsPlace, Numbers, aspect_of, aspects_of, direct_from, place_in, spreads_of}
use Rattle.gql_merge.specs.declared.columns.Aspect.{Aspect}
use Rattle.gql_merge.specs.declared.columns.Aspect.TheVariants as aspect
use Rattle.gql_merge.specs.declared.flat.FlatField.{FlatField}
use Rattle.gql_merge.specs.declared.flat.FlatSet.{FlatSet}

-- ---- places of texts tell texts apart

step_is : (a x : List ℕ) (xs : List (List ℕ)) (b : Bool) (o : Option ℕ) (m : ℕ) → bytes_eq a x ≡ b → ((k : ℕ) → o ≡ Some k → get_or xs k [] ≡ a)
    → cond b (Some 0) (option_map suc o) ≡ Some m → get_or (x ∷ xs) m [] ≡ a
step_is a x xs true o m is there e = subst (λ k. get_or (x ∷ xs) k [] ≡ a) (some_same 0 m e) (sym ((bytes_eq-Decides a x).0 is))
step_is a x xs false None m is there e = absurd (let h : None ≡ Some m = e in cc)
step_is a x xs false (Some k) m is there e = subst (λ j. get_or (x ∷ xs) j [] ≡ a) (some_same (suc k) m e) (there k refl)

place_is : (a : List ℕ) (xs : List (List ℕ)) (m : ℕ) → place_in a xs ≡ Some m → get_or xs m [] ≡ a
place_is a [] m e = absurd (let h : None ≡ Some m = e in cc)
place_is a (x ∷ xs) m e = step_is a x xs (bytes_eq a x) (place_in a xs) m refl (λ k h. place_is a xs k h) e

same_test : (a b : Bool) → (a ≡ true → b ≡ true) → (b ≡ true → a ≡ true) → a ≡ b
same_test true b f g = sym (f refl)
same_test false true f g = absurd (true≢false (sym (g refl)))
same_test false false f g = refl

same_place : (a b : List ℕ) (xs : List (List ℕ)) (m n : ℕ) → place_in a xs ≡ Some m → place_in b xs ≡ Some n → bytes_eq a b ≡ nat_eq m n
same_place a b xs m n e f = same_test (bytes_eq a b) (nat_eq m n)
    (λ t. (Decides-eqb m n).1 (some_same m n (sym e ∙ ap (λ c. place_in c xs) ((bytes_eq-Decides a b).0 t) ∙ f)))
    (λ t. (bytes_eq-Decides a b).1 (sym (place_is a xs m e) ∙ ap (λ k. get_or xs k []) ((Decides-eqb m n).0 t) ∙ place_is b xs n f))

-- ---- numbers of fields

-- what is known of the names that sets spread
abbrev pub AreResolved : Facts → List SetNode → (List ℕ → Option ℕ) → Type 0
AreResolved F ns number = (s : SetNode) → Contains ns s → AreRight F ns number (names_spread s)

-- numbers of fragments are numbers of sets
abbrev pub AreInside : List SetNode → (List ℕ → Option ℕ) → Type 0
AreInside ns number = (q : List ℕ) (i : ℕ) → number q ≡ Some i → i < length ns

module _ (F : Facts) (xs : List FlatSet) (ns : List SetNode) (number : List ℕ → Option ℕ) (all : List FlatField) (z : Sets)
    (drawn : Draws xs ns) (q : Numbers xs number all z) (right : AreResolved F ns number) (inside : AreInside ns number) where
  abbrev w : Nodes ℕ ℕ
  w = nodes_of z

  abbrev node : ℕ → FieldNode
  node = node_at ns

  abbrev set : ℕ → SetNode
  set = set_at ns

  direct_is : (s : ℕ) → map node (w.direct s) ≡ direct (set s)
  direct_is s = ap (λ l. map node (get_or l s [])) q.direct ∙ direct_map ns [] xs ns s drawn

  spreads_is : (s : ℕ) → map set (w.spreads s) ≡ (nodes F).spreads (set s)
  spreads_is s = ap (λ l. map set (get_or l s [])) q.spreads ∙ spreads_map F ns ns number xs ns s drawn right

  pub used_below : (f : ℕ) → IsUsed w f → f < length all
  used_below f u =
      let c : Contains (get_or (direct_from 0 xs) u.0 []) f = subst (λ l. Contains (get_or l u.0 []) f) q.direct u.1 in
      let h = direct_below 0 f u.0 xs c in
      rw q.all_fields (omega (arith, h))

  pub drawn_all : AreDrawn ns all (all_nodes ns)
  drawn_all = subst (λ l. AreDrawn ns l (all_nodes ns)) (sym q.all_fields) (all_drawn ns xs ns drawn)

  kept : (f : ℕ) → IsUsed w f → IsKept all ns (field_at z f) (node f)
  kept f u = kept_at all all z.fields.items ns (all_nodes ns) f q.fields drawn_all (used_below f u)

  share : (a : Aspect) (f g : ℕ) (m n : ℕ) (kf : IsKept all ns (field_at z f) (node f)) (kg : IsKept all ns (field_at z g) (node g))
      → IsPlace a all kf.0 m → IsPlace a all kg.0 n → bytes_eq (aspect_of a (node f).its) (aspect_of a (node g).its) ≡ nat_eq m n
  share a f g m n kf kg e h =
      ap (λ i. bytes_eq (aspect_of a i) (aspect_of a (node g).its)) (sym kf.2.its)
      ∙ ap (λ i. bytes_eq (aspect_of a (info_in kf.0.known)) (aspect_of a i)) (sym kg.2.its)
      ∙ same_place (aspect_of a (info_in kf.0.known)) (aspect_of a (info_in kg.0.known)) (aspects_of a all) m n e h

  start_is : (f : ℕ) (k : IsKept all ns (field_at z f) (node f)) → (node f).its.start.offset ≡ (field_at z f).start
  start_is f k = sym (k.1.start ∙ ap (λ i. i.start.offset) k.2.its)

  pub is_numbered : IsNumbered (nodes F) w node set
  is_numbered = record {
    direct_there = λ s f c. subst (λ l. Contains l (node f)) (direct_is s) (Contains-map node (w.direct s) f c);
    direct_back = λ s x c. Contains-map_from node (w.direct s) x (subst (λ l. Contains l x) (sym (direct_is s)) c);
    spreads_there = λ s t c. subst (λ l. Contains l (set t)) (spreads_is s) (Contains-map set (w.spreads s) t c);
    spreads_back = λ s y c. Contains-map_from set (w.spreads s) y (subst (λ l. Contains l y) (sym (spreads_is s)) c);
    below = λ f u. let k = kept f u in below_at ns k.0.below (node f).below k.2.below ∙ ap (option_map set) (sym k.1.below);
    is_one = λ f g u v. let k = kept f u in let l = kept g v in
        ap (λ b. b && nat_eq (node f).its.start.offset (node g).its.start.offset) (share aspect.File f g (field_at z f).file (field_at z g).file k l k.1.file l.1.file)
        ∙ ap (λ n. nat_eq (field_at z f).file (field_at z g).file && nat_eq n (node g).its.start.offset) (start_is f k)
        ∙ ap (λ n. nat_eq (field_at z f).file (field_at z g).file && nat_eq (field_at z f).start n) (start_is g l);
    share_name = λ f g u v. let k = kept f u in let l = kept g v in share aspect.ResponseName f g (field_at z f).response_name (field_at z g).response_name k l k.1.response_name l.1.response_name;
    share_parent = λ f g u v. let k = kept f u in let l = kept g v in share aspect.Parent f g (field_at z f).parent (field_at z g).parent k l k.1.parent l.1.parent;
    of_object = λ f u. let k = kept f u in ap (λ i. i.of_object) (sym k.2.its) ∙ sym k.1.of_object;
    share_call = λ f g u v. let k = kept f u in let l = kept g v in share aspect.Call f g (field_at z f).call (field_at z g).call k l k.1.call l.1.call;
    share_shape = λ f g u v. let k = kept f u in let l = kept g v in share aspect.Shape f g (field_at z f).shape (field_at z g).shape k l k.1.shape l.1.shape;
  }

  count_is : length z.fields.items ≡ length all
  count_is = sym (numbers_length all all z.fields.items q.fields)

  pub bodies_are : length z.bodies.items ≡ length ns
  bodies_are = sym (length-map z.bodies.items (λ b. b.spreads.items)) ∙ ap length q.spreads ∙ length-map xs (spreads_of number) ∙ same_length ns xs ns drawn

  names_inside : (qs : List (List ℕ)) (t : ℕ) → Contains (flat_map (λ p. list_of (number p)) qs) t → t < length ns
  names_inside qs t c =
      let r = Contains-flat_map_from (λ p. list_of (number p)) qs t c in
      listed (number r.0) t (inside r.0) r.2
    where
      listed : (o : Option ℕ) (t : ℕ) → ((i : ℕ) → o ≡ Some i → i < length ns) → Contains (list_of o) t → t < length ns
      listed None t h c = absurd (Contains-nil t c)
      listed (Some i) t h c = elim (Contains-cases t i [] c) [
        | inl e ↦ rw e (h i refl)
        | inr n ↦ absurd (Contains-nil t n)
      ]

  spread_inside : (ys : List FlatSet) (s t : ℕ) → Contains (get_or (map (spreads_of number) ys) s []) t → t < length ns
  spread_inside [] s t c = absurd (Contains-nil t c)
  spread_inside (y ∷ ys) zero t c = names_inside (map (λ b. b.now) y.names.items) t (subst (λ l. Contains l t) (flat (λ p. list_of (number p)) (λ b. b.now) y.names.items) c)
  spread_inside (y ∷ ys) (suc s) t c = spread_inside ys s t c

  below_of : (f s : ℕ) → f < length all → w.below f ≡ Some s → s < length ns
  below_of f s h e =
      let k = kept_at all all z.fields.items ns (all_nodes ns) f q.fields drawn_all h in
      below_inside ns s (node f).below (ap (option_map (slice_get ns)) (sym (sym k.1.below ∙ e)) ∙ k.2.below)

  pub is_whole : IsWhole z
  is_whole = record {
    fields = λ s f c. rw count_is (used_below f (s, c));
    spreads = λ s t c. rw bodies_are (spread_inside xs s t (subst (λ l. Contains (get_or l s []) t) q.spreads c));
    below = λ f s e. elim (cases_lt f (length all)) [
      | inl h ↦ rw bodies_are (below_of f s h e)
      | inr h ↦ absurd (let n : (field_at z f).below ≡ None = ap (λ x. x.below) (get_or_past z.fields.items f no_field (rw count_is h)) in let k : None ≡ Some s = sym n ∙ e in cc)
    ];
  }
