-- The ranges and the rows make the edges of the graph of defaults.
use Rattle.std.proofs.Common.{◌≡◌, ℕ, zero, suc, ◌<◌, ◌&&◌, ◌||◌, inl, inr, List, [], ◌∷◌, Bool, true, false, not, cond, Some, is_some, find, bytes_eq, map, flat_map, Contains, length, get_or, sym, ap, ◌∙◌, subst, refl, arith}
use Rattle.std.proofs.lemmas.Bool.{cases_lt}
use Rattle.std.proofs.lemmas.List.{length-map, get_or_past}
use Rattle.std.proofs.lemmas.Map.Views.{Contains-from_any}
use Rattle.std.proofs.lemmas.Slice.Eq.{bytes_eq-Decides}
use Rattle.gql_ast.specs.declared.type_system.InputValueDefinition.{InputValueDefinition}
use Rattle.gql_built_in.specs.declared.sited.Sited.{Sited}
use Rattle.gql_cycles.proofs.Members.{Contains-nil, Contains-here, Contains-cases, Contains-map, Contains-map_from, Contains-flat_map, Contains-flat_map_from}
use Rattle.gql_cycles.specs.Nodes.{IsEdge, Trail, edge, next}
use Rattle.gql_iface_rules.proofs.S19Missing.{found_in, finds, numbered_in, numbered_same, object_in, object_same, is_named, first_has, first_of, default_stands}
use Rattle.gql_iface_rules.specs.S19DefaultValueCycles.{Numbered, NumberedObject, ObjectValue, input_objects, all_inputs, objects, is_among, missing_default, missing_defaults, default_values, default_needs, default_graph}
use Rattle.gql_iface_rules.specs.S19Ends.{end_of, ends_of, Rows}
use Rattle.gql_iface_rules.specs.S19Ranges.{first_number, given_numbers, IsMissing, AreMissing}
use Rattle.gql_iface_rules.specs.declared.s19_ends.End.{End}
use Rattle.gql_cycles.specs.Cover.{IsWithin}
use Rattle.gql_cycles.specs.Ranges.{IsRangeEdge, LeadsBy, RangeTrail, range_edge, range_next}
use Rattle.gql_cycles.specs.declared.cover.Range.{Range}
use Rattle.gql_types.specs.declared.schema.Schema.{Schema}

same_text : (xs ys : List ℕ) → bytes_eq xs ys ≡ true → xs ≡ ys
same_text xs ys e = (bytes_eq-Decides xs ys).0 e

text_same : (xs : List ℕ) → bytes_eq xs xs ≡ true
text_same xs = (bytes_eq-Decides xs xs).1 refl

-- an element, and what a function makes of it
pub at_map : {A B : Type 0} (f : A → List B) (xs : List A) (i : ℕ) → i < length xs → (x : A) × (get_or xs i x ≡ x) × (get_or (map f xs) i [] ≡ f x)
at_map f [] i lt = absurd (omega (arith, lt))
at_map f (x ∷ xs) zero lt = (x, refl, refl)
at_map f (x ∷ xs) (suc i) lt = let r = at_map f xs i (omega (arith, lt)) in (r.0, r.1, r.2)

pub stands_at : {A : Type 0} (xs : List (List A)) (i : ℕ) (x : A) → Contains (get_or xs i []) x → i < length xs
stands_at xs i x h = elim (cases_lt i (length xs)) [
  | inl lt ↦ lt
  | inr ge ↦ absurd (Contains-nil x (subst (λ ys. Contains ys x) (get_or_past xs i [] ge) h))
]

-- a field that is missing
record Missing (names : List (List ℕ)) (x : Numbered) : Type 0 where
  some : is_some x.field.node.default ≡ true
  other : is_among names x.field.node.name.text ≡ false

missing_default_is : (names : List (List ℕ)) (x : Numbered) (j : ℕ) (a b : Bool) → is_some x.field.node.default ≡ a → is_among names x.field.node.name.text ≡ b → Contains (cond (a && not b) (x.number ∷ []) []) j → Missing names x × (j ≡ x.number)
missing_default_is names x j true false e f h = elim (Contains-cases j x.number [] h) [ inl s ↦ (record { some = e; other = f }, s) | inr n ↦ absurd (Contains-nil j n) ]
missing_default_is names x j true true e f h = absurd (Contains-nil j h)
missing_default_is names x j false b e f h = absurd (Contains-nil j h)

missing_default_has : (names : List (List ℕ)) (x : Numbered) → Missing names x → Contains (missing_default names x) x.number
missing_default_has names x l =
    let some = l.some in
    let other = l.other in
    rw (some, other) (Contains-here x.number [])

-- a field with a default is at the first field of its name
end_is : (o : NumberedObject) (x : Numbered) (e : End) (a : Bool) → is_some x.field.node.default ≡ a → Contains (cond a (map (λ n. record { first = n; number = x.number }) (first_number o.inputs x.field.node.name.text)) []) e →
    (is_some x.field.node.default ≡ true) × Contains (first_number o.inputs x.field.node.name.text) e.first × (e.number ≡ x.number)
end_is o x e true some h =
    let r = Contains-map_from (λ n. record { first = n; number = x.number }) (first_number o.inputs x.field.node.name.text) e h in
    (some, subst (λ n. Contains (first_number o.inputs x.field.node.name.text) n) (ap (λ (z : End). z.first) r.2) r.1, sym (ap (λ (z : End). z.number) r.2))
end_is o x e false some h = absurd (Contains-nil e h)

end_has : (o : NumberedObject) (x : Numbered) (p : ℕ) → is_some x.field.node.default ≡ true → Contains (first_number o.inputs x.field.node.name.text) p → Contains (end_of o x) (record { first = p; number = x.number })
end_has o x p some h = rw some (Contains-map (λ n. record { first = n; number = x.number }) (first_number o.inputs x.field.node.name.text) p h)

either_true : (a b : Bool) → b ≡ true → (a || b) ≡ true
either_true true b e = refl
either_true false b e = e

among_of : (names : List (List ℕ)) (name : List ℕ) → Contains names name → is_among names name ≡ true
among_of [] name h = absurd (Contains-nil name h)
among_of (n ∷ names) name h = elim (Contains-cases name n names h) [
  | inl e ↦ let t : bytes_eq name n ≡ true = ap (bytes_eq name) (sym e) ∙ text_same name in rw t refl
  | inr g ↦ either_true (bytes_eq name n) (is_among names name) (among_of names name g)
]

-- a name whose first field is not given is not among those that are
not_among : (st : ObjectValue) (x : Numbered) (p : ℕ) → Contains (first_number st.input_object.inputs x.field.node.name.text) p → (Contains (given_numbers st) p → ⊥) →
    (b : Bool) → is_among st.names x.field.node.name.text ≡ b → is_among st.names x.field.node.name.text ≡ false
not_among st x p first free true e = absurd (free (Contains-flat_map (first_number st.input_object.inputs) st.names x.field.node.name.text p (Contains-from_any same_text x.field.node.name.text st.names e) first))
not_among st x p first free false e = e

module _ (s : Schema) where
  abbrev all : List NumberedObject
  all = objects s

  abbrev fields : List (Sited InputValueDefinition)
  fields = all_inputs s

  -- the number of the first field of a name is that of a field of the object
  within : (o : NumberedObject) (y : Numbered) → Contains all o → Contains o.inputs y → IsWithin o.numbers y.number × (y.number < length fields)
  within o y h g =
      let n = object_in 0 (input_objects s.types) o h in
      let b = numbered_in o.numbers.start o.of_type.input_fields y (subst (λ xs. Contains xs y) n.inputs_are g) in
      ((b.0, omega (arith, b.1, n.end_is)), omega (arith, b.1, n.end_is, n.to_is))

  same_input : (o : NumberedObject) (y z : Numbered) → Contains all o → Contains o.inputs y → Contains o.inputs z → y.number ≡ z.number → y ≡ z
  same_input o y z h a b e =
      let n = object_in 0 (input_objects s.types) o h in
      numbered_same o.numbers.start o.of_type.input_fields y z (subst (λ xs. Contains xs y) n.inputs_are a) (subst (λ xs. Contains xs z) n.inputs_are b) e

  -- the first field of a name that an object does not give
  not_given : (st : ObjectValue) (x y : Numbered) → Contains all st.input_object → is_among st.names x.field.node.name.text ≡ false → find (is_named x.field.node.name.text) st.input_object.inputs ≡ Some y →
      Contains (given_numbers st) y.number → ⊥
  not_given st x y o other first h =
      let g = Contains-flat_map_from (first_number st.input_object.inputs) st.names y.number h in
      let z = first_has st.input_object.inputs g.0 y.number g.2 in
      let at_y = found_in (is_named x.field.node.name.text) st.input_object.inputs y first in
      let at_z = found_in (is_named g.0) st.input_object.inputs z.0 z.1 in
      let same : z.0 ≡ y = same_input st.input_object z.0 y o at_z.0 at_y.0 z.2 in
      let named : x.field.node.name.text ≡ g.0 = same_text x.field.node.name.text y.field.node.name.text at_y.1 ∙ ap (λ (i : Numbered). i.field.node.name.text) (sym same) ∙ sym (same_text g.0 z.0.field.node.name.text at_z.1) in
      let among : is_among st.names x.field.node.name.text ≡ true = among_of st.names x.field.node.name.text (subst (λ n. Contains st.names n) (sym named) g.1) in
      absurd (cc)

  module _ (ranges : List (List Range)) (rows : List (List ℕ)) (ends : List End) (count : ℕ) (size : count ≡ length fields) (lens : length ranges ≡ length fields)
      (lack : (i : ℕ) (d : Sited InputValueDefinition) → i < length fields → AreMissing (default_values all (get_or fields i d)) (get_or ranges i []))
      (r : Rows count ends rows) (are : ends ≡ flat_map ends_of all) where
    sound : (i j : ℕ) → IsEdge (default_graph s) i j → (p : ℕ) × LeadsBy ranges rows i p j
    sound i j h =
        let lt : i < length fields = omega (arith, stands_at (default_graph s) i j h, length-map fields (default_needs all)) in
        let m = at_map (default_needs all) fields i lt in
        let a = Contains-flat_map_from missing_defaults (default_values all m.0) j (subst (λ xs. Contains xs j) m.2 h) in
        let st = a.0 in
        let b = Contains-flat_map_from (missing_default st.names) st.input_object.inputs j a.2 in
        let x = b.0 in
        let l = missing_default_is st.names x j (is_some x.field.node.default) (is_among st.names x.field.node.name.text) refl refl b.2 in
        let o = default_stands all m.0 st a.1 in
        let y = finds (is_named x.field.node.name.text) st.input_object.inputs x b.1 (text_same x.field.node.name.text) in
        let at_y = found_in (is_named x.field.node.name.text) st.input_object.inputs y.0 y.1 in
        let w = within st.input_object y.0 o at_y.0 in
        let first = first_of st.input_object.inputs x.field.node.name.text y.0 y.1 in
        let missing : IsMissing st y.0.number = (w.0, not_given st x y.0 o l.0.other y.1) in
        let e : Contains ends (record { first = y.0.number; number = x.number }) = subst (λ es. Contains es (record { first = y.0.number; number = x.number })) (sym are)
        (Contains-flat_map ends_of all st.input_object (record { first = y.0.number; number = x.number }) o
        (Contains-flat_map (end_of st.input_object) st.input_object.inputs x (record { first = y.0.number; number = x.number }) b.1 (end_has st.input_object x y.0.number l.0.some first))) in (
          y.0.number,
          (
            (subst (λ d. AreMissing (default_values all d) (get_or ranges i [])) m.1 (lack i m.0 lt) y.0.number).1 (st, a.1, missing),
            (r.has y.0.number j).1 (omega (arith, w.1, size), subst (λ k. Contains ends (record { first = y.0.number; number = k })) (sym l.1) e),
          ),
        )

    complete : (i p j : ℕ) → LeadsBy ranges rows i p j → IsEdge (default_graph s) i j
    complete i p j h =
        let lt : i < length fields = omega (arith, stands_at ranges i h.0.0 h.0.1, lens) in
        let m = at_map (default_needs all) fields i lt in
        let f = (subst (λ d. AreMissing (default_values all d) (get_or ranges i [])) m.1 (lack i m.0 lt) p).0 h.0 in
        let st = f.0 in
        let o = default_stands all m.0 st f.1 in
        let e = Contains-flat_map_from ends_of all (record { first = p; number = j }) (subst (λ es. Contains es (record { first = p; number = j })) are ((r.has p j).0 h.1).1) in
        let g = Contains-flat_map_from (end_of e.0) e.0.inputs (record { first = p; number = j }) e.2 in
        let k = end_is e.0 g.0 (record { first = p; number = j }) (is_some g.0.field.node.default) refl g.2 in
        let y = first_has e.0.inputs g.0.field.node.name.text p k.1 in
        let at_y = found_in (is_named g.0.field.node.name.text) e.0.inputs y.0 y.1 in
        let same : e.0 ≡ st.input_object = object_same 0 (input_objects s.types) e.0 st.input_object p e.1 o (subst (λ q. IsWithin e.0.numbers q) y.2 (within e.0 y.0 e.1 at_y.0).0) f.2.0 in
        let here : Contains st.input_object.inputs g.0 = subst (λ (u : NumberedObject). Contains u.inputs g.0) same g.1 in
        let first : Contains (first_number st.input_object.inputs g.0.field.node.name.text) p = subst (λ (u : NumberedObject). Contains (first_number u.inputs g.0.field.node.name.text) p) same k.1 in
        let l : Missing st.names g.0 = record { some = k.0; other = not_among st g.0 p first f.2.1 (is_among st.names g.0.field.node.name.text) refl } in
        let needed : Contains (missing_defaults st) j = subst (λ q. Contains (missing_defaults st) q) (sym k.2) (Contains-flat_map (missing_default st.names) st.input_object.inputs g.0 g.0.number here (missing_default_has st.names g.0 l)) in
        subst (λ xs. Contains xs j) (sym m.2) (Contains-flat_map missing_defaults (default_values all m.0) st j f.1 needed)

-- the ranges and the rows lead as the graph does
pub record Joins (ranges : List (List Range)) (rows graph : List (List ℕ)) : Type 0 where
  pub sound : (i j : ℕ) → IsEdge graph i j → IsRangeEdge ranges rows i j
  pub complete : (i p j : ℕ) → LeadsBy ranges rows i p j → IsEdge graph i j

module _ {ranges : List (List Range)} {rows graph : List (List ℕ)} (g : Joins ranges rows graph) where
  pub trail_of_graph : {i j : ℕ} → RangeTrail ranges rows i j → Trail graph i j
  trail_of_graph (range_edge {i} {j} h) = edge (g.complete i h.0 j h.1)
  trail_of_graph (range_next {i} {j} {k} h t) = next (g.complete i h.0 j h.1) (trail_of_graph t)

  pub trail_of_ranges : {i j : ℕ} → Trail graph i j → RangeTrail ranges rows i j
  trail_of_ranges (edge {i} {j} h) = range_edge (g.sound i j h)
  trail_of_ranges (next {i} {j} {k} h t) = range_next (g.sound i j h) (trail_of_ranges t)

-- the same, as the clauses of the calls give it
pub joined : (s : Schema) (all : List NumberedObject) (fields : List (Sited InputValueDefinition)) (ranges ranges' : List (List Range)) (rows rows' : List (List ℕ)) (ends ends' : List End) (count : ℕ) →
    all ≡ objects s → fields ≡ all_inputs s → count ≡ length fields → ranges' ≡ ranges → rows' ≡ rows → ends' ≡ ends → length ranges ≡ length fields →
    ((i : ℕ) (d : Sited InputValueDefinition) → i < length fields → AreMissing (default_values all (get_or fields i d)) (get_or ranges i [])) →
    Rows count ends' rows → ends ≡ flat_map ends_of all → Joins ranges' rows' (default_graph s)
joined s found_objects fields ranges ranges' rows rows' ends ends' count of_objects of_fields size same_ranges same_rows same_ends lens lack r are =
    let lack_all = subst (λ os. (i : ℕ) (d : Sited InputValueDefinition) → i < length fields → AreMissing (default_values os (get_or fields i d)) (get_or ranges i [])) of_objects lack in
    let lack_fields = subst (λ fs. (i : ℕ) (d : Sited InputValueDefinition) → i < length fs → AreMissing (default_values (objects s) (get_or fs i d)) (get_or ranges i [])) of_fields lack_all in
    subst (λ xs. Joins xs rows' (default_graph s)) (sym same_ranges) (subst (λ xs. Joins ranges xs (default_graph s)) (sym same_rows)
    (record {
      sound = sound s ranges rows ends' count (size ∙ ap length of_fields) (lens ∙ ap length of_fields) lack_fields r (same_ends ∙ are ∙ ap (flat_map ends_of) of_objects);
      complete = complete s ranges rows ends' count (size ∙ ap length of_fields) (lens ∙ ap length of_fields) lack_fields r (same_ends ∙ are ∙ ap (flat_map ends_of) of_objects);
    }))
