-- The fields and the sets that numbers are for.
use Rattle.std.specs.Prelude.{◌≡◌, ◌+◌, ◌<◌, ℕ, zero, suc, List, [], ◌∷◌, ◌++◌, map, flat_map, length, false, refl, Option, Some, None, option_map, Contains}
use Rattle.std.specs.List.{slice_get}
use Rattle.std.proofs.Common.{ap, sym, ◌∙◌, inl, inr, get_or, arith}
use Rattle.std.proofs.lemmas.List.{length-append}
use Rattle.std.proofs.Math.Seq.{get_or-append_seam}
use Rattle.std.proofs.lemmas.Option.{get_or_from_slice_get, slice_get-get_or, slice_get_within}
use Rattle.gql_clashes.specs.Numbered.{no_field}
use Rattle.gql_clashes.specs.declared.sets.NumberedField.{NumberedField}
use Rattle.gql_facts.specs.ListMembers.{Contains-cases, Contains-here, Contains-nil, Contains-there, some_same}
use Rattle.gql_facts.specs.Worlds.{Facts}
use Rattle.gql_merge.proofs.Appending.{append_assoc}
use Rattle.gql_merge.specs.FieldNodes.{FieldNode, SetNode, direct, names_spread, no_fields, selection_set}
use Rattle.gql_merge.specs.FieldSets.{list_of}
use Rattle.gql_merge.specs.Flat.{AreDrawn, AreSetsDrawn, IsDrawn}
use Rattle.gql_merge.specs.Known.{info_in}
use Rattle.gql_merge.specs.MergedNodes.{sets_named}
use Rattle.gql_merge.specs.Numbers.{AreNumbersOf, IsNumberOf, direct_from, numbers_from, spreads_of}
use Rattle.gql_merge.specs.declared.flat.FlatField.{FlatField}
use Rattle.gql_merge.specs.declared.flat.FlatSet.{FlatSet}

abbrev pub empty_set : SetNode
empty_set = selection_set no_fields []

abbrev pub no_node : FieldNode
no_node = record {
  its = record {
    file = [];
    start = record { line = 0; column = 0; offset = 0 };
    response_name = [];
    parent = [];
    of_object = false;
    call = [];
    shape = [];
  };
  below = None;
}

-- the set and the field of a number
abbrev pub set_at : List SetNode → ℕ → SetNode
set_at ns s = get_or ns s empty_set

abbrev pub all_nodes : List SetNode → List FieldNode
all_nodes ns = flat_map direct ns

abbrev pub node_at : List SetNode → ℕ → FieldNode
node_at ns f = get_or (all_nodes ns) f no_node

abbrev pub fields_of : FlatSet → List FlatField
fields_of s = s.fields.items

-- ---- all fields

drawn_append : (ns : List SetNode) (xs ys : List FlatField) (fs gs : List FieldNode) → AreDrawn ns xs fs → AreDrawn ns ys gs → AreDrawn ns (xs ++ ys) (fs ++ gs)
drawn_append ns [] ys [] gs d e = e
drawn_append ns [] ys (f ∷ fs) gs d e = absurd d
drawn_append ns (x ∷ xs) ys [] gs d e = absurd d
drawn_append ns (x ∷ xs) ys (f ∷ fs) gs d e = (d.0, drawn_append ns xs ys fs gs d.1 e)

pub all_drawn : (ms : List SetNode) (xs : List FlatSet) (ns : List SetNode) → AreSetsDrawn ms xs ns → AreDrawn ms (flat_map fields_of xs) (all_nodes ns)
all_drawn ms [] [] d = tt
all_drawn ms [] (n ∷ ns) d = absurd d
all_drawn ms (x ∷ xs) [] d = absurd d
all_drawn ms (x ∷ xs) (n ∷ ns) d = drawn_append ms x.fields.items (flat_map fields_of xs) (direct n) (all_nodes ns) d.0.fields (all_drawn ms xs ns d.1)

fields_length : (ns : List SetNode) (xs : List FlatField) (fs : List FieldNode) → AreDrawn ns xs fs → length xs ≡ length fs
fields_length ns [] [] d = refl
fields_length ns [] (f ∷ fs) d = absurd d
fields_length ns (x ∷ xs) [] d = absurd d
fields_length ns (x ∷ xs) (f ∷ fs) d = ap suc (fields_length ns xs fs d.1)

pub numbers_length : (all xs : List FlatField) (zs : List NumberedField) → AreNumbersOf all xs zs → length xs ≡ length zs
numbers_length all [] [] d = refl
numbers_length all [] (z ∷ zs) d = absurd d
numbers_length all (x ∷ xs) [] d = absurd d
numbers_length all (x ∷ xs) (z ∷ zs) d = ap suc (numbers_length all xs zs d.1)

-- the field of a number, as it is kept
abbrev pub IsKept : List FlatField → List SetNode → NumberedField → FieldNode → Type 0
IsKept all ns n f = (x : FlatField) × IsNumberOf all x n × IsDrawn ns x f

pub kept_at : (all xs : List FlatField) (zs : List NumberedField) (ns : List SetNode) (fs : List FieldNode) (i : ℕ) → AreNumbersOf all xs zs → AreDrawn ns xs fs → i < length xs
    → IsKept all ns (get_or zs i no_field) (get_or fs i no_node)
kept_at all [] zs ns fs i n d within = absurd (omega (arith, within))
kept_at all (x ∷ xs) [] ns fs i n d within = absurd n
kept_at all (x ∷ xs) (z ∷ zs) ns [] i n d within = absurd d
kept_at all (x ∷ xs) (z ∷ zs) ns (f ∷ fs) zero n d within = (x, n.0, d.0)
kept_at all (x ∷ xs) (z ∷ zs) ns (f ∷ fs) (suc i) n d within = kept_at all xs zs ns fs i n.1 d.1 (omega (arith, within))

pub field_at : (ns : List SetNode) (xs : List FlatField) (fs : List FieldNode) (i : ℕ) → AreDrawn ns xs fs → i < length xs
    → (x : FlatField) × (slice_get xs i ≡ Some x) × (info_in x.known ≡ (get_or fs i no_node).its)
field_at ns [] fs i d within = absurd (omega (arith, within))
field_at ns (x ∷ xs) [] i d within = absurd d
field_at ns (x ∷ xs) (f ∷ fs) zero d within = (x, slice_get-get_or (x ∷ xs) 0 x within, d.0.its)
field_at ns (x ∷ xs) (f ∷ fs) (suc i) d within =
    let r = field_at ns xs fs i d.1 (omega (arith, within)) in
    (r.0, slice_get-get_or (x ∷ xs) (suc i) r.0 within ∙ ap Some (get_or_from_slice_get xs i r.0 r.0 r.1), r.2)

-- ---- the fields of a set

numbers_map : (pre fs post : List FieldNode) (xs : List FlatField) → length xs ≡ length fs
    → map (λ i. get_or (pre ++ (fs ++ post)) i no_node) (numbers_from (length pre) xs) ≡ fs
numbers_map pre [] post [] e = refl
numbers_map pre (f ∷ fs) post [] e = absurd (omega (arith, e))
numbers_map pre [] post (x ∷ xs) e = absurd (omega (arith, e))
numbers_map pre (f ∷ fs) post (x ∷ xs) e =
    let more = pre ++ f ∷ [] in
    let there : more ++ (fs ++ post) ≡ pre ++ (f ∷ (fs ++ post)) = append_assoc pre (f ∷ []) (fs ++ post) in
    let at : length more ≡ length pre + 1 = length-append pre (f ∷ []) in
    ap (λ g. g ∷ map (λ i. get_or (pre ++ (f ∷ (fs ++ post))) i no_node) (numbers_from (length pre + 1) xs)) (get_or-append_seam pre f (fs ++ post) no_node)
    ∙ ap (λ l. f ∷ map (λ i. get_or l i no_node) (numbers_from (length pre + 1) xs)) (sym there)
    ∙ ap (λ n. f ∷ map (λ i. get_or (more ++ (fs ++ post)) i no_node) (numbers_from n xs)) (sym at)
    ∙ ap (λ l. f ∷ l) (numbers_map more fs post xs (omega (arith, e)))

pub direct_map : (ms : List SetNode) (pre : List FieldNode) (xs : List FlatSet) (ns : List SetNode) (s : ℕ) → AreSetsDrawn ms xs ns
    → map (λ i. get_or (pre ++ all_nodes ns) i no_node) (get_or (direct_from (length pre) xs) s []) ≡ direct (set_at ns s)
direct_map ms pre [] [] s d = refl
direct_map ms pre [] (n ∷ ns) s d = absurd d
direct_map ms pre (x ∷ xs) [] s d = absurd d
direct_map ms pre (x ∷ xs) (n ∷ ns) zero d = numbers_map pre (direct n) (all_nodes ns) x.fields.items (fields_length ms x.fields.items (direct n) d.0.fields)
direct_map ms pre (x ∷ xs) (n ∷ ns) (suc s) d =
    let more = pre ++ direct n in
    let at : length more ≡ length pre + length x.fields.items = length-append pre (direct n) ∙ ap (λ k. length pre + k) (sym (fields_length ms x.fields.items (direct n) d.0.fields)) in
    ap (λ l. map (λ i. get_or l i no_node) (get_or (direct_from (length pre + length x.fields.items) xs) s [])) (sym (append_assoc pre (direct n) (all_nodes ns)))
    ∙ ap (λ k. map (λ i. get_or (more ++ all_nodes ns) i no_node) (get_or (direct_from k xs) s [])) (sym at)
    ∙ direct_map ms more xs ns s d.1

-- numbers of fields are below their count
numbers_below : (n f : ℕ) (xs : List FlatField) → Contains (numbers_from n xs) f → f < n + length xs
numbers_below n f [] c = absurd (Contains-nil f c)
numbers_below n f (x ∷ xs) c = elim (Contains-cases f n (numbers_from (n + 1) xs) c) [
  | inl e ↦ omega (arith, e)
  | inr t ↦ let h = numbers_below (n + 1) f xs t in omega (arith, h)
]

pub direct_below : (n f s : ℕ) (xs : List FlatSet) → Contains (get_or (direct_from n xs) s []) f → f < n + length (flat_map fields_of xs)
direct_below n f s [] c = absurd (Contains-nil f c)
direct_below n f zero (x ∷ xs) c =
    let h = numbers_below n f x.fields.items c in
    rw (length-append x.fields.items (flat_map fields_of xs)) (omega (arith, h))
direct_below n f (suc s) (x ∷ xs) c =
    let h = direct_below (n + length x.fields.items) f s xs c in
    rw (length-append x.fields.items (flat_map fields_of xs)) (omega (arith, h))

-- ---- the sets that a set spreads

-- the numbers of these names are right
abbrev pub AreRight : Facts → List SetNode → (List ℕ → Option ℕ) → List (List ℕ) → Type 0
AreRight F ns number names = (q : List ℕ) → Contains names q → map (set_at ns) (list_of (number q)) ≡ sets_named F q

map_append : {A B : Type 0} (f : A → B) (xs ys : List A) → map f (xs ++ ys) ≡ map f xs ++ map f ys
map_append f [] ys = refl
map_append f (x ∷ xs) ys = ap (λ l. f x ∷ l) (map_append f xs ys)

names_map : (F : Facts) (ns : List SetNode) (number : List ℕ → Option ℕ) (names : List (List ℕ)) → AreRight F ns number names
    → map (set_at ns) (flat_map (λ q. list_of (number q)) names) ≡ flat_map (sets_named F) names
names_map F ns number [] right = refl
names_map F ns number (q ∷ names) right =
    map_append (set_at ns) (list_of (number q)) (flat_map (λ p. list_of (number p)) names)
    ∙ ap (λ l. l ++ map (set_at ns) (flat_map (λ p. list_of (number p)) names)) (right q (Contains-here q names))
    ∙ ap (λ l. sets_named F q ++ l) (names_map F ns number names (λ p c. right p (Contains-there p q names c)))

pub flat : {A B C : Type 0} (g : B → List C) (f : A → B) (xs : List A) → flat_map (λ x. g (f x)) xs ≡ flat_map g (map f xs)
flat g f [] = refl
flat g f (x ∷ xs) = ap (λ r. g (f x) ++ r) (flat g f xs)

pub spreads_map : (F : Facts) (all ms : List SetNode) (number : List ℕ → Option ℕ) (xs : List FlatSet) (ns : List SetNode) (s : ℕ) → AreSetsDrawn ms xs ns
    → ((n : SetNode) → Contains ns n → AreRight F all number (names_spread n))
    → map (set_at all) (get_or (map (spreads_of number) xs) s []) ≡ flat_map (sets_named F) (names_spread (set_at ns s))
spreads_map F all ms number [] [] s d right = refl
spreads_map F all ms number [] (n ∷ ns) s d right = absurd d
spreads_map F all ms number (x ∷ xs) [] s d right = absurd d
spreads_map F all ms number (x ∷ xs) (n ∷ ns) zero d right =
    ap (map (set_at all)) (flat (λ q. list_of (number q)) (λ b. b.now) x.names.items ∙ ap (flat_map (λ q. list_of (number q))) d.0.names)
    ∙ names_map F all number (names_spread n) (right n (Contains-here n ns))
spreads_map F all ms number (x ∷ xs) (n ∷ ns) (suc s) d right = spreads_map F all ms number xs ns s d.1 (λ m c. right m (Contains-there m n ns c))

-- ---- the set below a field

pub below_at : (ns : List SetNode) (o : Option ℕ) (b : Option SetNode) → option_map (slice_get ns) o ≡ option_map Some b → b ≡ option_map (set_at ns) o
below_at ns None None e = refl
below_at ns None (Some s) e = absurd (let h : None ≡ Some (Some s) = e in cc)
below_at ns (Some i) None e = absurd (let h : Some (slice_get ns i) ≡ None = e in cc)
below_at ns (Some i) (Some s) e = ap Some (sym (get_or_from_slice_get ns i s empty_set (some_same (slice_get ns i) (Some s) e)))

pub below_inside : (ns : List SetNode) (i : ℕ) (b : Option SetNode) → Some (slice_get ns i) ≡ option_map Some b → i < length ns
below_inside ns i None e = absurd (let h : Some (slice_get ns i) ≡ None = e in cc)
below_inside ns i (Some s) e = slice_get_within ns i s (some_same (slice_get ns i) (Some s) e)
