-- Selection sets by numbers: what is drawn stays drawn as sets are added.
use Rattle.std.specs.Prelude.{◌≡◌, ◌+◌, ◌<◌, ℕ, suc, List, [], ◌∷◌, ◌++◌, map, flat_map, length, take, Bool, true, refl, Option, Some, None, option_map}
use Rattle.std.specs.List.{slice_get}
use Rattle.std.proofs.Common.{ap, sym, ◌∙◌, subst, get_or, arith, Bor}
use Rattle.std.proofs.lemmas.List.{take_more, length-append, get_or_append_left, get_or-append-add}
use Rattle.std.proofs.lemmas.Option.{slice_get_within, get_or_from_slice_get, slice_get-get_or}
use Rattle.gql_ast.specs.declared.executable.Selection.{Selection}
use Rattle.gql_facts.specs.Nodes.{has_any}
use Rattle.gql_facts.specs.Worlds.{Facts}
use Rattle.gql_merge.proofs.Appending.{append_assoc, append_end, two}
use Rattle.gql_merge.specs.FieldNodes.{FieldInfo, FieldNode, SetNode, direct, fields_listed}
use Rattle.gql_merge.specs.FieldSets.{Part, field_if, joined, list_of, part_in, part_of_field, part_of_spread, part_within, set_if, set_of}
use Rattle.gql_merge.specs.Flat.{AddsBelow, AddsSet, AreDrawn, AreSetsDrawn, Draws, Grows, IsDrawn, IsSetDrawn, flat_if}
use Rattle.gql_merge.specs.Known.{info_in}
use Rattle.gql_merge.specs.MergedNodes.{sets_of}
use Rattle.gql_merge.specs.declared.flat.FlatField.{FlatField}
use Rattle.gql_merge.specs.declared.flat.FlatSet.{FlatSet}
use Rattle.gql_merge.specs.declared.known.KnownField.{KnownField}

-- ---- numbers stay

pub get_more : (ns ms : List SetNode) (i : ℕ) (s : SetNode) → slice_get ns i ≡ Some s → slice_get (ns ++ ms) i ≡ Some s
get_more ns ms i s e =
    let within : i < length ns = slice_get_within ns i s e in
    let wider : i < length (ns ++ ms) = rw (length-append ns ms) (omega (arith, within)) in
    slice_get-get_or (ns ++ ms) i s wider
    ∙ ap Some (get_or_append_left ns ms s i within ∙ get_or_from_slice_get ns i s s e)

some_same : {A : Type 0} (x y : A) → Some x ≡ Some y → x ≡ y
some_same x y e = cc e

below_more : (ns ms : List SetNode) (o : Option ℕ) (b : Option SetNode) → option_map (slice_get ns) o ≡ option_map Some b
    → option_map (slice_get (ns ++ ms)) o ≡ option_map Some b
below_more ns ms None b e = e
below_more ns ms (Some i) None e = absurd (let h : Some (slice_get ns i) ≡ None = e in cc)
below_more ns ms (Some i) (Some s) e = ap Some (get_more ns ms i s (some_same (slice_get ns i) (Some s) e))

is_more : (ns ms : List SetNode) (x : FlatField) (f : FieldNode) → IsDrawn ns x f → IsDrawn (ns ++ ms) x f
is_more ns ms x f d = record { its = d.its; below = below_more ns ms x.below f.below d.below }

pub drawn_more : (ns ms : List SetNode) (xs : List FlatField) (fs : List FieldNode) → AreDrawn ns xs fs → AreDrawn (ns ++ ms) xs fs
drawn_more ns ms [] [] d = tt
drawn_more ns ms [] (f ∷ fs) d = absurd d
drawn_more ns ms (x ∷ xs) [] d = absurd d
drawn_more ns ms (x ∷ xs) (f ∷ fs) d = (is_more ns ms x f d.0, drawn_more ns ms xs fs d.1)

set_more : (ns ms : List SetNode) (x : FlatSet) (s : SetNode) → IsSetDrawn ns x s → IsSetDrawn (ns ++ ms) x s
set_more ns ms x s d = record { fields = drawn_more ns ms x.fields.items (direct s) d.fields; names = d.names }

sets_more : (ns ms : List SetNode) (xs : List FlatSet) (ss : List SetNode) → AreSetsDrawn ns xs ss → AreSetsDrawn (ns ++ ms) xs ss
sets_more ns ms [] [] d = tt
sets_more ns ms [] (s ∷ ss) d = absurd d
sets_more ns ms (x ∷ xs) [] d = absurd d
sets_more ns ms (x ∷ xs) (s ∷ ss) d = (set_more ns ms x s d.0, sets_more ns ms xs ss d.1)

-- ---- one more

drawn_end : (ns : List SetNode) (xs : List FlatField) (fs : List FieldNode) (x : FlatField) (f : FieldNode)
    → AreDrawn ns xs fs → IsDrawn ns x f → AreDrawn ns (xs ++ x ∷ []) (fs ++ f ∷ [])
drawn_end ns [] [] x f d i = (i, tt)
drawn_end ns [] (g ∷ fs) x f d i = absurd d
drawn_end ns (y ∷ xs) [] x f d i = absurd d
drawn_end ns (y ∷ xs) (g ∷ fs) x f d i = (d.0, drawn_end ns xs fs x f d.1 i)

sets_end : (ns : List SetNode) (xs : List FlatSet) (ss : List SetNode) (x : FlatSet) (s : SetNode)
    → AreSetsDrawn ns xs ss → IsSetDrawn ns x s → AreSetsDrawn ns (xs ++ x ∷ []) (ss ++ s ∷ [])
sets_end ns [] [] x s d i = (i, tt)
sets_end ns [] (t ∷ ss) x s d i = absurd d
sets_end ns (y ∷ xs) [] x s d i = absurd d
sets_end ns (y ∷ xs) (t ∷ ss) x s d i = (d.0, sets_end ns xs ss x s d.1 i)

pub same_length : (ns : List SetNode) (xs : List FlatSet) (ss : List SetNode) → AreSetsDrawn ns xs ss → length xs ≡ length ss
same_length ns [] [] d = refl
same_length ns [] (s ∷ ss) d = absurd d
same_length ns (x ∷ xs) [] d = absurd d
same_length ns (x ∷ xs) (s ∷ ss) d = ap suc (same_length ns xs ss d.1)

-- a set more, after those within it
pub set_added : (p : Part) (sets within after : List FlatSet) (own done : FlatSet) (number : ℕ)
    → own.fields.items ≡ [] → map (λ n. n.now) own.names.items ≡ []
    → Grows p sets own within done → number ≡ length within → after ≡ within ++ done ∷ []
    → AddsSet p sets after number
set_added p sets within after own done number no_fields no_names grows is pushed before drawn =
    let r = grows.drawn before [] drawn (subst (λ l. AreDrawn before l []) (sym no_fields) tt) in
    let ns = before ++ p.sets in
    let all = ns ++ set_of p ∷ [] in
    let own : IsSetDrawn ns done (set_of p) = record {
      fields = subst (AreDrawn ns done.fields.items) (sym (fields_listed p.fields)) r.1;
      names = grows.names ∙ ap (λ l. l ++ p.names) no_names;
    } in
    let d : Draws (within ++ done ∷ []) all = sets_end all within ns done (set_of p) (sets_more ns (set_of p ∷ []) within ns r.0) (set_more ns (set_of p ∷ []) done (set_of p) own) in
    let there : all ≡ before ++ sets_of p = append_assoc before p.sets (set_of p ∷ []) in
    let at : number ≡ length ns + 0 = is ∙ same_length ns within ns r.0 ∙ omega arith in
    let inside : number < length all = rw (length-append ns (set_of p ∷ [])) (omega (arith, at)) in (
      subst (λ l. Draws l (before ++ sets_of p)) (sym pushed) (subst (Draws (within ++ done ∷ [])) there d),
      subst (λ l. slice_get l number ≡ Some (set_of p)) there
          (slice_get-get_or all number (set_of p) inside ∙ ap Some (ap (λ i. get_or all i (set_of p)) at ∙ get_or-append-add ns (set_of p ∷ []) 0 (set_of p))),
    )

-- ---- what a field selects

pub below_none : (facts : Facts) (file : List ℕ) (parent : Option (List ℕ)) (set : List Selection) (sets : List FlatSet)
    → set ≡ [] → AddsBelow (has_any set) (part_within facts file parent set) sets sets None
below_none facts file parent set sets empty before drawn =
    rw empty (subst (Draws sets) (sym (append_end before)) drawn, refl)

pub below_some : (selects : Bool) (p : Part) (sets after : List FlatSet) (number : ℕ)
    → selects ≡ true → AddsSet p sets after number → AddsBelow selects p sets after (Some number)
below_some selects p sets after number is added before drawn =
    let r = added before drawn in
    rw is (r.0, ap Some r.1)

-- ---- parts

abbrev pub both : Part → Part → Part
both p q = record { fields = p.fields ++ q.fields; names = p.names ++ q.names; sets = p.sets ++ q.sets }

pub grows_none : (sets : List FlatSet) (own : FlatSet) → Grows (joined []) sets own sets own
grows_none sets own = record {
  names = sym (append_end (map (λ n. n.now) own.names.items));
  drawn = λ before fields d a. (
    subst (Draws sets) (sym (append_end before)) d,
    subst (λ l. AreDrawn l own.fields.items (fields ++ [])) (sym (append_end before)) (subst (AreDrawn before own.fields.items) (sym (append_end fields)) a),
  );
}

pub grows_then : (p q : Part) (s0 s1 s2 : List FlatSet) (o0 o1 o2 : FlatSet) → Grows p s0 o0 s1 o1 → Grows q s1 o1 s2 o2 → Grows (both p q) s0 o0 s2 o2
grows_then p q s0 s1 s2 o0 o1 o2 first second = record {
  names = two (map (λ n. n.now) o0.names.items) _ _ p.names q.names first.names second.names;
  drawn = λ before fields d a.
      let r = first.drawn before fields d a in
      let t = second.drawn (before ++ p.sets) (fields ++ p.fields) r.0 r.1 in (
        subst (Draws s2) (append_assoc before p.sets q.sets) t.0,
        subst (λ l. AreDrawn l o2.fields.items (fields ++ (p.fields ++ q.fields))) (append_assoc before p.sets q.sets)
            (subst (AreDrawn ((before ++ p.sets) ++ q.sets) o2.fields.items) (append_assoc fields p.fields q.fields) t.1),
      );
}

pub flat_end : {A B : Type 0} (f : A → List B) (xs : List A) (x : A) → flat_map f (xs ++ x ∷ []) ≡ flat_map f xs ++ f x
flat_end f [] x = append_end (f x)
flat_end f (y ∷ xs) x = ap (λ l. f y ++ l) (flat_end f xs x) ∙ sym (append_assoc (f y) (flat_map f xs) (f x))

pub map_end : {A B : Type 0} (f : A → B) (xs : List A) (x : A) → map f (xs ++ x ∷ []) ≡ map f xs ++ f x ∷ []
map_end f [] x = refl
map_end f (y ∷ xs) x = ap (λ l. f y ∷ l) (map_end f xs x)

abbrev part : List FieldNode → List (List ℕ) → List SetNode → Part
part a b c = record { fields = a; names = b; sets = c }

joined_end : (ps : List Part) (p : Part) → joined (ps ++ p ∷ []) ≡ both (joined ps) p
joined_end ps p =
    ap (λ a. part a (flat_map (λ (q : Part). q.names) (ps ++ p ∷ [])) (flat_map (λ (q : Part). q.sets) (ps ++ p ∷ []))) (flat_end (λ (q : Part). q.fields) ps p)
    ∙ ap (λ b. part ((joined ps).fields ++ p.fields) b (flat_map (λ (q : Part). q.sets) (ps ++ p ∷ []))) (flat_end (λ (q : Part). q.names) ps p)
    ∙ ap (λ c. part ((joined ps).fields ++ p.fields) ((joined ps).names ++ p.names) c) (flat_end (λ (q : Part). q.sets) ps p)

-- one selection more
pub grows_more : (F F1 : Facts) (file : List ℕ) (parent : Option (List ℕ)) (xs : List Selection) (i : ℕ) (x : Selection)
    (s0 s1 s2 : List FlatSet) (o0 o1 o2 : FlatSet) → i < length xs → get_or xs i x ≡ x → F1 ≡ F
    → Grows (part_within F file parent (take i xs)) s0 o0 s1 o1
    → Grows (part_in F1 file x parent) s1 o1 s2 o2
    → Grows (part_within F file parent (take (i + 1) xs)) s0 o0 s2 o2
grows_more F F1 file parent xs i x s0 s1 s2 o0 o1 o2 within item same before step =
    let p = part_within F file parent (take i xs) in
    let q = part_in F file x parent in
    let step' : Grows q s1 o1 s2 o2 = subst (λ f. Grows (part_in f file x parent) s1 o1 s2 o2) same step in
    let is : part_within F file parent (take (i + 1) xs) ≡ both p q =
    ap (λ l. joined (map (λ y. part_in F file y parent) l)) (take_more xs i x within ∙ ap (λ y. take i xs ++ y ∷ []) item)
    ∙ ap joined (map_end (λ y. part_in F file y parent) (take i xs) x)
    ∙ joined_end (map (λ y. part_in F file y parent) (take i xs)) q in
    subst (λ r. Grows r s0 o0 s2 o2) (sym is) (grows_then p q s0 s1 s2 o0 o1 o2 before step')

-- a field
field_drawn : (ns : List SetNode) (xs : List FlatField) (fs : List FieldNode) (known : Option KnownField) (info : Option FieldInfo) (number : Option ℕ) (below : Option SetNode)
    → option_map info_in known ≡ info → option_map (slice_get ns) number ≡ option_map Some below → AreDrawn ns xs fs
    → AreDrawn ns (xs ++ flat_if known number) (fs ++ field_if info below)
field_drawn ns xs fs None None number below e b d =
    subst (λ l. AreDrawn ns l (fs ++ [])) (sym (append_end xs)) (subst (AreDrawn ns xs) (sym (append_end fs)) d)
field_drawn ns xs fs None (Some i) number below e b d = absurd (let h : None ≡ Some i = e in cc)
field_drawn ns xs fs (Some k) None number below e b d = absurd (let h : Some (info_in k) ≡ None = e in cc)
field_drawn ns xs fs (Some k) (Some i) number below e b d =
    drawn_end ns xs fs (record { known = k; below = number }) (record { its = i; below = below }) d
    (record { its = some_same (info_in k) i e; below = b })

pub grows_field : (info : Option FieldInfo) (selects : Bool) (p : Part) (known : Option KnownField) (number : Option ℕ)
    (sets after : List FlatSet) (own done : FlatSet) → option_map info_in known ≡ info → AddsBelow selects p sets after number
    → done.names.items ≡ own.names.items → done.fields.items ≡ own.fields.items ++ flat_if known number
    → Grows (part_of_field info selects p) sets own after done
grows_field info selects p known number sets after own done is added same_names more = record {
  names = ap (map (λ n. n.now)) same_names ∙ sym (append_end (map (λ n. n.now) own.names.items));
  drawn = λ before fields d a.
      let r = added before d in
      let ns = before ++ (p.sets ++ list_of (set_if selects p)) in (
        r.0,
        subst (λ l. AreDrawn ns l (fields ++ field_if info (set_if selects p))) (sym more)
            (field_drawn ns own.fields.items fields known info number (set_if selects p) is r.1 (drawn_more before (p.sets ++ list_of (set_if selects p)) own.fields.items fields a)),
      );
}

-- a spread
pub grows_spread : (name : List ℕ) (sets : List FlatSet) (own done : FlatSet)
    → (x : Bor (List ℕ)) → x.now ≡ name → done.fields.items ≡ own.fields.items → done.names.items ≡ own.names.items ++ x ∷ []
    → Grows (part_of_spread name) sets own sets done
grows_spread name sets own done x is same more = record {
  names = ap (map (λ n. n.now)) more ∙ map_end (λ n. n.now) own.names.items x ∙ ap (λ n. map (λ n. n.now) own.names.items ++ n ∷ []) is;
  drawn = λ before fields d a. (
    subst (Draws sets) (sym (append_end before)) d,
    subst (λ l. AreDrawn l done.fields.items (fields ++ [])) (sym (append_end before))
        (subst (AreDrawn before done.fields.items) (sym (append_end fields)) (subst (λ l. AreDrawn before l fields) (sym same) a)),
  );
}
