-- The types that an answer leads to: what a walk does, and that they depend on what was observed of
-- them alone.
use Rattle.std.proofs.Common.{◌≡◌, ◌⊎◌, inl, inr, ℕ, suc, ◌+◌, ◌-◌, ◌≤◌, ◌<◌, List, [], ◌∷◌, ◌++◌, Some, length, take, slice_get, flat_map, bytes_eq, ap, sym, subst, ◌∙◌, refl, arith, append-nil, append_assoc, Contains, if◌then◌else◌}
use Rattle.std.specs.List.{IsDistinct, list_any}
use Rattle.std.specs.Cmp.{decided}
use Rattle.std.proofs.lemmas.List.Elements.{Contains-append_left, Contains-append_right, Contains-push, Contains-push_cases}
use Rattle.std.proofs.lemmas.Map.Made.{length-le_from_is_member}
use Rattle.std.proofs.lemmas.Map.Views.{Contains-from_any, list_any-from_Contains}
use Rattle.std.proofs.lemmas.Slice.Eq.{bytes_eq-Decides}
use Rattle.indexmap.specs.IndexSet.{insert_key}
use Rattle.gql_facts.specs.declared.fact.Fact.{Fact}
use Rattle.gql_facts.specs.declared.key.Key.TheVariants as key
use Rattle.gql_facts.specs.ListMembers.{Contains-nil, Contains-here, Contains-there, Contains-cases, Contains-flat_map, Contains-flat_map_from, either}
use Rattle.gql_facts.specs.Members.{Lists}
use Rattle.gql_facts.specs.Reads.{types_in}
use Rattle.gql_facts.specs.Worlds.{Facts, IsWorld}
use Rattle.gql_reads.specs.Closings.{IsLeading, add_names}
use Rattle.gql_reads.specs.Leading.{IsLed, LeadsTo, by_input, by_name, names_in}
use Rattle.gql_reads.specs.Observations.{Hold, about, about_all}
use Rattle.gql_reads.specs.declared.observation.Answer.{Answer}
use Rattle.gql_reads.specs.declared.observation.Observation.{Observation}
use Rattle.gql_reads.specs.declared.observation.TypeAnswers.{TypeAnswers}
use Rattle.gql_reads.proofs.Members.{Contains-map_from}
use Rattle.gql_reads.proofs.Takes.{all_taken, at_there, inserted_cases, longer, take_next}

-- ---- names that are added

one_more : (ns : List (List ℕ)) (n : List ℕ) → (more : List (List ℕ)) × (insert_key bytes_eq ns n ≡ ns ++ more)
one_more ns n = elim (either (list_any (bytes_eq n) ns)) [
  | inl q ↦ ([], ap (λ b. if b then ns else ns ++ n ∷ []) q ∙ sym (append-nil ns))
  | inr q ↦ (n ∷ [], ap (λ b. if b then ns else ns ++ n ∷ []) q)
]

pub more_names : (ns ms : List (List ℕ)) → (more : List (List ℕ)) × (add_names ns ms ≡ ns ++ more)
more_names ns [] = ([], sym (append-nil ns))
more_names ns (m ∷ ms) =
    let a = one_more ns m in
    let b = more_names (insert_key bytes_eq ns m) ms in
    (a.0 ++ b.0, b.1 ∙ ap (λ l. l ++ b.0) a.1 ∙ append_assoc ns a.0 b.0)

inserted : (ns : List (List ℕ)) (n : List ℕ) → Contains (insert_key bytes_eq ns n) n
inserted ns n = elim (either (list_any (bytes_eq n) ns)) [
  | inl q ↦ subst (λ b. Contains (if b then ns else ns ++ n ∷ []) n) (sym q) (Contains-from_any (λ x y. (bytes_eq-Decides x y).0) n ns q)
  | inr q ↦ subst (λ b. Contains (if b then ns else ns ++ n ∷ []) n) (sym q) (Contains-push ns n)
]

pub names_old : (ns ms : List (List ℕ)) (n : List ℕ) → Contains ns n → Contains (add_names ns ms) n
names_old ns ms n c = let m = more_names ns ms in subst (λ l. Contains l n) (sym m.1) (Contains-append_left ns m.0 n c)

pub names_new : (ns ms : List (List ℕ)) (n : List ℕ) → Contains ms n → Contains (add_names ns ms) n
names_new ns [] n c = absurd (Contains-nil n c)
names_new ns (m ∷ ms) n c = elim (Contains-cases n m ms c) [
  | inl e ↦ names_old (insert_key bytes_eq ns m) ms n (subst (λ x. Contains (insert_key bytes_eq ns m) x) (sym e) (inserted ns m))
  | inr t ↦ names_new (insert_key bytes_eq ns m) ms n t
]

pub names_from : (ns ms : List (List ℕ)) (n : List ℕ) → Contains (add_names ns ms) n → Contains ns n ⊎ Contains ms n
names_from ns [] n c = inl c
names_from ns (m ∷ ms) n c = elim (names_from (insert_key bytes_eq ns m) ms n c) [
  | inl a ↦ elim (inserted_cases bytes_eq ns m n a) [ inl o ↦ inl o | inr e ↦ inr (subst (λ x. Contains (m ∷ ms) x) (sym e) (Contains-here m ms)) ]
  | inr t ↦ inr (Contains-there n m ms t)
]

pub names_push : (ns ms : List (List ℕ)) (m : List ℕ) → add_names ns (ms ++ m ∷ []) ≡ insert_key bytes_eq (add_names ns ms) m
names_push ns [] m = refl
names_push ns (x ∷ ms) m = names_push (insert_key bytes_eq ns x) ms m

-- ---- what was observed of a type

abbrev pub kind_of : TypeAnswers → Observation
kind_of t = record { key = key.KindOf t.name; fact = t.kind }

abbrev pub possible_of : TypeAnswers → Observation
possible_of t = record { key = key.PossibleOf t.name; fact = t.possible }

abbrev pub input_of : TypeAnswers → Observation
input_of t = record { key = key.InputOf t.name; fact = t.input }

abbrev pub values_of : TypeAnswers → Observation
values_of t = record { key = key.EnumOf t.name; fact = t.values }

pub kind_about : (t : TypeAnswers) → Contains (about t) (kind_of t)
kind_about t = Contains-here (kind_of t) (possible_of t ∷ input_of t ∷ values_of t ∷ [])

pub possible_about : (t : TypeAnswers) → Contains (about t) (possible_of t)
possible_about t = Contains-there (possible_of t) (kind_of t) (possible_of t ∷ input_of t ∷ values_of t ∷ []) (Contains-here (possible_of t) (input_of t ∷ values_of t ∷ []))

pub input_about : (t : TypeAnswers) → Contains (about t) (input_of t)
input_about t = Contains-there (input_of t) (kind_of t) (possible_of t ∷ input_of t ∷ values_of t ∷ [])
    (Contains-there (input_of t) (possible_of t) (input_of t ∷ values_of t ∷ []) (Contains-here (input_of t) (values_of t ∷ [])))

pub values_about : (t : TypeAnswers) → Contains (about t) (values_of t)
values_about t = Contains-there (values_of t) (kind_of t) (possible_of t ∷ input_of t ∷ values_of t ∷ [])
    (Contains-there (values_of t) (possible_of t) (input_of t ∷ values_of t ∷ []) (Contains-there (values_of t) (input_of t) (values_of t ∷ []) (Contains-here (values_of t) [])))

pub input_held : (F : Facts) (types : List TypeAnswers) → Hold F (about_all types) → (t : TypeAnswers) → Contains types t → F (key.InputOf t.name) ≡ t.input
input_held F types hold t c = hold (input_of t) (Contains-flat_map about types t (input_of t) c (input_about t))

-- ---- where the same was observed of the types, they are the same

module _ (F G : Facts) (f : Fact) (types : List TypeAnswers) (before : Hold F (about_all types)) (now : Hold G (about_all types)) (l : Lists (names_in types) (LeadsTo F f)) where
  same_input : (m : List ℕ) → Contains (names_in types) m → F (key.InputOf m) ≡ G (key.InputOf m)
  same_input m c =
      let r = Contains-map_from (λ (t : TypeAnswers). t.name) types m c in
      subst (λ n. F (key.InputOf n) ≡ G (key.InputOf n)) r.2 (input_held F types before r.0 r.1 ∙ sym (input_held G types now r.0 r.1))

  led_there : {n : List ℕ} → LeadsTo F f n → LeadsTo G f n
  led_there (by_name {n} c) = by_name c
  led_there (by_input {m} {n} q c) = by_input (led_there q) (subst (λ x. Contains (types_in x) n) (same_input m (l.complete m q)) c)

  led_back : {n : List ℕ} → LeadsTo G f n → LeadsTo F f n
  led_back (by_name {n} c) = by_name c
  led_back (by_input {m} {n} q c) = let b = led_back q in by_input b (subst (λ x. Contains (types_in x) n) (sym (same_input m (l.complete m b))) c)

pub led_everywhere : (F : Facts) (a : Answer) → Hold F (about_all a.types) → Lists (names_in a.types) (LeadsTo F a.observation.fact) → IsLed a
led_everywhere F a before l G now = record {
  sound = λ n c. led_there F G a.observation.fact a.types before now l (l.sound n c);
  complete = λ n q. l.complete n (led_back F G a.observation.fact a.types before now l q);
}

-- ---- the steps of a walk

module _ (F : Facts) (f : Fact) where
  pub leading_first : (old names : List (List ℕ)) (types : List TypeAnswers) → old ≡ [] → types ≡ [] → names ≡ add_names old (types_in f) → IsLeading F f 0 names types
  leading_first old names types none no_types is =
      let e : names ≡ add_names [] (types_in f) = is ∙ ap (λ l. add_names l (types_in f)) none in
      record {
        within = omega arith;
        named = ap names_in no_types;
        hold = λ o c. absurd (Contains-nil o (subst (λ ts. Contains (about_all ts) o) no_types c));
        led = λ n c. elim (names_from [] (types_in f) n (subst (λ l. Contains l n) e c)) [ inl a ↦ absurd (Contains-nil n a) | inr b ↦ by_name b ];
        start = λ n c. subst (λ l. Contains l n) (sym e) (names_new [] (types_in f) n c);
        followed = λ m n c l. absurd (Contains-nil m c);
      }

  names_append : (ts : List TypeAnswers) (t : TypeAnswers) → names_in (ts ++ t ∷ []) ≡ names_in ts ++ t.name ∷ []
  names_append [] t = refl
  names_append (x ∷ ts) t = ap (λ l. x.name ∷ l) (names_append ts t)

  -- one type more
  pub leading_more : (at : ℕ) (names new : List (List ℕ)) (types typed : List TypeAnswers) (n : List ℕ) (t : TypeAnswers) → IsLeading F f at names types → at < length names
      → slice_get names at ≡ Some n → new ≡ add_names names (types_in (F (key.InputOf n))) → typed ≡ types ++ t ∷ [] → t.name ≡ n → Hold F (about t) → IsLeading F f (at + 1) new typed
  leading_more at names new types typed n t w lt here is push name hold =
      let led = types_in (F (key.InputOf n)) in
      let more = more_names names led in
      let grown : new ≡ names ++ more.0 = is ∙ more.1 in
      let count : suc at ≡ at + 1 = omega arith in
      let firsts : take (at + 1) new ≡ take at names ++ n ∷ [] = ap (λ i. take i new) (sym count) ∙ ap (take (suc at)) grown ∙ take_next names more.0 at n here in
      let old : (x : List ℕ) → Contains names x → Contains new x = λ x c. subst (λ l. Contains l x) (sym is) (names_old names led x c) in
      record {
        within = longer names more.0 new at grown lt;
        named = ap names_in push ∙ names_append types t ∙ ap (λ l. l ++ t.name ∷ []) w.named ∙ ap (λ x. take at names ++ x ∷ []) name ∙ sym firsts;
        hold = λ o c.
            let r = Contains-flat_map_from about typed o c in
            elim (Contains-push_cases types t r.0 (subst (λ l. Contains l r.0) push r.1)) [
              | inl a ↦ w.hold o (Contains-flat_map about types r.0 o a r.2)
              | inr e ↦ hold o (subst (λ (x : TypeAnswers). Contains (about x) o) (sym e) r.2)
            ];
        led = λ x c. elim (names_from names led x (subst (λ l. Contains l x) is c)) [ inl a ↦ w.led x a | inr b ↦ by_input (w.led n (at_there names at n here)) b ];
        start = λ x c. old x (w.start x c);
        followed = λ m x c l. elim (Contains-push_cases (take at names) n m (subst (λ z. Contains z m) firsts c)) [
          | inl a ↦ old x (w.followed m x a l)
          | inr e ↦ subst (λ z. Contains z x) (sym is) (names_new names led x (subst (λ z. Contains (types_in (F (key.InputOf z))) x) (sym e) l))
        ];
      }

  pub leading_end : (at : ℕ) (names : List (List ℕ)) (types : List TypeAnswers) → IsLeading F f at names types → length names ≤ at → Lists (names_in types) (LeadsTo F f)
  leading_end at names types w end = record {
    sound = λ n c. w.led n (subst (λ l. Contains l n) all c);
    complete = λ n q. subst (λ l. Contains l n) (sym all) (met q);
  } where
    all : names_in types ≡ names
    all = w.named ∙ all_taken names at end

    met : {n : List ℕ} → LeadsTo F f n → Contains names n
    met (by_name {n} c) = w.start n c
    met (by_input {m} {n} q c) = w.followed m n (subst (λ l. Contains l m) (sym (all_taken names at end)) (met q)) c

  -- ---- a walk ends

  -- the types that an answer can lead to
  abbrev pub nameable : List (List ℕ) → List (List ℕ)
  nameable ws = types_in f ++ flat_map (λ n. types_in (F (key.InputOf n))) ws

  module _ (ws : List (List ℕ)) (world : IsWorld F ws) where
    led_nameable : {n : List ℕ} → LeadsTo F f n → Contains (nameable ws) n
    led_nameable (by_name {n} c) = Contains-append_left (types_in f) (flat_map (λ n. types_in (F (key.InputOf n))) ws) n c
    led_nameable (by_input {m} {n} q c) = Contains-append_right (types_in f) (flat_map (λ n. types_in (F (key.InputOf n))) ws) n
        (Contains-flat_map (λ n. types_in (F (key.InputOf n))) ws m n
        (world.inputs m (λ absent. Contains-nil n (subst (λ x. Contains (types_in x) n) absent c))) c)

    pub names_left : (at : ℕ) (names : List (List ℕ)) (types : List TypeAnswers) → IsLeading F f at names types → IsDistinct bytes_eq names → at < length names
        → length (nameable ws) - (at + 1) < length (nameable ws) - at
    names_left at names types w distinct lt =
        let b = length-le_from_is_member (decided bytes_eq bytes_eq-Decides) names (nameable ws) distinct
        (λ n c. list_any-from_Contains (decided bytes_eq bytes_eq-Decides) n (nameable ws) (led_nameable (w.led n (Contains-from_any (λ x y. (bytes_eq-Decides x y).0) n names c)))) in
        omega (arith, b, lt)
