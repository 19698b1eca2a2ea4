-- What a record of own reads tells.
use Rattle.std.proofs.Common.{◌≡◌, ◌⊎◌, inl, inr, ℕ, List, [], ◌∷◌, ◌++◌, ap, sym, subst, ◌∙◌, refl, Contains, map}
use Rattle.std.proofs.lemmas.List.Elements.{Contains-append_left, Contains-append_right, Contains-append_cases, Contains-push, Contains-push_cases}
use Rattle.gql_ast.specs.declared.definition.Definition.{Definition}
use Rattle.gql_ast.specs.declared.definition.Tree.{Tree}
use Rattle.gql_facts.specs.declared.fact.Fact.{Fact}
use Rattle.gql_facts.specs.declared.fact.Fact.TheVariants as fact
use Rattle.gql_facts.specs.declared.fact.FragmentFact.{FragmentFact}
use Rattle.gql_facts.specs.declared.key.Key.{Key}
use Rattle.gql_facts.specs.declared.key.Key.TheVariants as key
use Rattle.gql_facts.specs.ListMembers.{Contains-nil, Contains-here, Contains-there, Contains-cases, Contains-map, Contains-flat_map, Contains-flat_map_from}
use Rattle.gql_facts.specs.Members.{Lists}
use Rattle.gql_facts.specs.OwnReads.{tree_reads}
use Rattle.gql_facts.specs.Reads.{Reaches, type_reads, types_in}
use Rattle.gql_facts.specs.Walks.{member_in}
use Rattle.gql_facts.specs.Worlds.{Answers, Facts, IsWorld}
use Rattle.gql_facts.proofs.Walked.{reached}
use Rattle.gql_reads.specs.Closings.{AreAnswers, AreRight, observation_of}
use Rattle.gql_reads.specs.Leading.{LeadsTo, by_input, by_name, names_in}
use Rattle.gql_reads.specs.Observations.{Hold, about, about_all, keys_of, observed, observed_in}
use Rattle.gql_reads.specs.Own.{AgreeOwn, Own, by_node, by_type, tree_of}
use Rattle.gql_reads.specs.Reaching.{IsNamed}
use Rattle.gql_reads.specs.Readings.{name_of}
use Rattle.gql_reads.specs.Records.{IsCertified, IsRecord, IsTold}
use Rattle.gql_reads.specs.declared.observation.Answer.{Answer}
use Rattle.gql_reads.specs.declared.observation.Observation.{Observation}
use Rattle.gql_reads.specs.declared.observation.TypeAnswers.{TypeAnswers}
use Rattle.gql_reads.proofs.Members.{Contains-map_from}
use Rattle.gql_reads.proofs.Owning.{fragment_read, own_back, own_read, own_there}

-- ---- a record is right wherever it holds

module _ (F : Facts) (os : List Observation) (P : Key → Type 0) (was : Hold F os) (keys : Lists (keys_of os) P) where
  -- where the observations hold, the facts agree on these keys
  pub agrees : (v : Facts) → Hold v os → (k : Key) → P k → v k ≡ F k
  agrees v h k p =
      let m = Contains-map_from (λ (o : Observation). o.key) os k (keys.complete k p) in
      subst (λ j. v j ≡ F j) m.2 (h m.0 m.1 ∙ sym (was m.0 m.1))

pub certified : (F : Facts) (g : FragmentFact) (zs : List Answer) → IsRecord F (tree_of g) zs → IsCertified g zs
certified F g zs r = record {
  reads = λ v h.
      let agree : AgreeOwn F v (tree_of g) = agrees F (observed_in zs) (Own F (tree_of g)) r.hold r.keys v h in
      record {
        sound = λ k c. own_there F v (tree_of g) agree (r.keys.sound k c);
        complete = λ k o. r.keys.complete k (own_back F v (tree_of g) agree o);
      };
  led = r.led;
}

-- ---- the answers of a walk, with the types that they lead to

-- what was observed of a type are the answers to the keys about it
pub about_key : (t : TypeAnswers) (o : Observation) → Contains (about t) o → Contains (type_reads t.name) o.key
about_key t o c = Contains-map (λ (x : Observation). x.key) (about t) o c

pub key_about : (t : TypeAnswers) (k : Key) → Contains (type_reads t.name) k → (o : Observation) × Contains (about t) o × (o.key ≡ k)
key_about t k c = Contains-map_from (λ (x : Observation). x.key) (about t) k c

-- an observation of an answer among others
pub observed_key : (zs : List Answer) (a : Answer) (o : Observation) → Contains zs a → Contains (observed a) o → Contains (keys_of (observed_in zs)) o.key
observed_key zs a o c h = Contains-map (λ (x : Observation). x.key) (observed_in zs) o (Contains-flat_map observed zs a o c h)

pub answer_here : (a : Answer) → Contains (observed a) a.observation
answer_here a = Contains-here a.observation (about_all a.types)

pub type_there : (a : Answer) (t : TypeAnswers) (o : Observation) → Contains a.types t → Contains (about t) o → Contains (observed a) o
type_there a t o c h = Contains-there o a.observation (about_all a.types) (Contains-flat_map about a.types t o c h)

-- a key that was observed is that of an answer, or about a type that an answer leads to
pub key_cases : (zs : List Answer) (k : Key) → Contains (keys_of (observed_in zs)) k
    → ((a : Answer) × Contains zs a × (a.observation.key ≡ k)) ⊎ ((a : Answer) × (t : TypeAnswers) × Contains zs a × Contains a.types t × Contains (type_reads t.name) k)
key_cases zs k c =
    let m = Contains-map_from (λ (o : Observation). o.key) (observed_in zs) k c in
    let r = Contains-flat_map_from observed zs m.0 m.1 in
    elim (Contains-cases m.0 r.0.observation (about_all r.0.types) r.2) [
      | inl e ↦ inl (r.0, r.1, ap (λ (o : Observation). o.key) (sym e) ∙ m.2)
      | inr h ↦
          let q = Contains-flat_map_from about r.0.types m.0 h in
          inr (r.0, q.0, r.1, q.1, subst (Contains (type_reads q.0.name)) m.2 (about_key q.0 m.0 q.2))
    ]

-- only the answers about input objects name types
none_by_kind : (m n : List ℕ) (f : Fact) → Answers (key.KindOf m) f → Contains (types_in f) n → ⊥
none_by_kind m n fact.Absent a c = Contains-nil n c
none_by_kind m n (fact.Kind x) a c = Contains-nil n c
none_by_kind m n (fact.Field x) a c = absurd a
none_by_kind m n (fact.Possible x) a c = absurd a
none_by_kind m n (fact.Input x) a c = absurd a
none_by_kind m n (fact.Enum x) a c = absurd a
none_by_kind m n (fact.Directive x) a c = absurd a
none_by_kind m n (fact.Root x) a c = absurd a
none_by_kind m n (fact.Fragment x) a c = absurd a

none_by_possible : (m n : List ℕ) (f : Fact) → Answers (key.PossibleOf m) f → Contains (types_in f) n → ⊥
none_by_possible m n fact.Absent a c = Contains-nil n c
none_by_possible m n (fact.Kind x) a c = absurd a
none_by_possible m n (fact.Field x) a c = absurd a
none_by_possible m n (fact.Possible x) a c = Contains-nil n c
none_by_possible m n (fact.Input x) a c = absurd a
none_by_possible m n (fact.Enum x) a c = absurd a
none_by_possible m n (fact.Directive x) a c = absurd a
none_by_possible m n (fact.Root x) a c = absurd a
none_by_possible m n (fact.Fragment x) a c = absurd a

none_by_values : (m n : List ℕ) (f : Fact) → Answers (key.EnumOf m) f → Contains (types_in f) n → ⊥
none_by_values m n fact.Absent a c = Contains-nil n c
none_by_values m n (fact.Kind x) a c = absurd a
none_by_values m n (fact.Field x) a c = absurd a
none_by_values m n (fact.Possible x) a c = absurd a
none_by_values m n (fact.Input x) a c = absurd a
none_by_values m n (fact.Enum x) a c = Contains-nil n c
none_by_values m n (fact.Directive x) a c = absurd a
none_by_values m n (fact.Root x) a c = absurd a
none_by_values m n (fact.Fragment x) a c = absurd a

-- one of the keys about a type
input_read : (n : List ℕ) → Contains (type_reads n) (key.InputOf n)
input_read n = Contains-there (key.InputOf n) (key.KindOf n) (key.PossibleOf n ∷ key.InputOf n ∷ key.EnumOf n ∷ [])
    (Contains-there (key.InputOf n) (key.PossibleOf n) (key.InputOf n ∷ key.EnumOf n ∷ []) (Contains-here (key.InputOf n) (key.EnumOf n ∷ [])))

module _ (F : Facts) (names : List (List ℕ)) (world : IsWorld F names) where
  -- a type that an answer about a type names is one of an input field
  by_inputs : (m n : List ℕ) (k : Key) → Contains (type_reads m) k → Contains (types_in (F k)) n → Contains (types_in (F (key.InputOf m))) n
  by_inputs m n k c h = elim (Contains-cases k (key.KindOf m) (key.PossibleOf m ∷ key.InputOf m ∷ key.EnumOf m ∷ []) c) [
    | inl e ↦ absurd (none_by_kind m n (F (key.KindOf m)) (world.kinds (key.KindOf m)) (at_key k (key.KindOf m) e h))
    | inr r ↦ elim (Contains-cases k (key.PossibleOf m) (key.InputOf m ∷ key.EnumOf m ∷ []) r) [
      | inl e ↦ absurd (none_by_possible m n (F (key.PossibleOf m)) (world.kinds (key.PossibleOf m)) (at_key k (key.PossibleOf m) e h))
      | inr s ↦ elim (Contains-cases k (key.InputOf m) (key.EnumOf m ∷ []) s) [
        | inl e ↦ at_key k (key.InputOf m) e h
        | inr t ↦ elim (Contains-cases k (key.EnumOf m) [] t) [
          | inl e ↦ absurd (none_by_values m n (F (key.EnumOf m)) (world.kinds (key.EnumOf m)) (at_key k (key.EnumOf m) e h))
          | inr u ↦ absurd (Contains-nil k u)
        ]
      ]
    ]
  ] where
    at_key : (k j : Key) → k ≡ j → Contains (types_in (F k)) n → Contains (types_in (F j)) n
    at_key k j e h = subst (λ x. Contains (types_in (F x)) n) e h

  -- the keys about a type that an own read leads to are own reads
  led_own : (t : Tree) (j : Key) {n : List ℕ} → Own F t j → LeadsTo F (F j) n → (k : Key) → Contains (type_reads n) k → Own F t k
  led_own t j o (by_name {n} c) k h = by_type o c h
  led_own t j o (by_input {m} {n} q c) k h =
      by_type (led_own t j o q (key.InputOf m) (input_read m)) c h

  module _ (t : Tree) (es : List (Key × Fact)) (zs : List Answer) (right : AreRight F es)
      (keys : Lists (map (λ (e : Key × Fact). e.0) es) (Contains (tree_reads F t))) (are : AreAnswers F es zs) where
    answer_read : (a : Answer) → Contains zs a → Contains (tree_reads F t) a.observation.key
    answer_read a c =
        let m = Contains-map_from observation_of es a.observation
        (subst (λ l. Contains l a.observation) are.each (Contains-map (λ (x : Answer). x.observation) zs a c)) in
        keys.sound a.observation.key (subst (Contains (map (λ (e : Key × Fact). e.0) es)) (ap (λ (o : Observation). o.key) m.2) (Contains-map (λ (e : Key × Fact). e.0) es m.0 m.1))

    read_answer : (k : Key) → Contains (tree_reads F t) k → (a : Answer) × Contains zs a × (a.observation.key ≡ k)
    read_answer k c =
        let m = Contains-map_from (λ (e : Key × Fact). e.0) es k (keys.complete k c) in
        let r = Contains-map_from (λ (x : Answer). x.observation) zs (observation_of m.0)
        (subst (λ l. Contains l (observation_of m.0)) (sym are.each) (Contains-map observation_of es m.0 m.1)) in
        (r.0, r.1, ap (λ (o : Observation). o.key) r.2 ∙ m.2)

    types_held : (a : Answer) → Contains zs a → Hold F (about_all a.types)
    types_held a c o h = (are.right a c).hold o (Contains-there o a.observation (about_all a.types) h)

    answer_fact : (a : Answer) → Contains zs a → F a.observation.key ≡ a.observation.fact
    answer_fact a c = (are.right a c).hold a.observation (answer_here a)

    led_types : (a : Answer) → Contains zs a → Lists (names_in a.types) (LeadsTo F (F a.observation.key))
    led_types a c = subst (λ f. Lists (names_in a.types) (LeadsTo F f)) (sym (answer_fact a c)) ((are.right a c).led F (types_held a c))

    -- the keys about a type that an answer leads to were observed
    type_observed : (a : Answer) (n : List ℕ) (k : Key) → Contains zs a → LeadsTo F (F a.observation.key) n → Contains (type_reads n) k → Contains (keys_of (observed_in zs)) k
    type_observed a n k c q h =
        let m = Contains-map_from (λ (x : TypeAnswers). x.name) a.types n ((led_types a c).complete n q) in
        let o = key_about m.0 k (subst (λ x. Contains (type_reads x) k) (sym m.2) h) in
        subst (Contains (keys_of (observed_in zs))) o.2 (observed_key zs a o.0 c (type_there a m.0 o.0 m.1 o.1))

    own_observed : {k : Key} → Own F t k → Contains (keys_of (observed_in zs)) k
    own_observed (by_node {k} c) =
        let a = read_answer k c in
        subst (Contains (keys_of (observed_in zs))) a.2 (observed_key zs a.0 a.0.observation a.1 (answer_here a.0))
    own_observed (by_type {j} {k} {n} o c h) = elim (key_cases zs j (own_observed o)) [
      | inl a ↦ type_observed a.0 n k a.1 (by_name (subst (λ x. Contains (types_in (F x)) n) (sym a.2) c)) h
      | inr b ↦ type_observed b.0 n k b.2
          (by_input ((led_types b.0 b.2).sound b.1.name (Contains-map (λ (x : TypeAnswers). x.name) b.0.types b.1 b.3)) (by_inputs b.1.name n j b.4 c)) h
    ]

    observed_own : (k : Key) → Contains (keys_of (observed_in zs)) k → Own F t k
    observed_own k c = elim (key_cases zs k c) [
      | inl a ↦ by_node (subst (Contains (tree_reads F t)) a.2 (answer_read a.0 a.1))
      | inr b ↦ led_own t b.0.observation.key (by_node (answer_read b.0 b.2))
          ((led_types b.0 b.2).sound b.1.name (Contains-map (λ (x : TypeAnswers). x.name) b.0.types b.1 b.3)) k b.4
    ]

    pub recorded : IsRecord F t zs
    recorded = record {
      hold = λ o c. let m = Contains-flat_map_from observed zs o c in (are.right m.0 m.1).hold o m.2;
      keys = record { sound = observed_own; complete = λ k o. own_observed o };
      led = λ a c. (are.right a c).led;
    }

-- an observation of this key and this answer
pub observed_so : (o : Observation) (k : Key) (f : Fact) → o.key ≡ k → o.fact ≡ f → o ≡ record { key = k; fact = f }
observed_so o k f e h = rw (sym e, sym h) refl

-- ---- fragments among the answers

member_is : (f : Fact) (g : FragmentFact) → Contains (member_in f) g → f ≡ fact.Fragment g
member_is (fact.Fragment f) g h = elim (Contains-cases g f [] h) [ inl e ↦ ap fact.Fragment (sym e) | inr t ↦ absurd (Contains-nil g t) ]
member_is fact.Absent g h = absurd (Contains-nil g h)
member_is (fact.Kind x) g h = absurd (Contains-nil g h)
member_is (fact.Field x) g h = absurd (Contains-nil g h)
member_is (fact.Possible x) g h = absurd (Contains-nil g h)
member_is (fact.Input x) g h = absurd (Contains-nil g h)
member_is (fact.Enum x) g h = absurd (Contains-nil g h)
member_is (fact.Directive x) g h = absurd (Contains-nil g h)
member_is (fact.Root x) g h = absurd (Contains-nil g h)

-- one answer more
pub told_more : (gs more : List FragmentFact) (zs new : List Answer) (a : Answer) → more ≡ gs ++ member_in a.observation.fact → new ≡ zs ++ a ∷ [] → Lists gs (IsTold zs) → Lists more (IsTold new)
told_more gs more zs new a e f l = rw (e, f) (record {
  sound = λ g c. elim (Contains-append_cases gs (member_in a.observation.fact) g c) [
    | inl h ↦ let t = l.sound g h in (t.0, Contains-append_left zs (a ∷ []) t.0 t.1, t.2)
    | inr b ↦ (a, Contains-push zs a, member_is a.observation.fact g b)
  ];
  complete = λ g t. elim (Contains-push_cases zs a t.0 t.1) [
    | inl h ↦ Contains-append_left gs (member_in a.observation.fact) g (l.complete g (t.0, h, t.2))
    | inr s ↦ Contains-append_right gs (member_in a.observation.fact) g (subst (λ x. Contains (member_in x) g) (sym (ap (λ (x : Answer). x.observation.fact) s ∙ t.2)) (Contains-here g []))
  ];
})

pub told_none : (gs : List FragmentFact) (zs : List Answer) → gs ≡ [] → zs ≡ [] → Lists gs (IsTold zs)
told_none gs zs e f = rw (e, f) (record { sound = λ g c. absurd (Contains-nil g c); complete = λ g t. absurd (Contains-nil t.0 t.1) })

-- what is told was observed
pub told_observed : (zs : List Answer) (g : FragmentFact) → (t : IsTold zs g) → Contains (observed_in zs) t.0.observation
told_observed zs g t = Contains-flat_map observed zs t.0 t.0.observation t.1 (answer_here t.0)

module _ (F : Facts) (names : List (List ℕ)) (world : IsWorld F names) where
  -- only the keys of fragments are answered by fragments
  whose : (k : Key) (f : FragmentFact) → Answers k (fact.Fragment f) → (n : List ℕ) × (k ≡ key.FragmentOf n)
  whose (key.FragmentOf n) f a = (n, refl)
  whose (key.KindOf t) f a = absurd a
  whose (key.FieldOf t n) f a = absurd a
  whose (key.PossibleOf t) f a = absurd a
  whose (key.InputOf t) f a = absurd a
  whose (key.EnumOf t) f a = absurd a
  whose (key.DirectiveOf n) f a = absurd a
  whose (key.RootOf k) f a = absurd a

  -- such a key has the name of the fragment
  pub key_is : (k : Key) (g : FragmentFact) → F k ≡ fact.Fragment g → k ≡ key.FragmentOf (name_of g)
  key_is k g e =
      let n = whose k g (subst (Answers k) e (world.kinds k)) in
      n.1 ∙ ap (λ m. key.FragmentOf m) (sym (world.named n.0 g (ap F (sym n.1) ∙ e)))

  pub told_key : (zs : List Answer) (g : FragmentFact) → Hold F (observed_in zs) → (t : IsTold zs g) → t.0.observation.key ≡ key.FragmentOf (name_of g)
  told_key zs g hold t = key_is t.0.observation.key g (hold t.0.observation (told_observed zs g t) ∙ t.2)

  pub told_named : (zs : List Answer) (g : FragmentFact) → Hold F (observed_in zs) → IsTold zs g → IsNamed F g
  told_named zs g hold t = ap F (sym (told_key zs g hold t)) ∙ (hold t.0.observation (told_observed zs g t) ∙ t.2)

  -- what is told is reached
  module _ (d : Definition) where
    pub own_reached : (zs : List Answer) (g : FragmentFact) → IsRecord F d.tree zs → IsTold zs g → Reaches F d g
    own_reached zs g r t = reached F names world d t.0.observation.key g
        (own_read F d (r.keys.sound t.0.observation.key (observed_key zs t.0 t.0.observation t.1 (answer_here t.0)))) (r.hold t.0.observation (told_observed zs g t) ∙ t.2)

    pub part_reached : (zs : List Answer) (f g : FragmentFact) → Reaches F d f → IsRecord F (tree_of f) zs → IsTold zs g → Reaches F d g
    part_reached zs f g reach r t = reached F names world d t.0.observation.key g
        (fragment_read F d reach (r.keys.sound t.0.observation.key (observed_key zs t.0 t.0.observation t.1 (answer_here t.0)))) (r.hold t.0.observation (told_observed zs g t) ∙ t.2)

-- a key about a type is not that of a fragment
not_fragment : (m n : List ℕ) → Contains (type_reads m) (key.FragmentOf n) → ⊥
not_fragment m n c = elim (Contains-cases (key.FragmentOf n) (key.KindOf m) (key.PossibleOf m ∷ key.InputOf m ∷ key.EnumOf m ∷ []) c) [
  | inl e ↦ cc e
  | inr r ↦ elim (Contains-cases (key.FragmentOf n) (key.PossibleOf m) (key.InputOf m ∷ key.EnumOf m ∷ []) r) [
    | inl e ↦ cc e
    | inr s ↦ elim (Contains-cases (key.FragmentOf n) (key.InputOf m) (key.EnumOf m ∷ []) s) [
      | inl e ↦ cc e
      | inr t ↦ elim (Contains-cases (key.FragmentOf n) (key.EnumOf m) [] t) [ inl e ↦ cc e | inr u ↦ absurd (Contains-nil (key.FragmentOf n) u) ]
    ]
  ]
]

-- what a node spreads is told
pub node_told : (F : Facts) (t : Tree) (zs : List Answer) (n : List ℕ) (g : FragmentFact) → IsRecord F t zs → Contains (tree_reads F t) (key.FragmentOf n)
    → F (key.FragmentOf n) ≡ fact.Fragment g → IsTold zs g
node_told F t zs n g r c e = elim (key_cases zs (key.FragmentOf n) (r.keys.complete (key.FragmentOf n) (by_node c))) [
  | inl a ↦ (a.0, a.1, sym (r.hold a.0.observation (Contains-flat_map observed zs a.0 a.0.observation a.1 (answer_here a.0))) ∙ ap F a.2 ∙ e)
  | inr b ↦ absurd (not_fragment b.1.name n b.4)
]

pub same_certified : (f g : FragmentFact) (zs bs : List Answer) → g ≡ f → bs ≡ zs → IsCertified f zs → IsCertified g bs
same_certified f g zs bs e p c = rw (e, p) c
