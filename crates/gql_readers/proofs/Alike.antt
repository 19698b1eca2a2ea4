-- Two answers to one key that hold in the same facts are one, up to the order of the types.
use Rattle.std.proofs.Common.{◌≡◌, inl, inr, ℕ, List, ap, sym, subst, ◌∙◌, Contains}
use Rattle.gql_facts.specs.declared.fact.Fact.{Fact}
use Rattle.gql_facts.specs.declared.key.Key.{Key}
use Rattle.gql_facts.specs.declared.key.Key.TheVariants as key
use Rattle.gql_facts.specs.ListMembers.{Contains-there, Contains-cases, Contains-map, Contains-flat_map, Contains-flat_map_from}
use Rattle.gql_facts.specs.Worlds.{Facts}
use Rattle.gql_reads.specs.Leading.{IsLed, LeadsTo, names_in}
use Rattle.gql_reads.specs.Observations.{Hold, about, about_all, observed, observed_in}
use Rattle.gql_reads.specs.declared.observation.Answer.{Answer}
use Rattle.gql_reads.specs.declared.observation.Observation.{Observation}
use Rattle.gql_reads.specs.declared.observation.TypeAnswers.{TypeAnswers}
use Rattle.gql_reads.proofs.Led.{input_about, kind_about, possible_about, values_about}
use Rattle.gql_reads.proofs.Members.{Contains-map_from}
use Rattle.gql_reads.proofs.Recorded.{answer_here}
use Rattle.gql_readers.specs.Indexes.{AreAlike}

-- one of these answers holds
pub answer_held : (F : Facts) (xs : List Answer) (a : Answer) → Hold F (observed_in xs) → Contains xs a → Hold F (observed a)
answer_held F xs a hold c o h = hold o (Contains-flat_map observed xs a o c h)

abbrev observation_of : Key → Fact → Observation
observation_of k f = record { key = k; fact = f }

abbrev type_of : List ℕ → Fact → Fact → Fact → Fact → TypeAnswers
type_of n kind possible input values = record { name = n; kind = kind; possible = possible; input = input; values = values }

module _ (F : Facts) (xs ys : List TypeAnswers) (left : Hold F (about_all xs)) (right : Hold F (about_all ys)) where
  held : (zs : List TypeAnswers) → Hold F (about_all zs) → (t : TypeAnswers) → Contains zs t → Hold F (about t)
  held zs hold t c o h = hold o (Contains-flat_map about zs t o c h)

  -- two types of one name
  same_type : (t u : TypeAnswers) → Contains xs t → Contains ys u → t.name ≡ u.name → t ≡ u
  same_type t u c d e =
      let l = held xs left t c in
      let r = held ys right u d in
      let kind : t.kind ≡ u.kind = sym (l _ (kind_about t)) ∙ ap (λ n. F (key.KindOf n)) e ∙ r _ (kind_about u) in
      let possible : t.possible ≡ u.possible = sym (l _ (possible_about t)) ∙ ap (λ n. F (key.PossibleOf n)) e ∙ r _ (possible_about u) in
      let input : t.input ≡ u.input = sym (l _ (input_about t)) ∙ ap (λ n. F (key.InputOf n)) e ∙ r _ (input_about u) in
      let values : t.values ≡ u.values = sym (l _ (values_about t)) ∙ ap (λ n. F (key.EnumOf n)) e ∙ r _ (values_about u) in
      ap (λ n. type_of n t.kind t.possible t.input t.values) e
      ∙ ap (λ f. type_of u.name f t.possible t.input t.values) kind
      ∙ ap (λ f. type_of u.name u.kind f t.input t.values) possible
      ∙ ap (λ f. type_of u.name u.kind u.possible f t.values) input
      ∙ ap (λ f. type_of u.name u.kind u.possible u.input f) values

  -- a type of the first list, whose name the second has, is in the second
  type_there : (t : TypeAnswers) → Contains xs t → Contains (names_in ys) t.name → Contains ys t
  type_there t c n =
      let m = Contains-map_from (λ (u : TypeAnswers). u.name) ys t.name n in
      subst (Contains ys) (sym (same_type t m.0 c m.1 (sym m.2))) m.1

pub alike : (F : Facts) (a b : Answer) → a.observation.key ≡ b.observation.key → Hold F (observed a) → Hold F (observed b) → IsLed a → IsLed b → AreAlike a b
alike F a b key left right led_a led_b =
    let fact : a.observation.fact ≡ b.observation.fact = sym (left a.observation (answer_here a)) ∙ ap F key ∙ right b.observation (answer_here b) in
    let types_a : Hold F (about_all a.types) = λ o c. left o (Contains-there o a.observation (about_all a.types) c) in
    let types_b : Hold F (about_all b.types) = λ o c. right o (Contains-there o b.observation (about_all b.types) c) in
    let l = led_a F types_a in
    let r = led_b F types_b in
    record {
      key = key;
      fact = fact;
      there = λ t c. type_there F a.types b.types types_a types_b t c
          (r.complete t.name (subst (λ f. LeadsTo F f t.name) fact (l.sound t.name (Contains-map (λ (u : TypeAnswers). u.name) a.types t c))));
      back = λ t c. type_there F b.types a.types types_b types_a t c
          (l.complete t.name (subst (λ f. LeadsTo F f t.name) (sym fact) (r.sound t.name (Contains-map (λ (u : TypeAnswers). u.name) b.types t c))));
    }

-- what one of two such answers observed, the other did
pub alike_there : (a b : Answer) → AreAlike a b → (o : Observation) → Contains (observed a) o → Contains (observed b) o
alike_there a b same o c = elim (Contains-cases o a.observation (about_all a.types) c) [
  | inl e ↦ subst (Contains (observed b)) (sym (e ∙ one_observation a.observation b.observation same.key same.fact)) (answer_here b)
  | inr t ↦
      let m = Contains-flat_map_from about a.types o t in
      Contains-there o b.observation (about_all b.types) (Contains-flat_map about b.types m.0 o (same.there m.0 m.1) m.2)
] where
  one_observation : (x y : Observation) → x.key ≡ y.key → x.fact ≡ y.fact → x ≡ y
  one_observation x y k f = ap (λ (j : Key). observation_of j x.fact) k ∙ ap (λ (g : Fact). observation_of y.key g) f

pub alike_back : (a b : Answer) → AreAlike a b → AreAlike b a
alike_back a b same = record { key = sym same.key; fact = sym same.fact; there = same.back; back = same.there }

-- an answer like one that has exactly the types that it leads to has them, too
pub alike_led : (a b : Answer) → AreAlike a b → IsLed b → IsLed a
alike_led a b same led F hold =
    let name = λ (u : TypeAnswers). u.name in
    let types_b : Hold F (about_all b.types) = λ o c.
    let m = Contains-flat_map_from about b.types o c in
    hold o (Contains-flat_map about a.types m.0 o (same.back m.0 m.1) m.2) in
    let l = led F types_b in
    record {
      sound = λ n c.
          let m = Contains-map_from name a.types n c in
          subst (λ f. LeadsTo F f n) (sym same.fact) (l.sound n (subst (Contains (names_in b.types)) m.2 (Contains-map name b.types m.0 (same.there m.0 m.1))));
      complete = λ n h.
          let m = Contains-map_from name b.types n (l.complete n (subst (λ f. LeadsTo F f n) same.fact h)) in
          subst (Contains (names_in a.types)) m.2 (Contains-map name a.types m.0 (same.back m.0 m.1));
    }
