-- Parts of fragments: of the table, added to it, and met one after another.
use Rattle.std.proofs.Common.{◌≡◌, ◌⊎◌, inl, inr, ℕ, ◌+◌, ◌<◌, List, [], ◌∷◌, ◌++◌, true, false, Some, None, Option, Bor, length, slice_get, take, get_or, map, bytes_eq, ap, sym, subst, ◌∙◌, refl, arith, append-nil, append_assoc, Contains, if◌then◌else◌}
use Rattle.std.specs.List.{list_any}
use Rattle.std.specs.Map.{lookup}
use Rattle.std.specs.Option.{option_copied}
use Rattle.std.proofs.lemmas.List.{take_more}
use Rattle.std.proofs.lemmas.List.Elements.{Contains-append_left, Contains-append_cases, Contains-push, Contains-push_cases}
use Rattle.std.proofs.lemmas.Map.Views.{Contains-from_any}
use Rattle.std.proofs.lemmas.Slice.Eq.{bytes_eq-Decides}
use Rattle.indexmap.specs.IndexSet.{insert_key}
use Rattle.gql_facts.specs.declared.fact.Fact.TheVariants as fact
use Rattle.gql_facts.specs.declared.fact.FragmentFact.{FragmentFact}
use Rattle.gql_facts.specs.declared.key.Key.{Key}
use Rattle.gql_facts.specs.declared.key.Key.TheVariants as key
use Rattle.gql_facts.specs.ListMembers.{Contains-nil, Contains-cases, Contains-map, either, some_same}
use Rattle.gql_facts.specs.Members.{Lists}
use Rattle.gql_facts.specs.Keys.{is_key, is_key_decides}
use Rattle.gql_facts.specs.Worlds.{Facts}
use Rattle.gql_reads.specs.Leading.{AreTypes}
use Rattle.gql_reads.specs.Own.{Own, tree_of}
use Rattle.gql_reads.specs.Observations.{Hold, keys_of, observed_in}
use Rattle.gql_reads.specs.Reaching.{AreMet, IsNamed, IsPartOf, Meets}
use Rattle.gql_reads.specs.Readings.{members_of, name_of}
use Rattle.gql_reads.specs.Records.{IsCertified, IsRecord, IsTold, Kept}
use Rattle.gql_reads.specs.Tables.{AllHold, Entries, Holds, IsAnswer, Keeps, answer_at, entry_at}
use Rattle.gql_reads.specs.declared.observation.Answer.{Answer}
use Rattle.gql_reads.specs.declared.observation.TypeAnswers.{TypeAnswers}
use Rattle.gql_reads.proofs.Members.{Contains-map_from}

fragment_same : (f g : FragmentFact) → fact.Fragment f ≡ fact.Fragment g → f ≡ g
fragment_same f g e = cc e

pub name_there : (names : List (List ℕ)) (n : List ℕ) → list_any (bytes_eq n) names ≡ true → Contains names n
name_there names n e = Contains-from_any (λ x y. (bytes_eq-Decides x y).0) n names e

-- ---- entries

module _ (es new : Entries) (n : List ℕ) (p : Kept) (here : entry_at new n ≡ Some p) (others : (m : List ℕ) → bytes_eq n m ≡ false → entry_at new m ≡ entry_at es m) (answers : new.answers ≡ es.answers) (types : new.types ≡ es.types) where
  pub added_holds : (F : Facts) → Holds F n p → AllHold F es → AllHold F new
  added_holds F h all = record {
    each = λ m k c. elim (either (bytes_eq n m)) [
      | inl t ↦
          let s : n ≡ m = (bytes_eq-Decides n m).0 t in
          let e : p ≡ k = some_same p k (sym here ∙ ap (λ j. entry_at new j) s ∙ c) in
          subst (λ j. Holds F j k) s (subst (λ q. Holds F n q) e h)
      | inr f ↦ all.each m k (sym (others m f) ∙ c)
    ];
    answers = λ k a c. all.answers k a (subst (λ l. lookup (is_key k) l ≡ Some a) answers c);
    types = subst (λ (l : List (List ℕ × TypeAnswers)). AreTypes F l) (sym types) all.types;
  }

  pub added_keeps : entry_at es n ≡ None → Keeps es new
  added_keeps none m k c = elim (either (bytes_eq n m)) [
    | inl t ↦ absurd (let s : n ≡ m = (bytes_eq-Decides n m).0 t in let i : None ≡ Some k = sym none ∙ ap (λ j. entry_at es j) s ∙ c in cc i)
    | inr f ↦ others m f ∙ c
  ]

-- the answer to one key more
pub answer_added : (F : Facts) (es new : Entries) (k : Key) (a : Answer) → answer_at new k ≡ Some a → ((j : Key) → is_key k j ≡ false → answer_at new j ≡ answer_at es j)
    → new.parts ≡ es.parts → new.types ≡ es.types → IsAnswer F k a → AllHold F es → AllHold F new
answer_added F es new k a here others parts types is all = record {
  each = λ n q c. all.each n q (subst (λ l. lookup (bytes_eq n) l ≡ Some q) parts c);
  answers = λ j b c. elim (either (is_key k j)) [
    | inl t ↦
        let s : k ≡ j = (is_key_decides k j).0 t in
        let e : a ≡ b = some_same a b (sym here ∙ ap (λ i. answer_at new i) s ∙ c) in
        subst (λ i. IsAnswer F i b) s (subst (λ x. IsAnswer F k x) e is)
    | inr f ↦ all.answers j b (sym (others j f) ∙ c)
  ];
  types = subst (λ (l : List (List ℕ × TypeAnswers)). AreTypes F l) (sym types) all.types;
}

-- what is known of types is other than before
pub types_known : (F : Facts) (es : Entries) (types : List (List ℕ × TypeAnswers)) → AreTypes F types → AllHold F es → AllHold F (record { parts = es.parts; answers = es.answers; types = types })
types_known F es types are all = record { each = all.each; answers = all.answers; types = are }

-- where the parts are the same, so are the entries
pub parts_keep : (es new : Entries) → new.parts ≡ es.parts → Keeps es new
parts_keep es new same n k c = subst (λ l. lookup (bytes_eq n) l ≡ Some k) (sym same) c

pub keeps_all : (es : Entries) → Keeps es es
keeps_all es n k c = c

pub keeps_then : (a b c : Entries) → Keeps a b → Keeps b c → Keeps a c
keeps_then a b c p q n k h = q n k (p n k h)

-- ---- the part of a fragment

-- the record of one that was made before, where it holds
pub record_stays : (F : Facts) (g : FragmentFact) (p : Kept) → p.fragment ≡ g → IsCertified p.fragment p.seen → Hold F (observed_in p.seen) → IsRecord F (tree_of g) p.seen
record_stays F g p is certified hold = record {
  hold = hold;
  keys = subst (λ f. Lists (keys_of (observed_in p.seen)) (Own F (tree_of f))) is (certified.reads F hold);
  led = certified.led;
}

module _ (F : Facts) (es : Entries) (g : FragmentFact) (p : Kept) where
  -- one that was there
  pub part_found : entry_at es (name_of g) ≡ Some p → AllHold F es → IsNamed F g → IsCertified p.fragment p.seen → IsPartOf F es g p
  part_found there all named certified =
      let h = all.each (name_of g) p there in
      let e : p.fragment ≡ g = fragment_same p.fragment g (sym h.0 ∙ named) in
      record {
        is = e;
        entry = there;
        seen = record { hold = h.1; keys = subst (λ f. Lists (keys_of (observed_in p.seen)) (Own F (tree_of f))) e (certified.reads F h.1); led = certified.led };
      }

  -- one that was made
  pub part_made : entry_at es (name_of g) ≡ Some p → p.fragment ≡ g → IsRecord F (tree_of g) p.seen → IsPartOf F es g p
  part_made there is seen = record { is = is; entry = there; seen = seen }

  pub part_stays : (fs : Entries) → Keeps es fs → IsPartOf F es g p → IsPartOf F fs g p
  part_stays fs keeps part = record { is = part.is; entry = keeps (name_of g) p part.entry; seen = part.seen }

  pub made_holds : (n : List ℕ) (q : Kept) → n ≡ name_of g → p ≡ q → IsNamed F g → q.fragment ≡ g → IsRecord F (tree_of g) q.seen → Holds F n p
  made_holds n q name same named is seen = rw (name, same) (named ∙ ap (λ f. fact.Fragment f) (sym is), seen.hold)

-- ---- parts that are met

members_append : (a b : List Kept) → members_of (a ++ b) ≡ members_of a ++ members_of b
members_append [] b = refl
members_append (p ∷ a) b = ap (λ l. p.fragment ∷ l) (members_append a b)

pub met_stays : (a b : List Kept) (g : FragmentFact) → Contains (members_of a) g → Contains (members_of (a ++ b)) g
met_stays a b g c = subst (λ l. Contains l g) (sym (members_append a b)) (Contains-append_left (members_of a) (members_of b) g c)

-- nothing is met of no fragments
pub meets_none : (P : FragmentFact → Type 0) (a : List Kept) → ((g : FragmentFact) → P g → Contains (members_of a) g) → Meets P a a
meets_none P a all = record { more = []; is = sym (append-nil a); from = λ p c. absurd (Contains-nil p c); all = all }

pub meets_then : (P Q : FragmentFact → Type 0) (a b c : List Kept) → Meets P a b → Meets Q b c → Meets (λ g. P g ⊎ Q g) a c
meets_then P Q a b c p q = record {
  more = p.more ++ q.more;
  is = q.is ∙ ap (λ l. l ++ q.more) p.is ∙ append_assoc a p.more q.more;
  from = λ x d. elim (Contains-append_cases p.more q.more x d) [ inl l ↦ inl (p.from x l) | inr r ↦ inr (q.from x r) ];
  all = λ g h. elim h [
    | inl l ↦ subst (λ z. Contains (members_of z) g) (sym q.is) (met_stays b q.more g (p.all g l))
    | inr r ↦ q.all g r
  ];
}

-- the same of the same fragments
pub meets_as : (P Q : FragmentFact → Type 0) (a b : List Kept) → ((g : FragmentFact) → P g → Q g) → ((g : FragmentFact) → Q g → P g) → Meets P a b → Meets Q a b
meets_as P Q a b to from m = record { more = m.more; is = m.is; from = λ p c. to p.fragment (m.from p c); all = λ g h. m.all g (from g h) }

-- one fragment more of a list
pub meets_more : (fs : List FragmentFact) (i : ℕ) (f : FragmentFact) (a b c : List Kept) → i < length fs → f ≡ get_or fs i f → Meets (Contains (take i fs)) a b → Meets (λ g. g ≡ f) b c
    → Meets (Contains (take (i + 1) fs)) a c
meets_more fs i f a b c lt is p q =
    let e : take (i + 1) fs ≡ take i fs ++ f ∷ [] = take_more fs i f lt ∙ ap (λ z. take i fs ++ z ∷ []) (sym is) in
    meets_as (λ g. Contains (take i fs) g ⊎ (g ≡ f)) (Contains (take (i + 1) fs)) a c
    (λ g h. subst (λ l. Contains l g) (sym e) (elim h [ inl o ↦ Contains-append_left (take i fs) (f ∷ []) g o | inr s ↦ subst (λ z. Contains (take i fs ++ f ∷ []) z) (sym s) (Contains-push (take i fs) f) ]))
    (λ g h. elim (Contains-push_cases (take i fs) f g (subst (λ l. Contains l g) e h)) [ inl o ↦ inl o | inr s ↦ inr (sym s) ])
    (meets_then (Contains (take i fs)) (λ g. g ≡ f) a b c p q)

module _ (F : Facts) (es : Entries) (names : List (List ℕ)) (parts : List Kept) (met : AreMet F es names parts) where
  -- a fragment whose name was met
  pub was_met : (g : FragmentFact) → AllHold F es → IsNamed F g → list_any (bytes_eq (name_of g)) names ≡ true → Contains (members_of parts) g
  was_met g all named found =
      let m = Contains-map_from (λ (p : Kept). name_of p.fragment) parts (name_of g) (subst (λ l. Contains l (name_of g)) met.named (name_there names (name_of g) found)) in
      let h = all.each (name_of m.0.fragment) m.0 (met.each m.0 m.1).entry in
      let e : m.0.fragment ≡ g = fragment_same m.0.fragment g (sym h.0 ∙ ap (λ n. F (key.FragmentOf n)) m.2 ∙ named) in
      subst (λ f. Contains (members_of parts) f) e (Contains-map (λ (p : Kept). p.fragment) parts m.0 m.1)

  pub met_kept : (fs : Entries) → Keeps es fs → AreMet F fs names parts
  met_kept fs keeps = record { named = met.named; each = λ p c. part_stays F es p.fragment p fs keeps (met.each p c) }

  names_push : (p : Kept) (l : List Kept) → map (λ (q : Kept). name_of q.fragment) (l ++ p ∷ []) ≡ map (λ (q : Kept). name_of q.fragment) l ++ name_of p.fragment ∷ []
  names_push p [] = refl
  names_push p (q ∷ l) = ap (λ z. name_of q.fragment ∷ z) (names_push p l)

  -- one part more
  pub met_more : (fs : Entries) (g : FragmentFact) (p : Kept) (n : List ℕ) (more : List (List ℕ)) (new : List Kept) → Keeps es fs → IsPartOf F fs g p → n ≡ name_of g
      → list_any (bytes_eq n) names ≡ false → more ≡ insert_key bytes_eq names n → new ≡ parts ++ p ∷ [] → AreMet F fs more new
  met_more fs g p n more new keeps part name absent put push = rw push (record {
    named = put ∙ ap (λ b. if b then names else names ++ n ∷ []) absent ∙ ap (λ l. l ++ n ∷ []) met.named
        ∙ ap (λ m. map (λ (q : Kept). name_of q.fragment) parts ++ m ∷ []) (name ∙ ap (λ f. name_of f) (sym part.is)) ∙ sym (names_push p parts);
    each = λ q c. elim (Contains-push_cases parts p q c) [
      | inl o ↦ part_stays F es q.fragment q fs keeps (met.each q o)
      | inr s ↦ subst (λ (x : Kept). IsPartOf F fs x.fragment x) s (subst (λ f. IsPartOf F fs f p) (sym part.is) part)
    ];
  })

-- the part of one fragment
pub meets_one : (g : FragmentFact) (p : Kept) (parts new : List Kept) → p.fragment ≡ g → new ≡ parts ++ p ∷ [] → Meets (λ f. f ≡ g) parts new
meets_one g p parts new is push = record {
  more = p ∷ [];
  is = push;
  from = λ q c. elim (Contains-cases q p [] c) [ inl e ↦ ap (λ (x : Kept). x.fragment) e ∙ is | inr t ↦ absurd (Contains-nil q t) ];
  all = λ f e. subst (λ l. Contains (members_of l) f) (sym push)
      (subst (λ z. Contains (members_of (parts ++ p ∷ [])) z) (is ∙ sym e) (Contains-map (λ (q : Kept). q.fragment) (parts ++ p ∷ []) p (Contains-push parts p)));
}

-- each name is of a part
pub met_count : (F : Facts) (es : Entries) (names : List (List ℕ)) (parts : List Kept) → AreMet F es names parts → length names ≡ length parts
met_count F es names parts met = ap (λ (x : List (List ℕ)). length x) met.named ∙ counted parts where
  counted : (ps : List Kept) → length (map (λ (p : Kept). name_of p.fragment) ps) ≡ length ps
  counted [] = refl
  counted (p ∷ ps) = let h = counted ps in omega (arith, h)

-- what a record tells is met
pub meets_told : (gs : List FragmentFact) (os : List Answer) (a b : List Kept) → Lists gs (IsTold os) → Meets (Contains gs) a b → Meets (IsTold os) a b
meets_told gs os a b l m = meets_as (Contains gs) (IsTold os) a b l.sound l.complete m

-- a part at a place
pub here_at : (parts slice : List Kept) (i : ℕ) (found : Option (Bor Kept)) (p : Bor Kept) → slice ≡ parts → option_copied found ≡ slice_get slice i → found ≡ Some p → slice_get parts i ≡ Some p.now
here_at parts slice i found p same is some = sym (ap option_copied (sym some) ∙ is ∙ ap (λ l. slice_get l i) same)
