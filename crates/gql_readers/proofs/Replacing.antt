-- Answers before and after, compared: one more of each, and those that go and come at the end.
use Rattle.std.proofs.Common.{◌≡◌, ◌⊎◌, inl, inr, ℕ, zero, suc, List, [], ◌∷◌, ◌++◌, ◌+◌, ◌<◌, ◌≤◌, Bool, true, false, append-nil, append_assoc, arith, cond, get_or, length, refl, ap, sym, subst, ◌∙◌, take, Contains}
use Rattle.std.specs.Prelude.{slice_get}
use Rattle.std.specs.List.{list_any}
use Rattle.std.proofs.lemmas.List.Elements.{Contains-append_left, Contains-append_right, Contains-append_cases, Contains-push, Contains-push_cases}
use Rattle.std.proofs.lemmas.Option.{slice_get-get_or, slice_get_past}
use Rattle.std.proofs.lemmas.Map.Views.{Contains-from_any}
use Rattle.indexmap.specs.IndexSet.{insert_key}
use Rattle.indexmap.proofs.CallerLemmas.{Contains-insert_key}
use Rattle.gql_facts.specs.Keys.{is_key, is_key_decides}
use Rattle.gql_facts.specs.ListMembers.{Contains-nil, Contains-map}
use Rattle.gql_facts.specs.declared.key.Key.{Key}
use Rattle.gql_reads.proofs.Members.{Contains-map_from}
use Rattle.gql_reads.specs.Records.{Kept}
use Rattle.gql_reads.specs.declared.observation.Answer.{Answer}
use Rattle.gql_readers.specs.Readers.{keys_in}
use Rattle.gql_readers.specs.Replacements.{AreCompared, IsReplacement, answers_to, is_to, listed, seen_of, seen_of_all}
use Rattle.gql_readers.proofs.Merging.{filter_from, filter_has}
use Rattle.gql_readers.proofs.Reading.{any_has}

abbrev key_in : Answer → Key
key_in o = o.observation.key

-- ---- one more

key_left : (xs ys : List Answer) (k : Key) → Contains (keys_in xs) k → Contains (keys_in (xs ++ ys)) k
key_left xs ys k c =
    let m = Contains-map_from key_in xs k c in
    subst (Contains (keys_in (xs ++ ys))) m.2 (Contains-map key_in (xs ++ ys) m.0 (Contains-append_left xs ys m.0 m.1))

key_pushed : (xs : List Answer) (o : Answer) → Contains (keys_in (xs ++ o ∷ [])) o.observation.key
key_pushed xs o = Contains-map key_in (xs ++ o ∷ []) o (Contains-push xs o)

pub compared_none : AreCompared [] [] [] [] []
compared_none = record {
  goes = λ o c. c;
  comes = λ o c. c;
  before_is = λ o c. inl c;
  after_is = λ o c. inl c;
  keys = λ o c. absurd (Contains-nil o c);
}

module _ (went came : List Answer) (lost : List Key) (before after : List Answer) (are : AreCompared went came lost before after) where
  -- the same answer on both sides
  pub compared_same : (o : Answer) → AreCompared went came lost (before ++ o ∷ []) (after ++ o ∷ [])
  compared_same o = record {
    goes = λ p c. Contains-append_left before (o ∷ []) p (are.goes p c);
    comes = λ p c. Contains-append_left after (o ∷ []) p (are.comes p c);
    before_is = λ p c. elim (Contains-push_cases before o p c) [
      | inl b ↦ elim (are.before_is p b) [ inl w ↦ inl w | inr a ↦ inr (Contains-append_left after (o ∷ []) p a) ]
      | inr e ↦ inr (subst (Contains (after ++ o ∷ [])) e (Contains-push after o))
    ];
    after_is = λ p c. elim (Contains-push_cases after o p c) [
      | inl a ↦ elim (are.after_is p a) [ inl w ↦ inl w | inr b ↦ inr (Contains-append_left before (o ∷ []) p b) ]
      | inr e ↦ inr (subst (Contains (before ++ o ∷ [])) e (Contains-push before o))
    ];
    keys = are.keys;
  }

  -- an answer before that differs
  pub compared_went : (o : Answer) (keys : List Key) → ((k : Key) → Contains lost k → Contains keys k)
      → Contains (keys_in came) o.observation.key ⊎ Contains keys o.observation.key → AreCompared (went ++ o ∷ []) came keys (before ++ o ∷ []) after
  compared_went o keys more has = record {
    goes = λ p c. elim (Contains-push_cases went o p c) [
      | inl w ↦ Contains-append_left before (o ∷ []) p (are.goes p w)
      | inr e ↦ subst (Contains (before ++ o ∷ [])) e (Contains-push before o)
    ];
    comes = are.comes;
    before_is = λ p c. elim (Contains-push_cases before o p c) [
      | inl b ↦ elim (are.before_is p b) [ inl w ↦ inl (Contains-append_left went (o ∷ []) p w) | inr a ↦ inr a ]
      | inr e ↦ inl (subst (Contains (went ++ o ∷ [])) e (Contains-push went o))
    ];
    after_is = λ p c. elim (are.after_is p c) [ inl w ↦ inl w | inr b ↦ inr (Contains-append_left before (o ∷ []) p b) ];
    keys = λ p c. elim (Contains-push_cases went o p c) [
      | inl w ↦ elim (are.keys p w) [ inl k ↦ inl k | inr l ↦ inr (more p.observation.key l) ]
      | inr e ↦ subst (λ (q : Answer). Contains (keys_in came) q.observation.key ⊎ Contains keys q.observation.key) e has
    ];
  }

  -- an answer after that differs
  pub compared_came : (o : Answer) → AreCompared went (came ++ o ∷ []) lost before (after ++ o ∷ [])
  compared_came o = record {
    goes = are.goes;
    comes = λ p c. elim (Contains-push_cases came o p c) [
      | inl w ↦ Contains-append_left after (o ∷ []) p (are.comes p w)
      | inr e ↦ subst (Contains (after ++ o ∷ [])) e (Contains-push after o)
    ];
    before_is = λ p c. elim (are.before_is p c) [ inl w ↦ inl w | inr a ↦ inr (Contains-append_left after (o ∷ []) p a) ];
    after_is = λ p c. elim (Contains-push_cases after o p c) [
      | inl a ↦ elim (are.after_is p a) [ inl w ↦ inl (Contains-append_left came (o ∷ []) p w) | inr b ↦ inr b ]
      | inr e ↦ inl (subst (Contains (came ++ o ∷ [])) e (Contains-push came o))
    ];
    keys = λ p c. elim (are.keys p c) [ inl k ↦ inl (key_left came (o ∷ []) p.observation.key k) | inr l ↦ inr l ];
  }

-- one that goes and one that comes, to one key
pub compared_swap : (went came : List Answer) (lost : List Key) (before after : List Answer) → AreCompared went came lost before after
    → (b a : Answer) → b.observation.key ≡ a.observation.key → AreCompared (went ++ b ∷ []) (came ++ a ∷ []) lost (before ++ b ∷ []) (after ++ a ∷ [])
compared_swap went came lost before after are b a e =
    compared_went went (came ++ a ∷ []) lost before (after ++ a ∷ []) (compared_came went came lost before after are a) b lost (λ k c. c)
    (inl (subst (Contains (keys_in (came ++ a ∷ []))) (sym e) (key_pushed came a)))

-- ---- how far a loop is

next : (i : ℕ) → i + 1 ≡ suc i
next i = omega arith

next_listed : (xs : List Answer) (i : ℕ) → take (suc i) xs ≡ take i xs ++ listed (slice_get xs i)
next_listed [] zero = refl
next_listed [] (suc i) = refl
next_listed (x ∷ xs) zero = refl
next_listed (x ∷ xs) (suc i) = ap (λ l. x ∷ l) (next_listed xs i)

more_listed : (xs : List Answer) (i : ℕ) → take (i + 1) xs ≡ take i xs ++ listed (slice_get xs i)
more_listed xs i = ap (λ n. take n xs) (next i) ∙ next_listed xs i

pub listed_some : (xs : List Answer) (i : ℕ) (x : Answer) → i < length xs → x ≡ get_or xs i x → x ∷ [] ≡ listed (slice_get xs i)
listed_some xs i x lt e = ap (λ y. y ∷ []) e ∙ sym (ap listed (slice_get-get_or xs i x lt))

pub listed_none : (xs : List Answer) (i : ℕ) → length xs ≤ i → [] ≡ listed (slice_get xs i)
listed_none xs i le = sym (ap listed (slice_get_past xs i le))

pub more_answers : (before xs : List Answer) (i : ℕ) → (before ++ take i xs) ++ listed (slice_get xs i) ≡ before ++ take (i + 1) xs
more_answers before xs i = append_assoc before (take i xs) (listed (slice_get xs i)) ∙ ap (λ l. before ++ l) (sym (more_listed xs i))

next_seen : (ps : List Kept) (i : ℕ) → seen_of_all (take (suc i) ps) ≡ seen_of_all (take i ps) ++ seen_of (slice_get ps i)
next_seen [] zero = refl
next_seen [] (suc i) = refl
next_seen (p ∷ ps) zero = append-nil p.seen
next_seen (p ∷ ps) (suc i) = ap (λ l. p.seen ++ l) (next_seen ps i) ∙ sym (append_assoc p.seen (seen_of_all (take i ps)) (seen_of (slice_get ps i)))

more_seen_of : (ps : List Kept) (i : ℕ) → seen_of_all (take (i + 1) ps) ≡ seen_of_all (take i ps) ++ seen_of (slice_get ps i)
more_seen_of ps i = ap (λ n. seen_of_all (take n ps)) (next i) ∙ next_seen ps i

pub more_seen_parts : (before : List Answer) (ps : List Kept) (i : ℕ) → (before ++ seen_of_all (take i ps)) ++ seen_of (slice_get ps i) ≡ before ++ seen_of_all (take (i + 1) ps)
more_seen_parts before ps i = append_assoc before (seen_of_all (take i ps)) (seen_of (slice_get ps i)) ∙ ap (λ l. before ++ l) (sym (more_seen_of ps i))

-- ---- at the end

to_lost : (lost : List Key) (o : Answer) → Contains lost o.observation.key → is_to lost o ≡ true
to_lost lost o c = any_has (is_key o.observation.key) lost o.observation.key c ((is_key_decides o.observation.key o.observation.key).1 refl)

keys_any : (keys : List Key) (k : Key) → Contains keys k ⊎ (Contains keys k → ⊥)
keys_any keys k = by_test (list_any (is_key k) keys) refl where
  by_test : (b : Bool) → list_any (is_key k) keys ≡ b → Contains keys k ⊎ (Contains keys k → ⊥)
  by_test true e = inl (Contains-from_any (λ x y. (is_key_decides x y).0) k keys e)
  by_test false e = inr (λ c. let t : true ≡ false = sym (any_has (is_key k) keys k c ((is_key_decides k k).1 refl)) ∙ e in cc t)

-- those that went, and those that came with those to the lost keys
pub replaced : (went came : List Answer) (lost : List Key) (before after : List Answer) → AreCompared went came lost before after → IsReplacement before went (came ++ answers_to lost after) after
replaced went came lost before after are = record {
  goes = are.goes;
  comes = λ o c. elim (Contains-append_cases came (answers_to lost after) o c) [
    | inl a ↦ are.comes o a
    | inr f ↦ (filter_from (is_to lost) after o f).0
  ];
  stays = λ o c n. elim (are.before_is o c) [
    | inl w ↦ absurd (n (Contains-map key_in went o w))
    | inr a ↦ Contains-map key_in after o a
  ];
  from = λ o c. elim (are.after_is o c) [
    | inl a ↦ inl (key_left came (answers_to lost after) o.observation.key (Contains-map key_in came o a))
    | inr b ↦ elim (keys_any (keys_in went) o.observation.key) [
      | inr n ↦ inr (b, n)
      | inl k ↦
          let m = Contains-map_from key_in went o.observation.key k in
          elim (are.keys m.0 m.1) [
            | inl j ↦ inl (key_left came (answers_to lost after) o.observation.key (subst (Contains (keys_in came)) m.2 j))
            | inr l ↦ inl (Contains-map key_in (came ++ answers_to lost after) o (Contains-append_right came (answers_to lost after) o
                (filter_has (is_to lost) after o (to_lost lost o (subst (Contains lost) m.2 l)) c)))
          ]
    ]
  ];
}

-- nothing is to no keys
pub to_none : (os : List Answer) → answers_to [] os ≡ []
to_none [] = refl
to_none (o ∷ os) = to_none os

pub no_keys : (keys : List Key) → length keys ≡ 0 → keys ≡ []
no_keys [] e = refl
no_keys (k ∷ keys) e = absurd (omega (arith, e))

-- ---- keys of a set

pub key_put : (keys new : List Key) (k : Key) → new ≡ insert_key is_key keys k → Contains new k
key_put keys new k e = subst (λ (ks : List Key). Contains ks k) (sym e) (Contains-insert_key is_key (λ x y. (is_key_decides x y).0) keys k)

pub key_stays : (keys new : List Key) (k j : Key) → new ≡ insert_key is_key keys k → Contains keys j → Contains new j
key_stays keys new k j e c = subst (λ (ks : List Key). Contains ks j) (sym e) (by_test (list_any (is_key k) keys)) where
  by_test : (b : Bool) → Contains (cond b keys (keys ++ k ∷ [])) j
  by_test true = c
  by_test false = Contains-append_left keys (k ∷ []) j c
