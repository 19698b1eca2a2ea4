-- Readers of a part, as they are listed.
use Rattle.std.proofs.Common.{◌≡◌, ◌↔◌, ◌∙◌, ℕ, IfOk, Result, Ok, Err, ◌+◌, ◌<◌, List, [], ◌∷◌, ◌++◌, Bool, true, false, Contains, IsTrue, ap, append-nil, get_or, inl, inr, length, refl, subst, sym, take}
use Rattle.std.proofs.lemmas.List.Elements.{Contains-push, Contains-push_cases, Contains-append_left}
use Rattle.gql_ast.specs.declared.definition.Definition.{Definition}
use Rattle.gql_facts.specs.ListMembers.{Contains-here, Contains-nil}
use Rattle.gql_facts.specs.Members.{Lists}
use Rattle.gql_facts.specs.Reads.{Reaches, by_definition, by_fragment}
use Rattle.gql_facts.specs.Worlds.{Facts}
use Rattle.gql_facts.specs.declared.fact.Fact.TheVariants as fact
use Rattle.gql_facts.specs.declared.fact.FragmentFact.{FragmentFact}
use Rattle.gql_facts.specs.declared.key.Key.TheVariants as key
use Rattle.gql_reads.proofs.Takes.{one_more, seen_more}
use Rattle.gql_removal.specs.declared.removal.Removal.{Removal}
use Rattle.gql_usage.specs.Adding.{AddsName, IsBrokenName}
use Rattle.gql_usage.specs.Breaks.{Breaks, IsUnread}
use Rattle.gql_usage.specs.Readers.{AreReaders, IsThrough, Reads, no_definitions, reads, reads_not}
use Rattle.gql_usage.specs.Unread.{Adds, AreListed, IsListedIf, of_one_more}
use Rattle.gql_usage.specs.declared.unread.Unread.{Unread}
use Rattle.gql_usage.specs.Stored.{AreDefined, AreStored, IsStored, definition_of}
use Rattle.gql_usage.specs.declared.reader.Reader.{Reader}
use Rattle.gql_verdict.specs.Verdicts.{Judgement}

-- a found value that satisfies one thing satisfies another
pub ok_then : {V E : Type 0} {P Q : V → Type 0} (r : Result V E) → ((v : V) → P v → Q v) → IfOk r P → IfOk r Q
ok_then (Ok v) f h = f v h
ok_then (Err e) f h = tt

-- ---- fragments that are reached

-- a fragment that is reached is known by its name
known : (facts : Facts) (d : Definition) (g : FragmentFact) → Reaches facts d g → (n : List ℕ) × (facts (key.FragmentOf n) ≡ fact.Fragment g)
known facts d g (by_definition {n} h e) = (n, e)
known facts d g (by_fragment {n} r h e) = (n, e)

pub reached_is_defined : (facts : Facts) (ds : List Definition) (d : Definition) (g : FragmentFact) → AreDefined facts ds → Reaches facts d g → Contains ds (definition_of g)
reached_is_defined facts ds d g are r = let k = known facts d g r in are k.0 g k.1

-- a fragment that a stored definition reaches is stored
pub reached_is_stored : (facts : Facts) (shelf : List Judgement) (d : Definition) (g : FragmentFact) → IsStored facts shelf d → Reaches facts d g → IsStored facts shelf (definition_of g)
reached_is_stored facts shelf d g s r = (s.0, s.1, reached_is_defined facts s.0 d g s.1.fragments r)

-- ---- names of broken fragments

module _ (facts : Facts) (r : Removal) where
  pub no_names : Lists [] (IsBrokenName facts r [])
  no_names = record { sound = λ n h. absurd (Contains-nil n h); complete = λ n h. absurd (Contains-nil h.0 h.1) }

  -- one more fragment was examined
  pub names_more : (gs : List FragmentFact) (i : ℕ) (g : FragmentFact) → i < length gs → g ≡ get_or gs i g → (old new : List (List ℕ))
      → Lists old (IsBrokenName facts r (take i gs)) → AddsName facts r g old new → Lists new (IsBrokenName facts r (take (i + 1) gs))
  names_more gs i g lt is old new so_far (inl added) = record {
    sound = λ n h. elim (Contains-push_cases old g.fragment.name.text n (subst (λ ns. Contains ns n) added.1 h)) [
      | inl o ↦ let b = so_far.sound n o in (b.0, subst (λ xs. Contains xs b.0) (sym (one_more gs i g lt is)) (Contains-append_left (take i gs) (g ∷ []) b.0 b.1), b.2, b.3)
      | inr e ↦ (g, subst (λ xs. Contains xs g) (sym (one_more gs i g lt is)) (Contains-push (take i gs) g), added.0, e)
    ];
    complete = λ n b. subst (λ ns. Contains ns n) (sym added.1) (elim (seen_more gs i g lt is b.0 b.1) [
      | inl o ↦ Contains-append_left old (g.fragment.name.text ∷ []) n (so_far.complete n (b.0, o, b.2, b.3))
      | inr e ↦ subst (λ m. Contains (old ++ g.fragment.name.text ∷ []) m) (ap (λ (x : FragmentFact). x.fragment.name.text) e ∙ b.3) (Contains-push old g.fragment.name.text)
    ]);
  }
  names_more gs i g lt is old new so_far (inr kept) = record {
    sound = λ n h. let b = so_far.sound n (subst (λ ns. Contains ns n) kept.1 h) in (b.0, subst (λ xs. Contains xs b.0) (sym (one_more gs i g lt is)) (Contains-append_left (take i gs) (g ∷ []) b.0 b.1), b.2, b.3);
    complete = λ n b. subst (λ ns. Contains ns n) (sym kept.1) (elim (seen_more gs i g lt is b.0 b.1) [
      | inl o ↦ so_far.complete n (b.0, o, b.2, b.3)
      | inr e ↦ absurd (kept.0 (subst (λ (x : FragmentFact). Breaks facts r (definition_of x)) (sym e) b.2))
    ]);
  }

  -- the names of the broken fragments among those that are reached
  pub names_are_through : (d : Definition) (gs : List FragmentFact) (names : List (List ℕ)) → Lists gs (Reaches facts d) → Lists names (IsBrokenName facts r gs) → Lists names (IsThrough facts r d)
  names_are_through d gs names reached broken = record {
    sound = λ n h. let b = broken.sound n h in (b.0, (reached.sound b.0 b.1, b.2), b.3);
    complete = λ n t. broken.complete n (t.0, reached.complete t.0 t.1.0, t.1.1, t.2);
  }

  -- ---- the list of readers

  pub reads_through : (d : Definition) (names : List (List ℕ)) (n : List ℕ) → Lists names (IsThrough facts r d) → Contains names n → Reads facts r d
  reads_through d names n through h = let t = through.sound n h in inr (t.0, t.1)

  -- what is said of whether a definition reads nothing
  pub reads_nothing : (d : Definition) (b : Bool) (names : List (List ℕ)) → (IsTrue b ↔ Breaks facts r d) → Lists names (IsThrough facts r d)
      → (b ≡ false) × (names ≡ []) → Reads facts r d → ⊥
  reads_nothing d b names by through none (inl broken) = let z : false ≡ true = sym none.0 ∙ by.1 broken in cc z
  reads_nothing d b names by through none (inr blamed) =
      Contains-nil blamed.0.fragment.name.text (subst (λ ns. Contains ns blamed.0.fragment.name.text) none.1 (through.complete blamed.0.fragment.name.text (blamed.0, blamed.1, refl)))

  pub reads_some : (d : Definition) (b : Bool) (names : List (List ℕ)) → (IsTrue b ↔ Breaks facts r d) → Lists names (IsThrough facts r d)
      → ((b ≡ false) × (names ≡ []) → ⊥) → Reads facts r d
  reads_some d true names by through some = inl (by.0 refl)
  reads_some d false [] by through some = absurd (some (refl, refl))
  reads_some d false (n ∷ names) by through some = reads_through d (n ∷ names) n through (Contains-here n names)

  -- nobody is listed exactly if the removal breaks nothing
  pushed : (xs : List Reader) (x : Reader) → xs ++ x ∷ [] ≡ [] → ⊥
  pushed xs x e = Contains-nil x (subst (λ ys. Contains ys x) e (Contains-push xs x))

  breaks_none : (ds : List Definition) (xs : List Reader) → AreReaders facts r ds xs → xs ≡ [] → IsUnread facts r ds
  breaks_none [] [] no_definitions e d h broken = Contains-nil d h
  breaks_none _ _ (reads {ds} {xs} d' x rest does is) e d h broken = pushed xs x e
  breaks_none _ _ (reads_not {ds} {xs} d' rest does_not) e d h broken = elim (Contains-push_cases ds d' d h) [
    | inl o ↦ breaks_none ds xs rest e d o broken
    | inr s ↦ does_not (inl (subst (Breaks facts r) (sym s) broken))
  ]

  nobody_listed : (all : List Definition) → AreDefined facts all → IsUnread facts r all → (ds : List Definition) (xs : List Reader) → AreReaders facts r ds xs
      → ((d : Definition) → Contains ds d → Contains all d) → xs ≡ []
  nobody_listed all are unread [] [] no_definitions within = refl
  nobody_listed all are unread _ _ (reads {ds} {xs} d x rest (inl broken) is) within = absurd (unread d (within d (Contains-push ds d)) broken)
  nobody_listed all are unread _ _ (reads {ds} {xs} d x rest (inr blamed) is) within = absurd (unread (definition_of blamed.0) (reached_is_defined facts all d blamed.0 are blamed.1.0) blamed.1.1)
  nobody_listed all are unread _ _ (reads_not {ds} {xs} d rest does_not) within =
      nobody_listed all are unread ds xs rest (λ x h. within x (Contains-append_left ds (d ∷ []) x h))

  pub none_exactly : (ds : List Definition) (xs : List Reader) → AreDefined facts ds → AreReaders facts r ds xs → (xs ≡ []) ↔ IsUnread facts r ds
  none_exactly ds xs are listed = (λ e. breaks_none ds xs listed e, λ unread. nobody_listed ds are unread ds xs listed (λ d h. h))

-- ---- the facts and the definitions of what is stored

pub stored_as : (F G : Facts) → F ≡ G → (ds es : List Definition) → ds ≡ es → (shelf : List Judgement) → AreStored G es shelf → AreStored F ds shelf
stored_as F G f ds es e shelf s = subst (λ X. AreStored X ds shelf) (sym f) (subst (λ xs. AreStored G xs shelf) (sym e) s)

pub unread_as : {E : Type 0} (F G : Facts) → F ≡ G → (ds es : List Definition) → ds ≡ es → (r : Removal) (found : Result Bool E)
    → IfOk found (λ b. IsTrue b ↔ IsUnread F r ds) → IfOk found (λ b. IsTrue b ↔ IsUnread G r es)
unread_as F G f ds es e r found h = subst (λ X. IfOk found (λ b. IsTrue b ↔ IsUnread X r es)) f (subst (λ xs. IfOk found (λ b. IsTrue b ↔ IsUnread F r xs)) e h)

pub readers_as : (F G : Facts) → F ≡ G → (ds es : List Definition) → ds ≡ es → (r : Removal) (xs : List Reader) → AreReaders F r ds xs → AreReaders G r es xs
readers_as F G f ds es e r xs h = subst (λ X. AreReaders X r es xs) f (subst (λ ys. AreReaders F r ys xs) e h)

-- ---- a part is listed if nobody reads it

module _ (facts : Facts) (ds : List Definition) (q r : Removal) (e : q ≡ r) (b : Bool) (is : IsTrue b ↔ IsUnread facts q ds) where
  pub is_not : b ≡ false → IsUnread facts r ds → ⊥
  is_not not_so u = let z : false ≡ true = sym not_so ∙ is.1 (subst (λ x. IsUnread facts x ds) (sym e) u) in cc z

  pub is_so : b ≡ true → IsUnread facts r ds
  is_so so = subst (λ x. IsUnread facts x ds) e (is.0 so)

  pub adds_not : b ≡ false → (entries old : List Unread) → Adds (IsListedIf (IsUnread facts r ds) entries) old old
  adds_not not_so entries old = ([], inr (is_not not_so, refl), sym (append-nil old))

  pub adds_yes : b ≡ true → (entries old new : List Unread) → new ≡ old ++ entries → Adds (IsListedIf (IsUnread facts r ds) entries) old new
  adds_yes so entries old new added = (entries, inl (is_so so, refl), added)

-- one more of a list of things
module _ {A : Type 0} (P : A → List Unread → Type 0) (xs : List A) (i : ℕ) (x : A) (lt : i < length xs) (is : x ≡ get_or xs i x) where
  pub listed_more : (old new : List Unread) → AreListed P (take i xs) old → Adds (P x) old new → AreListed P (take (i + 1) xs) new
  listed_more old new before a = subst (λ (ys : List A). AreListed P ys new) (sym (one_more xs i x lt is))
      (subst (λ (us : List Unread). AreListed P (take i xs ++ x ∷ []) us) (sym a.2) (of_one_more x before a.1))
