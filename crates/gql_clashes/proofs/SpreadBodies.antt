-- The bodies that some bodies spread.
use Rattle.std.proofs.Common.{◌≡◌, ◌⊎◌, ℕ, ◌*◌, ◌≤◌, inl, inr, List, [], ◌++◌, Bool, false, length, replicate, take, refl, subst, Contains}
use Rattle.std.proofs.lemmas.List.{take_all}
use Rattle.std.proofs.lemmas.List.Elements.{Contains-append_left, Contains-append_right, Contains-append_cases}
use Rattle.gql_clashes.specs.declared.sets.Sets.{Sets}
use Rattle.gql_clashes.specs.Numbered.{Lists, nodes_of}
use Rattle.gql_clashes.specs.Parts.{SpreadsTo, itself, more}
use Rattle.gql_clashes.specs.Reach.{AreSpread, IsReach, IsSpreadBy, WasMet}
use Rattle.gql_clashes.specs.Search.{start_at}
use Rattle.gql_clashes.proofs.Members.{Contains-nil}
use Rattle.gql_clashes.proofs.Seeing.{none_seen}

module _ (z : Sets) where
  pub spread_none : (n : ℕ) (rows : List (List Bool)) (found : List ℕ) → rows ≡ replicate n (replicate (2 * n) false) → found ≡ [] → AreSpread z [] rows found
  spread_none n rows found r e = rw (r, e) (record {
    closed = λ t u h c. absurd (none_seen n (start_at t) h);
    begun = λ s c. absurd (Contains-nil s c);
    met = λ t h. absurd (none_seen n (start_at t) h);
    from = λ t c. absurd (Contains-nil t c);
  })

  pub spread_more : (begun later : List ℕ) (s : ℕ) (rows rows' : List (List Bool)) (found new found' : List ℕ) → AreSpread z begun rows found → IsReach z s rows rows' new → found' ≡ found ++ new
      → ((d : ℕ) → Contains later d → Contains begun d ⊎ (s ≡ d)) → ((d : ℕ) → Contains begun d ⊎ (s ≡ d) → Contains later d) → AreSpread z later rows' found'
  spread_more begun later s rows rows' found new found' q r e next back = rw e (record {
    closed = r.closed;
    begun = λ d c. elim (next d c) [ inl o ↦ r.kept d (q.begun d o) | inr same ↦ subst (WasMet rows') same r.here ];
    met = λ t h. elim (r.fresh t h) [ inl o ↦ Contains-append_left found new t (q.met t o) | inr f ↦ Contains-append_right found new t f ];
    from = λ t c. elim (Contains-append_cases found new t c) [
      | inl o ↦ let k = q.from t o in (k.0, back k.0 (inl k.1), k.2)
      | inr f ↦ (s, back s (inr refl), r.from t f)
    ];
  })

  module _ (bodies : List ℕ) (rows : List (List Bool)) (found : List ℕ) (q : AreSpread z bodies rows found) where
    on : {s t : ℕ} → WasMet rows s → SpreadsTo (nodes_of z) s t → WasMet rows t
    on h (itself) = h
    on h (more {s} {t} c a) = on (q.closed s t h c) a

    lists_spread : Lists found (IsSpreadBy z bodies)
    lists_spread = record { sound = q.from; complete = λ t k. q.met t (on (q.begun k.0 k.1) k.2) }

  pub spread_all : (bodies : List ℕ) (i : ℕ) (rows : List (List Bool)) (found : List ℕ) → length bodies ≤ i → AreSpread z (take i bodies) rows found → Lists found (IsSpreadBy z bodies)
  spread_all bodies i rows found le q = lists_spread bodies rows found (subst (λ l. AreSpread z l rows found) (take_all i bodies le) q)
