-- Operations that are not served, one definition after the other.
use Rattle.std.proofs.Common.{◌≡◌, ◌∙◌, ℕ, List, [], ◌∷◌, ◌++◌, Bool, true, false, Option, Some, None, sym, subst, refl, append-nil, append_assoc}
use Rattle.gql_ast.specs.declared.definition.Definition.{Definition}
use Rattle.gql_ast.specs.declared.definition.Tree.TheVariants as tree
use Rattle.gql_ast.specs.declared.executable.Operation.{Operation}
use Rattle.gql_found.proofs.Lists.{differ}
use Rattle.gql_found.specs.Affected.{AreAffected, Breaks, IsLeftOut, definition_of, own, through, left_out, listed, none}
use Rattle.gql_found.specs.Spots.{spot_of, start_of}
use Rattle.gql_found.specs.Steps.{AddsAffected, IsAgainst, IsAgainstBy, against_in}
use Rattle.gql_found.specs.declared.affected.Against.{Against}
use Rattle.gql_found.specs.declared.affected.Against.TheVariants as against
use Rattle.gql_facts.specs.Members.{Lists}
use Rattle.gql_facts.specs.Reads.{Reaches}
use Rattle.gql_facts.specs.Worlds.{Facts}
use Rattle.gql_facts.specs.declared.fact.FragmentFact.{FragmentFact}
use Rattle.gql_findings.specs.declared.finding.Affected.{Affected}
use Rattle.gql_findings.specs.declared.finding.Spot.{Spot}
use Rattle.gql_found.specs.declared.sources.Sources.{Sources}

module _ (facts : Facts) (owns : Definition → Bool) (d : Definition) where
  -- what stands against a definition that owns no fault, by the fragments that it reaches
  pub against_by : (members : List FragmentFact) → Lists members (Reaches facts d) → owns d ≡ false
      → (a : Against) → IsAgainstBy owns members a → IsAgainst facts owns d a
  against_by members lists clean against.Nothing h = none_breaks
    where
      none_breaks : (t : Option (List ℕ)) → Breaks facts owns d t → ⊥
      none_breaks t (own o) = differ (owns d) o clean
      none_breaks t (through {g} c r o) = differ (owns (definition_of g)) o (h g (lists.complete g r))
  against_by members lists clean against.Own h = absurd h
  against_by members lists clean (against.Fragment name) h =
      subst (λ n. Breaks facts owns d (Some n)) (sym h.3) (through clean (lists.sound h.0 h.1) h.2)

  pub own_against : owns d ≡ true → Breaks facts owns d None
  own_against o = own o

-- where no definition owns a fault, none is affected
module _ (s : Sources) (facts : Facts) (owns : Definition → Bool) (clean : (d : Definition) → owns d ≡ false) where
  free : (d : Definition) → IsLeftOut facts owns d
  free d o t is (own c) = differ (owns d) c (clean d)
  free d o t is (through {g} c r i) = differ (owns (definition_of g)) i (clean (definition_of g))

  rest : (ds es : List Definition) → AreAffected s facts owns ds [] → AreAffected s facts owns (ds ++ es) []
  rest ds [] h = subst (λ xs. AreAffected s facts owns xs []) (sym (append-nil ds)) h
  rest ds (e ∷ es) h = subst (λ xs. AreAffected s facts owns xs []) (append_assoc ds (e ∷ []) es) (rest (ds ++ e ∷ []) es (left_out e h (free e)))

  pub none_affected : (ds : List Definition) → AreAffected s facts owns ds []
  none_affected ds = rest [] ds none

module _ (s : Sources) (facts : Facts) (owns : Definition → Bool) where
  -- a definition that is no operation is left out
  pub not_operation : (d : Definition) (fs : List Affected) → ((o : Operation) → d.tree ≡ tree.Operation o → ⊥) → AddsAffected s facts owns d fs fs
  not_operation d fs other ds h = left_out d h (λ o t is b. other o is)

  -- an operation is listed with what stands against it, if something does
  pub operation_more : (d : Definition) (o : Operation) (spot : Spot) (a : Against) (old new : List Affected) → d.tree ≡ tree.Operation o → spot ≡ spot_of s (start_of d)
      → IsAgainst facts owns d a → new ≡ old ++ against_in o spot a → AddsAffected s facts owns d old new
  operation_more d o spot against.Nothing old new is at h e ds before =
      subst (AreAffected s facts owns (ds ++ d ∷ [])) (sym (e ∙ append-nil old)) (left_out d before (λ p t same b. h t b))
  operation_more d o spot against.Own old new is at h e ds before =
      subst (AreAffected s facts owns (ds ++ d ∷ [])) (sym e) (listed d _ before (record { operation = o; is = is; breaks = h; kind = refl; name = refl; spot = at }))
  operation_more d o spot (against.Fragment name) old new is at h e ds before =
      subst (AreAffected s facts owns (ds ++ d ∷ [])) (sym e) (listed d _ before (record { operation = o; is = is; breaks = h; kind = refl; name = refl; spot = at }))
