-- Selections stand for the fields into which they unfold.
use Rattle.std.proofs.Common.{◌≡◌, ℕ, List, [], ◌∷◌, ◌++◌, refl, ap, sym, subst, append_assoc}
use Rattle.gql_collect.specs.Nodes.{FileSelection, FieldNode}
use Rattle.gql_collect.specs.Unfolding.{Given, Unfolds, nothing, kept, replaced}
use Rattle.gql_cases.specs.Fields.{StandFor, none, field, fragment, Flattens}

module _ (g : Given) (t : List ℕ) where
  both : {xs rest : List FileSelection} {ms ns : List FieldNode} → Unfolds g t xs ms → Unfolds g t rest ns → Unfolds g t (xs ++ rest) (ms ++ ns)
  both nothing h = h
  both (kept is more) h = kept is (both more h)
  both {rest = rest} {ns = ns} (replaced {xs = ys} {rest = others} {ns = ms} is more) h =
      replaced is (subst (λ l. Unfolds g t l (ms ++ ns)) (append_assoc ys others rest) (both more h))

  unfolded : {xs : List FileSelection} {ns : List FieldNode} → StandFor g t xs ns → Unfolds g t xs ns
  unfolded none = nothing
  unfolded (field is more) = kept is (unfolded more)
  unfolded (fragment is inner more) = replaced is (both (unfolded inner) (unfolded more))

  split : (xs rest : List FileSelection) (ns : List FieldNode) → StandFor g t (xs ++ rest) ns
      → (ms : List FieldNode) × (others : List FieldNode) × StandFor g t xs ms × StandFor g t rest others × (ns ≡ ms ++ others)
  split [] rest ns h = ([], ns, none, h, refl)
  split (x ∷ xs) rest _ (field {n = n} {ns = ns} is more) =
      let s = split xs rest ns more in
      (n ∷ s.0, s.1, field is s.2, s.3, ap (λ l. n ∷ l) s.4)
  split (x ∷ xs) rest _ (fragment {ms = ms} {ns = ns} is inner more) =
      let s = split xs rest ns more in
      (ms ++ s.0, s.1, fragment is inner s.2, s.3, subst (λ l. ms ++ ns ≡ l) (sym (append_assoc ms s.0 s.1)) (ap (λ l. ms ++ l) s.4))

  flattened : {xs : List FileSelection} {ns : List FieldNode} → Unfolds g t xs ns → StandFor g t xs ns
  flattened nothing = none
  flattened (kept is more) = field is (flattened more)
  flattened (replaced {x = x} {xs = xs} {rest = rest} {ns = ns} is more) =
      let s = split xs rest ns (flattened more) in
      subst (λ l. StandFor g t (x ∷ rest) l) (sym s.4) (fragment is s.2 s.3)

pub flattens : Flattens
flattens g t xs ns = (λ h. unfolded g t h, λ h. flattened g t h)
