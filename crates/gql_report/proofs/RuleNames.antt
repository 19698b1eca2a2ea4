-- Rules with the same name are the same.
use Rattle.std.proofs.Common.{◌≡◌, refl, ap, sym, ◌∙◌, ℕ, List, [], ◌∷◌, Option, Some, find, bytes_eq}
use Rattle.gql_ast.specs.Rules.{name_of}
use Rattle.gql_ast.specs.declared.rule.Rule.{Rule}
use Rattle.gql_ast.specs.declared.rule.Rule.TheVariants as rule

rules : List Rule
rules = rule.P01 ∷ rule.P02 ∷ rule.P03 ∷ rule.P04 ∷ rule.P05 ∷ rule.S01 ∷ rule.S02 ∷ rule.S03 ∷ rule.S04 ∷ rule.S05 ∷ rule.S06 ∷ rule.S07 ∷ rule.S08 ∷ rule.S09 ∷ rule.S10 ∷ rule.S11 ∷ rule.S12 ∷ rule.S13 ∷ rule.S14 ∷ rule.S15 ∷ rule.S16 ∷ rule.S17 ∷ rule.S18 ∷ rule.S19 ∷ rule.S20 ∷ rule.S21 ∷ rule.S22 ∷ rule.S23 ∷ rule.S24 ∷ rule.S25 ∷ rule.S26 ∷ rule.S27 ∷ rule.S28 ∷ rule.S29 ∷ rule.S30 ∷ rule.S31 ∷ rule.S32 ∷ rule.S33 ∷ rule.S34 ∷ rule.S35 ∷ rule.S36 ∷ rule.V01 ∷ rule.V02 ∷ rule.V03 ∷ rule.V04 ∷ rule.V05 ∷ rule.V06 ∷ rule.V07 ∷ rule.V08 ∷ rule.V09 ∷ rule.V10 ∷ rule.V11 ∷ rule.V12 ∷ rule.V13 ∷ rule.V14 ∷ rule.V15 ∷ rule.V16 ∷ rule.V17 ∷ rule.V18 ∷ rule.V19 ∷ rule.V20 ∷ rule.V21 ∷ rule.V22 ∷ rule.V23 ∷ rule.V24 ∷ rule.V25 ∷ rule.V26 ∷ rule.V27 ∷ rule.V28 ∷ rule.V29 ∷ rule.V30 ∷ []

by_name : List ℕ → Option Rule
by_name name = find (λ (r : Rule). bytes_eq name (name_of r)) rules

found : (r : Rule) → by_name (name_of r) ≡ Some r
unfolding by_name rules
found rule.P01 = refl
found rule.P02 = refl
found rule.P03 = refl
found rule.P04 = refl
found rule.P05 = refl
found rule.S01 = refl
found rule.S02 = refl
found rule.S03 = refl
found rule.S04 = refl
found rule.S05 = refl
found rule.S06 = refl
found rule.S07 = refl
found rule.S08 = refl
found rule.S09 = refl
found rule.S10 = refl
found rule.S11 = refl
found rule.S12 = refl
found rule.S13 = refl
found rule.S14 = refl
found rule.S15 = refl
found rule.S16 = refl
found rule.S17 = refl
found rule.S18 = refl
found rule.S19 = refl
found rule.S20 = refl
found rule.S21 = refl
found rule.S22 = refl
found rule.S23 = refl
found rule.S24 = refl
found rule.S25 = refl
found rule.S26 = refl
found rule.S27 = refl
found rule.S28 = refl
found rule.S29 = refl
found rule.S30 = refl
found rule.S31 = refl
found rule.S32 = refl
found rule.S33 = refl
found rule.S34 = refl
found rule.S35 = refl
found rule.S36 = refl
found rule.V01 = refl
found rule.V02 = refl
found rule.V03 = refl
found rule.V04 = refl
found rule.V05 = refl
found rule.V06 = refl
found rule.V07 = refl
found rule.V08 = refl
found rule.V09 = refl
found rule.V10 = refl
found rule.V11 = refl
found rule.V12 = refl
found rule.V13 = refl
found rule.V14 = refl
found rule.V15 = refl
found rule.V16 = refl
found rule.V17 = refl
found rule.V18 = refl
found rule.V19 = refl
found rule.V20 = refl
found rule.V21 = refl
found rule.V22 = refl
found rule.V23 = refl
found rule.V24 = refl
found rule.V25 = refl
found rule.V26 = refl
found rule.V27 = refl
found rule.V28 = refl
found rule.V29 = refl
found rule.V30 = refl

pub one_rule : (r q : Rule) → name_of r ≡ name_of q → r ≡ q
one_rule r q same = let some : ◌≡◌ {A = Option Rule} (Some r) (Some q) = sym (found r) ∙ ap by_name same ∙ found q in cc
