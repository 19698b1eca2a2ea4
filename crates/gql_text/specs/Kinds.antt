-- Comparison of the kinds of tokens.
use Rattle.std.specs.Prelude.{◌≡◌, ◌≢◌, Bool, true, false}
use Rattle.std.proofs.Common.{rules, refl, subst}
use denote.Enum.Bare.{sameb, same_true}
use Rattle.gql_text.specs.contracts.token.Kind.{the_type}
use Rattle.gql_text.specs.declared.token.Kind.{Kind}
use Rattle.gql_text.specs.declared.token.Kind.TheVariants.{EndOfText}

-- whether two kinds are the same
unfoldable pub same_kind : Kind → Kind → Bool
same_kind = sameb the_type

pub same_kind_true : (a b : Kind) → same_kind a b ≡ true → a ≡ b
unfolding same_kind
same_kind_true a b h = same_true the_type (search rules) a b h

itself : (a : Kind) → same_kind a a ≡ true
unfolding same_kind
itself EndOfText = refl
itself _ = refl

pub same_kind_same : (a b : Kind) → a ≡ b → same_kind a b ≡ true
same_kind_same a b h = subst (λ x. same_kind a x ≡ true) h (itself a)

by_test : (a b : Kind) (t : Bool) → same_kind a b ≡ t → a ≢ b → t ≡ false
by_test a b true h other = absurd (other (same_kind_true a b h))
by_test a b false h other = refl

pub same_kind_other : (a b : Kind) → a ≢ b → same_kind a b ≡ false
same_kind_other a b other = by_test a b (same_kind a b) refl other
