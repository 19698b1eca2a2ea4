use Rattle.std.proofs.Common.{◌≡◌, Bool, false, true, not, refl, subst, sym}
use Rattle.gql_reads.specs.Observations.{observed_in}
use Rattle.gql_pairs.specs.declared.doubt.Doubt.{Doubt}
use Rattle.gql_pairs.proofs.Doubting.{Undoubted}
use Rattle.gql_pairs.proofs.doubt.Doubt.is_of_none.Goals as goal

none_there : (b : Bool) → not b ≡ true → b ≡ false
none_there true e = absurd (cc e)
none_there false e = refl

pub returns-in-Fragments : goal.returns-in-Fragments
returns-in-Fragments c = λ yes.
    subst (λ (d : Doubt). Undoubted d (observed_in c.args.answers.now)) (sym c.in-Fragments.is) (c.has_one.ensures (none_there c.has_one.result yes))
