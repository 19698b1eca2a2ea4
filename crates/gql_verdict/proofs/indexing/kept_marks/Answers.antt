use Rattle.std.proofs.Common.{◌∙◌, [], ap, refl, subst, sym, length, List, Bool, ℕ}
use Rattle.std.proofs.lemmas.List.{with_items_is}
use Rattle.gql_facts.specs.ListMembers.{Contains-nil}
use Rattle.gql_verdict.specs.Marks.{AreKept, IsMarked}
use Rattle.gql_verdict.specs.declared.slot.Slot.TheVariants.{At}
use Rattle.gql_verdict.proofs.indexing.kept_marks.Goals as goal

pub returns : goal.returns
returns c =
    let none : AreKept [] (length c.deref_mut.result.now) c.deref_mut.result.now = record {
      long = refl;
      from = λ j m. absurd (c.in_ok-marks.ensures.unset j (subst (λ (bs : List Bool). IsMarked bs j) c.deref_mut.ensures.value m));
      to = λ j l h. absurd (Contains-nil (At j) h);
    } in
    subst (λ (bs : List Bool). AreKept c.args.steps.now c.args.count bs) (sym (with_items_is c.in_ok-marks.marks c.keep_all.new.marks (c.keep_all.auto.marks ∙ c.deref_mut.ensures.len)))
    (subst (λ (n : ℕ). AreKept c.args.steps.now n c.keep_all.new.marks) (ap length c.deref_mut.ensures.value ∙ c.in_ok-marks.ensures.long) (c.keep_all.ensures none))
