use Rattle.std.proofs.Common.{◌<◌, map, length, refl, sym, ap, Vec, Bor, Global, ◌∙◌, arith}
use Rattle.serde_json.specs.View.{view}
use Rattle.gql_steps.specs.Asked.{asked_members}
use Rattle.serde_json.specs.declared.value.Value.{Value}
use Rattle.gql_steps.specs.Resolution.{meets}
use Rattle.gql_steps.proofs.Printing.{item_at, kept_more, kept_same}
use Rattle.gql_steps.proofs.filter.kept_by_all.Goals.{then-branch+in_ok-push, else-branch}
use Rattle.gql_steps.proofs.filter.kept_by_all.Goals as goal

pub loop-i-preserved : goal.loop-i-preserved
loop-i-preserved c =
    let p = meets (asked_members c.args.asked.now) in
    let items = c.args.items.now in
    let item = c.index-items-i.result in
    let within : c.loop-i.i < length items = omega arith in
    let same = c.in_ok-meets_at.ensures (map view items) c.requires (item_at items c.loop-i.i item within c.index-items-i.is) in
    elim c.if-branch.branch [
      | then-branch+in_ok-push w ↦ kept_more p items c.loop-i.i item c.loop-i.found.items c.if-branch.found.items _ within c.index-items-i.is (sym same ∙ w.if-branch.true)
          (ap (λ (v : Vec (Bor Value) Global). v.items) w.found-is ∙ w.in_ok-push.ensures.items) refl c.loop-i.invariant
      | else-branch w ↦ ap (λ (v : Vec (Bor Value) Global). map (λ (x : Bor Value). view x.now) v.items) w.found-is
          ∙ kept_same p items c.loop-i.i item c.loop-i.found.items within c.index-items-i.is (sym same ∙ w.if-branch.false) c.loop-i.invariant
    ]
