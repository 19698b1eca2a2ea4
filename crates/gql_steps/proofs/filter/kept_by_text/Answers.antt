use Rattle.std.proofs.Common.{◌<◌, map, length, refl, sym, ap, Vec, Bor, Global, ◌∙◌, arith}
use Rattle.serde_json.specs.View.{view}
use Rattle.gql_steps.specs.Asked.{text_member}
use Rattle.serde_json.specs.declared.value.Value.{Value}
use Rattle.gql_steps.specs.Resolution.{meets}
use Rattle.gql_steps.proofs.Printing.{kept_more, kept_same}
use Rattle.gql_steps.proofs.filter.kept_by_text.Goals.{then-has_text+in_ok-push, else-has_text}
use Rattle.gql_steps.proofs.filter.kept_by_text.Goals as goal

pub loop-i-preserved : goal.loop-i-preserved
loop-i-preserved c =
    let p = meets (text_member c.args.argument.now) in
    let items = c.args.items.now in
    let item = c.index-items-i.result in
    let within : c.loop-i.i < length items = omega arith in
    elim c.if-has_text.branch [
      | then-has_text+in_ok-push w ↦ kept_more p items c.loop-i.i item c.loop-i.found.items c.if-has_text.found.items _ within c.index-items-i.is (sym c.has_text.ensures ∙ w.if-has_text.true)
          (ap (λ (v : Vec (Bor Value) Global). v.items) w.found-is ∙ w.in_ok-push.ensures.items) refl c.loop-i.invariant
      | else-has_text w ↦ ap (λ (v : Vec (Bor Value) Global). map (λ (x : Bor Value). view x.now) v.items) w.found-is
          ∙ kept_same p items c.loop-i.i item c.loop-i.found.items within c.index-items-i.is (sym c.has_text.ensures ∙ w.if-has_text.false) c.loop-i.invariant
    ]
