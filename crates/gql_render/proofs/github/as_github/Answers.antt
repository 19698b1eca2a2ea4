use Rattle.std.proofs.Common.{◌≡◌, ◌-◌, ◌++◌, ◌∙◌, ap, arith, length, map, take}
use Rattle.std.specs.Prelude.{string_bytes}
use Rattle.gql_ast.specs.Rules.{name_of}
use Rattle.gql_render.specs.Annotations.{hidden_count, parts_text}
use Rattle.gql_render.specs.Phrases.{first_words}
use Rattle.gql_render.specs.Picking.{picked}
use Rattle.gql_render.proofs.Ranking.{names_now}
use Rattle.gql_render.proofs.github.as_github.Goals as goal

pub returns : goal.returns
returns c =
    let first = c.first_words-first.result.now in
    let changed = c.as_slice-4.result.now in
    let faults = c.as_slice-5.result.now in
    let others = length c.split_at.result.1.now in
    let notices = c.as_str.result.now in
    let left : others ≡ length c.in_ok-places.places.items - c.min.result =
    let l = ap length c.as_slice.ensures.value in omega (arith, c.split_at.ensures.back_len) in
    let said : c.first_count.result ≡ hidden_count (first_words c.args.check.now) = c.first_count.ensures.value ∙ ap hidden_count c.first_words-first.ensures in
    record {
      changed = c.in_ok-changed.changed.items;
      ranked = c.in_ok-places.places.items;
      shown = c.min.result;
      faults = c.in_ok-faults.faults.items;
      notices = string_bytes c.in_ok-notices.notices;
      order = c.in_ok-places.ensures;
      few = omega (arith, said, c.min.ensures, c.len.ensures, c.in_ok-changed.ensures, c.first_count.ensures.few);
      rules = c.in_ok-faults.ensures
          ∙ names_now c.as_slice-3.result.now
          ∙ ap (λ xs. map (λ f. name_of f.rule) (map (λ x. x.now) xs)) c.as_slice-3.ensures.value
          ∙ ap (map (λ f. name_of f.rule)) (c.in_ok-findings.ensures
          ∙ ap (λ xs. picked xs c.split_at.result.0.now) c.as_slice-2.ensures.value
          ∙ ap (picked c.args.check.now.now.now.findings.items) (c.split_at.ensures.front ∙ ap (take c.min.result) c.as_slice.ensures.value));
      parts = ap (λ v. v.items) c.into_bytes.ensures.value
          ∙ c.in_ok-write_parts.ensures
          ∙ ap (λ xs. xs ++ parts_text first changed faults others notices) c.new-out.ensures.bytes
          ∙ ap (λ x. parts_text x changed faults others notices) c.first_words-first.ensures
          ∙ ap (λ x. parts_text (first_words c.args.check.now) x faults others notices) c.as_slice-4.ensures.value
          ∙ ap (λ x. parts_text (first_words c.args.check.now) c.in_ok-changed.changed.items x others notices) c.as_slice-5.ensures.value
          ∙ ap (λ x. parts_text (first_words c.args.check.now) c.in_ok-changed.changed.items c.in_ok-faults.faults.items x notices) left
          ∙ ap (parts_text (first_words c.args.check.now) c.in_ok-changed.changed.items c.in_ok-faults.faults.items (length c.in_ok-places.places.items - c.min.result)) c.as_str.ensures.value;
    }
