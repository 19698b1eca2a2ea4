use Rattle.std.proofs.Common.{◌∙◌, option_map, ap, sym}
use Rattle.std.proofs.lemmas.Map.Iter.{rest_more}
use Rattle.std.specs.Map.Iter.{deref_pair}
use Rattle.gql_manifest.proofs.Listed.{text_more}
use Rattle.gql_manifest.specs.Entries.{Listing}
use Rattle.gql_manifest.proofs.entries.mapped.Goals as goal

pub loop-id-preserved : goal.loop-id-preserved
loop-id-preserved c =
    text_more c.loop-id.id-iterator c.next.new.self c.in-Some.id.now c.in-Some.text.now c.in-Some-as_str.body.now c.loop-id.entries.items c.push.new.self.items
    (record { id = c.as_str-in-Some-as_str.result; body = c.in-Some-as_str.body }) _
    (rest_more deref_pair c.loop-id.id-iterator c.next.new.self c.next.result (c.in-Some.id, c.in-Some.text) c.in-Some.is c.next.ensures.steps)
    (sym (ap (option_map _) c.in-Some-as_str.is) ∙ c.as_str.ensures) c.in_ok-push-in-Some-as_str.ensures.items
    (ap (λ id. let l : Listing = record { id = id; body = c.in-Some-as_str.body.now } in l) c.as_str-in-Some-as_str.ensures.value) c.loop-id.invariant
