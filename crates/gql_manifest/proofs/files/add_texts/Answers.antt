use Rattle.std.specs.Vec.Iter.{into_iter_items}
use Rattle.gql_manifest.proofs.FileSteps.{counted, same_file, text_more}
use Rattle.gql_manifest.specs.Files.{path_of}
use Rattle.gql_manifest.specs.declared.files.MadeFile.{MadeFile}
use Rattle.gql_manifest.proofs.files.add_texts.Goals as goal

pub loop-bytes-preserved : goal.loop-bytes-preserved
loop-bytes-preserved c =
    let m : MadeFile = record { file = record { path = c.in_ok-path.path; bytes = c.in-Some.bytes }; source = c.in_ok-from_str.field-0 } in
    record {
      files = text_more c.loop-bytes.files.items c.push.new.self.items m c.loop-bytes.at c.args.stem.now c.args.source.now (into_iter_items c.loop-bytes.bytes-iterator) (into_iter_items c.next.new.self) c.in-Some.bytes _
          c.loop-bytes.invariant.files c.in-Some.ensures.steps.0 c.in_ok-push.ensures.items
          (same_file m (path_of c.args.stem.now c.loop-bytes.at) c.args.source.now c.in_ok-path.ensures c.in_ok-from_str.ensures.ok);
      all = counted c.loop-bytes.at _ (into_iter_items c.loop-bytes.bytes-iterator) (into_iter_items c.next.new.self) c.in-Some.bytes c.in-Some.ensures.steps.0 c.loop-bytes.invariant.all;
    }
