use Rattle.std.proofs.Common.{rules, ◌≡◌, ◌++◌, ◌∙◌, ap, sym, map}
use Rattle.record_words.specs.Names.{object_names}
use Rattle.seed_rows.specs.Views.{as_written}
use Rattle.seed_rows.specs.Written as spec
use Rattle.seed_rows.proofs.Steps.{written_at}
use Rattle.seed_rows.proofs.written.written.Goals as goal

pub loop-entry-preserved : goal.loop-entry-preserved
loop-entry-preserved c =
    let names = object_names c.args.places.now.schema.now.objects in
    let e = c.entry-item.result in
    let new : map as_written c.push_entry.new.all.items ≡ map as_written c.loop-entry.all.items ++ spec.entry_rows names e = search rules in
    new ∙ ap (λ l. l ++ spec.entry_rows names e) c.loop-entry.invariant ∙ sym (written_at names c.args.entries.now c.loop-entry.entry-index e c.loop-entry-test.true c.entry-item.is)
