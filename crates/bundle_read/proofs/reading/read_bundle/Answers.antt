use Rattle.std.proofs.Common.{true≢false, sym, ◌∙◌}
use Rattle.serde_json.specs.View.{view}
use Rattle.bundle_read.proofs.Whole.{value_reads, value_agrees, nothing_reads, nothing_agrees, no_value}
use Rattle.bundle_read.proofs.reading.read_bundle.Goals as goal

pub returns-in-Ok-clause-reads : goal.returns-in-Ok-clause-reads
returns-in-Ok-clause-reads c = value_reads c.args.bytes.now (view c.in-Ok.value) c.placed.result c.in-Ok.ensures.ok c.placed.ensures

pub returns-in-Ok-clause-only : goal.returns-in-Ok-clause-only
returns-in-Ok-clause-only c = value_agrees c.args.bytes.now (view c.in-Ok.value) c.placed.result c.in-Ok.ensures.ok c.placed.ensures

pub returns-else-is_memory-clause-reads : goal.returns-else-is_memory-clause-reads
returns-else-is_memory-clause-reads c =
    let none = no_value c.args.bytes.now (c.in-Err.ensures.err (λ m. true≢false (sym (c.is_memory.ensures.1 m) ∙ c.if-is_memory.false))) in
    nothing_reads c.args.bytes.now c.not_json.result none c.not_json.ensures

pub returns-else-is_memory-clause-only : goal.returns-else-is_memory-clause-only
returns-else-is_memory-clause-only c =
    let none = no_value c.args.bytes.now (c.in-Err.ensures.err (λ m. true≢false (sym (c.is_memory.ensures.1 m) ∙ c.if-is_memory.false))) in
    nothing_agrees c.args.bytes.now c.not_json.result none c.not_json.ensures
