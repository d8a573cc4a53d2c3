use Rattle.std.proofs.Common.{length}
use Rattle.std.specs.Prelude.{string_bytes}
use Rattle.value_texts.specs.Texts.{text_of}
use Rattle.value_texts.specs.Pieces.{seen_at}
use Rattle.value_texts.proofs.Opened.{comes_stopped, first_text, walk_begun}
use Rattle.value_texts.proofs.walk.walk.Goals as goal

pub returns-in_err-tell : goal.returns-in_err-tell
returns-in_err-tell c =
    comes_stopped (λ s. string_bytes s) (seen_at c.args.scene.now (length c.new-stack.result) c.args.value.now)
    (text_of c.args.scene.now.schema.now c.args.scene.now.classes.now c.args.scene.now.heap.now c.args.value.now) (record { text = c.new.result; left = c.args.most }) _ _ c.from_residual.ensures
    (first_text c.args.scene.now c.args.value.now c.new-stack.result c.new-stack.ensures) c.in_err-tell.ensures.0

pub loop-rest-init : goal.loop-rest-init
loop-rest-init c =
    walk_begun c.args.scene.now (seen_at c.args.scene.now (length c.new-stack.result) c.args.value.now)
    (text_of c.args.scene.now.schema.now c.args.scene.now.classes.now c.args.scene.now.heap.now c.args.value.now) (record { text = c.new.result; left = c.args.most }) c.tell.new.line c.new-stack.result c.tell.new.stack c.new.ensures.bytes
    c.new-stack.ensures (first_text c.args.scene.now c.args.value.now c.new-stack.result c.new-stack.ensures) c.in_ok-tell.ensures.0 c.in_ok-tell.ensures.1
