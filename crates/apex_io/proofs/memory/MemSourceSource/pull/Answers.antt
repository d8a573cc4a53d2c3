use Rattle.std.proofs.Common.{◌≡◌, drop, take, sym, ap, ◌∙◌}
use Rattle.apex_io.proofs.Pieces.{cut_at}
use Rattle.apex_io.proofs.memory.MemSourceSource.pull.Goals as goal

pub returns-clause-answer : goal.returns-clause-answer
returns-clause-answer c =
    let bytes = c.self.inside.bytes.items in
    let left : c.args.self.now.left ≡ drop c.self.inside.at bytes = ap (λ s. s.left) (sym c.self.view_is) in
    let from : c.split_at.result.1.now ≡ drop c.self.inside.at bytes = c.split_at.ensures.back ∙ ap (λ l. drop c.self.inside.at l) c.deref-2.ensures.value in
    (c.copy_front-n.ensures.room, left ∙ cut_at bytes c.self.inside.at c.copy_front-n.result _ (c.copy_front-n.ensures.copied ∙ ap (λ l. take c.copy_front-n.result l) from), λ z r. left ∙ sym from ∙ c.copy_front-n.ensures.some z r)
