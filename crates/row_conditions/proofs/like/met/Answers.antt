use Rattle.std.proofs.Common.{rules, [], ◌∷◌, ap, reverse, ◌∙◌}
use Rattle.std.proofs.lemmas.List.{nil_from_length}
use Rattle.row_conditions.specs.Pieces.{last_of, meets, turned}
use Rattle.row_conditions.proofs.Columns.{begun_is, turned_is, last_is, moved_over, all_taken}
use Rattle.row_conditions.proofs.like.met.Goals as goal

pub loop-c-init : goal.loop-c-init
loop-c-init c = ([], search (rules), search (rules, begun_is))

pub loop-c-preserved : goal.loop-c-preserved
loop-c-preserved c = (
  c.in-Some.c ∷ c.loop-c.invariant.0,
  search (rules, moved_over),
  ap (λ v. v.items) c.swap.ensures.x_after ∙ c.in_ok-next_column.ensures ∙ ap (turned c.in-Some.c c.args.parts.now) (c.deref.ensures.value ∙ c.loop-c.invariant.2) ∙ turned_is c.in-Some.c c.loop-c.invariant.0 c.args.parts.now,
)

pub returns : goal.returns
returns c =
    c.last.ensures ∙ ap last_of (c.deref-2.ensures.value ∙ c.loop-c.invariant.2) ∙ last_is c.args.parts.now c.loop-c.invariant.0
    ∙ ap (meets (reverse c.args.parts.now)) (all_taken c.loop-c.left.items _ _ (search (rules, nil_from_length)) c.loop-c.invariant.1)
