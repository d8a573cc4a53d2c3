use Rattle.std.proofs.Common.{◌∙◌}
use Rattle.trigger_things.proofs.Firings.{all_made, guarded_by}
use Rattle.trigger_things.proofs.making.make_things.Goals as goal

pub returns : goal.returns
returns c =
    let made = all_made c.args.context c.args.heap.now _ _ _ _ _ _ _ _
    (guarded_by _ _ _ _ _ c.new_guard.ensures c.in_ok-news.ensures.things) c.in_ok-news.ensures.list c.in_ok-news.ensures.by_id
    (guarded_by _ _ _ _ _ c.old_guard.ensures c.in_ok-olds.ensures.things) c.in_ok-olds.ensures.list c.in_ok-olds.ensures.by_id
    c.in_ok-variables.ensures c.in_ok-add_facts.ensures c.own_count-size.ensures.value in
    record {
      things = c.in_ok-this.ensures.things ∙ made.0;
      this = c.in_ok-this.ensures.at ∙ made.1;
    }
