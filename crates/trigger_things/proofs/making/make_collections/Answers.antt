use Rattle.trigger_things.proofs.Firings.{at_there, collected, if_there}
use Rattle.trigger_things.proofs.making.make_collections.Goals as goal

pub returns : goal.returns
returns c =
    collected c.args.op c.args.before c.args.news c.args.olds c.args.heap.now _ _ _ _ _ _ _ _ _
    (if_there _ _ _ _ _ c.has_new.ensures c.in_ok-new_list.ensures.things) (at_there _ _ _ _ c.has_new.ensures c.in_ok-new_list.ensures.value)
    (if_there _ _ _ _ _ c.has_old.ensures c.in_ok-old_list.ensures.things) (at_there _ _ _ _ c.has_old.ensures c.in_ok-old_list.ensures.value)
    (if_there _ _ _ _ _ c.has_new_map.ensures c.in_ok-new_map.ensures.things) (at_there _ _ _ _ c.has_new_map.ensures c.in_ok-new_map.ensures.value)
    (if_there _ _ _ _ _ c.has_old-2.ensures c.in_ok-old_map.ensures.things) (at_there _ _ _ _ c.has_old-2.ensures c.in_ok-old_map.ensures.value)
    c.in_ok-variables.ensures
