-- The lists and maps of records that were made.
use Rattle.std.specs.Prelude.{◌≡◌, ℕ, ◌+◌, Bool, List, [], ◌∷◌, ◌++◌, length}
use Rattle.apex_num.specs.declared.cell.Cell.{Cell}
use Rattle.apex_requests.specs.declared.request.Op.{Op}
use Rattle.txn_heap.specs.Words.{with_entries}
use Rattle.txn_heap.specs.declared.thing.Thing.{Thing}
use Rattle.txn_heap.specs.declared.thing.Thing.TheVariants as T
use Rattle.txn_heap.specs.declared.thing.Value.{Value}
use Rattle.trigger_things.specs.Things.{at_if, fixed_if, has_new, has_new_map, has_old}
use Rattle.trigger_things.specs.declared.records.Made.{Made}

module _ (op : Op) (before : Bool) (news olds : Made) where
  abbrev pub list_of_news : List Thing
  list_of_news = fixed_if (has_new op) (T.List news.list)

  abbrev pub list_of_olds : List Thing
  list_of_olds = fixed_if (has_old op) (T.List olds.list)

  abbrev pub map_of_news : List Thing
  map_of_news = fixed_if (has_new_map op before) (T.Map (with_entries [] news.by_id))

  abbrev pub map_of_olds : List Thing
  map_of_olds = fixed_if (has_old op) (T.Map (with_entries [] olds.by_id))

  -- those that there are stand behind the things of a heap, and are named from there
  pub record IsCollected (heap after : List Thing) (variables : List Value) : Type 0 where
    pub things : after ≡ heap ++ (list_of_news ++ (list_of_olds ++ (map_of_news ++ map_of_olds)))
    pub names :
        variables
        ≡ at_if (has_new op) (length heap)
        ∷ at_if (has_old op) (length heap + length list_of_news)
        ∷ at_if (has_new_map op before) (length heap + length list_of_news + length list_of_olds)
        ∷ at_if (has_old op) (length heap + length list_of_news + length list_of_olds + length map_of_news)
        ∷ []
