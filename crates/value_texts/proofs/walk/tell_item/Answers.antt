use Rattle.std.proofs.Common.{arith, subst, length, sym, ap, ◌∙◌}
use Rattle.apex_num.specs.declared.cell.Cell.TheVariants as C
use Rattle.txn_heap.specs.declared.thing.Thing.TheVariants as T
use Rattle.txn_heap.specs.declared.thing.Value.TheVariants.{Plain}
use Rattle.value_texts.specs.Pieces.{Walks, seen_at}
use Rattle.value_texts.proofs.Items.{list_count, set_count, map_count, map_values, list_item, set_item, map_item}
use Rattle.value_texts.proofs.Opened.{told}
use Rattle.value_texts.proofs.walk.tell_item.Goals as goal

pub tell_value-requires-clause-within : goal.tell_value-requires-clause-within
tell_value-requires-clause-within c =
    let n = list_count (seen_at c.args.scene.now (length c.args.stack.now)) c.as_slice.result.now c.args.thing.now (c.in-List.is ∙ ap T.List (sym c.as_slice.ensures)) in
    let h = c.requires.within in
    omega arith

pub push_key-requires : goal.push_key-requires
push_key-requires c =
    let n = set_count (seen_at c.args.scene.now (length c.args.stack.now)) c.as_slice-in-Set.result.now c.args.thing.now (c.in-Set.is ∙ ap T.Set (sym c.as_slice-in-Set.ensures.elements)) in
    let h = c.requires.within in
    record { within = omega arith }

pub tell_entry-requires-clause-keys : goal.tell_entry-requires-clause-keys
tell_entry-requires-clause-keys c = let n = map_count (seen_at c.args.scene.now (length c.args.stack.now)) c.in-Map.entries c.args.thing.now c.in-Map.is in let h = c.requires.within in omega arith

pub tell_entry-requires-clause-values : goal.tell_entry-requires-clause-values
tell_entry-requires-clause-values c = let n = map_values (seen_at c.args.scene.now (length c.args.stack.now)) c.in-Map.entries c.args.thing.now c.in-Map.is in let h = c.requires.within in omega arith

pub returns-in-List : goal.returns-in-List
returns-in-List c =
    let n = list_count (seen_at c.args.scene.now (length c.args.stack.now)) c.as_slice.result.now c.args.thing.now (c.in-List.is ∙ ap T.List (sym c.as_slice.ensures)) in
    let h = c.requires.within in
    subst (λ x. Walks c.args.scene.now x c.args.line.now c.args.stack.now c.tell_value.new.line c.tell_value.new.stack c.tell_value.result)
    (list_item (seen_at c.args.scene.now (length c.args.stack.now)) c.as_slice.result.now c.args.thing.now c.args.n (Plain C.Null) (c.in-List.is ∙ ap T.List (sym c.as_slice.ensures)) (omega arith)) c.tell_value.ensures

pub returns-in-Set : goal.returns-in-Set
returns-in-Set c =
    let n = set_count (seen_at c.args.scene.now (length c.args.stack.now)) c.as_slice-in-Set.result.now c.args.thing.now (c.in-Set.is ∙ ap T.Set (sym c.as_slice-in-Set.ensures.elements)) in
    let h = c.requires.within in
    subst (λ x. Walks c.args.scene.now x c.args.line.now c.args.stack.now c.push_key.new.line c.args.stack.now c.push_key.result)
    (set_item (seen_at c.args.scene.now (length c.args.stack.now)) c.as_slice-in-Set.result.now c.args.thing.now c.args.n C.Null (c.in-Set.is ∙ ap T.Set (sym c.as_slice-in-Set.ensures.elements)) (omega arith))
    (told c.args.scene.now _ c.args.line.now c.push_key.new.line c.args.stack.now c.push_key.result c.push_key.ensures)

pub returns-in-Map : goal.returns-in-Map
returns-in-Map c =
    let n = map_count (seen_at c.args.scene.now (length c.args.stack.now)) c.in-Map.entries c.args.thing.now c.in-Map.is in
    let h = c.requires.within in
    subst (λ x. Walks c.args.scene.now x c.args.line.now c.args.stack.now c.tell_entry.new.line c.tell_entry.new.stack c.tell_entry.result)
    (map_item (seen_at c.args.scene.now (length c.args.stack.now)) c.in-Map.entries c.args.thing.now c.args.n C.Null (Plain C.Null) c.in-Map.is (omega arith)) c.tell_entry.ensures
