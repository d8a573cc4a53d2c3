use Rattle.std.proofs.Common.{length, ap, ◌∙◌}
use Rattle.value_texts.proofs.Items.{list_count, set_count, map_count}
use Rattle.value_texts.proofs.walk.count.Goals as goal

pub returns-in-List : goal.returns-in-List
returns-in-List c = λ text. c.len.ensures ∙ list_count text _ c.args.thing.now c.in-List.is

pub returns-in-Set : goal.returns-in-Set
returns-in-Set c = λ text. ap length c.as_slice.ensures.elements ∙ set_count text _ c.args.thing.now c.in-Set.is

pub returns-in-Map : goal.returns-in-Map
returns-in-Map c = λ text. ap length c.keys.ensures.elements ∙ map_count text _ c.args.thing.now c.in-Map.is
