-- The first fault in front of the body of a trigger (docs/language.md, "Triggers").
use Rattle.std.specs.Prelude.{ℕ, ◌&&◌, not, Bool, true, false, cond, List, [], ◌∷◌, ◌++◌, Option, None, Some}
use Rattle.std.specs.List.{list_any}
use Rattle.fault_words.specs.declared.fault.FaultWord.TheVariants.{BadTrigger, DoubleRefused, UnknownName, WrongType}
use Rattle.apex_syntax.specs.contracts.unit.EventOpPartialEq.TheImpl.{ghosts}
use Rattle.apex_syntax.specs.declared.unit.EventTree.{EventTree}
use Rattle.apex_syntax.specs.declared.unit.TriggerTree.{TriggerTree}
use Rattle.apex_syntax.specs.declared.unit.Unit.{Unit as Tree}
use Rattle.apex_syntax.specs.declared.word.Word.{Word}
use Rattle.class_walk.specs.Headers.{Nothing, unit_name_walk}
use Rattle.class_tables.specs.Heads.{known_of}
use Rattle.static_types.specs.declared.named.TypeName.TheVariants as T
use Rattle.type_names.specs.declared.head.TypeHead.{TypeHead}
use Rattle.type_names.specs.declared.head.TypeHead.TheVariants.{Named, Record}
use Rattle.type_names.specs.TypeTrees.{Known, alone}
use Rattle.type_names.specs.Walks.{Walk, Gives, wrong, onward}

-- behind `on` stands an object
abbrev pub object_in : Option TypeHead → ℕ → Walk ℕ
object_in None at = wrong UnknownName at
object_in (Some (Record n)) at = Gives n
object_in (Some (Named T.Double)) at = wrong DoubleRefused at
object_in (Some _) at = wrong WrongType at

abbrev pub object_walk : Known → Word → Walk ℕ
object_walk known w = object_in (alone known w.name) w.span.from

abbrev pub same_flag : Bool → Bool → Bool
same_flag true b = b
same_flag false b = not b

abbrev pub same_event : EventTree → EventTree → Bool
same_event a b = same_flag a.after b.after && ghosts.eq a.op b.op

-- no event is named twice
abbrev pub events_walk : List EventTree → List EventTree → Walk Nothing
events_walk seen [] = Gives tt
events_walk seen (e ∷ es) = cond (list_any (same_event e) seen) (wrong BadTrigger e.span.from) (events_walk (seen ++ e ∷ []) es)

-- the name, the object, the events
abbrev pub trigger_header : List (List ℕ) → List Tree → ℕ → TriggerTree → Walk ℕ
trigger_header objects units n t =
    onward (unit_name_walk objects units n t.name) (λ _.
    onward (object_walk (known_of objects units) t.object) (λ object.
    onward (events_walk [] t.events) (λ _. Gives object)))
