-- The variables of triggers (docs/language.md, "Names in code").
use Rattle.std.specs.Prelude.{ℕ, cond, List, [], ◌∷◌, codes, bytes_eq, Option, None, Some}
use Rattle.name_meanings.specs.declared.variable.VariableRow.{VariableRow}
use Rattle.static_types.specs.declared.kind.Primitive.TheVariants as P
use Rattle.static_types.specs.declared.kind.ValueType.{ValueType}
use Rattle.static_types.specs.declared.kind.ValueType.TheVariants as V
use Rattle.typed_program.specs.declared.expr.TriggerVariable.{TriggerVariable}
use Rattle.typed_program.specs.declared.expr.TriggerVariable.TheVariants.{New, Old, NewMap, OldMap, IsInsert, IsUpdate, IsDelete, IsBefore, IsAfter, Size}

abbrev pub variable_in : List VariableRow → List ℕ → Option TriggerVariable
variable_in [] name = None
variable_in (r ∷ rs) name = cond (bytes_eq r.word.now name) (Some r.variable) (variable_in rs name)

abbrev pub variable_named : List ℕ → Option TriggerVariable
variable_named name =
    cond (bytes_eq (codes "new") name) (Some New)
    (cond (bytes_eq (codes "old") name) (Some Old)
    (cond (bytes_eq (codes "newmap") name) (Some NewMap)
    (cond (bytes_eq (codes "oldmap") name) (Some OldMap)
    (cond (bytes_eq (codes "isinsert") name) (Some IsInsert)
    (cond (bytes_eq (codes "isupdate") name) (Some IsUpdate)
    (cond (bytes_eq (codes "isdelete") name) (Some IsDelete)
    (cond (bytes_eq (codes "isbefore") name) (Some IsBefore)
    (cond (bytes_eq (codes "isafter") name) (Some IsAfter)
    (cond (bytes_eq (codes "size") name) (Some Size) None)))))))))

abbrev pub variable_type : TriggerVariable → ℕ → ValueType
variable_type New object = V.List (V.Record object)
variable_type Old object = V.List (V.Record object)
variable_type NewMap object = V.Map P.Id (V.Record object)
variable_type OldMap object = V.Map P.Id (V.Record object)
variable_type Size object = V.Primitive P.Integer
variable_type _ object = V.Primitive P.Boolean
