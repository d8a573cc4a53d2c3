-- Variables that may be assigned to (docs/language.md, "Operators").
use Rattle.std.specs.Prelude.{◌-◌, List, [], ◌∷◌, length, take, Option, None, Some}
use Rattle.std.specs.List.{last_or}
use Rattle.fault_words.specs.declared.fault.FaultWord.TheVariants.{NotWritable}
use Rattle.type_names.specs.Walks.{Walk, Gives, wrong}
use Rattle.typed_operations.specs.declared.place.Target.{Target}
use Rattle.typed_program.specs.declared.expr.TypedBind.{TypedBind}
use Rattle.typed_program.specs.declared.expr.TypedBind.TheOpen.{TypedExpr-F, TypedPart-F}
use Rattle.typed_program.specs.declared.expr.TypedBind.TheViews.{out-TypedExpr, out-TypedPart}
use Rattle.typed_program.specs.declared.expr.TypedExpr.{TypedExpr}
use Rattle.typed_program.specs.declared.expr.TypedExpr.TheVariants.{Postfix}
use Rattle.typed_program.specs.declared.expr.TypedItem.{TypedItem}
use Rattle.typed_program.specs.declared.expr.TypedNew.{TypedNew}
use Rattle.typed_program.specs.declared.expr.TypedOperand.{TypedOperand}
use Rattle.typed_program.specs.declared.expr.TypedPair.{TypedPair}
use Rattle.typed_program.specs.declared.expr.TypedPart.{TypedPart}
use Rattle.typed_program.specs.declared.expr.TypedPlace.{TypedPlace}
use Rattle.typed_program.specs.declared.expr.TypedPlace.TheVariants as P
use Rattle.typed_values.specs.declared.typed.Role.{Role}
use Rattle.typed_values.specs.declared.typed.Role.TheVariants.{Variable}
use Rattle.typed_values.specs.declared.typed.Typed.{Typed}

-- what parts behind a value lead to
abbrev pub reached : TypedExpr → List TypedPart → TypedExpr
reached head [] = head
reached head (part ∷ parts) = Postfix head (part ∷ parts)

-- a field of an instance, a cell of a record, and an element of a list may be assigned to; a cell behind a relation is read
-- as the path is, null where it leads to no record, and the store fails there
abbrev pub place_in : TypedExpr → TypedPart-F TypedBind TypedExpr TypedNew TypedPart TypedPlace TypedItem TypedOperand TypedPair → Option TypedPlace
place_in value (TypedPart-F.«TypedPart::Field» class field) = Some (P.Field value class field)
place_in value (TypedPart-F.«TypedPart::Cell» object field null_goes_on) = Some (P.Cell value object field null_goes_on)
place_in value (TypedPart-F.«TypedPart::Index» index) = Some (P.Index value index)
place_in value _ = None

abbrev pub place_by : TypedExpr → Option TypedPart → Option TypedPlace
place_by value (Some last) = place_in value (out-TypedPart last)
place_by value None = None

-- the last part is the place, in what the others lead to
abbrev pub place_along : TypedExpr → List TypedPart → Option TypedPlace
place_along head parts = place_by (reached head (take (length parts - 1) parts)) (last_or None parts)

abbrev pub place_of_form : TypedExpr-F TypedBind TypedExpr TypedNew TypedPart TypedPlace TypedItem TypedOperand TypedPair → Option TypedPlace
place_of_form (TypedExpr-F.«TypedExpr::Local» slot) = Some (P.Local slot)
place_of_form (TypedExpr-F.«TypedExpr::Static» class field) = Some (P.Static class field)
place_of_form (TypedExpr-F.Postfix head parts) = place_along head parts
place_of_form _ = None

-- the place that an expression names
abbrev pub place_of : TypedExpr → Option TypedPlace
place_of tree = place_of_form (out-TypedExpr tree)

abbrev pub place_where : Role → TypedExpr → Option TypedPlace
place_where Variable tree = place_of tree
place_where _ tree = None

abbrev pub target_or : Option TypedPlace → Typed → Walk Target
target_or (Some place) value = Gives (record { at = value.at; kind = value.kind; place = place })
target_or None value = wrong NotWritable value.at

-- only a variable may be assigned to
abbrev pub writable : Typed → Walk Target
writable value = target_or (place_where value.role value.tree) value
