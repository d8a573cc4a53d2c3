-- Values and records that code makes (docs/language.md, "What code does").
use Rattle.std.specs.Prelude.{ℕ, ◌+◌, ◌*◌, Bool, true, false, List, [], ◌∷◌, length, replicate, slice_get, slice_set, Option, None, Some}
use Rattle.apex_num.specs.declared.cell.Cell.{Cell}
use Rattle.apex_num.specs.declared.kind.LimitKind.TheVariants.{Alloc}
use Rattle.apex_schema.specs.declared.schema.Object.{Object as TheObject}
use Rattle.save_meaning.specs.Sites.{Site}
use Rattle.txn_heap.specs.declared.thing.Thing.TheVariants as T
use Rattle.txn_heap.specs.declared.thing.Value.{Value}
use Rattle.txn_heap.specs.declared.thing.Value.TheVariants.{Plain, Object}
use Rattle.typed_program.specs.declared.expr.Constant.{Constant}
use Rattle.save_meaning.specs.Results.{Gives, bind}
use Rattle.request_states.specs.States.{State, Res, unbuilt, charge, make}
use Rattle.request_states.specs.Values.{cell_of}

-- what code does from a state on
abbrev pub Run : Type 0
Run = State → Res Value

abbrev pub constant : Bool → Constant → Run
constant true k st = Gives (Plain (cell_of k)) st
constant false k st = unbuilt st

-- ---- records

abbrev pub all_pairs : List (ℕ × Run) → State → Res (List (ℕ × Value))
all_pairs [] st = Gives [] st
all_pairs (p ∷ ps) st = bind (p.1 st) (λ v s. bind (all_pairs ps s) (λ vs s1. Gives ((p.0, v) ∷ vs) s1))

abbrev pub known : Value → Option Cell
known (Plain c) = Some c
known (Object r) = None

abbrev pub with_pairs : List (ℕ × Value) → List (Option Cell) → List (Option Cell)
with_pairs [] cells = cells
with_pairs (p ∷ ps) cells = with_pairs ps (slice_set cells p.0 (known p.1))

abbrev pub width : Option TheObject → ℕ
width None = 0
width (Some o) = length o.fields

module _ (site : Site) where
  -- a record costs 32 units, and 32 for each cell that it is given; the values are there before
  abbrev pub make_record : ℕ → List (ℕ × Value) → State → Res Value
  make_record object ps st =
      bind (charge Alloc (32 + 32 * length ps) st) (λ u s.
      make (T.Record (record { object = object; cells = with_pairs ps (replicate (width (slice_get site.schema.objects object)) None); selected = None })) s)
