-- Laws of rows with their roll-ups.
use Rattle.std.proofs.Common.{arith, ◌≡◌, ℕ, ◌^◌, ltb-true, lt-ltb, List, [], ◌∷◌, slice_get, Option, None, Some, refl, sym, ap, ◌∙◌, subst}
use Rattle.std.specs.Prelude.{ℤ, unsigned_abs}
use Rattle.apex_num.specs.declared.cell.Cell.{Cell}
use Rattle.apex_num.specs.declared.cell.Cell.TheVariants.{Id}
use Rattle.apex_schema.specs.declared.schema.Field.{Field}
use Rattle.apex_schema.specs.declared.schema.FieldKind.{FieldKind}
use Rattle.apex_schema.specs.declared.schema.FieldKind.TheVariants as Kind
use Rattle.apex_schema.specs.declared.schema.Rollup.{Rollup}
use Rattle.apex_schema.specs.declared.schema.Schema.{Schema}
use Rattle.apex_rows.specs.declared.row.Row.{Row}
use Rattle.row_meaning.specs.Conds.{or_null}
use Rattle.row_meaning.specs.Rollups.{cell_of_sum}
use Rattle.row_meaning.specs.Stores.{CellFits, CellsFit, IsRow}
use Rattle.rolled_rows.specs.declared.rolled.Rolled.TheVariants.{Cells}
use Rattle.rolled_rows.specs.Laws.{RangeIsDecimals, RowsStayRows}
use Rattle.rolled_rows.specs.RollUps.{by_range, comes_to, fields_in, fields_of, first_out, new_cell, new_cells, rollup_of}

pub range_is_decimals : RangeIsDecimals
range_is_decimals None = (λ h. tt, λ h. refl)
range_is_decimals (Some d) = (λ h. ltb-true (unsigned_abs d) (10 ^ 19) h, λ h. lt-ltb (unsigned_abs d) (10 ^ 19) h)

by_cells : (o : Option ℕ) (cs cells : List Cell) → by_range o cs ≡ Cells cells → cs ≡ cells
by_cells None cs cells e = cc
by_cells (Some n) cs cells e = absurd (cc)

module _ (value : Rollup → Option ℤ) where
  sum_fits : (rollup : Rollup) (d : Option ℤ) → CellFits (Kind.Rollup rollup) (cell_of_sum d)
  sum_fits rollup None = tt
  sum_fits rollup (Some d) = tt

  fits : (kind : FieldKind) (c : Cell) → CellFits kind c → CellFits kind (new_cell value (rollup_of kind) c)
  fits Kind.Id c h = h
  fits (Kind.Text most) c h = h
  fits Kind.Number c h = h
  fits Kind.Checkbox c h = h
  fits Kind.Date c h = h
  fits Kind.Datetime c h = h
  fits (Kind.Lookup link) c h = h
  fits (Kind.MasterDetail link) c h = h
  fits (Kind.Rollup rollup) c h = sum_fits rollup (value rollup)

  all_fit : (fs : List Field) (cs : List Cell) → CellsFit fs cs → CellsFit fs (new_cells value fs cs)
  all_fit [] [] h = h
  all_fit [] (c ∷ cs) h = absurd h
  all_fit (f ∷ fs) [] h = absurd h
  all_fit (f ∷ fs) (c ∷ cs) (h, hs) = (fits f.kind c h, all_fit fs cs hs)

  module _ (id : List ℕ) where
    keeps : (kind : FieldKind) (c : Cell) → CellFits kind c → c ≡ Id id → new_cell value (rollup_of kind) c ≡ Id id
    keeps Kind.Id c h e = e
    keeps (Kind.Text most) c h e = e
    keeps Kind.Number c h e = e
    keeps Kind.Checkbox c h e = e
    keeps Kind.Date c h e = e
    keeps Kind.Datetime c h e = e
    keeps (Kind.Lookup link) c h e = e
    keeps (Kind.MasterDetail link) c h e = e
    keeps (Kind.Rollup rollup) c h e = absurd (subst (CellFits (Kind.Rollup rollup)) e h)

    id_stays : (fs : List Field) (cs : List Cell) → CellsFit fs cs → or_null (slice_get cs 0) ≡ Id id → or_null (slice_get (new_cells value fs cs) 0) ≡ Id id
    id_stays [] cs h e = e
    id_stays (f ∷ fs) [] h e = e
    id_stays (f ∷ fs) (c ∷ cs) (h, hs) e = keeps f.kind c h e

pub rows_stay_rows : RowsStayRows
rows_stay_rows schema rows row cells r e =
    let value = comes_to schema rows row in
    let fields : fields_of schema row.object ≡ r.object.fields = ap fields_in r.is_object in
    let same : new_cells value r.object.fields row.cells ≡ cells = ap (λ (fs : List Field). new_cells value fs row.cells) (sym fields) ∙ by_cells (first_out value (fields_of schema row.object)) (new_cells value (fields_of schema row.object) row.cells) cells e in
    record {
      object = r.object;
      is_object = r.is_object;
      cells = subst (λ (cs : List Cell). CellsFit r.object.fields cs) same (all_fit value r.object.fields row.cells r.cells);
      id = subst (λ (cs : List Cell). or_null (slice_get cs 0) ≡ Id row.id) same (id_stays value row.id r.object.fields row.cells r.cells r.id);
    }
