use Rattle.std.proofs.Common.{rules, arith, ◌≡◌, ◌<◌, length, take, get_or, None, Some, Err, ap, ◌∙◌, subst}
use Rattle.std.proofs.lemmas.Option.{slice_get_within}
use Rattle.std.proofs.lemmas.List.{take_all}
use Rattle.row_cells.specs.Rows.{field_at, IsOnlyPut, NoPut}
use Rattle.row_cells.proofs.RowSteps.{SoFar, none_any, number_at, put_more, no_put, whole_row}
use Rattle.row_cells.proofs.rows.cells.Goals as goal

pub returns-in_err-cell : goal.returns-in_err-cell
returns-in_err-cell c =
    let fields = c.args.fields.now in
    let entries = c.args.entries.now in
    let i = c.entries.i in
    let entry = c.index-entries-i.result in
    let n = get_or c.args.numbers.now i 0 in
    let fault = c.in_err-cell.field-0.0 in
    let lt : i < length entries = search rules in
    let at : field_at fields entry ≡ Some n = ap (field_at fields) c.index-entries-i.is ∙ number_at (field_at fields) entries c.args.numbers.now i entry 0 c.requires lt in
    let e : c.from_residual-in_err-cell.result ≡ Err fault = search rules in
    rw e (no_put fields entries i entry c.entries.cells.items n lt c.index-entries-i.is c.entries.invariant at fault (subst (λ l. NoPut fields l entry n fault) c.as_slice.ensures.value c.in_err-cell.ensures))

pub index_mut-requires : goal.index_mut-requires
index_mut-requires c =
    let put = c.in_ok-cell.ensures.0 in
    let there = subst (λ l. IsOnlyPut c.args.fields.now l c.index-entries-i.result (get_or c.args.numbers.now c.entries.i 0) c.in_ok-cell.cell) c.as_slice.ensures.value c.in_ok-cell.ensures in
    let within = slice_get_within c.entries.cells.items (get_or c.args.numbers.now c.entries.i 0) None there.0.2 in
    omega (arith, c.entries.cells.ok.0)

pub entries-preserved : goal.entries-preserved
entries-preserved c =
    let fields = c.args.fields.now in
    let entries = c.args.entries.now in
    let i = c.entries.i in
    let entry = c.index-entries-i.result in
    let n = get_or c.args.numbers.now i 0 in
    let lt : i < length entries = search rules in
    let at : field_at fields entry ≡ Some n = ap (field_at fields) c.index-entries-i.is ∙ number_at (field_at fields) entries c.args.numbers.now i entry 0 c.requires lt in
    put_more fields entries i entry c.entries.cells.items n lt c.index-entries-i.is c.entries.invariant at c.in_ok-cell.cell
    (subst (λ l. IsOnlyPut fields l entry n c.in_ok-cell.cell) c.as_slice.ensures.value c.in_ok-cell.ensures)

pub returns : goal.returns
returns c =
    let fields = c.args.fields.now in
    let entries = c.args.entries.now in
    let all : take c.entries.i entries ≡ entries = take_all c.entries.i entries c.entries-test.false in
    whole_row fields entries c.entries.cells.items (none_any (field_at fields) entries c.args.numbers.now c.requires) (subst (λ l. SoFar fields l c.entries.cells.items) all c.entries.invariant)
