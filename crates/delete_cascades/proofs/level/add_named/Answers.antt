use Rattle.std.proofs.Common.{◌≡◌, true, ap, sym, ◌∙◌, eqb}
use Rattle.std.proofs.lemmas.Bool.{eq-eqb}
use Rattle.std.proofs.lemmas.Result.{on_ok_weaker}
use Rattle.apex_num.specs.declared.cell.Cell.TheVariants as C
use Rattle.row_meaning.specs.Conds.{cell_of, or_null}
use Rattle.delete_cascades.specs.Layers.{places_in}
use Rattle.delete_cascades.proofs.Places.{named_more}
use Rattle.delete_cascades.proofs.level.add_named.Goals as goal

pub returns-in-Some-Id : goal.returns-in-Some-Id
returns-in-Some-Id c =
    let same : eqb c.args.naming.now.object c.args.row.now.object ≡ true = eq-eqb _ _ c.if-naming-row.false in
    let cell : cell_of c.args.row.now c.args.naming.now.field ≡ C.Id c.in-Some-Id.id =
    ap or_null (sym c.in-Some-Id.ensures.value) ∙ c.in-Some-Id.field-0-is in
    on_ok_weaker c.add_place.result
    (λ h id n. named_more c.args.naming.now c.args.row.now id (places_in c.args.places.now id) (places_in c.add_place.new.places id) c.in-Some-Id.id c.args.place n same cell (h id)) c.add_place.ensures
