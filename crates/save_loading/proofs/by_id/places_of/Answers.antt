use Rattle.std.proofs.Common.{◌≡◌, ℕ, ◌+◌, ◌-◌, ◌<◌, length, drop, cond, Some, sym, ap, ◌∙◌, subst, arith}
use Rattle.std.specs.Prelude.{bytes_eq}
use Rattle.indexmap.specs.IndexMap.{get}
use Rattle.apex_rows.specs.declared.row.Row.{Row}
use Rattle.row_meaning.specs.Stores.{find}
use Rattle.save_loading.specs.Places.{row_at}
use Rattle.save_loading.proofs.Placing.{placed_more}
use Rattle.save_loading.proofs.by_id.places_of.Goals as goal

pub back-preserved : goal.back-preserved
back-preserved c =
    let lt : c.back.i - 1 < length c.args.rows.now = omega arith in
    let back : c.back.i ≡ c.back.i - 1 + 1 = omega arith in (
      omega arith,
      λ id.
          placed_more c.args.rows.now (c.back.i - 1) c.index-rows-i.result (get bytes_eq c.back.places id) (get bytes_eq c.put.new.places id) id lt c.index-rows-i.is (c.in_ok-put.ensures id ∙ ap (λ (r : Row). cond (bytes_eq r.id id) (Some (c.back.i - 1)) (get bytes_eq c.back.places id)) (sym c.index-rows-i.is))
          (subst (λ n. row_at c.args.rows.now (get bytes_eq c.back.places id) ≡ find (drop n c.args.rows.now) id) back (c.back.invariant.1 id)),
    )
