-- What a record of an object leads to.
use Rattle.std.proofs.Common.{◌≡◌, ℕ, List, map, sym, ap, ◌∙◌}
use Rattle.std.specs.Prelude.{Option, None, Some, slice_get, slice_index_or}
use Rattle.std.proofs.lemmas.Simd.{map-map}
use Rattle.apex_num.specs.declared.cell.Cell.{Cell}
use Rattle.apex_num.specs.declared.cell.Cell.TheVariants.{Null}
use Rattle.apex_schema.specs.declared.schema.Schema.{Schema}
use Rattle.row_meaning.specs.Queries.{object_leads}
use Rattle.txn_heap.specs.declared.thing.Relation.{Relation}
use Rattle.txn_heap.specs.declared.thing.Thing.{Thing}
use Rattle.txn_heap.specs.declared.thing.Value.{Value}
use Rattle.query_records.specs.Making.{there, object_there}
use Rattle.query_records.specs.Records.{and_then, all_made, Leads, over_record, leads, over_step, over_made, overs_made}
use Rattle.query_records.specs.declared.shape.Given.{Given}
use Rattle.query_records.specs.declared.shape.Over.{Over}
use Rattle.query_records.specs.declared.shape.Over.TheViews.{out-Over}
use Rattle.query_records.specs.declared.shape.Over.TheFolds.{fold_out-Over}

module _ (schema : Schema) (paths : List Cell) where
  -- the record of a row of an object, behind those over it
  abbrev whole : List Given → List (Leads schema paths) → ℕ → List Thing → Value × List Thing
  whole given overs object things = and_then (all_made (map (λ (l : Leads schema paths). l object) overs) things) (λ links rest. over_record schema paths given links object rest)

  led : (to : Option ℕ) (id : Cell) (given : List Given) (overs : List (Leads schema paths)) (object : ℕ) (things : List Thing) → there to id ≡ Some object →
      leads schema paths to id given overs things ≡ whole given overs object things
  led None id given overs object things h = cc
  led (Some o) Null given overs object things h = cc
  led (Some o) id given overs object things h = ap (λ n. whole given overs n things) (same h) where
    same : Some o ≡ Some object → o ≡ object
    same e = cc

  -- where there is a row
  pub there_made : (o : Over) (object to : ℕ) (given : List Given) (links : List Relation) (v : Value) (things mid end : List Thing) →
      object_there schema paths o object ≡ Some to → given ≡ (out-Over o).cells → (links, mid) ≡ overs_made schema paths (out-Over o).over to things → (v, end) ≡ over_record schema paths given links to mid →
      let made : Relation × List Thing = (record { field = (out-Over o).field; value = v }, end) in made ≡ over_made schema paths o object things
  there_made o object to given links v things mid end is cells over made =
      ap put (made ∙ ap (λ g. over_record schema paths g links to mid) cells ∙ ap (λ p. and_then p (λ ls rest. over_record schema paths (out-Over o).cells ls to rest)) (over ∙ ap (λ ms. all_made ms things) (sym (map-map (λ (l : Leads schema paths). l to) (over_made schema paths) (out-Over o).over))) ∙ sym (led (object_leads (slice_get schema.objects object) (out-Over o).field) (slice_index_or paths (out-Over o).id Null) (out-Over o).cells (map (over_made schema paths) (out-Over o).over) to things is))
      ∙ sym (ap (λ f. f object things) (fold_out-Over (Leads schema paths) (over_step schema paths) o)) where
        put : Value × List Thing → Relation × List Thing
        put p = and_then p (λ w rest. (record { field = (out-Over o).field; value = w }, rest))
