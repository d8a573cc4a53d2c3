-- A query charges, and changes nothing else.
use Rattle.std.proofs.Common.{◌≡◌, ℕ, ◌+◌, Bool, true, false, List, [], ◌∷◌, length, refl, ◌∙◌, arith}
use Rattle.std.specs.Prelude.{leb}
use Rattle.apex_num.specs.declared.kind.LimitKind.{LimitKind}
use Rattle.apex_num.specs.declared.kind.LimitKind.TheVariants.{Alloc, Queries, Rows}
use Rattle.apex_rows.specs.declared.query.Answer.{Answer}
use Rattle.apex_rows.specs.declared.query.Query.TheViews.{out-Query}
use Rattle.apex_rows.specs.declared.row.Row.{Row}
use Rattle.limit_meter.specs.Charges.{count_of, limit_of}
use Rattle.query_meaning.specs.Queries.{all_numbers, finding, holding, rows_in, units_of}
use Rattle.query_moves.specs.Moves.{Move, Goes, Asks, Ends, Throws, Halts, begun, came, charged, charged_if, charged_rows, held, move_in}
use Rattle.query_moves.specs.declared.run.QueryRun.{QueryRun}
use Rattle.query_moves.specs.declared.run.QueryStage.{QueryStage}
use Rattle.query_moves.specs.declared.run.QueryStage.TheVariants as S
use Rattle.save_meaning.specs.Sites.{Site}
use Rattle.save_meaning.specs.declared.run.TxnState.{TxnState}
use Rattle.save_measures.specs.Paid.{IsPaid}
use Rattle.store_inquiries.specs.Inquiries.{Inquiry, Found as Done, Asked, replayed}
use Rattle.program_weights.proofs.Saves.{More, more_charged, more_more, more_same}

-- no less is charged, and nothing else changed
pub record Only (w v : TxnState) : Type 0 where
  pub more : More w v
  pub minted : v.minted ≡ w.minted
  pub overlay : v.overlay ≡ w.overlay

only_same : (w : TxnState) → length w.meter ≡ 8 → Only w w
only_same w e = record { more = more_same w e; minted = refl; overlay = refl }

only_more : (u v w : TxnState) → Only u v → Only v w → Only u w
only_more u v w g h = record { more = more_more u v w g.more h.more; minted = h.minted ∙ g.minted; overlay = h.overlay ∙ g.overlay }

-- so what was paid for is
pub only_paid : (w v : TxnState) → IsPaid w → Only w v → IsPaid v
only_paid w v p h =
    let m = h.minted in
    let n = p.minted in
    let a = h.more.alloc in record { eight = h.more.eight; minted = omega arith }

-- where the query goes on, ends or throws, it only charged
abbrev pub Charged : TxnState → Move → Type 0
Charged w (Goes r v) = Only w v
Charged w (Asks q) = Unit {0}
Charged w (Ends answer v) = Only w v
Charged w (Throws t v) = Only w v
Charged w (Halts k n v) = Unit {0}

-- behind what is charged already
charged_on : (w v : TxnState) (m : Move) → Only w v → Charged v m → Charged w m
charged_on w v (Goes r u) g h = only_more w v u g h
charged_on w v (Asks q) g h = tt
charged_on w v (Ends answer u) g h = only_more w v u g h
charged_on w v (Throws t u) g h = only_more w v u g h
charged_on w v (Halts k n u) g h = tt

charged_more : (k : LimitKind) (n : ℕ) (w : TxnState) (go : TxnState → Move) → length w.meter ≡ 8 → ((v : TxnState) → length v.meter ≡ 8 → Charged v (go v)) → Charged w (charged k n w go)
charged_more k n w go e h = by_room (leb (count_of w.meter k + n) (limit_of k))
  where
    by_room : (b : Bool) → Charged w (charged_if b k n w go)
    by_room true =
        let g = more_charged k n w e in
        charged_on w _ (go _) (record { more = g; minted = refl; overlay = refl }) (h _ g.eight)
    by_room false = tt

begun_more : (b : Bool) (run : QueryRun) (w : TxnState) → length w.meter ≡ 8 → Charged w (begun b run w)
begun_more false run w e = only_same w e
begun_more true run w e = charged_more Queries 1 w _ e (λ v g. only_same v g)

-- what is found, or the next question
replayed_more : {A : Type 0} (go : A → Move) (i : Inquiry A) (answers : List Answer) (w : TxnState) → ((a : A) → Charged w (go a)) → Charged w (replayed go Asks i answers)
replayed_more go (Done a) answers w h = h a
replayed_more go (Asked q next) [] w h = tt
replayed_more go (Asked q next) (a ∷ answers) w h = replayed_more go (next a) answers w h

module _ (site : Site) where
  rows_more : (counted : Bool) (rows : List Row) (w : TxnState) (go : TxnState → Move) → length w.meter ≡ 8 → ((v : TxnState) → length v.meter ≡ 8 → Charged v (go v)) → Charged w (charged_rows site counted rows w go)
  rows_more true rows w go e h = charged_more Rows 1 w go e h
  rows_more false rows w go e h = charged_more Rows (length rows) w _ e (λ v g. charged_more Alloc (units_of site.schema rows) v go g h)

  -- ---- the moves

  pub move_more : (stage : QueryStage) (run : QueryRun) (w : TxnState) → length w.meter ≡ 8 → Charged w (move_in site stage run w)
  move_more S.Begin run w e = begun_more (all_numbers run.binds run.query) run w e
  move_more (S.Find answers) run w e =
      replayed_more (came site run w) (finding site w.overlay.now run.mode run.binds run.query) answers w (λ found.
      rows_more (out-Query run.query).counted (rows_in found) w _ e (λ v g. only_same v g))
  move_more (S.Hold found answers) run w e = replayed_more (held site run w found) (holding site.ticket (out-Query run.query).locked found) answers w (λ u. only_same w e)
