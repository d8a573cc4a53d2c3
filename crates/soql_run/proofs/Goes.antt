-- From one move to where a query stops.
use Rattle.std.proofs.Common.{◌≡◌, ℕ, zero, suc, ◌+◌, ◌<◌, Bool, true, false, List, [], ◌∷◌, length, refl, sym, ap, ◌∙◌, subst, arith, get_or-set_same, get_or-set_other, length-set}
use Rattle.std.specs.Prelude.{leb}
use Rattle.apex_num.specs.declared.kind.LimitKind.{LimitKind}
use Rattle.apex_num.specs.declared.kind.LimitKind.TheVariants.{Queries, Rows, Alloc}
use Rattle.apex_rows.specs.declared.query.Answer.{Answer}
use Rattle.apex_rows.specs.declared.query.Query.TheViews.{out-Query}
use Rattle.apex_rows.specs.declared.row.Found.{Found}
use Rattle.apex_rows.specs.declared.row.Row.{Row}
use Rattle.limit_meter.specs.Charges.{limit_of, count_of, with_count}
use Rattle.query_meaning.specs.Queries.{all_numbers, finding, holding, rows_in, units_of}
use Rattle.query_moves.specs.Moves.{Move, Goes, Asks, Ends, Throws, Halts, at, begun, came, charged, charged_if, charged_rows, held, move, move_in}
use Rattle.query_moves.specs.declared.run.QueryRun.{QueryRun}
use Rattle.query_moves.specs.declared.run.QueryStage.{QueryStage}
use Rattle.query_moves.specs.declared.run.QueryStage.TheVariants as S
use Rattle.save_meaning.specs.Sites.{Site}
use Rattle.save_meaning.specs.declared.run.TxnState.{TxnState}
use Rattle.save_measures.specs.Paid.{IsPaid}
use Rattle.store_inquiries.specs.Inquiries.{Inquiry, Found as Done, Asked, replayed}
use Rattle.soql_run.specs.Advances.{IsMove, GoesOn, Advances}
use Rattle.soql_run.specs.Goings.{Gone, left}
use Rattle.soql_run.specs.declared.run.Stopped.{Stopped}
use Rattle.soql_run.specs.declared.run.Stopped.TheVariants as E

-- a query that is put back to its stage is as it was
pub at_stage : (run : QueryRun) (st : QueryStage) → st ≡ run.stage → at (at run S.Begin) st ≡ run
at_stage run st e = ap (λ s. at run s) e

-- ---- what a move leaves is paid for, and fewer may come behind one that goes on

abbrev with_charge : LimitKind → ℕ → TxnState → TxnState
with_charge k n w = record w { meter = with_count w.meter k (count_of w.meter k + n) }

paid_queries : (n : ℕ) (w : TxnState) → IsPaid w → IsPaid (with_charge Queries n w)
paid_queries n w p = let len = p.eight in let m = p.minted in let e = get_or-set_other w.meter 0 6 (count_of w.meter Queries + n) 0 (λ x. cc) in record { eight = length-set w.meter _ _ ∙ len; minted = omega arith }

paid_rows : (n : ℕ) (w : TxnState) → IsPaid w → IsPaid (with_charge Rows n w)
paid_rows n w p = let len = p.eight in let m = p.minted in let e = get_or-set_other w.meter 1 6 (count_of w.meter Rows + n) 0 (λ x. cc) in record { eight = length-set w.meter _ _ ∙ len; minted = omega arith }

paid_alloc : (n : ℕ) (w : TxnState) → IsPaid w → IsPaid (with_charge Alloc n w)
paid_alloc n w p = let len = p.eight in let m = p.minted in let e = get_or-set_same w.meter 6 (count_of w.meter Alloc + n) 0 (omega arith) in record { eight = length-set w.meter _ _ ∙ len; minted = omega arith }

-- so many moves at the most may come behind, and what is left is paid for
abbrev Leaves : ℕ → Move → Type 0
Leaves n (Goes r v) = (left r.stage < n) × IsPaid v
Leaves n (Asks q) = Unit {0}
Leaves n (Ends a v) = IsPaid v
Leaves n (Throws why v) = IsPaid v
Leaves n (Halts k m v) = IsPaid v

charged_leaves : (more : ℕ) (b : Bool) (k : LimitKind) (n : ℕ) (w : TxnState) (go : TxnState → Move) → IsPaid w → Leaves more (go (with_charge k n w)) → Leaves more (charged_if b k n w go)
charged_leaves more true k n w go p h = h
charged_leaves more false k n w go p h = p

begun_leaves : (b : Bool) (run : QueryRun) (w : TxnState) → IsPaid w → Leaves 2 (begun b run w)
begun_leaves false run w p = p
begun_leaves true run w p =
    charged_leaves 2 (leb (count_of w.meter Queries + 1) (limit_of Queries)) Queries 1 w (λ v. Goes (at run (S.Find [])) v) p (omega arith, paid_queries 1 w p)

module _ (site : Site) where
  rows_leave : (more : ℕ) (b : Bool) (rows : List Row) (w : TxnState) (go : TxnState → Move) → IsPaid w → ((v : TxnState) → IsPaid v → Leaves more (go v)) → Leaves more (charged_rows site b rows w go)
  rows_leave more true rows w go p h = charged_leaves more (leb (count_of w.meter Rows + 1) (limit_of Rows)) Rows 1 w go p (h (with_charge Rows 1 w) (paid_rows 1 w p))
  rows_leave more false rows w go p h =
      charged_leaves more (leb (count_of w.meter Rows + length rows) (limit_of Rows)) Rows (length rows) w (λ v. charged Alloc (units_of site.schema rows) v go) p
      (units (with_charge Rows (length rows) w) (paid_rows (length rows) w p)) where
        units : (u : TxnState) → IsPaid u → Leaves more (charged Alloc (units_of site.schema rows) u go)
        units u q = charged_leaves more (leb (count_of u.meter Alloc + units_of site.schema rows) (limit_of Alloc)) Alloc (units_of site.schema rows) u go q (h (with_charge Alloc (units_of site.schema rows) u) (paid_alloc (units_of site.schema rows) u q))

  replayed_leaves : {A : Type 0} → (more : ℕ) (go : A → Move) (i : Inquiry A) (answers : List Answer) → ((a : A) → Leaves more (go a)) → Leaves more (replayed go Asks i answers)
  replayed_leaves more go (Done a) answers h = h a
  replayed_leaves more go (Asked q next) [] h = tt
  replayed_leaves more go (Asked q next) (a ∷ answers) h = replayed_leaves more go (next a) answers h

  came_leaves : (run : QueryRun) (w : TxnState) → IsPaid w → (found : List Found) → Leaves 1 (came site run w found)
  came_leaves run w p found = rows_leave 1 (out-Query run.query).counted (rows_in found) w (λ v. Goes (at run (S.Hold found [])) v) p (λ v q. (omega arith, q))

  in_leaves : (stage : QueryStage) (run : QueryRun) (w : TxnState) → IsPaid w → Leaves (left stage) (move_in site stage run w)
  in_leaves S.Begin run w p = begun_leaves (all_numbers run.binds run.query) run w p
  in_leaves (S.Find answers) run w p = replayed_leaves 1 (came site run w) (finding site w.overlay.now run.mode run.binds run.query) answers (came_leaves run w p)
  in_leaves (S.Hold found answers) run w p = replayed_leaves 0 (held site run w found) (holding site.ticket (out-Query run.query).locked found) answers (λ u. p)

  leaves : (run : QueryRun) (w : TxnState) → IsPaid w → Leaves (left run.stage) (move site run w)
  leaves run w p = in_leaves run.stage run w p

  -- ---- one move more

  goes_more : (n : ℕ) (run : QueryRun) (w : TxnState) (mid : QueryRun) (u : TxnState) (last : QueryRun) (v : TxnState) → GoesOn site n run w mid u → move site mid u ≡ Goes last v → GoesOn site (suc n) run w last v
  goes_more zero run w mid u last v g e = (last, v, same g.0 g.1 ∙ e, (refl, refl)) where
    same : run ≡ mid → w ≡ u → move site run w ≡ move site mid u
    same a b = ap (λ r. move site r w) a ∙ ap (λ x. move site mid x) b
  goes_more (suc n) run w mid u last v g e = (g.0, g.1, g.2, goes_more n g.0 g.1 mid u last v g.3 e)

  pub gone_first : (run : QueryRun) (w : TxnState) → IsPaid w → Gone site run w run w
  gone_first run w p = record { moves = 0; goes = (refl, refl); paid = p }

  pub gone_more : (run : QueryRun) (w : TxnState) (mid : QueryRun) (u : TxnState) (last : QueryRun) (v : TxnState) → Gone site run w mid u → move site mid u ≡ Goes last v → Gone site run w last v
  gone_more run w mid u last v g d = let h = subst (Leaves (left mid.stage)) d (leaves mid u g.paid) in record {
    moves = suc g.moves;
    goes = goes_more g.moves run w mid u last v g.goes d;
    paid = h.1;
  }

  pub fewer : (run : QueryRun) (w : TxnState) (mid : QueryRun) (u : TxnState) (last : QueryRun) (v : TxnState) → Gone site run w mid u → move site mid u ≡ Goes last v → left last.stage < left mid.stage
  fewer run w mid u last v g d = let h = subst (Leaves (left mid.stage)) d (leaves mid u g.paid) in h.0

  -- what is paid where it stops
  paid_at : (s : Stopped) (run : QueryRun) (w : TxnState) (r : QueryRun) (v : TxnState) → IsPaid w → IsMove run w (move site run w) s r v → IsPaid v
  paid_at (E.Asked q) run w r v p d = subst IsPaid (sym d.2) p
  paid_at (E.Counted n) run w r v p d = subst (Leaves (left run.stage)) d (leaves run w p)
  paid_at (E.Found found) run w r v p d = subst (Leaves (left run.stage)) d (leaves run w p)
  paid_at (E.Threw why) run w r v p d = subst (Leaves (left run.stage)) d (leaves run w p)
  paid_at (E.Halted limit) run w r v p d = subst (Leaves (left run.stage)) d (leaves run w p)

  pub stops_at : (s : Stopped) (run : QueryRun) (w : TxnState) (last : QueryRun) (u : TxnState) (r : QueryRun) (v : TxnState) → Gone site run w last u → IsMove last u (move site last u) s r v → Advances site run w s r v
  stops_at s run w last u r v g d = record {
    moves = g.moves;
    last = last;
    before = u;
    goes = g.goes;
    stops = d;
    paid = paid_at s last u r v g.paid d;
  }
