-- What a save works on, and how it asks and charges (docs/platform.md, "Saves").
use Rattle.std.specs.Prelude.{◌≡◌, ℕ, ◌+◌, Bool, true, false, List, [], ◌∷◌}
use Rattle.apex_num.specs.declared.kind.LimitKind.{LimitKind}
use Rattle.limit_meter.specs.Charges.{Entry, Charged, Left, limit_of, fits}
use Rattle.apex_rows.specs.declared.query.Question.{Question}
use Rattle.apex_rows.specs.declared.query.Answer.{Answer}
use Rattle.row_meaning.specs.Overlays.{Overlay}
use Rattle.save_meaning.specs.Results.{Halts, Needs, Closes, Res, Gives, Stops}

-- the part of a request's state that a save sees: what was changed, how many Ids were made, what was charged, newest first,
-- and the answers that are left
pub record Txn : Type 0 where
  pub overlay : Overlay
  pub minted : ℕ
  pub charges : List Entry
  pub tape : List Answer

-- where a request's state keeps this part
pub record Keeps (S : Type 0) : Type 0 where
  pub txn : S → Txn
  pub with_txn : Txn → S → S

-- it keeps what is put there, what is put later stands in its place, and what is there may be put there
pub record IsKept {S : Type 0} (keeps : Keeps S) : Type 0 where
  pub same : (t : Txn) (s : S) → keeps.txn (keeps.with_txn t s) ≡ t
  pub twice : (t u : Txn) (s : S) → keeps.with_txn t (keeps.with_txn u s) ≡ keeps.with_txn t s
  pub itself : (s : S) → keeps.with_txn (keeps.txn s) s ≡ s

module _ {S : Type 0} (keeps : Keeps S) where
  abbrev pub charge_if : {E : Type 0} → Bool → LimitKind → ℕ → S → Res S E (Unit {0})
  charge_if true k n s = Gives tt (keeps.with_txn (record (keeps.txn s) { charges = Charged k n ∷ (keeps.txn s).charges }) s)
  charge_if false k n s = Stops (Closes (Halts k (limit_of k + 1))) s

  -- a charge is added where it fits; otherwise the request halts, and nothing was charged
  abbrev pub charge : {E : Type 0} → LimitKind → ℕ → S → Res S E (Unit {0})
  charge k n s = charge_if (fits k n (keeps.txn s).charges) k n s

  -- a call, a construction or a firing that was charged is left
  abbrev pub left : LimitKind → S → S
  left k s = keeps.with_txn (record (keeps.txn s) { charges = Left k ∷ (keeps.txn s).charges }) s

  abbrev pub answered : {E : Type 0} → Question → List Answer → S → Res S E Answer
  answered q [] s = Stops (Closes (Needs q)) s
  answered q (a ∷ more) s = Gives a (keeps.with_txn (record (keeps.txn s) { tape = more }) s)

  -- the next answer that is left
  abbrev pub ask : {E : Type 0} → Question → S → Res S E Answer
  ask q s = answered q (keeps.txn s).tape s

  abbrev pub set_overlay : Overlay → S → S
  set_overlay v s = keeps.with_txn (record (keeps.txn s) { overlay = v }) s
