-- What is counted on in the state of a request.
use Rattle.std.specs.Prelude.{◌≡◌, ◌≤◌, ◌*◌, length}
use Rattle.apex_num.specs.declared.kind.LimitKind.TheVariants.{Alloc}
use Rattle.limit_meter.specs.Charges.{count_of}
use Rattle.save_meaning.specs.declared.run.TxnState.{TxnState}

-- each row that the request made was paid for, with 64 units at the least
pub record IsPaid (w : TxnState) : Type 0 where
  pub eight : length w.meter ≡ 8
  pub minted : 64 * w.minted ≤ count_of w.meter Alloc
