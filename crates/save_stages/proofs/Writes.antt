-- The writes of records, whatever triggers there are.
use Rattle.std.proofs.Common.{◌≡◌, ℕ, zero, suc, List, [], ◌∷◌, Some, refl, sym, ap, ◌∙◌, subst}
use Rattle.std.specs.Prelude.{slice_get}
use Rattle.apex_schema.specs.declared.schema.Object.{Object}
use Rattle.apex_schema.specs.declared.schema.Schema.{Schema}
use Rattle.apex_requests.specs.declared.request.Ticket.{Ticket}
use Rattle.record_ids.specs.Ids.{IsPrefix}
use Rattle.save_meaning.specs.Sites.{Site}
use Rattle.save_meaning.specs.declared.run.TxnState.{TxnState}
use Rattle.save_statements.specs.declared.pending.Act.{Act}
use Rattle.save_statements.specs.declared.pending.Act.TheVariants.{Inserting, Updating, Deleting}
use Rattle.save_statements.specs.declared.pending.Pending.{Pending}
use Rattle.save_statements.specs.declared.pending.Record.{Record}
use Rattle.save_statements.specs.declared.pending.Record.TheVariants.{Going, Wrong}
use Rattle.save_statements.specs.declared.run.SaveRun.{SaveRun}
use Rattle.save_statements.specs.declared.run.Stage.TheVariants as S
use Rattle.save_statements.specs.Moves.{at, with_object, write, write_one}
use Rattle.save_stages.specs.Does.{IsMove, Makes, Does, Triggers, no_triggers, site_of, AllPrefixed}
use Rattle.save_stages.specs.declared.moved.Moved.{Moved}

-- the prefix of an object of a schema whose objects have prefixes
pub prefix_at : (os : List Object) (n : ℕ) (o : Object) → AllPrefixed os → slice_get os n ≡ Some o → IsPrefix o.prefix
prefix_at [] n o h e = cc
prefix_at (x ∷ os) zero o h e = let s : x ≡ o = cc in subst (λ y. IsPrefix y.prefix) s h.0
prefix_at (x ∷ os) (suc n) o h e = prefix_at os n o h.1 e

module _ (site : Site) (triggers : Triggers) (o : Object) (run : SaveRun) (w : TxnState) where
  one_same : (act : Act) (p : Pending) (before rs : List Record) → write_one site no_triggers act p before rs o run w ≡ write_one site triggers act p before rs o run w
  one_same Inserting p before rs = refl
  one_same Updating p before rs = refl
  one_same Deleting p before rs = refl

  write_same : (before rs : List Record) → write site no_triggers before rs o run w ≡ write site triggers before rs o run w
  write_same before [] = refl
  write_same before (Wrong e ∷ rs) = refl
  write_same before (Going p ∷ rs) = one_same run.act p before rs

-- what is made of an object's records is what the statement does, whatever triggers there are
pub write_does : (schema : Schema) (ticket : Ticket) (o : Object) (before rs : List Record) (run : SaveRun) (w : TxnState) (m : Moved) (r : SaveRun) (v : TxnState) → slice_get schema.objects run.object ≡ Some o →
    Makes (write (site_of schema ticket) no_triggers before rs o) (at run (S.Write before rs)) w m r v → (triggers : Triggers) → Does schema ticket triggers (at run (S.Write before rs)) w m r v
write_does schema ticket o before rs run w m r v is h triggers =
    subst (λ next. IsMove (at run (S.Write before rs)) w next m r v)
    (write_same (site_of schema ticket) triggers o (at run (S.Write before rs)) w before rs
    ∙ sym (ap (λ x. with_object (site_of schema ticket) triggers x (λ o. write (site_of schema ticket) triggers before rs o (at run (S.Write before rs)) w) (at run (S.Write before rs)) w) is)) h
