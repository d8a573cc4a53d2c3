-- What is said of a move (docs/platform.md, "Saves").
use Rattle.std.specs.Prelude.{◌≡◌, ◌<◌, ℕ, suc, Bool, List, [], ◌∷◌, length, map, slice_get}
use Rattle.apex_num.specs.declared.kind.LimitKind.TheVariants.{Saved}
use Rattle.apex_schema.specs.declared.schema.Object.{Object}
use Rattle.apex_schema.specs.declared.schema.Schema.{Schema}
use Rattle.apex_requests.specs.declared.request.SaveRow.{SaveRow}
use Rattle.apex_requests.specs.declared.request.Ticket.{Ticket}
use Rattle.record_ids.specs.Ids.{IsPrefix, most}
use Rattle.save_meaning.specs.Inserts.{is_double, first_again}
use Rattle.save_meaning.specs.Sites.{Site}
use Rattle.save_meaning.specs.declared.run.TxnState.{TxnState}
use Rattle.save_statements.specs.declared.pending.Act.{Act}
use Rattle.save_statements.specs.declared.firing.Trigger.{Trigger}
use Rattle.save_statements.specs.declared.run.SaveRun.{SaveRun}
use Rattle.save_statements.specs.Moves.{Move, Goes, Asks, Fires, Ends, Throws, Halts, charged, without_double, begun, move}
use Rattle.save_stages.specs.declared.moved.Moved.{Moved}
use Rattle.save_stages.specs.declared.moved.Moved.TheVariants as M

-- from a run and a state, the next move, what was said of it, and the run and the state behind it; where it asks or fires, both
-- are as they were
abbrev pub IsMove : SaveRun → TxnState → Move → Moved → SaveRun → TxnState → Type 0
IsMove run w next M.Went r v = next ≡ Goes r v
IsMove run w next (M.Asked q) r v = (next ≡ Asks q) × (r ≡ run) × (v ≡ w)
IsMove run w next (M.Fired n c) r v = (next ≡ Fires n c) × (r ≡ run) × (v ≡ w)
IsMove run w next (M.Ended outcomes) r v = next ≡ Ends outcomes v
IsMove run w next (M.Threw why) r v = next ≡ Throws why v
IsMove run w next (M.Halted limit) r v = next ≡ Halts limit.kind limit.number v

-- it is what this makes of the run and the state
abbrev pub Makes : (SaveRun → TxnState → Move) → SaveRun → TxnState → Moved → SaveRun → TxnState → Type 0
Makes next run w m r v = IsMove run w (next run w) m r v

-- the triggers of an object for an act, before or behind the write
abbrev pub Triggers : Type 0
Triggers = ℕ → Act → Bool → List Trigger

-- no object has one
abbrev pub no_triggers : Triggers
no_triggers object act before = []

abbrev pub site_of : Schema → Ticket → Site
site_of schema ticket = record { schema = schema; ticket = ticket }

-- it is the move that a statement of this request makes, with these triggers
abbrev pub Does : Schema → Ticket → Triggers → SaveRun → TxnState → Moved → SaveRun → TxnState → Type 0
Does schema ticket triggers run w m r v = IsMove run w (move (site_of schema ticket) triggers run w) m r v

-- the records are charged and looked at, and the statement begins
abbrev pub counted : Schema → List SaveRow → SaveRun → TxnState → Move
counted schema rows run w =
    charged Saved (length rows) w (λ v.
    without_double (is_double (map (λ (r : SaveRow). r.key) rows)) (first_again [] (map (λ (r : SaveRow). r.id) rows)) v (begun (slice_get schema.objects run.object) rows run v))

-- ---- what moves count on

abbrev pub AllPrefixed : List Object → Type 0
AllPrefixed [] = Unit {0}
AllPrefixed (o ∷ os) = IsPrefix o.prefix × AllPrefixed os

-- each object has a prefix of three letters or digits, and users have Ids of their own
pub record IsSound (schema : Schema) : Type 0 where
  pub prefixes : AllPrefixed schema.objects
  pub users : length schema.users < most

-- the parts of Ids that a request makes have room in them
pub record HasIds (ticket : Ticket) : Type 0 where
  pub session : suc ticket.session < most
  pub request : ticket.index < most
  pub user : suc ticket.user < most
