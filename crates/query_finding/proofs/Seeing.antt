-- Which rows are kept, and which are seen.
use Rattle.std.proofs.Common.{◌≡◌, refl, sym, ap, subst, ◌∙◌, ℕ, Bool, true, false, List, [], ◌∷◌, Option, None}
use Rattle.std.specs.Prelude.{Result, IfOk, filter}
use Rattle.apex_schema.specs.declared.schema.Schema.{Schema}
use Rattle.apex_rows.specs.declared.query.Bind.{Bind}
use Rattle.apex_rows.specs.declared.query.Query.{Query}
use Rattle.apex_rows.specs.declared.query.Query.TheViews.{out-Query}
use Rattle.apex_rows.specs.declared.query.Answer.{Answer}
use Rattle.apex_rows.specs.declared.row.Row.{Row}
use Rattle.row_meaning.specs.Accesses.{access}
use Rattle.row_meaning.specs.Conds.{holds}
use Rattle.row_meaning.specs.Overlays.{Overlay}
use Rattle.row_meaning.specs.Queries.{is_visible, path_value}
use Rattle.row_access.specs.Views.{View, access_of}
use Rattle.save_meaning.specs.Sites.{Site}
use Rattle.query_meaning.specs.Queries.{shown_by}
use Rattle.query_rows.specs.Read.{Read, value_of}
use Rattle.answer_replay.specs.declared.answers.Comes.{Comes}
use Rattle.answer_replay.specs.declared.answers.Comes.TheVariants as C
use Rattle.answer_replay.specs.Playing.{Plays}
use Rattle.answer_replay.proofs.Composing.{finds}
use Rattle.query_finding.specs.Steps.{kept, looked_at, test_of}
use Rattle.query_finding.proofs.Lists.{filter_all, filter_filter}

-- ---- which rows are kept

pub all_pass : (under : Option ℕ) (ids : List (List ℕ)) (rows : List Row) → under ≡ None → rows ≡ filter (test_of under ids) rows
all_pass under ids rows e = sym (filter_all rows) ∙ ap (λ (u : Option ℕ). filter (test_of u ids) rows) (sym e)

pub keeps : (schema : Schema) (binds : List Bind) (q : Query) (test : Row → Bool) (read : Read) (known rows tested left : List Row) → read ≡ record { schema = schema; known = known } →
    tested ≡ filter test rows → left ≡ filter (λ (r : Row). holds binds (value_of read r) (out-Query q).cond) tested → left ≡ kept schema binds q test rows known
keeps schema binds q test read known rows tested left e t l =
    l ∙ ap (λ (x : Read). filter (λ (r : Row). holds binds (value_of x r) (out-Query q).cond) tested) e ∙ ap (filter (λ (r : Row). holds binds (path_value schema known r) (out-Query q).cond)) t
    ∙ filter_filter (λ (r : Row). holds binds (path_value schema known r) (out-Query q).cond) test rows

-- ---- sharing

-- what was looked up for a user is what the schema and the shares say
pub sees : (schema : Schema) (user : ℕ) (shares rows left : List Row) (v : View) → v ≡ record { schema = schema; user = user; shares = shares } →
    left ≡ filter (λ (r : Row). is_visible (access_of v r)) rows → left ≡ filter (λ (r : Row). is_visible (access schema user r shares)) rows
sees schema user shares rows left v e l = l ∙ ap (λ (x : View). filter (λ (r : Row). is_visible (access_of x r)) rows) e

module _ (site : Site) (overlay : Overlay) (hidden : Bool) (rows : List Row) (before : List Answer) where
  -- nothing is hidden
  pub open_to_all : hidden ≡ false → Plays (shown_by site overlay hidden rows) before (C.Found rows) before
  open_to_all e = subst (λ (b : Bool). Plays (shown_by site overlay b rows) before (C.Found rows) before) (sym e) (finds rows before)

  -- some are there, and hidden from others
  pub some_hidden : {E : Type 0} (r : Result (Comes (List Row)) E) (after : List Answer) → hidden ≡ true → (rows ≡ [] → ⊥) → IfOk r (λ x. Plays (looked_at site overlay rows) before x after) →
      IfOk r (λ x. Plays (shown_by site overlay hidden rows) before x after)
  some_hidden {E} r after e some h = subst (λ (b : Bool). IfOk r (λ x. Plays (shown_by site overlay b rows) before x after)) (sym e) (by rows some h) where
    by : (rs : List Row) → (rs ≡ [] → ⊥) → IfOk r (λ x. Plays (looked_at site overlay rs) before x after) → IfOk r (λ x. Plays (shown_by site overlay true rs) before x after)
    by [] none h = absurd (none refl)
    by (row ∷ rs) none h = h
