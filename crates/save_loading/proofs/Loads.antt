-- Records that are loaded.
use Rattle.std.proofs.Common.{◌≡◌, refl, sym, ap, subst, ◌∙◌, Bool, true, false, not, List, [], ◌∷◌, ◌++◌, Option, append_assoc}
use Rattle.std.specs.Prelude.{Result, IfOk}
use Rattle.platform_errors.specs.declared.record.RecordError.{RecordError}
use Rattle.platform_errors.specs.declared.record.RecordError.TheVariants as Error
use Rattle.apex_schema.specs.declared.schema.Access.{Access}
use Rattle.apex_rows.specs.declared.row.Row.{Row}
use Rattle.row_access.specs.Views.{View, access_of}
use Rattle.save_meaning.specs.Sites.{Site}
use Rattle.save_meaning.specs.Drafts.{when}
use Rattle.save_statements.specs.declared.pending.Pending.{Pending}
use Rattle.save_statements.specs.declared.pending.Record.{Record}
use Rattle.save_statements.specs.declared.pending.Record.TheVariants.{Going, Wrong}
use Rattle.save_statements.specs.Records.{judged, judged_by}
use Rattle.save_statements.specs.Loading.{is_edit, no_access}
use Rattle.save_loading.specs.Steps.{denied, judged_one}

-- ---- records that are looked at

judged_cons : (test : Pending → Option RecordError) (d : Record) (ds : List Record) → judged test (d ∷ ds) ≡ judged_one test d ∷ judged test ds
judged_cons test (Going p) ds = refl
judged_cons test (Wrong e) ds = refl

-- one record more
pub judged_more : (test : Pending → Option RecordError) (old new whole rest left : List Record) (d e : Record) → rest ≡ d ∷ left → e ≡ judged_one test d → new ≡ old ++ e ∷ [] →
    old ++ judged test rest ≡ whole → new ++ judged test left ≡ whole
judged_more test old new whole rest left d e s is more h =
    ap (λ xs. xs ++ judged test left) more ∙ append_assoc old (e ∷ []) (judged test left) ∙ ap (λ x. old ++ x ∷ judged test left) is
    ∙ ap (λ xs. old ++ xs) (sym (judged_cons test d left)) ∙ ap (λ ds. old ++ judged test ds) (sym s) ∙ h

-- ---- who may change a row

module _ (v : View) (d : Record) (p q : Pending) (level : Access) (b : Bool) (is : d ≡ Going p) (same : q ≡ p) (of : level ≡ access_of v q.row) (test : b ≡ is_edit level) where
  edits : is_edit (access_of v p.row) ≡ b
  edits = ap (λ (x : Pending). is_edit (access_of v x.row)) (sym same) ∙ ap is_edit (sym of) ∙ sym test

  pub may_change : b ≡ true → Going p ≡ judged_one (denied v) d
  may_change h = ap (λ t. judged_by p (when (not t) Error.NoAccess)) (sym (edits ∙ h)) ∙ ap (judged_one (denied v)) (sym is)

  pub may_not : b ≡ false → Wrong Error.NoAccess ≡ judged_one (denied v) d
  may_not h = ap (λ t. judged_by p (when (not t) Error.NoAccess)) (sym (edits ∙ h)) ∙ ap (judged_one (denied v)) (sym is)

-- a user who looks at rows with these shares is the one who saves
pub admits_all : {E : Type 0} (r : Result (List Record) E) (site : Site) (v : View) (s shares : List Row) (rs : List Record) → v ≡ record { schema = site.schema; user = site.ticket.user; shares = s } → s ≡ shares →
    IfOk r (λ a. a ≡ judged (denied v) rs) → IfOk r (λ a. a ≡ judged (no_access site shares) rs)
admits_all r site v s shares rs e is h =
    subst (λ (x : List Row). IfOk r (λ a. a ≡ judged (no_access site x) rs)) is (subst (λ (x : View). IfOk r (λ a. a ≡ judged (denied x) rs)) e h)
