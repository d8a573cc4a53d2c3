-- The rows under rows, subquery by subquery.
use Rattle.std.proofs.Common.{◌≡◌, refl, sym, subst, ℕ, ◌+◌, ◌<◌, ◌≤◌, List, [], ◌∷◌, ◌++◌, length, drop, get_or, append-nil, Some}
use Rattle.std.specs.Prelude.{Result, IfOk}
use Rattle.apex_schema.specs.declared.schema.Mode.{Mode}
use Rattle.apex_rows.specs.declared.query.Bind.{Bind}
use Rattle.apex_rows.specs.declared.query.Query.TheViews.{out-SubQuery}
use Rattle.apex_rows.specs.declared.query.SubQuery.{SubQuery}
use Rattle.apex_rows.specs.declared.query.Question.{Question}
use Rattle.apex_rows.specs.declared.query.Answer.{Answer}
use Rattle.apex_rows.specs.declared.row.Child.{Child}
use Rattle.apex_rows.specs.declared.row.Row.{Row}
use Rattle.apex_schema.specs.declared.schema.Schema.{Schema}
use Rattle.row_meaning.specs.Overlays.{Overlay}
use Rattle.save_meaning.specs.Sites.{Site}
use Rattle.store_inquiries.specs.Inquiries.{Found as Done, and_then}
use Rattle.query_meaning.specs.Queries.{Gathered, gather, read_all_under, read_under}
use Rattle.answer_replay.specs.declared.answers.Comes.{Comes}
use Rattle.answer_replay.specs.declared.answers.Comes.TheVariants as C
use Rattle.answer_replay.specs.Playing.{Plays}
use Rattle.query_rows.specs.Cuts.{children_of}
use Rattle.query_rows.specs.Families.{Rows, family}
use Rattle.query_rows.specs.Read.{Read}
use Rattle.query_finding.specs.Steps.{further_of, test_of, under_row}
use Rattle.query_finding.proofs.Lists.{here, past}
use Rattle.query_finding.proofs.Chaining.{GoesOn, begins, ends, goes_further, stops}

-- ---- under one row

abbrev with_known : List Row → List Row → Gathered
with_known known rows = record { rows = rows; known = known }

pub children_are : {E : Type 0} (r : Result (List Child) E) (schema : Schema) (binds : List Bind) (row : Row) (sub : SubQuery) (rows : Rows) (known : List Row) (read : Read) (u : SubQuery × Gathered) →
    read ≡ record { schema = schema; known = known } → rows.lookup ≡ (out-SubQuery sub).lookup → u ≡ (sub, with_known known rows.rows) →
    IfOk r (λ cs. cs ≡ children_of read binds (out-SubQuery sub).query (family rows.lookup rows.rows row.id)) → IfOk r (λ cs. cs ≡ under_row schema binds row u)
children_are r schema binds row sub rows known read u e l v h =
    subst (λ (x : SubQuery × Gathered). IfOk r (λ cs. cs ≡ under_row schema binds row x)) (sym v)
    (subst (λ (n : ℕ). IfOk r (λ cs. cs ≡ children_of (record { schema = schema; known = known }) binds (out-SubQuery sub).query (family n rows.rows row.id))) l
    (subst (λ (x : Read). IfOk r (λ cs. cs ≡ children_of x binds (out-SubQuery sub).query (family rows.lookup rows.rows row.id))) e h))

module _ (site : Site) (overlay : Overlay) (mode : Mode) (binds : List Bind) where
  -- ---- one subquery

  module _ (sub : SubQuery) (ids : List (List ℕ)) (before : List Answer) where
    -- there are rows above
    pub some_above : {E : Type 0} (r : Result (Comes Gathered) E) (after : List Answer) → (ids ≡ [] → ⊥) →
        IfOk r (λ x. Plays (gather site overlay mode binds (out-SubQuery sub).query (further_of (Some (out-SubQuery sub).lookup) ids) (test_of (Some (out-SubQuery sub).lookup) ids)) before x after) →
        IfOk r (λ x. Plays (read_under site overlay mode binds sub ids) before x after)
    some_above {E} r after some h = by ids some h where
      by : (is : List (List ℕ)) → (is ≡ [] → ⊥) →
          IfOk r (λ x. Plays (gather site overlay mode binds (out-SubQuery sub).query (further_of (Some (out-SubQuery sub).lookup) is) (test_of (Some (out-SubQuery sub).lookup) is)) before x after) →
          IfOk r (λ x. Plays (read_under site overlay mode binds sub is) before x after)
      by [] some h = absurd (some refl)
      by (i ∷ is) some h = h

  -- ---- all of them

  module _ (subs : List SubQuery) (ids : List (List ℕ)) (before : List Answer) where
    -- these subqueries are left, behind what the others found
    abbrev pub FindsOn : List SubQuery → List (SubQuery × Gathered) → List Answer → Type 0
    FindsOn rest all now = GoesOn (read_all_under site overlay mode binds subs ids) before (read_all_under site overlay mode binds rest ids) now all

    pub finds_begin : (all : List (SubQuery × Gathered)) → all ≡ [] → FindsOn subs all before
    finds_begin all e = subst (λ (x : List (SubQuery × Gathered)). FindsOn subs x before) (sym e) (begins (read_all_under site overlay mode binds subs ids) before)

    module _ (i : ℕ) (all : List (SubQuery × Gathered)) (now : List Answer) (h : FindsOn (drop i subs) all now) where
      pub finds_end : length subs ≤ i → Plays (read_all_under site overlay mode binds subs ids) before (C.Found all) now
      finds_end le =
          ends (read_all_under site overlay mode binds subs ids) before now all all (subst (λ (ss : List SubQuery). FindsOn ss all now) (past i subs le) h) (append-nil all)

      module _ (sub : SubQuery) (lt : i < length subs) (is : sub ≡ get_or subs i sub) (comes : Comes Gathered) (later : List Answer) (p : Plays (read_under site overlay mode binds sub ids) now comes later) where
        turn : FindsOn (sub ∷ drop (i + 1) subs) all now
        turn = subst (λ (ss : List SubQuery). FindsOn ss all now) (here i subs sub lt is) h

        pub sub_wants : (q : Question) → comes ≡ C.Wants q → Plays (read_all_under site overlay mode binds subs ids) before (C.Wants q) later
        sub_wants q e =
            stops (read_all_under site overlay mode binds subs ids) before now all (read_under site overlay mode binds sub ids)
            (λ (found : Gathered). and_then (read_all_under site overlay mode binds (drop (i + 1) subs) ids) (λ more. Done ((sub, found) ∷ more))) q later comes turn e p

        pub sub_found : (found : Gathered) (new : List (SubQuery × Gathered)) → comes ≡ C.Found found → new ≡ all ++ (sub, found) ∷ [] → FindsOn (drop (i + 1) subs) new later
        sub_found found new e n =
            subst (λ (x : List (SubQuery × Gathered)). FindsOn (drop (i + 1) subs) x later) (sym n)
            (goes_further (read_all_under site overlay mode binds subs ids) before now all (read_under site overlay mode binds sub ids) (λ (found : Gathered). (sub, found))
            (λ (found : Gathered). read_all_under site overlay mode binds (drop (i + 1) subs) ids) found later comes turn e p)
