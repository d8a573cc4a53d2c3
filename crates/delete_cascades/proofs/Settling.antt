-- Records of a delete, one by one.
use Rattle.std.proofs.Common.{◌≡◌, ℕ, Bool, List, [], ◌∷◌, ◌++◌, map, refl, ap, ◌∙◌}
use Rattle.std.specs.List.{list_any}
use Rattle.platform_errors.specs.declared.record.RecordError.TheVariants as Error
use Rattle.apex_rows.specs.declared.row.Row.{Row}
use Rattle.row_meaning.specs.Stores.{has_id}
use Rattle.save_meaning.specs.Drafts.{when}
use Rattle.save_meaning.specs.Inserts.{ids_of}
use Rattle.save_statements.specs.declared.pending.Naming.{Naming}
use Rattle.save_statements.specs.declared.pending.Pending.{Pending}
use Rattle.save_statements.specs.declared.pending.Record.{Record}
use Rattle.save_statements.specs.declared.pending.Record.TheVariants.{Going, Wrong}
use Rattle.save_statements.specs.Records.{changed_to, going, judged, judged_by, rows_of}
use Rattle.save_statements.specs.Checks.{joined, referenced, with_under}
use Rattle.delete_cascades.specs.Layers.{Layer, layers_of}
use Rattle.delete_cascades.specs.Held.{held_by, settled_one, settled_record}
use Rattle.delete_cascades.proofs.Stays.{held_any}
use Rattle.delete_cascades.proofs.Under.{all_below_is}

module _ (masters : List Naming) (levels : List (List Row)) (found : List (Naming × List Row)) (gone : List (List ℕ)) (goes held : List ℕ → Bool)
    (same : (id : List ℕ) → goes id ≡ has_id gone id) (is : (id : List ℕ) → held id ≡ held_by goes found id) where
  one_is : (p : Pending) → settled_one (layers_of masters levels) held p ≡ judged_by (with_under masters levels p) (referenced found gone (with_under masters levels p))
  one_is p =
      ap (λ (under : List (List ℕ)). judged_by (record p { under = under }) (when (list_any held under) Error.Referenced)) (all_below_is masters levels (p.row.id ∷ []))
      ∙ ap (λ b. judged_by (with_under masters levels p) (when b Error.Referenced)) (held_any goes held gone found same is (with_under masters levels p).under)

  pub settled_is : (rs : List Record) → map (settled_record (layers_of masters levels) held) rs ≡ judged (referenced found gone) (changed_to (with_under masters levels) rs)
  settled_is [] = refl
  settled_is (Going p ∷ rs) =
      ap (λ (r : Record). r ∷ map (settled_record (layers_of masters levels) held) rs) (one_is p)
      ∙ ap (λ (more : List Record). judged_by (with_under masters levels p) (referenced found gone (with_under masters levels p)) ∷ more) (settled_is rs)
  settled_is (Wrong e ∷ rs) = ap (λ (more : List Record). Wrong e ∷ more) (settled_is rs)

-- with what the walks over the lists gave
pub all_settled : (masters : List Naming) (levels levels2 : List (List Row)) (found : List (Naming × List Row)) (records records2 out : List Record) (goes held : List ℕ → Bool) (layers layers2 : List Layer) →
    records2 ≡ records → levels2 ≡ levels → ((id : List ℕ) → goes id ≡ has_id (ids_of (rows_of (going records2) ++ joined levels2)) id) → ((id : List ℕ) → held id ≡ held_by goes found id) →
    layers ≡ layers_of masters levels → layers2 ≡ layers → out ≡ map (settled_record layers2 held) records →
    out ≡ judged (referenced found (ids_of (rows_of (going records) ++ joined levels))) (changed_to (with_under masters levels) records)
all_settled masters levels levels2 found records records2 out goes held layers layers2 r l same is e f o =
    o
    ∙ ap (λ (ls : List Layer). map (settled_record ls held) records) (f ∙ e)
    ∙ settled_is masters levels found (ids_of (rows_of (going records) ++ joined levels)) goes held
    (λ id. same id
    ∙ ap (λ (rs : List Record). has_id (ids_of (rows_of (going rs) ++ joined levels2)) id) r
    ∙ ap (λ (ls : List (List Row)). has_id (ids_of (rows_of (going records) ++ joined ls)) id) l)
    is records
